-- What a side's source files declare or its descriptor set states, and what either is refused for.
use Rattle.std.specs.Prelude.{◌≡◌, ℕ, Bool, nat_eq, List, [], ◌∷◌, Option, Some, None, IsTrue, codes, if◌then◌else◌}
use Rattle.std.specs.List.{ends_with}
use Rattle.pg_check.specs.Declares.{Declares}
use Rattle.pg_check.specs.Errors.{IsRefused}
use Rattle.pg_check.specs.parts.Sources.{linked_sources}
use Rattle.pg_check.specs.declared.error.CheckError.{CheckError}
use Rattle.pg_check.specs.declared.error.CheckError.TheVariants as checks
use Rattle.pg_dyn.specs.declared.error.DynError.TheVariants as messages
use Rattle.pg_set.specs.stated.Reads.{fds_reads}
use Rattle.pg_fds.specs.refusals.Refused.{MayRefuseSet, NoneIsStated}
use Rattle.pg_set.specs.writing.Set.{fds}
use Rattle.pg_set.specs.writing.Written.{HasNoSet}
use Rattle.pg_fds.specs.declared.error.FdsError.{FdsError}
use Rattle.pg_fds.specs.declared.error.FdsError.TheVariants as sets
use Rattle.pg_link.specs.walk.FolderPath.{path_below}
use Rattle.pg_link.specs.Linked.{IsLinkedUp}
use Rattle.pg_link.specs.names.Names.{Text}
use Rattle.pg_link.specs.uses.UseFaults.{LinkRefuses}
use Rattle.pg_link.specs.walk.Walk.{Entry, IsLinked, IsReadFault, World}
use Rattle.pg_link.specs.declared.error.LinkError.{LinkError}
use Rattle.pg_link.specs.declared.error.LinkError.TheVariants as links
use Rattle.pg_link.specs.declared.uses.target.Target.{Target}
use Rattle.pg_gate.specs.Errors.{IsError}
use Rattle.pg_gate.specs.declared.error.Fault.{Fault}
use Rattle.pg_gate.specs.declared.error.Fault.TheVariants as faults
use Rattle.pg_gate.specs.declared.error.GateError.{GateError}
use Rattle.pg_lines.specs.declared.side.Side.{Side}
use Rattle.pg_schema.specs.declared.parts.Parts.{Parts}
use Rattle.pg_schema.specs.rules.Sound.{IsSound}

-- what a fault says, by what each kind of it would: of files that can't be linked, of a broken rule, and of a refused
-- set
abbrev pub IsFault : (LinkError → Type 0) → (CheckError → Type 0) → (FdsError → Type 0) → Fault → Type 0
IsFault link rule set (faults.Link error) = link error
IsFault link rule set (faults.Check error) = rule error
IsFault link rule set (faults.Set error) = set error
IsFault link rule set (faults.List error) = ⊥

-- ---- source files

-- no name in linked files is declared twice, but for parts of packages, and each use of one resolves
abbrev pub IsSettled : List Entry → Type 0
IsSettled files = (targets : List (List Target)) × IsLinkedUp (record { files = files; targets = targets })

-- The schema of source files: just what they declare, which keep to the rules of the language. The files are those of
-- the roots and of all that they import, with contents that the source may give.
pub record IsCompiled (w : World) (schema : Parts) : Type 0 where
  pub files : List Entry
  pub linked : IsLinked w files
  pub settled : IsSettled files
  pub declared : Declares (linked_sources files) schema

-- the files can't be linked for this reason, which isn't `Memory`
pub record IsLinkFault (w : World) (error : LinkError) : Type 0 where
  pub is_reported : error ≡ links.Memory → ⊥
  pub refuses : LinkRefuses w error

-- the files break this rule, and the error isn't `Memory`
pub record IsRuleFault (files : List Entry) (error : CheckError) : Type 0 where
  pub is_reported : error ≡ checks.Memory → ⊥
  pub refuses : IsRefused (linked_sources files) error

-- linked files break this rule
abbrev pub IsBrokenRule : World → CheckError → Type 0
IsBrokenRule w error = (files : List Entry) × IsLinked w files × IsSettled files × IsRuleFault files error

-- what is wrong with source files: they can't be linked, or those that are linked break a rule
abbrev pub IsFaultOf : World → Fault → Type 0
IsFaultOf w = IsFault (IsLinkFault w) (IsBrokenRule w) (λ error. ⊥)

-- a side ends out of memory, or in a fault
abbrev pub IsErrorOf : (Fault → Type 0) → Side → GateError → Type 0
IsErrorOf fault side = IsError ⊥ ⊥ ⊥ (λ of found. (of ≡ side) × fault found)

-- ---- descriptor sets

-- the bytes of a set state the schema, which keeps to the rules
pub record IsStated (bytes : Text) (schema : Parts) : Type 0 where
  pub states : fds_reads bytes schema
  pub sound : IsSound schema

-- The schema of the descriptor set at the path below the folder: bytes state it, which the source may give.
pub record IsRead (give : Text → Text → Bool) (folder path : Text) (schema : Parts) : Type 0 where
  pub bytes : Text
  pub given : IsTrue (give (path_below folder path) bytes)
  pub stated : IsStated bytes schema

-- the source may lack the set's file, or it failed
pub record IsNotGiven (lack : Text → Bool) (folder path : Text) (error : LinkError) : Type 0 where
  pub is_reported : error ≡ links.Memory → ⊥
  pub not_read : IsReadFault lack folder None path error

-- bytes are refused as a set for this reason, which isn't `Memory`, and state no schema where it is one that says so
pub record IsNoSet (bytes : Text) (error : FdsError) : Type 0 where
  pub is_reported : error ≡ sets.Memory → ⊥
  pub refuses : MayRefuseSet bytes error
  pub none_stated : NoneIsStated bytes error

-- such bytes are those that the source may give
pub record IsRefusedSet (give : Text → Text → Bool) (folder path : Text) (error : FdsError) : Type 0 where
  pub bytes : Text
  pub given : IsTrue (give (path_below folder path) bytes)
  pub is_none : IsNoSet bytes error

-- what is wrong with a set: its file isn't given, or its bytes are refused
abbrev pub IsFaultOfRead : (Text → Text → Bool) → (Text → Bool) → (folder path : Text) → Fault → Type 0
IsFaultOfRead give lack folder path =
    IsFault (IsNotGiven lack folder path) (λ error. ⊥) (IsRefusedSet give folder path)

-- ---- sides

-- a path with this ending is that of a source file, any other that of a set
abbrev pub is_source_file : Text → Bool
is_source_file path = ends_with nat_eq path (codes ".proto")

-- the path of the set that a side is, where its one path is that of a set; else the side is source files
abbrev pub set_at : List Text → Option Text
set_at [] = None
set_at (path ∷ []) = if is_source_file path then None else Some path
set_at (path ∷ other ∷ paths) = None

abbrev pub IsSideBy : Option Text → World → Parts → Type 0
IsSideBy (Some path) w schema = IsRead w.may_give w.folder path schema
IsSideBy None w schema = IsCompiled w schema

-- the schema of a side: what its set states, or its source files declare
abbrev pub IsSide : World → Parts → Type 0
IsSide w schema = IsSideBy (set_at w.roots) w schema

abbrev pub IsSideFaultBy : Option Text → World → Fault → Type 0
IsSideFaultBy (Some path) w fault = IsFaultOfRead w.may_give w.may_lack w.folder path fault
IsSideFaultBy None w fault = IsFaultOf w fault

-- what is wrong with a side: with its set, or with its source files
abbrev pub IsFaultOfSide : World → Fault → Type 0
IsFaultOfSide w fault = IsSideFaultBy (set_at w.roots) w fault

abbrev pub IsSideError : World → Side → GateError → Type 0
IsSideError w = IsErrorOf (IsFaultOfSide w)

-- ---- sets that are written

-- the bytes are the set of what the files declare
pub record IsSetOf (w : World) (bytes : List ℕ) : Type 0 where
  pub schema : Parts
  pub compiled : IsCompiled w schema
  pub set : fds schema bytes

-- what the files declare has no set that is as short as a message has to be
pub record IsUnwritten (w : World) (error : FdsError) : Type 0 where
  pub schema : Parts
  pub compiled : IsCompiled w schema
  pub is_reported : error ≡ sets.Bytes messages.TooLong
  pub has_none : HasNoSet schema

-- why no set is written of the files
abbrev pub IsFaultOfSet : World → Fault → Type 0
IsFaultOfSet w = IsFault (IsLinkFault w) (IsBrokenRule w) (IsUnwritten w)
