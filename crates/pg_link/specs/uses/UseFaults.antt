-- Uses that resolve to nothing, each at its position.
use Rattle.std.specs.List.{All}
use Rattle.std.specs.Option.{IsSome}
use Rattle.std.specs.Prelude.{◌≡◌, ◌⊎◌, List, ◌∷◌, ◌++◌}
use Rattle.pg_syntax.specs.declared.tree as tree
use Rattle.pg_link.specs.declared.error.LinkError as errors
use Rattle.pg_link.specs.declared.error.LinkError.TheVariants as error
use Rattle.pg_link.specs.declared.error.Place as places
use Rattle.pg_link.specs.names.Files.{all_names, visible_names}
use Rattle.pg_link.specs.names.Names.{Text, Names}
use Rattle.pg_link.specs.names.Resolves.{Reference, NamesNoType}
use Rattle.pg_link.specs.names.Standing.{IsTwiceIn, NoneTwice, all_standings}
use Rattle.pg_link.specs.uses.Targets.{Resolution, all_declared, file_targets, target_in}
use Rattle.pg_link.specs.uses.Unresolved.{IsHidden, IsUnknown, NamesNoTarget}
use Rattle.pg_link.specs.uses.Uses.{Use, file_uses}
use Rattle.pg_link.specs.walk.Walk.{Entry, IsLinked, IsPlace, IsWhole, Refuses, World, outlines, path_of}

-- a use of the file that this holds of, at its position; all uses before it resolve
pub record IsAtUse (resolve : Resolution) (path text : Text) (file : tree.FileTree.FileTree)
    (place : places.Place) (P : Use → Type 0) : Type 0 where
  pub front : List Use
  pub u : Use
  pub back : List Use
  pub splits : file_uses file ≡ front ++ u ∷ back
  pub before : All (λ v. IsSome (resolve v)) front
  pub is_place : IsPlace place path text u.at
  pub holds : P u

-- A use is unknown, names what it may not name, or names what is declared in a file that isn't
-- visible: the first that doesn't resolve.
abbrev pub IsUseFault : Resolution → Names → Names → Text → Text → tree.FileTree.FileTree → errors.LinkError → Type 0
IsUseFault resolve visible all path text file (error.UnknownName place) =
    IsAtUse resolve path text file place (λ u. IsUnknown visible all u.scope u.name)
IsUseFault resolve visible all path text file (error.NotAType place) =
    IsAtUse resolve path text file place (NamesNoTarget visible)
IsUseFault resolve visible all path text file (error.NotImported place) =
    IsAtUse resolve path text file place (λ u. IsHidden visible all u.scope u.name)
IsUseFault resolve visible all path text file error.Memory = Unit {0}
IsUseFault resolve visible all path text file _ = ⊥

-- A use in one of the files is at fault: the first that doesn't resolve, in their order.
pub record IsUseFaultIn (files : List Entry) (e : errors.LinkError) : Type 0 where
  pub front : List Entry
  pub file : Entry
  pub back : List Entry
  pub splits : files ≡ front ++ file ∷ back
  pub before : All (λ f. All IsSome (file_targets files f)) front
  pub fault : IsUseFault (target_in (all_declared files) (visible_names (outlines files) (path_of file)))
      (visible_names (outlines files) (path_of file)) (all_names (outlines files))
      (path_of file) file.1.bytes.items file.1.tree e

-- a name of the files is declared twice, or, where none is, a use is at fault
abbrev pub IsNameFault : List Entry → errors.LinkError → Type 0
IsNameFault files e = (IsTwiceIn files e) ⊎ (NoneTwice (all_standings files) × IsUseFaultIn files e)

-- Each refusal comes only where what it names is there, at its position: on the way to the files of
-- the roots, or in these.
abbrev pub LinkRefuses : World → errors.LinkError → Type 0
LinkRefuses w e = (Refuses w e) ⊎ ((files : List Entry) × IsLinked w files × IsNameFault files e)

-- A name in a scope of the file of this path doesn't resolve; this is reported of the file as a whole.
abbrev pub IsNoName : Names → Names → List Text → Reference → Text → errors.LinkError → Type 0
IsNoName visible all scope name path (error.UnknownName place) = IsWhole place path × IsUnknown visible all scope name
IsNoName visible all scope name path (error.NotAType place) = IsWhole place path × NamesNoType visible scope name
IsNoName visible all scope name path (error.NotImported place) = IsWhole place path × IsHidden visible all scope name
IsNoName visible all scope name path error.Memory = Unit {0}
IsNoName visible all scope name path _ = ⊥
