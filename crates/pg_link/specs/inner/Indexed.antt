-- How an index holds the names of files, and what is added to it.
use Rattle.std.specs.Global.{Global}
use Rattle.std.specs.HashMap.{HashMap, get_by_text}
use Rattle.std.specs.Option.{option_map}
use Rattle.std.specs.Prelude.{◌≡◌, ℕ, Bool, true, false, List, [], ◌∷◌, ◌++◌, ◌+◌, Option, Some, None, length, map, string_bytes, String}
use Rattle.pg_link.specs.declared.error.LinkError as errors
use Rattle.pg_link.specs.declared.error.LinkError.TheVariants as error
use Rattle.pg_link.specs.declared.names.index.Index as indexes
use Rattle.pg_link.specs.declared.names.Kind.{Kind}
use Rattle.pg_link.specs.declared.names.Kind.TheVariants.{Message, Enum}
use Rattle.pg_link.specs.declared.names.Named as nameds
use Rattle.pg_link.specs.declared.uses.target.Target.{Target}
use Rattle.pg_link.specs.declared.uses.target.Target.TheVariants as targets
use Rattle.pg_link.specs.names.Files.{Declared}
use Rattle.pg_link.specs.inner.Index.{files_of}
use Rattle.pg_link.specs.names.Names.{Text, without_dot}
use Rattle.pg_link.specs.names.Standing.{Standing, Bearer, bearer, MayStand, StandsTwice, NoneTwice, standing}
use Rattle.pg_link.specs.uses.Targets.{enum_names, message_names, numbered}
use Rattle.pg_link.specs.walk.Walk.{IsPlace}

abbrev pub kind_of : Option Bearer → Option Kind
kind_of = option_map (λ b. b.kind)

abbrev pub view : nameds.Named → Bearer
view n = record { kind = n.kind; at = n.at; files = files_of n }

-- an index holds just these names
abbrev pub Holds : {S : Type 0} → HashMap (String Global) nameds.Named S → List Standing → Type 0
Holds index all = (full : Text) → option_map view (get_by_text index full) ≡ bearer all full

-- what bears a name once this one is appended
abbrev pub added : Standing → Option Bearer → Bearer
added s None = record { kind = s.declared.kind; at = s.declared.at; files = s.file ∷ [] }
added s (Some b) = record { kind = b.kind; at = b.at; files = b.files ++ s.file ∷ [] }

abbrev pub one_if : Bool → ℕ
one_if true = 1
one_if false = 0

abbrev pub name_if : Bool → Text → List Text
name_if true name = name ∷ []
name_if false name = []

-- the number of the next that is declared as this
abbrev pub next_number : indexes.Index → Kind → ℕ
next_number index Message = length index.messages.items
next_number index Enum = length index.enums.items
next_number index _ = 0

abbrev pub target_by : Kind → ℕ → Option Target
target_by Message number = Some (targets.Message number)
target_by Enum number = Some (targets.Enum number)
target_by _ number = None

-- the target of a kind, where an enum may be used or may not
abbrev pub taken_by : Bool → Kind → ℕ → Option Target
taken_by takes_enums Message number = Some (targets.Message number)
taken_by true Enum number = Some (targets.Enum number)
taken_by _ _ number = None

-- what bears a name, as a target
abbrev pub target_of : nameds.Named → Option Target
target_of n = target_by n.kind n.number

abbrev pub declared_in : List Standing → List Declared
declared_in = map (λ s. s.declared)

-- Each message type and each enum has its number among all of its kind, and each number of an enum its name.
pub record IsNumbered (index : indexes.Index) (all : List Standing) : Type 0 where
  pub messages : length index.messages.items ≡ length (message_names (declared_in all))
  pub enums : map string_bytes index.enums.items ≡ map without_dot (enum_names (declared_in all))
  pub each : (full : Text) (n : nameds.Named) → get_by_text index.names full ≡ Some n
      → numbered (declared_in all) true full n.kind ≡ target_of n

-- an index holds just these names, numbered
abbrev pub Lists : indexes.Index → List Standing → Type 0
Lists index all = Holds index.names all × IsNumbered index all

-- the name was appended, or is declared twice
abbrev pub Adds : indexes.Index → indexes.Index → Standing → Bool → Type 0
Adds old new s true = (all : List Standing) → Lists old all → MayStand all s × Lists new (all ++ s ∷ [])
Adds old new s false = (all : List Standing) → Lists old all → StandsTwice all s

-- the names were appended, none twice
abbrev pub AddsAll : indexes.Index → indexes.Index → List Standing → Type 0
AddsAll old new more = (all : List Standing) → Lists old all
    → Lists new (all ++ more) × (NoneTwice all → NoneTwice (all ++ more))

-- one of the names is declared twice, the first that is, at this position in the file
abbrev pub IsTwice : indexes.Index → ℕ → Text → Text → List Standing → errors.LinkError → Type 0
IsTwice old number path text more (error.DuplicateName place) = (front back : List Standing) × (d : Declared)
    × (more ≡ front ++ standing number d ∷ back)
    × IsPlace place path text d.at
    × ((all : List Standing) → Lists old all
    → StandsTwice (all ++ front) (standing number d) × (NoneTwice all → NoneTwice (all ++ front)))
IsTwice old number path text more error.Memory = Unit {0}
IsTwice old number path text more _ = ⊥
