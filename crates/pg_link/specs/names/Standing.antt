-- The names of all files, each with its file (proto3 language specification, "Package", "Message definition").
use Rattle.std.specs.List.{filter}
use Rattle.std.specs.Prelude.{◌≡◌, ◌⊎◌, ◌↔◌, ◌<◌, ◌&&◌, ℕ, Bool, true, false, List, [], ◌∷◌, ◌++◌, ◌+◌, slice_get, Option, Some, None, map, reverse}
use Rattle.std.specs.Str.{bytes_eq}
use Rattle.pg_syntax.specs.declared.tree as tree
use Rattle.pg_link.specs.declared.error.LinkError as errors
use Rattle.pg_link.specs.declared.error.LinkError.TheVariants as error
use Rattle.pg_link.specs.declared.names.Kind.{Kind}
use Rattle.pg_link.specs.names.Files.{Declared}
use Rattle.pg_link.specs.names.Names.{Text, is_package}
use Rattle.pg_link.specs.names.Outline.{file_names}
use Rattle.pg_link.specs.walk.Walk.{Entry, IsPlace, path_of}

-- a declared name, and the number of its file
pub record Standing : Type 0 where
  pub file : ℕ
  pub declared : Declared

-- what bears one name: as what, at which byte of which file first, and in which files
pub record Bearer : Type 0 where
  pub kind : Kind
  pub at : ℕ
  pub files : List ℕ

-- those that declare the name
abbrev pub bearers : List Standing → Text → List Standing
bearers all full = filter (λ s. bytes_eq full s.declared.name) all

abbrev pub first_of : List Standing → Option Bearer
first_of [] = None
first_of (s ∷ more) =
    Some (record { kind = s.declared.kind; at = s.declared.at; files = s.file ∷ map (λ t. t.file) more })

-- what bears a name
abbrev pub bearer : List Standing → Text → Option Bearer
bearer all full = first_of (bearers all full)

-- both are parts of packages
abbrev pub may_share : Kind → Kind → Bool
may_share old new = is_package old && is_package new

-- A name may be declared after others where none of them has it, or where all that have it are
-- parts of packages, as it is.
abbrev pub MayStand : List Standing → Standing → Type 0
MayStand before s = (bearer before s.declared.name ≡ None)
    ⊎ ((b : Bearer) × (bearer before s.declared.name ≡ Some b) × (may_share b.kind s.declared.kind ≡ true))

-- The name is declared twice: it is among those before it, and not both are parts of packages.
abbrev pub StandsTwice : List Standing → Standing → Type 0
StandsTwice before s = (b : Bearer) × (bearer before s.declared.name ≡ Some b)
    × (may_share b.kind s.declared.kind ≡ false)

-- none is declared twice, but for parts of packages; the last first
abbrev pub AllMayStand : List Standing → Type 0
AllMayStand [] = Unit {0}
AllMayStand (s ∷ before) = MayStand (reverse before) s × AllMayStand before

abbrev pub NoneTwice : List Standing → Type 0
NoneTwice all = AllMayStand (reverse all)

-- of two that have one name, both are parts of packages
abbrev pub OncePerName : List Standing → Type 0
OncePerName all = (i j : ℕ) (s t : Standing) → i < j → slice_get all i ≡ Some s → slice_get all j ≡ Some t
    → s.declared.name ≡ t.declared.name → may_share s.declared.kind t.declared.kind ≡ true

-- One by one none is declared twice exactly where this is so of any two.
abbrev pub NoneTwiceIsOnce : Type 0
NoneTwiceIsOnce = (all : List Standing) → NoneTwice all ↔ OncePerName all

-- ---- numbers

abbrev pub standing : ℕ → Declared → Standing
standing file declared = record { file = file; declared = declared }

-- the names that a file declares
abbrev pub standings : ℕ → tree.FileTree.FileTree → List Standing
standings file t = map (standing file) (file_names t)

-- the first of the names that is declared twice: none before it is
pub record IsFirstTwice (all : List Standing) (s : Standing) : Type 0 where
  pub front : List Standing
  pub back : List Standing
  pub splits : all ≡ front ++ s ∷ back
  pub none_before : NoneTwice front
  pub twice : StandsTwice front s

-- the names of these files, numbered from this on
abbrev pub standings_from : ℕ → List Entry → List Standing
standings_from number [] = []
standings_from number (e ∷ es) = standings number e.1.tree ++ standings_from (number + 1) es

abbrev pub all_standings : List Entry → List Standing
all_standings = standings_from 0

-- one of the names of the files is declared twice, at its position: the first that is, in their order
abbrev pub IsTwiceIn : List Entry → errors.LinkError → Type 0
IsTwiceIn entries (error.DuplicateName place) = (s : Standing) × IsFirstTwice (all_standings entries) s
    × ((e : Entry) × (slice_get entries s.file ≡ Some e) × IsPlace place (path_of e) e.1.bytes.items s.declared.at)
IsTwiceIn entries error.Memory = Unit {0}
IsTwiceIn entries _ = ⊥
