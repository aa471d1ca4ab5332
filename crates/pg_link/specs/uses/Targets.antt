-- What uses of type names resolve to, by number.
use Rattle.std.specs.List.{filter, find}
use Rattle.std.specs.Option.{option_map, option_and_then}
use Rattle.std.specs.Prelude.{◌==◌, ℕ, Bool, true, false, List, map, flat_map, position, Option, None}
use Rattle.std.specs.Str.{bytes_eq}
use Rattle.pg_link.specs.declared.names.Kind.{Kind}
use Rattle.pg_link.specs.declared.names.Kind.TheVariants.{Message, Enum}
use Rattle.pg_link.specs.declared.uses.target.Target.{Target}
use Rattle.pg_link.specs.declared.uses.target.Target.TheVariants as targets
use Rattle.pg_link.specs.names.Files.{Declared, visible_names}
use Rattle.pg_link.specs.names.Names.{Text, Names}
use Rattle.pg_link.specs.names.Outline.{file_names}
use Rattle.pg_link.specs.names.Resolves.{found}
use Rattle.pg_link.specs.uses.Uses.{Use, file_uses}
use Rattle.pg_link.specs.walk.Walk.{Entry as FileEntry, outlines, path_of}

abbrev pub is_message : Kind → Bool
is_message Message = true
is_message _ = false

abbrev pub is_enum : Kind → Bool
is_enum Enum = true
is_enum _ = false

-- the names of all files, in order of declaration
abbrev pub all_declared : List FileEntry → List Declared
all_declared = flat_map (λ e. file_names e.1.tree)

-- the full names of what is declared as this, in order of declaration
abbrev pub names_of : (Kind → Bool) → List Declared → List Text
names_of test all = map (λ d. d.name) (filter (λ d. test d.kind) all)

abbrev pub message_names : List Declared → List Text
message_names = names_of is_message

abbrev pub enum_names : List Declared → List Text
enum_names = names_of is_enum

-- the index of a full name among those
abbrev pub number_in : List Text → Text → Option ℕ
number_in names full = position (bytes_eq full) names

-- the message type or enum of this name, where it may be used
abbrev pub numbered : List Declared → Bool → Text → Kind → Option Target
numbered all takes_enums full Message = option_map targets.Message (number_in (message_names all) full)
numbered all true full Enum = option_map targets.Enum (number_in (enum_names all) full)
numbered all _ full _ = None

-- what a use resolves to, of all names and those that are visible in its file
abbrev pub target_in : List Declared → Names → Use → Option Target
target_in all visible u = option_and_then (λ f. numbered all u.takes_enums f.0 f.1) (found visible u.scope u.name)

-- what the uses of a file resolve to, one by one
abbrev pub file_targets : List FileEntry → FileEntry → List (Option Target)
file_targets files file = map (target_in (all_declared files) (visible_names (outlines files) (path_of file)))
    (file_uses file.1.tree)

-- ---- by offsets

-- the bytes at which the uses of a file begin, one by one
abbrev pub file_places : FileEntry → List ℕ
file_places file = map (λ u. u.at) (file_uses file.1.tree)

-- the first use that begins at this byte
abbrev pub use_at : List Use → ℕ → Option Use
use_at uses at = find (λ u. u.at == at) uses

-- what each use resolves to
abbrev pub Resolution : Type 0
Resolution = Use → Option Target

-- what the first use that begins at this byte resolves to
abbrev pub resolved_at : Resolution → List Use → ℕ → Option Target
resolved_at resolve uses at = option_and_then resolve (use_at uses at)

-- the same in a file
abbrev pub target_at : List FileEntry → FileEntry → ℕ → Option Target
target_at files file =
    resolved_at (target_in (all_declared files) (visible_names (outlines files) (path_of file))) (file_uses file.1.tree)
