-- The names that an index holds.
use Rattle.std.specs.Global.{Global}
use Rattle.std.specs.HashMap.{HashMap, get_by_text}
use Rattle.std.specs.Option.{option_map, option_and_then}
use Rattle.std.specs.Prelude.{ℕ, Bool, true, false, List, [], ◌∷◌, Option, Some, None, if◌then◌else◌, String, get_or}
use Rattle.pg_link.specs.declared.names.index.Visible as visible_files
use Rattle.pg_link.specs.declared.names.Kind.{Kind}
use Rattle.pg_link.specs.declared.names.Named as nameds
use Rattle.pg_link.specs.names.Names.{Names}

-- the marks of what is visible in a file
abbrev pub visible_of : Option visible_files.Visible → Option (List Bool)
visible_of = option_map (λ visible. visible.marks.now)

-- one of the files is seen
abbrev pub sees_one : List Bool → List ℕ → Bool
sees_one visible [] = false
sees_one visible (file ∷ files) = if get_or visible file false then true else sees_one visible files

-- files are seen, where one of them is; where no file looks, all are
abbrev pub is_seen : Option (List Bool) → List ℕ → Bool
is_seen None files = true
is_seen (Some visible) files = sees_one visible files

-- the files that declare a name, the first of them in front
abbrev pub files_of : nameds.Named → List ℕ
files_of named = named.file ∷ named.others.items

-- the kind of what bears the name, if one of its files is seen
abbrev pub kind_seen : Option (List Bool) → nameds.Named → Option Kind
kind_seen visible named = if is_seen visible (files_of named) then Some named.kind else None

-- what bears a full name in the files that are seen
abbrev pub names_seen : {S : Type 0} → HashMap (String Global) nameds.Named S → Option (List Bool) → Names
names_seen index visible full = option_and_then (kind_seen visible) (get_by_text index full)
