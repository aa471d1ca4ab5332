-- Which entry types are those of just one field, as the program keeps it.
use Rattle.std.specs.Prelude.{◌≡◌, ℕ, zero, suc, Bool, true, false, List, filter, length, Option, Some, None, String}
use Rattle.std.specs.BTreeMap.{BTreeMap, get_by_text}
use Rattle.pg_set.specs.stated.StatedFields.{is_map_of}
use Rattle.pg_set.specs.stated.Views.{FieldView}

-- what is kept of an entry type that so many fields name: whether just one does
abbrev pub once_of : ℕ → Option Bool
once_of zero = None
once_of (suc zero) = Some true
once_of (suc (suc count)) = Some false

-- that of each name, where these are the fields
abbrev pub KeepsOnce : {Y : Type 0} → List FieldView → BTreeMap (String Y) Bool → Type 0
KeepsOnce fs once = (entry : List ℕ) → get_by_text once entry ≡ once_of (length (filter (is_map_of entry) fs))

abbrev pub is_kept_once : Option Bool → Bool
is_kept_once None = false
is_kept_once (Some once) = once
