-- Sets of strings, and names that are there once (this project's choice of words).
use Rattle.std.specs.Prelude.{◌≡◌, ℕ, Bool, not, ◌&&◌, List, String}
use Rattle.std.specs.BTreeSet.{BTreeSet, contains_text}
use Rattle.std.specs.List.{list_all, list_any}
use Rattle.std.specs.Str.{bytes_eq}
use Rattle.pg_schema.specs.rules.Pairs.{are_distinct}

-- the string is among these
abbrev pub is_among : List (List ℕ) → List ℕ → Bool
is_among texts text = list_any (bytes_eq text) texts

-- the set has these strings and no other
abbrev pub IsSetOf : {Y : Type 0} → List (List ℕ) → BTreeSet (String Y) → Type 0
IsSetOf texts set = (text : List ℕ) → contains_text set text ≡ is_among texts text

-- each name is there once, and none is reserved (proto3 language guide, "Reserved Fields", "Reserved Values")
abbrev pub are_named_once : (names reserved : List (List ℕ)) → Bool
are_named_once names reserved = are_distinct names && list_all (λ name. not (is_among names name)) reserved
