-- Sets of strings that are lent.
use Rattle.std.specs.Prelude.{◌≡◌, ℕ, Bool, List, map}
use Rattle.std.specs.Borrow.{Bor}
use Rattle.std.specs.BTreeSet.{BTreeSet, contains_by}
use Rattle.std.specs.Cmp.Lexicographic.{slice_cmp}
use Rattle.std.specs.Ordering.{nat_cmp}
use Rattle.pg_schema.specs.rules.TextSets.{is_among}

-- the bytes of strings
abbrev pub lent : List (Bor (List ℕ)) → List (List ℕ)
lent texts = map (λ (text : Bor (List ℕ)). text.now) texts

-- whether the set has the string
abbrev pub has_lent : BTreeSet (Bor (List ℕ)) → List ℕ → Bool
has_lent set text = contains_by (λ (key : Bor (List ℕ)). slice_cmp nat_cmp text key.now) set

-- the set has these strings and no other
abbrev pub IsLentSetOf : List (List ℕ) → BTreeSet (Bor (List ℕ)) → Type 0
IsLentSetOf texts set = (text : List ℕ) → has_lent set text ≡ is_among texts text
