-- The order by which a map's entries are sorted, and by which equal keys are side by side: numbers by value, strings by bytes.
use Rattle.std.specs.Prelude.{◌≡◌, ℤ, pos, ⊤, ◌⊎◌, List, [], ◌∷◌, Bool, true, false}
use Rattle.std.specs.List.{AllByRecursion}
use Rattle.std.specs.declared.cmp.Ordering.{Ordering}
use Rattle.std.specs.declared.cmp.Ordering.TheVariants.{Less}
use Rattle.std.specs.Ordering.{int_cmp, nat_cmp, ordering_then, is_lt}
use Rattle.std.specs.Cmp.Lexicographic.{slice_cmp}
use Rattle.pg_dyn.specs.declared.message.Content.{Content}
use Rattle.pg_dyn.specs.declared.message.Content.TheVariants as contents
use Rattle.pg_dyn.specs.declared.message.Value.{Value}
use Rattle.pg_dyn.specs.declared.message.Value.TheVariants as values
use Rattle.pg_dyn.specs.message.Message.{Leaf, Int, Bytes, key_cmp}
use Rattle.pg_dyn.specs.reading.Content.{leaf_bytes}
use Rattle.pg_dyn.specs.message.Seen.{leaf_of}

-- each key is below all later ones, whatever else an entry holds
abbrev pub Rise : {A : Type 0} → (A → Leaf) → List A → Type 0
Rise key [] = ⊤
Rise {A} key (x ∷ xs) = AllByRecursion (λ (y : A). key_cmp (key x) (key y) ≡ Less) xs × Rise key xs

-- the number of a key, which is 0 of a string
abbrev pub number_in : Leaf → ℤ
number_in (Int n) = n
number_in leaf = pos 0

abbrev pub rank_cmp : Leaf → Leaf → Ordering
rank_cmp k l = ordering_then (int_cmp (number_in k) (number_in l)) (slice_cmp nat_cmp (leaf_bytes k) (leaf_bytes l))

abbrev pub ranks_below : Value × Value → Value × Value → Bool
ranks_below a b = is_lt (rank_cmp (leaf_of a.0) (leaf_of b.0))

-- two numbers, or two strings
abbrev pub AreSame : Leaf → Leaf → Type 0
AreSame (Int m) (Int n) = ⊤
AreSame (Bytes a) (Bytes b) = ⊤
AreSame k l = ⊥

-- a key that is a number, or one that is a string
abbrev pub IsOfKind : Bool → Leaf → Type 0
IsOfKind true (Int n) = ⊤
IsOfKind true leaf = ⊥
IsOfKind false (Bytes bytes) = ⊤
IsOfKind false leaf = ⊥

-- the keys are all numbers, or all strings
abbrev pub IsNumber : Value → Type 0
IsNumber (values.Int n) = ⊤
IsNumber value = ⊥

abbrev pub IsText : Value → Type 0
IsText (values.Text text) = ⊤
IsText (values.Bytes bytes) = ⊤
IsText value = ⊥

abbrev pub AreAlike : List (Value × Value) → Type 0
AreAlike es = AllByRecursion (λ (e : Value × Value). IsNumber e.0) es ⊎ AllByRecursion (λ (e : Value × Value). IsText e.0) es

abbrev pub KeysAlike : Content → Type 0
KeysAlike (contents.One value) = ⊤
KeysAlike (contents.Many vs) = ⊤
KeysAlike (contents.Map es) = AreAlike es.items
