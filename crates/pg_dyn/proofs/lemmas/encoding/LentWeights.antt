-- What is in a message weighs less than it, whoever owns its parts.
use Rattle.std.proofs.Common.{◌≡◌, ℕ, zero, suc, ◌+◌, ◌<◌, ◌≤◌, List, [], ◌∷◌, ◌++◌, length, map, get_or, Bool, false, Option, refl, ap, ap₂, arith, rules}
use Rattle.pg_dyn.specs.message.Kept.{Kept, ends, type_of}
use Rattle.pg_dyn.specs.message.KeptParts.{KeptItem, Plain, Msg, unknown_of}
use Rattle.pg_dyn.specs.message.Weights.{weight}
use Rattle.pg_dyn.specs.encoding.Lending.{Bare, Lone, Child, bare, entry_part, item_part}
use Rattle.pg_dyn.specs.message.Replacing.{all_parts, kept_onto, kept_part}
use Rattle.pg_dyn.specs.message.Message.{Leaf, Part}
use Rattle.pg_dyn.proofs.lemmas.encoding.EncodeSteps.{bare_seen}

abbrev pub bare_weight : Bare → ℕ
bare_weight (Lone text leaf) = 0
bare_weight (Child m) = weight m

-- the sum of the items' weights
abbrev pub weights : {A : Type 0} → (A → Bare) → List A → ℕ
weights item [] = 0
weights item (x ∷ xs) = bare_weight (item x) + weights item xs

abbrev pub parts_weight : List (Part KeptItem) → ℕ
parts_weight ps = weights (λ (p : Part KeptItem). bare p.item) ps

module _ {A : Type 0} (item : A → Bare) where
  pub item_lighter : (xs : List A) (i : ℕ) (x : A) → i < length xs → x ≡ get_or xs i x → bare_weight (item x) ≤ weights item xs
  item_lighter [] i x inside is = absurd (omega arith)
  item_lighter (y ∷ ys) zero x inside is = let same = ap (λ z. bare_weight (item z)) is in omega (arith, same)
  item_lighter (y ∷ ys) (suc i) x inside is = let rest = item_lighter ys i x (omega arith) is in omega (arith, rest)

  pub items_weigh : (n : ℕ) (l : Bool) (xs : List A) → parts_weight (map (item_part item n l) xs) ≡ weights item xs
  items_weigh n l [] = refl
  items_weigh n l (x ∷ xs) = ap₂ (λ a b. bare_weight a + b) (bare_seen l (item x)) (items_weigh n l xs)

pub entries_weigh : {V E : Type 0} (item : V → Bare) (key_of value_of : E → V) (n : ℕ) (es : List E) → parts_weight (map (entry_part item key_of value_of n) es) ≡ weights (λ e. item (value_of e)) es
entries_weigh item key_of value_of n [] = refl
entries_weigh item key_of value_of n (e ∷ es) = ap₂ (λ a b. bare_weight a + b) (bare_seen false (item (value_of e))) (entries_weigh item key_of value_of n es)

weigh_two : (ps qs : List (Part KeptItem)) → parts_weight (ps ++ qs) ≡ parts_weight ps + parts_weight qs
weigh_two [] qs = omega arith
weigh_two (p ∷ ps) qs = let rest = weigh_two ps qs in omega (arith, rest)

part_weighs : (n : ℕ) (k : Option Leaf) (item : KeptItem) (later : Kept) → weight (kept_part n k item later) ≡ bare_weight (bare item) + weight later
part_weighs n k (Plain l leaf) later = omega arith
part_weighs n k (Msg l m) later = refl

whole_weighs : (ps : List (Part KeptItem)) (later : Kept) → weight (kept_onto ps later) ≡ parts_weight ps + weight later
whole_weighs [] later = omega arith
whole_weighs (p ∷ ps) later = let first = part_weighs p.number p.key p.item (kept_onto ps later) in let rest = whole_weighs ps later in omega (arith, first, rest)

module _ {C : Type 0} (parts : ℕ → C → List (Part KeptItem)) where
  row_lighter : (cs : List (ℕ × C)) (i : ℕ) (c : ℕ × C) → i < length cs → c ≡ get_or cs i c → parts_weight (parts c.0 c.1) ≤ parts_weight (all_parts parts cs)
  row_lighter [] i c inside is = absurd (omega arith)
  row_lighter (d ∷ cs) zero c inside is = search (rules, arith, weigh_two)
  row_lighter (d ∷ cs) (suc i) c inside is = search (rules, arith, weigh_two, row_lighter cs i c)

  pub content_lighter : (m : Kept) (cs : List (ℕ × C)) (i : ℕ) (c : ℕ × C) → m ≡ kept_onto (all_parts parts cs) (ends (type_of m) (unknown_of m)) → i < length cs → c ≡ get_or cs i c → parts_weight (parts c.0 c.1) < weight m
  content_lighter m cs i c whole inside is = search (rules, arith, whole_weighs, row_lighter)
