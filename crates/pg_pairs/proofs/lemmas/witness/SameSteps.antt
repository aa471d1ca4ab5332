-- What two fields show, item by item, and part by part as the definitions see it.
use Rattle.std.proofs.Common.{◌≡◌, ℕ, zero, suc, ◌+◌, ◌<◌, ◌≤◌, Bor, List, [], ◌∷◌, map, filter, drop, slice_get, Bool, true, false, not, ◌&&◌, Option, Some, None, option_map, IfSome, MatchOption, refl, ap, ap₂, sym, ◌∙◌, subst, arith, add-one, rules}
use Rattle.std.specs.List.{AllByRecursion}
use Rattle.std.specs.Option.{option_copied}
use lib.Pointwise.{pointwise}
use Rattle.pg_dyn.specs.declared.message_ref.ContentRef.{ContentRef}
use Rattle.pg_dyn.specs.declared.message_ref.ContentRef.TheVariants as contents
use Rattle.pg_dyn.specs.declared.message_ref.EntryRef.{EntryRef}
use Rattle.pg_dyn.specs.declared.message_ref.ValueRef.{ValueRef}
use Rattle.pg_dyn.specs.declared.message_ref.ValueRef.TheVariants as values
use Rattle.pg_dyn.specs.message.Message.{Part}
use Rattle.pg_dyn.specs.message.Kept.{Kept}
use Rattle.pg_dyn.specs.message.KeptParts.{KeptItem, parts_of, of_number}
use Rattle.pg_dyn.specs.message.Weights.{weight}
use Rattle.pg_dyn.specs.message.Kept as kept
use Rattle.pg_dyn.specs.message.KeptParts as kept_parts
use Rattle.pg_dyn.specs.message_ref.Borrowed.{leaf_of, item_part, entry_part, item_seen, content_seen}
use Rattle.pg_dyn.specs.word.NumberLists.{numbers_in}
use Rattle.pg_dyn.specs.message_ref.BorrowedItems.{is_zero_value}
use Rattle.pg_pairs.specs.inner.Comparing.{Keyed, keyed, keyed_if, keyed_shown}

-- ---- lists

drop_here : {X : Type 0} (xs : List X) (i : ℕ) (x : X) → slice_get xs i ≡ Some x → drop i xs ≡ x ∷ drop (suc i) xs
drop_here [] i x h = absurd (cc)
drop_here (y ∷ xs) zero x h = let same : y ≡ x = cc in ap (λ z. z ∷ xs) same
drop_here (y ∷ xs) (suc i) x h = drop_here xs i x h

next_from : {X : Type 0} (xs : List X) (i : ℕ) (x : X) → slice_get xs i ≡ Some x → drop i xs ≡ x ∷ drop (i + 1) xs
next_from xs i x h = drop_here xs i x h ∙ ap (λ n. x ∷ drop n xs) (sym (add-one i))

-- what is left of two lists, where both go on
pub both_go_on : {X : Type 0} (test : X → X → Bool) (xs ys : List X) (i : ℕ) (x y : X) → slice_get xs i ≡ Some x → slice_get ys i ≡ Some y →
    pointwise test (drop i xs) (drop i ys) ≡ (test x y && pointwise test (drop (i + 1) xs) (drop (i + 1) ys))
both_go_on test xs ys i x y first second = ap₂ (pointwise test) (next_from xs i x first) (next_from ys i y second)

pub pointwise-map : {A B C D : Type 0} (test : C → D → Bool) (f : A → C) (g : B → D) (xs : List A) (ys : List B) → pointwise test (map f xs) (map g ys) ≡ pointwise (λ x y. test (f x) (g y)) xs ys
pointwise-map test f g [] [] = refl
pointwise-map test f g [] (y ∷ ys) = refl
pointwise-map test f g (x ∷ xs) [] = refl
pointwise-map test f g (x ∷ xs) (y ∷ ys) = ap (λ b. test (f x) (g y) && b) (pointwise-map test f g xs ys)

pub each_got : {A : Type 0} (P : A → Type 0) (xs : List A) (i : ℕ) (x : A) → AllByRecursion P xs → slice_get xs i ≡ Some x → P x
each_got P [] i x h is = absurd (cc)
each_got P (y ∷ xs) zero x h is = let same : y ≡ x = cc in subst P same h.0
each_got P (y ∷ xs) (suc i) x h is = each_got P xs i x h.1 is

pub all_shown : (xs : List Keyed) → filter (λ (x : Keyed). not (false && is_zero_value x.1)) xs ≡ xs
all_shown [] = refl
all_shown (x ∷ xs) = ap (λ ys. x ∷ ys) (all_shown xs)

-- ---- what is borrowed

pub copied_fact : {A : Type 0} (P : A → Type 0) (o : Option (Bor A)) (x : A) → IfSome o (λ b. P b.now) → option_copied o ≡ Some x → P x
copied_fact P None x h is = absurd (cc)
copied_fact P (Some b) x h is = let same : b.now ≡ x = cc in subst P same h

-- the parts of a content that may be missing
abbrev pub seen_if : ℕ → Option ContentRef → List (Part KeptItem)
seen_if n (Some content) = content_seen n content
seen_if n None = []

pub of_number_seen : (n : ℕ) (m : Kept) (o : Option (Bor ContentRef)) → MatchOption o (of_number n m ≡ []) (λ content. of_number n m ≡ content_seen n content.now) → of_number n m ≡ seen_if n (option_copied o)
of_number_seen n m None h = h
of_number_seen n m (Some b) h = h

-- ---- weights: of a message more than that of the items of each of its contents

abbrev pub held_weight : ValueRef → ℕ
held_weight (values.Msg child) = weight child.value
held_weight value = 0

abbrev pub total : List Keyed → ℕ
total [] = 0
total (x ∷ xs) = held_weight x.1 + total xs

pub total_got : (xs : List Keyed) (i : ℕ) (x : Keyed) → slice_get xs i ≡ Some x → held_weight x.1 ≤ total xs
total_got [] i x h = absurd (cc)
total_got (y ∷ xs) zero x h = let same : y ≡ x = cc in subst (λ (z : Keyed). held_weight z.1 ≤ held_weight y.1 + total xs) same (omega arith)
total_got (y ∷ xs) (suc i) x h = let rest = total_got xs i x h in omega arith

abbrev part_weight : Part KeptItem → ℕ
part_weight p = of p.item
  where
    of : KeptItem → ℕ
    of (kept_parts.Plain listed leaf) = 0
    of (kept_parts.Msg listed m) = weight m

abbrev parts_weight : List (Part KeptItem) → ℕ
parts_weight [] = 0
parts_weight (p ∷ ps) = part_weight p + parts_weight ps

pub weight_is : (m : Kept) → weight m ≡ suc (parts_weight (parts_of m))
weight_is (kept.ends type unknown) = refl
weight_is (kept.holds number key listed leaf later) = let rest = weight_is later in omega arith
weight_is (kept.nests number key listed child later) = let rest = weight_is later in omega arith

filter_weight : (test : Part KeptItem → Bool) (ps : List (Part KeptItem)) → parts_weight (filter test ps) ≤ parts_weight ps
filter_weight test [] = omega arith
filter_weight test (p ∷ ps) = search (rules, filter_weight test ps)

pub filter_total : (test : Keyed → Bool) (xs : List Keyed) → total (filter test xs) ≤ total xs
filter_total test [] = omega arith
filter_total test (x ∷ xs) = search (rules, filter_total test xs)

-- ---- a content's items as parts

abbrev pub part_with : ℕ → Bool → Keyed → Part KeptItem
part_with n listed x = record { number = n; key = option_map leaf_of x.0; item = item_seen listed x.1 }

-- whether a content is a list
abbrev pub is_list : ContentRef → Bool
is_list (contents.One value) = false
is_list (contents.Many vs) = true
is_list (contents.Numbers ns) = true
is_list (contents.Map es) = false

items_keyed : (n : ℕ) (xs : List ValueRef) → map (item_part n true) xs ≡ map (part_with n true) (map (λ value. (None, value)) xs)
items_keyed n [] = refl
items_keyed n (x ∷ xs) = ap (λ ps. item_part n true x ∷ ps) (items_keyed n xs)

pub content_keyed : (n : ℕ) (c : ContentRef) → content_seen n c ≡ map (part_with n (is_list c)) (keyed c)
content_keyed n (contents.One value) = refl
content_keyed n (contents.Many vs) = items_keyed n vs.items
content_keyed n (contents.Numbers ns) = items_keyed n (numbers_in ns)
content_keyed n (contents.Map es) = go es.items
  where
    go : (xs : List EntryRef) → map (entry_part n) xs ≡ map (part_with n false) (map (λ (e : EntryRef). (Some e.key, e.value)) xs)
    go [] = refl
    go (x ∷ xs) = ap (λ ps. entry_part n x ∷ ps) (go xs)

abbrev pub list_if : Option ContentRef → Bool
list_if (Some c) = is_list c
list_if None = false

pub seen_keyed : (n : ℕ) (o : Option ContentRef) → seen_if n o ≡ map (part_with n (list_if o)) (keyed_if o)
seen_keyed n (Some c) = content_keyed n c
seen_keyed n None = refl

pub item_weight : (n : ℕ) (listed : Bool) (x : Keyed) → part_weight (part_with n listed x) ≡ held_weight x.1
item_weight n listed x = search rules

map_weight : (n : ℕ) (listed : Bool) (xs : List Keyed) → parts_weight (map (part_with n listed) xs) ≡ total xs
map_weight n listed [] = refl
map_weight n listed (x ∷ xs) = ap₂ (λ a b. a + b) (item_weight n listed x) (map_weight n listed xs)

-- the items that a field shows weigh less than the message
pub shown_weight : (n : ℕ) (m : Kept) (o : Option ContentRef) (hidden : Bool) → of_number n m ≡ seen_if n o → total (keyed_shown hidden o) < weight m
shown_weight n m o hidden is =
    search (rules, filter_total, seen_keyed, map_weight, filter_weight, weight_is)
