-- Options of files, and what holds at an index of a list.
use Rattle.std.proofs.Common.{◌≡◌, ℕ, zero, suc, ◌+◌, ◌≤◌, ◌<◌, true, nat_lt, List, [], ◌∷◌, ◌++◌, ◌-◌, length, take, drop, get_or, flat_map, slice_get, Option, Some, None, refl, ap, sym, subst, ◌∙◌, arith, add-one, append_assoc, drop-cons}
use Rattle.std.proofs.lemmas.Bool.Decides.{nat_tests}
use Rattle.std.proofs.lemmas.Grind.{flat_map-append}
use Rattle.std.proofs.lemmas.List.{append-nil, take_more, get_or_default}
use Rattle.std.specs.List.{AllByRecursion, list_all}
use Rattle.pg_schema.specs.declared.parts.field.TypeId.{TypeId}
use Rattle.pg_schema.specs.declared.parts.message_type.MessageType.{MessageType}
use Rattle.pg_schema.specs.declared.parts.options.FileOption.{FileOption}
use Rattle.pg_schema.specs.rules.Files.{option_numbers}
use Rattle.pg_schema.specs.rules.Pairs.{is_rising}
use Rattle.pg_schema.proofs.lemmas.rules.PairLemmas.{and_both, and_left, and_right}
use Rattle.pg_set.specs.inner.writing.Drafts.{Drafted, IsDraftOf, put}
use Rattle.pg_set.specs.writing.Items.{Items}
use Rattle.pg_set.specs.writing.Messages.{type_items, types_items, where_found}
use Rattle.pg_set.specs.writing.Places.{Declared}
use Rattle.pg_set.specs.writing.Set.{file_options, option_items}
use Rattle.pg_set.proofs.lemmas.lists.Tests.{below}

pub each_in : {A : Type 0} (P : A → Type 0) (xs : List A) (i : ℕ) (x : A) → AllByRecursion P xs → i < length xs → x ≡ get_or xs i x → P x
each_in P [] i x all h is = absurd (omega (arith, h))
each_in P (y ∷ ys) zero x all h is = subst P (sym is) all.0
each_in P (y ∷ ys) (suc i) x all h is = each_in P ys i x all.1 (omega (arith, h)) is

-- ---- rising numbers

all_above : (a b : ℕ) (ns : List ℕ) → a ≤ b → list_all (nat_lt b) ns ≡ true → list_all (nat_lt a) ns ≡ true
all_above a b [] le h = refl
all_above a b (n ∷ ns) le h =
    let far = below b n (and_left (nat_lt b n) (list_all (nat_lt b) ns) h) in
    let near : a < n = omega (arith, far, le) in
    and_both (nat_lt a n) (list_all (nat_lt a) ns) (grind (arith, nat_tests)) (all_above a b ns le (and_right (nat_lt b n) (list_all (nat_lt b) ns) h))

pub lower_front : (a b : ℕ) (ns : List ℕ) → a ≤ b → is_rising (b ∷ ns) ≡ true → is_rising (a ∷ ns) ≡ true
lower_front a b ns le h = and_both (list_all (nat_lt a) ns) (is_rising ns) (all_above a b ns le (and_left (list_all (nat_lt b) ns) (is_rising ns) h)) (and_right (list_all (nat_lt b) ns) (is_rising ns) h)

rest_in : (os : List FileOption) (i : ℕ) (o : FileOption) → i < length os → o ≡ get_or os i o → drop i os ≡ o ∷ drop (i + 1) os
rest_in os i o h is = rw (add-one, drop-cons os i o) (ap (λ x. x ∷ drop (suc i) os) (sym is))

rising_here : (last : ℕ) (os : List FileOption) (i : ℕ) (o : FileOption) → i < length os → o ≡ get_or os i o → is_rising (last ∷ option_numbers (drop i os)) ≡ true → is_rising (last ∷ o.number ∷ option_numbers (drop (i + 1) os)) ≡ true
rising_here last os i o h is rising = subst (λ xs. is_rising (last ∷ option_numbers xs) ≡ true) (rest_in os i o h is) rising

pub rising_next : (last now : ℕ) (os : List FileOption) (i : ℕ) (o : FileOption) → i < length os → o ≡ get_or os i o → now ≤ o.number → is_rising (last ∷ option_numbers (drop i os)) ≡ true → is_rising (now ∷ option_numbers (drop (i + 1) os)) ≡ true
rising_next last now os i o h is le rising =
    let ns = option_numbers (drop (i + 1) os) in
    lower_front now o.number ns le (and_right (list_all (nat_lt last) (o.number ∷ ns)) (is_rising (o.number ∷ ns)) (rising_here last os i o h is rising))

-- ---- one more of a list

pub one_more : {A B : Type 0} (f : A → List B) (xs : List A) (i : ℕ) (x : A) → i < length xs → x ≡ get_or xs i x → flat_map f (take (i + 1) xs) ≡ flat_map f (take i xs) ++ f x
one_more f xs i x h is =
    ap (flat_map f) (take_more xs i x h ∙ ap (λ y. take i xs ++ y ∷ []) (sym is)) ∙ (flat_map-append f (take i xs) (x ∷ []) ∙ ap (λ ys. flat_map f (take i xs) ++ ys) (append-nil (f x)))

pub option_step : (message : Items) (os : List FileOption) (i : ℕ) (o : FileOption) (now : Items) → i < length os → o ≡ get_or os i o → message ≡ file_options (take i os) → now ≡ message ++ option_items o.number o.value → now ≡ file_options (take (i + 1) os)
option_step message os i o now h is before grown =
    grown ∙ (ap (λ x. x ++ option_items o.number o.value) before ∙ sym (one_more (λ (x : FileOption). option_items x.number x.value) os i o h is))

-- ---- message types inside message types

abbrev found_type : ℕ → Declared → TypeId → List Items
found_type depth all id = where_found (λ (t : MessageType). type_items all (types_items depth all t.nested_types.items) t) (slice_get all.types id.index)

types_one : (depth : ℕ) (all : Declared) (ids : List TypeId) (i : ℕ) (id : TypeId) → (depth ≡ 0 → ⊥) → i < length ids → id ≡ get_or ids i id
    → types_items depth all (take (i + 1) ids) ≡ types_items depth all (take i ids) ++ found_type (depth - 1) all id
types_one zero all ids i id some h is = absurd (some refl)
types_one (suc depth) all ids i id some h is =
    let down : suc depth - 1 ≡ depth = omega arith in
    one_more (found_type depth all) ids i id h is ∙ ap (λ d. types_items (suc depth) all (take i ids) ++ found_type d all id) (sym down)

pub types_none : (made : List Items) (depth : ℕ) (all : Declared) (ids : List TypeId) (i : ℕ) (id : TypeId) → (depth ≡ 0 → ⊥) → i < length ids → id ≡ get_or ids i id → slice_get all.types id.index ≡ None
    → made ≡ types_items depth all (take i ids) → made ≡ types_items depth all (take (i + 1) ids)
types_none made depth all ids i id some h is none before =
    before ∙ sym (types_one depth all ids i id some h is
    ∙ (ap (λ (o : Option MessageType). types_items depth all (take i ids) ++ where_found (λ (t : MessageType). type_items all (types_items (depth - 1) all t.nested_types.items) t) o) none ∙ append-nil (types_items depth all (take i ids))))

pub types_some : (made now : List Items) (depth : ℕ) (all : Declared) (ids : List TypeId) (i : ℕ) (id : TypeId) (t : MessageType) → (depth ≡ 0 → ⊥) → i < length ids → id ≡ get_or ids i id → slice_get all.types id.index ≡ Some t
    → made ≡ types_items depth all (take i ids) → now ≡ made ++ type_items all (types_items (depth - 1) all t.nested_types.items) t ∷ [] → now ≡ types_items depth all (take (i + 1) ids)
types_some made now depth all ids i id t some h is there before grown =
    grown ∙ (ap (λ x. x ++ type_items all (types_items (depth - 1) all t.nested_types.items) t ∷ []) before
    ∙ sym (types_one depth all ids i id some h is
    ∙ ap (λ (o : Option MessageType). types_items depth all (take i ids) ++ where_found (λ (x : MessageType). type_items all (types_items (depth - 1) all x.nested_types.items) x) o) there))

-- at an index that is there the default doesn't count
pub same_default : {A : Type 0} (xs : List A) (i : ℕ) (d e : A) → i < length xs → get_or xs i d ≡ get_or xs i e
same_default xs i d e h = get_or_default xs i d e h

-- ---- a file's message

-- a draft of these parts with more
pub more_put : (type : TypeId) (items more : Items) (number : ℕ) (d new : Drafted) → IsDraftOf type items d → new ≡ put number more d → IsDraftOf type (items ++ more) new
more_put type items more number d new is grown = (ap (λ (x : Drafted). x.type) grown ∙ is.0, ap (λ (x : Drafted). x.items) grown ∙ ap (λ xs. xs ++ more) is.1)

pub file_joined : (a b c x y z e f g : Items) → (((((a ++ b) ++ c) ++ (x ++ y ++ z)) ++ e) ++ f) ++ g ≡ a ++ b ++ c ++ x ++ y ++ z ++ e ++ f ++ g
file_joined a b c x y z e f g = simp append_assoc
