-- Messages that are written slot by slot, each slot under a number of its own, and what they say.
use Rattle.std.proofs.Common.{◌≡◌, ℕ, ℤ, pos, Bool, true, false, cond, not, nat_eq, ◌&&◌, List, [], ◌∷◌, ◌++◌, map, filter, filter_map, Option, Some, None, option_map, slice_get, refl, ap, ap₂, subst, ◌∙◌, unwrap_or, sym, rules}
use Rattle.std.proofs.lemmas.List.{append-nil}
use Rattle.std.proofs.lemmas.Simd.{map-map}
use Rattle.pg_schema.proofs.lemmas.rules.PairLemmas.{and_left, and_right}
use Rattle.pg_dyn.specs.message.Message.{Int, Bytes, Item, Plain, Msg, Message, ends, Part, is_of, message_from, parts, with_part}
use Rattle.pg_set.specs.writing.Items.{Items, child, children, count, counts, filled, item, mark, maybe_count, maybe_text, options, stated, text, texts, whole}
use Rattle.pg_set.specs.stated.SetMessages.{child_in, child_of, children_at, flag_of, item_at, items_at, maybe_flag_at, number_of, numbers_at, options_at, text_of, texts_at}
use Rattle.pg_set.proofs.lemmas.lists.Tests.{not_so, same_number}

pub record Slot : Type 0 where
  pub number : ℕ
  pub piece : Items
  pub holds : List Item
  pub is : piece ≡ map (item number) holds

-- what they write; the last slot comes first
abbrev pub written : List Slot → Items
written [] = []
written (s ∷ ss) = written ss ++ s.piece

-- what the slot of that number holds
abbrev pub held : ℕ → List Slot → List Item
held n [] = []
held n (s ∷ ss) = cond (nat_eq s.number n) s.holds (held n ss)

abbrev pub is_free : ℕ → List Slot → Bool
is_free n [] = true
is_free n (s ∷ ss) = not (nat_eq s.number n) && is_free n ss

abbrev pub are_apart : List Slot → Bool
are_apart [] = true
are_apart (s ∷ ss) = is_free s.number ss && are_apart ss

-- the message of these parts
abbrev pub made : Items → Message
made its = message_from its []

-- ---- what a message says is what the slot holds

parts_with : (n : ℕ) (p : Part Item) (later : Message) → parts (with_part p.number p.key p.item later) ≡ p ∷ parts later
parts_with n p later = of p.item
  where
    of : (it : Item) → parts (with_part p.number p.key it later) ≡ record { number = p.number; key = p.key; item = it } ∷ parts later
    of (Plain leaf) = refl
    of (Msg child) = refl

parts_made : (its : Items) → parts (made its) ≡ its
parts_made [] = refl
parts_made (p ∷ ps) = parts_with 0 p (made ps) ∙ ap (λ xs. p ∷ xs) (parts_made ps)

abbrev pub at : ℕ → Items → List Item
at n ps = map (λ (p : Part Item). p.item) (filter (is_of n) ps)

at_append : (n : ℕ) (xs ys : Items) → at n (xs ++ ys) ≡ at n xs ++ at n ys
at_append n [] ys = refl
at_append n (x ∷ xs) ys = search (rules, at_append n xs ys)

at_one : (n k : ℕ) (xs : List Item) → at n (map (item k) xs) ≡ cond (nat_eq k n) xs []
at_one n k [] = search rules
at_one n k (x ∷ xs) = search (rules, at_one n k xs)

at_piece : (n : ℕ) (s : Slot) → at n s.piece ≡ cond (nat_eq s.number n) s.holds []
at_piece n s = ap (at n) s.is ∙ at_one n s.number s.holds

at_free : (n : ℕ) (ss : List Slot) → is_free n ss ≡ true → at n (written ss) ≡ []
at_free n [] free = refl
at_free n (s ∷ ss) free =
    at_append n (written ss) s.piece
    ∙ ap₂ (λ xs ys. xs ++ ys) (at_free n ss (and_right (not (nat_eq s.number n)) (is_free n ss) free))
    (at_piece n s ∙ ap (λ b. cond b s.holds []) (not_so (nat_eq s.number n) (and_left (not (nat_eq s.number n)) (is_free n ss) free)))

at_written : (n : ℕ) (ss : List Slot) → are_apart ss ≡ true → at n (written ss) ≡ held n ss
at_written n [] apart = refl
at_written n (s ∷ ss) apart = at_append n (written ss) s.piece ∙ (ap (λ zs. at n (written ss) ++ zs) (at_piece n s) ∙ of (nat_eq s.number n) refl (at_written n ss (and_right (is_free s.number ss) (are_apart ss) apart)))
  where
    of : (b : Bool) → nat_eq s.number n ≡ b → at n (written ss) ≡ held n ss → at n (written ss) ++ cond b s.holds [] ≡ cond b s.holds (held n ss)
    of true same later = ap (λ zs. zs ++ s.holds) (at_free n ss (subst (λ k. is_free k ss ≡ true) (same_number s.number n same) (and_left (is_free s.number ss) (are_apart ss) apart)))
    of false other later = append-nil (at n (written ss)) ∙ later

pub says : (n : ℕ) (ss : List Slot) → are_apart ss ≡ true → items_at n (made (written ss)) ≡ held n ss
says n ss apart = ap (at n) (parts_made (written ss)) ∙ at_written n ss apart

pub item_found : (n : ℕ) (its : Items) → item_at n (made its) ≡ slice_get (at n its) 0
item_found n its = ap (λ ps. slice_get (at n ps) 0) (parts_made its)

-- ---- kinds of slots

abbrev pub text_slot : ℕ → List ℕ → Slot
text_slot k bytes = record { number = k; piece = text k bytes; holds = Plain (Bytes bytes) ∷ []; is = refl }

abbrev pub whole_slot : ℕ → ℤ → Slot
whole_slot k n = record { number = k; piece = whole k n; holds = Plain (Int n) ∷ []; is = refl }

abbrev pub count_slot : ℕ → ℕ → Slot
count_slot k n = record { number = k; piece = count k n; holds = Plain (Int (pos n)) ∷ []; is = refl }

abbrev pub texts_slot : ℕ → List (List ℕ) → Slot
texts_slot k list = record { number = k; piece = texts k list; holds = map (λ bytes. Plain (Bytes bytes)) list; is = sym (map-map (item k) (λ bytes. Plain (Bytes bytes)) list) }

abbrev pub counts_slot : ℕ → List ℕ → Slot
counts_slot k list = record { number = k; piece = counts k list; holds = map (λ n. Plain (Int (pos n))) list; is = sym (map-map (item k) (λ n. Plain (Int (pos n))) list) }

abbrev pub children_slot : ℕ → List Items → Slot
children_slot k list = record { number = k; piece = children k list; holds = map (λ its. Msg (made its)) list; is = sym (map-map (item k) (λ its. Msg (made its)) list) }

abbrev pub child_slot : ℕ → Items → Slot
child_slot k its = record { number = k; piece = child k its; holds = Msg (made its) ∷ []; is = refl }

abbrev pub maybe_bytes : Option (List ℕ) → List Item
maybe_bytes (Some bytes) = Plain (Bytes bytes) ∷ []
maybe_bytes None = []

pub maybe_text_is : (k : ℕ) (o : Option (List ℕ)) → maybe_text k o ≡ map (item k) (maybe_bytes o)
maybe_text_is k (Some bytes) = refl
maybe_text_is k None = refl

abbrev pub maybe_text_slot : ℕ → Option (List ℕ) → Slot
maybe_text_slot k o = record { number = k; piece = maybe_text k o; holds = maybe_bytes o; is = maybe_text_is k o }

abbrev pub maybe_int : Option ℕ → List Item
maybe_int (Some n) = Plain (Int (pos n)) ∷ []
maybe_int None = []

pub maybe_count_is : (k : ℕ) (o : Option ℕ) → maybe_count k o ≡ map (item k) (maybe_int o)
maybe_count_is k (Some n) = refl
maybe_count_is k None = refl

abbrev pub maybe_count_slot : ℕ → Option ℕ → Slot
maybe_count_slot k o = record { number = k; piece = maybe_count k o; holds = maybe_int o; is = maybe_count_is k o }

abbrev pub filled_bytes : List ℕ → List Item
filled_bytes [] = []
filled_bytes (b ∷ bytes) = Plain (Bytes (b ∷ bytes)) ∷ []

pub filled_is : (k : ℕ) (bytes : List ℕ) → filled k bytes ≡ map (item k) (filled_bytes bytes)
filled_is k [] = refl
filled_is k (b ∷ bytes) = refl

abbrev pub filled_slot : ℕ → List ℕ → Slot
filled_slot k bytes = record { number = k; piece = filled k bytes; holds = filled_bytes bytes; is = filled_is k bytes }

abbrev pub bit : Bool → Item
bit true = Plain (Int (pos 1))
bit false = Plain (Int (pos 0))

abbrev pub marked : Bool → List Item
marked true = bit true ∷ []
marked false = []

pub mark_is : (k : ℕ) (b : Bool) → mark k b ≡ map (item k) (marked b)
mark_is k true = refl
mark_is k false = refl

abbrev pub mark_slot : ℕ → Bool → Slot
mark_slot k b = record { number = k; piece = mark k b; holds = marked b; is = mark_is k b }

abbrev pub stated_bits : Option Bool → List Item
stated_bits (Some b) = bit b ∷ []
stated_bits None = []

pub stated_is : (k : ℕ) (o : Option Bool) → stated k o ≡ map (item k) (stated_bits o)
stated_is k (Some true) = refl
stated_is k (Some false) = refl
stated_is k None = refl

abbrev pub stated_slot : ℕ → Option Bool → Slot
stated_slot k o = record { number = k; piece = stated k o; holds = stated_bits o; is = stated_is k o }

abbrev pub filled_child : Items → List Item
filled_child [] = []
filled_child (p ∷ ps) = Msg (made (p ∷ ps)) ∷ []

pub options_is : (k : ℕ) (its : Items) → options k its ≡ map (item k) (filled_child its)
options_is k [] = refl
options_is k (p ∷ ps) = refl

abbrev pub options_slot : ℕ → Items → Slot
options_slot k its = record { number = k; piece = options k its; holds = filled_child its; is = options_is k its }

-- ---- what slots say

abbrev first : List Item → Option Item
first xs = slice_get xs 0

pub text_said : (n : ℕ) (m : Message) (bytes : List ℕ) → items_at n m ≡ Plain (Bytes bytes) ∷ [] → unwrap_or (option_map text_of (item_at n m)) [] ≡ bytes
text_said n m bytes e = ap (λ xs. unwrap_or (option_map text_of (first xs)) []) e

pub number_said : (n : ℕ) (m : Message) (z : ℤ) → items_at n m ≡ Plain (Int z) ∷ [] → option_map number_of (item_at n m) ≡ Some z
number_said n m z e = ap (λ xs. option_map number_of (first xs)) e

pub maybe_text_said : (n : ℕ) (m : Message) (o : Option (List ℕ)) → items_at n m ≡ maybe_bytes o → option_map text_of (item_at n m) ≡ o
maybe_text_said n m (Some bytes) e = ap (λ xs. option_map text_of (first xs)) e
maybe_text_said n m None e = ap (λ xs. option_map text_of (first xs)) e

pub maybe_number_said : (n : ℕ) (m : Message) (o : Option ℕ) → items_at n m ≡ maybe_int o → option_map number_of (item_at n m) ≡ option_map pos o
maybe_number_said n m (Some k) e = ap (λ xs. option_map number_of (first xs)) e
maybe_number_said n m None e = ap (λ xs. option_map number_of (first xs)) e

pub filled_said : (n : ℕ) (m : Message) (bytes : List ℕ) → items_at n m ≡ filled_bytes bytes → unwrap_or (option_map text_of (item_at n m)) [] ≡ bytes
filled_said n m [] e = ap (λ xs. unwrap_or (option_map text_of (first xs)) []) e
filled_said n m (b ∷ bytes) e = ap (λ xs. unwrap_or (option_map text_of (first xs)) []) e

pub mark_said : (n : ℕ) (m : Message) (b : Bool) → items_at n m ≡ marked b → unwrap_or (option_map flag_of (item_at n m)) false ≡ b
mark_said n m true e = ap (λ xs. unwrap_or (option_map flag_of (first xs)) false) e
mark_said n m false e = ap (λ xs. unwrap_or (option_map flag_of (first xs)) false) e

pub stated_said : (n : ℕ) (m : Message) (o : Option Bool) → items_at n m ≡ stated_bits o → maybe_flag_at n m ≡ o
stated_said n m (Some true) e = ap (λ xs. option_map flag_of (first xs)) e
stated_said n m (Some false) e = ap (λ xs. option_map flag_of (first xs)) e
stated_said n m None e = ap (λ xs. option_map flag_of (first xs)) e

pub options_said : (n : ℕ) (m : Message) (its : Items) → items_at n m ≡ filled_child its → options_at n m ≡ made its
options_said n m [] e = ap (λ xs. unwrap_or (option_map child_of (first xs)) (ends [])) e
options_said n m (p ∷ ps) e = ap (λ xs. unwrap_or (option_map child_of (first xs)) (ends [])) e

texts_of : (list : List (List ℕ)) → map text_of (map (λ bytes. Plain (Bytes bytes)) list) ≡ list
texts_of [] = refl
texts_of (bytes ∷ list) = ap (λ xs. bytes ∷ xs) (texts_of list)

pub texts_said : (n : ℕ) (m : Message) (list : List (List ℕ)) → items_at n m ≡ map (λ bytes. Plain (Bytes bytes)) list → texts_at n m ≡ list
texts_said n m list e = ap (map text_of) e ∙ texts_of list

numbers_of : (list : List ℕ) → map number_of (map (λ k. Plain (Int (pos k))) list) ≡ map pos list
numbers_of [] = refl
numbers_of (k ∷ list) = ap (λ xs. pos k ∷ xs) (numbers_of list)

pub numbers_said : (n : ℕ) (m : Message) (list : List ℕ) → items_at n m ≡ map (λ k. Plain (Int (pos k))) list → numbers_at n m ≡ map pos list
numbers_said n m list e = ap (map number_of) e ∙ numbers_of list

children_of : (list : List Items) → filter_map child_in (map (λ its. Msg (made its)) list) ≡ map made list
children_of [] = refl
children_of (its ∷ list) = ap (λ ms. made its ∷ ms) (children_of list)

pub children_said : (n : ℕ) (m : Message) (list : List Items) → items_at n m ≡ map (λ its. Msg (made its)) list → children_at n m ≡ map made list
children_said n m list e = ap (filter_map child_in) e ∙ children_of list
