-- What the fields of a message type are made with.
use Rattle.std.proofs.Common.{◌≡◌, ◌⊎◌, ℕ, zero, suc, ◌+◌, ◌<◌, ℤ, pos, negsuc, Bool, true, false, cond, ◌&&◌, nat_lt, List, [], ◌∷◌, ◌++◌, String, filter, length, map, take, get_or, Option, Some, None, slice_get, is_some, option_map, option_and_then, refl, ap, sym, ◌∙◌, arith, add-one, rules}
use Rattle.std.proofs.Math.Path.{fun_ext}
use Rattle.std.proofs.lemmas.Bool.{false≢true}
use Rattle.std.proofs.lemmas.Bool.Decides.{nat_tests}
use Rattle.std.specs.Prelude.{filter_map}
use Rattle.std.specs.BTreeMap.{BTreeMap, get_by_text}
use Rattle.std.specs.List.{cons_option, list_all}
use Rattle.std.specs.Str.{bytes_eq}
use Rattle.std.specs.String.{string_bytes}
use Rattle.pg_schema.proofs.lemmas.rules.PairLemmas.{and_left, and_right}
use Rattle.pg_dyn.specs.message.Kept.{Kept, message_of}
use Rattle.pg_dyn.specs.message.Message.{Message}
use Rattle.pg_schema.specs.standing.Places.{places_from}
use Rattle.pg_set.specs.declared.reading.outline.OutlinedType.{OutlinedType}
use Rattle.pg_set.specs.inner.reading.Made.{AreCounted, has_place, is_placed, AreMarked}
use Rattle.pg_set.specs.stated.TypeMessages.{is_marked, is_optional, members_at, synthetic_places}
use Rattle.pg_set.specs.inner.reading.OutlinedRows.{type_row}
use Rattle.pg_set.specs.inner.reading.Owners.{message_in}
use Rattle.pg_set.specs.stated.SetMessages.{children_at, maybe_number_at, text_at}
use Rattle.pg_set.specs.stated.StatedFields.{Owner, field, field_of, fields, items}
use Rattle.pg_set.specs.stated.StatedNames.{NameLookup, each}
use Rattle.pg_set.specs.stated.StatedOneofs as oneofs
use Rattle.pg_set.specs.stated.StatedTypes.{last_named, own_entries, owner}
use Rattle.pg_set.specs.stated.FileMessages.{is_place}
use Rattle.pg_set.proofs.lemmas.lists.Each.{each_first, each_rest}
use Rattle.pg_set.proofs.lemmas.order.OrderSteps.{suc_of}

-- ---- a list by what is at its indices

the_list : {A : Type 0} (f : ℕ → A) (d : A) (start count : ℕ) (xs : List A) → length xs ≡ count → ((i : ℕ) → i < count → get_or xs i d ≡ f (start + i)) → xs ≡ map f (places_from start count)
the_list f d start zero [] many each = refl
the_list f d start zero (x ∷ xs) many each = absurd (omega (arith, many))
the_list f d start (suc count) [] many each = absurd (omega (arith, many))
the_list f d start (suc count) (x ∷ xs) many each =
    ap (λ y. y ∷ xs) (each 0 (omega arith) ∙ ap f (omega arith))
    ∙ ap (λ ys. f start ∷ ys) (the_list f d (suc start) count xs (omega (arith, many)) (λ i h. each (suc i) (omega (arith, h)) ∙ ap f (omega arith)))

pub marks_are : (numbers : List ℤ) (count : ℕ) (marks : List Bool) → AreMarked numbers count marks → marks ≡ map (is_marked numbers) (places_from 0 count)
marks_are numbers count marks are = the_list (is_marked numbers) false 0 count marks are.all (λ i h. are.each i h ∙ ap (is_marked numbers) (omega arith))

pub counts_are : (fs : List Message) (count : ℕ) (members : List ℕ) → AreCounted fs count members → members ≡ map (λ place. members_at place fs) (places_from 0 count)
counts_are fs count members are = the_list (λ place. members_at place fs) 0 0 count members are.all (λ i h. are.each i h ∙ ap (λ place. members_at place fs) (omega arith))

-- ---- entry types by their names

last_push : (ms : List Message) (m : Message) (name : List ℕ) → last_named (ms ++ m ∷ []) name ≡ cond (bytes_eq (text_at 1 m) name) (Some m) (last_named ms name)
last_push [] m name = search rules
last_push (x ∷ ms) m name = search (rules, last_push ms m name)

pub named_more : {Y : Type 0} (old new : BTreeMap (String Y) Kept) (key : List ℕ) (ms : List Kept) (i : ℕ) (m : Kept) → i < length ms → m ≡ get_or ms i m → key ≡ text_at 1 (message_of m)
    → ((other : List ℕ) → get_by_text new other ≡ cond (bytes_eq key other) (Some m) (get_by_text old other)) → ((name : List ℕ) → message_in old name ≡ last_named (map message_of (take i ms)) name)
    → (name : List ℕ) → message_in new name ≡ last_named (map message_of (take (i + 1) ms)) name
named_more old new key ms i m h is own updates before name =
    rw add-one (ap (option_map message_of) (updates name)
    ∙ (one (bytes_eq key name)
    ∙ (ap (λ k. cond (bytes_eq k name) (Some (message_of m)) (last_named (map message_of (take i ms)) name)) own
    ∙ (sym (last_push (map message_of (take i ms)) (message_of m) name) ∙ ap (λ xs. last_named xs name) (sym (suc_of message_of ms i m h is))))))
  where
    one : (b : Bool) → option_map message_of (cond b (Some m) (get_by_text old name)) ≡ cond b (Some (message_of m)) (last_named (map message_of (take i ms)) name)
    one true = refl
    one false = before name

-- ---- all of it

same_owner : {f f' : List ℕ} {s s' : List Bool} {c c' : List ℕ} {e e' : List ℕ → Option Message} → f ≡ f' → s ≡ s' → c ≡ c' → e ≡ e'
    → ◌≡◌ {A = Owner} (record { full = f; synthetic = s; members = c; entries = e }) (record { full = f'; synthetic = s'; members = c'; entries = e' })
same_owner full synthetic members entries = cc

pub owner_is : {Y : Type 0} (o : OutlinedType) (full : List ℕ) (synthetic : List Bool) (members : List ℕ) (entries : BTreeMap (String Y) Kept) → full ≡ string_bytes o.name
    → AreMarked (synthetic_places (children_at 2 (message_of o.message))) (length (children_at 8 (message_of o.message))) synthetic
    → AreCounted (children_at 2 (message_of o.message)) (length (children_at 8 (message_of o.message))) members
    → ((name : List ℕ) → message_in entries name ≡ last_named (own_entries (message_of o.message)) name)
    → ◌≡◌ {A = Owner} (record { full = full; synthetic = synthetic; members = members; entries = message_in entries }) (owner (type_row o))
owner_is o full synthetic members entries is marked counted named = same_owner is (marks_are _ _ synthetic marked) (counts_are _ _ members counted) (fun_ext named)

pub fields_moved : (means : NameLookup) (o o' : Owner) (es es' ms ms' : List Message) → o ≡ o' → es ≡ es' → ms ≡ ms' → fields means o es ms ≡ fields means o' es' ms'
fields_moved means o o' es es' ms ms' owners entries messages = cc

got : {A : Type 0} (f : ℕ → A) (start count place : ℕ) → place < count → slice_get (map f (places_from start count)) place ≡ Some (f (start + place))
got f start zero place h = absurd (omega (arith, h))
got f start (suc count) zero h = ap (λ n. Some (f n)) (omega arith)
got f start (suc count) (suc place) h = got f (suc start) count place (omega (arith, h)) ∙ ap (λ n. Some (f n)) (omega arith)

pub got_at : {A : Type 0} (f : ℕ → A) (count place : ℕ) → place < count → slice_get (map f (places_from 0 count)) place ≡ Some (f place)
got_at f count place h = got f 0 count place h ∙ ap (λ n. Some (f n)) (omega arith)

pub length_places : {A : Type 0} (f : ℕ → A) (start count : ℕ) → length (map f (places_from start count)) ≡ count
length_places f start zero = refl
length_places f start (suc count) = ap suc (length_places f (suc start) count)

-- ---- oneofs that aren't there

out_of_range : (marks : List Bool) (place : ℕ) → nat_lt place (length marks) ≡ false → slice_get marks place ≡ None
out_of_range [] place h = refl
out_of_range (x ∷ marks) zero h = search (rules, false≢true)
out_of_range (x ∷ marks) (suc place) h = out_of_range marks place (less place (length marks) h)
  where
    less : (a b : ℕ) → nat_lt (suc a) (suc b) ≡ false → nat_lt a b ≡ false
    less a b h = grind (arith, nat_tests)

pub no_place : (marks : List Bool) (mark : Bool) (number : ℤ) → is_place (length marks) number ≡ false → oneofs.place_marked marks mark number ≡ None
no_place marks mark (pos place) h = search (rules, out_of_range)
no_place marks mark (negsuc n) h = refl

pub no_oneof : (synthetic : List Bool) (members : List ℕ) (m : Message) → has_place (length synthetic) m ≡ false → oneofs.oneof synthetic members m ≡ None
no_oneof synthetic members m h = search (rules, option_and_then, no_place, option_map, false≢true)

-- where a field names none of them, a message type states no fields
unplaced : (means : NameLookup) (o : Owner) (ms : List Message) → list_all (has_place (length o.synthetic)) ms ≡ false → each (field means o) ms ≡ None
unplaced means o [] h = absurd (false≢true (sym h))
unplaced means o (m ∷ ms) h = of (λ rest. unplaced means o ms rest) (has_place (length o.synthetic) m) refl
  where
    of : (list_all (has_place (length o.synthetic)) ms ≡ false → each (field means o) ms ≡ None) → (b : Bool) → has_place (length o.synthetic) m ≡ b → each (field means o) (m ∷ ms) ≡ None
    of later true is = each_rest (field means o) m ms (later (sym (ap (λ b. b && list_all (has_place (length o.synthetic)) ms) is) ∙ h))
    of later false is =
        each_first (field means o) m ms (ap (option_and_then (λ own. option_map (field_of m own) (items means o m (is_some own)))) (no_oneof o.synthetic o.members m is))

pub placed_or_none : (E : Type 0) (means : NameLookup) (o : Owner) (entries : List Message) (count : ℕ) (ms : List Message) → length o.synthetic ≡ count → (list_all (has_place count) ms ≡ true → E) → E ⊎ (fields means o entries ms ≡ None)
placed_or_none E means o entries count ms many refused = search (rules, option_and_then, unplaced)

-- the indices of synthetic oneofs are among those that fields name
pub synthetic_placed : (count : ℕ) (ms : List Message) → list_all (has_place count) ms ≡ true → list_all (is_place count) (synthetic_places ms) ≡ true
synthetic_placed count [] all = refl
synthetic_placed count (m ∷ ms) all = of (is_optional m) (and_left (has_place count m) (list_all (has_place count) ms) all) (synthetic_placed count ms (and_right (has_place count m) (list_all (has_place count) ms) all))
  where
    one : (o : Option ℤ) → is_placed count o ≡ true → list_all (is_place count) (synthetic_places ms) ≡ true → list_all (is_place count) (cons_option o (synthetic_places ms)) ≡ true
    one None here later = later
    one (Some n) here later = ap (λ b. b && list_all (is_place count) (synthetic_places ms)) here ∙ later

    of : (b : Bool) → has_place count m ≡ true → list_all (is_place count) (synthetic_places ms) ≡ true → list_all (is_place count) (filter_map (maybe_number_at 9) (cond b (m ∷ filter is_optional ms) (filter is_optional ms))) ≡ true
    of true here later = one (maybe_number_at 9 m) here later
    of false here later = later
