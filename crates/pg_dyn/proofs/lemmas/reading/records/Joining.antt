-- Bytes are read where each accepted record has a reading; so joined bytes are read where each part is.
use Rattle.std.proofs.Common.{◌≡◌, ℕ, zero, suc, ◌<◌, ◌≤◌, List, [], ◌∷◌, ◌++◌, map, filter, length, Bool, true, false, not, ◌&&◌, ◌||◌, cond, Option, Some, None, is_some, option_map, option_and_then, Result, Ok, Err, refl, ap, ap₂, sym, ◌∙◌, subst, arith, true≢false, rules}
use Rattle.std.specs.Bool.{⊤}
use Rattle.std.specs.List.{AllByRecursion, list_any, list_all}
use Rattle.std.proofs.lemmas.Bool.{and_parts, and_from}
use Rattle.pg_schema.specs.declared.parts.field.TypeId.{TypeId}
use Rattle.pg_schema.specs.declared.parts.field.Scalar.{Scalar}
use Rattle.pg_schema.specs.declared.parts.field.Element.{Element}
use Rattle.pg_schema.specs.declared.parts.field.Element.TheVariants as elements
use Rattle.pg_schema.specs.declared.parts.field.Presence.{Presence}
use Rattle.pg_schema.specs.declared.parts.field.Presence.TheVariants as presences
use Rattle.pg_schema.specs.Shape.{Shape, FieldShape, fields, is_repeated}
use Rattle.pg_wire.specs.declared.record.WireType.TheVariants.{Len}
use Rattle.pg_wire.specs.Reading.{Fault}
use Rattle.pg_wire.specs.Records.{WireRecord, IsRecord, records_of}
use Rattle.pg_wire.proofs.RecordLaws.{records_of_Spells, Spells_from_records_of}
use Rattle.pg_dyn.specs.reading.Optional.{all_some, after_last_of, first_or, joined}
use Rattle.pg_dyn.specs.message.Message.{Leaf, Bytes, Part}
use Rattle.pg_dyn.specs.word.Coding.{form, zero_leaf}
use Rattle.pg_dyn.specs.reading.Content.{same_wire, takes, is_sibling, counted, option_from, packed_leaves, leaves_in, leaf_bytes, last_item, plain_content, key_field, value_field, entry_part, entry_in, by_key, content}
use Rattle.pg_dyn.specs.reading.Decoding.{Reader, is_plain_readable, all_plain_readable, is_readable, all_readable, read_item, read_part, field_parts, read_records, dec}
use Rattle.pg_dyn.proofs.Lists.{each-map, each-append, each_of_all, each_both, each_swap, each_weaker, flat_map-append', list_all_true, each-joined, each_passed}
use Rattle.pg_dyn.proofs.lemmas.message.Plain.{last_item_none}
use Rattle.pg_dyn.proofs.lemmas.reading.Fields.{field_of}
use Rattle.pg_dyn.proofs.lemmas.reading.records.ReadSplits.{all_some_gives, reading_of}
use Rattle.pg_dyn.proofs.lemmas.reading.records.Readable.{ChildReads}
use Rattle.pg_dyn.proofs.lemmas.reading.Depth.{leaves_bytes, weight, weight-filter, weight-counted, weight_of_bytes, body_below_weight, no_packed, rows_leaves, each-by_key, dec_is}

-- there is a value, and it is so
abbrev pub Found : {A : Type 0} → Option A → (A → Type 0) → Type 0
Found {A} o P = (x : A) × (o ≡ Some x) × P x

pub is_some_found : {A : Type 0} (o : Option A) → is_some o ≡ true → Found o (λ x. ⊤)
is_some_found None h = absurd (cc)
is_some_found (Some x) h = (x, refl, tt)

found_all : {A B : Type 0} (g : A → Option B) (P : B → Type 0) (xs : List A) → AllByRecursion (λ x. Found (g x) P) xs → Found (all_some (map g xs)) (AllByRecursion P)
found_all g P [] h = ([], refl, tt)
found_all g P (x ∷ xs) h =
    let (y, at, good) = h.0 in
    let (ys, rest, all) = found_all g P xs h.1 in
    (y ∷ ys, rw (at, rest), (good, all))

found_map : {A B : Type 0} (g : A → B) (P : A → Type 0) (Q : B → Type 0) (o : Option A) → ((x : A) → P x → Q (g x)) → Found o P → Found (option_map g o) Q
found_map g P Q o w h = let (x, at, good) = h in (g x, rw at, w x good)

pub each_after_last : {A : Type 0} (P : A → Type 0) (test : A → Bool) (xs : List A) → AllByRecursion P xs → AllByRecursion P (after_last_of test xs)
each_after_last P test [] h = tt
each_after_last P test (x ∷ xs) h = search (rules, each_after_last P test xs h.1)

-- the records of a field that count are readable for it
pub implied : (a b : Bool) → (not a || b) ≡ true → a ≡ true → b ≡ true
implied true b h e = h
implied false b h e = absurd (cc)

module _ (child : Reader) where
  abbrev pub reads_of : Element → List Leaf → Type 0
  reads_of e leaves = AllByRecursion (ChildReads child e) leaves

  -- an accepted record's items, of which each child is read
  record_found : (number : ℕ) (p : Presence) (e : Element) (oneof : Option ℕ) (r : WireRecord) → is_plain_readable child (field_of number p e oneof) r ≡ true → Found (leaves_in (field_of number p e oneof) r) (AllByRecursion (ChildReads child e))
  record_found number p (elements.Scalar s) oneof r h =
      let (leaves, at, good) = is_some_found (leaves_in (field_of number p (elements.Scalar s) oneof) r) ((and_parts (is_some (leaves_in (field_of number p (elements.Scalar s) oneof) r)) true h).0) in
      (leaves, at, each_of_all (ChildReads child (elements.Scalar s)) (λ l. tt) leaves)
  record_found number p (elements.Enum e) oneof r h =
      let (leaves, at, good) = is_some_found (leaves_in (field_of number p (elements.Enum e) oneof) r) ((and_parts (is_some (leaves_in (field_of number p (elements.Enum e) oneof) r)) true h).0) in
      (leaves, at, each_of_all (ChildReads child (elements.Enum e)) (λ l. tt) leaves)
  record_found number p (elements.Message t) oneof r h =
      let parts = and_parts (is_some (leaves_in (field_of number p (elements.Message t) oneof) r)) (is_some (child t r.body)) h in
      elim (same_wire r.wire Len) as (λ b. is_some (cond b (Some (Bytes r.body ∷ [])) (packed_leaves (form (elements.Message t)) r.body)) ≡ true → Found (cond b (Some (Bytes r.body ∷ [])) (packed_leaves (form (elements.Message t)) r.body)) (AllByRecursion (ChildReads child (elements.Message t)))) [
        | true ↦ λ k. (Bytes r.body ∷ [], refl, (parts.1, tt))
        | false ↦ λ k.
            let (leaves, at, good) = is_some_found (packed_leaves (form (elements.Message t)) r.body) k in
            (leaves, at, subst (AllByRecursion (ChildReads child (elements.Message t))) (sym (no_packed t r.body leaves at)) tt)
      ] parts.0

-- each row of items is read as a child where all of them together are shorter than n
abbrev pub Joins : Reader → ℕ → Type 0
Joins child n = (t : TypeId) (leaves : List Leaf) → AllByRecursion (ChildReads child (elements.Message t)) leaves → length (leaves_bytes leaves) < n → is_some (child t (leaves_bytes leaves)) ≡ true

module _ (child : Reader) (n : ℕ) (joins : Joins child n) where
  last_reads : (p : Presence) (e : Element) (leaves : List Leaf) → reads_of child e leaves → length (leaves_bytes leaves) < n → reads_of child e (last_item p e leaves)
  last_reads p e leaves h short = grind (arith, each_of_all)

  -- rows of items as a content
  rows_read : (p : Presence) (e : Element) (rows : List (List Leaf)) → AllByRecursion (AllByRecursion (ChildReads child e)) rows → ((t : TypeId) → e ≡ elements.Message t → length (leaves_bytes (joined rows)) < n) → reads_of child e (cond (is_repeated p) (joined rows) (last_item p e (joined rows)))
  rows_read p (elements.Message t) rows h short =
      elim (is_repeated p) as (λ b. reads_of child (elements.Message t) (cond b (joined rows) (last_item p (elements.Message t) (joined rows))))
      [ true ↦ each-joined (ChildReads child (elements.Message t)) rows h | false ↦ last_reads p (elements.Message t) (joined rows) (each-joined (ChildReads child (elements.Message t)) rows h) (short t refl) ]
  rows_read p (elements.Scalar s) rows h short = each_of_all (ChildReads child (elements.Scalar s)) (λ l. tt) _
  rows_read p (elements.Enum e) rows h short = each_of_all (ChildReads child (elements.Enum e)) (λ l. tt) _

  messages_short : (number : ℕ) (p : Presence) (e : Element) (oneof : Option ℕ) (r : WireRecord) (rs : List WireRecord) (rows : List (List Leaf)) → all_some (map (leaves_in (field_of number p e oneof)) (r ∷ rs)) ≡ Some rows → weight (r ∷ rs) ≤ n → (t : TypeId) → e ≡ elements.Message t → length (leaves_bytes (joined rows)) < n
  messages_short number p (elements.Message u) oneof r rs rows read w t is =
      let total = rows_leaves number p u oneof (r ∷ rs) rows (all_some_gives (leaves_in (field_of number p (elements.Message u) oneof)) (r ∷ rs) rows read) in
      omega arith
  messages_short number p (elements.Scalar s) oneof r rs rows read w t is = absurd (cc)
  messages_short number p (elements.Enum e) oneof r rs rows read w t is = absurd (cc)

  plain_found : (number : ℕ) (p : Presence) (e : Element) (oneof : Option ℕ) (rs : List WireRecord) → AllByRecursion (λ r. is_plain_readable child (field_of number p e oneof) r ≡ true) rs → weight rs ≤ n → Found (plain_content (field_of number p e oneof) rs) (reads_of child e)
  plain_found number p e oneof [] h w = search (rules, last_item_none)
  plain_found number p e oneof (r ∷ rs) h w =
      let (rows, read, good) = found_all (leaves_in (field_of number p e oneof)) (AllByRecursion (ChildReads child e)) (r ∷ rs)
      (each_weaker (λ s. is_plain_readable child (field_of number p e oneof) s ≡ true) (λ s. Found (leaves_in (field_of number p e oneof) s) (AllByRecursion (ChildReads child e))) (record_found child number p e oneof) (r ∷ rs) h) in (
        cond (is_repeated p) (joined rows) (last_item p e (joined rows)),
        ap (option_map (λ x. cond (is_repeated p) (joined x) (last_item p e (joined x)))) read,
        rows_read p e rows good (messages_short number p e oneof r rs rows read w),
      )

  zero_reads : (e : Element) → 1 ≤ n → ChildReads child e (zero_leaf (form e))
  zero_reads (elements.Message t) some = joins t [] tt (omega arith)
  zero_reads (elements.Scalar s) some = tt
  zero_reads (elements.Enum e) some = tt

  first_reads : (e : Element) (d : Leaf) (leaves : List Leaf) → ChildReads child e d → reads_of child e leaves → ChildReads child e (first_or d leaves)
  first_reads e d [] h each = h
  first_reads e d (l ∷ ls) h each = each.0

  -- a key or a value of an entry
  part_of_entry : (number : ℕ) (e : Element) (rs : List WireRecord) → AllByRecursion (λ r. takes (field_of number presences.Explicit e None) r ≡ true → is_plain_readable child (field_of number presences.Explicit e None) r ≡ true) rs → weight rs < n → Found (entry_part (field_of number presences.Explicit e None) rs) (ChildReads child e)
  part_of_entry number e rs h w =
      let f = field_of number presences.Explicit e None in
      let (leaves, read, good) = plain_found number presences.Explicit e None (filter (takes f) rs) (each_passed (λ r. is_plain_readable child f r ≡ true) (takes f) rs h) (omega (arith, weight-filter (takes f) rs)) in
      (first_or (zero_leaf (form e)) leaves, ap (option_map (first_or (zero_leaf (form e)))) read, first_reads e (zero_leaf (form e)) leaves (zero_reads e (omega arith)) good)

  entry_found : (number : ℕ) (key : Scalar) (e : Element) (oneof : Option ℕ) (r : WireRecord) → length r.body < n → is_readable child (field_of number (presences.Map key) e oneof) r ≡ true → Found (entry_in key e r) (λ (x : Leaf × Leaf). ChildReads child e x.1)
  entry_found number key e oneof r short h = of (records_of r.body) refl h
    where
      fs : List FieldShape
      fs = key_field key ∷ value_field e ∷ []

      made : (rs : List WireRecord) → weight rs < n → AllByRecursion (λ s. list_all (λ f. not (takes f s) || is_plain_readable child f s) fs ≡ true) rs → Found {A = Leaf × Leaf} (option_and_then (λ k. option_map (λ v. (k, v)) (entry_part (value_field e) rs)) (entry_part (key_field key) rs)) (λ (x : Leaf × Leaf). ChildReads child e x.1)
      made rs w each =
          let (k, read_key, good_key) = part_of_entry 1 (elements.Scalar key) rs
          (each_weaker (λ s. list_all (λ f. not (takes f s) || is_plain_readable child f s) fs ≡ true) (λ s. takes (key_field key) s ≡ true → is_plain_readable child (key_field key) s ≡ true)
          (λ s g. implied (takes (key_field key) s) (is_plain_readable child (key_field key) s) ((list_all_true (λ f. not (takes f s) || is_plain_readable child f s) fs g).0)) rs each) w in
          let (v, read_value, good_value) = part_of_entry 2 e rs
          (each_weaker (λ s. list_all (λ f. not (takes f s) || is_plain_readable child f s) fs ≡ true) (λ s. takes (value_field e) s ≡ true → is_plain_readable child (value_field e) s ≡ true)
          (λ s g. implied (takes (value_field e) s) (is_plain_readable child (value_field e) s) ((list_all_true (λ f. not (takes f s) || is_plain_readable child f s) fs g).1.0)) rs each) w in
          ((k, v), rw (read_key, read_value), good_value)

      of : (found : Result (List WireRecord) Fault) → records_of r.body ≡ found → is_some (option_and_then (λ rs. cond (all_plain_readable child fs rs) (Some rs) None) (option_from found)) ≡ true → Found (entry_in key e r) (λ (x : Leaf × Leaf). ChildReads child e x.1)
      of (Err fault) is g = absurd (cc)
      of (Ok rs) is g =
          let within = (weight_of_bytes r.body rs is).1 in
          let good : all_plain_readable child fs rs ≡ true =
          elim (all_plain_readable child fs rs) as (λ b. is_some (cond b (Some rs) None) ≡ true → b ≡ true) [ true ↦ λ k. refl | false ↦ λ k. k ] g in
          rw is (made rs (omega arith) (list_all_true (λ s. list_all (λ f. not (takes f s) || is_plain_readable child f s) fs) rs good))

  entries_found : (number : ℕ) (key : Scalar) (e : Element) (oneof : Option ℕ) (rs : List WireRecord) → weight rs ≤ n → AllByRecursion (λ r. is_readable child (field_of number (presences.Map key) e oneof) r ≡ true) rs → Found (all_some (map (entry_in key e) rs)) (AllByRecursion (λ (x : Leaf × Leaf). ChildReads child e x.1))
  entries_found number key e oneof rs w h =
      found_all (entry_in key e) (λ (x : Leaf × Leaf). ChildReads child e x.1) rs
      (each_weaker (λ r. (length r.body < n) × (is_readable child (field_of number (presences.Map key) e oneof) r ≡ true)) (λ r. Found (entry_in key e r) (λ (x : Leaf × Leaf). ChildReads child e x.1))
      (λ r g. entry_found number key e oneof r g.0 g.1) rs
      (each_both (λ r. length r.body < n) (λ r. is_readable child (field_of number (presences.Map key) e oneof) r ≡ true) rs (body_below_weight n rs w) h))

  -- the content of a field whose records are readable, each child of which is read
  content_found : (number : ℕ) (p : Presence) (e : Element) (oneof : Option ℕ) (rs : List WireRecord) → weight rs ≤ n → AllByRecursion (λ r. is_readable child (field_of number p e oneof) r ≡ true) rs → Found (content (field_of number p e oneof) rs) (AllByRecursion (λ (q : Part Leaf). ChildReads child e q.item))
  content_found number p e oneof rs w h = of p h
    where
      part : Leaf → Part Leaf
      part leaf = record { number = number; key = None; item = leaf }

      plain : (x : Presence) → AllByRecursion (λ r. is_plain_readable child (field_of number x e oneof) r ≡ true) rs → Found (option_map (map part) (plain_content (field_of number x e oneof) rs)) (AllByRecursion (λ (q : Part Leaf). ChildReads child e q.item))
      plain x g =
          found_map (map part) (reads_of child e) (AllByRecursion (λ (q : Part Leaf). ChildReads child e q.item)) (plain_content (field_of number x e oneof) rs)
          (λ leaves good. each-map (λ (q : Part Leaf). ChildReads child e q.item) part leaves good) (plain_found number x e oneof rs g w)

      of : (x : Presence) → AllByRecursion (λ r. is_readable child (field_of number x e oneof) r ≡ true) rs → Found (content (field_of number x e oneof) rs) (AllByRecursion (λ (q : Part Leaf). ChildReads child e q.item))
      of presences.Implicit g = plain presences.Implicit g
      of presences.Explicit g = plain presences.Explicit g
      of (presences.Repeated packed) g = plain (presences.Repeated packed) g
      of (presences.Map key) g =
          found_map (λ es. map (λ (x : Leaf × Leaf). record { number = number; key = Some x.0; item = x.1 }) (by_key es)) (AllByRecursion (λ (x : Leaf × Leaf). ChildReads child e x.1)) (AllByRecursion (λ (q : Part Leaf). ChildReads child e q.item)) (all_some (map (entry_in key e) rs))
          (λ es good. each-map (λ (q : Part Leaf). ChildReads child e q.item) (λ (x : Leaf × Leaf). record { number = number; key = Some x.0; item = x.1 }) (by_key es) (each-by_key (λ (x : Leaf × Leaf). ChildReads child e x.1) es good))
          (entries_found number key e oneof rs w g)

  item_found : (e : Element) (leaf : Leaf) → ChildReads child e leaf → Found (read_item child e leaf) (λ x. ⊤)
  item_found e leaf h = grind (arith, found_map, is_some_found)

  part_found : (e : Element) (q : Part Leaf) → ChildReads child e q.item → Found (read_part child e q) (λ x. ⊤)
  part_found e q h = found_map (λ item. record { number = q.number; key = q.key; item = item }) (λ x. ⊤) (λ x. ⊤) (read_item child e q.item) (λ x k. tt) (item_found e q.item h)

  module _ (fs : List FieldShape) (rs : List WireRecord) (w : weight rs ≤ n) (readable : all_readable child fs rs ≡ true) where
    -- what the test of all records says of one field
    own_readable : AllByRecursion (λ f. AllByRecursion (λ r. takes f r ≡ true → is_readable child f r ≡ true) rs) fs
    own_readable =
        each_swap (λ r f. takes f r ≡ true → is_readable child f r ≡ true) rs fs
        (each_weaker (λ r. list_all (λ f. not (takes f r) || is_readable child f r) fs ≡ true) (λ r. AllByRecursion (λ f. takes f r ≡ true → is_readable child f r ≡ true) fs)
        (λ r h. each_weaker (λ f. (not (takes f r) || is_readable child f r) ≡ true) (λ f. takes f r ≡ true → is_readable child f r ≡ true) (λ f k. implied (takes f r) (is_readable child f r) k) fs (list_all_true (λ f. not (takes f r) || is_readable child f r) fs h))
        rs (list_all_true (λ r. list_all (λ f. not (takes f r) || is_readable child f r) fs) rs readable))

    field_found : (f : FieldShape) → AllByRecursion (λ r. takes f r ≡ true → is_readable child f r ≡ true) rs → Found (field_parts child fs rs f) (λ x. ⊤)
    field_found f h =
        let test : WireRecord → Bool = λ r. list_any (λ g. is_sibling f g && takes g r) fs in
        let each = each_passed (λ r. is_readable child f r ≡ true) (takes f) (after_last_of test rs) (each_after_last (λ r. takes f r ≡ true → is_readable child f r ≡ true) test rs h) in
        let (ps, read, good) = content_found f.number f.presence f.element f.oneof (counted fs f rs) (omega (arith, weight-counted fs f rs)) each in
        let (items, made, all) = found_all (read_part child f.element) (λ x. ⊤) ps (each_weaker (λ (q : Part Leaf). ChildReads child f.element q.item) (λ q. Found (read_part child f.element q) (λ x. ⊤)) (part_found f.element) ps good) in
        (items, rw read made, tt)

    pub records_found : is_some (read_records child fs rs) ≡ true
    records_found =
        let (pieces, read, all) = found_all (field_parts child fs rs) (λ x. ⊤) fs (each_weaker (λ f. AllByRecursion (λ r. takes f r ≡ true → is_readable child f r ≡ true) rs) (λ f. Found (field_parts child fs rs f) (λ x. ⊤)) field_found fs own_readable) in
        rw (readable, read) refl

-- Joined rows of records are the records of the joined bytes.

pub list_all-append : {A : Type 0} (test : A → Bool) (xs ys : List A) → list_all test xs ≡ true → list_all test ys ≡ true → list_all test (xs ++ ys) ≡ true
list_all-append test [] ys h k = k
list_all-append test (x ∷ xs) ys h k =
    search (rules, and_parts, and_from, list_all-append test xs ys)

pub records_of-append : (a b : List ℕ) (rs ss : List WireRecord) → records_of a ≡ Ok rs → records_of b ≡ Ok ss → records_of (a ++ b) ≡ Ok (rs ++ ss)
records_of-append a b rs ss h k =
    let first = Spells_from_records_of a rs h in
    let second = Spells_from_records_of b ss k in
    records_of_Spells (a ++ b) (rs ++ ss)
    (record {
      joined = ap₂ (λ xs ys. xs ++ ys) first.joined second.joined ∙ sym (flat_map-append' (λ (r : WireRecord). r.bytes) rs ss);
      each = each-append IsRecord rs ss first.each second.each;
    })

module _ (shape : Shape) where
  -- records that spell the bytes, each of which has a reading
  abbrev pub IsReadable : TypeId → List ℕ → Type 0
  IsReadable type bytes = (rs : List WireRecord) × (records_of bytes ≡ Ok rs) × (all_readable (dec shape) (fields shape type) rs ≡ true)

  -- what is read is readable
  pub readable_from_dec : (type : TypeId) (bytes : List ℕ) → is_some (dec shape type bytes) ≡ true → IsReadable type bytes
  readable_from_dec type bytes h = search (rules, dec_is, true≢false, is_some_found, reading_of)

  readable-append : (type : TypeId) (a b : List ℕ) → IsReadable type a → IsReadable type b → IsReadable type (a ++ b)
  readable-append type a b h k = (
    h.0 ++ k.0,
    records_of-append a b h.0 k.0 h.1 k.1,
    list_all-append (λ r. list_all (λ f. not (takes f r) || is_readable (dec shape) f r) (fields shape type)) h.0 k.0 h.2 k.2,
  )

  readable-nil : (type : TypeId) → IsReadable type []
  readable-nil type = ([], records_of_Spells [] [] (record { joined = refl; each = tt }), refl)

  readable-leaves : (type : TypeId) (leaves : List Leaf) → AllByRecursion (ChildReads (dec shape) (elements.Message type)) leaves → IsReadable type (leaves_bytes leaves)
  readable-leaves type [] h = readable-nil type
  readable-leaves type (l ∷ ls) h = readable-append type (leaf_bytes l) (leaves_bytes ls) (readable_from_dec type (leaf_bytes l) h.0) (readable-leaves type ls h.1)

  -- what is readable is read, given this of fewer bytes
  read_given : (n : ℕ) → Joins (dec shape) n → (type : TypeId) (bytes : List ℕ) → length bytes ≤ n → IsReadable type bytes → is_some (dec shape type bytes) ≡ true
  read_given n joins type bytes short h =
      rw (dec_is shape type bytes, h.1)
      (records_found (dec shape) n joins (fields shape type) h.0 (let within = (weight_of_bytes bytes h.0 h.1).1 in omega arith) h.2)

  joins_below : (n : ℕ) → Joins (dec shape) n
  joins_below zero = λ type leaves h short. absurd (omega arith)
  joins_below (suc n) = λ type leaves h short. read_given n (joins_below n) type (leaves_bytes leaves) (omega arith) (readable-leaves type leaves h)

  -- What is readable is read.
  pub dec_from_readable : (type : TypeId) (bytes : List ℕ) → IsReadable type bytes → is_some (dec shape type bytes) ≡ true
  dec_from_readable type bytes h = read_given (length bytes) (joins_below (length bytes)) type bytes (omega arith) h
