-- The content of a field is read again from the records that are written of it.
use Rattle.std.proofs.Common.{◌≡◌, ℕ, ◌^◌, ◌<◌, ◌≤◌, List, [], ◌∷◌, ◌++◌, map, flat_map, fold, length, true, false, Option, Some, None, unwrap_or, refl, ap, sym, subst, ◌∙◌, append-nil, append_assoc, rules, arith}
use Rattle.std.specs.Bool.{⊤}
use Rattle.std.specs.List.{AllByRecursion}
use Rattle.std.specs.declared.cmp.Ordering.TheVariants.{Less, Greater}
use Rattle.std.proofs.lemmas.Cmp.{int_cmp_total, nat_list_cmp_total}
use Rattle.std.proofs.lemmas.Bool.{or_left, or_right}
use Rattle.pg_schema.specs.declared.parts.field.Scalar.{Scalar}
use Rattle.pg_schema.specs.declared.parts.field.Element.{Element}
use Rattle.pg_schema.specs.declared.parts.field.Element.TheVariants as elements
use Rattle.pg_schema.specs.declared.parts.field.Presence.{Presence}
use Rattle.pg_schema.specs.declared.parts.field.Presence.TheVariants as presences
use Rattle.pg_schema.specs.Shape.{FieldShape, is_packable}
use Rattle.pg_schema.specs.ShapeRules.{PresenceFits}
use Rattle.pg_wire.specs.declared.record.WireType.TheVariants.{Len}
use Rattle.pg_wire.specs.Records.{WireRecord, IsRecord, written}
use Rattle.pg_wire.proofs.RecordLaws.{IsRecord-written}
use Rattle.pg_dyn.specs.reading.Optional.{all_some}
use Rattle.pg_dyn.specs.message.Message.{Leaf, Part, key_cmp}
use Rattle.pg_dyn.specs.word.Coding.{form, form_wire, body, zero_leaf}
use Rattle.pg_dyn.specs.reading.Content.{same_wire, own_wire, is_accepted, leaves_in, last_item, entry_in, put, by_key, content}
use Rattle.pg_dyn.specs.encoding.Writing.{item_record, entry_bytes, key_of, field_records}
use Rattle.pg_dyn.specs.fitting.Belonging.{KeyFits, MayFollow}
use Rattle.pg_dyn.proofs.lemmas.word.Codings.{Reads, Reads-from_range}
use Rattle.pg_dyn.proofs.Lists.{all_some-map_map, joined-map_single, map_back, each_weaker, each_of_all, each-map, each-append}
use Rattle.pg_dyn.specs.laws.Bodies.{IsReadAs, entry_body, record_with}
use Rattle.pg_dyn.specs.laws.OwnParts.{FitsField, FitsFrom, KeyIsRead, Ordered, ShortBodies, records_with}
use Rattle.pg_dyn.proofs.lemmas.message.Plain.{same_wire_self, packable_wire, packed_read, singles_read, last_item_one, last_item_none}
use Rattle.pg_dyn.proofs.lemmas.reading.entries.Entries.{entry_read, IsRecord-item_record, length_body-written}

abbrev pub field_of : ℕ → Presence → Element → Option ℕ → FieldShape
field_of number p e oneof = record { number = number; presence = p; element = e; oneof = oneof }

pub above_from_less : (k l : Leaf) → key_cmp k l ≡ Less → key_cmp l k ≡ Greater
above_from_less k l h = grind (arith, int_cmp_total, nat_list_cmp_total)

-- each later entry has a greater key
abbrev pub EntriesRise : List (Leaf × Leaf) → Type 0
EntriesRise [] = ⊤
EntriesRise (e ∷ es) = AllByRecursion (λ (x : Leaf × Leaf). key_cmp x.0 e.0 ≡ Greater) es × EntriesRise es

-- an entry with a greater key than all others comes last
put_last : (entry : Leaf × Leaf) (placed : List (Leaf × Leaf)) → AllByRecursion (λ (e : Leaf × Leaf). key_cmp entry.0 e.0 ≡ Greater) placed → put entry placed ≡ placed ++ entry ∷ []
put_last entry [] h = refl
put_last entry (e ∷ placed) h = rw h.0 (ap (λ es. e ∷ es) (put_last entry placed h.1))

pub put_ordered : (placed es : List (Leaf × Leaf)) → AllByRecursion (λ (x : Leaf × Leaf). AllByRecursion (λ (e : Leaf × Leaf). key_cmp x.0 e.0 ≡ Greater) placed) es → EntriesRise es
    → fold (λ qs entry. put entry qs) placed es ≡ placed ++ es
put_ordered placed [] above rise = sym (append-nil placed)
put_ordered placed (e ∷ es) above rise =
    ap (λ qs. fold (λ ps entry. put entry ps) qs es) (put_last e placed above.0)
    ∙ put_ordered (placed ++ e ∷ []) es (each_above es above.1 rise.0) rise.1
    ∙ append_assoc placed (e ∷ []) es
  where
    each_above : (xs : List (Leaf × Leaf)) → AllByRecursion (λ (x : Leaf × Leaf). AllByRecursion (λ (y : Leaf × Leaf). key_cmp x.0 y.0 ≡ Greater) placed) xs → AllByRecursion (λ (x : Leaf × Leaf). key_cmp x.0 e.0 ≡ Greater) xs
        → AllByRecursion (λ (x : Leaf × Leaf). AllByRecursion (λ (y : Leaf × Leaf). key_cmp x.0 y.0 ≡ Greater) (placed ++ e ∷ [])) xs
    each_above [] h k = tt
    each_above (x ∷ xs) h k = (each-append (λ (y : Leaf × Leaf). key_cmp x.0 y.0 ≡ Greater) placed (e ∷ []) h.0 (k.0, tt), each_above xs h.1 k.1)

module _ (number : ℕ) (e : Element) (key_body item_body : Leaf → List ℕ) where
  abbrev plain_part : Leaf → Part Leaf
  plain_part leaf = record { number = number; key = None; item = leaf }

  abbrev entry_part_of : Leaf × Leaf → Part Leaf
  entry_part_of entry = record { number = number; key = Some entry.0; item = entry.1 }

  -- the parts from their items
  plain_back : (p : Presence) → ((key : Option Leaf) → KeyFits p key → key ≡ None) → (qs : List (Part Leaf)) → AllByRecursion (FitsFrom key_body item_body number p e) qs → map plain_part (map (λ (q : Part Leaf). q.item) qs) ≡ qs
  plain_back p no_key qs h = search (rules, map_back, each_weaker)

  each_reads : (p : Presence) (qs : List (Part Leaf)) → AllByRecursion (FitsFrom key_body item_body number p e) qs → AllByRecursion (λ q. IsReadAs (form e) (item_body q.item) q.item) qs
  each_reads p qs h = each_weaker (FitsFrom key_body item_body number p e) (λ q. IsReadAs (form e) (item_body q.item) q.item) (λ q f. f.reads) qs h

  singular_again : (p : Presence) → ((key : Option Leaf) → KeyFits p key → key ≡ None) → ((k l : Option Leaf) → MayFollow p k l → ⊥) → (qs : List (Part Leaf)) → AllByRecursion (FitsFrom key_body item_body number p e) qs → Ordered p qs → map plain_part (last_item p e (map (λ (q : Part Leaf). q.item) qs)) ≡ qs
  singular_again p no_key alone [] h order = ap (map plain_part) (last_item_none p e)
  singular_again p no_key alone (q ∷ []) h order = search (rules, last_item_one, plain_back)
  singular_again p no_key alone (q ∷ r ∷ qs) h order = absurd (alone q.key r.key order.0.0)

  rows_again : (p : Presence) (oneof : Option ℕ) (qs : List (Part Leaf)) → AllByRecursion (FitsFrom key_body item_body number p e) qs → all_some (map (leaves_in (field_of number p e oneof)) (map (λ (q : Part Leaf). record_with number e (item_body q.item)) qs)) ≡ Some (map (λ (q : Part Leaf). q.item ∷ []) qs)
  rows_again p oneof qs h = singles_read e (λ (q : Part Leaf). item_body q.item) (λ (q : Part Leaf). q.item) (field_of number p e oneof) refl qs (each_reads p qs h)

  -- entries in order stay as they are
  by_key_ordered : (key : Scalar) (qs : List (Part Leaf)) → AllByRecursion (FitsFrom key_body item_body number (presences.Map key) e) qs → Ordered (presences.Map key) qs → by_key (map (λ (q : Part Leaf). (key_of key q, q.item)) qs) ≡ map (λ (q : Part Leaf). (key_of key q, q.item)) qs
  by_key_ordered key qs h order = put_ordered [] (map (λ (q : Part Leaf). (key_of key q, q.item)) qs) (each_of_all (λ e. ⊤) (λ e. tt) _) (rising qs h order)
    where
      key_above : (k l : Option Leaf) → KeyFits (presences.Map key) k → KeyFits (presences.Map key) l → MayFollow (presences.Map key) k l → key_cmp (unwrap_or l (zero_leaf (form (elements.Scalar key)))) (unwrap_or k (zero_leaf (form (elements.Scalar key)))) ≡ Greater
      key_above None l a b less = absurd a
      key_above (Some k) None a b less = absurd b
      key_above (Some k) (Some l) a b less = above_from_less k l less

      all_above : (q : Part Leaf) (rs : List (Part Leaf)) → KeyFits (presences.Map key) q.key → AllByRecursion (FitsFrom key_body item_body number (presences.Map key) e) rs → AllByRecursion (λ r. MayFollow (presences.Map key) q.key r.key) rs → AllByRecursion (λ (x : Leaf × Leaf). key_cmp x.0 (key_of key q) ≡ Greater) (map (λ (r : Part Leaf). (key_of key r, r.item)) rs)
      all_above q [] k h follow = tt
      all_above q (r ∷ rs) k h follow = (key_above q.key r.key k h.0.key_fits follow.0, all_above q rs k h.1 follow.1)

      rising : (qs : List (Part Leaf)) → AllByRecursion (FitsFrom key_body item_body number (presences.Map key) e) qs → Ordered (presences.Map key) qs → EntriesRise (map (λ (q : Part Leaf). (key_of key q, q.item)) qs)
      rising [] h order = tt
      rising (q ∷ qs) h order = (all_above q qs h.0.key_fits h.1 order.0, rising qs h.1 order.1)

  unfoldable entry_record : Scalar → Part Leaf → WireRecord
  entry_record key q = written number Len (entry_body key e (key_body (key_of key q)) (item_body q.item))

  key_is_read : (key : Scalar) (k : Option Leaf) → KeyIsRead (presences.Map key) key_body k → IsReadAs (form (elements.Scalar key)) (key_body (unwrap_or k (zero_leaf (form (elements.Scalar key))))) (unwrap_or k (zero_leaf (form (elements.Scalar key))))
  key_is_read key None a = absurd a
  key_is_read key (Some k) a = a

  entry_one : (key : Scalar) (q : Part Leaf) → FitsFrom key_body item_body number (presences.Map key) e q → length (entry_record key q).body < 2 ^ 64 → entry_in key e (entry_record key q) ≡ Some (key_of key q, q.item)
  unfolding entry_record written
  entry_one key q f fits = entry_read key e (key_body (key_of key q), key_of key q) (item_body q.item, q.item) (key_is_read key q.key f.key_read) f.reads f.nested number fits

  entry_each : (key : Scalar) (ps : List (Part Leaf)) → AllByRecursion (FitsFrom key_body item_body number (presences.Map key) e) ps → ShortBodies (map (entry_record key) ps) → AllByRecursion (λ q. entry_in key e (entry_record key q) ≡ Some (key_of key q, q.item)) ps
  entry_each key [] g s = tt
  entry_each key (q ∷ ps) g s = (entry_one key q g.0 s.0, entry_each key ps g.1 s.1)

  entries_again : (key : Scalar) (qs : List (Part Leaf)) → AllByRecursion (FitsFrom key_body item_body number (presences.Map key) e) qs → ShortBodies (map (entry_record key) qs) → all_some (map (entry_in key e) (map (entry_record key) qs)) ≡ Some (map (λ (q : Part Leaf). (key_of key q, q.item)) qs)
  entries_again key qs h short = search (rules, all_some-map_map, entry_each)

  entries_back : (key : Scalar) (qs : List (Part Leaf)) → AllByRecursion (FitsFrom key_body item_body number (presences.Map key) e) qs → map entry_part_of (map (λ (q : Part Leaf). (key_of key q, q.item)) qs) ≡ qs
  entries_back key qs h = search (rules, map_back, each_weaker)

  pub packed_leaves_in : (oneof : Option ℕ) (qs : List (Part Leaf)) → is_packable e ≡ true → AllByRecursion (λ q. IsReadAs (form e) (item_body q.item) q.item) qs → leaves_in (field_of number (presences.Repeated true) e oneof) (written number Len (flat_map (λ (q : Part Leaf). item_body q.item) qs)) ≡ Some (map (λ (q : Part Leaf). q.item) qs)
  unfolding written
  packed_leaves_in oneof qs packable reads = rw (packable_wire e packable) (packed_read e (λ (q : Part Leaf). item_body q.item) (λ (q : Part Leaf). q.item) packable qs reads)

  -- The content of a field is read again.
  pub content_of_field : (p : Presence) (oneof : Option ℕ) → PresenceFits p e oneof → (qs : List (Part Leaf)) → AllByRecursion (FitsFrom key_body item_body number p e) qs → Ordered p qs → ShortBodies (records_with key_body item_body (field_of number p e oneof) qs) → content (field_of number p e oneof) (records_with key_body item_body (field_of number p e oneof) qs) ≡ Some qs
  unfolding entry_record
  content_of_field presences.Implicit oneof fits qs h order short =
      rw (rows_again presences.Implicit oneof qs h, joined-map_single (λ (q : Part Leaf). q.item) qs)
      (ap Some (singular_again presences.Implicit (λ k g. g) (λ k l g. g) qs h order))
  content_of_field presences.Explicit oneof fits qs h order short =
      rw (rows_again presences.Explicit oneof qs h, joined-map_single (λ (q : Part Leaf). q.item) qs)
      (ap Some (singular_again presences.Explicit (λ k g. g) (λ k l g. g) qs h order))
  content_of_field (presences.Repeated false) oneof fits qs h order short =
      rw (rows_again (presences.Repeated false) oneof qs h, joined-map_single (λ (q : Part Leaf). q.item) qs)
      (ap Some (plain_back (presences.Repeated false) (λ k g. g) qs h))
  content_of_field (presences.Repeated true) oneof fits [] h order short = refl
  content_of_field (presences.Repeated true) oneof fits (q ∷ qs) h order short =
      rw (packed_leaves_in oneof (q ∷ qs) (fits.1 refl) (each_reads (presences.Repeated true) (q ∷ qs) h))
      (ap Some (ap (map plain_part) (append-nil (map (λ (r : Part Leaf). r.item) (q ∷ qs))) ∙ plain_back (presences.Repeated true) (λ k g. g) (q ∷ qs) h))
  content_of_field (presences.Map key) oneof fits qs h order short =
      rw (entries_again key qs h short, by_key_ordered key qs h order) (ap Some (entries_back key qs h))

pub key_reads : (key : Scalar) (k : Option Leaf) → KeyFits (presences.Map key) k → Reads (form (elements.Scalar key)) (unwrap_or k (zero_leaf (form (elements.Scalar key))))
key_reads key None a = absurd a
key_reads key (Some k) a = Reads-from_range (elements.Scalar key) k a

-- a field's own bodies
abbrev own_key_body : Presence → Leaf → List ℕ
own_key_body (presences.Map key) k = body (form (elements.Scalar key)) k
own_key_body presences.Implicit k = []
own_key_body presences.Explicit k = []
own_key_body (presences.Repeated packed) k = []

own_key_read : (p : Presence) (k : Option Leaf) → KeyFits p k → KeyIsRead p (own_key_body p) k
own_key_read (presences.Map key) (Some k) h = Reads-from_range (elements.Scalar key) k h
own_key_read (presences.Map key) None h = absurd h
own_key_read presences.Implicit k h = tt
own_key_read presences.Explicit k h = tt
own_key_read (presences.Repeated packed) k h = tt

own_records_with : (number : ℕ) (p : Presence) (e : Element) (oneof : Option ℕ) (qs : List (Part Leaf)) → records_with (own_key_body p) (body (form e)) (field_of number p e oneof) qs ≡ field_records (field_of number p e oneof) qs
own_records_with number p e oneof qs = grind arith

pub content_again : (f : FieldShape) → PresenceFits f.presence f.element f.oneof → (qs : List (Part Leaf)) → AllByRecursion (FitsField f.number f.presence f.element) qs → Ordered f.presence qs → ShortBodies (field_records f qs) → content f (field_records f qs) ≡ Some qs
content_again f fits qs h order short =
    let same = own_records_with f.number f.presence f.element f.oneof qs in
    subst (λ rs. content f rs ≡ Some qs) same
    (content_of_field f.number f.element (own_key_body f.presence) (body (form f.element)) f.presence f.oneof fits qs
    (each_weaker (FitsField f.number f.presence f.element) (FitsFrom (own_key_body f.presence) (body (form f.element)) f.number f.presence f.element)
    (λ q g. record { number_is = g.number_is; key_fits = g.key_fits; key_read = own_key_read f.presence q.key g.key_fits; reads = g.reads; may_be_zero = g.may_be_zero; nested = g.nested }) qs h)
    order (subst ShortBodies (sym same) short))

-- What is written of a field are its own records.

pub record IsOwn (f : FieldShape) (r : WireRecord) : Type 0 where
  pub number_is : r.number ≡ f.number
  pub accepted : is_accepted f r ≡ true
  pub body_within : length r.body < length r.bytes
  pub is_record : 1 ≤ f.number → f.number < 2 ^ 29 → length r.body < 2 ^ 64 → IsRecord r

module _ (number : ℕ) (e : Element) (oneof : Option ℕ) where
  own_item : (p : Presence) → own_wire (field_of number p e oneof) ≡ form_wire (form e) → (leaf : Leaf) → Reads (form e) leaf → IsOwn (field_of number p e oneof) (item_record number e leaf)
  unfolding written
  own_item p own leaf reads = record {
    number_is = refl;
    accepted = rw own (or_left _ _ (same_wire_self (form_wire (form e))));
    body_within = length_body-written number (form_wire (form e)) (body (form e) leaf);
    is_record = λ low high fits. IsRecord-item_record number e leaf low high reads fits;
  }

  own_len : (p : Presence) (bytes : List ℕ) → is_accepted (field_of number p e oneof) (written number Len bytes) ≡ true → IsOwn (field_of number p e oneof) (written number Len bytes)
  unfolding written
  own_len p bytes accepted = record { number_is = refl; accepted = accepted; body_within = length_body-written number Len bytes; is_record = λ low high fits. IsRecord-written number Len bytes low high fits }

  own_packed : (bytes : List ℕ) → is_packable e ≡ true → is_accepted (field_of number (presences.Repeated true) e oneof) (written number Len bytes) ≡ true
  unfolding written
  own_packed bytes packable = or_right (same_wire Len (form_wire (form e))) _ packable

  own_entry : (key : Scalar) (bytes : List ℕ) → is_accepted (field_of number (presences.Map key) e oneof) (written number Len bytes) ≡ true
  unfolding written
  own_entry key bytes = refl

  each_item : (p : Presence) → own_wire (field_of number p e oneof) ≡ form_wire (form e) → (qs : List (Part Leaf)) → AllByRecursion (FitsField number p e) qs → AllByRecursion (IsOwn (field_of number p e oneof)) (map (λ (q : Part Leaf). item_record number e q.item) qs)
  each_item p own qs h =
      each-map (IsOwn (field_of number p e oneof)) (λ (q : Part Leaf). item_record number e q.item) qs
      (each_weaker (FitsField number p e) (λ q. IsOwn (field_of number p e oneof) (item_record number e q.item)) (λ q f. own_item p own q.item f.reads) qs h)

  own_of_field : (p : Presence) → PresenceFits p e oneof → (qs : List (Part Leaf)) → AllByRecursion (FitsField number p e) qs → AllByRecursion (IsOwn (field_of number p e oneof)) (field_records (field_of number p e oneof) qs)
  own_of_field presences.Implicit fits qs h = each_item presences.Implicit refl qs h
  own_of_field presences.Explicit fits qs h = each_item presences.Explicit refl qs h
  own_of_field (presences.Repeated false) fits qs h = each_item (presences.Repeated false) refl qs h
  own_of_field (presences.Repeated true) fits [] h = tt
  own_of_field (presences.Repeated true) fits (q ∷ qs) h =
      (own_len (presences.Repeated true) _ (own_packed (flat_map (λ (r : Part Leaf). body (form e) r.item) (q ∷ qs)) (fits.1 refl)), tt)
  own_of_field (presences.Map key) fits qs h =
      each-map (IsOwn (field_of number (presences.Map key) e oneof)) (λ (q : Part Leaf). written number Len (entry_bytes key e (key_of key q) q.item)) qs
      (each_of_all (λ (q : Part Leaf). IsOwn (field_of number (presences.Map key) e oneof) (written number Len (entry_bytes key e (key_of key q) q.item)))
      (λ q. own_len (presences.Map key) (entry_bytes key e (key_of key q) q.item) (own_entry key _)) qs)

pub each_own : (f : FieldShape) → PresenceFits f.presence f.element f.oneof → (qs : List (Part Leaf)) → AllByRecursion (FitsField f.number f.presence f.element) qs → AllByRecursion (IsOwn f) (field_records f qs)
each_own f fits qs h = own_of_field f.number f.element f.oneof f.presence fits qs h
