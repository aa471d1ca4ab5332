-- An encoding grows by one record where a part is put after the others.
use Rattle.std.proofs.Common.{◌≡◌, ◌≢◌, ℕ, ◌<◌, ◌≤◌, ◌⊎◌, ⊎_elim, List, [], ◌∷◌, ◌++◌, map, filter, false, Option, Some, None, refl, ap, ap₂, sym, ◌∙◌, subst, arith, eq-eqb, ne_eqb, append-nil, append_assoc, rules}
use Rattle.std.specs.List.{AllByRecursion}
use Rattle.std.proofs.lemmas.Bool.{cases_eq}
use Rattle.std.proofs.lemmas.List.{map-append}
use Rattle.pg_schema.specs.declared.parts.field.TypeId.{TypeId}
use Rattle.pg_schema.specs.declared.parts.field.Element.{Element}
use Rattle.pg_schema.specs.declared.parts.field.Presence.{Presence}
use Rattle.pg_schema.specs.declared.parts.field.Presence.TheVariants as presences
use Rattle.pg_schema.specs.Shape.{Shape, FieldShape, fields, field_at}
use Rattle.pg_schema.specs.ShapeRules.{Rising}
use Rattle.pg_wire.specs.Records.{WireRecord}
use Rattle.pg_dyn.specs.message.Message.{Leaf, Bytes, Item, Plain, Msg, Message, ends, Part, Place, place_of, is_of, message_from, places, with_part}
use Rattle.pg_dyn.specs.fitting.Belonging.{KeyFits, MayFollow, ComesBefore, IsAlone, IsPart, IsMessage}
use Rattle.pg_dyn.specs.encoding.Writing.{item_record, field_records, records_in, bytes_of}
use Rattle.pg_dyn.specs.encoding.Encoding.{child_type, encoded_parts, enc}
use Rattle.pg_dyn.specs.encoding.Growing.{leaf_for, IsOfField, keyless, ComesLast, EncodingGrows}
use Rattle.pg_dyn.proofs.Lists.{each_weaker, each-append, each-map, filter-append', filter_none, flat_map-append'}
use Rattle.pg_dyn.proofs.lemmas.fitting.Belonging.{child_type_is, fields-IsType}
use Rattle.pg_dyn.proofs.lemmas.reading.Fields.{field_of}
use Rattle.pg_dyn.proofs.lemmas.reading.records.ReadSplits.{parts-message_from}
use Rattle.pg_dyn.proofs.lemmas.fitting.NoSiblings.{no_sibling_behind}
use Rattle.pg_dyn.proofs.lemmas.laws.Order.{places-parts}
use Rattle.pg_dyn.proofs.lemmas.reading.records.Splitting.{field_records_none, found_first, found_later, found_number}

-- The records of fields.

-- of a field whose items are in a record each
field_grows : (number : ℕ) (p : Presence) (e : Element) (oneof : Option ℕ) (qs : List (Part Leaf)) (q : Part Leaf) → (p ≡ presences.Explicit) ⊎ (p ≡ presences.Repeated false)
    → field_records (field_of number p e oneof) (qs ++ q ∷ []) ≡ field_records (field_of number p e oneof) qs ++ item_record number e q.item ∷ []
field_grows number p e oneof qs q h = grind (arith, map-append)

-- fields above all parts have no records
none_reach : (fs : List FieldShape) (n : ℕ) (qs : List (Part Leaf)) → AllByRecursion (λ (g : FieldShape). n < g.number) fs → AllByRecursion (λ (q : Part Leaf). q.number ≤ n) qs
    → records_in fs qs ≡ []
none_reach [] n qs above below = refl
none_reach (g ∷ fs) n qs above below =
    let none : filter (is_of g.number) qs ≡ [] =
    filter_none (is_of g.number) qs
    (each_weaker (λ (q : Part Leaf). q.number ≤ n) (λ (q : Part Leaf). is_of g.number q ≡ false) (λ q low. ne_eqb q.number g.number (λ same. absurd (let high = above.0 in omega arith))) qs below) in
    ap₂ (λ rs ss. rs ++ ss) (ap (field_records g) none ∙ field_records_none g) (none_reach fs n qs above.1 below)

module _ (f : FieldShape) (qs : List (Part Leaf)) (q : Part Leaf) (at : q.number ≡ f.number) (below : AllByRecursion (λ (x : Part Leaf). x.number ≤ f.number) qs)
    (single : (f.presence ≡ presences.Explicit) ⊎ (f.presence ≡ presences.Repeated false)) where
  others_stay : (n : ℕ) → n ≢ f.number → filter (is_of n) (qs ++ q ∷ []) ≡ filter (is_of n) qs
  others_stay n apart = search (rules, filter_none, ne_eqb, filter-append', append-nil)

  own_grow : field_records f (filter (is_of f.number) (qs ++ q ∷ [])) ≡ field_records f (filter (is_of f.number) qs) ++ item_record f.number f.element q.item ∷ []
  own_grow = search (rules, eq-eqb, filter-append', field_grows)

  records_grow : (fs : List FieldShape) → Rising fs → field_at fs f.number ≡ Some f → records_in fs (qs ++ q ∷ []) ≡ records_in fs qs ++ item_record f.number f.element q.item ∷ []
  records_grow [] rising found = absurd (cc)
  records_grow (g ∷ fs) rising found = ⊎_elim at_field (past_field (records_grow fs rising.1)) (cases_eq g.number f.number)
    where
      new : List WireRecord
      new = item_record f.number f.element q.item ∷ []

      at_field : g.number ≡ f.number → records_in (g ∷ fs) (qs ++ q ∷ []) ≡ records_in (g ∷ fs) qs ++ new
      at_field here =
          let same : g ≡ f = found_first g f fs f.number here found in
          let above = subst (λ n. AllByRecursion (λ (x : FieldShape). n < x.number) fs) here rising.0 in
          let none_more : records_in fs (qs ++ q ∷ []) ≡ [] = none_reach fs f.number (qs ++ q ∷ []) above (each-append (λ (x : Part Leaf). x.number ≤ f.number) qs (q ∷ []) below (omega arith, tt)) in
          let none : records_in fs qs ≡ [] = none_reach fs f.number qs above below in
          ap₂ (λ (x : FieldShape) rs. field_records x (filter (is_of x.number) (qs ++ q ∷ [])) ++ rs) same none_more
          ∙ append-nil (field_records f (filter (is_of f.number) (qs ++ q ∷ []))) ∙ own_grow
          ∙ ap (λ xs. xs ++ new) (sym (append-nil (field_records f (filter (is_of f.number) qs))))
          ∙ sym (ap₂ (λ (x : FieldShape) rs. (field_records x (filter (is_of x.number) qs) ++ rs) ++ new) same none)

      past_field : (field_at fs f.number ≡ Some f → records_in fs (qs ++ q ∷ []) ≡ records_in fs qs ++ new) → g.number ≢ f.number → records_in (g ∷ fs) (qs ++ q ∷ []) ≡ records_in (g ∷ fs) qs ++ new
      past_field later apart =
          ap₂ (λ xs ys. field_records g xs ++ ys) (others_stay g.number apart) (later (found_later g f fs f.number apart found))
          ∙ sym (append_assoc (field_records g (filter (is_of g.number) qs)) (records_in fs qs) new)

-- The parts of a message, with the bytes of each child for it.

module _ (shape : Shape) (type : TypeId) where
  abbrev leaf_there : ℕ → Item → Leaf
  leaf_there number (Plain leaf) = leaf
  leaf_there number (Msg m) = Bytes (enc shape (child_type (fields shape type) number) m)

  abbrev shown : Part Item → Part Leaf
  shown p = record { number = p.number; key = p.key; item = leaf_there p.number p.item }

  part_shown : (number : ℕ) (key : Option Leaf) (item : Item) (later : Message)
      → encoded_parts shape type (with_part number key item later) ≡ shown (record { number = number; key = key; item = item }) ∷ encoded_parts shape type later
  unfolding enc
  part_shown number key (Plain leaf) later = refl
  part_shown number key (Msg m) later = refl

  parts_shown : (ps : List (Part Item)) (us : List WireRecord) → encoded_parts shape type (message_from ps us) ≡ map shown ps
  parts_shown [] us = refl
  parts_shown (p ∷ ps) us = part_shown p.number p.key p.item (message_from ps us) ∙ ap (λ qs. shown p ∷ qs) (parts_shown ps us)

  -- the bytes of a message without unknown records
  enc_shown : (ps : List (Part Item)) → enc shape type (message_from ps []) ≡ bytes_of (records_in (fields shape type) (map shown ps))
  unfolding enc
  enc_shown ps =
      ap₂ (λ qs us. bytes_of (records_in (fields shape type) qs) ++ bytes_of us) (parts_shown ps []) (parts-message_from ps []).1
      ∙ append-nil (bytes_of (records_in (fields shape type) (map shown ps)))

  leaf_is : (f : FieldShape) (item : Item) → field_at (fields shape type) f.number ≡ Some f → IsOfField shape f item → leaf_there f.number item ≡ leaf_for shape f.element item
  leaf_is f item found h = grind (arith, child_type_is)

  bytes_grow : (f : FieldShape) (ps : List (Part Item)) (item : Item) → Rising (fields shape type) → field_at (fields shape type) f.number ≡ Some f
      → (f.presence ≡ presences.Explicit) ⊎ (f.presence ≡ presences.Repeated false) → ComesLast f ps → IsOfField shape f item
      → enc shape type (message_from (ps ++ keyless f.number item ∷ []) []) ≡ enc shape type (message_from ps []) ++ (item_record f.number f.element (leaf_for shape f.element item)).bytes
  bytes_grow f ps item rising found single last fits =
      let fs = fields shape type in
      let last_shown = shown (keyless f.number item) in
      let new = item_record f.number f.element last_shown.item in
      let below : AllByRecursion (λ (x : Part Leaf). x.number ≤ f.number) (map shown ps) =
      each-map (λ (x : Part Leaf). x.number ≤ f.number) shown ps
      (each_weaker (λ (p : Part Item). (p.number < f.number) ⊎ ((p.number ≡ f.number) × (f.presence ≡ presences.Repeated false))) (λ (p : Part Item). p.number ≤ f.number)
      (λ p h. ⊎_elim (λ low. let k : p.number ≤ f.number = omega arith in k) (λ same. let e = same.0 in omega arith) h) ps last) in
      let records : records_in fs (map shown (ps ++ keyless f.number item ∷ [])) ≡ records_in fs (map shown ps) ++ new ∷ [] =
      ap (records_in fs) (map-append shown ps (keyless f.number item ∷ [])) ∙ records_grow f (map shown ps) last_shown refl below single fs rising found in
      enc_shown (ps ++ keyless f.number item ∷ []) ∙ ap bytes_of records
      ∙ flat_map-append' (λ (r : WireRecord). r.bytes) (records_in fs (map shown ps)) (new ∷ [])
      ∙ ap₂ (λ xs ys. xs ++ ys) (sym (enc_shown ps)) (append-nil new.bytes ∙ ap (λ leaf. (item_record f.number f.element leaf).bytes) (leaf_is f item found fits))

-- The message is still one of its type.

places_are : (ps : List (Part Item)) (us : List WireRecord) → places (message_from ps us) ≡ map place_of ps
places_are ps us = sym (places-parts (message_from ps us)) ∙ ap (map place_of) (parts-message_from ps us).0

no_key : (p : Presence) → (p ≡ presences.Explicit) ⊎ (p ≡ presences.Repeated false) → KeyFits p None
no_key p h = grind arith

may_follow : (p : Presence) (k l : Option Leaf) → p ≡ presences.Repeated false → MayFollow p k l
may_follow p k l h = grind arith

module _ (shape : Shape) (type : TypeId) (f : FieldShape) (found : field_at (fields shape type) f.number ≡ Some f)
    (single : (f.presence ≡ presences.Explicit) ⊎ (f.presence ≡ presences.Repeated false)) (outside : f.oneof ≡ None) where
  abbrev last_place : Place
  last_place = record { number = f.number; key = None }

  last_is_message : (item : Item) → IsOfField shape f item → IsMessage shape type (with_part f.number None item (ends []))
  last_is_message (Plain leaf) h = (record { field = f; found = found; key_fits = no_key f.presence single; before = tt; alone = tt }, h, tt)
  last_is_message (Msg m) h = (record { field = f; found = found; key_fits = no_key f.presence single; before = tt; alone = tt }, h.0, h.1, h.2, tt)

  is_field : (g : FieldShape) → field_at (fields shape type) f.number ≡ Some g → g ≡ f
  is_field g there = let same : ◌≡◌ {A = Option FieldShape} (Some g) (Some f) = sym there ∙ found in cc

  before_grows : (g : FieldShape) (n : ℕ) (key : Option Leaf) (ls : List Place) → field_at (fields shape type) n ≡ Some g → (n < f.number) ⊎ ((n ≡ f.number) × (f.presence ≡ presences.Repeated false))
      → ComesBefore g key ls → ComesBefore g key (ls ++ last_place ∷ [])
  before_grows g n key ls there low h =
      search (rules, arith, found_number, is_field, may_follow, each-append)

  alone_grows : (g : FieldShape) (ls : List Place) → IsAlone (fields shape type) g ls → IsAlone (fields shape type) g (ls ++ last_place ∷ [])
  alone_grows g ls h = search (rules, each-append, is_field, no_sibling_behind)

  abbrev part_grows : (n : ℕ) (key : Option Leaf) (ls grown : List Place) → grown ≡ ls ++ last_place ∷ [] → (n < f.number) ⊎ ((n ≡ f.number) × (f.presence ≡ presences.Repeated false))
      → IsPart (fields shape type) n key ls → IsPart (fields shape type) n key grown
  part_grows n key ls grown there low part = record {
    field = part.field;
    found = part.found;
    key_fits = part.key_fits;
    before = subst (ComesBefore part.field key) (sym there) (before_grows part.field n key ls part.found low part.before);
    alone = subst (IsAlone (fields shape type) part.field) (sym there) (alone_grows part.field ls part.alone);
  }

  front_grows : (n : ℕ) (key : Option Leaf) (item : Item) (later grown : Message) → places grown ≡ places later ++ last_place ∷ []
      → (n < f.number) ⊎ ((n ≡ f.number) × (f.presence ≡ presences.Repeated false)) → IsMessage shape type (with_part n key item later) → (IsMessage shape type later → IsMessage shape type grown)
      → IsMessage shape type (with_part n key item grown)
  front_grows n key (Plain leaf) later grown there low h rest = (part_grows n key (places later) (places grown) there low h.0, h.1, rest h.2)
  front_grows n key (Msg m) later grown there low h rest = (part_grows n key (places later) (places grown) there low h.0, h.1, h.2, h.3, rest h.4)

  message_grows : (ps : List (Part Item)) (item : Item) → ComesLast f ps → IsMessage shape type (message_from ps []) → IsOfField shape f item
      → IsMessage shape type (message_from (ps ++ keyless f.number item ∷ []) [])
  message_grows [] item last h fits = last_is_message item fits
  message_grows (p ∷ ps) item last h fits =
      let there : places (message_from (ps ++ keyless f.number item ∷ []) []) ≡ places (message_from ps []) ++ last_place ∷ [] =
      places_are (ps ++ keyless f.number item ∷ []) [] ∙ map-append place_of ps (keyless f.number item ∷ []) ∙ ap (λ ls. ls ++ last_place ∷ []) (sym (places_are ps [])) in
      front_grows p.number p.key p.item (message_from ps []) (message_from (ps ++ keyless f.number item ∷ []) []) there last.0 h (λ rest. message_grows ps item last.1 rest fits)

pub encoding_grows : EncodingGrows
encoding_grows = search (rules, message_grows, bytes_grow, fields-IsType)
