-- Each record that is written of a field has a reading.
use Rattle.std.proofs.Common.{◌≡◌, ℕ, ◌^◌, ◌<◌, List, [], ◌∷◌, ◌++◌, map, filter, flat_map, length, Bool, true, false, not, ◌||◌, nat_eq, Option, Some, is_some, refl, ap, sym, ◌∙◌, subst, arith}
use Rattle.std.specs.Bool.{⊤}
use Rattle.std.specs.List.{AllByRecursion, list_all}
use Rattle.std.proofs.lemmas.Bool.{eqb-true, and_parts, and_from}
use Rattle.pg_schema.specs.declared.parts.field.Scalar.{Scalar}
use Rattle.pg_schema.specs.declared.parts.field.Element.{Element}
use Rattle.pg_schema.specs.declared.parts.field.Element.TheVariants as elements
use Rattle.pg_schema.specs.declared.parts.field.Presence.{Presence}
use Rattle.pg_schema.specs.declared.parts.field.Presence.TheVariants as presences
use Rattle.pg_schema.specs.Shape.{FieldShape, field_at, is_packable}
use Rattle.pg_schema.specs.ShapeRules.{PresenceFits}
use Rattle.pg_wire.specs.declared.record.WireType.TheVariants.{Len}
use Rattle.pg_wire.specs.Records.{WireRecord, written}
use Rattle.pg_dyn.specs.message.Message.{Leaf, Part, is_of}
use Rattle.pg_dyn.specs.word.Coding.{form, body}
use Rattle.pg_dyn.specs.reading.Content.{is_accepted, takes, leaf_bytes, leaves_in, key_field, value_field}
use Rattle.pg_dyn.specs.encoding.Writing.{item_record, entry_bytes, key_of, field_records, records_in}
use Rattle.pg_dyn.specs.reading.Decoding.{Reader, is_child, is_plain_readable, is_readable, all_readable}
use Rattle.pg_dyn.specs.fitting.Belonging.{IsUnknown}
use Rattle.pg_dyn.proofs.lemmas.word.Codings.{Reads}
use Rattle.pg_dyn.proofs.Lists.{each_weaker, each_both, each-append, each-flat_map, each-map, list_all_each}
use Rattle.pg_dyn.specs.laws.Bodies.{IsNestedLeaf}
use Rattle.pg_dyn.proofs.lemmas.message.Plain.{leaves_in_read}
use Rattle.pg_dyn.proofs.lemmas.reading.entries.Entries.{records_of_entry}
use Rattle.pg_dyn.specs.laws.OwnParts.{FitsField, ShortBodies}
use Rattle.pg_dyn.proofs.lemmas.reading.Fields.{IsOwn, field_of, key_reads, packed_leaves_in}
use Rattle.pg_dyn.proofs.lemmas.laws.Flat.{IsFlat, Known, each_known, own_records, own_each, own_short, each_fits, unknown_not_taken}

-- the reader reads the bytes that stand for a child
abbrev pub ChildReads : Reader → Element → Leaf → Type 0
ChildReads child (elements.Message t) leaf = is_some (child t (leaf_bytes leaf)) ≡ true
ChildReads child (elements.Scalar s) leaf = ⊤
ChildReads child (elements.Enum e) leaf = ⊤

is_child_body : (child : Reader) (e : Element) (leaf : Leaf) → IsNestedLeaf e leaf → ChildReads child e leaf → is_child child e (body (form e) leaf) ≡ true
is_child_body child e leaf nested reads = grind arith

is_child_packable : (child : Reader) (e : Element) (bytes : List ℕ) → is_packable e ≡ true → is_child child e bytes ≡ true
is_child_packable child e bytes h = grind arith

or_true : (b : Bool) → (b || true) ≡ true
or_true b = elim b as (λ x. (x || true) ≡ true) [ true ↦ refl | false ↦ refl ]

item_readable : (child : Reader) (f : FieldShape) (leaf : Leaf) → Reads (form f.element) leaf → IsNestedLeaf f.element leaf → ChildReads child f.element leaf → is_plain_readable child f (item_record f.number f.element leaf) ≡ true
unfolding written
item_readable child f leaf reads nested child_reads =
    and_from (is_some (leaves_in f (item_record f.number f.element leaf))) (is_child child f.element (body (form f.element) leaf))
    (ap is_some (leaves_in_read f.element (λ (l : Leaf). body (form f.element) l) (λ (l : Leaf). l) f refl leaf reads)) (is_child_body child f.element leaf nested child_reads)

module _ (child : Reader) (key : Scalar) (e : Element) (k v : Leaf) (reads_key : Reads (form (elements.Scalar key)) k) (reads_value : Reads (form e) v) (nested : IsNestedLeaf e v) (child_reads : ChildReads child e v) where
  entry_readable : length (entry_bytes key e k v) < 2 ^ 64 → (number : ℕ) (oneof : Option ℕ) → is_readable child (field_of number (presences.Map key) e oneof) (written number Len (entry_bytes key e k v)) ≡ true
  unfolding written
  entry_readable fits number oneof =
      rw (
        records_of_entry key e (body (form (elements.Scalar key)) k, k) (body (form e) v, v) reads_key reads_value nested fits,
        item_readable child (key_field key) k reads_key tt tt,
        item_readable child (value_field e) v reads_value nested child_reads,
        or_true (not (is_accepted (key_field key) (item_record 1 (elements.Scalar key) k))),
        or_true (not (is_accepted (value_field e) (item_record 2 e v))),
      ) refl

module _ (child : Reader) (number : ℕ) (e : Element) (oneof : Option ℕ) where
  each_item_readable : (p : Presence) → ((r : WireRecord) → is_readable child (field_of number p e oneof) r ≡ is_plain_readable child (field_of number p e oneof) r) → (qs : List (Part Leaf)) → AllByRecursion (λ q. FitsField number p e q × ChildReads child e q.item) qs → AllByRecursion (λ r. is_readable child (field_of number p e oneof) r ≡ true) (map (λ (q : Part Leaf). item_record number e q.item) qs)
  each_item_readable p plain qs h =
      each-map (λ r. is_readable child (field_of number p e oneof) r ≡ true) (λ (q : Part Leaf). item_record number e q.item) qs
      (each_weaker (λ q. FitsField number p e q × ChildReads child e q.item) (λ q. is_readable child (field_of number p e oneof) (item_record number e q.item) ≡ true)
      (λ q g. plain (item_record number e q.item) ∙ item_readable child (field_of number p e oneof) q.item g.0.reads g.0.nested g.1) qs h)

  packed_readable : (qs : List (Part Leaf)) → is_packable e ≡ true → AllByRecursion (λ q. Reads (form e) q.item) qs → is_readable child (field_of number (presences.Repeated true) e oneof) (written number Len (flat_map (λ (q : Part Leaf). body (form e) q.item) qs)) ≡ true
  packed_readable qs packable reads =
      and_from (is_some (leaves_in (field_of number (presences.Repeated true) e oneof) (written number Len (flat_map (λ (q : Part Leaf). body (form e) q.item) qs)))) _
      (ap is_some (packed_leaves_in number e (λ k. []) (body (form e)) oneof qs packable reads)) (is_child_packable child e _ packable)

  each_entry_readable : (key : Scalar) (qs : List (Part Leaf)) → AllByRecursion (λ q. FitsField number (presences.Map key) e q × ChildReads child e q.item) qs → ShortBodies (map (λ (q : Part Leaf). written number Len (entry_bytes key e (key_of key q) q.item)) qs) → AllByRecursion (λ r. is_readable child (field_of number (presences.Map key) e oneof) r ≡ true) (map (λ (q : Part Leaf). written number Len (entry_bytes key e (key_of key q) q.item)) qs)
  unfolding written
  each_entry_readable key [] h short = tt
  each_entry_readable key (q ∷ qs) h short = (
    entry_readable child key e (key_of key q) q.item (key_reads key q.key h.0.0.key_fits) h.0.0.reads h.0.0.nested h.0.1 short.0 number oneof,
    each_entry_readable key qs h.1 short.1,
  )

  readable_of_field : (p : Presence) → PresenceFits p e oneof → (qs : List (Part Leaf)) → AllByRecursion (λ q. FitsField number p e q × ChildReads child e q.item) qs → ShortBodies (field_records (field_of number p e oneof) qs) → AllByRecursion (λ r. is_readable child (field_of number p e oneof) r ≡ true) (field_records (field_of number p e oneof) qs)
  readable_of_field presences.Implicit fits qs h short = each_item_readable presences.Implicit (λ r. refl) qs h
  readable_of_field presences.Explicit fits qs h short = each_item_readable presences.Explicit (λ r. refl) qs h
  readable_of_field (presences.Repeated false) fits qs h short = each_item_readable (presences.Repeated false) (λ r. refl) qs h
  readable_of_field (presences.Repeated true) fits [] h short = tt
  readable_of_field (presences.Repeated true) fits (q ∷ qs) h short =
      (packed_readable (q ∷ qs) (fits.1 refl) (each_weaker (λ r. FitsField number (presences.Repeated true) e r × ChildReads child e r.item) (λ r. Reads (form e) r.item) (λ r g. g.0.reads) (q ∷ qs) h), tt)
  readable_of_field (presences.Map key) fits qs h short = each_entry_readable key qs h short

-- Each record that is written, and each unknown one, has a reading where a field accepts it.

module _ (child : Reader) (types : ℕ) (fs : List FieldShape) (ps : List (Part Leaf)) (us : List WireRecord) (flat : IsFlat types fs ps us) where
  -- a record is readable for each field that takes it
  is_read : WireRecord → Bool
  is_read r = list_all (λ g. not (takes g r) || is_readable child g r) fs

  own_read : (f : FieldShape) → Known types fs f → (r : WireRecord) → IsOwn f r → is_readable child f r ≡ true → is_read r ≡ true
  unfolding is_read
  own_read f known r own readable =
      list_all_each (λ g. not (takes g r) || is_readable child g r) fs
      (each_weaker (Known types fs) (λ g. (not (takes g r) || is_readable child g r) ≡ true) one fs (each_known types fs flat.type))
    where
      one : (g : FieldShape) → Known types fs g → (not (takes g r) || is_readable child g r) ≡ true
      one g known_g =
          elim (takes g r) as (λ b. takes g r ≡ b → (not b || is_readable child g r) ≡ true) [
            | true ↦ λ e.
                let at : r.number ≡ g.number = eqb-true r.number g.number ((and_parts (nat_eq r.number g.number) (is_accepted g r) e).0) in
                let same_number : f.number ≡ g.number = sym own.number_is ∙ at in
                let same : ◌≡◌ {A = Option FieldShape} (Some f) (Some g) = sym known.0 ∙ ap (field_at fs) same_number ∙ known_g.0 in
                let same_field : f ≡ g = cc in
                subst (λ x. is_readable child x r ≡ true) same_field readable
            | false ↦ λ e. refl
          ] refl

  unknown_read : (u : WireRecord) → IsUnknown fs u → is_read u ≡ true
  unfolding is_read
  unknown_read u h =
      list_all_each (λ g. not (takes g u) || is_readable child g u) fs
      (each_weaker (λ g. takes g u ≡ false) (λ g. (not (takes g u) || is_readable child g u) ≡ true) (λ g e. rw e refl) fs (unknown_not_taken fs u h))

  pub all_readable_again : AllByRecursion (λ f. AllByRecursion (λ q. ChildReads child f.element q.item) (filter (is_of f.number) ps)) fs → all_readable child fs (records_in fs ps ++ us) ≡ true
  unfolding is_read
  all_readable_again reads =
      list_all_each (λ r. list_all (λ g. not (takes g r) || is_readable child g r) fs) (records_in fs ps ++ us)
      (each-append (λ r. is_read r ≡ true) (records_in fs ps) us
      (each-flat_map (λ r. is_read r ≡ true) (own_records types fs ps us flat) fs
      (each_weaker (λ f. (Known types fs f × ShortBodies (own_records types fs ps us flat f)) × AllByRecursion (λ q. ChildReads child f.element q.item) (filter (is_of f.number) ps))
      (λ f. AllByRecursion (λ r. is_read r ≡ true) (own_records types fs ps us flat f)) one fs
      (each_both (λ f. Known types fs f × ShortBodies (own_records types fs ps us flat f)) (λ f. AllByRecursion (λ q. ChildReads child f.element q.item) (filter (is_of f.number) ps)) fs
      (each_both (Known types fs) (λ f. ShortBodies (own_records types fs ps us flat f)) fs (each_known types fs flat.type) (own_short types fs ps us flat)) reads)))
      (each_weaker (IsUnknown fs) (λ u. is_read u ≡ true) unknown_read us flat.unknown))
    where
      one : (f : FieldShape) → (Known types fs f × ShortBodies (own_records types fs ps us flat f)) × AllByRecursion (λ q. ChildReads child f.element q.item) (filter (is_of f.number) ps) → AllByRecursion (λ r. is_read r ≡ true) (own_records types fs ps us flat f)
      one f h =
          each_weaker (λ r. IsOwn f r × (is_readable child f r ≡ true)) (λ r. is_read r ≡ true) (λ r g. own_read f h.0.0 r g.0 g.1) (own_records types fs ps us flat f)
          (each_both (IsOwn f) (λ r. is_readable child f r ≡ true) (own_records types fs ps us flat f) (own_each types fs ps us flat f h.0.0)
          (readable_of_field child f.number f.element f.oneof f.presence h.0.0.1.presence_fits (filter (is_of f.number) ps)
          (each_both (FitsField f.number f.presence f.element) (λ q. ChildReads child f.element q.item) (filter (is_of f.number) ps) (each_fits fs f h.0.0.0 ps flat.parts) h.1) h.0.1))
