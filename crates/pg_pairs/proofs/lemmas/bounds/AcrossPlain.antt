-- Between fields that are no maps, content whose items are seen is read as it was written.
use Rattle.std.proofs.Common.{◌≡◌, ℕ, List, [], ◌∷◌, map, flat_map, true, false, if◌then◌else◌, Option, Some, None, option_map, is_some, refl, ap, sym, ◌∙◌, subst, eq-eqb, append-nil, rules}
use Rattle.std.specs.List.{AllByRecursion}
use Rattle.std.proofs.lemmas.Bool.{and_from, or_left, or_right}
use Rattle.pg_schema.specs.declared.parts.field.Element.{Element}
use Rattle.pg_schema.specs.declared.parts.field.Element.TheVariants as elements
use Rattle.pg_schema.specs.declared.parts.field.Presence.{Presence}
use Rattle.pg_schema.specs.declared.parts.field.Presence.TheVariants as presences
use Rattle.pg_schema.specs.Shape.{FieldShape, is_repeated, is_packable}
use Rattle.pg_wire.specs.declared.record.WireType.TheVariants.{Len}
use Rattle.pg_wire.specs.Records.{WireRecord, written}
use Rattle.pg_dyn.specs.reading.Optional.{all_some}
use Rattle.pg_dyn.specs.message.Message.{Leaf, Part}
use Rattle.pg_dyn.specs.word.Coding.{form, form_wire, body}
use Rattle.pg_dyn.specs.reading.Content.{same_wire, own_wire, takes, leaves_in, last_item, plain_content, content}
use Rattle.pg_dyn.specs.encoding.Writing.{item_record, field_records}
use Rattle.pg_dyn.specs.reading.Decoding.{Reader, is_child, is_plain_readable, is_readable}
use Rattle.pg_dyn.specs.fitting.Belonging.{MayBeZero}
use Rattle.pg_dyn.specs.views.Comparison.{View, Comparand, writes}
use Rattle.pg_dyn.proofs.Lists.{joined-map_single, each_weaker, each-map, flat_map-map, map_map}
use Rattle.pg_pairs.proofs.lemmas.gaps.Likeness.{same_wire-true, packable-from_wire}
use Rattle.pg_dyn.specs.laws.Bodies.{IsReadAs}
use Rattle.pg_pairs.proofs.lemmas.bounds.Packed.{packed_read, singles_read, single_read}
use Rattle.pg_pairs.proofs.lemmas.bounds.Across.{Seen, Across}
use Rattle.pg_dyn.proofs.PublicLaws.{packable_wires}

abbrev pub plain_part : ℕ → Leaf → Part Leaf
plain_part number leaf = record { number = number; key = None; item = leaf }

-- what is known of a field that is no map
pub record NotMap (child : Reader) (g : FieldShape) : Type 0 where
  pub own : own_wire g ≡ form_wire (form g.element)
  pub content_is : (rs : List WireRecord) → content g rs ≡ option_map (map (plain_part g.number)) (plain_content g rs)
  pub readable_is : (r : WireRecord) → is_readable child g r ≡ is_plain_readable child g r

abbrev pub IsNoMap : Presence → Type 0
IsNoMap presences.Implicit = Unit {0}
IsNoMap presences.Explicit = Unit {0}
IsNoMap (presences.Repeated packed) = Unit {0}
IsNoMap (presences.Map key) = ⊥

not_map_of : (child : Reader) (number : ℕ) (p : Presence) (e : Element) (oneof : Option ℕ) → IsNoMap p → NotMap child (record { number = number; presence = p; element = e; oneof = oneof })
not_map_of child number presences.Implicit e oneof h = record { own = refl; content_is = λ rs. refl; readable_is = λ r. refl }
not_map_of child number presences.Explicit e oneof h = record { own = refl; content_is = λ rs. refl; readable_is = λ r. refl }
not_map_of child number (presences.Repeated packed) e oneof h = record { own = refl; content_is = λ rs. refl; readable_is = λ r. refl }
not_map_of child number (presences.Map key) e oneof h = absurd h

pub not_map : (child : Reader) (g : FieldShape) → IsNoMap g.presence → NotMap child g
not_map child g h = not_map_of child g.number g.presence g.element g.oneof h

-- the comparand is no entry of a map, and the new field may hold its item
pub record Sits (g : FieldShape) (c : Comparand) : Type 0 where
  pub no_key : c.key ≡ None
  pub may_be_zero : MayBeZero g.presence c.written

-- one record for each item
pub record IsUnpacked (f : FieldShape) : Type 0 where
  pub records_are : (qs : List (Part Leaf)) → field_records f qs ≡ map (λ (q : Part Leaf). item_record f.number f.element q.item) qs

-- one record for a list that isn't empty
pub record IsPackedList (f : FieldShape) : Type 0 where
  pub none : field_records f [] ≡ []
  pub one : (q : Part Leaf) (qs : List (Part Leaf)) → field_records f (q ∷ qs)
      ≡ written f.number Len (flat_map (λ (r : Part Leaf). body (form f.element) r.item) (q ∷ qs)) ∷ []

packable_child : (child : Reader) (e : Element) (bytes : List ℕ) → is_packable e ≡ true → is_child child e bytes ≡ true
packable_child child (elements.Scalar s) bytes h = refl
packable_child child (elements.Enum s) bytes h = refl
packable_child child (elements.Message s) bytes h = absurd (cc)

module _ (view : View) (child : Reader) (f g : FieldShape) (numbers : f.number ≡ g.number) (wires : same_wire (form_wire (form f.element)) (form_wire (form g.element)) ≡ true) (plain : NotMap child g) where
  abbrev item_record_of : Comparand → WireRecord
  item_record_of c = item_record f.number f.element c.written

  takes_item : (c : Comparand) → takes g (item_record_of c) ≡ true
  unfolding written
  takes_item c = search (rules, and_from, eq-eqb, or_left)

  wire : form_wire (form f.element) ≡ form_wire (form g.element)
  wire = same_wire-true _ _ wires

  leaves_of_item : (c : Comparand) → Seen view child f g c → leaves_in g (item_record_of c) ≡ Some (c.written ∷ [])
  leaves_of_item c seen = search (rules, wire, single_read)

  readable_item : (c : Comparand) → Seen view child f g c → is_readable child g (item_record_of c) ≡ true
  unfolding written
  readable_item c seen = plain.readable_is (item_record_of c) ∙ and_from _ _ (ap is_some (leaves_of_item c seen)) seen.child_there

  parts_back : (cs : List Comparand) → AllByRecursion (Seen view child f g) cs → AllByRecursion (Sits g) cs → map (plain_part g.number) (map (λ (c : Comparand). c.written) cs) ≡ map writes cs
  parts_back [] seen sits = refl
  parts_back (c ∷ cs) seen sits =
      λ i. record { number = (sym numbers ∙ sym seen.0.number_is) i; key = sym sits.0.no_key i; item = c.written } ∷ parts_back cs seen.1 sits.1 i

  -- the content of a list, or of at most one item
  abbrev pub IsTakenWhole : List Comparand → Type 0
  IsTakenWhole cs = (if is_repeated g.presence then map (λ (c : Comparand). c.written) cs
      else last_item g.presence g.element (map (λ (c : Comparand). c.written) cs)) ≡ map (λ (c : Comparand). c.written) cs

  pub across_unpacked : IsUnpacked f → (cs : List Comparand) → AllByRecursion (Seen view child f g) cs → AllByRecursion (Sits g) cs → IsTakenWhole cs → Across child f g cs
  across_unpacked unpacked cs seen sits whole =
      let same : field_records f (map writes cs) ≡ map item_record_of cs =
      unpacked.records_are (map writes cs) ∙ map_map (λ (q : Part Leaf). item_record f.number f.element q.item) writes cs in
      let rows : all_some (map (leaves_in g) (map item_record_of cs)) ≡ Some (map (λ (c : Comparand). c.written ∷ []) cs) =
      (λ i. all_some (map (leaves_in g) (map (λ (c : Comparand). written (numbers i) (wire i) (body (form f.element) c.written)) cs)))
      ∙ singles_read g (λ (c : Comparand). body (form f.element) c.written) (λ (c : Comparand). c.written) cs
      (each_weaker (Seen view child f g) (λ c. IsReadAs (form g.element) (body (form f.element) c.written) c.written) (λ c s. s.body_read) cs seen) in
      let read : plain_content g (map item_record_of cs) ≡ Some (map (λ (c : Comparand). c.written) cs) =
      rw (rows, joined-map_single (λ (c : Comparand). c.written) cs, whole) in
      record {
        taken = subst (AllByRecursion (λ r. takes g r ≡ true)) (sym same)
            (each-map (λ r. takes g r ≡ true) item_record_of cs (each_weaker (Seen view child f g) _ (λ c s. takes_item c) cs seen));
        readable = subst (AllByRecursion (λ r. is_readable child g r ≡ true)) (sym same)
            (each-map (λ r. is_readable child g r ≡ true) item_record_of cs (each_weaker (Seen view child f g) _ readable_item cs seen));
        content_is = rw (same, plain.content_is (map item_record_of cs), read) (ap Some (parts_back cs seen sits));
      }

  takes_packed : is_repeated g.presence ≡ true → is_packable g.element ≡ true → (bytes : List ℕ) → takes g (written f.number Len bytes) ≡ true
  unfolding written
  takes_packed repeated packable bytes = search (rules, and_from, eq-eqb, or_right)

  leaves_of_packed : is_packable g.element ≡ true → (cs : List Comparand) → AllByRecursion (Seen view child f g) cs → leaves_in g (written f.number Len (flat_map (λ (d : Comparand). body (form f.element) d.written) cs)) ≡ Some (map (λ (d : Comparand). d.written) cs)
  unfolding written
  leaves_of_packed packable cs seen = search (rules, packable_wires, packed_read, each_weaker)

  -- a packed list, read by a list
  pub across_packed : IsPackedList f → is_repeated g.presence ≡ true → is_packable f.element ≡ true → (cs : List Comparand) → AllByRecursion (Seen view child f g) cs → AllByRecursion (Sits g) cs → Across child f g cs
  across_packed list repeated packable [] seen sits = search rules
  across_packed list repeated packable (c ∷ cs) seen sits =
      let bytes = flat_map (λ (d : Comparand). body (form f.element) d.written) (c ∷ cs) in
      let record_is : WireRecord = written f.number Len bytes in
      let same : field_records f (map writes (c ∷ cs)) ≡ record_is ∷ [] =
      list.one (writes c) (map writes cs)
      ∙ ap (λ bs. written f.number Len bs ∷ []) (flat_map-map (λ (r : Part Leaf). body (form f.element) r.item) writes (c ∷ cs)) in
      let new_packable = packable-from_wire g.element (subst (λ w. same_wire Len w ≡ false) (same_wire-true _ _ wires) (packable_wires f.element packable)) in
      let leaves = leaves_of_packed new_packable (c ∷ cs) seen in
      record {
        taken = subst (AllByRecursion (λ r. takes g r ≡ true)) (sym same) (takes_packed repeated new_packable bytes, tt);
        readable = subst (AllByRecursion (λ r. is_readable child g r ≡ true)) (sym same)
            (plain.readable_is record_is ∙ rw leaves (packable_child child g.element _ new_packable), tt);
        content_is =
            rw (same, plain.content_is (record_is ∷ []), leaves, repeated, append-nil (map (λ (d : Comparand). d.written) cs))
            (ap Some (parts_back (c ∷ cs) seen sits));
      }
