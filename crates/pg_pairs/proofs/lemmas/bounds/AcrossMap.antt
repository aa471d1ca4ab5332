-- Between maps, entries whose keys and values are seen are read as they were written.
use Rattle.std.proofs.Common.{◌≡◌, ℕ, ◌<◌, ◌^◌, List, [], ◌∷◌, ◌++◌, length, map, Bool, true, if◌then◌else◌, Option, Some, None, Ok, option_map, option_and_then, is_some, refl, ap, sym, ◌∙◌, subst, eq-eqb, rules}
use Rattle.std.specs.List.{AllByRecursion}
use Rattle.std.specs.declared.cmp.Ordering.TheVariants.{Less}
use Rattle.std.proofs.lemmas.Bool.{and_from}
use Rattle.pg_schema.specs.declared.parts.field.Scalar.{Scalar}
use Rattle.pg_schema.specs.declared.parts.field.Element.{Element}
use Rattle.pg_schema.specs.declared.parts.field.Element.TheVariants as elements
use Rattle.pg_schema.specs.declared.parts.field.Presence.TheVariants as presences
use Rattle.pg_schema.specs.Shape.{FieldShape}
use Rattle.pg_wire.specs.declared.record.WireType.TheVariants.{Len}
use Rattle.pg_wire.specs.Records.{WireRecord, written, records_of}
use Rattle.pg_dyn.specs.reading.Optional.{all_some}
use Rattle.pg_dyn.specs.message.Message.{Leaf, Part, key_cmp}
use Rattle.pg_dyn.specs.word.Coding.{form, form_wire, body}
use Rattle.pg_dyn.specs.reading.Content.{same_wire, is_accepted, option_from, takes, key_field, value_field, entry_in, by_key, content}
use Rattle.pg_dyn.specs.encoding.Writing.{entry_bytes, key_of, field_records}
use Rattle.pg_dyn.specs.reading.Decoding.{Reader, is_child, all_plain_readable, is_readable}
use Rattle.pg_dyn.specs.views.Comparison.{View, Comparand, writes}
use Rattle.pg_pairs.proofs.lemmas.bounds.Packed.{single_read}
use Rattle.pg_dyn.proofs.Lists.{all_some-map_map, each_weaker, each-map, map_map}
use Rattle.pg_dyn.specs.laws.Bodies.{IsNestedLeaf, IsReadAs, entry_body, two_records}
use Rattle.pg_dyn.specs.laws.FieldLaws.{EntriesRise}
use Rattle.pg_pairs.specs.inner.Contents.{RisingKeys}
use Rattle.pg_pairs.proofs.lemmas.gaps.Likeness.{same_wire-true}
use Rattle.pg_pairs.proofs.lemmas.bounds.Across.{Seen, Across}
use Rattle.pg_dyn.proofs.PublicLaws.{entry_bodies_read, rising_entries_stay}

-- whether the record of an entry has a reading
abbrev pub is_entry_readable : Reader → Scalar → Element → WireRecord → Bool
is_entry_readable child l d r =
    is_some (option_and_then (λ rs. if all_plain_readable child (key_field l ∷ value_field d ∷ []) rs then Some rs else None)
    (option_from (records_of r.body)))

-- One entry: written with a key of type k and an element e, read with l and d.
module _ (child : Reader) (k l : Scalar) (e d : Element) (key value : Leaf)
    (key_wires : same_wire (form_wire (form (elements.Scalar k))) (form_wire (form (elements.Scalar l))) ≡ true)
    (value_wires : same_wire (form_wire (form e)) (form_wire (form d)) ≡ true)
    (key_seen : IsReadAs (form (elements.Scalar l)) (body (form (elements.Scalar k)) key) key)
    (value_seen : IsReadAs (form d) (body (form e) value) value) (nested : IsNestedLeaf d value) (there : is_child child d (body (form e) value) ≡ true) where
  abbrev key_bytes : List ℕ
  key_bytes = body (form (elements.Scalar k)) key

  abbrev value_bytes : List ℕ
  value_bytes = body (form e) value

  key_wire : form_wire (form (elements.Scalar k)) ≡ form_wire (form (elements.Scalar l))
  key_wire = same_wire-true _ _ key_wires

  value_wire : form_wire (form e) ≡ form_wire (form d)
  value_wire = same_wire-true _ _ value_wires

  -- the same records as with l and d
  same_bytes : entry_bytes k e key value ≡ entry_body l d key_bytes value_bytes
  same_bytes = λ i. (written 1 (key_wire i) key_bytes).bytes ++ (written 2 (value_wire i) value_bytes).bytes

  abbrev IsReadIn : List ℕ → Type 0
  IsReadIn bytes =
      (records_of bytes ≡ Ok (two_records l d key_bytes value_bytes))
      × ((number : ℕ) → entry_in l d (written number Len bytes) ≡ Some (key, value))

  entry_read : length (entry_bytes k e key value) < 2 ^ 64 → IsReadIn (entry_bytes k e key value)
  entry_read =
      subst (λ bytes. length bytes < 2 ^ 64 → IsReadIn bytes) (sym same_bytes)
      (entry_bodies_read l d (key_bytes, key) (value_bytes, value) key_seen value_seen nested)

  readable_entry : all_plain_readable child (key_field l ∷ value_field d ∷ []) (two_records l d key_bytes value_bytes) ≡ true
  unfolding written
  readable_entry = search (rules, key_wire, value_wire, single_read)

  pub entry_across : (number : ℕ) → length (entry_bytes k e key value) < 2 ^ 64 → entry_in l d (written number Len (entry_bytes k e key value)) ≡ Some (key, value)
  entry_across number fits = (entry_read fits).1 number

  pub entry_readable : (number : ℕ) → length (entry_bytes k e key value) < 2 ^ 64 → is_entry_readable child l d (written number Len (entry_bytes k e key value)) ≡ true
  unfolding written
  entry_readable number fits = rw ((entry_read fits).0, readable_entry)

-- what is known of a map field
pub record IsMap (child : Reader) (g : FieldShape) (l : Scalar) : Type 0 where
  pub accepts : (bytes : List ℕ) → is_accepted g (written g.number Len bytes) ≡ true
  pub content_is : (rs : List WireRecord) → content g rs
      ≡ option_map (λ es. map (λ (e : Leaf × Leaf). record { number = g.number; key = Some e.0; item = e.1 }) (by_key es))
      (all_some (map (entry_in l g.element) rs))
  pub readable_is : (r : WireRecord) → is_readable child g r ≡ is_entry_readable child l g.element r
  pub records_are : (qs : List (Part Leaf)) → field_records g qs
      ≡ map (λ (q : Part Leaf). written g.number Len (entry_bytes l g.element (key_of l q) q.item)) qs

is_map_of : (child : Reader) (number : ℕ) (l : Scalar) (d : Element) (oneof : Option ℕ) → IsMap child (record { number = number; presence = presences.Map l; element = d; oneof = oneof }) l
unfolding written
is_map_of child number l d oneof = record { accepts = λ bytes. refl; content_is = λ rs. refl; readable_is = λ r. refl; records_are = λ qs. refl }

pub is_map : (child : Reader) (g : FieldShape) (l : Scalar) → g.presence ≡ presences.Map l → IsMap child g l
is_map child g l h =
    subst (λ p. IsMap child (record { number = g.number; presence = p; element = g.element; oneof = g.oneof }) l) (sym h) (is_map_of child g.number l g.element g.oneof)

-- an entry whose key is seen
pub record SeenEntry (f : FieldShape) (k l : Scalar) (c : Comparand) : Type 0 where
  pub key_there : c.key ≡ Some (key_of k (writes c))
  pub key_seen : IsReadAs (form (elements.Scalar l)) (body (form (elements.Scalar k)) (key_of k (writes c))) (key_of k (writes c))
  pub short : length (entry_bytes k f.element (key_of k (writes c)) c.written) < 2 ^ 64

abbrev entry_of : Scalar → Comparand → Leaf × Leaf
entry_of k c = (key_of k (writes c), c.written)

entries_rise : (k : Scalar) (cs : List Comparand) → RisingKeys k cs → EntriesRise (map (entry_of k) cs)
entries_rise k [] h = tt
entries_rise k (c ∷ cs) h = (each-map (λ (x : Leaf × Leaf). key_cmp (key_of k (writes c)) x.0 ≡ Less) (entry_of k) cs h.0, entries_rise k cs h.1)

by_key_rising : (k : Scalar) (cs : List Comparand) → RisingKeys k cs → by_key (map (entry_of k) cs) ≡ map (entry_of k) cs
by_key_rising k cs h = rising_entries_stay (map (entry_of k) cs) (entries_rise k cs h)

module _ (view : View) (child : Reader) (f g : FieldShape) (k l : Scalar) (numbers : f.number ≡ g.number) (old : IsMap child f k) (new : IsMap child g l)
    (key_wires : same_wire (form_wire (form (elements.Scalar k))) (form_wire (form (elements.Scalar l))) ≡ true)
    (value_wires : same_wire (form_wire (form f.element)) (form_wire (form g.element)) ≡ true) where
  abbrev record_of : Comparand → WireRecord
  record_of c = written f.number Len (entry_bytes k f.element (key_of k (writes c)) c.written)

  takes_entry : (c : Comparand) → takes g (record_of c) ≡ true
  unfolding written
  takes_entry c =
      and_from _ _ (eq-eqb f.number g.number numbers) (new.accepts (entry_bytes k f.element (key_of k (writes c)) c.written))

  entry_one : (c : Comparand) → Seen view child f g c × SeenEntry f k l c → entry_in l g.element (record_of c) ≡ Some (entry_of k c)
  entry_one c (seen, entry) = search (rules, entry_across)

  readable_one : (c : Comparand) → Seen view child f g c × SeenEntry f k l c → is_readable child g (record_of c) ≡ true
  readable_one c (seen, entry) = search (rules, entry_readable)

  entries_back : (cs : List Comparand) → AllByRecursion (λ c. Seen view child f g c × SeenEntry f k l c) cs → map (λ (e : Leaf × Leaf). record { number = g.number; key = Some e.0; item = e.1 }) (map (entry_of k) cs) ≡ map writes cs
  entries_back [] h = refl
  entries_back (c ∷ cs) h =
      λ i. record { number = (sym numbers ∙ sym h.0.0.number_is) i; key = sym h.0.1.key_there i; item = c.written } ∷ entries_back cs h.1 i

  pub across_map : (cs : List Comparand) → AllByRecursion (λ c. Seen view child f g c × SeenEntry f k l c) cs → RisingKeys k cs → Across child f g cs
  across_map cs h rising =
      let same : field_records f (map writes cs) ≡ map record_of cs =
      old.records_are (map writes cs) ∙ map_map (λ (q : Part Leaf). written f.number Len (entry_bytes k f.element (key_of k q) q.item)) writes cs in
      let entries : all_some (map (entry_in l g.element) (map record_of cs)) ≡ Some (map (entry_of k) cs) =
      all_some-map_map (entry_in l g.element) record_of (entry_of k) cs
      (each_weaker (λ c. Seen view child f g c × SeenEntry f k l c) (λ c. entry_in l g.element (record_of c) ≡ Some (entry_of k c)) entry_one cs h) in
      record {
        taken = subst (AllByRecursion (λ r. takes g r ≡ true)) (sym same)
            (each-map (λ r. takes g r ≡ true) record_of cs (each_weaker (λ c. Seen view child f g c × SeenEntry f k l c) (λ c. takes g (record_of c) ≡ true) (λ c s. takes_entry c) cs h));
        readable = subst (AllByRecursion (λ r. is_readable child g r ≡ true)) (sym same)
            (each-map (λ r. is_readable child g r ≡ true) record_of cs (each_weaker (λ c. Seen view child f g c × SeenEntry f k l c) (λ c. is_readable child g (record_of c) ≡ true) readable_one cs h));
        content_is = rw (same, new.content_is (map record_of cs), entries, by_key_rising k cs rising) (ap Some (entries_back cs h));
      }
