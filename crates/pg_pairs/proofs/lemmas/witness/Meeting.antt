-- Two fields that come into one new oneof: their least contents together break.
use Rattle.std.proofs.Common.{◌≡◌, ℕ, ◌+◌, ◌<◌, ◌≤◌, List, [], ◌∷◌, ◌++◌, length, map, filter, Bool, true, false, not, ◌&&◌, nat_eq, cond, Option, Some, option_and_then, inl, ⊎_elim, refl, ap, ap₂, sym, ◌∙◌, subst, subst₂, arith, eqb-true, eq-eqb, ne_eqb, append-nil, length-append, rules}
use Rattle.std.specs.Bool.{⊤}
use Rattle.std.specs.List.{AllByRecursion, list_any}
use Rattle.std.proofs.lemmas.Bool.{and_from, and_left, or_left, or_right, cases_Bool, false_from_ne_true}
use Rattle.pg_schema.specs.declared.parts.field.TypeId.{TypeId}
use Rattle.pg_schema.specs.declared.parts.field.Element.{Element}
use Rattle.pg_schema.specs.declared.parts.field.Element.TheVariants as elements
use Rattle.pg_schema.specs.declared.parts.field.Presence.{Presence}
use Rattle.pg_schema.specs.declared.parts.field.Presence.TheVariants as presences
use Rattle.pg_schema.specs.Shape.{Shape, FieldShape, fields, field_at}
use Rattle.pg_schema.specs.ShapeRules.{PresenceFits, IsField, IsShape, Rising}
use Rattle.pg_wire.specs.Records.{WireRecord}
use Rattle.pg_dyn.specs.reading.Optional.{all_some, after_last_of}
use Rattle.pg_dyn.specs.message.Message.{Leaf, Bytes, Item, Message, ends, places, IsPlain, Part, is_of, is_zero, parts, unknown_of}
use Rattle.pg_dyn.specs.word.Coding.{form, InRange}
use Rattle.pg_dyn.specs.reading.Content.{takes, is_sibling, same_oneof, counted, content}
use Rattle.pg_dyn.specs.encoding.Writing.{field_records, records_in, bytes_of}
use Rattle.pg_dyn.specs.encoding.Encoding.{child_type, encoded_parts, enc, cap}
use Rattle.pg_dyn.specs.reading.Decoding.{Reader, read_part, field_parts, read_records, dec}
use Rattle.pg_dyn.specs.fitting.Belonging.{KeyFits, MayBeZero, LeafFits, IsPart, IsMessage}
use Rattle.pg_dyn.specs.views.Comparison.{View, Expected, Alike, is_zero_expected, hides_zero, same_content, same_message, unshared_bytes, Kept, Comparand, writes, expects, comparands}
use Rattle.pg_dyn.specs.views.Breaking.{is_kept}
use Rattle.pg_dyn.specs.laws.Laws.{SharedSame}
use Rattle.pg_dyn.specs.laws.ByComparands.{comparands_at}
use Rattle.pg_dyn.proofs.Lists.{each_weaker, each_of_all, each-append, each-filter, filter-map, none_list_any, filter-after_last_of_none, flat_map-append', each_at, list_any_at}
use Rattle.pg_pairs.specs.declared.choices.choice.Pair.{Pair}
use Rattle.pg_pairs.specs.views.EnumView.{EnumView}
use Rattle.pg_pairs.specs.choices.Costs.{least_content}
use Rattle.pg_pairs.specs.bounds.Laws.{ReachedBy}
use Rattle.pg_pairs.specs.witness.Carried.{least_leaf, least_key, least_part_of, least_part}
use Rattle.pg_pairs.proofs.lemmas.gaps.GapItems.{IsLeafy}
use Rattle.pg_pairs.proofs.lemmas.bounds.Messages.{one_found}
use Rattle.pg_pairs.proofs.lemmas.bounds.Single.{single_records}
use Rattle.pg_pairs.proofs.lemmas.witness.carried.CarryAlone.{leaf_fits_at}
use Rattle.pg_pairs.proofs.lemmas.witness.carried.CarryLists.{zero_in_range}
use Rattle.pg_pairs.proofs.lemmas.witness.LeastContents.{nonzero_in_range, nonzero_is, least_total}
use Rattle.pg_dyn.proofs.PublicLaws.{comparands_are_written, decoding_is, encoding_spells, fields_are_found, kept_by_field, message_splits, own_contents, records_of_fields, siblings_mutual}

pub least_key_fits : (p : Presence) → KeyFits p (least_key p)
least_key_fits presences.Implicit = refl
least_key_fits presences.Explicit = refl
least_key_fits (presences.Repeated packed) = refl
least_key_fits (presences.Map k) = zero_in_range (elements.Scalar k) tt

least_leaf_fits : (p : Presence) (e : Element) → IsLeafy e → InRange (form e) (least_leaf p e) × MayBeZero p (least_leaf p e)
least_leaf_fits presences.Implicit e leafy = (nonzero_in_range e leafy, nonzero_is (form e))
least_leaf_fits presences.Explicit e leafy = (zero_in_range e leafy, tt)
least_leaf_fits (presences.Repeated packed) e leafy = (zero_in_range e leafy, tt)
least_leaf_fits (presences.Map k) e leafy = (zero_in_range e leafy, tt)

module _ (view : View) (old new : Shape) (a b : TypeId) where
  pub least_is_message : (number : ℕ) (p : Presence) (e : Element) (o : Option ℕ) (later : Message) → IsPart (fields old a) number (least_key p) (places later) → field_at (fields old a) number ≡ Some (record { number = number; presence = p; element = e; oneof = o }) → IsMessage old a later → IsMessage old a (least_part_of number p e later)
  least_is_message number p (elements.Message t) o later part found is =
      let same = one_found (fields old a) number (record { number = number; presence = p; element = elements.Message t; oneof = o }) part.field found part.found in
      (part, t, sym (ap (λ (x : FieldShape). x.element) same), tt, is)
  least_is_message number p (elements.Scalar s) o later part found is =
      let same = one_found (fields old a) number (record { number = number; presence = p; element = elements.Scalar s; oneof = o }) part.field found part.found in
      let fits = least_leaf_fits p (elements.Scalar s) tt in
      (part, subst (λ (x : FieldShape). LeafFits x (least_leaf p (elements.Scalar s))) same (leaf_fits_at number p (elements.Scalar s) o (least_leaf p (elements.Scalar s)) tt fits.0 fits.1), is)
  least_is_message number p (elements.Enum s) o later part found is =
      let same = one_found (fields old a) number (record { number = number; presence = p; element = elements.Enum s; oneof = o }) part.field found part.found in
      let fits = least_leaf_fits p (elements.Enum s) tt in
      (part, subst (λ (x : FieldShape). LeafFits x (least_leaf p (elements.Enum s))) same (leaf_fits_at number p (elements.Enum s) o (least_leaf p (elements.Enum s)) tt fits.0 fits.1), is)

  -- its comparand
  pub record LeastComparand (number : ℕ) (p : Presence) (e : Element) (later : Message) : Type 0 where
    pub comparand : Comparand
    pub comparands_are : comparands view old new a b (least_part_of number p e later) ≡ comparand ∷ comparands view old new a b later
    pub number_is : comparand.number ≡ number
    pub key_is : comparand.key ≡ least_key p
    pub written_is : comparand.written ≡ least_leaf p e
    pub not_hidden : p ≡ presences.Implicit → is_zero_expected comparand.expected ≡ false

  zero_child : (p : Presence) (t : TypeId) (o : Option ℕ) → PresenceFits p (elements.Message t) o → Bytes [] ≡ least_leaf p (elements.Message t)
  zero_child presences.Implicit t o h = absurd h
  zero_child presences.Explicit t o h = refl
  zero_child (presences.Repeated packed) t o h = refl
  zero_child (presences.Map k) t o h = refl

  implicit_nonzero : (p : Presence) (e : Element) → p ≡ presences.Implicit → is_zero (least_leaf p e) ≡ false
  implicit_nonzero p e h = subst (λ q. is_zero (least_leaf q e) ≡ false) (sym h) (nonzero_is (form e))

  pub least_comparand : (number : ℕ) (p : Presence) (e : Element) (o : Option ℕ) → PresenceFits p e o → (later : Message) → LeastComparand number p e later
  least_comparand number p (elements.Scalar s) o fits later = record { comparand = record { number = number; key = least_key p; written = least_leaf p (elements.Scalar s); expected = Alike (least_leaf p (elements.Scalar s)) }; comparands_are = refl; number_is = refl; key_is = refl; written_is = refl; not_hidden = implicit_nonzero p (elements.Scalar s) }
  least_comparand number p (elements.Enum s) o fits later = record { comparand = record { number = number; key = least_key p; written = least_leaf p (elements.Enum s); expected = Alike (least_leaf p (elements.Enum s)) }; comparands_are = refl; number_is = refl; key_is = refl; written_is = refl; not_hidden = implicit_nonzero p (elements.Enum s) }
  least_comparand number p (elements.Message t) o fits later = record {
    comparand = record {
      number = number;
      key = least_key p;
      written = Bytes (bytes_of (records_in (fields old (child_type (fields old a) number)) []) ++ []);
      expected = Kept (same_message view (fields old (child_type (fields old a) number)) (fields new (child_type (fields new b) number)) [] (unshared_bytes old (child_type (fields old a) number) (fields new (child_type (fields new b) number)) (ends [])));
    };
    comparands_are = refl;
    number_is = refl;
    key_is = refl;
    written_is = ap (λ rs. Bytes (bytes_of rs ++ [])) (own_contents.0 (fields old (child_type (fields old a) number))) ∙ zero_child p t o fits;
    not_hidden = λ h. refl;
  }

-- a part of a lower number writes nothing
without : (fs : List FieldShape) (p : Part Leaf) (ps : List (Part Leaf)) → AllByRecursion (λ g. p.number < g.number) fs → records_in fs (p ∷ ps) ≡ records_in fs ps
without [] p ps h = refl
without (g ∷ fs) p ps h = search (rules, without fs p ps h.1, ne_eqb)

-- The records of two parts.
pub two_records : (fs : List FieldShape) → Rising fs → (f e : FieldShape) (p q : Part Leaf) → p.number ≡ f.number → q.number ≡ e.number → f.number < e.number → field_at fs f.number ≡ Some f → field_at fs e.number ≡ Some e → records_in fs (p ∷ q ∷ []) ≡ field_records f (p ∷ []) ++ field_records e (q ∷ [])
two_records [] rising f e p q at_p at_q below found_f found_e = absurd (cc)
two_records (x ∷ fs) rising f e p q at_p at_q below found_f found_e =
    elim (nat_eq x.number f.number) as (λ b. nat_eq x.number f.number ≡ b → cond b (Some x) (field_at fs f.number) ≡ Some f → records_in (x ∷ fs) (p ∷ q ∷ []) ≡ field_records f (p ∷ []) ++ field_records e (q ∷ [])) [
      | true ↦ λ k h.
          let same : x ≡ f = cc in
          let at = eqb-true x.number f.number k in
          let later = later_than e.number e (λ m. omega arith) found_e in
          let own : filter (is_of x.number) (p ∷ q ∷ []) ≡ p ∷ [] = rw (eq-eqb p.number x.number (at_p ∙ sym at), ne_eqb q.number x.number (λ m. omega arith)) in
          let above : AllByRecursion (λ g. p.number < g.number) fs = subst (λ n. AllByRecursion (λ g. n < g.number) fs) (at ∙ sym at_p) rising.0 in
          ap₂ (λ xs ys. xs ++ ys) (ap₂ field_records same own)
          (without fs p (q ∷ []) above ∙ single_records fs rising.1 e (q ∷ []) (at_q, tt) later)
      | false ↦ λ k h.
          let above : x.number < f.number = each_at (λ g. x.number < g.number) fs f.number f h rising.0 in
          let none : filter (is_of x.number) (p ∷ q ∷ []) ≡ [] = rw (ne_eqb p.number x.number (λ m. omega arith), ne_eqb q.number x.number (λ m. omega arith)) in
          ap₂ (λ xs ys. xs ++ ys) (ap (field_records x) none ∙ records_of_fields.1 x)
          (two_records fs rising.1 f e p q at_p at_q below h (later_than e.number e (λ m. omega arith) found_e))
    ] refl found_f
  where
    later_than : (n : ℕ) (g : FieldShape) → (x.number ≡ n → ⊥) → field_at (x ∷ fs) n ≡ Some g → field_at fs n ≡ Some g
    later_than n g apart found = search (rules, eqb-true)

-- Lists.

list_any_weaker : {A : Type 0} (p q : A → Bool) → ((x : A) → p x ≡ true → q x ≡ true) → (xs : List A) → list_any p xs ≡ true → list_any q xs ≡ true
list_any_weaker p q weaker [] h = absurd (cc)
list_any_weaker p q weaker (x ∷ xs) h =
    ⊎_elim (λ yes. or_left (q x) (list_any q xs) (weaker x yes)) (λ no. or_right (q x) (list_any q xs) (list_any_weaker p q weaker xs (rw no at h))) (cases_Bool (p x))

list_any_later : {A : Type 0} (test : A → Bool) (xs ys : List A) → list_any test ys ≡ true → list_any test (xs ++ ys) ≡ true
list_any_later test [] ys h = h
list_any_later test (x ∷ xs) ys h = or_right (test x) (list_any test (xs ++ ys)) (list_any_later test xs ys h)

after_last_later : {A : Type 0} (test : A → Bool) (xs ys : List A) → list_any test ys ≡ true → after_last_of test (xs ++ ys) ≡ after_last_of test ys
after_last_later test [] ys h = refl
after_last_later test (x ∷ xs) ys h = rw (or_right (test x) (list_any test (xs ++ ys)) (list_any_later test xs ys h)) (after_last_later test xs ys h)

-- a member of a oneof is explicit
member_explicit : (q : Presence) (d : Element) (o r : Option ℕ) → PresenceFits q d o → same_oneof o r ≡ true → q ≡ presences.Explicit
member_explicit presences.Implicit (elements.Scalar s) o r fits h = absurd (let no : same_oneof o r ≡ false = rw fits in cc)
member_explicit presences.Implicit (elements.Enum s) o r fits h = absurd (let no : same_oneof o r ≡ false = rw fits in cc)
member_explicit presences.Implicit (elements.Message s) o r fits h = absurd fits
member_explicit presences.Explicit d o r fits h = refl
member_explicit (presences.Repeated w) d o r fits h = absurd (let no : same_oneof o r ≡ false = rw fits.0 in cc)
member_explicit (presences.Map k) d o r fits h = absurd (let no : same_oneof o r ≡ false = rw fits.0 in cc)

-- an old field beside an explicit one hides only what an implicit field never holds
visible_at : (m n : ℕ) (p q : Presence) (e d : Element) (o r : Option ℕ) (s : Expected) → q ≡ presences.Explicit → (p ≡ presences.Implicit → is_zero_expected s ≡ false) → (hides_zero (record { number = m; presence = p; element = e; oneof = o }) (record { number = n; presence = q; element = d; oneof = r }) && is_zero_expected s) ≡ false
visible_at m n presences.Implicit q e d o r s is nonzero = rw is (nonzero refl)
visible_at m n presences.Explicit q e d o r s is nonzero = rw is
visible_at m n (presences.Repeated w) q e d o r s is nonzero = refl
visible_at m n (presences.Map k) q e d o r s is nonzero = refl

module _ (view : View) (child : Reader) (gs : List FieldShape) (rs : List WireRecord) (w : Message) (rising : Rising gs) (read : read_records child gs rs ≡ Some w) where
  -- A field of which no record counts shows nothing, so it doesn't show what the old one has.
  lost : (f g : FieldShape) → field_at gs f.number ≡ Some g → (cs : List Comparand) (c : Comparand) → comparands_at f.number cs ≡ c ∷ [] → (hides_zero f g && is_zero_expected c.expected) ≡ false → counted gs g rs ≡ [] → same_content view f g (map expects cs) (parts w) ≡ true → ⊥
  lost f g at cs c one visible none whole =
      let parts_none : field_parts child gs rs g ≡ Some [] =
      ap (λ xs. option_and_then (λ qs. all_some (map (read_part child g.element) qs)) (content g xs)) none ∙ rw (own_contents.1 g) in
      let split = (message_splits child gs rs w rising read).0 f.number g at in
      let equal : ◌≡◌ {A = Option (List (Part Item))} (Some []) (Some (filter (is_of f.number) (parts w))) = sym parts_none ∙ split in
      let empty : [] ≡ filter (is_of f.number) (parts w) = cc in
      let left : filter (is_of f.number) (map expects cs) ≡ expects c ∷ [] = filter-map (is_of f.number) expects cs ∙ ap (map expects) one in
      let shows : same_content view f g (expects c ∷ []) [] ≡ true =
      subst₂ (λ xs ys. same_content view f g xs ys ≡ true) left (sym empty) (own_contents.2 view f g (map expects cs) (parts w) ∙ whole) in
      let number : nat_eq c.number f.number ≡ true = comparand_number one in
      let fails : same_content view f g (expects c ∷ []) [] ≡ false = rw (visible, number) in
      cc
    where
      comparand_number : comparands_at f.number cs ≡ c ∷ [] → nat_eq c.number f.number ≡ true
      comparand_number e = (subst (AllByRecursion (λ (x : Comparand). nat_eq x.number f.number ≡ true)) e (each_weaker (λ (x : Comparand). ⊤ × (nat_eq x.number f.number ≡ true)) (λ x. nat_eq x.number f.number ≡ true) (λ x h. h.1) (comparands_at f.number cs) (each-filter (λ (x : Comparand). ⊤) (λ (x : Comparand). nat_eq x.number f.number) cs (each_of_all (λ (x : Comparand). ⊤) (λ x. tt) cs)))).0

module _ (enum_view : EnumView) (old new : Shape) (shape_old : IsShape old) (shape_new : IsShape new) (pair : Pair) (f e g h : FieldShape)
    (found_f : field_at (fields old pair.old) f.number ≡ Some f) (found_e : field_at (fields old pair.old) e.number ≡ Some e)
    (at_g : field_at (fields new pair.new) f.number ≡ Some g) (at_h : field_at (fields new pair.new) e.number ≡ Some h)
    (one : same_oneof g.oneof h.oneof ≡ true) (not_old : same_oneof f.oneof e.oneof ≡ false) (below : f.number < e.number) where
  abbrev fs : List FieldShape
  fs = fields old pair.old

  abbrev gs : List FieldShape
  gs = fields new pair.new

  fits_old : (x : FieldShape) → field_at fs x.number ≡ Some x → PresenceFits x.presence x.element x.oneof
  fits_old x found = (each_at (IsField (length old)) fs x.number x found (fields_are_found.0 old pair.old shape_old).each).presence_fits

  fits_new : (n : ℕ) (x : FieldShape) → field_at gs n ≡ Some x → PresenceFits x.presence x.element x.oneof
  fits_new n x found = (each_at (IsField (length new)) gs n x found (fields_are_found.0 new pair.new shape_new).each).presence_fits

  abbrev second : Message
  second = least_part e (ends [])

  abbrev v : Message
  v = least_part f second

  comparand_f : LeastComparand enum_view.alike old new pair.old pair.new f.number f.presence f.element second
  comparand_f = least_comparand enum_view.alike old new pair.old pair.new f.number f.presence f.element f.oneof (fits_old f found_f) second

  comparand_e : LeastComparand enum_view.alike old new pair.old pair.new e.number e.presence e.element (ends [])
  comparand_e = least_comparand enum_view.alike old new pair.old pair.new e.number e.presence e.element e.oneof (fits_old e found_e) (ends [])

  comparands_two : comparands enum_view.alike old new pair.old pair.new v ≡ comparand_f.comparand ∷ comparand_e.comparand ∷ []
  comparands_two = comparand_f.comparands_are ∙ ap (λ cs. comparand_f.comparand ∷ cs) comparand_e.comparands_are

  places_second : (p : Presence) (d : Element) → places (least_part_of e.number p d (ends [])) ≡ record { number = e.number; key = least_key p } ∷ []
  places_second p (elements.Message t) = refl
  places_second p (elements.Scalar s) = refl
  places_second p (elements.Enum s) = refl

  no_unknown : (p q : Presence) (d c : Element) → unknown_of (least_part_of f.number p d (least_part_of e.number q c (ends []))) ≡ []
  no_unknown p q (elements.Message t) (elements.Message u) = refl
  no_unknown p q (elements.Message t) (elements.Scalar u) = refl
  no_unknown p q (elements.Message t) (elements.Enum u) = refl
  no_unknown p q (elements.Scalar t) (elements.Message u) = refl
  no_unknown p q (elements.Scalar t) (elements.Scalar u) = refl
  no_unknown p q (elements.Scalar t) (elements.Enum u) = refl
  no_unknown p q (elements.Enum t) (elements.Message u) = refl
  no_unknown p q (elements.Enum t) (elements.Scalar u) = refl
  no_unknown p q (elements.Enum t) (elements.Enum u) = refl

  plain : (p q : Presence) (d c : Element) → IsPlain (least_part_of f.number p d (least_part_of e.number q c (ends [])))
  plain p q (elements.Message t) (elements.Message u) = (tt, (tt, tt))
  plain p q (elements.Message t) (elements.Scalar u) = (tt, tt)
  plain p q (elements.Message t) (elements.Enum u) = (tt, tt)
  plain p q (elements.Scalar t) (elements.Message u) = (tt, tt)
  plain p q (elements.Scalar t) (elements.Scalar u) = tt
  plain p q (elements.Scalar t) (elements.Enum u) = tt
  plain p q (elements.Enum t) (elements.Message u) = (tt, tt)
  plain p q (elements.Enum t) (elements.Scalar u) = tt
  plain p q (elements.Enum t) (elements.Enum u) = tt

  is_second : IsMessage old pair.old second
  is_second =
      least_is_message enum_view.alike old new pair.old pair.new e.number e.presence e.element e.oneof (ends [])
      (record { field = e; found = found_e; key_fits = least_key_fits e.presence; before = tt; alone = tt }) found_e tt

  is : IsMessage old pair.old v
  is =
      least_is_message enum_view.alike old new pair.old pair.new f.number f.presence f.element f.oneof second
      (subst (IsPart fs f.number (least_key f.presence)) (sym (places_second e.presence e.element))
      (record {
        field = f;
        found = found_f;
        key_fits = least_key_fits f.presence;
        before = (inl below, tt);
        alone = ((λ x at. let same = one_found fs e.number e x found_e at in and_left (same_oneof f.oneof x.oneof) _ (subst (λ (y : FieldShape). same_oneof f.oneof y.oneof ≡ false) same not_old)), tt);
      })) found_f is_second

  abbrev first_records : List WireRecord
  first_records = field_records f (writes comparand_f.comparand ∷ [])

  abbrev second_records : List WireRecord
  second_records = field_records e (writes comparand_e.comparand ∷ [])

  records_are : records_in fs (encoded_parts old pair.old v) ≡ first_records ++ second_records
  records_are =
      search (rules, comparands_are_written, comparands_two, two_records, fields_are_found, comparand_f, comparand_e)

  nothing_unknown : unknown_of v ≡ []
  nothing_unknown = no_unknown f.presence e.presence f.element e.element

  length_is : length (enc old pair.old v) ≡ least_content f + least_content e
  unfolding enc
  length_is =
      search (rules, records_are, nothing_unknown, append-nil, flat_map-append', length-append, least_total, fits_old, comparand_f, comparand_e)

  comparands_of_f : comparands_at f.number (comparands enum_view.alike old new pair.old pair.new v) ≡ comparand_f.comparand ∷ []
  comparands_of_f = ap (comparands_at f.number) comparands_two ∙ rw (eq-eqb comparand_f.comparand.number f.number comparand_f.number_is, ne_eqb comparand_e.comparand.number f.number (λ k. let at = comparand_e.number_is in omega arith))

  comparands_of_e : comparands_at e.number (comparands enum_view.alike old new pair.old pair.new v) ≡ comparand_e.comparand ∷ []
  comparands_of_e = ap (comparands_at e.number) comparands_two ∙ rw (ne_eqb comparand_f.comparand.number e.number (λ k. let at = comparand_f.number_is in omega arith), eq-eqb comparand_e.comparand.number e.number comparand_e.number_is)

  number_g : g.number ≡ f.number
  number_g = fields_are_found.1 gs f.number g at_g

  number_h : h.number ≡ e.number
  number_h = fields_are_found.1 gs e.number h at_h

  siblings : is_sibling g h ≡ true
  siblings = and_from (same_oneof g.oneof h.oneof) (not (nat_eq g.number h.number)) one (ap not (ne_eqb g.number h.number (λ k. omega (arith, number_g, number_h))))

  g_explicit : g.presence ≡ presences.Explicit
  g_explicit = member_explicit g.presence g.element g.oneof h.oneof (fits_new f.number g at_g) one

  h_explicit : h.presence ≡ presences.Explicit
  h_explicit = member_explicit h.presence h.element h.oneof g.oneof (fits_new e.number h at_h) (siblings_mutual.0 g.oneof h.oneof one)

  -- records of another number aren't taken
  not_taken : (x y : FieldShape) (c : Comparand) → (x.number ≡ y.number → ⊥) → AllByRecursion (λ r. takes x r ≡ false) (field_records y (writes c ∷ []))
  not_taken x y c apart = search (rules, each_weaker, eqb-true, records_of_fields, cases_Bool)

  -- the second field's record is taken: then the first one is cleared
  first_cleared : list_any (takes h) second_records ≡ true → counted gs g (first_records ++ second_records) ≡ []
  first_cleared taken =
      let test = λ (r : WireRecord). list_any (λ x. is_sibling g x && takes x r) gs in
      let some : list_any (λ (r : WireRecord). list_any (λ x. is_sibling g x && takes x r) gs) second_records ≡ true =
      list_any_weaker (takes h) (λ (r : WireRecord). list_any (λ x. is_sibling g x && takes x r) gs)
      (λ r yes. list_any_at (λ x. is_sibling g x && takes x r) gs e.number h at_h (and_from (is_sibling g h) (takes h r) siblings yes)) second_records taken in
      ap (filter (takes g)) (after_last_later (λ (r : WireRecord). list_any (λ x. is_sibling g x && takes x r) gs) first_records second_records some)
      ∙ filter-after_last_of_none (takes g) (λ (r : WireRecord). list_any (λ x. is_sibling g x && takes x r) gs) second_records
      (not_taken g e comparand_e.comparand (λ k. omega (arith, number_g)))

  -- it isn't: then the second one has nothing
  second_missing : list_any (takes h) second_records ≡ false → counted gs h (first_records ++ second_records) ≡ []
  second_missing none =
      filter-after_last_of_none (takes h) (λ (r : WireRecord). list_any (λ x. is_sibling h x && takes x r) gs) (first_records ++ second_records)
      (each-append (λ r. takes h r ≡ false) first_records second_records (not_taken h f comparand_f.comparand (λ k. omega (arith, number_h))) (none_list_any (takes h) second_records none))

  not_shown : (w : Message) → read_records (dec new) gs (first_records ++ second_records) ≡ Some w → SharedSame enum_view.alike old new pair.old pair.new v w → ⊥
  not_shown w read shows =
      let rising = (fields_are_found.0 new pair.new shape_new).rising in
      ⊎_elim
      (λ taken.
      lost enum_view.alike (dec new) gs (first_records ++ second_records) w rising read f g at_g (comparands enum_view.alike old new pair.old pair.new v) comparand_f.comparand comparands_of_f
      (visible_at f.number g.number f.presence g.presence f.element g.element f.oneof g.oneof comparand_f.comparand.expected g_explicit comparand_f.not_hidden) (first_cleared taken) (shows f.number f g found_f at_g))
      (λ none.
      lost enum_view.alike (dec new) gs (first_records ++ second_records) w rising read e h at_h (comparands enum_view.alike old new pair.old pair.new v) comparand_e.comparand comparands_of_e
      (visible_at e.number h.number e.presence h.presence e.element h.element e.oneof h.oneof comparand_e.comparand.expected h_explicit comparand_e.not_hidden) (second_missing none) (shows e.number e h found_e at_h))
      (cases_Bool (list_any (takes h) second_records))

  read_is : length (enc old pair.old v) ≤ cap → dec new pair.new (enc old pair.old v) ≡ read_records (dec new) gs (first_records ++ second_records)
  read_is small =
      search (rules, decoding_is, option_and_then, encoding_spells, is, records_are, nothing_unknown, append-nil)

  is_plain : IsPlain v
  is_plain = plain f.presence e.presence f.element e.element

  broken : length (enc old pair.old v) ≤ cap → is_kept enum_view.alike old new pair.old pair.new v ≡ false
  broken small = search (rules, false_from_ne_true, kept_by_field, is, is_plain, not_shown, read_is)

  -- Case 6: the sum of the least contents is reached.
  pub reach_meeting : least_content f + least_content e ≤ cap → ReachedBy enum_view old new pair (least_part f (least_part e (ends []))) (least_content f + least_content e)
  reach_meeting small = search (rules, length_is, is, is_plain, broken)
