-- Where the new type keeps all messages that are no longer than one, it reads that one whole in what may be written of it, in whatever
-- order.
use Rattle.std.proofs.Common.{◌≡◌, ℕ, ◌^◌, ◌<◌, ◌≤◌, ◌⊎◌, inl, inr, ⊎_elim, List, [], ◌++◌, map, filter, length, Bool, true, false, nat_lt, Option, Some, None, option_and_then, Ok, refl, ap, sym, subst, ◌∙◌, arith, append-nil, ltb-false, ltb-true}
use Rattle.std.specs.List.{AllByRecursion}
use Rattle.std.specs.Str.{bytes_eq}
use Rattle.std.proofs.lemmas.Bool.{and_from}
use Rattle.pg_schema.specs.declared.parts.field.TypeId.{TypeId}
use Rattle.pg_schema.specs.Shape.{Shape, FieldShape, fields, field_at, is_map}
use Rattle.pg_schema.specs.ShapeRules.{IsField, IsShape, Rising}
use Rattle.pg_wire.specs.Records.{WireRecord, records_of}
use Rattle.pg_dyn.specs.message.Message.{Leaf, Message, ends, holds, nests, IsPlain, Part, is_of, message_from, parts, unknown_of}
use Rattle.pg_dyn.specs.reading.Content.{is_unknown, option_from, takes}
use Rattle.pg_dyn.specs.encoding.Writing.{bytes_of, field_records, records_in}
use Rattle.pg_dyn.specs.encoding.Encoding.{cap, child_type, enc}
use Rattle.pg_dyn.specs.reading.Decoding.{dec, read_records}
use Rattle.pg_dyn.specs.fitting.Belonging.{IsMessage, KeyFits}
use Rattle.pg_dyn.specs.laws.Laws.{of_number}
use Rattle.pg_dyn.specs.laws.ByComparands.{EachFieldKept, NoComparandsMeet, comparands_at}
use Rattle.pg_dyn.specs.laws.OwnParts.{ChildrenShorter, FitsField}
use Rattle.pg_dyn.specs.views.Comparison.{View, Comparand, Expected, same_content, writes}
use Rattle.pg_dyn.specs.views.Breaking.{Breaks, Compatible, is_kept}
use Rattle.pg_dyn.proofs.Lists.{each_at, each_unmapped, each_weaker, filter-map, filter_none, list_all_each}
use Rattle.pg_dyn.proofs.lemmas.fitting.Belonging.{child_type_is, fields-IsType, is_flat}
use Rattle.pg_dyn.proofs.lemmas.laws.Flat.{IsFlat, each_fits}
use Rattle.pg_dyn.proofs.lemmas.laws.Shorter.{children_shorter}
use Rattle.pg_dyn.proofs.lemmas.reading.Depth.{dec_is}
use Rattle.pg_dyn.proofs.lemmas.reading.records.ReadSplits.{parts-message_from}
use Rattle.pg_dyn.proofs.lemmas.reading.records.Splitting.{each_found, found_number}
use Rattle.pg_dyn.proofs.lemmas.views.SelfSame.{bytes_eq_self, plain_unknown}
use Rattle.pg_order.specs.MayWrite.{IsReordered, MayBeParts, MayWrite}
use Rattle.pg_order.specs.Sees.{IsSeen, gives_back, seen_parts, shares}
use Rattle.pg_order.proofs.lemmas.Lengths.{one_length}
use Rattle.pg_order.proofs.lemmas.OldReads.{parts_read, written_flat, written_records}
use Rattle.pg_order.proofs.lemmas.Reordered.{IsWholeMap, MapsAreWhole, NoneMeetIn, reordered_read}
use Rattle.pg_order.proofs.lemmas.Assembled as assembled
use Rattle.pg_order.proofs.lemmas.Embedded.{KeptTo}
use Rattle.pg_order.proofs.lemmas.ChildPairs.{PartsSeen, expects_back, rewritten, writes_back}
use Rattle.pg_order.proofs.lemmas.RewrittenKept.{rewritten_apart, rewritten_kept}
use Rattle.pg_order.proofs.lemmas.WholeMaps.{none_or_whole}

-- whether a field, where it is shared, has the same content
abbrev shares_at : View → List FieldShape → List (Part Expected) → Message → FieldShape → Option FieldShape → Bool
shares_at view gs es m f (Some g) = same_content view f g es (parts m)
shares_at view gs es m f None = true

module _ (view : View) (old new : Shape) (is_old : IsShape old) (is_new : IsShape new) where
  -- One level.
  module _ (a b : TypeId) (v : Message) (is_message : IsMessage old a v) (plain : IsPlain v) (small : length (enc old a v) ≤ cap) (kept : KeptTo view old new is_old is_new (length (enc old a v)) a b)
      (bytes : List ℕ) (w : MayWrite old a v bytes) (seen : PartsSeen view old new is_old is_new a v w.parts w.are_parts) where
    abbrev fs : List FieldShape
    fs = fields old a

    abbrev gs : List FieldShape
    gs = fields new b

    abbrev ps : List (Part Leaf)
    ps = w.parts

    abbrev es : List (Part Expected)
    es = seen_parts view old new a b v w.parts w.are_parts

    abbrev ds : List Comparand
    ds = rewritten ps es

    abbrev rs : List WireRecord
    rs = records_in fs (map writes ds)

    rising_old : Rising fs
    rising_old = (fields-IsType old a is_old).rising

    rising_new : Rising gs
    rising_new = (fields-IsType new b is_new).rising

    short : length (enc old a v) < 2 ^ 64
    short = omega (arith, small)

    few : length (bytes_of w.records) < 2 ^ 64
    few = omega (arith, short, one_length old a v bytes w, ap length w.bytes_are)

    flat : IsFlat (length old) fs ps (unknown_of v)
    flat =
        written_flat old is_old a v is_message ps
        (parts_read old is_old a (length (enc old a v)) v is_message (omega (arith, short)) (children_shorter old a v is_message (is_flat old a (fields-IsType old a is_old) v is_message short)) ps w.are_parts)
        w.records w.reordered few

    each_kept : EachFieldKept view (dec new) fs gs ds
    each_kept = rewritten_kept view old new a b v is_old is_new is_message plain small kept ps w.are_parts seen flat

    apart : NoComparandsMeet gs ds
    apart = rewritten_apart view old new a b v is_old is_new is_message plain small kept ps w.are_parts seen flat

    records_are : records_in fs ps ++ unknown_of v ≡ rs
    records_are =
        ap (λ us. records_in fs ps ++ us) (plain_unknown v plain)
        ∙ append-nil (records_in fs ps)
        ∙ ap (records_in fs) (sym (writes_back view old new is_old is_new a b v ps w.are_parts))

    reordered : IsReordered fs rs w.records
    reordered = subst (λ xs. IsReordered fs xs w.records) records_are w.reordered

    -- Each field's comparands have its number, and a key just in a map.
    own_parts : (f : FieldShape) → filter (is_of f.number) ps ≡ map writes (comparands_at f.number ds)
    own_parts f = ap (filter (is_of f.number)) (sym (writes_back view old new is_old is_new a b v ps w.are_parts)) ∙ filter-map (is_of f.number) writes ds

    entries : (f : FieldShape) → field_at fs f.number ≡ Some f → AllByRecursion (λ (c : Comparand). (c.number ≡ f.number) × KeyFits f.presence c.key) (comparands_at f.number ds)
    entries f found =
        each_weaker (λ (c : Comparand). FitsField f.number f.presence f.element (writes c)) (λ (c : Comparand). (c.number ≡ f.number) × KeyFits f.presence c.key) (λ c fits. (fits.number_is, fits.key_fits)) (comparands_at f.number ds)
        (each_unmapped (FitsField f.number f.presence f.element) writes (comparands_at f.number ds)
        (subst (AllByRecursion (FitsField f.number f.presence f.element)) (own_parts f) (each_fits fs f found ps flat.parts)))

    none_meet_in : NoneMeetIn gs rs
    none_meet_in g h at_g at_h sibling =
        ⊎_elim (λ none. inl (filter_none (takes g) rs (assembled.nothing_taken view (dec new) fs gs ds rising_old rising_new apart g none)))
        (λ none. inr (filter_none (takes h) rs (assembled.nothing_taken view (dec new) fs gs ds rising_old rising_new apart h none)))
        (apart g h at_g at_h sibling)

    maps_are_whole : MapsAreWhole fs gs rs
    maps_are_whole g at is = of (field_at fs g.number) refl
      where
        of : (o : Option FieldShape) → field_at fs g.number ≡ o → (filter (takes g) rs ≡ []) ⊎ IsWholeMap g (filter (takes g) rs)
        of None e = absurd (let k : false ≡ true = rw e at is in cc)
        of (Some f) e =
            let number : f.number ≡ g.number = found_number fs g.number f e in
            let found : field_at fs f.number ≡ Some f = ap (field_at fs) number ∙ e in
            let at_f : field_at gs f.number ≡ Some g = ap (field_at gs) number ∙ at in
            let map_field : is_map f.presence ≡ true = rw e at is in
            let taken : filter (takes g) rs ≡ filter (takes g) (field_records f (map writes (comparands_at f.number ds))) =
            assembled.taken_numbered view (dec new) fs gs ds rising_old rising_new apart g
            ∙ ap (filter (takes g)) (ap (λ n. filter (of_number n) rs) (sym number) ∙ assembled.of_field view (dec new) fs gs ds rising_old rising_new apart f found) in
            subst (λ xs. (filter (takes g) rs ≡ []) ⊎ IsWholeMap g (filter (takes g) rs)) taken
            (subst (λ xs. (xs ≡ []) ⊎ IsWholeMap g xs) (sym taken)
            (none_or_whole view (dec new) f g map_field (each_at (IsField (length new)) gs f.number g at_f (fields-IsType new b is_new).each).presence_fits
            (comparands_at f.number ds) (entries f found) (each_kept f g found at_f)))

    -- What is read is the message that the parts are read as, but for the order of what the new type doesn't know.

    in_order : Message
    in_order = assembled.the_message view (dec new) fs gs ds rising_old rising_new apart each_kept

    back : List WireRecord
    back = filter (is_unknown gs) w.records

    as_read : Message
    as_read = message_from (parts in_order) back

    records_read : records_of (bytes_of w.records) ≡ Ok w.records
    records_read = written_records old is_old a v ps flat w.records w.reordered

    is_read : dec new b bytes ≡ Some as_read
    unfolding in_order back as_read
    is_read =
        ap (dec new b) w.bytes_are
        ∙ dec_is new b (bytes_of w.records)
        ∙ ap (λ x. option_and_then (read_records (dec new) gs) (option_from x)) records_read
        ∙ reordered_read (dec new) fs gs rs w.records rising_new reordered none_meet_in maps_are_whole in_order
        (assembled.is_read view (dec new) fs gs ds rising_old rising_new apart each_kept)

    shown_at : (f g : FieldShape) → field_at fs f.number ≡ Some f → field_at gs f.number ≡ Some g → same_content view f g es (parts as_read) ≡ true
    unfolding in_order back as_read
    shown_at f g found at =
        ap (same_content view f g es) (parts-message_from (parts in_order) back).0
        ∙ subst (λ xs. same_content view f g xs (parts in_order) ≡ true) (expects_back view old new is_old is_new a b v ps w.are_parts)
        (assembled.shows view (dec new) fs gs ds rising_old rising_new apart each_kept f g found at)

    all_shown : shares view fs gs es as_read ≡ true
    all_shown =
        list_all_each (λ f. shares_at view gs es as_read f (field_at gs f.number)) fs
        (each_weaker (λ f. field_at fs f.number ≡ Some f) (λ f. shares_at view gs es as_read f (field_at gs f.number) ≡ true) one fs (each_found fs rising_old))
      where
        one : (f : FieldShape) → field_at fs f.number ≡ Some f → shares_at view gs es as_read f (field_at gs f.number) ≡ true
        one f found = of (field_at gs f.number) refl
          where
            of : (o : Option FieldShape) → field_at gs f.number ≡ o → shares_at view gs es as_read f o ≡ true
            of None e = refl
            of (Some g) e = shown_at f g found e

    unknown_back : unknown_of as_read ≡ filter (is_unknown gs) w.records
    unfolding back as_read
    unknown_back = (parts-message_from (parts in_order) back).1

    given_back : gives_back gs bytes as_read ≡ true
    given_back =
        ap (λ bs. gives_back gs bs as_read) w.bytes_are
        ∙ rw records_read
        (ap (λ us. bytes_eq (bytes_of us) (bytes_of (filter (is_unknown gs) w.records))) unknown_back ∙ bytes_eq_self (bytes_of (filter (is_unknown gs) w.records)))

    level_seen : IsSeen view old new a b v bytes w
    level_seen = record { message = as_read; is_read = is_read; is_seen = and_from (shares view fs gs es as_read) (gives_back gs bytes as_read) all_shown given_back }

  -- Each child is seen where it is kept.
  parts_seen : (a : TypeId) (n : ℕ) (v : Message) → IsMessage old a v → IsPlain v → n ≤ cap → ChildrenShorter old a n v → (ps : List (Part Leaf)) (is : MayBeParts old a v ps) → PartsSeen view old new is_old is_new a v ps is
  parts_seen a n (ends unknown) h plain small shorter ps is = tt
  parts_seen a n (holds number key leaf later) h plain small shorter ps (qs, is, rest) = parts_seen a n later h.2 plain small shorter qs rest
  parts_seen a n (nests number key c later) h plain small shorter ps (qs, bytes, is, w, rest) =
      let of = child_type (fields old a) number in
      let is_child : IsMessage old of c = subst (λ t. IsMessage old t c) (sym (child_type_is (fields old a) number h.0.field h.1 h.0.found h.2)) h.3 in
      let less : length (enc old of c) < n = shorter.0 in
      let few : length (enc old of c) ≤ cap = omega arith in
      let short : length (enc old of c) < 2 ^ 64 = omega (arith, few) in
      let inside = parts_seen of (length (enc old of c)) c is_child plain.0 few (children_shorter old of c is_child (is_flat old of (fields-IsType old of is_old) c is_child short)) w.parts w.are_parts in
      (λ u kept. level_seen of u c is_child plain.0 few kept bytes w inside, parts_seen a n later h.4 plain.1 small shorter.1 qs rest)

  seen_where_kept : (a b : TypeId) (v : Message) (bytes : List ℕ) → IsMessage old a v → IsPlain v → length (enc old a v) ≤ cap → KeptTo view old new is_old is_new (length (enc old a v)) a b → (w : MayWrite old a v bytes) → IsSeen view old new a b v bytes w
  seen_where_kept a b v bytes h plain small kept w =
      let short : length (enc old a v) < 2 ^ 64 = omega (arith, small) in
      level_seen a b v h plain small kept bytes w
      (parts_seen a (length (enc old a v)) v h plain small (children_shorter old a v h (is_flat old a (fields-IsType old a is_old) v h short)) w.parts w.are_parts)

  not_broken : (a b : TypeId) (x : Message) → IsMessage old a x → IsPlain x → length (enc old a x) ≤ cap → (Breaks view old new a b x → ⊥) → is_kept view old new a b x ≡ true
  not_broken a b x is plain small none = of (is_kept view old new a b x) refl
    where
      of : (t : Bool) → is_kept view old new a b x ≡ t → is_kept view old new a b x ≡ true
      of true e = e
      of false e = absurd (none (record { is_message = is; is_plain = plain; has_encoding = small; not_kept = e }))

  -- A compatible new type reads it whole.
  pub compatible_in_any_order : (a b : TypeId) (v : Message) (bytes : List ℕ) → Compatible view old new a b → IsMessage old a v → IsPlain v → length (enc old a v) ≤ cap → (w : MayWrite old a v bytes) → IsSeen view old new a b v bytes w
  compatible_in_any_order a b v bytes compatible h plain small w =
      seen_where_kept a b v bytes h plain small (λ x is plain_x shorter. not_broken a b x is plain_x (omega (arith, shorter, small)) (compatible x)) w

  -- What isn't read whole is no shorter than one that breaks.
  pub none_unseen_is_shorter : (a b : TypeId) (n : ℕ) (v : Message) (bytes : List ℕ) → ((x : Message) → Breaks view old new a b x → n ≤ length (enc old a x)) → IsMessage old a v → IsPlain v → length (enc old a v) ≤ cap → (w : MayWrite old a v bytes) → (IsSeen view old new a b v bytes w → ⊥) → n ≤ length bytes
  none_unseen_is_shorter a b n v bytes least h plain small w unseen = of (nat_lt (length bytes) n) refl
    where
      of : (t : Bool) → nat_lt (length bytes) n ≡ t → n ≤ length bytes
      of false e = omega (arith, ltb-false (length bytes) n e)
      of true e =
          let fewer : length bytes < n = ltb-true (length bytes) n e in
          absurd (unseen (seen_where_kept a b v bytes h plain small
          (λ x is plain_x shorter. not_broken a b x is plain_x (omega (arith, shorter, small))
          (λ breaks. let most = least x breaks in omega (arith, most, shorter, fewer, one_length old a v bytes w)))
          w))
