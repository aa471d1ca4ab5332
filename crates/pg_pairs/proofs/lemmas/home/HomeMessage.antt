-- One message, whose children return.
use Rattle.std.proofs.Common.{◌≡◌, ℕ, ◌^◌, ◌<◌, ◌≤◌, List, [], ◌∷◌, ◌++◌, length, map, filter, Bool, true, false, not, nat_eq, Option, Some, None, unwrap_or, ◌⊎◌, inl, inr, ⊎_elim, refl, ap, ap₂, sym, ◌∙◌, subst, arith, append-nil, length-append, eqb-true, rules}
use Rattle.std.specs.List.{AllByRecursion}
use Rattle.pg_schema.specs.declared.parts.field.TypeId.{TypeId}
use Rattle.pg_schema.specs.declared.parts.field.Element.{Element}
use Rattle.pg_schema.specs.declared.parts.field.Element.TheVariants as elements
use Rattle.pg_schema.specs.declared.parts.field.Presence.{Presence}
use Rattle.pg_schema.specs.declared.parts.field.Presence.TheVariants as presences
use Rattle.pg_schema.specs.Shape.{Shape, FieldShape, fields, field_at}
use Rattle.pg_schema.specs.ShapeRules.{PresenceFits}
use Rattle.pg_wire.specs.Records.{WireRecord}
use Rattle.pg_dyn.specs.message.Message.{Leaf, Bytes, Item, Message, Part, is_of, is_zero, parts}
use Rattle.pg_dyn.specs.reading.Content.{takes, is_unknown}
use Rattle.pg_dyn.specs.word.Coding.{form, InRange}
use Rattle.pg_dyn.specs.encoding.Writing.{item_record, bytes_of, field_records, records_in}
use Rattle.pg_dyn.specs.encoding.Encoding.{child_type, element_type, enc, encoded_parts}
use Rattle.pg_dyn.specs.reading.Decoding.{dec}
use Rattle.pg_dyn.specs.laws.OwnParts.{ChildrenShorter}
use Rattle.pg_dyn.specs.views.Comparison.{numbers, Alike, Expected, Comparand, comparands, writes, expects, is_zero_expected}
use Rattle.pg_dyn.specs.laws.ByComparands.{comparands_at, field_read, all_field_readable}
use Rattle.pg_dyn.specs.laws.Laws.{of_number}
use Rattle.pg_dyn.proofs.Lists.{each_weaker, each_both, map_map, each-filter, each_filtered, filter_none, filter-map, list_all_each, list_any_at, each_of_all}
use Rattle.pg_pairs.specs.gaps.Likeness.{like}
use Rattle.pg_pairs.specs.choices.Choices.{no_bounds}
use Rattle.pg_pairs.specs.home.Home.{home_content, home_message, homeward}
use Rattle.pg_pairs.specs.inner.Contents.{total, ChildBound, Holds}
use Rattle.pg_pairs.specs.bounds.Covering.{has_children}
use Rattle.pg_pairs.proofs.lemmas.bounds.AcrossPlain.{IsNoMap}
use Rattle.pg_pairs.proofs.lemmas.bounds.Across.{reads, item_read}
use Rattle.pg_pairs.proofs.lemmas.choices.Costs.{Costs}
use Rattle.pg_pairs.proofs.lemmas.bounds.Comparands.{leafy_item}
use Rattle.pg_pairs.proofs.lemmas.gaps.GapItems.{IsLeafy, implicit_leafy}
use Rattle.pg_dyn.proofs.PublicLaws.{children_are_shorter, decoding_is, fields_are_found, records_of_fields}
use Rattle.pg_pairs.proofs.lemmas.bounds.Dearer.{CompatibleTo, by_numbers_is_view}
use Rattle.pg_pairs.proofs.lemmas.home.HomeComparands.{home_comparands, same_writes, home_expected}
use Rattle.pg_pairs.proofs.lemmas.home.Returned.{part_again, returned, IsGood, ComesBack, type_at, encoded_again, written_again, good_parts}
use Rattle.pg_pairs.proofs.lemmas.witness.carried.CarriedItems.{like_message}
use Rattle.pg_pairs.proofs.lemmas.home.ChildrenHome.{home_as_message, pair_of, Comes, child_among, child_returns, not_packed, kept_comparands, back_comparands, leaf_comparands}
use Rattle.pg_pairs.proofs.lemmas.bounds.OneMessage.{field_fits, total_within, holds_at, order_at, costs_at}
use Rattle.pg_pairs.proofs.lemmas.bounds.KeptUpTo.{dear_at}
use Rattle.pg_pairs.proofs.lemmas.bounds.ToChildren.{child_compatible}
use Rattle.pg_pairs.proofs.lemmas.bounds.Ways.{Hides, Crosses}
use Rattle.pg_pairs.proofs.lemmas.bounds.Fates.{field_fate}
use Rattle.pg_pairs.proofs.lemmas.home.Gathering.{the_message, is_read, parts_made}
use Rattle.pg_pairs.proofs.lemmas.home.Backwards.{across_back, all_back, transferred, each_of_map}
use Rattle.pg_pairs.proofs.lemmas.home.FieldsHome.{FieldComes, across_read, home_parts, crossing_comes, nothing_comes, hidden_gone, hidden_back}
use Rattle.pg_pairs.proofs.lemmas.gaps.Zeros.{hidden_read}
use Rattle.pg_pairs.specs.views.EnumView.{by_numbers}
use Rattle.pg_pairs.proofs.lemmas.home.RelayedRecords.{Goes, again, again_at, at_number, lacked_comes, new_parts, new_records, none_expected, none_left, old_apart, own_of, spelled_new}

-- Comparands that write what one does.
one_comparand : (c : Comparand) (hs : List Comparand) → map writes hs ≡ map writes (c ∷ []) → (h : Comparand) × (hs ≡ h ∷ []) × (h.written ≡ c.written)
one_comparand c [] same = absurd (cc)
one_comparand c (h ∷ []) same = search rules
one_comparand c (h ∷ h' ∷ hs) same = absurd (cc)

leafy_expected : (old new : Shape) (e d : Element) → IsLeafy e → (h : Comparand) → ComesBack old new e d h → h.expected ≡ Alike h.written
leafy_expected old new (elements.Scalar s) d leafy h back = back.1
leafy_expected old new (elements.Enum s) d leafy h back = back.1
leafy_expected old new (elements.Message s) d leafy h back = absurd leafy

not_message : (e : Element) → IsLeafy e → (s : TypeId) → e ≡ elements.Message s → ⊥
not_message (elements.Scalar s) leafy t is = absurd (cc)
not_message (elements.Enum s) leafy t is = absurd (cc)
not_message (elements.Message s) leafy t is = leafy

one_or_none : (test : WireRecord → Bool) (r : WireRecord) → (filter test (r ∷ []) ≡ r ∷ []) ⊎ (filter test (r ∷ []) ≡ [])
one_or_none test r = search rules

-- messages, or not
message_or : (e : Element) → ((s : TypeId) × (e ≡ elements.Message s)) ⊎ ((s : TypeId) → e ≡ elements.Message s → ⊥)
message_or (elements.Message s) = inl (s, refl)
message_or (elements.Scalar s) = inr (λ t is. absurd (cc))
message_or (elements.Enum s) = inr (λ t is. absurd (cc))

-- fewer records, fewer bytes
bytes_filtered : (test : WireRecord → Bool) (rs : List WireRecord) → length (bytes_of (filter test rs)) ≤ length (bytes_of rs)
bytes_filtered test [] = omega arith
bytes_filtered test (r ∷ rs) = search (rules, bytes_filtered test rs, length-append)

-- the records of a message's own fields are no longer than its encoding
known_within : (shape : Shape) (type : TypeId) (m : Message) → length (bytes_of (records_in (fields shape type) (encoded_parts shape type m))) ≤ length (enc shape type m)
unfolding enc
known_within shape type m = search (rules, length-append)

module _ (old new : Shape) (a b : TypeId) (v w : Message) (goes : Goes old new a b v w) where
  abbrev fs : List FieldShape
  fs = fields old a

  abbrev gs : List FieldShape
  gs = fields new b

  abbrev cs : List Comparand
  cs = comparands numbers old new a b v

  abbrev hcs : List Comparand
  hcs = home_comparands old new a b v

  abbrev homing : List (Part Expected)
  homing = homeward old new a b v

  -- A field of both types.

  shorter : ChildrenShorter old a (length (enc old a v)) v
  shorter = children_are_shorter old a v goes.shape_old goes.is_message goes.has_encoding

  module _ (f : FieldShape) (found : field_at fs f.number ≡ Some f) (q : Presence) (d : Element) (r : Option ℕ) (at : field_at gs f.number ≡ Some (record { number = f.number; presence = q; element = d; oneof = r })) where
    abbrev g : FieldShape
    g = record { number = f.number; presence = q; element = d; oneof = r }

    abbrev own_comparands : List Comparand
    own_comparands = comparands_at f.number cs

    abbrev hs : List Comparand
    hs = comparands_at f.number hcs

    same_written : map writes hs ≡ map writes own_comparands
    same_written = same_writes old new a b v f.number

    expected_are : filter (is_of f.number) homing ≡ map expects hs
    expected_are = sym (home_expected old new a b v f.number)

    numbered : AllByRecursion (λ (h : Comparand). h.number ≡ f.number) hs
    numbered =
        each_weaker (λ c. Unit {0} × (nat_eq c.number f.number ≡ true)) (λ (h : Comparand). h.number ≡ f.number) (λ c k. eqb-true c.number f.number k.1) hs
        (each-filter (λ (c : Comparand). Unit {0}) (λ c. nat_eq c.number f.number) hcs (each_of_all (λ (c : Comparand). Unit {0}) (λ c. tt) hcs))

    fits_f : PresenceFits f.presence f.element f.oneof
    fits_f = field_fits old goes.shape_old a f.number f found

    fits_g : PresenceFits q d r
    fits_g = field_fits new goes.shape_new b f.number g at

    whole_within : total f own_comparands ≤ length (enc old a v)
    whole_within = total_within numbers old new goes.shape_old a b v goes.is_message goes.is_plain f found

    -- each child's pair is compatible to its length
    fine_comparands : (s t : TypeId) → f.element ≡ elements.Message s → d ≡ elements.Message t → has_children f.presence q ≡ true → AllByRecursion (λ (c : Comparand). (bytes : List ℕ) → c.written ≡ Bytes bytes → CompatibleTo (length bytes) old new s t) own_comparands
    fine_comparands s t is_old is_new has =
        each_weaker (Costs f (total f own_comparands)) (λ (c : Comparand). (bytes : List ℕ) → c.written ≡ Bytes bytes → CompatibleTo (length bytes) old new s t)
        (λ c cost bytes w. child_compatible old new goes.shape_old goes.shape_new a b (length (enc old a v)) goes.has_encoding goes.fine f g s t found at is_old is_new has (total f own_comparands) whole_within c bytes w cost)
        own_comparands (costs_at numbers old new goes.shape_old a b v goes.is_message goes.is_plain f found)

    bounds_of : has_children f.presence q ≡ true → (e x : Element) → f.element ≡ e → d ≡ x → AllByRecursion (ChildBound no_bounds (dec new) e x) own_comparands
    bounds_of has (elements.Message s) (elements.Message t) is_old is_new =
        kept_comparands old new goes.shape_old goes.shape_new a b f g s t is_old is_new f.number found at (length (enc old a v)) goes.has_encoding v goes.is_message goes.is_plain shorter (fine_comparands s t is_old is_new has)
    bounds_of has (elements.Message s) (elements.Scalar t) is_old is_new = each_of_all (ChildBound no_bounds (dec new) (elements.Message s) (elements.Scalar t)) (λ c. tt) own_comparands
    bounds_of has (elements.Message s) (elements.Enum t) is_old is_new = each_of_all (ChildBound no_bounds (dec new) (elements.Message s) (elements.Enum t)) (λ c. tt) own_comparands
    bounds_of has (elements.Scalar s) x is_old is_new = each_of_all (ChildBound no_bounds (dec new) (elements.Scalar s) x) (λ c. tt) own_comparands
    bounds_of has (elements.Enum s) x is_old is_new = each_of_all (ChildBound no_bounds (dec new) (elements.Enum s) x) (λ c. tt) own_comparands

    fate : (own_comparands ≡ []) ⊎ (Hides f g own_comparands ⊎ Crosses numbers (dec new) f g own_comparands)
    fate =
        ⊎_elim (λ one. one) (λ dear. let within = whole_within in absurd (omega arith))
        (field_fate by_numbers by_numbers_is_view no_bounds (dec new) (λ n. length (enc old a v) < n) (λ m n le h. omega arith) f g own_comparands
        (record {
          numbers = refl;
          fits_old = fits_f;
          fits_new = fits_g;
          holds = holds_at numbers old new goes.shape_old a b v goes.is_message goes.is_plain f found;
          in_order = order_at numbers old new goes.shape_old a b v goes.is_message goes.is_plain f found;
          bounds = λ has. bounds_of has f.element d refl refl;
          short = let within = whole_within in let fits = goes.has_encoding in omega arith;
        })
        (dear_at old new goes.shape_old goes.shape_new a b v goes.is_message goes.is_plain goes.has_encoding goes.fine f g found at))

    -- What must come back of each comparand.

    plain_children : (p' q' : Presence) → IsNoMap p' → IsNoMap q' → has_children p' q' ≡ true
    plain_children (presences.Map k) q' h k' = absurd h
    plain_children presences.Implicit (presences.Map l) h k = absurd k
    plain_children presences.Explicit (presences.Map l) h k = absurd k
    plain_children (presences.Repeated w) (presences.Map l) h k = absurd k
    plain_children presences.Implicit presences.Implicit h k = refl
    plain_children presences.Implicit presences.Explicit h k = refl
    plain_children presences.Implicit (presences.Repeated w) h k = refl
    plain_children presences.Explicit presences.Implicit h k = refl
    plain_children presences.Explicit presences.Explicit h k = refl
    plain_children presences.Explicit (presences.Repeated w) h k = refl
    plain_children (presences.Repeated p') presences.Implicit h k = refl
    plain_children (presences.Repeated p') presences.Explicit h k = refl
    plain_children (presences.Repeated p') (presences.Repeated w) h k = refl

    way_children : Crosses numbers (dec new) f g own_comparands → has_children f.presence q ≡ true
    way_children crosses = search (rules, plain_children)

    child_comparands : (s t : TypeId) → f.element ≡ elements.Message s → d ≡ elements.Message t → has_children f.presence q ≡ true → AllByRecursion (ComesBack old new (elements.Message s) (elements.Message t)) hs
    child_comparands s t is_old is_new has =
        back_comparands old new goes.shape_old goes.shape_new a b f g s t is_old is_new f.number found at
        (child_returns old new (pair_of a b) (pair_of s t) (child_among old new a b f g f.number s t found at has is_old is_new) goes.returns)
        (length (enc old a v)) goes.has_encoding v goes.is_message goes.is_plain shorter goes.come
        (transferred (λ p. (bytes : List ℕ) → p.item ≡ Bytes bytes → CompatibleTo (length bytes) old new s t) own_comparands hs same_written (fine_comparands s t is_old is_new has))

    all_come : Crosses numbers (dec new) f g own_comparands → AllByRecursion (ComesBack old new f.element d) hs
    all_come crosses = of (message_or f.element)
      where
        of : ((s : TypeId) × (f.element ≡ elements.Message s)) ⊎ ((s : TypeId) → f.element ≡ elements.Message s → ⊥) → AllByRecursion (ComesBack old new f.element d) hs
        of (inr leafy) = leaf_comparands old new a b f f.number found d leafy v goes.is_message
        of (inl (s, is_old)) =
            let (t, is_new) = like_message s d (subst (λ x. like x d ≡ true) is_old crosses.is_like) in
            subst (λ x. AllByRecursion (ComesBack old new x d) hs) (sym is_old)
            (subst (λ y. AllByRecursion (ComesBack old new (elements.Message s) y) hs) (sym is_new)
            (child_comparands s t is_old is_new (way_children crosses)))

    -- A content that crosses.

    module _ (crosses : Crosses numbers (dec new) f g own_comparands) where
      abbrev read_part_of : Part Leaf → Part Item
      read_part_of p = record { number = p.number; key = p.key; item = item_read (dec new) d p.item }

      parts_read : filter (is_of f.number) (parts w) ≡ map (reads (dec new) d) hs
      parts_read =
          let some : ◌≡◌ {A = Option (List (Part Item))} (Some (filter (is_of f.number) (parts w))) (Some (map (reads (dec new) d) own_comparands)) =
          sym (new_parts old new a b v w goes f g found at) ∙ across_read (dec new) g f own_comparands crosses.seen crosses.across in
          let same : filter (is_of f.number) (parts w) ≡ map (reads (dec new) d) own_comparands = cc in
          same ∙ sym (map_map read_part_of writes own_comparands) ∙ ap (map read_part_of) (sym same_written) ∙ map_map read_part_of writes hs

      encoded : filter (is_of f.number) (encoded_parts new b w) ≡ map writes (map (returned new d) hs)
      encoded = written_again new b w f.number g at hs numbered parts_read

      all_good : AllByRecursion (λ (h : Comparand). IsGood new (element_type d) (item_read (dec new) d h.written)) hs
      all_good =
          let every = good_parts new b (length (enc new b w)) goes.new_encoding w goes.is_new (children_are_shorter new b w goes.shape_new goes.is_new goes.new_encoding) in
          let own = subst (AllByRecursion (λ p. IsGood new (child_type gs p.number) p.item)) parts_read (each_filtered (λ p. IsGood new (child_type gs p.number) p.item) (is_of f.number) (parts w) every) in
          each_weaker (λ h. (h.number ≡ f.number) × IsGood new (child_type gs h.number) (item_read (dec new) d h.written)) (λ (h : Comparand). IsGood new (element_type d) (item_read (dec new) d h.written))
          (λ h k. subst (λ t. IsGood new t (item_read (dec new) d h.written)) (ap (child_type gs) k.0 ∙ type_at gs f.number g at) k.1) hs
          (each_both (λ (h : Comparand). h.number ≡ f.number) (λ h. IsGood new (child_type gs h.number) (item_read (dec new) d h.written)) hs numbered (each_of_map (λ p. IsGood new (child_type gs p.number) p.item) (reads (dec new) d) hs own))

      known_records : filter (of_number f.number) (records_in gs (encoded_parts new b w)) ≡ field_records g (map writes (map (returned new d) hs))
      known_records = new_records old new a b v w goes f g at ∙ ap (field_records g) encoded

      crossed_records : at_number old new a b v w goes f ≡ field_records g (map writes (map (returned new d) hs))
      crossed_records =
          again_at old new a b v w goes f found (field_records g (map writes (map (returned new d) hs))) known_records
          ∙ ap (λ us. field_records g (map writes (map (returned new d) hs)) ++ us)
          (filter_none (is_unknown gs) (own_of old new a b v w goes f) (each_weaker (λ r. takes g r ≡ true) (λ r. is_unknown gs r ≡ false) (λ r taken. ap not (list_any_at (λ h. takes h r) gs f.number g at taken)) (own_of old new a b v w goes f) crosses.across.taken))
          ∙ append-nil (field_records g (map writes (map (returned new d) hs)))

      short_again : total g (map (returned new d) hs) < 2 ^ 64
      short_again = search (rules, bytes_filtered, of_number, known_within, returned, known_records)

      pub crossing_home : FieldComes (dec old) f (Some g) homing (at_number old new a b v w goes f)
      crossing_home =
          let back = all_come crosses in
          let seen = all_back old new f.number f.element d f.oneof r own_comparands hs same_written numbered back all_good crosses.is_like crosses.apart f.presence q fits_f fits_g crosses.seen in
          let across = across_back old new f.number f.element d f.oneof r own_comparands hs same_written numbered back all_good crosses.is_like crosses.apart f.presence q fits_f fits_g crosses (not_packed old new a b f g goes.returns found at) short_again in
          subst (FieldComes (dec old) f (Some g) homing) (sym crossed_records)
          (crossing_comes (dec old) new f g (Some g) homing d hs expected_are seen across)

    -- A zero that is hidden.

    module _ (c : Comparand) (explicit : f.presence ≡ presences.Explicit) (implicit : q ≡ presences.Implicit) (leafy : IsLeafy f.element) (one : own_comparands ≡ c ∷ []) (zero : is_zero c.written ≡ true) where
      abbrev literal : FieldShape
      literal = record { number = f.number; presence = presences.Explicit; element = f.element; oneof = f.oneof }

      here : f ≡ literal
      here = λ i. record { number = f.number; presence = explicit i; element = f.element; oneof = f.oneof }

      holds_c : Holds literal c
      holds_c = subst (λ x. Holds x c) here (subst (AllByRecursion (Holds f)) one (holds_at numbers old new goes.shape_old a b v goes.is_message goes.is_plain f found)).0

      own_is : own_of old new a b v w goes f ≡ field_records literal (map writes (c ∷ []))
      own_is = ap₂ (λ x cs. field_records x (map writes cs)) here one

      held : InRange (form f.element) c.written × (c.expected ≡ Alike c.written)
      held = leafy_item f.element c leafy holds_c.item

      no_parts : filter (is_of f.number) (parts w) ≡ []
      no_parts =
          let implicit_g : PresenceFits presences.Implicit d r = subst (λ x. PresenceFits x d r) implicit fits_g in
          let none = hidden_read numbers (dec new) f.number f.element d f.oneof r (implicit_leafy d r implicit_g) c held.1 held.0 zero in
          let there : g ≡ record { number = f.number; presence = presences.Implicit; element = d; oneof = r } = λ i. record { number = f.number; presence = implicit i; element = d; oneof = r } in
          let some : ◌≡◌ {A = Option (List (Part Item))} (Some (filter (is_of f.number) (parts w))) (Some []) =
          sym (new_parts old new a b v w goes f g found at) ∙ ap₂ (field_read (dec new)) there own_is ∙ none in
          cc

      nothing_known : filter (of_number f.number) (records_in gs (encoded_parts new b w)) ≡ []
      nothing_known =
          new_records old new a b v w goes f g at
          ∙ ap (field_records g) (ap (filter (is_of f.number)) (encoded_again new b w) ∙ filter-map (is_of f.number) (part_again new b) (parts w) ∙ ap (map (part_again new b)) no_parts)
          ∙ records_of_fields.1 g

      the_home_comparand : (h : Comparand) × (hs ≡ h ∷ []) × (h.written ≡ c.written)
      the_home_comparand = one_comparand c hs (same_written ∙ ap (map writes) one)

      home_zero : is_zero_expected (the_home_comparand.0).expected ≡ true
      home_zero =
          let back = (subst (AllByRecursion (ComesBack old new f.element d)) the_home_comparand.1 (leaf_comparands old new a b f f.number found d (not_message f.element leafy) v goes.is_message)).0 in
          ap is_zero_expected (leafy_expected old new f.element d leafy the_home_comparand.0 back) ∙ ap is_zero the_home_comparand.2 ∙ zero

      home_is : filter (is_of f.number) homing ≡ expects (the_home_comparand.0) ∷ []
      home_is = expected_are ∙ ap (map expects) the_home_comparand.1

      left_over : at_number old new a b v w goes f ≡ filter (is_unknown gs) (field_records literal (map writes (c ∷ [])))
      left_over = again_at old new a b v w goes f found [] nothing_known ∙ ap (filter (is_unknown gs)) own_is

      pub hidden_home : FieldComes (dec old) f (Some g) homing (at_number old new a b v w goes f)
      hidden_home =
          subst (λ x. FieldComes (dec old) x (Some g) homing (at_number old new a b v w goes f)) (sym here)
          (⊎_elim
          (λ kept.
          subst (FieldComes (dec old) literal (Some g) homing) (sym (left_over ∙ kept))
          (hidden_back (dec old) f.number f.element f.oneof g implicit leafy homing c the_home_comparand.0 home_is home_zero zero holds_c))
          (λ gone.
          subst (FieldComes (dec old) literal (Some g) homing) (sym (left_over ∙ gone))
          (hidden_gone (dec old) f.number f.element f.oneof g implicit leafy homing c the_home_comparand.0 home_is home_zero zero))
          (one_or_none (is_unknown gs) (item_record f.number f.element c.written)))

    -- no content, a hidden one, or one that crosses
    pub beside_comes : FieldComes (dec old) f (Some g) homing (at_number old new a b v w goes f)
    beside_comes =
        search (rules, none_left, nothing_comes, none_expected, hidden_home, crossing_home, fate)

  -- Any field of the old type.
  pub field_comes : (f : FieldShape) → field_at fs f.number ≡ Some f → FieldComes (dec old) f (field_at gs f.number) homing (at_number old new a b v w goes f)
  field_comes f found = of (field_at gs f.number) refl
    where
      of : (o : Option FieldShape) → field_at gs f.number ≡ o → FieldComes (dec old) f (field_at gs f.number) homing (at_number old new a b v w goes f)
      of None e = subst (λ o. FieldComes (dec old) f o homing (at_number old new a b v w goes f)) (sym e) (lacked_comes old new a b v w goes f found e)
      of (Some g) e =
          let same : g ≡ record { number = f.number; presence = g.presence; element = g.element; oneof = g.oneof } =
          λ i. record { number = fields_are_found.1 gs f.number g e i; presence = g.presence; element = g.element; oneof = g.oneof } in
          let at : field_at gs f.number ≡ Some (record { number = f.number; presence = g.presence; element = g.element; oneof = g.oneof }) = e ∙ ap Some same in
          subst (λ o. FieldComes (dec old) f o homing (at_number old new a b v w goes f)) (sym at) (beside_comes f found g.presence g.element g.oneof at)

  -- The message that the old type reads.

  abbrev made : FieldShape → List (Part Item)
  made f = unwrap_or (field_read (dec old) f (at_number old new a b v w goes f)) []

  read_made : (f : FieldShape) → field_at fs f.number ≡ Some f → field_read (dec old) f (at_number old new a b v w goes f) ≡ Some (made f)
  read_made f found = let comes = field_comes f found in rw (comes.read) refl

  readable : (f : FieldShape) → field_at fs f.number ≡ Some f → all_field_readable (dec old) f (at_number old new a b v w goes f) ≡ true
  readable f found = (field_comes f found).readable

  abbrev come_home : Message
  come_home = the_message (dec old) fs (fields_are_found.0 old a goes.shape_old).rising (again old new a b v w goes)
      (at_number old new a b v w goes) (λ f found. refl) (old_apart old new a b v w goes) made readable read_made

  is_read_home : dec old a (enc new b w) ≡ Some come_home
  is_read_home =
      search (rules, again, decoding_is, spelled_new, is_read, fields_are_found, at_number, old_apart, readable, read_made)

  each_home : (f : FieldShape) → field_at fs f.number ≡ Some f → home_content f (field_at gs f.number) homing (parts come_home) ≡ true
  each_home f found =
      let comes = field_comes f found in
      let is_made : made f ≡ comes.made = ap (λ o. unwrap_or o []) comes.read in
      let parts_of : filter (is_of f.number) (parts come_home) ≡ made f = parts_made (dec old) fs (fields_are_found.0 old a goes.shape_old).rising (again old new a b v w goes) (at_number old new a b v w goes) (λ f found. refl) (old_apart old new a b v w goes) made readable read_made f found in
      sym (home_parts f (field_at gs f.number) homing (parts come_home)) ∙ ap (home_content f (field_at gs f.number) homing) (parts_of ∙ is_made) ∙ comes.is_home

  all_home : home_message fs gs homing come_home ≡ true
  all_home = search (rules, list_all_each, each_weaker, each_home, fields_are_found)

  pub comes : Comes old new a b v w
  comes = (come_home, is_read_home, home_as_message old new a b v come_home ∙ all_home)
