-- Each choice of one field is reached by its message.
use Rattle.std.proofs.Common.{◌≡◌, ℕ, ◌+◌, ◌*◌, ◌<◌, ◌≤◌, [], ◌∷◌, ◌++◌, length, Bool, true, false, ◌&&◌, if◌then◌else◌, Option, Some, None, option_map, ◌⊎◌, inl, inr, ⊎_elim, refl, ap, ap₂, sym, ◌∙◌, subst, arith, rules}
use Rattle.std.specs.List.{AllByRecursion}
use Rattle.std.proofs.lemmas.Bool.{and_parts}
use Rattle.pg_schema.specs.declared.parts.field.TypeId.{TypeId}
use Rattle.pg_schema.specs.declared.parts.field.Scalar.{Scalar}
use Rattle.pg_schema.specs.declared.parts.field.Element.{Element}
use Rattle.pg_schema.specs.declared.parts.field.Element.TheVariants as elements
use Rattle.pg_schema.specs.declared.parts.field.Presence.{Presence}
use Rattle.pg_schema.specs.declared.parts.field.Presence.TheVariants as presences
use Rattle.pg_schema.specs.Shape.{Shape, FieldShape, fields, field_at, is_packable, is_singular}
use Rattle.pg_schema.specs.ShapeRules.{PresenceFits, IsShape}
use Rattle.pg_wire.specs.Records.{tag}
use Rattle.pg_dyn.specs.message.Message.{Leaf, Plain, Msg, Message, ends, holds, nests, with_part}
use Rattle.pg_dyn.specs.word.Coding.{form, form_wire, zero_leaf, InRange}
use Rattle.pg_dyn.specs.encoding.Encoding.{cap}
use Rattle.pg_dyn.specs.fitting.Belonging.{KeyFits}
use Rattle.pg_dyn.proofs.Lists.{each-append, option_map_some}
use Rattle.pg_pairs.specs.declared.choices.case.Case.{Case}
use Rattle.pg_pairs.specs.declared.choices.case.Case.TheVariants as cases
use Rattle.pg_pairs.specs.declared.choices.choice.Choice.{Choice}
use Rattle.pg_pairs.specs.declared.choices.choice.Pair.{Pair}
use Rattle.pg_pairs.specs.views.EnumView.{EnumView}
use Rattle.pg_pairs.specs.views.ViewLaws.{IsEnumView}
use Rattle.pg_pairs.specs.gaps.Likeness.{like}
use Rattle.pg_pairs.specs.gaps.Gaps.{body_length, gap_item}
use Rattle.pg_pairs.specs.choices.Costs.{with_length, least_body, nonzero_body, entry_cost, one_item, least_content}
use Rattle.pg_pairs.specs.choices.Choices.{is_oneof, Table, choice, choice_of, zero_counts, unlike_cost, gap_body, child_body, singular_cost, plain_choices, map_choices, field_choices}
use Rattle.pg_pairs.specs.bounds.Laws.{ReachedBy}
use Rattle.pg_pairs.specs.witness.Carried.{nonzero_leaf, far_leaf, apart_leaf, apart_item, item_by, least_part, alone, item_alone, lost_onto, key_alone, broken_value, carried_field, field_child}
use Rattle.pg_pairs.specs.witness.CarriedChoices.{ChildReached, ChildThere}
use Rattle.pg_pairs.proofs.lemmas.gaps.GapItems.{IsLeafy, implicit_leafy, leafy_like}
use Rattle.pg_pairs.proofs.lemmas.gaps.Likeness.{like_wire}
use Rattle.pg_pairs.proofs.lemmas.bounds.AcrossPlain.{IsNoMap, IsUnpacked}
use Rattle.pg_pairs.proofs.lemmas.bounds.Comparands.{unpacked_implicit, unpacked_explicit, unpacked_repeated}
use Rattle.pg_pairs.proofs.lemmas.witness.carried.CarriedItems.{leaf_or_message, like_message, leafy_childless, leaf_part, implicit_least, Gapped, gapped, nested, same_bound, longer, same_cost}
use Rattle.pg_pairs.proofs.lemmas.witness.carried.CarryAlone.{reach_gap, reach_child}
use Rattle.pg_pairs.proofs.lemmas.witness.carried.CarryTwo.{reach_two_children}
use Rattle.pg_pairs.proofs.lemmas.witness.carried.CarryLists.{zero_in_range, zero_length, packable_leafy, reach_packed, reach_two_zeros, reach_zero, reach_packed_gap}
use Rattle.pg_pairs.proofs.lemmas.witness.carried.CarryLeast.{reach_unlike_implicit, reach_unlike_explicit, reach_unlike_nonzero, reach_unlike_child, reach_unlike_list, reach_unlike_packed, reach_map, reach_beside_map}
use Rattle.pg_pairs.proofs.lemmas.witness.carried.CarryMaps.{reach_key_gap, reach_value_gap}
use Rattle.pg_pairs.proofs.lemmas.witness.carried.CarryMapChild.{reach_map_child, reach_key_gap_child}
use Rattle.pg_pairs.proofs.lemmas.witness.carried.CarryUnlikeMaps.{far_in_range, far_length, reach_far_leaves, reach_far_child}

module _ (enum_view : EnumView) (law : IsEnumView enum_view) (old new : Shape) (shape_old : IsShape old) (shape_new : IsShape new) (table : Table) (pair : Pair) where
  -- A choice of that cost whose messages are made so is reached by them.
  abbrev pub IsCarried : Option Pair → (Option Message → Message) → ℕ → Type 0
  IsCarried wanted made cost = cost ≤ cap →
      ChildThere table wanted cost × ((child : Option Message) → ChildReached enum_view old new table wanted child →
      ReachedBy enum_view old new pair (made child) cost)

  abbrev pub CarriesField : FieldShape → FieldShape → Choice → Type 0
  CarriesField f g c = IsCarried (field_child f g c.case c.part) (carried_field enum_view f g c.case c.part) c.cost

  childless : (v : Message) (cost : ℕ) → (cost ≤ cap → ReachedBy enum_view old new pair v cost) → IsCarried None (λ child. v) cost
  childless v cost h small = (tt, λ child none. h small)

  -- a choice of the field alone
  abbrev pub CarriesOwn : FieldShape → FieldShape → Choice → Type 0
  CarriesOwn f g c = (c.number ≡ f.number) × (is_oneof c.case ≡ false) × CarriesField f g c

  offered : (f g : FieldShape) (case : Case) (part : ℕ) (o : Option ℕ) → is_oneof case ≡ false → ((cost : ℕ) → o ≡ Some cost → CarriesField f g (choice f.number case part cost)) → AllByRecursion (CarriesOwn f g) (choice_of f.number case part o)
  offered f g case part None alone h = tt
  offered f g case part (Some cost) alone h = ((refl, alone, h cost refl), tt)

  -- A child that breaks, in a field that is no map.
  module _ (number : ℕ) (o r : Option ℕ) (s t : TypeId) (p q : Presence) where
    abbrev child_old : FieldShape
    child_old = record { number = number; presence = p; element = elements.Message s; oneof = o }

    abbrev child_new : FieldShape
    child_new = record { number = number; presence = q; element = elements.Message t; oneof = r }

    child_made : KeyFits p None → IsNoMap q → IsUnpacked child_old → ((b : ℕ) → one_item child_old b ≡ length (tag number (form_wire (form (elements.Message s)))) + b) → field_at (fields old pair.old) number ≡ Some child_old → field_at (fields new pair.new) number ≡ Some child_new → (x : ℕ) → table (record { old = s; new = t }) ≡ Some (Some x) → one_item child_old (with_length x) ≤ cap → (child : Option Message) → ChildReached enum_view old new table (Some (record { old = s; new = t })) child → ReachedBy enum_view old new pair (item_alone number None (option_map Msg child)) (one_item child_old (with_length x))
    child_made no_key no_map unpacked cost_is found at x there small None h = absurd h
    child_made no_key no_map unpacked cost_is found at x there small (Some m) (y, there_y, reached) =
        let same = same_bound (table (record { old = s; new = t })) y x there_y there in
        reach_child enum_view old new shape_old shape_new pair number p q s t o r found at no_key no_map unpacked cost_is m x (subst (ReachedBy enum_view old new (record { old = s; new = t }) m) same reached) small

  child_carried : (number : ℕ) (o r : Option ℕ) (e d : Element) (p q : Presence) → KeyFits p None → IsNoMap q → ((x : Element) → IsUnpacked (record { number = number; presence = p; element = x; oneof = o })) → ((x : Element) (b : ℕ) → one_item (record { number = number; presence = p; element = x; oneof = o }) b ≡ length (tag number (form_wire (form x))) + b) → field_at (fields old pair.old) number ≡ Some (record { number = number; presence = p; element = e; oneof = o }) → field_at (fields new pair.new) number ≡ Some (record { number = number; presence = q; element = d; oneof = r }) → (cost : ℕ) → option_map (one_item (record { number = number; presence = p; element = e; oneof = o })) (child_body table e d) ≡ Some cost → CarriesField (record { number = number; presence = p; element = e; oneof = o }) (record { number = number; presence = q; element = d; oneof = r }) (choice number cases.Child 0 cost)
  child_carried number o r (elements.Message s) (elements.Message t) p q no_key no_map unpacked cost_is found at cost h small =
      let f = child_old number o r s t p q in
      let (body, there, made) = option_map_some (one_item (child_old number o r s t p q)) (child_body table (elements.Message s) (elements.Message t)) cost h in
      let (x, at_x, body_is) = nested table s t body there in
      let is : one_item (child_old number o r s t p q) (with_length x) ≡ cost = ap (one_item (child_old number o r s t p q)) body_is ∙ made in
      let less : x < cost = (let long = longer x in let is_cost = cost_is (elements.Message s) (with_length x) in omega (arith, is)) in (
        (x, at_x, less),
        λ child reached.
            subst (ReachedBy enum_view old new pair (item_alone number None (option_map Msg child))) is
            (child_made number o r s t p q no_key no_map (unpacked (elements.Message s)) (cost_is (elements.Message s)) found at x at_x (subst (λ n. n ≤ cap) (sym is) small) child reached),
      )
  child_carried number o r (elements.Message s) (elements.Scalar t) p q no_key no_map unpacked cost_is found at cost h small = absurd (cc)
  child_carried number o r (elements.Message s) (elements.Enum t) p q no_key no_map unpacked cost_is found at cost h small = absurd (cc)
  child_carried number o r (elements.Scalar s) d p q no_key no_map unpacked cost_is found at cost h small = absurd (cc)
  child_carried number o r (elements.Enum s) d p q no_key no_map unpacked cost_is found at cost h small = absurd (cc)

  -- A child that breaks, in a map's value.
  abbrev map_field : ℕ → Option ℕ → Element → Scalar → FieldShape
  map_field number o e k = record { number = number; presence = presences.Map k; element = e; oneof = o }

  map_child_made : (number : ℕ) (o r : Option ℕ) (s t : TypeId) (k l : Scalar) (gap : Option Leaf) → field_at (fields old pair.old) number ≡ Some (map_field number o (elements.Message s) k) → field_at (fields new pair.new) number ≡ Some (map_field number r (elements.Message t) l) → (x : ℕ) → table (record { old = s; new = t }) ≡ Some (Some x) → one_item (map_field number o (elements.Message s) k) (with_length x) ≤ cap → (child : Option Message) → ChildReached enum_view old new table (Some (record { old = s; new = t })) child → ReachedBy enum_view old new pair (item_alone number (Some (zero_leaf (form (elements.Scalar k)))) (broken_value child gap)) (one_item (map_field number o (elements.Message s) k) (with_length x))
  map_child_made number o r s t k l gap found at x there small None h = absurd h
  map_child_made number o r s t k l gap found at x there small (Some m) (y, there_y, reached) =
      let same = same_bound (table (record { old = s; new = t })) y x there_y there in
      reach_map_child enum_view old new shape_old shape_new pair number s t o r k l found at m x (subst (ReachedBy enum_view old new (record { old = s; new = t }) m) same reached) small

  map_child_carried : (number : ℕ) (o r : Option ℕ) (e d : Element) (k l : Scalar) → field_at (fields old pair.old) number ≡ Some (map_field number o e k) → field_at (fields new pair.new) number ≡ Some (map_field number r d l) → (cost : ℕ) → option_map (one_item (map_field number o e k)) (child_body table e d) ≡ Some cost → CarriesField (map_field number o e k) (map_field number r d l) (choice number cases.Map 2 cost)
  map_child_carried number o r (elements.Message s) (elements.Message t) k l found at cost h small =
      let (body, there, made) = option_map_some (one_item (map_field number o (elements.Message s) k)) (child_body table (elements.Message s) (elements.Message t)) cost h in
      let (x, at_x, body_is) = nested table s t body there in
      let is : one_item (map_field number o (elements.Message s) k) (with_length x) ≡ cost = ap (one_item (map_field number o (elements.Message s) k)) body_is ∙ made in
      let less : x < cost = (let long = longer x in omega (arith, is)) in (
        (x, at_x, less),
        λ child reached.
            subst (ReachedBy enum_view old new pair (item_alone number (Some (zero_leaf (form (elements.Scalar k)))) (broken_value child (gap_item enum_view true (elements.Message s) (elements.Message t))))) is
            (map_child_made number o r s t k l (gap_item enum_view true (elements.Message s) (elements.Message t)) found at x at_x (subst (λ n. n ≤ cap) (sym is) small) child reached),
      )
  map_child_carried number o r (elements.Message s) (elements.Scalar t) k l found at cost h small = absurd (cc)
  map_child_carried number o r (elements.Message s) (elements.Enum t) k l found at cost h small = absurd (cc)
  map_child_carried number o r (elements.Scalar s) d k l found at cost h small = absurd (cc)
  map_child_carried number o r (elements.Enum s) d k l found at cost h small = absurd (cc)

  module _ (number : ℕ) (e d : Element) (o r : Option ℕ) where
    abbrev at_old : Presence → FieldShape
    at_old p = record { number = number; presence = p; element = e; oneof = o }

    abbrev at_new : Presence → FieldShape
    at_new q = record { number = number; presence = q; element = d; oneof = r }

    abbrev Carries : Presence → Presence → Case → ℕ → ℕ → Type 0
    Carries p q case part cost = CarriesField (at_old p) (at_new q) (choice number case part cost)

    -- A gap: the message of its item.
    gap_carried_by : (p q : Presence) (body : ℕ) → (gap : Gapped enum_view (zero_counts (at_old p) (at_new q)) e d body) → (one_item (at_old p) (body_length (form e) gap.item) ≤ cap → ReachedBy enum_view old new pair (holds number None gap.item (ends [])) (one_item (at_old p) (body_length (form e) gap.item))) → Carries p q cases.Gap 0 (one_item (at_old p) body)
    gap_carried_by p q body gap h = search (rules, childless)

    unpacked_gap : (p q : Presence) → KeyFits p None → IsNoMap q → IsUnpacked (at_old p) → ((b : ℕ) → one_item (at_old p) b ≡ length (tag number (form_wire (form e))) + b) → like e d ≡ true → field_at (fields old pair.old) number ≡ Some (at_old p) → field_at (fields new pair.new) number ≡ Some (at_new q) → (body : ℕ) → Gapped enum_view (zero_counts (at_old p) (at_new q)) e d body → Carries p q cases.Gap 0 (one_item (at_old p) body)
    unpacked_gap p q no_key no_map unpacked cost_is is_like found at body gap =
        gap_carried_by p q body gap
        (reach_gap enum_view old new shape_old shape_new pair (at_old p) (at_new q) found at refl no_key no_map unpacked cost_is gap.old_leafy gap.new_leafy (like_wire e d is_like) gap.item gap.least)

    packed_gap : (q : Presence) → IsNoMap q → like e d ≡ true → is_packable e ≡ true → field_at (fields old pair.old) number ≡ Some (at_old (presences.Repeated true)) → field_at (fields new pair.new) number ≡ Some (at_new q) → (body : ℕ) → Gapped enum_view (zero_counts (at_old (presences.Repeated true)) (at_new q)) e d body → Carries (presences.Repeated true) q cases.Gap 0 (one_item (at_old (presences.Repeated true)) body)
    packed_gap q no_map is_like packable found at body gap = gap_carried_by (presences.Repeated true) q body gap (of q no_map at)
      where
        of : (x : Presence) → IsNoMap x → field_at (fields new pair.new) number ≡ Some (at_new x) → one_item (at_old (presences.Repeated true)) (body_length (form e) gap.item) ≤ cap → ReachedBy enum_view old new pair (holds number None gap.item (ends [])) (one_item (at_old (presences.Repeated true)) (body_length (form e) gap.item))
        of presences.Implicit h there few = reach_packed enum_view old new shape_old shape_new pair number e d o r is_like presences.Implicit refl found there packable gap.item gap.least.unseen.in_range few
        of presences.Explicit h there few = reach_packed enum_view old new shape_old shape_new pair number e d o r is_like presences.Explicit refl found there packable gap.item gap.least.unseen.in_range few
        of (presences.Repeated w) h there few = reach_packed_gap enum_view old new shape_old shape_new pair number e d o r is_like w found there packable gap.item gap.least.unseen.in_range gap.least.unseen.not_seen few
        of (presences.Map k) h there few = absurd h

    gap_carried : (p q : Presence) → IsNoMap p → IsNoMap q → like e d ≡ true → field_at (fields old pair.old) number ≡ Some (at_old p) → field_at (fields new pair.new) number ≡ Some (at_new q) → PresenceFits p e o → (body : ℕ) → Gapped enum_view (zero_counts (at_old p) (at_new q)) e d body → Carries p q cases.Gap 0 (one_item (at_old p) body)
    gap_carried presences.Implicit q no_map_old no_map is_like found at fits body gap = unpacked_gap presences.Implicit q refl no_map (unpacked_implicit number e o) (λ b. refl) is_like found at body gap
    gap_carried presences.Explicit q no_map_old no_map is_like found at fits body gap = unpacked_gap presences.Explicit q refl no_map (unpacked_explicit number e o) (λ b. refl) is_like found at body gap
    gap_carried (presences.Repeated false) q no_map_old no_map is_like found at fits body gap = unpacked_gap (presences.Repeated false) q refl no_map (unpacked_repeated number e o) (λ b. refl) is_like found at body gap
    gap_carried (presences.Repeated true) q no_map_old no_map is_like found at fits body gap = packed_gap q no_map is_like (fits.1 refl) found at body gap
    gap_carried (presences.Map k) q no_map_old no_map is_like found at fits body gap = absurd no_map_old

    child_reached : (p q : Presence) → IsNoMap p → IsNoMap q → field_at (fields old pair.old) number ≡ Some (at_old p) → field_at (fields new pair.new) number ≡ Some (at_new q) → PresenceFits p e o → (cost : ℕ) → option_map (one_item (at_old p)) (child_body table e d) ≡ Some cost → Carries p q cases.Child 0 cost
    child_reached presences.Implicit q no_map_old no_map found at fits cost h = child_carried number o r e d presences.Implicit q refl no_map (λ x. unpacked_implicit number x o) (λ x b. refl) found at cost h
    child_reached presences.Explicit q no_map_old no_map found at fits cost h = child_carried number o r e d presences.Explicit q refl no_map (λ x. unpacked_explicit number x o) (λ x b. refl) found at cost h
    child_reached (presences.Repeated false) q no_map_old no_map found at fits cost h = child_carried number o r e d (presences.Repeated false) q refl no_map (λ x. unpacked_repeated number x o) (λ x b. refl) found at cost h
    child_reached (presences.Repeated true) q no_map_old no_map found at fits cost h = search rules
    child_reached (presences.Map k) q no_map_old no_map found at fits cost h = absurd no_map_old

    -- one packed zero, whose record isn't accepted
    packed_zero : (q : Presence) → is_singular q ≡ true → like e d ≡ true → field_at (fields old pair.old) number ≡ Some (at_old (presences.Repeated true)) → field_at (fields new pair.new) number ≡ Some (at_new q) → is_packable e ≡ true → (cost : ℕ) → Some (least_content (at_old (presences.Repeated true))) ≡ Some cost → Carries (presences.Repeated true) q cases.List 0 cost
    packed_zero q singular is_like found at packable cost h =
        let leafy = packable_leafy e packable in
        let least = ap (one_item (at_old (presences.Repeated true))) (zero_length e leafy) ∙ same_cost (least_content (at_old (presences.Repeated true))) cost h in
        childless (lost_onto number (presences.Repeated true) q (item_by (λ x. zero_leaf x) e)) cost
        (λ small.
        subst (λ v. ReachedBy enum_view old new pair v cost) (sym (leaf_part (λ x. zero_leaf x) e leafy number None (ends [])))
        (subst (ReachedBy enum_view old new pair (holds number None (zero_leaf (form e)) (ends []))) least
        (reach_packed enum_view old new shape_old shape_new pair number e d o r is_like q singular found at packable (zero_leaf (form e)) (zero_in_range e leafy) (subst (λ n. n ≤ cap) (sym least) small))))

    -- one zero, which an implicit field doesn't show
    one_zero : like e d ≡ true → field_at (fields old pair.old) number ≡ Some (at_old (presences.Repeated false)) → field_at (fields new pair.new) number ≡ Some (at_new presences.Implicit) → PresenceFits presences.Implicit d r → (cost : ℕ) → Some (least_content (at_old (presences.Repeated false))) ≡ Some cost → Carries (presences.Repeated false) presences.Implicit cases.List 0 cost
    one_zero is_like found at fits_new cost h =
        let new_leafy = implicit_leafy d r fits_new in
        let leafy = leafy_like e d is_like new_leafy in
        let least = same_cost (least_content (at_old (presences.Repeated false))) cost h in
        childless (alone number None (item_by (λ x. zero_leaf x) e)) cost
        (λ small.
        subst (λ v. ReachedBy enum_view old new pair v cost) (sym (leaf_part (λ x. zero_leaf x) e leafy number None (ends [])))
        (subst (ReachedBy enum_view old new pair (holds number None (zero_leaf (form e)) (ends []))) least
        (reach_zero enum_view old new shape_old shape_new pair number e d o r is_like leafy new_leafy found at (subst (λ n. n ≤ cap) (sym least) small))))

    -- two items, of which one is read
    two_items : like e d ≡ true → field_at (fields old pair.old) number ≡ Some (at_old (presences.Repeated false)) → field_at (fields new pair.new) number ≡ Some (at_new presences.Explicit) → (cost : ℕ) → Some (2 * least_content (at_old (presences.Repeated false))) ≡ Some cost → Carries (presences.Repeated false) presences.Explicit cases.List 0 cost
    two_items is_like found at cost h = search (rules, childless, least, of, leaf_or_message)
      where
        least : 2 * least_content (at_old (presences.Repeated false)) ≡ cost
        least = same_cost (2 * least_content (at_old (presences.Repeated false))) cost h

        two : Element → Message
        two x = with_part number None (item_by (λ y. zero_leaf y) x) (alone number None (item_by (λ y. zero_leaf y) x))

        of : IsLeafy e ⊎ ((s : TypeId) × (e ≡ elements.Message s)) → 2 * least_content (at_old (presences.Repeated false)) ≤ cap → ReachedBy enum_view old new pair (two e) (2 * least_content (at_old (presences.Repeated false)))
        of (inl leafy) few =
            subst (λ v. ReachedBy enum_view old new pair v (2 * least_content (at_old (presences.Repeated false))))
            (sym (leaf_part (λ x. zero_leaf x) e leafy number None (alone number None (item_by (λ x. zero_leaf x) e)) ∙ ap (holds number None (zero_leaf (form e))) (leaf_part (λ x. zero_leaf x) e leafy number None (ends []))))
            (reach_two_zeros enum_view old new shape_old shape_new pair number e d o r is_like leafy found at few)
        of (inr (s, is)) few =
            let (t, new_is) = like_message s d (subst (λ x. like x d ≡ true) is is_like) in
            subst (λ x. ReachedBy enum_view old new pair (two x) (2 * one_item (record { number = number; presence = presences.Repeated false; element = x; oneof = o }) (least_body x))) (sym is)
            (reach_two_children enum_view old new shape_old shape_new pair number s t o r
            (subst (λ x. field_at (fields old pair.old) number ≡ Some (record { number = number; presence = presences.Repeated false; element = x; oneof = o })) is found)
            (subst (λ x. field_at (fields new pair.new) number ≡ Some (record { number = number; presence = presences.Explicit; element = x; oneof = r })) new_is at)
            (subst (λ x. 2 * one_item (record { number = number; presence = presences.Repeated false; element = x; oneof = o }) (least_body x) ≤ cap) is few))

    -- a list where the new type has one item
    singular_carried : (p q : Presence) → like e d ≡ true → field_at (fields old pair.old) number ≡ Some (at_old p) → field_at (fields new pair.new) number ≡ Some (at_new q) → PresenceFits p e o → PresenceFits q d r → (cost : ℕ) → singular_cost (at_old p) (at_new q) ≡ Some cost → Carries p q cases.List 0 cost
    singular_carried presences.Implicit q is_like found at fits fits_new cost h = absurd (cc)
    singular_carried presences.Explicit q is_like found at fits fits_new cost h = absurd (cc)
    singular_carried (presences.Map k) q is_like found at fits fits_new cost h = absurd (cc)
    singular_carried (presences.Repeated w) (presences.Repeated v) is_like found at fits fits_new cost h = absurd (cc)
    singular_carried (presences.Repeated w) (presences.Map k) is_like found at fits fits_new cost h = absurd (cc)
    singular_carried (presences.Repeated true) presences.Explicit is_like found at fits fits_new cost h = packed_zero presences.Explicit refl is_like found at (fits.1 refl) cost h
    singular_carried (presences.Repeated true) presences.Implicit is_like found at fits fits_new cost h = packed_zero presences.Implicit refl is_like found at (fits.1 refl) cost h
    singular_carried (presences.Repeated false) presences.Implicit is_like found at fits fits_new cost h = one_zero is_like found at fits_new cost h
    singular_carried (presences.Repeated false) presences.Explicit is_like found at fits fits_new cost h = two_items is_like found at cost h

    -- unlike fields that are no maps
    nonzero_child : (s : TypeId) → e ≡ elements.Message s → least_part (at_old presences.Explicit) (ends []) ≡ alone number None (item_by (λ x. nonzero_leaf x) e)
    nonzero_child s is = subst (λ x. least_part (record { number = number; presence = presences.Explicit; element = x; oneof = o }) (ends []) ≡ alone number None (item_by (λ y. nonzero_leaf y) x)) (sym is) refl

    unlike_carried : (p q : Presence) → IsNoMap p → IsNoMap q → like e d ≡ false → field_at (fields old pair.old) number ≡ Some (at_old p) → field_at (fields new pair.new) number ≡ Some (at_new q) → PresenceFits p e o → Carries p q cases.Unlike 0 (unlike_cost (at_old p) (at_new q))
    unlike_carried presences.Implicit q no_map_old no_map unlike found at fits =
        childless (alone number None (item_by (λ x. nonzero_leaf x) e)) (one_item (at_old presences.Implicit) (nonzero_body e))
        (λ small. subst (λ v. ReachedBy enum_view old new pair v (one_item (at_old presences.Implicit) (nonzero_body e))) (implicit_least number e (ends [])) (reach_unlike_implicit enum_view old new shape_old shape_new pair number o r e d q no_map unlike found at small))
    unlike_carried presences.Explicit presences.Implicit no_map_old no_map unlike found at fits =
        childless (alone number None (item_by (λ x. nonzero_leaf x) e)) (one_item (at_old presences.Explicit) (nonzero_body e))
        (λ small.
        ⊎_elim
        (λ leafy.
        subst (λ v. ReachedBy enum_view old new pair v (one_item (at_old presences.Explicit) (nonzero_body e))) (sym (leaf_part (λ x. nonzero_leaf x) e leafy number None (ends [])))
        (reach_unlike_nonzero enum_view old new shape_old shape_new pair number o r e d leafy unlike found at small))
        (λ (s, is).
        let same : nonzero_body e ≡ least_body e = subst (λ x. nonzero_body x ≡ least_body x) (sym is) refl in
        subst (λ v. ReachedBy enum_view old new pair v (one_item (at_old presences.Explicit) (nonzero_body e))) (nonzero_child s is)
        (subst (λ b. ReachedBy enum_view old new pair (least_part (at_old presences.Explicit) (ends [])) (one_item (at_old presences.Explicit) b)) (sym same)
        (reach_unlike_child enum_view old new shape_old shape_new pair number o r e d s is unlike found at (subst (λ b. one_item (at_old presences.Explicit) b ≤ cap) same small))))
        (leaf_or_message e))
    unlike_carried presences.Explicit presences.Explicit no_map_old no_map unlike found at fits =
        childless (least_part (at_old presences.Explicit) (ends [])) (least_content (at_old presences.Explicit)) (reach_unlike_explicit enum_view old new shape_old shape_new pair number o r e d presences.Explicit no_map unlike refl found at)
    unlike_carried presences.Explicit (presences.Repeated w) no_map_old no_map unlike found at fits =
        childless (least_part (at_old presences.Explicit) (ends [])) (least_content (at_old presences.Explicit)) (reach_unlike_explicit enum_view old new shape_old shape_new pair number o r e d (presences.Repeated w) no_map unlike refl found at)
    unlike_carried presences.Explicit (presences.Map l) no_map_old no_map unlike found at fits = absurd no_map
    unlike_carried (presences.Repeated false) q no_map_old no_map unlike found at fits =
        childless (least_part (at_old (presences.Repeated false)) (ends [])) (least_content (at_old (presences.Repeated false))) (reach_unlike_list enum_view old new shape_old shape_new pair number o r e d q no_map unlike found at)
    unlike_carried (presences.Repeated true) q no_map_old no_map unlike found at fits =
        childless (least_part (at_old (presences.Repeated true)) (ends [])) (least_content (at_old (presences.Repeated true))) (reach_unlike_packed enum_view old new shape_old shape_new pair number o r e d q no_map unlike (fits.1 refl) found at)
    unlike_carried (presences.Map k) q no_map_old no_map unlike found at fits = absurd no_map_old

    plain_carried : (p q : Presence) → IsNoMap p → IsNoMap q → field_at (fields old pair.old) number ≡ Some (at_old p) → field_at (fields new pair.new) number ≡ Some (at_new q) → PresenceFits p e o → PresenceFits q d r → AllByRecursion (CarriesOwn (at_old p) (at_new q)) (plain_choices enum_view table (at_old p) (at_new q))
    plain_carried p q no_map_old no_map found at fits fits_new =
        elim (like e d) as (λ b. like e d ≡ b → AllByRecursion (CarriesOwn (at_old p) (at_new q)) (if b then choice_of number cases.Gap 0 (option_map (one_item (at_old p)) (gap_body enum_view (zero_counts (at_old p) (at_new q)) e d)) ++ choice_of number cases.Child 0 (option_map (one_item (at_old p)) (child_body table e d)) ++ choice_of number cases.List 0 (singular_cost (at_old p) (at_new q)) else choice number cases.Unlike 0 (unlike_cost (at_old p) (at_new q)) ∷ [])) [
          | true ↦ λ is_like.
              each-append (CarriesOwn (at_old p) (at_new q))
              (choice_of number cases.Gap 0 (option_map (one_item (at_old p)) (gap_body enum_view (zero_counts (at_old p) (at_new q)) e d)) ++ choice_of number cases.Child 0 (option_map (one_item (at_old p)) (child_body table e d)))
              (choice_of number cases.List 0 (singular_cost (at_old p) (at_new q)))
              (each-append (CarriesOwn (at_old p) (at_new q))
              (choice_of number cases.Gap 0 (option_map (one_item (at_old p)) (gap_body enum_view (zero_counts (at_old p) (at_new q)) e d)))
              (choice_of number cases.Child 0 (option_map (one_item (at_old p)) (child_body table e d)))
              (offered (at_old p) (at_new q) cases.Gap 0 _ refl
              (λ cost h.
              let (body, there, made) = option_map_some (one_item (at_old p)) (gap_body enum_view (zero_counts (at_old p) (at_new q)) e d) cost h in
              subst (Carries p q cases.Gap 0) made (gap_carried p q no_map_old no_map is_like found at fits body (gapped enum_view law (zero_counts (at_old p) (at_new q)) e d is_like body there))))
              (offered (at_old p) (at_new q) cases.Child 0 _ refl (child_reached p q no_map_old no_map found at fits)))
              (offered (at_old p) (at_new q) cases.List 0 _ refl (singular_carried p q is_like found at fits fits_new))
          | false ↦ λ unlike. ((refl, refl, unlike_carried p q no_map_old no_map unlike found at fits), tt)
        ] refl

    -- Maps in both types.
    module _ (k l : Scalar) where
      abbrev old_map : FieldShape
      old_map = at_old (presences.Map k)

      abbrev new_map : FieldShape
      new_map = at_new (presences.Map l)

      -- an entry of the empty message, under any key
      empty_entry : (s : TypeId) → e ≡ elements.Message s → (leaf : Leaf) → nests number (Some leaf) (ends []) (ends []) ≡ alone number (Some leaf) (item_by (λ x. zero_leaf x) e)
      empty_entry s is leaf = subst (λ x. nests number (Some leaf) (ends []) (ends []) ≡ alone number (Some leaf) (item_by (λ y. zero_leaf y) x)) (sym is) refl

      key_gap_made : like (elements.Scalar k) (elements.Scalar l) ≡ true → like e d ≡ true → field_at (fields old pair.old) number ≡ Some old_map → field_at (fields new pair.new) number ≡ Some new_map → (body : ℕ) → (gap : Gapped enum_view true (elements.Scalar k) (elements.Scalar l) body) → entry_cost number (body_length (form (elements.Scalar k)) gap.item) (least_body e) ≤ cap → ReachedBy enum_view old new pair (alone number (Some gap.item) (item_by (λ x. zero_leaf x) e)) (entry_cost number (body_length (form (elements.Scalar k)) gap.item) (least_body e))
      key_gap_made like_keys like_values found at body gap few =
          ⊎_elim
          (λ leafy.
          subst (λ v. ReachedBy enum_view old new pair v (entry_cost number (body_length (form (elements.Scalar k)) gap.item) (least_body e))) (sym (leaf_part (λ x. zero_leaf x) e leafy number (Some gap.item) (ends [])))
          (reach_key_gap enum_view old new shape_old shape_new pair number e d o r k l leafy like_keys found at gap.item gap.least.unseen.in_range gap.least.unseen.not_seen few))
          (λ (s, is).
          let (t, new_is) = like_message s d (subst (λ x. like x d ≡ true) is like_values) in
          subst (λ v. ReachedBy enum_view old new pair v (entry_cost number (body_length (form (elements.Scalar k)) gap.item) (least_body e))) (empty_entry s is gap.item)
          (subst (λ x. ReachedBy enum_view old new pair (nests number (Some gap.item) (ends []) (ends [])) (entry_cost number (body_length (form (elements.Scalar k)) gap.item) (least_body x))) (sym is)
          (reach_key_gap_child enum_view old new shape_old shape_new pair number s t o r k l like_keys
          (subst (λ x. field_at (fields old pair.old) number ≡ Some (record { number = number; presence = presences.Map k; element = x; oneof = o })) is found)
          (subst (λ x. field_at (fields new pair.new) number ≡ Some (record { number = number; presence = presences.Map l; element = x; oneof = r })) new_is at)
          gap.item gap.least.unseen.in_range gap.least.unseen.not_seen
          (subst (λ x. entry_cost number (body_length (form (elements.Scalar k)) gap.item) (least_body x) ≤ cap) is few))))
          (leaf_or_message e)

      key_gap_carried : like (elements.Scalar k) (elements.Scalar l) ≡ true → like e d ≡ true → field_at (fields old pair.old) number ≡ Some old_map → field_at (fields new pair.new) number ≡ Some new_map → (body : ℕ) → Gapped enum_view true (elements.Scalar k) (elements.Scalar l) body → Carries (presences.Map k) (presences.Map l) cases.Map 1 (entry_cost number body (least_body e))
      key_gap_carried like_keys like_values found at body gap =
          childless (key_alone number e (gap_item enum_view true (elements.Scalar k) (elements.Scalar l))) (entry_cost number body (least_body e))
          (λ small.
          subst (λ x. ReachedBy enum_view old new pair (key_alone number e x) (entry_cost number body (least_body e))) (sym gap.item_is)
          (subst (λ b. ReachedBy enum_view old new pair (alone number (Some gap.item) (item_by (λ x. zero_leaf x) e)) (entry_cost number b (least_body e))) gap.body_is
          (key_gap_made like_keys like_values found at body gap (subst (λ b. entry_cost number b (least_body e) ≤ cap) (sym gap.body_is) small))))

      value_gap_carried : like e d ≡ true → field_at (fields old pair.old) number ≡ Some old_map → field_at (fields new pair.new) number ≡ Some new_map → (body : ℕ) → Gapped enum_view true e d body → Carries (presences.Map k) (presences.Map l) cases.Map 2 (one_item old_map body)
      value_gap_carried like_values found at body gap = search (rules, leafy_childless, of)
        where
          of : one_item old_map body ≤ cap → (child : Option Message) → ChildReached enum_view old new table None child → ReachedBy enum_view old new pair (item_alone number (Some (zero_leaf (form (elements.Scalar k)))) (broken_value child (gap_item enum_view true e d))) (one_item old_map body)
          of small (Some m) h = absurd h
          of small None h =
              subst (λ x. ReachedBy enum_view old new pair (item_alone number (Some (zero_leaf (form (elements.Scalar k)))) (option_map Plain x)) (one_item old_map body)) (sym gap.item_is)
              (subst (λ b. ReachedBy enum_view old new pair (holds number (Some (zero_leaf (form (elements.Scalar k)))) gap.item (ends [])) (one_item old_map b)) gap.body_is
              (reach_value_gap enum_view old new shape_old shape_new pair number e d o r k l gap.old_leafy gap.new_leafy like_values found at gap.item gap.least.unseen.in_range gap.least.unseen.not_seen
              (subst (λ b. one_item old_map b ≤ cap) (sym gap.body_is) small)))

      -- unlike keys or values: the entry of a least key and value, where an unlike integer is 1
      apart_range : (x y : Element) → IsLeafy x → InRange (form x) (apart_leaf x y)
      apart_range x y leafy = search (rules, zero_in_range, far_in_range)

      apart_length : (x y : Element) → IsLeafy x → body_length (form x) (apart_leaf x y) ≡ least_body x
      apart_length x y leafy = search (rules, zero_length, far_length)

      apart_far : (x y : Element) → like x y ≡ false → apart_leaf x y ≡ far_leaf (form x)
      apart_far x y unlike = ap (λ (b : Bool). if b then zero_leaf (form x) else far_leaf (form x)) unlike

      apart_part : IsLeafy e → (key : Option Leaf) → alone number key (apart_item e d) ≡ holds number key (apart_leaf e d) (ends [])
      apart_part leafy key = search (rules, leaf_part)

      apart_child : (s : TypeId) → e ≡ elements.Message s → (key : Option Leaf) → nests number key (ends []) (ends []) ≡ alone number key (apart_item e d)
      apart_child s is key = search rules

      unlike_maps_made : (like (elements.Scalar k) (elements.Scalar l) && like e d) ≡ false → field_at (fields old pair.old) number ≡ Some old_map → field_at (fields new pair.new) number ≡ Some new_map → least_content old_map ≤ cap → ReachedBy enum_view old new pair (alone number (Some (apart_leaf (elements.Scalar k) (elements.Scalar l))) (apart_item e d)) (least_content old_map)
      unlike_maps_made unlike found at small = ⊎_elim leaves child (leaf_or_message e)
        where
          key_least : body_length (form (elements.Scalar k)) (apart_leaf (elements.Scalar k) (elements.Scalar l)) ≡ least_body (elements.Scalar k)
          key_least = apart_length (elements.Scalar k) (elements.Scalar l) tt

          either : (like (elements.Scalar k) (elements.Scalar l) ≡ false) ⊎ (like e d ≡ false)
          either = search rules

          leaves : IsLeafy e → ReachedBy enum_view old new pair (alone number (Some (apart_leaf (elements.Scalar k) (elements.Scalar l))) (apart_item e d)) (least_content old_map)
          leaves leafy =
              let cost : entry_cost number (body_length (form (elements.Scalar k)) (apart_leaf (elements.Scalar k) (elements.Scalar l))) (body_length (form e) (apart_leaf e d)) ≡ least_content old_map =
              ap₂ (entry_cost number) key_least (apart_length e d leafy) in
              subst (λ v. ReachedBy enum_view old new pair v (least_content old_map)) (sym (apart_part leafy (Some (apart_leaf (elements.Scalar k) (elements.Scalar l)))))
              (subst (ReachedBy enum_view old new pair (holds number (Some (apart_leaf (elements.Scalar k) (elements.Scalar l))) (apart_leaf e d) (ends []))) cost
              (reach_far_leaves enum_view old new shape_old shape_new pair number d o r k l e leafy found at (apart_leaf (elements.Scalar k) (elements.Scalar l)) (apart_leaf e d) (apart_range (elements.Scalar k) (elements.Scalar l) tt) (apart_range e d leafy)
              (⊎_elim (λ keys. inl (keys, apart_far (elements.Scalar k) (elements.Scalar l) keys)) (λ values. inr (values, apart_far e d values)) either) (subst (λ n. n ≤ cap) (sym cost) small)))

          child : (s : TypeId) × (e ≡ elements.Message s) → ReachedBy enum_view old new pair (alone number (Some (apart_leaf (elements.Scalar k) (elements.Scalar l))) (apart_item e d)) (least_content old_map)
          child (s, is) =
              let cost : entry_cost number (body_length (form (elements.Scalar k)) (apart_leaf (elements.Scalar k) (elements.Scalar l))) (least_body (elements.Message s)) ≡ least_content old_map =
              ap₂ (entry_cost number) key_least (ap least_body (sym is)) in
              subst (λ v. ReachedBy enum_view old new pair v (least_content old_map)) (apart_child s is (Some (apart_leaf (elements.Scalar k) (elements.Scalar l))))
              (subst (ReachedBy enum_view old new pair (nests number (Some (apart_leaf (elements.Scalar k) (elements.Scalar l))) (ends []) (ends []))) cost
              (reach_far_child enum_view old new shape_old shape_new pair number d o r k l s
              (subst (λ x. field_at (fields old pair.old) number ≡ Some (record { number = number; presence = presences.Map k; element = x; oneof = o })) is found) at
              (apart_leaf (elements.Scalar k) (elements.Scalar l)) (apart_range (elements.Scalar k) (elements.Scalar l) tt)
              (⊎_elim (λ keys. inl (keys, apart_far (elements.Scalar k) (elements.Scalar l) keys)) (λ values. inr (subst (λ x. like x d ≡ false) is values)) either) (subst (λ n. n ≤ cap) (sym cost) small)))

      maps_carried : field_at (fields old pair.old) number ≡ Some old_map → field_at (fields new pair.new) number ≡ Some new_map → AllByRecursion (CarriesOwn old_map new_map) (map_choices enum_view table old_map new_map k l)
      maps_carried found at =
          elim (like (elements.Scalar k) (elements.Scalar l) && like e d) as (λ b. (like (elements.Scalar k) (elements.Scalar l) && like e d) ≡ b → AllByRecursion (CarriesOwn old_map new_map) (if b then choice_of number cases.Map 1 (option_map (λ body. entry_cost number body (least_body e)) (gap_body enum_view true (elements.Scalar k) (elements.Scalar l))) ++ choice_of number cases.Map 2 (option_map (one_item old_map) (gap_body enum_view true e d)) ++ choice_of number cases.Map 2 (option_map (one_item old_map) (child_body table e d)) else choice number cases.Map 0 (least_content old_map) ∷ [])) [
            | true ↦ λ both.
                let (like_keys, like_values) = and_parts (like (elements.Scalar k) (elements.Scalar l)) (like e d) both in
                each-append (CarriesOwn old_map new_map)
                (choice_of number cases.Map 1 (option_map (λ body. entry_cost number body (least_body e)) (gap_body enum_view true (elements.Scalar k) (elements.Scalar l))) ++ choice_of number cases.Map 2 (option_map (one_item old_map) (gap_body enum_view true e d)))
                (choice_of number cases.Map 2 (option_map (one_item old_map) (child_body table e d)))
                (each-append (CarriesOwn old_map new_map)
                (choice_of number cases.Map 1 (option_map (λ body. entry_cost number body (least_body e)) (gap_body enum_view true (elements.Scalar k) (elements.Scalar l))))
                (choice_of number cases.Map 2 (option_map (one_item old_map) (gap_body enum_view true e d)))
                (offered old_map new_map cases.Map 1 _ refl
                (λ cost h.
                let (body, there, made) = option_map_some (λ body. entry_cost number body (least_body e)) (gap_body enum_view true (elements.Scalar k) (elements.Scalar l)) cost h in
                subst (Carries (presences.Map k) (presences.Map l) cases.Map 1) made (key_gap_carried like_keys like_values found at body (gapped enum_view law true (elements.Scalar k) (elements.Scalar l) like_keys body there))))
                (offered old_map new_map cases.Map 2 _ refl
                (λ cost h.
                let (body, there, made) = option_map_some (one_item old_map) (gap_body enum_view true e d) cost h in
                subst (Carries (presences.Map k) (presences.Map l) cases.Map 2) made (value_gap_carried like_values found at body (gapped enum_view law true e d like_values body there)))))
                (offered old_map new_map cases.Map 2 _ refl (map_child_carried number o r e d k l found at))
            | false ↦ λ unlike. ((refl, refl, childless (alone number (Some (apart_leaf (elements.Scalar k) (elements.Scalar l))) (apart_item e d)) (least_content old_map) (unlike_maps_made unlike found at)), tt)
          ] refl

    -- a map beside a field that is none, and the other way round
    map_beside_carried : (k : Scalar) (q : Presence) → IsNoMap q → field_at (fields old pair.old) number ≡ Some (at_old (presences.Map k)) → field_at (fields new pair.new) number ≡ Some (at_new q) → Carries (presences.Map k) q cases.Unlike 0 (unlike_cost (at_old (presences.Map k)) (at_new q))
    map_beside_carried k q no_map found at = search (rules, childless, reach_map)

    beside_map_carried : (p : Presence) → IsNoMap p → (l : Scalar) → field_at (fields old pair.old) number ≡ Some (at_old p) → field_at (fields new pair.new) number ≡ Some (at_new (presences.Map l)) → Carries p (presences.Map l) cases.Unlike 0 (unlike_cost (at_old p) (at_new (presences.Map l)))
    beside_map_carried presences.Implicit no_map l found at =
        childless (alone number None (item_by (λ x. nonzero_leaf x) e)) (one_item (at_old presences.Implicit) (nonzero_body e))
        (λ small. subst (λ v. ReachedBy enum_view old new pair v (one_item (at_old presences.Implicit) (nonzero_body e))) (implicit_least number e (ends [])) (reach_beside_map enum_view old new shape_old shape_new pair number o r e d presences.Implicit tt l found at small))
    beside_map_carried presences.Explicit no_map l found at =
        childless (least_part (at_old presences.Explicit) (ends [])) (least_content (at_old presences.Explicit)) (reach_beside_map enum_view old new shape_old shape_new pair number o r e d presences.Explicit tt l found at)
    beside_map_carried (presences.Repeated w) no_map l found at =
        childless (least_part (at_old (presences.Repeated w)) (ends [])) (least_content (at_old (presences.Repeated w))) (reach_beside_map enum_view old new shape_old shape_new pair number o r e d (presences.Repeated w) tt l found at)
    beside_map_carried (presences.Map k) no_map l found at = absurd no_map

    -- The choices of one field.
    pub presences_carried : (p q : Presence) → field_at (fields old pair.old) number ≡ Some (at_old p) → field_at (fields new pair.new) number ≡ Some (at_new q) → PresenceFits p e o → PresenceFits q d r → AllByRecursion (CarriesOwn (at_old p) (at_new q)) (field_choices enum_view table (at_old p) (at_new q))
    presences_carried (presences.Map k) (presences.Map l) found at fits fits_new = maps_carried k l found at
    presences_carried (presences.Map k) presences.Implicit found at fits fits_new = ((refl, refl, map_beside_carried k presences.Implicit tt found at), tt)
    presences_carried (presences.Map k) presences.Explicit found at fits fits_new = ((refl, refl, map_beside_carried k presences.Explicit tt found at), tt)
    presences_carried (presences.Map k) (presences.Repeated w) found at fits fits_new = ((refl, refl, map_beside_carried k (presences.Repeated w) tt found at), tt)
    presences_carried presences.Implicit (presences.Map l) found at fits fits_new = ((refl, refl, beside_map_carried presences.Implicit tt l found at), tt)
    presences_carried presences.Implicit presences.Implicit found at fits fits_new = plain_carried presences.Implicit presences.Implicit tt tt found at fits fits_new
    presences_carried presences.Implicit presences.Explicit found at fits fits_new = plain_carried presences.Implicit presences.Explicit tt tt found at fits fits_new
    presences_carried presences.Implicit (presences.Repeated w) found at fits fits_new = plain_carried presences.Implicit (presences.Repeated w) tt tt found at fits fits_new
    presences_carried presences.Explicit (presences.Map l) found at fits fits_new = ((refl, refl, beside_map_carried presences.Explicit tt l found at), tt)
    presences_carried presences.Explicit presences.Implicit found at fits fits_new = plain_carried presences.Explicit presences.Implicit tt tt found at fits fits_new
    presences_carried presences.Explicit presences.Explicit found at fits fits_new = plain_carried presences.Explicit presences.Explicit tt tt found at fits fits_new
    presences_carried presences.Explicit (presences.Repeated w) found at fits fits_new = plain_carried presences.Explicit (presences.Repeated w) tt tt found at fits fits_new
    presences_carried (presences.Repeated p) (presences.Map l) found at fits fits_new = ((refl, refl, beside_map_carried (presences.Repeated p) tt l found at), tt)
    presences_carried (presences.Repeated p) presences.Implicit found at fits fits_new = plain_carried (presences.Repeated p) presences.Implicit tt tt found at fits fits_new
    presences_carried (presences.Repeated p) presences.Explicit found at fits fits_new = plain_carried (presences.Repeated p) presences.Explicit tt tt found at fits fits_new
    presences_carried (presences.Repeated p) (presences.Repeated w) found at fits fits_new = plain_carried (presences.Repeated p) (presences.Repeated w) tt tt found at fits fits_new
