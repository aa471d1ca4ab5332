-- Each way in which a message breaks by itself is told.
use Rattle.std.proofs.Common.{◌≡◌, Bool, inl, refl, sym, ◌∙◌, ◌∷◌, [], true, ◌++◌, List, Option, Some, ap, subst, arith, false, ℕ, ◌<◌, ◌≤◌, length, not, eq-eqb, ⊎_elim, option_map, unwrap_or, ◌&&◌, nat_eq}
use Rattle.std.specs.List.{AllByRecursion}
use Rattle.std.proofs.lemmas.Bool.{and_parts}
use Rattle.pg_schema.specs.Shape.{fields, field_at, Shape, FieldShape}
use Rattle.pg_schema.specs.ShapeRules.{IsShape}
use Rattle.pg_schema.specs.declared.parts.field.Element.{Element}
use Rattle.pg_schema.specs.declared.parts.field.Element.TheVariants as elements
use Rattle.pg_schema.specs.declared.parts.field.Presence.TheVariants as presences
use Rattle.pg_dyn.specs.encoding.Encoding.{enc}
use Rattle.pg_dyn.specs.encoding.Writing.{key_of}
use Rattle.pg_dyn.specs.fitting.Belonging.{KeyFits}
use Rattle.pg_dyn.specs.laws.ByComparands.{comparands_at}
use Rattle.pg_dyn.specs.message.Message.{Leaf, is_zero, Message, Plain}
use Rattle.pg_dyn.specs.reading.Decoding.{dec}
use Rattle.pg_dyn.specs.views.Breaking.{Breaks}
use Rattle.pg_dyn.specs.views.Comparison.{Alike, Comparand, comparands, is_zero_expected, is_zero_item, writes, hides_zero}
use Rattle.pg_dyn.specs.word.Coding.{form, zero_leaf, InRange}
use Rattle.pg_dyn.proofs.PublicLaws.{fields_are_found}
use Rattle.pg_pairs.specs.bounds.Covering.{IsAmong}
use Rattle.pg_pairs.specs.choices.Choices.{choice, choice_of, unlike_cost, no_bounds, field_choices, singular_cost, zero_counts, gap_body}
use Rattle.pg_pairs.specs.choices.Costs.{least_body, one_item, least_content, nonzero_body, entry_cost}
use Rattle.pg_pairs.specs.choices.Held.{HasItem, HoldsField}
use Rattle.pg_pairs.specs.choices.Told.{Told, told_alone, told_causes}
use Rattle.pg_pairs.specs.choices.Ways.{are_alike, HoldsBoth, HoldsMisreadItem, HoldsMisreadKey, HoldsMisreadValue, HoldsUnlike, HoldsUnlikeEntry, BreaksInOne}
use Rattle.pg_pairs.specs.declared.choices.case.Case.{Case}
use Rattle.pg_pairs.specs.declared.choices.case.Case.TheVariants as cases
use Rattle.pg_pairs.specs.declared.choices.choice.Choice.{Choice}
use Rattle.pg_pairs.specs.declared.choices.choice.Pair.{Pair}
use Rattle.pg_pairs.specs.gaps.Gaps.{body_length}
use Rattle.pg_pairs.specs.gaps.Likeness.{like}
use Rattle.pg_pairs.specs.gaps.TrueGaps.{is_seen, ItemCounts}
use Rattle.pg_pairs.specs.inner.Contents.{total, Holds}
use Rattle.pg_pairs.specs.laws.EdgeChildren.{append_left, append_right}
use Rattle.pg_pairs.specs.laws.FieldCosts.{IsShared}
use Rattle.pg_pairs.specs.laws.WaysTold.{WaysAreTold, AreToldAt, IsToldAt}
use Rattle.pg_pairs.specs.views.EnumView.{EnumView, by_numbers}
use Rattle.pg_pairs.specs.views.ViewLaws.{IsEnumView}
use Rattle.pg_pairs.proofs.lemmas.bounds.BreaksTold.{own_told, two_told}
use Rattle.pg_pairs.proofs.lemmas.bounds.Comparands.{comparand_reads, least_cost, nonzero_cost, EntryCosts, entry_costs, leafy_item}
use Rattle.pg_pairs.proofs.lemmas.bounds.Dearer.{by_numbers_is_view}
use Rattle.pg_pairs.proofs.lemmas.bounds.Decisions.{leaf_or}
use Rattle.pg_pairs.proofs.lemmas.bounds.Fates.{leafy_or_not}
use Rattle.pg_pairs.proofs.lemmas.bounds.FieldKinds.{AreLike, alike_parts, alike_choices, chosen, counts_by, item_counts, leafy_of, map_choices_are, may_zero, unlike_choices, unlike_map_choices}
use Rattle.pg_pairs.proofs.lemmas.bounds.HeldParts.{Stands, field_there, item_there, leaf_there}
use Rattle.pg_pairs.proofs.lemmas.bounds.ListsTold.{list_costs}
use Rattle.pg_pairs.proofs.lemmas.bounds.OneMessage.{Meets, holds_at, total_within, costs_at, comparand_field, meeting, not_in_old}
use Rattle.pg_pairs.proofs.lemmas.choices.Among.{among_each}
use Rattle.pg_pairs.proofs.lemmas.choices.Costs.{Costs, least_body_below}
use Rattle.pg_pairs.proofs.lemmas.choices.Offers.{gap_choice, child_choice, list_choice, key_choice, value_choice, map_child_choice}
use Rattle.pg_pairs.proofs.lemmas.gaps.GapItems.{IsLeafy}
use Rattle.pg_pairs.proofs.lemmas.graph.Reaching.{every_is_among}
use Rattle.pg_pairs.proofs.lemmas.views.NameLaws.{among_filter}

-- One message that breaks.
module _ (enum_view : EnumView) (law : IsEnumView enum_view) (old new : Shape) (is_old : IsShape old) (is_new : IsShape new) (pair : Pair) (v : Message) (breaks : Breaks enum_view.alike old new pair.old pair.new v) where
  abbrev cs : List Comparand
  cs = comparands enum_view.alike old new pair.old pair.new v

  abbrev bytes : ℕ
  bytes = length (enc old pair.old v)

  abbrev told : List Told
  told = told_causes enum_view old new pair

  module _ (f g : FieldShape) (shared : IsShared old new pair f g) where
    abbrev own : List Comparand
    own = comparands_at f.number cs

    within : total f own ≤ bytes
    within = total_within enum_view.alike old new is_old pair.old pair.new v breaks.is_message breaks.is_plain f shared.old_field

    own_holds : AllByRecursion (Holds f) own
    own_holds = holds_at enum_view.alike old new is_old pair.old pair.new v breaks.is_message breaks.is_plain f shared.old_field

    own_costs : AllByRecursion (Costs f (total f own)) own
    own_costs = costs_at enum_view.alike old new is_old pair.old pair.new v breaks.is_message breaks.is_plain f shared.old_field

    at_own : (c : Comparand) → IsAmong c cs → c.number ≡ f.number → IsAmong c own
    at_own c among at = among_filter (λ (d : Comparand). nat_eq d.number f.number) c cs among (eq-eqb c.number f.number at)

    -- a choice that costs no more than the message is told, and one that costs no more than the content
    told_within : (case : Case) (part : ℕ) (c : Choice) → IsAmong c (field_choices enum_view no_bounds f g) → (c.number ≡ f.number) × (c.case ≡ case) × (c.part ≡ part) → c.cost ≤ bytes → IsToldAt told f.number case part bytes
    told_within case part c here is cheap = record {
      cause = told_alone c;
      among = own_told enum_view law old new is_old is_new pair v breaks f g shared.old_field shared.new_field c here cheap;
      field = ap (λ n. n ∷ []) is.0;
      by_number = is.0;
      by_case = is.1;
      by_part = is.2;
      least = cheap;
    }

    told_at : (case : Case) (part : ℕ) (c : Choice) → IsAmong c (field_choices enum_view no_bounds f g) → (c.number ≡ f.number) × (c.case ≡ case) × (c.part ≡ part) → c.cost ≤ total f own → IsToldAt told f.number case part bytes
    told_at case part c here is cheap = told_within case part c here is (let le = within in omega arith)

    told_offered : (case : Case) (part : ℕ) (some : Option ℕ) → ((c : Choice) → IsAmong c (choice_of f.number case part some) → IsAmong c (field_choices enum_view no_bounds f g)) → (c : Choice) × IsAmong c (choice_of f.number case part some) × (c.cost ≤ total f own) → IsToldAt told f.number case part bytes
    told_offered case part some into (c, here, cheap) = told_at case part c (into c here) (chosen f.number case part some c here) cheap

    told_only : (case : Case) (part cost : ℕ) → field_choices enum_view no_bounds f g ≡ choice f.number case part cost ∷ [] → cost ≤ total f own → IsToldAt told f.number case part bytes
    told_only case part cost are cheap = told_at case part (choice f.number case part cost) (subst (IsAmong (choice f.number case part cost)) (sym are) (inl refl)) (refl, refl, refl) cheap

    -- a gap of these elements, at that price
    abbrev Offered : List Choice → ℕ → Type 0
    Offered offers n = (c : Choice) × IsAmong c offers × (c.cost ≤ n)

    gap_told : (price : ℕ → ℕ) (zero : Bool) (e d : Element) → IsLeafy e → like e d ≡ true → (case : Case) (part : ℕ) → (leaf : Leaf) → InRange (form e) leaf → ItemCounts zero leaf → ((b : ℕ) → b ≤ body_length (form e) leaf → price b ≤ total f own) → is_seen enum_view.alike e d leaf ≡ false
        → Offered (choice_of f.number case part (option_map price (gap_body enum_view zero e d))) (total f own)
    gap_told price zero e d leafy is_like case part leaf range counts cost misread =
        let offers = choice_of f.number case part (option_map price (gap_body enum_view zero e d)) in
        ⊎_elim
        (λ seen. absurd (let no : true ≡ false = sym seen ∙ misread in cc))
        (λ some. some)
        (leaf_or enum_view law no_bounds (dec new) (Offered offers) (λ m n le some. (some.0, some.1, let fewer = some.2 in omega (arith, fewer, le))) price zero e d leafy is_like f.number case part
        (every_is_among (λ (c : Choice). Offered offers c.cost) offers (λ c among. (c, among, omega arith))) (total f own) leaf range counts cost)

    unlike_told : HoldsUnlike f g v → IsToldAt told f.number cases.Unlike 0 bytes
    unlike_told h = told_only cases.Unlike 0 (unlike_cost f g) (unlike_choices enum_view f g h.unlike) (cheap (zero_counts f g) refl)
      where
        it : Stands enum_view.alike old new pair.old pair.new f.number h.key h.item v
        it = item_there enum_view.alike old new pair.old pair.new f.number h.key h.item v h.held

        among : IsAmong it.comparand own
        among = at_own it.comparand it.among it.number_is

        holds_it : Holds f it.comparand
        holds_it = among_each (Holds f) it.comparand own among own_holds

        costs_it : Costs f (total f own) it.comparand
        costs_it = among_each (Costs f (total f own)) it.comparand own among own_costs

        by_leaf : IsLeafy f.element → zero_counts f g ≡ false → one_item f (nonzero_body f.element) ≤ total f own
        by_leaf leafy hidden =
            let expected = (leafy_item f.element it.comparand leafy holds_it.item).1 in
            let zero : is_zero it.comparand.written ≡ is_zero_item h.item = sym (ap is_zero_expected expected) ∙ it.zero_is in
            let shown : not (hides_zero f g && is_zero it.comparand.written) ≡ true = subst (λ b. not (hides_zero f g && b) ≡ true) (sym zero) h.shown in
            nonzero_cost f (total f own) it.comparand holds_it costs_it (counts_by f.presence g.presence (is_zero it.comparand.written) shown (may_zero f.presence it.comparand.written holds_it.may_be_zero) hidden)

        by_child : nonzero_body f.element ≡ least_body f.element → one_item f (nonzero_body f.element) ≤ total f own
        by_child same = subst (λ b. one_item f b ≤ total f own) (sym same) (costs_it (least_body f.element) (least_body_below f.element it.comparand.written (comparand_reads f.element it.comparand holds_it.item)))

        cheap : (b : Bool) → zero_counts f g ≡ b → unlike_cost f g ≤ total f own
        cheap true is = rw is (least_cost f (total f own) it.comparand holds_it costs_it)
        cheap false is = rw is (⊎_elim (λ leafy. by_leaf leafy is) by_child (leafy_or_not f.element))

    -- a leaf of the field
    pub record IsLeafOf (key : Option Leaf) (leaf : Leaf) : Type 0 where
      pub comparand_holds : Holds f (record { number = f.number; key = key; written = leaf; expected = Alike leaf })
      pub cost : Costs f (total f own) (record { number = f.number; key = key; written = leaf; expected = Alike leaf })
      pub leafy : IsLeafy f.element
      pub range : InRange (form f.element) leaf

    leaf_of : (key : Option Leaf) (leaf : Leaf) → HasItem f.number key (Plain leaf) v → IsLeafOf key leaf
    leaf_of key leaf held =
        let c : Comparand = record { number = f.number; key = key; written = leaf; expected = Alike leaf } in
        let among = at_own c (leaf_there enum_view.alike old new pair.old pair.new f.number key leaf v held) refl in
        let h = among_each (Holds f) c own among own_holds in
        let leafy = leafy_of f.element c leaf h.item refl in
        record { comparand_holds = h; cost = among_each (Costs f (total f own)) c own among own_costs; leafy = leafy; range = (leafy_item f.element c leafy h.item).0 }

    item_told : HoldsMisreadItem enum_view.alike f g v → IsToldAt told f.number cases.Gap 0 bytes
    item_told h =
        let a = alike_parts f g h.alike in
        let l = leaf_of h.item.key h.item.leaf h.item.held in
        told_offered cases.Gap 0 (option_map (one_item f) (gap_body enum_view (zero_counts f g) f.element g.element))
        (λ c here. subst (IsAmong c) (sym (alike_choices enum_view f g a)) (append_left c (gap_choice enum_view f g ++ child_choice no_bounds f g) (list_choice f g) (append_left c (gap_choice enum_view f g) (child_choice no_bounds f g) here)))
        (gap_told (one_item f) (zero_counts f g) f.element g.element l.leafy a.is_like cases.Gap 0 h.item.leaf l.range
        (item_counts f g h.item.leaf h.item.shown l.comparand_holds.may_be_zero) l.cost h.item.misread)

    value_told : HoldsMisreadValue enum_view.alike f g v → IsToldAt told f.number cases.Map 2 bytes
    value_told h =
        let (keys, values) = and_parts (like (elements.Scalar h.maps.old_key) (elements.Scalar h.maps.new_key)) (like f.element g.element) h.alike in
        let l = leaf_of h.value.key h.value.leaf h.value.held in
        told_offered cases.Map 2 (option_map (one_item f) (gap_body enum_view true f.element g.element))
        (λ c here. subst (IsAmong c) (sym (map_choices_are enum_view f g h.maps h.alike))
        (append_left c (key_choice enum_view f h.maps.old_key h.maps.new_key ++ value_choice enum_view f g) (map_child_choice no_bounds f g) (append_right c (key_choice enum_view f h.maps.old_key h.maps.new_key) (value_choice enum_view f g) here)))
        (gap_told (one_item f) true f.element g.element l.leafy values cases.Map 2 h.value.leaf l.range tt l.cost h.value.misread)

    key_told : HoldsMisreadKey enum_view.alike f g v → IsToldAt told f.number cases.Map 1 bytes
    key_told h =
        let k = h.maps.old_key in
        let (keys, values) = and_parts (like (elements.Scalar k) (elements.Scalar h.maps.new_key)) (like f.element g.element) h.alike in
        let it = item_there enum_view.alike old new pair.old pair.new f.number (Some h.key) h.item v h.held in
        let among = at_own it.comparand it.among it.number_is in
        let held = among_each (Holds f) it.comparand own among own_holds in
        let fits : KeyFits (presences.Map k) (Some h.key) = subst (λ p. KeyFits p (Some h.key)) h.maps.old_is (subst (KeyFits f.presence) it.key_is held.key_fits) in
        let cost = among_each (EntryCosts f k (total f own)) it.comparand own among (entry_costs (dec new) f k h.maps.old_is own) in
        let written : key_of k (writes it.comparand) ≡ h.key = ap (λ o. unwrap_or o (zero_leaf (form (elements.Scalar k)))) it.key_is in
        told_offered cases.Map 1 (option_map (λ body. entry_cost f.number body (least_body f.element)) (gap_body enum_view true (elements.Scalar k) (elements.Scalar h.maps.new_key)))
        (λ c here. subst (IsAmong c) (sym (map_choices_are enum_view f g h.maps h.alike))
        (append_left c (key_choice enum_view f k h.maps.new_key ++ value_choice enum_view f g) (map_child_choice no_bounds f g) (append_left c (key_choice enum_view f k h.maps.new_key) (value_choice enum_view f g) here)))
        (gap_told (λ body. entry_cost f.number body (least_body f.element)) true (elements.Scalar k) (elements.Scalar h.maps.new_key) tt keys cases.Map 1 h.key fits tt
        (λ b le. cost b (least_body f.element) (subst (λ x. b ≤ body_length (form (elements.Scalar k)) x) (sym written) le) (least_body_below f.element it.comparand.written (comparand_reads f.element it.comparand held.item))) h.misread)

    entry_told : HoldsUnlikeEntry f g v → IsToldAt told f.number cases.Map 0 bytes
    entry_told h =
        let (c, there, at) = field_there enum_view.alike old new pair.old pair.new f.number v h.held in
        let among = at_own c there at in
        told_only cases.Map 0 (least_content f) (unlike_map_choices enum_view f g h.maps h.unlike)
        (least_cost f (total f own) c (among_each (Holds f) c own among own_holds) (among_each (Costs f (total f own)) c own among own_costs))

    list_told : BreaksInOne enum_view.alike old new pair f g v → IsToldAt told f.number cases.List 0 bytes
    list_told h =
        ⊎_elim
        (λ by_view. from_list by_view.alike (list_costs enum_view law old new is_old is_new pair v breaks.is_message breaks.is_plain f g shared by_view))
        (λ by_number. from_list by_number.alike (list_costs by_numbers by_numbers_is_view old new is_old is_new pair v breaks.is_message breaks.is_plain f g shared by_number)) h
      where
        into : AreLike f g → (c : Choice) → IsAmong c (list_choice f g) → IsAmong c (field_choices enum_view no_bounds f g)
        into a c here = subst (IsAmong c) (sym (alike_choices enum_view f g a)) (append_right c (gap_choice enum_view f g ++ child_choice no_bounds f g) (list_choice f g) here)

        from_list : are_alike f g ≡ true → (c : Choice) × IsAmong c (list_choice f g) × (c.cost ≤ bytes) → IsToldAt told f.number cases.List 0 bytes
        from_list alike (c, here, cheap) = told_within cases.List 0 c (into (alike_parts f g alike) c here) (chosen f.number cases.List 0 (singular_cost f g) c here) cheap

  -- two that come into one oneof are told together
  both_told : (first second : ℕ) → HoldsBoth new pair first second v → AreToldAt told first second bytes
  both_told first second h = of (comparands_at first cs) (comparands_at second cs) refl refl
    where
      some : (n : ℕ) → HoldsField n v → comparands_at n cs ≡ [] → ⊥
      some n held none =
          let (c, there, at) = field_there enum_view.alike old new pair.old pair.new n v held in
          subst (IsAmong c) none (among_filter (λ (d : Comparand). nat_eq d.number n) c cs there (eq-eqb c.number n at))

      of : (xs ys : List Comparand) → comparands_at first cs ≡ xs → comparands_at second cs ≡ ys → AreToldAt told first second bytes
      of [] ys is_xs is_ys = absurd (some first h.first_held is_xs)
      of (c ∷ xs) [] is_xs is_ys = absurd (some second h.second_held is_ys)
      of (c ∷ xs) (d ∷ ys) is_xs is_ys =
          let (f, found_f) = comparand_field enum_view.alike old new is_old pair.old pair.new v breaks.is_message breaks.is_plain first c xs is_xs in
          let (e, found_e) = comparand_field enum_view.alike old new is_old pair.old pair.new v breaks.is_message breaks.is_plain second d ys is_ys in
          let is_f : f.number ≡ first = fields_are_found.1 (fields old pair.old) first f found_f in
          let is_e : e.number ≡ second = fields_are_found.1 (fields old pair.old) second e found_e in
          let own_f : field_at (fields old pair.old) f.number ≡ Some f = ap (field_at (fields old pair.old)) is_f ∙ found_f in
          let own_e : field_at (fields old pair.old) e.number ≡ Some e = ap (field_at (fields old pair.old)) is_e ∙ found_e in
          let new_g : field_at (fields new pair.new) f.number ≡ Some h.first_new = ap (field_at (fields new pair.new)) is_f ∙ h.first_found in
          let new_h : field_at (fields new pair.new) e.number ≡ Some h.second_new = ap (field_at (fields new pair.new)) is_e ∙ h.second_found in
          let rise : f.number < e.number = let r = h.rise in omega (arith, is_f, is_e, r) in
          let cf : comparands_at f.number cs ≡ c ∷ xs = ap (λ n. comparands_at n cs) is_f ∙ is_xs in
          let ce : comparands_at e.number cs ≡ d ∷ ys = ap (λ n. comparands_at n cs) is_e ∙ is_ys in
          let meets : Meets enum_view.alike old new is_old pair.old pair.new v breaks.is_message breaks.is_plain f e =
          meeting enum_view.alike old new is_old pair.old pair.new v breaks.is_message breaks.is_plain f e h.first_new h.second_new own_f own_e new_g new_h h.one_oneof
          (not_in_old enum_view.alike old new is_old pair.old pair.new v breaks.is_message breaks.is_plain f e own_f own_e (λ same. omega (arith, rise, same)) c d xs ys cf ce) rise c d xs ys cf ce in
          let (t, in_told, both) = two_told enum_view law old new is_old is_new pair v breaks f e meets in
          let cheap = meets.cheap in
          let least = both.least in
          record {
            cause = t;
            among = in_told;
            oneof = both.oneof;
            first_among = subst (λ n. IsAmong n t.numbers) is_f both.first;
            second_among = subst (λ n. IsAmong n t.numbers) is_e both.second;
            least = omega (arith, least, cheap);
          }

pub ways_are_told : WaysAreTold
ways_are_told enum_view old new law is_old is_new pair v breaks = record {
  unlike = unlike_told enum_view law old new is_old is_new pair v breaks;
  item = item_told enum_view law old new is_old is_new pair v breaks;
  list = list_told enum_view law old new is_old is_new pair v breaks;
  entry = entry_told enum_view law old new is_old is_new pair v breaks;
  key = key_told enum_view law old new is_old is_new pair v breaks;
  value = value_told enum_view law old new is_old is_new pair v breaks;
  both = both_told enum_view law old new is_old is_new pair v breaks;
}
