-- The message of a cause breaks in the way of the cause, and holds nothing else.
use Rattle.std.proofs.Common.{◌≡◌, Bool, ◌⊎◌, inl, inr, refl, sym, ◌∙◌, ◌∷◌, [], true, ◌++◌, List, Option, Some, None, ap, subst, false, ℕ, ◌<◌, not, eq-eqb, option_and_then, ⊎_elim, nat_le, if◌then◌else◌, option_map, ◌||◌, ◌&&◌}
use Rattle.std.proofs.lemmas.Bool.{and_parts, and_right, cases_Bool}
use Rattle.pg_schema.specs.Shape.{fields, field_at, Shape, FieldShape, is_repeated, is_singular, is_implicit}
use Rattle.pg_schema.specs.ShapeRules.{IsShape}
use Rattle.pg_schema.specs.declared.parts.field.Element.{Element}
use Rattle.pg_schema.specs.declared.parts.field.Element.TheVariants as elements
use Rattle.pg_schema.specs.declared.parts.field.Presence.{Presence}
use Rattle.pg_schema.specs.declared.parts.field.Presence.TheVariants as presences
use Rattle.pg_schema.specs.declared.parts.field.Scalar.{Scalar}
use Rattle.pg_dyn.specs.encoding.Encoding.{cap}
use Rattle.pg_dyn.specs.message.Message.{Leaf, is_zero, Item, Message, Part, Plain, Msg, ends, holds, only, with_part}
use Rattle.pg_dyn.specs.reading.Decoding.{dec}
use Rattle.pg_dyn.specs.views.Breaking.{Breaks, is_kept}
use Rattle.pg_dyn.specs.views.Comparison.{numbers, is_zero_item, hides_zero}
use Rattle.pg_dyn.specs.word.Coding.{Form, Integer, Single, Double, Text, Raw, form, zero_leaf}
use Rattle.pg_dyn.proofs.PublicLaws.{fields_are_found, kept_by_comparands}
use Rattle.pg_pairs.specs.bounds.Covering.{IsAmong}
use Rattle.pg_pairs.specs.choices.Causes.{causes}
use Rattle.pg_pairs.specs.choices.Choices.{child_pair, number_for, choice, choice_of, unlike_cost, child_body, choices_beside, all_choices, no_bounds, field_choices, singular_cost, zero_counts, joins, is_oneof}
use Rattle.pg_pairs.specs.choices.Costs.{least_body, one_item, with_length, least_content, entry_cost}
use Rattle.pg_pairs.specs.choices.Held.{HasItem, HoldsField}
use Rattle.pg_pairs.specs.choices.Told.{meetings}
use Rattle.pg_pairs.specs.choices.Ways.{AreMaps, are_alike, are_unlike, have_like_entries, is_shown, HoldsBoth, HoldsMisreadItem, HoldsMisreadKey, HoldsMisreadValue, HoldsUnlike, HoldsUnlikeEntry, BreaksBy, IsReadAsItself}
use Rattle.pg_pairs.specs.declared.choices.case.Case.{Case}
use Rattle.pg_pairs.specs.declared.choices.case.Case.TheVariants as cases
use Rattle.pg_pairs.specs.declared.choices.choice.Choice.{Choice}
use Rattle.pg_pairs.specs.declared.choices.choice.Pair.{Pair}
use Rattle.pg_pairs.specs.gaps.Gaps.{gap_item, body_length}
use Rattle.pg_pairs.specs.gaps.Likeness.{like}
use Rattle.pg_pairs.specs.gaps.TrueGaps.{is_seen, IsGapItem, IsLeastUnseen}
use Rattle.pg_pairs.specs.laws.EdgeChildren.{among_append, append_right}
use Rattle.pg_pairs.specs.laws.ElementGaps.{IsNoMessage, FindsZeroAlike}
use Rattle.pg_pairs.specs.laws.OwnWays.{BreaksOwnWay, CausesBreakTheirWay}
use Rattle.pg_pairs.specs.views.EnumView.{EnumView, by_numbers}
use Rattle.pg_pairs.specs.views.ViewLaws.{IsEnumView}
use Rattle.pg_pairs.specs.witness.Carried.{key_of, alone, carried_field, carried_two, entry_message, unlike_message, carried_of, carried, least_leaf, least_key, least_part_of, least_part, nonzero_leaf, apart_leaf, apart_item, item_by, item_alone, lost_onto, key_alone, broken_value}
use Rattle.pg_pairs.specs.witness.CarriedChoices.{ChildReached}
use Rattle.pg_pairs.proofs.lemmas.bounds.BreaksTold.{own_number}
use Rattle.pg_pairs.proofs.lemmas.bounds.Comparands.{empty_kept}
use Rattle.pg_pairs.proofs.lemmas.bounds.Dearer.{by_numbers_is_view}
use Rattle.pg_pairs.proofs.lemmas.bounds.FieldKinds.{AreLike, alike_parts, alike_choices, map_choices_are, unlike_choices, unlike_map_choices, kind_of}
use Rattle.pg_pairs.proofs.lemmas.choices.Among.{among_each}
use Rattle.pg_pairs.proofs.lemmas.choices.Meetings.{all_own, meeting, all_split, met_two, news}
use Rattle.pg_pairs.proofs.lemmas.choices.Offers.{gap_choice, child_choice, list_choice, key_choice, value_choice, map_child_choice}
use Rattle.pg_pairs.proofs.lemmas.choices.ToldLemmas.{affordable_in, own_alone}
use Rattle.pg_pairs.proofs.lemmas.gaps.ElementGaps.{unseen_are_not_zero}
use Rattle.pg_pairs.proofs.lemmas.gaps.GapItems.{IsLeafy, gap_item_is}
use Rattle.pg_pairs.proofs.lemmas.gaps.Zeros.{zero_is_zero}
use Rattle.pg_pairs.proofs.lemmas.graph.NearPrices.{causes_are_own}
use Rattle.pg_pairs.proofs.lemmas.views.NameLaws.{filter_among}
use Rattle.pg_pairs.proofs.lemmas.witness.Reached.{choice_known, choices_carried}
use Rattle.pg_pairs.proofs.lemmas.witness.carried.CarriedItems.{gap_leafy}
use Rattle.pg_pairs.proofs.lemmas.witness.carried.CarryAlone.{shown_at}
use Rattle.pg_pairs.proofs.lemmas.witness.carried.CarryLists.{zero_in_range}

-- What a message of one part holds.

part_held : (n : ℕ) (key : Option Leaf) (item : Item) (later : Message) → HasItem n key item (with_part n key item later)
part_held n key (Plain leaf) later = inl refl
part_held n key (Msg child) later = inl refl

alone_field : (n : ℕ) (key : Option Leaf) (item : Item) → HoldsField n (alone n key item)
alone_field n key (Plain leaf) = inl refl
alone_field n key (Msg child) = inl refl

abbrev HoldsJust : ℕ → Message → Type 0
HoldsJust n v = (m : ℕ) → HoldsField m v → m ≡ n

alone_just : (n : ℕ) (key : Option Leaf) (item : Item) → HoldsJust n (alone n key item)
alone_just n key (Plain leaf) m h = ⊎_elim (λ same. sym same) (λ no. absurd no) h
alone_just n key (Msg child) m h = ⊎_elim (λ same. sym same) (λ no. absurd no) h

-- a least part, as an item
least_is : (n : ℕ) (p : Presence) (e : Element) (later : Message) → (item : Item) × (least_part_of n p e later ≡ with_part n (least_key p) item later)
least_is n p (elements.Message t) later = (Msg (ends []), refl)
least_is n p (elements.Scalar s) later = (Plain (least_leaf p (elements.Scalar s)), refl)
least_is n p (elements.Enum s) later = (Plain (least_leaf p (elements.Enum s)), refl)

least_held : (n : ℕ) (p : Presence) (e : Element) (later : Message) → HoldsField n (least_part_of n p e later)
least_held n p (elements.Message t) later = inl refl
least_held n p (elements.Scalar s) later = inl refl
least_held n p (elements.Enum s) later = inl refl

least_later : (n m : ℕ) (p : Presence) (e : Element) (later : Message) → HoldsField m later → HoldsField m (least_part_of n p e later)
least_later n m p (elements.Message t) later h = inr h
least_later n m p (elements.Scalar s) later h = inr h
least_later n m p (elements.Enum s) later h = inr h

least_just : (n m : ℕ) (p : Presence) (e : Element) (later : Message) → HoldsField m (least_part_of n p e later) → (n ≡ m) ⊎ HoldsField m later
least_just n m p (elements.Message t) later h = h
least_just n m p (elements.Scalar s) later h = h
least_just n m p (elements.Enum s) later h = h

-- An item that counts is shown.

visible : (p q : Presence) → not (is_implicit p || (is_singular p && is_singular q && is_implicit q)) ≡ true → (is_singular p && is_singular q && (is_implicit p || is_implicit q)) ≡ false
visible presences.Implicit q h = absurd (cc)
visible presences.Explicit presences.Implicit h = absurd (cc)
visible presences.Explicit presences.Explicit h = refl
visible presences.Explicit (presences.Repeated w) h = refl
visible presences.Explicit (presences.Map l) h = refl
visible (presences.Repeated w) q h = refl
visible (presences.Map k) q h = refl

nonzero_form : (x : Form) → is_zero (nonzero_leaf x) ≡ false
nonzero_form (Integer w) = refl
nonzero_form Single = refl
nonzero_form Double = refl
nonzero_form Text = refl
nonzero_form Raw = refl

nonzero_item : (e : Element) → is_zero_item (item_by nonzero_leaf e) ≡ false
nonzero_item (elements.Message t) = refl
nonzero_item (elements.Scalar s) = nonzero_form (form (elements.Scalar s))
nonzero_item (elements.Enum s) = nonzero_form (form (elements.Enum s))

unlike_way : (f g : FieldShape) → are_unlike f g ≡ true → HoldsUnlike f g (unlike_message f g) × HoldsJust f.number (unlike_message f g)
unlike_way f g unlike = of (zero_counts f g) refl
  where
    of : (b : Bool) → zero_counts f g ≡ b
        → HoldsUnlike f g (if b then least_part f (ends []) else alone f.number (least_key f.presence) (item_by nonzero_leaf f.element))
        × HoldsJust f.number (if b then least_part f (ends []) else alone f.number (least_key f.presence) (item_by nonzero_leaf f.element))
    of true is =
        let (item, same) = least_is f.number f.presence f.element (ends []) in
        let shown : not (hides_zero f g && is_zero_item item) ≡ true = ap (λ b. not (b && is_zero_item item)) (visible f.presence g.presence is) in
        subst (λ v. HoldsUnlike f g v × HoldsJust f.number v) (sym same) (
          record { unlike = unlike; key = least_key f.presence; item = item; held = part_held f.number (least_key f.presence) item (ends []); shown = shown },
          alone_just f.number (least_key f.presence) item,
        )
    of false is =
        let item : Item = item_by nonzero_leaf f.element in (
          record {
            unlike = unlike;
            key = least_key f.presence;
            item = item;
            held = part_held f.number (least_key f.presence) item (ends []);
            shown = ap not (and_right (hides_zero f g) (is_zero_item item) (nonzero_item f.element));
          },
          alone_just f.number (least_key f.presence) item,
        )

-- Zero is read as itself by numbers, and so is an empty message.

finds_zero : (e d : Element) → FindsZeroAlike numbers e d
finds_zero (elements.Enum s) (elements.Enum t) = refl
finds_zero (elements.Enum s) (elements.Scalar t) = tt
finds_zero (elements.Enum s) (elements.Message t) = tt
finds_zero (elements.Scalar s) d = tt
finds_zero (elements.Message s) d = tt

zero_itself : (e d : Element) → IsNoMessage e → IsLeafy e → like e d ≡ true → is_seen numbers e d (zero_leaf (form e)) ≡ true
zero_itself e d no_message leafy is_like =
    ⊎_elim (λ seen. seen)
    (λ unseen.
    let nonzero : is_zero (zero_leaf (form e)) ≡ false = unseen_are_not_zero numbers e d (finds_zero e d) no_message is_like (zero_leaf (form e)) (zero_in_range e leafy) unseen in
    absurd (let no : true ≡ false = sym (zero_is_zero (form e)) ∙ nonzero in cc))
    (cases_Bool (is_seen numbers e d (zero_leaf (form e))))

-- A list that is lost is of one zero or of two.
lost_by : (P : Message → Type 0) (n : ℕ) (p q : Presence) (item : Item) → is_repeated p ≡ true → is_singular q ≡ true → P (alone n None item) → P (with_part n None item (alone n None item)) → P (lost_onto n p q item)
lost_by P n (presences.Repeated true) presences.Implicit item list one once twice = once
lost_by P n (presences.Repeated true) presences.Explicit item list one once twice = once
lost_by P n (presences.Repeated false) presences.Implicit item list one once twice = once
lost_by P n (presences.Repeated false) presences.Explicit item list one once twice = twice
lost_by P n (presences.Repeated w) (presences.Repeated x) item list one once twice = absurd (cc)
lost_by P n (presences.Repeated w) (presences.Map l) item list one once twice = absurd (cc)
lost_by P n presences.Implicit q item list one once twice = absurd (cc)
lost_by P n presences.Explicit q item list one once twice = absurd (cc)
lost_by P n (presences.Map k) q item list one once twice = absurd (cc)

lists_alone : (f g : FieldShape) (cost : ℕ) → singular_cost f g ≡ Some cost → (is_repeated f.presence ≡ true) × (is_singular g.presence ≡ true)
lists_alone f g cost h = of f.presence g.presence refl refl
  where
    of : (p q : Presence) → f.presence ≡ p → g.presence ≡ q → (is_repeated f.presence ≡ true) × (is_singular g.presence ≡ true)
    of (presences.Repeated w) presences.Implicit is_f is_g = (ap is_repeated is_f, ap is_singular is_g)
    of (presences.Repeated w) presences.Explicit is_f is_g = (ap is_repeated is_f, ap is_singular is_g)
    of (presences.Repeated true) (presences.Repeated x) is_f is_g = absurd (let no = rw (is_f, is_g) at h in cc)
    of (presences.Repeated false) (presences.Repeated x) is_f is_g = absurd (let no = rw (is_f, is_g) at h in cc)
    of (presences.Repeated true) (presences.Map l) is_f is_g = absurd (let no = rw (is_f, is_g) at h in cc)
    of (presences.Repeated false) (presences.Map l) is_f is_g = absurd (let no = rw (is_f, is_g) at h in cc)
    of presences.Implicit q is_f is_g = absurd (let no = rw is_f at h in cc)
    of presences.Explicit q is_f is_g = absurd (let no = rw is_f at h in cc)
    of (presences.Map k) q is_f is_g = absurd (let no = rw is_f at h in cc)

item_once : (n : ℕ) (item : Item) (m : ℕ) (key : Option Leaf) (other : Item) → HasItem m key other (alone n None item) → other ≡ item
item_once n (Plain leaf) m key other h = ⊎_elim (λ same. ap (λ (p : Part Item). p.item) same) (λ no. absurd no) h
item_once n (Msg child) m key other h = ⊎_elim (λ same. ap (λ (p : Part Item). p.item) same) (λ no. absurd no) h

item_twice : (n : ℕ) (item : Item) (m : ℕ) (key : Option Leaf) (other : Item) → HasItem m key other (with_part n None item (alone n None item)) → other ≡ item
item_twice n (Plain leaf) m key other h = ⊎_elim (λ same. ap (λ (p : Part Item). p.item) same) (λ more. item_once n (Plain leaf) m key other more) h
item_twice n (Msg child) m key other h = ⊎_elim (λ same. ap (λ (p : Part Item). p.item) same) (λ more. item_once n (Msg child) m key other more) h

only_once : (n : ℕ) (item : Item) → only n (alone n None item) ≡ alone n None item
only_once n (Plain leaf) = rw (eq-eqb n n refl) refl
only_once n (Msg child) = rw (eq-eqb n n refl) refl

only_twice : (n : ℕ) (item : Item) → only n (with_part n None item (alone n None item)) ≡ with_part n None item (alone n None item)
only_twice n (Plain leaf) = rw (eq-eqb n n refl) refl
only_twice n (Msg child) = rw (eq-eqb n n refl) refl

twice_just : (n : ℕ) (item : Item) → HoldsJust n (with_part n None item (alone n None item))
twice_just n (Plain leaf) m h = ⊎_elim (λ same. sym same) (λ more. alone_just n None (Plain leaf) m more) h
twice_just n (Msg child) m h = ⊎_elim (λ same. sym same) (λ more. alone_just n None (Msg child) m more) h

one_of : {A : Type 0} (x y : A) → IsAmong x (y ∷ []) → x ≡ y
one_of x y h = ⊎_elim (λ same. same) (λ no. absurd no) h

childless : (e d : Element) → child_body no_bounds e d ≡ None
childless e d = of (child_pair e d) refl
  where
    of : (o : Option Pair) → child_pair e d ≡ o → option_map with_length (option_and_then (number_for no_bounds) o) ≡ None
    of None is = refl
    of (Some p) is = refl

module _ (enum_view : EnumView) (law : IsEnumView enum_view) (old new : Shape) (is_old : IsShape old) (is_new : IsShape new) (pair : Pair) where
  abbrev fs : List FieldShape
  fs = fields old pair.old

  abbrev gs : List FieldShape
  gs = fields new pair.new

  empty_fine : (p : Pair) → Breaks numbers old new p.old p.new (ends []) → ⊥
  empty_fine p breaks =
      let kept : is_kept numbers old new p.old p.new (ends []) ≡ true =
      (kept_by_comparands numbers old new p.old p.new (ends []) is_old is_new breaks.is_message breaks.is_plain breaks.has_encoding (λ g h at_g at_h sibling. inl refl)).1
      (λ f g found at. empty_kept numbers (dec new) f g) in
      let no : true ≡ false = sym kept ∙ breaks.not_kept in cc

  zero_read : (f g : FieldShape) → like f.element g.element ≡ true → IsReadAsItself numbers old new f g (item_by zero_leaf f.element)
  zero_read f g is_like = of f.element refl
    where
      of : (e : Element) → f.element ≡ e → IsReadAsItself numbers old new f g (item_by zero_leaf e)
      of (elements.Message t) is = λ p among breaks. empty_fine p breaks
      of (elements.Scalar s) is = subst (λ e. is_seen numbers e g.element (zero_leaf (form (elements.Scalar s))) ≡ true) (sym is) (zero_itself (elements.Scalar s) g.element tt tt (subst (λ e. like e g.element ≡ true) is is_like))
      of (elements.Enum s) is = subst (λ e. is_seen numbers e g.element (zero_leaf (form (elements.Enum s))) ≡ true) (sym is) (zero_itself (elements.Enum s) g.element tt tt (subst (λ e. like e g.element ≡ true) is is_like))

  -- One field's own causes.
  module _ (f g : FieldShape) (in_fs : IsAmong f fs) (found : field_at fs f.number ≡ Some f) (at : field_at gs f.number ≡ Some g) where
    carried_is : (view : EnumView) (c : Choice) → c.number ≡ f.number → is_oneof c.case ≡ false → carried view old new pair c None ≡ carried_field view f g c.case c.part None
    carried_is view c number own =
        let old_is : field_at fs c.number ≡ Some f = ap (field_at fs) number ∙ found in
        let new_is : field_at gs c.number ≡ Some g = ap (field_at gs) number ∙ at in
        (λ i. carried_of view (old_is i) (new_is i) (field_at fs c.part) c None)
        ∙ ap (λ b. if b then carried_two f (field_at fs c.part) else carried_field view f g c.case c.part None) own

    abbrev Fine : Choice → Type 0
    Fine c = BreaksBy enum_view.alike old new pair c.case c.part f g (carried_field enum_view f g c.case c.part None) × HoldsJust f.number (carried_field enum_view f g c.case c.part None)

    -- an item that isn't read as itself
    gap_fine : are_alike f g ≡ true → (c : Choice) → IsAmong c (gap_choice enum_view f g) → Fine c
    gap_fine alike c here = of (gap_item enum_view (zero_counts f g) f.element g.element) refl here
      where
        a : AreLike f g
        a = alike_parts f g alike

        of : (o : Option Leaf) → gap_item enum_view (zero_counts f g) f.element g.element ≡ o → IsAmong c (choice_of f.number cases.Gap 0 (option_map (one_item f) (option_map (body_length (form f.element)) o))) → Fine c
        of None is none = absurd none
        of (Some leaf) is some =
            let leafy = gap_leafy enum_view (zero_counts f g) f.element g.element leaf is in
            let gap : IsLeastUnseen enum_view.alike (zero_counts f g) f.element g.element leaf = subst (IsGapItem enum_view.alike (zero_counts f g) f.element g.element) is (gap_item_is enum_view law (zero_counts f g) f.element g.element leafy a.is_like) in
            let shown = shown_at f.number f.presence g.presence f.element g.element f.oneof g.oneof leaf gap.unseen.counts in
            subst Fine (sym (one_of c (choice f.number cases.Gap 0 (one_item f (body_length (form f.element) leaf))) some))
            (subst (λ o. HoldsMisreadItem enum_view.alike f g (item_alone f.number None (option_map Plain o)) × HoldsJust f.number (item_alone f.number None (option_map Plain o))) (sym is) (
              record { alike = alike; item = record { key = None; leaf = leaf; held = inl refl; shown = ap not shown.0; misread = gap.unseen.not_seen } },
              alone_just f.number None (Plain leaf),
            ))

    -- a list
    list_breaks : are_alike f g ≡ true → (c : Choice) → IsAmong c (list_choice f g) → c.number ≡ f.number → c.case ≡ cases.List → nat_le c.cost cap ≡ true → Breaks numbers old new pair.old pair.new (lost_onto f.number f.presence g.presence (item_by zero_leaf f.element))
    list_breaks alike c here number is_list cheap =
        let a = alike_parts f g alike in
        let in_field : IsAmong c (field_choices by_numbers no_bounds f g) = subst (IsAmong c) (sym (alike_choices by_numbers f g a)) (append_right c (gap_choice by_numbers f g ++ child_choice no_bounds f g) (list_choice f g) here) in
        let beside : IsAmong c (choices_beside by_numbers no_bounds f (field_at gs f.number)) = subst (λ o. IsAmong c (choices_beside by_numbers no_bounds f o)) (sym at) in_field in
        let among = affordable_in by_numbers old new pair c (all_own by_numbers no_bounds gs fs f c in_fs beside) cheap in
        let own = (causes_are_own by_numbers old new by_numbers_is_view is_old is_new pair c among).0 in
        let reached = choices_carried by_numbers old new no_bounds by_numbers_is_view is_old is_new pair c among None (subst (λ o. ChildReached by_numbers old new no_bounds o None) (sym own) tt) in
        subst (Breaks numbers old new pair.old pair.new)
        (carried_is by_numbers c number (ap is_oneof is_list) ∙ ap (λ x. carried_field by_numbers f g x c.part None) is_list) reached.0

    list_fine : are_alike f g ≡ true → (c : Choice) → nat_le c.cost cap ≡ true → IsAmong c (list_choice f g) → Fine c
    list_fine alike c cheap here = of (singular_cost f g) refl here
      where
        zero : Item
        zero = item_by zero_leaf f.element

        of : (o : Option ℕ) → singular_cost f g ≡ o → IsAmong c (choice_of f.number cases.List 0 o) → Fine c
        of None is none = absurd none
        of (Some cost) is some =
            let (list, one) = lists_alone f g cost is in
            let same = one_of c (choice f.number cases.List 0 cost) some in
            let breaks = list_breaks alike c here (ap (λ (d : Choice). d.number) same) (ap (λ (d : Choice). d.case) same) cheap in
            let whole : only f.number (lost_onto f.number f.presence g.presence zero) ≡ lost_onto f.number f.presence g.presence zero =
            lost_by (λ v. only f.number v ≡ v) f.number f.presence g.presence zero list one (only_once f.number zero) (only_twice f.number zero) in
            subst Fine (sym same) (
              inr (record {
                alike = alike;
                list = list;
                one = one;
                each = λ key item has.
                    subst (IsReadAsItself numbers old new f g)
                    (sym (lost_by (λ v. HasItem f.number key item v → item ≡ zero) f.number f.presence g.presence zero list one (item_once f.number zero f.number key item) (item_twice f.number zero f.number key item) has))
                    (zero_read f g (alike_parts f g alike).is_like);
                breaks = subst (Breaks numbers old new pair.old pair.new) (sym whole) breaks;
              }),
              lost_by (HoldsJust f.number) f.number f.presence g.presence zero list one (alone_just f.number None zero) (twice_just f.number zero),
            )

    -- maps
    abbrev entry : ℕ → Scalar → Scalar → Message
    entry part k l = entry_message enum_view f.number k l f.element g.element part None

    entry_is : (m : AreMaps f g) (part : ℕ) → carried_field enum_view f g cases.Map part None ≡ entry part m.old_key m.new_key
    entry_is m part = λ i. entry_message enum_view f.number (key_of (m.old_is i)) (key_of (m.new_is i)) f.element g.element part None

    key_fine : (m : AreMaps f g) → have_like_entries m ≡ true → (c : Choice) → IsAmong c (key_choice enum_view f m.old_key m.new_key) → Fine c
    key_fine m alike c here = of (gap_item enum_view true (elements.Scalar m.old_key) (elements.Scalar m.new_key)) refl here
      where
        k : Element
        k = elements.Scalar m.old_key

        l : Element
        l = elements.Scalar m.new_key

        of : (o : Option Leaf) → gap_item enum_view true (elements.Scalar m.old_key) (elements.Scalar m.new_key) ≡ o
            → IsAmong c (choice_of f.number cases.Map 1 (option_map (λ body. entry_cost f.number body (least_body f.element)) (option_map (body_length (form (elements.Scalar m.old_key))) o))) → Fine c
        of None is none = absurd none
        of (Some key) is some =
            let keys = (and_parts (like k l) (like f.element g.element) alike).0 in
            let gap : IsLeastUnseen enum_view.alike true (elements.Scalar m.old_key) (elements.Scalar m.new_key) key = subst (IsGapItem enum_view.alike true k l) is (gap_item_is enum_view law true k l tt keys) in
            let item : Item = item_by zero_leaf f.element in
            let same : carried_field enum_view f g cases.Map 1 None ≡ alone f.number (Some key) (item_by zero_leaf f.element) = entry_is m 1 ∙ ap (key_alone f.number f.element) is in
            subst Fine (sym (one_of c (choice f.number cases.Map 1 (entry_cost f.number (body_length (form (elements.Scalar m.old_key)) key) (least_body f.element))) some))
            (subst (λ v. HoldsMisreadKey enum_view.alike f g v × HoldsJust f.number v) (sym same) (
              record { maps = m; alike = alike; key = key; item = item; held = part_held f.number (Some key) item (ends []); misread = gap.unseen.not_seen },
              alone_just f.number (Some key) item,
            ))

    value_fine : (m : AreMaps f g) → have_like_entries m ≡ true → (c : Choice) → IsAmong c (value_choice enum_view f g) → Fine c
    value_fine m alike c here = of (gap_item enum_view true f.element g.element) refl here
      where
        of : (o : Option Leaf) → gap_item enum_view true f.element g.element ≡ o → IsAmong c (choice_of f.number cases.Map 2 (option_map (one_item f) (option_map (body_length (form f.element)) o))) → Fine c
        of None is none = absurd none
        of (Some leaf) is some =
            let values = (and_parts (like (elements.Scalar m.old_key) (elements.Scalar m.new_key)) (like f.element g.element) alike).1 in
            let leafy = gap_leafy enum_view true f.element g.element leaf is in
            let gap : IsLeastUnseen enum_view.alike true f.element g.element leaf = subst (IsGapItem enum_view.alike true f.element g.element) is (gap_item_is enum_view law true f.element g.element leafy values) in
            let key : Option Leaf = Some (zero_leaf (form (elements.Scalar m.old_key))) in
            let same : carried_field enum_view f g cases.Map 2 None ≡ holds f.number key leaf (ends []) = entry_is m 2 ∙ ap (λ o. item_alone f.number key (broken_value None o)) is in
            let shown : is_shown f g (Plain leaf) ≡ true = ap (λ p. not ((is_singular p && is_singular g.presence && (is_implicit p || is_implicit g.presence)) && is_zero leaf)) m.old_is in
            subst Fine (sym (one_of c (choice f.number cases.Map 2 (one_item f (body_length (form f.element) leaf))) some))
            (subst (λ v. HoldsMisreadValue enum_view.alike f g v × HoldsJust f.number v) (sym same) (
              record { maps = m; alike = alike; value = record { key = key; leaf = leaf; held = inl refl; shown = shown; misread = gap.unseen.not_seen } },
              alone_just f.number key (Plain leaf),
            ))

    apart_fine : (m : AreMaps f g) → have_like_entries m ≡ false → (cost : ℕ) → Fine (choice f.number cases.Map 0 cost)
    apart_fine m unlike cost =
        let key : Option Leaf = Some (apart_leaf (elements.Scalar m.old_key) (elements.Scalar m.new_key)) in
        let item : Item = apart_item f.element g.element in
        subst (λ v. HoldsUnlikeEntry f g v × HoldsJust f.number v) (sym (entry_is m 0)) (
          record { maps = m; unlike = unlike; held = alone_field f.number key item },
          alone_just f.number key item,
        )

    own_fine : (c : Choice) → IsAmong c (field_choices enum_view no_bounds f g) → nat_le c.cost cap ≡ true → Fine c
    own_fine c here cheap = ⊎_elim unlike (λ others. ⊎_elim alike maps others) (kind_of f g)
      where
        no_child : (n : ℕ) (case : Case) (part : ℕ) (price : ℕ → ℕ) → IsAmong c (choice_of n case part (option_map price (child_body no_bounds f.element g.element))) → Fine c
        no_child n case part price h = absurd (subst (λ o. IsAmong c (choice_of n case part (option_map price o))) (childless f.element g.element) h)

        unlike : are_unlike f g ≡ true → Fine c
        unlike h = subst Fine (sym (one_of c (choice f.number cases.Unlike 0 (unlike_cost f g)) (subst (IsAmong c) (unlike_choices enum_view f g h) here))) (unlike_way f g h)

        alike : are_alike f g ≡ true → Fine c
        alike h =
            ⊎_elim (λ first. ⊎_elim (gap_fine h c) (no_child f.number cases.Child 0 (one_item f)) (among_append c (gap_choice enum_view f g) (child_choice no_bounds f g) first)) (list_fine h c cheap)
            (among_append c (gap_choice enum_view f g ++ child_choice no_bounds f g) (list_choice f g) (subst (IsAmong c) (alike_choices enum_view f g (alike_parts f g h)) here))

        maps : AreMaps f g → Fine c
        maps m =
            ⊎_elim
            (λ like_entries.
            let keys = key_choice enum_view f m.old_key m.new_key in
            let values = value_choice enum_view f g in
            ⊎_elim (λ first. ⊎_elim (key_fine m like_entries c) (value_fine m like_entries c) (among_append c keys values first)) (no_child f.number cases.Map 2 (one_item f))
            (among_append c (keys ++ values) (map_child_choice no_bounds f g) (subst (IsAmong c) (map_choices_are enum_view f g m like_entries) here)))
            (λ apart. subst Fine (sym (one_of c (choice f.number cases.Map 0 (least_content f)) (subst (IsAmong c) (unlike_map_choices enum_view f g m apart) here))) (apart_fine m apart (least_content f)))
            (cases_Bool (have_like_entries m))

  abbrev Shows : Choice → Type 0
  Shows c = BreaksOwnWay enum_view old new pair c (carried enum_view old new pair c None)

  own_shows : (f g : FieldShape) → IsAmong f fs → field_at fs f.number ≡ Some f → field_at gs f.number ≡ Some g → (c : Choice) → IsAmong c (field_choices enum_view no_bounds f g) → nat_le c.cost cap ≡ true → Shows c
  own_shows f g in_fs found at c here cheap =
      let number : c.number ≡ f.number = among_each (λ (d : Choice). d.number ≡ f.number) c (field_choices enum_view no_bounds f g) here (own_number enum_view f g) in
      let own : is_oneof c.case ≡ false = among_each (λ (d : Choice). is_oneof d.case ≡ false) c (field_choices enum_view no_bounds f g) here (own_alone enum_view f (Some g)) in
      let fine = own_fine f g in_fs found at c here cheap in
      let same = carried_is f g in_fs found at enum_view c number own in
      record {
        old_field = f;
        new_field = g;
        shared = record { old_field = found; new_field = at };
        number = sym number;
        breaks = subst (BreaksBy enum_view.alike old new pair c.case c.part f g) (sym same) fine.0;
        only = λ m held. subst (λ b. IsAmong m (if b then c.number ∷ c.part ∷ [] else c.number ∷ [])) (sym own) (inl (fine.1 m (subst (HoldsField m) same held) ∙ sym number));
      }

  two_show : (a b : FieldShape) → field_at fs a.number ≡ Some a → field_at fs b.number ≡ Some b → joins gs a b ≡ true → a.number < b.number → Shows (meeting a b)
  two_show a b found_a found_b meet rise =
      let n = news gs a b meet in
      let second : Message = least_part b (ends []) in
      let same : carried enum_view old new pair (meeting a b) None ≡ least_part a (least_part b (ends [])) =
      λ i. carried_of enum_view (found_a i) (n.first_found i) (found_b i) (meeting a b) None in
      record {
        old_field = a;
        new_field = n.first;
        shared = record { old_field = found_a; new_field = n.first_found };
        number = refl;
        breaks = subst (HoldsBoth new pair a.number b.number) (sym same) (record {
          rise = rise;
          first_held = least_held a.number a.presence a.element second;
          second_held = least_later a.number b.number a.presence a.element second (least_held b.number b.presence b.element (ends []));
          first_new = n.first;
          second_new = n.second;
          first_found = n.first_found;
          second_found = n.second_found;
          one_oneof = n.one;
        });
        only = λ m held.
            ⊎_elim (λ is_a. inl (sym is_a))
            (λ later. ⊎_elim (λ is_b. inr (inl (sym is_b))) (λ no. absurd no) (least_just b.number m b.presence b.element (ends []) later))
            (least_just a.number m a.presence a.element second (subst (HoldsField m) same held));
      }

  shows : (c : Choice) → IsAmong c (causes enum_view old new pair) → Shows c
  shows c among = ⊎_elim own met (all_split enum_view no_bounds gs fs c (filtered.0))
    where
      filtered : IsAmong c (all_choices enum_view no_bounds gs fs) × (nat_le c.cost cap ≡ true)
      filtered = filter_among (λ (d : Choice). nat_le d.cost cap) c (all_choices enum_view no_bounds gs fs) among

      at_own : (f : FieldShape) → IsAmong f fs → field_at fs f.number ≡ Some f
      at_own f in_fs = among_each (λ (x : FieldShape). field_at fs x.number ≡ Some x) f fs in_fs (fields_are_found.2 fs (fields_are_found.0 old pair.old is_old).rising)

      own : (f : FieldShape) × IsAmong f fs × IsAmong c (choices_beside enum_view no_bounds f (field_at gs f.number)) → Shows c
      own (f, in_fs, beside) = of (field_at gs f.number) refl beside
        where
          of : (o : Option FieldShape) → field_at gs f.number ≡ o → IsAmong c (choices_beside enum_view no_bounds f o) → Shows c
          of None at h = absurd h
          of (Some g) at h = own_shows f g in_fs (at_own f in_fs) at c h filtered.1

      met : IsAmong c (meetings gs fs) → Shows c
      met here =
          let two = met_two gs fs c here in
          let apart = (choice_known enum_view law old new is_old is_new no_bounds pair c among).0 in
          let rise : two.first.number < two.second.number = subst (λ (d : Choice). d.number < d.part) two.is (apart (ap (λ (d : Choice). is_oneof d.case) two.is)).0 in
          subst Shows (sym two.is) (two_show two.first two.second (at_own two.first two.first_among) (at_own two.second two.second_among) two.meet rise)

pub causes_break_their_way : CausesBreakTheirWay
causes_break_their_way enum_view old new law is_old is_new = shows enum_view law old new is_old is_new
