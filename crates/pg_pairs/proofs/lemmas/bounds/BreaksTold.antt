-- A message that breaks, while none inside it does, holds the fields of a told cause, which costs no more.
use Rattle.std.proofs.Common.{◌≡◌, ℕ, ◌+◌, ◌≤◌, List, [], ◌∷◌, length, Bool, true, false, ◌||◌, if◌then◌else◌, nat_eq, Option, Some, None, ◌⊎◌, inl, inr, ⊎_elim, refl, ap, sym, ◌∙◌, subst, arith, eqb-true, eq-eqb}
use Rattle.std.specs.List.{AllByRecursion, list_any}
use Rattle.std.proofs.lemmas.Bool.{le-leb}
use Rattle.pg_schema.specs.declared.parts.field.TypeId.{TypeId}
use Rattle.pg_schema.specs.declared.parts.field.Element.{Element}
use Rattle.pg_schema.specs.declared.parts.field.Element.TheVariants as elements
use Rattle.pg_schema.specs.Shape.{Shape, FieldShape, fields, field_at}
use Rattle.pg_schema.specs.ShapeRules.{IsShape}
use Rattle.pg_dyn.specs.message.Message.{Msg, Message, ends, holds, nests}
use Rattle.pg_dyn.specs.encoding.Encoding.{cap, enc}
use Rattle.pg_dyn.specs.reading.Decoding.{Reader, dec}
use Rattle.pg_dyn.specs.laws.ByComparands.{comparands_at, is_field_kept}
use Rattle.pg_dyn.specs.views.Breaking.{Breaks}
use Rattle.pg_dyn.specs.views.Comparison.{Comparand, comparands}
use Rattle.pg_dyn.proofs.Lists.{each_weaker}
use Rattle.pg_dyn.proofs.PublicLaws.{fields_are_found}
use Rattle.pg_pairs.specs.declared.choices.case.Case.{Case}
use Rattle.pg_pairs.specs.declared.choices.case.Case.TheVariants as cases
use Rattle.pg_pairs.specs.declared.choices.choice.Choice.{Choice}
use Rattle.pg_pairs.specs.declared.choices.choice.Pair.{Pair}
use Rattle.pg_pairs.specs.views.EnumView.{EnumView}
use Rattle.pg_pairs.specs.views.ViewLaws.{IsEnumView}
use Rattle.pg_pairs.specs.bounds.Covering.{IsAmong, IsThere, children, field_children, same_pair}
use Rattle.pg_pairs.specs.choices.Choices.{Table, all_choices, choice, choice_of, choices_beside, field_choices, is_oneof, no_bounds, number_for}
use Rattle.pg_pairs.specs.choices.Costs.{least_content}
use Rattle.pg_pairs.specs.choices.Told.{Told, told_alone, told_causes}
use Rattle.pg_pairs.specs.inner.Contents.{ChildBound, IsContent}
use Rattle.pg_pairs.specs.choices.Held.{HoldsCause, HoldsField, NoneBreaksInside}
use Rattle.pg_pairs.specs.laws.FieldCosts.{IsShared}
use Rattle.pg_pairs.specs.laws.ToldLaws.{IsToldTogether}
use Rattle.pg_pairs.specs.laws.BreaksTold.{BreaksAreTold}
use Rattle.pg_pairs.proofs.lemmas.bounds.Comparands.{empty_kept}
use Rattle.pg_pairs.proofs.lemmas.bounds.LowerBound.{ClaimIn, Claims, some_breaks}
use Rattle.pg_pairs.proofs.lemmas.bounds.OneField.{contents_cost}
use Rattle.pg_pairs.proofs.lemmas.bounds.OneMessage.{Meets, total_within}
use Rattle.pg_pairs.proofs.lemmas.choices.Among.{among_each}
use Rattle.pg_pairs.proofs.lemmas.choices.Choosing.{joined_allowed}
use Rattle.pg_pairs.proofs.lemmas.choices.Meetings.{all_own, found_among}
use Rattle.pg_pairs.proofs.lemmas.choices.Offers.{each_own}
use Rattle.pg_pairs.proofs.lemmas.choices.ToldLemmas.{affordable_in, are_told, own_alone}
use Rattle.pg_pairs.proofs.lemmas.graph.Reaching.{every_is_among}

-- each choice of a field has its number
pub own_number : (enum_view : EnumView) (f g : FieldShape) → AllByRecursion (λ (c : Choice). c.number ≡ f.number) (field_choices enum_view no_bounds f g)
own_number enum_view f g = each_own (λ (c : Choice). c.number ≡ f.number) enum_view no_bounds f g (record {
  unlike = refl;
  gap = λ no_map. offered cases.Gap 0 _;
  child = λ no_map. offered cases.Child 0 _;
  list = λ no_map. offered cases.List 0 _;
  apart = λ k is. refl;
  key = λ k l is. offered cases.Map 1 _;
  value = λ k is. offered cases.Map 2 _;
  value_child = λ k is. offered cases.Map 2 _;
})
  where
    offered : (case : Case) (part : ℕ) (o : Option ℕ) → AllByRecursion (λ (c : Choice). c.number ≡ f.number) (choice_of f.number case part o)
    offered case part None = tt
    offered case part (Some n) = (refl, tt)

-- The table in which just these pairs are, none of which breaks.

abbrev pub none_of : List Pair → Table
none_of ps p = if list_any (λ q. same_pair q p) ps then Some None else None

pub none_there : (ps : List Pair) (p : Pair) (x : ℕ) → number_for (none_of ps) p ≡ Some x → ⊥
none_there ps p x h = of (list_any (λ q. same_pair q p) ps) refl
  where
    of : (b : Bool) → list_any (λ q. same_pair q p) ps ≡ b → ⊥
    of true is = let no : ◌≡◌ {A = Option ℕ} None (Some x) = (rw is at h) in cc
    of false is = let no : ◌≡◌ {A = Option ℕ} None (Some x) = (rw is at h) in cc

any_of : (ps : List Pair) (p : Pair) → IsAmong p ps → list_any (λ q. same_pair q p) ps ≡ true
any_of [] p h = absurd h
any_of (q ∷ ps) p h = ⊎_elim (λ same. rw (itself same) refl) (λ later. either (same_pair q p) (any_of ps p later)) h
  where
    itself : p ≡ q → same_pair q p ≡ true
    itself same = subst (λ r. same_pair r p ≡ true) same (rw (eq-eqb p.old.index p.old.index refl, eq-eqb p.new.index p.new.index refl) refl)

    either : (b : Bool) → list_any (λ q. same_pair q p) ps ≡ true → (b || list_any (λ q. same_pair q p) ps) ≡ true
    either true rest = refl
    either false rest = rest

pub all_there : (ps : List Pair) → AllByRecursion (IsThere (none_of ps)) ps
all_there ps = every_is_among (IsThere (none_of ps)) ps (λ p here. rw (any_of ps p here) refl)

-- content under such a table is content without bounds
unbounded : (ps : List Pair) (child : Reader) (f g : FieldShape) (cs : List Comparand) → IsContent (none_of ps) child f g cs → IsContent no_bounds child f g cs
unbounded ps child f g cs content = record {
  numbers = content.numbers;
  fits_old = content.fits_old;
  fits_new = content.fits_new;
  holds = content.holds;
  in_order = content.in_order;
  bounds = λ has. each_weaker (ChildBound (none_of ps) child f.element g.element) (ChildBound no_bounds child f.element g.element) (λ c h. none f.element g.element c h) cs (content.bounds has);
  short = content.short;
}
  where
    none : (e d : Element) (c : Comparand) → ChildBound (none_of ps) child e d c → ChildBound no_bounds child e d c
    none (elements.Message s) (elements.Message t) c h = λ bytes test w so broken. let (x, found, below) = h bytes test w so broken in absurd (none_there ps (record { old = s; new = t }) x found)
    none (elements.Message s) (elements.Scalar t) c h = tt
    none (elements.Message s) (elements.Enum t) c h = tt
    none (elements.Scalar s) d c h = tt
    none (elements.Enum s) d c h = tt

module _ (enum_view : EnumView) (law : IsEnumView enum_view) (old new : Shape) (is_old : IsShape old) (is_new : IsShape new) where
  -- where no message inside breaks, nothing is claimed of them
  pub claims_of : (ps : List Pair) (pair : Pair) (v : Message) → NoneBreaksInside enum_view old new pair v → Claims enum_view law old new is_old is_new (none_of ps) pair.old pair.new v
  claims_of ps pair (ends unknown) none = tt
  claims_of ps pair (holds number key leaf later) none = claims_of ps pair later (λ f g shared p own k child has. none f g shared p own k child (inr has))
  claims_of ps pair (nests number key child later) none = (claim, claims_of ps pair later (λ f g shared p own k m has. none f g shared p own k m (inr has)))
    where
      claim : ClaimIn enum_view law old new is_old is_new (none_of ps) pair.old pair.new number child
      claim f g s t found_old found_new has is_message is_message_new bound there is plain small broken =
          let at : f.number ≡ number = fields_are_found.1 (fields old pair.old) number f found_old in
          let shared : IsShared old new pair f g = record { old_field = ap (field_at (fields old pair.old)) at ∙ found_old; new_field = ap (field_at (fields new pair.new)) at ∙ found_new } in
          let own : IsAmong (record { old = s; new = t }) (field_children f g) = rw (has, is_message, is_message_new) (inl refl) in
          absurd (none f g shared (record { old = s; new = t }) own key child (inl (ap (λ n. record { number = n; key = key; item = Msg child }) at))
          (record { is_message = is; is_plain = plain; has_encoding = small; not_kept = broken }))

  -- what has content is held
  pub held_at : (a b : TypeId) (n : ℕ) (v : Message) → (comparands_at n (comparands enum_view.alike old new a b v) ≡ [] → ⊥) → HoldsField n v
  held_at a b n (ends unknown) some = absurd (some refl)
  held_at a b n (holds number key leaf later) some = of (nat_eq number n) refl (λ more. held_at a b n later more)
    where
      of : (t : Bool) → nat_eq number n ≡ t → ((comparands_at n (comparands enum_view.alike old new a b later) ≡ [] → ⊥) → HoldsField n later) → (number ≡ n) ⊎ HoldsField n later
      of true is again = inl (eqb-true number n is)
      of false is again = inr (again (λ none. some (rw is none)))
  held_at a b n (nests number key child later) some = of (nat_eq number n) refl (λ more. held_at a b n later more)
    where
      of : (t : Bool) → nat_eq number n ≡ t → ((comparands_at n (comparands enum_view.alike old new a b later) ≡ [] → ⊥) → HoldsField n later) → (number ≡ n) ⊎ HoldsField n later
      of true is again = inl (eqb-true number n is)
      of false is again = inr (again (λ none. some (rw is none)))

  module _ (pair : Pair) (v : Message) (breaks : Breaks enum_view.alike old new pair.old pair.new v) where
    -- a field's own choice is told
    pub own_told : (f g : FieldShape) → field_at (fields old pair.old) f.number ≡ Some f → field_at (fields new pair.new) f.number ≡ Some g → (c : Choice) → IsAmong c (field_choices enum_view no_bounds f g) → c.cost ≤ length (enc old pair.old v) → IsAmong (told_alone c) (told_causes enum_view old new pair)
    own_told f g found at c here cheap =
        let short = breaks.has_encoding in
        let beside : IsAmong c (choices_beside enum_view no_bounds f (field_at (fields new pair.new) f.number)) = subst (λ o. IsAmong c (choices_beside enum_view no_bounds f o)) (sym at) here in
        let among = affordable_in enum_view old new pair c (all_own enum_view no_bounds (fields new pair.new) (fields old pair.old) f c (found_among (fields old pair.old) f.number f found) beside) (le-leb c.cost cap (omega arith)) in
        let (t, told, by) = are_told enum_view old new pair c among in
        let alone : is_oneof c.case ≡ false = among_each (λ (d : Choice). is_oneof d.case ≡ false) c (choices_beside enum_view no_bounds f (field_at (fields new pair.new) f.number)) beside (own_alone enum_view f (field_at (fields new pair.new) f.number)) in
        subst (λ u. IsAmong u (told_causes enum_view old new pair)) (by.alone alone) told

    -- two that meet are told together
    pub two_told : (f e : FieldShape) → Meets enum_view.alike old new is_old pair.old pair.new v breaks.is_message breaks.is_plain f e → (t : Told) × IsAmong t (told_causes enum_view old new pair) × IsToldTogether (choice f.number cases.Oneof e.number (least_content f + least_content e)) t
    two_told f e m =
        let c : Choice = choice f.number cases.Oneof e.number (least_content f + least_content e) in
        let cheap = m.cheap in
        let short = breaks.has_encoding in
        let all : IsAmong c (all_choices enum_view no_bounds (fields new pair.new) (fields old pair.old)) =
        joined_allowed (λ (d : Choice). IsAmong d (all_choices enum_view no_bounds (fields new pair.new) (fields old pair.old))) enum_view no_bounds (fields new pair.new) (fields old pair.old) (fields_are_found.0 old pair.old is_old).rising
        f.number e.number f e m.first m.second m.rise m.joined (every_is_among (λ (d : Choice). IsAmong d (all_choices enum_view no_bounds (fields new pair.new) (fields old pair.old))) (all_choices enum_view no_bounds (fields new pair.new) (fields old pair.old)) (λ d here. here)) in
        let (t, told, by) = are_told enum_view old new pair c (affordable_in enum_view old new pair c all (le-leb c.cost cap (omega arith))) in
        (t, told, by.together refl)

  module _ (pair : Pair) (v : Message) (breaks : Breaks enum_view.alike old new pair.old pair.new v) (none : NoneBreaksInside enum_view old new pair v) where
    abbrev IsExplained : Type 0
    IsExplained = (t : Told) × IsAmong t (told_causes enum_view old new pair) × HoldsCause (is_oneof t.choice.case) t.numbers v × (t.choice.cost ≤ length (enc old pair.old v))

    abbrev cs : List Comparand
    cs = comparands enum_view.alike old new pair.old pair.new v

    at_field : (f g : FieldShape) → field_at (fields old pair.old) f.number ≡ Some f → field_at (fields new pair.new) f.number ≡ Some g → IsContent (none_of (children old new pair)) (dec new) f g (comparands_at f.number cs)
        → is_field_kept enum_view.alike (dec new) f g (comparands_at f.number cs) ≡ false → IsExplained
    at_field f g found at content broken =
        let (c, here, cheap) = contents_cost enum_view law no_bounds (dec new) f g (comparands_at f.number cs) (unbounded (children old new pair) (dec new) f g (comparands_at f.number cs) content) broken in
        let within = total_within enum_view.alike old new is_old pair.old pair.new v breaks.is_message breaks.is_plain f found in
        let number : c.number ≡ f.number = among_each (λ (d : Choice). d.number ≡ f.number) c (field_choices enum_view no_bounds f g) here (own_number enum_view f g) in
        let alone : is_oneof c.case ≡ false = among_each (λ (d : Choice). is_oneof d.case ≡ false) c (field_choices enum_view no_bounds f g) here (own_alone enum_view f (Some g)) in
        let held : HoldsField f.number v = held_at pair.old pair.new f.number v (λ empty. absurd (let no : true ≡ false = sym (empty_kept enum_view.alike (dec new) f g) ∙ ap (is_field_kept enum_view.alike (dec new) f g) (sym empty) ∙ broken in cc)) in (
          told_alone c,
          own_told pair v breaks f g found at c here (omega arith),
          rw alone (record { number = c.number; among = inl refl; held = subst (λ n. HoldsField n v) (sym number) held }),
          omega arith,
        )

    at_two : (f e : FieldShape) → Meets enum_view.alike old new is_old pair.old pair.new v breaks.is_message breaks.is_plain f e → IsExplained
    at_two f e m =
        let (t, told, both) = two_told pair v breaks f e m in
        let cheap = m.cheap in (
          t,
          told,
          rw both.oneof (record {
            first = f.number;
            second = e.number;
            apart = m.rise;
            first_among = both.first;
            second_among = both.second;
            first_held = held_at pair.old pair.new f.number v m.first_held;
            second_held = held_at pair.old pair.new e.number v m.second_held;
          }),
          (let least = both.least in omega arith),
        )

    pub explained : IsExplained
    explained =
        some_breaks enum_view law old new is_old is_new (none_of (children old new pair)) pair.old pair.new (all_there (children old new pair)) v breaks.is_message breaks.is_plain breaks.has_encoding
        (claims_of (children old new pair) pair v none) IsExplained at_field at_two breaks.not_kept

pub breaks_are_told : BreaksAreTold
breaks_are_told enum_view old new law is_old is_new pair v breaks none = explained enum_view law old new is_old is_new pair v breaks none
