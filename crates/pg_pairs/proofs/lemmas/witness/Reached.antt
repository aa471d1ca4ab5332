-- Each choice of a pair is reached, by its own message, if the smaller bounds in the table are.
use Rattle.std.proofs.Common.{◌≡◌, ℕ, ◌+◌, ◌<◌, List, [], ◌∷◌, length, filter, true, false, nat_le, if◌then◌else◌, Option, Some, None, refl, ap, sym, ◌∙◌, subst, subst₂, rules}
use Rattle.std.specs.List.{AllByRecursion}
use Rattle.std.proofs.lemmas.Bool.{and_parts, leb-true, not-true}
use Rattle.pg_schema.specs.Shape.{Shape, FieldShape, fields, field_at}
use Rattle.pg_schema.specs.ShapeRules.{PresenceFits, IsField, IsShape, Rising}
use Rattle.pg_dyn.specs.message.Message.{Message}
use Rattle.pg_dyn.specs.reading.Content.{same_oneof}
use Rattle.pg_dyn.specs.encoding.Encoding.{cap}
use Rattle.pg_dyn.proofs.Lists.{each-append, each_both, each_weaker, each_at}
use Rattle.pg_pairs.specs.declared.choices.case.Case.TheVariants as cases
use Rattle.pg_pairs.specs.declared.choices.choice.Choice.{Choice}
use Rattle.pg_pairs.specs.declared.choices.choice.Pair.{Pair}
use Rattle.pg_pairs.specs.views.EnumView.{EnumView}
use Rattle.pg_pairs.specs.views.ViewLaws.{IsEnumView}
use Rattle.pg_pairs.specs.choices.Costs.{least_content}
use Rattle.pg_pairs.specs.choices.Choices.{is_oneof, Table, choice, field_choices, joins, joined_choices, choices_beside, all_choices, choices}
use Rattle.pg_pairs.specs.bounds.Covering.{IsAmong}
use Rattle.pg_pairs.specs.bounds.Laws.{ReachedBy, IsReached, ChoicesReached}
use Rattle.pg_pairs.specs.witness.Carried.{carried_field, carried_two, carried_of, carried, field_child, child_of, choice_child}
use Rattle.pg_pairs.specs.witness.CarriedChoices.{ChildReached, ChildThere, EachChildCostsLess, EachChoiceIsCarried}
use Rattle.pg_pairs.proofs.lemmas.choices.Among.{among_each}
use Rattle.pg_pairs.proofs.lemmas.choices.ChoicePlaces.{IsPlaced, placed}
use Rattle.pg_pairs.proofs.lemmas.witness.carried.CarriedFields.{IsCarried, CarriesOwn, presences_carried}
use Rattle.pg_pairs.proofs.lemmas.bounds.Messages.{one_found}
use Rattle.pg_pairs.proofs.lemmas.witness.Meeting.{reach_meeting}
use Rattle.pg_dyn.proofs.PublicLaws.{fields_are_found}

module _ (enum_view : EnumView) (law : IsEnumView enum_view) (old new : Shape) (shape_old : IsShape old) (shape_new : IsShape new) (table : Table) (pair : Pair) where
  -- two fields that meet are in order, and not in one old oneof
  abbrev pub AreApart : Choice → Type 0
  AreApart c = is_oneof c.case ≡ true →
      (c.number < c.part) × ((f e : FieldShape) → field_at (fields old pair.old) c.number ≡ Some f → field_at (fields old pair.old) c.part
      ≡ Some e → same_oneof f.oneof e.oneof ≡ false)

  -- the fields of both types that a choice is of, and of two that meet the second
  pub record Stands (c : Choice) : Type 0 where
    pub field : FieldShape
    pub beside : FieldShape
    pub found : field_at (fields old pair.old) c.number ≡ Some field
    pub at : field_at (fields new pair.new) c.number ≡ Some beside
    pub placed : IsPlaced field.presence c
    pub second : is_oneof c.case ≡ true → (e : FieldShape) × (field_at (fields old pair.old) c.part ≡ Some e)

  abbrev CarriesChoice : Choice → Type 0
  CarriesChoice c = AreApart c × Stands c
      × IsCarried enum_view law old new shape_old shape_new table pair (choice_child old new pair c)
      (carried enum_view old new pair c) c.cost

  fits_old : (n : ℕ) (x : FieldShape) → field_at (fields old pair.old) n ≡ Some x → PresenceFits x.presence x.element x.oneof
  fits_old n x found = (each_at (IsField (length old)) (fields old pair.old) n x found (fields_are_found.0 old pair.old shape_old).each).presence_fits

  fits_new : (n : ℕ) (x : FieldShape) → field_at (fields new pair.new) n ≡ Some x → PresenceFits x.presence x.element x.oneof
  fits_new n x found = (each_at (IsField (length new)) (fields new pair.new) n x found (fields_are_found.0 new pair.new shape_new).each).presence_fits

  field_carried : (f g : FieldShape) → field_at (fields old pair.old) f.number ≡ Some f → field_at (fields new pair.new) f.number ≡ Some g → AllByRecursion (CarriesOwn enum_view law old new shape_old shape_new table pair f g) (field_choices enum_view table f g)
  field_carried f g found at =
      let number : g.number ≡ f.number = fields_are_found.1 (fields new pair.new) f.number g at in
      let same : g ≡ record { number = f.number; presence = g.presence; element = g.element; oneof = g.oneof } = λ i. record { number = number i; presence = g.presence; element = g.element; oneof = g.oneof } in
      subst (λ x. AllByRecursion (CarriesOwn enum_view law old new shape_old shape_new table pair f x) (field_choices enum_view table f x)) (sym same)
      (presences_carried enum_view law old new shape_old shape_new table pair f.number f.element g.element f.oneof g.oneof f.presence g.presence found (at ∙ ap Some same) (fits_old f.number f found) (fits_new f.number g at))

  own_made : (f g : FieldShape) → field_at (fields old pair.old) f.number ≡ Some f → field_at (fields new pair.new) f.number ≡ Some g → (c : Choice) → c.number ≡ f.number → is_oneof c.case ≡ false → IsCarried enum_view law old new shape_old shape_new table pair (field_child f g c.case c.part) (carried_field enum_view f g c.case c.part) c.cost → IsCarried enum_view law old new shape_old shape_new table pair (choice_child old new pair c) (carried enum_view old new pair c) c.cost
  own_made f g found at c number single h = search rules

  abbrev IsOwn : FieldShape → FieldShape → Choice → Type 0
  IsOwn f g c = CarriesOwn enum_view law old new shape_old shape_new table pair f g c × IsPlaced f.presence c

  own_carried : (f g : FieldShape) → field_at (fields old pair.old) f.number ≡ Some f → field_at (fields new pair.new) f.number ≡ Some g → (c : Choice) → IsOwn f g c → CarriesChoice c
  own_carried f g found at c ((number, single, h), is_placed) = search (rules, own_made, placed)

  own_each : (f g : FieldShape) → field_at (fields old pair.old) f.number ≡ Some f → field_at (fields new pair.new) f.number ≡ Some g → AllByRecursion (IsOwn f g) (field_choices enum_view table f g)
  own_each f g found at = search (rules, each_both, field_carried, placed)

  beside_carried : (f : FieldShape) → field_at (fields old pair.old) f.number ≡ Some f → AllByRecursion CarriesChoice (choices_beside enum_view table f (field_at (fields new pair.new) f.number))
  beside_carried f found = search (rules, each_weaker, own_carried, own_each)

  -- two fields in one new oneof
  record Meet (a b : FieldShape) : Type 0 where
    first : FieldShape
    second : FieldShape
    at_first : field_at (fields new pair.new) a.number ≡ Some first
    at_second : field_at (fields new pair.new) b.number ≡ Some second
    one : same_oneof first.oneof second.oneof ≡ true
    not_old : same_oneof a.oneof b.oneof ≡ false

  meet : (a b : FieldShape) → joins (fields new pair.new) a b ≡ true → Meet a b
  meet a b h = search (rules, and_parts, not-true)

  meeting_carried : (a b : FieldShape) → field_at (fields old pair.old) a.number ≡ Some a → field_at (fields old pair.old) b.number ≡ Some b → joins (fields new pair.new) a b ≡ true → a.number < b.number → CarriesChoice (choice a.number cases.Oneof b.number (least_content a + least_content b))
  meeting_carried a b found_a found_b h below = (apart, stands, made)
    where
      m : Meet a b
      m = meet a b h

      c : Choice
      c = choice a.number cases.Oneof b.number (least_content a + least_content b)

      apart : AreApart c
      apart six = search (rules, one_found, m)

      stands : Stands c
      stands = search (rules, m, placed)

      made : IsCarried enum_view law old new shape_old shape_new table pair (choice_child old new pair c) (carried enum_view old new pair c) c.cost
      made small =
          subst₂ (λ x y. ChildThere table (child_of x y c) c.cost × ((child : Option Message) → ChildReached enum_view old new table (child_of x y c) child → ReachedBy enum_view old new pair (carried_of enum_view x y (field_at (fields old pair.old) b.number) c child) c.cost)) (sym found_a) (sym m.at_first) (
            tt,
            λ child none.
                subst (λ z. ReachedBy enum_view old new pair (carried_two a z) (least_content a + least_content b)) (sym found_b)
                (reach_meeting enum_view old new shape_old shape_new pair a b m.first m.second found_a found_b m.at_first m.at_second m.one m.not_old below small),
          )

  joined_carried : (a : FieldShape) → field_at (fields old pair.old) a.number ≡ Some a → (later : List FieldShape) → AllByRecursion (λ x. field_at (fields old pair.old) x.number ≡ Some x) later → AllByRecursion (λ x. a.number < x.number) later → AllByRecursion CarriesChoice (joined_choices (fields new pair.new) a later)
  joined_carried a found [] each below = tt
  joined_carried a found (b ∷ later) each below =
      each-append CarriesChoice (if joins (fields new pair.new) a b then choice a.number cases.Oneof b.number (least_content a + least_content b) ∷ [] else []) (joined_choices (fields new pair.new) a later)
      (elim (joins (fields new pair.new) a b) as (λ c. joins (fields new pair.new) a b ≡ c → AllByRecursion CarriesChoice (if c then choice a.number cases.Oneof b.number (least_content a + least_content b) ∷ [] else [])) [
        | true ↦ λ h. (meeting_carried a b found each.0 h below.0, tt)
        | false ↦ λ h. tt
      ] refl)
      (joined_carried a found later each.1 below.1)

  all_carried : (later : List FieldShape) → AllByRecursion (λ x. field_at (fields old pair.old) x.number ≡ Some x) later → Rising later → AllByRecursion CarriesChoice (all_choices enum_view table (fields new pair.new) later)
  all_carried [] each rising = tt
  all_carried (f ∷ later) each rising =
      search (rules, all_carried later each.1 rising.1, each-append, beside_carried, joined_carried)

  -- what is known of a choice that an encoding may have
  abbrev Known : Choice → Type 0
  Known c = AreApart c × Stands c × ChildThere table (choice_child old new pair c) c.cost
      × ((child : Option Message) → ChildReached enum_view old new table (choice_child old new pair c) child →
      ReachedBy enum_view old new pair (carried enum_view old new pair c child) c.cost)

  kept_each : (cs : List Choice) → AllByRecursion CarriesChoice cs → AllByRecursion Known (filter (λ (c : Choice). nat_le c.cost cap) cs)
  kept_each [] h = tt
  kept_each (c ∷ cs) h = search (rules, kept_each cs h.1, leb-true)

  pub choice_known : (c : Choice) → IsAmong c (choices enum_view table old new pair) → Known c
  choice_known c among =
      among_each Known c (choices enum_view table old new pair) among
      (kept_each (all_choices enum_view table (fields new pair.new) (fields old pair.old))
      (all_carried (fields old pair.old) (fields_are_found.2 (fields old pair.old) (fields_are_found.0 old pair.old shape_old).rising) (fields_are_found.0 old pair.old shape_old).rising))

  -- the child that a smaller bound in the table gives
  child_given : (wanted : Option Pair) (cost : ℕ) → ChildThere table wanted cost → ((p : Pair) (x : ℕ) → table p ≡ Some (Some x) → x < cost → IsReached enum_view old new p x) → (child : Option Message) × ChildReached enum_view old new table wanted child
  child_given None cost there smaller = (None, tt)
  child_given (Some p) cost (x, at, less) smaller = let (m, reached) = smaller p x at less in (Some m, (x, at, reached))

  pub choice_reached : (c : Choice) → IsAmong c (choices enum_view table old new pair) → ((p : Pair) (x : ℕ) → table p ≡ Some (Some x) → x < c.cost → IsReached enum_view old new p x) → IsReached enum_view old new pair c.cost
  choice_reached c among smaller =
      let (apart, stands, there, made) = choice_known c among in
      let (child, reached) = child_given (choice_child old new pair c) c.cost there smaller in
      (carried enum_view old new pair c child, made child reached)

pub choices_reached : (enum_view : EnumView) (old new : Shape) (table : Table) → IsEnumView enum_view → IsShape old → IsShape new → ChoicesReached enum_view old new table
choices_reached enum_view old new table law shape_old shape_new pair c among = choice_reached enum_view law old new shape_old shape_new table pair c among

pub choices_carried : EachChoiceIsCarried
choices_carried enum_view old new table law shape_old shape_new pair c among = (choice_known enum_view law old new shape_old shape_new table pair c among).3

pub child_costs_less : EachChildCostsLess
child_costs_less enum_view old new table law shape_old shape_new pair c among = (choice_known enum_view law old new shape_old shape_new table pair c among).2
