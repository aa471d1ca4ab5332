-- Each message that breaks has a reason, and that of a cause has the cause's.
use Rattle.std.proofs.Common.{◌≡◌, ◌∙◌, ℕ, nat_eq, List, [], ◌∷◌, map, Bool, true, false, if◌then◌else◌, Some, inl, ⊎_elim, refl, ap, sym, subst}
use Rattle.std.specs.List.{AllByRecursion, flat_map}
use Rattle.std.proofs.lemmas.Bool.{cases_Bool}
use Rattle.pg_schema.specs.declared.parts.Parts.{Parts}
use Rattle.pg_schema.specs.Parts.{shape_of}
use Rattle.pg_schema.specs.Shape.{FieldShape, Shape, field_at, fields}
use Rattle.pg_schema.specs.ShapeRules.{IsShape}
use Rattle.pg_dyn.specs.message.Message.{Message}
use Rattle.pg_pairs.specs.declared.choices.case.Case.{Case}
use Rattle.pg_pairs.specs.declared.choices.case.Case.TheVariants as cases
use Rattle.pg_pairs.specs.declared.choices.choice.Pair.{Pair}
use Rattle.pg_pairs.specs.bounds.Covering.{IsAmong}
use Rattle.pg_pairs.specs.choices.Causes.{causes}
use Rattle.pg_pairs.specs.choices.Choices.{is_oneof}
use Rattle.pg_pairs.specs.choices.Ways.{BreaksAsEntry, BreaksBy}
use Rattle.pg_pairs.specs.laws.OwnWays.{BreaksOwnWay, CausesBreakTheirWay}
use Rattle.pg_pairs.specs.laws.ToldLaws.{CausesAreTold}
use Rattle.pg_pairs.specs.laws.WaysCover.{WaysCover}
use Rattle.pg_pairs.specs.views.EnumView.{EnumView}
use Rattle.pg_pairs.specs.views.ViewLaws.{IsEnumView}
use Rattle.pg_pairs.proofs.lemmas.graph.Reaching.{every_is_among}
use Rattle.pg_causes.specs.Causes.{EachBreakHasReason, IsCause, ShowsItsReason, ToldIn, causes_at, shown_by, told_in}
use Rattle.pg_causes.specs.Reasons.{are_enums, are_of_enums, item_reason, reason_by}
use Rattle.pg_causes.specs.Why.{BreaksFor}
use Rattle.pg_causes.specs.declared.overview.Cause.{Cause}
use Rattle.pg_causes.specs.declared.overview.Reason.TheVariants as reasons
use Rattle.pg_causes.proofs.Told.{IsOf, cause_of, is_of}

-- the way of a case and a part is its reason
module _ (view : EnumView) (old new : Shape) (pair : Pair) (f g : FieldShape) (message : Message) where
  way_is_reason : (case : Case) (part : ℕ) → BreaksBy view.alike old new pair case part f g message → BreaksFor view old new pair (reason_by (are_enums f.element g.element) case part) f g message
  way_is_reason cases.Unlike part h = h
  way_is_reason cases.Gap part h = of (are_enums f.element g.element) refl
    where
      of : (b : Bool) → are_enums f.element g.element ≡ b → BreaksFor view old new pair (item_reason b) f g message
      of true is = (is, h)
      of false is = (is, h)
  way_is_reason cases.Child part h = absurd h
  way_is_reason cases.List part h = h
  way_is_reason cases.Map part h = of (nat_eq part 1) (nat_eq part 2) h
    where
      of : (is_key is_value : Bool) → BreaksAsEntry is_key is_value view.alike f g message → BreaksFor view old new pair (if is_key then reasons.MapKey else if is_value then reasons.MapValue else reasons.Map) f g message
      of true is_value key = key
      of false true value = value
      of false false entry = entry
  way_is_reason cases.Oneof part h = record { other = part; both = inl h }

module _ (enum_view : EnumView) (old new : Parts) (law : IsEnumView enum_view) (is_old : IsShape (shape_of old)) (is_new : IsShape (shape_of new)) (pairs : List Pair) (told : List Cause)
    (are : map told_in told ≡ flat_map (causes_at enum_view (shape_of old) (shape_of new)) pairs) (each : AllByRecursion (IsCause enum_view old new) told) where
  pub each_has_reason : WaysCover → AllByRecursion (EachBreakHasReason enum_view old new) pairs
  each_has_reason cover =
      every_is_among (EachBreakHasReason enum_view old new) pairs
      (λ pair in_pairs message breaks none.
      let way = cover enum_view (shape_of old) (shape_of new) law is_old is_new pair message breaks none in
      record {
        old_field = way.old_field;
        new_field = way.new_field;
        shared = way.shared;
        reason = reason_by (are_enums way.old_field.element way.new_field.element) way.case way.part;
        breaks_for = way_is_reason enum_view (shape_of old) (shape_of new) pair way.old_field way.new_field message way.case way.part way.breaks;
      })

  module _ (causes_told : CausesAreTold) (their_way : CausesBreakTheirWay) where
    shows : (c : Cause) → IsAmong c told → ShowsItsReason enum_view old new c
    shows c among = record {
      old_field = f;
      new_field = g;
      shared = own.shared;
      field = subst (λ n. IsAmong n c.numbers.items) (sym own.number) own_fields.0;
      breaks_for = subst (λ r. BreaksFor enum_view (shape_of old) (shape_of new) c.at.pair r f g (shown_by enum_view (shape_of old) (shape_of new) c.at)) (sym reason_is)
          (way_is_reason enum_view (shape_of old) (shape_of new) c.at.pair f g (shown_by enum_view (shape_of old) (shape_of new) c.at) c.at.choice.case c.at.choice.part own.breaks);
      only = own.only;
      own = ⊎_elim
          (λ two. subst (λ b. AllByRecursion (λ n. IsAmong n c.numbers.items) (if b then c.at.choice.number ∷ c.at.choice.part ∷ [] else c.at.choice.number ∷ [])) (sym two) (own_fields.0, (own_fields.1 two, tt)))
          (λ one. subst (λ b. AllByRecursion (λ n. IsAmong n c.numbers.items) (if b then c.at.choice.number ∷ c.at.choice.part ∷ [] else c.at.choice.number ∷ [])) (sym one) (own_fields.0, tt))
          (cases_Bool (is_oneof c.at.choice.case));
    }
      where
        of_c : IsOf enum_view old new law is_old is_new pairs told are each c
        of_c = is_of enum_view old new law is_old is_new pairs told are each c among

        in_causes : IsAmong c.at.choice (causes enum_view (shape_of old) (shape_of new) c.at.pair)
        in_causes =
            subst (λ (x : ToldIn). IsAmong x.told.choice (causes enum_view (shape_of old) (shape_of new) x.pair)) (sym of_c.same)
            (causes_told.are_causes enum_view (shape_of old) (shape_of new) of_c.pair of_c.as_told of_c.told_among)

        own_fields : IsAmong c.at.choice.number c.numbers.items × (is_oneof c.at.choice.case ≡ true → IsAmong c.at.choice.part c.numbers.items)
        own_fields =
            subst (λ (x : ToldIn). IsAmong x.told.choice.number x.told.numbers × (is_oneof x.told.choice.case ≡ true → IsAmong x.told.choice.part x.told.numbers)) (sym of_c.same)
            (causes_told.are_of_fields enum_view (shape_of old) (shape_of new) of_c.pair of_c.as_told of_c.told_among)

        own : BreaksOwnWay enum_view (shape_of old) (shape_of new) c.at.pair c.at.choice (shown_by enum_view (shape_of old) (shape_of new) c.at)
        own = their_way enum_view (shape_of old) (shape_of new) law is_old is_new c.at.pair c.at.choice in_causes

        f : FieldShape
        f = own.old_field

        g : FieldShape
        g = own.new_field

        found : field_at (fields (shape_of old) c.at.pair.old) c.at.choice.number ≡ Some f
        found = ap (field_at (fields (shape_of old) c.at.pair.old)) (sym own.number) ∙ own.shared.old_field

        at : field_at (fields (shape_of new) c.at.pair.new) c.at.choice.number ≡ Some g
        at = ap (field_at (fields (shape_of new) c.at.pair.new)) (sym own.number) ∙ own.shared.new_field

        reason_is : c.reason ≡ reason_by (are_enums f.element g.element) c.at.choice.case c.at.choice.part
        reason_is =
            (cause_of enum_view old new law is_old is_new pairs told are each c among).reason
            ∙ (λ i. reason_by (are_of_enums (found i) (at i)) c.at.choice.case c.at.choice.part)

    pub each_shown : AllByRecursion (ShowsItsReason enum_view old new) told
    each_shown = every_is_among (ShowsItsReason enum_view old new) told shows
