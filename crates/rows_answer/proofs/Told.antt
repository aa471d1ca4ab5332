-- The choice of the first told cause is one of the causes.
use Rattle.std.proofs.Common.{◌≡◌, List, map, slice_get, Some, subst}
use Rattle.pg_schema.specs.Shape.{Shape}
use Rattle.pg_pairs.specs.bounds.Covering.{IsAmong}
use Rattle.pg_pairs.specs.choices.Causes.{causes}
use Rattle.pg_pairs.specs.choices.Told.{told_causes, told_of}
use Rattle.pg_pairs.specs.declared.choices.choice.Pair.{Pair}
use Rattle.pg_pairs.specs.declared.choices.told.FieldCause.{FieldCause}
use Rattle.pg_pairs.specs.laws.ToldLaws.{CausesAreTold}
use Rattle.pg_pairs.specs.views.EnumView.{EnumView}
use Rattle.pg_pairs.proofs.lemmas.graph.Reaching.{every_is_among}
use Rattle.pg_pairs.proofs.lemmas.views.NameLaws.{among_map}
use Rattle.pg_pairs.proofs.lemmas.witness.SameSteps.{each_got}

-- the choice of a told cause is a cause
pub choice_is_cause : (enum_view : EnumView) (old new : Shape) (pair : Pair) (list : List FieldCause) → CausesAreTold
    → map told_of list ≡ told_causes enum_view old new pair → (cause : FieldCause) → slice_get list 0 ≡ Some cause
    → IsAmong cause.choice (causes enum_view old new pair)
choice_is_cause enum_view old new pair list law same cause at =
    each_got (λ (t : FieldCause). IsAmong t.choice (causes enum_view old new pair)) list 0 cause
    (every_is_among (λ (t : FieldCause). IsAmong t.choice (causes enum_view old new pair)) list
    (λ t here. law.are_causes enum_view old new pair (told_of t) (subst (IsAmong (told_of t)) same (among_map told_of t list here))))
    at
