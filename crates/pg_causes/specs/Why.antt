-- What it means that a message breaks for a reason.
use Rattle.std.specs.Prelude.{◌≡◌, ℕ, true, false, ◌⊎◌}
use Rattle.pg_schema.specs.Shape.{FieldShape, Shape}
use Rattle.pg_dyn.specs.message.Message.{Message}
use Rattle.pg_pairs.specs.declared.choices.choice.Pair.{Pair}
use Rattle.pg_pairs.specs.choices.Ways.{BreaksInOne, HoldsBoth, HoldsMisreadItem, HoldsMisreadKey, HoldsMisreadValue, HoldsUnlike, HoldsUnlikeEntry}
use Rattle.pg_pairs.specs.views.EnumView.{EnumView}
use Rattle.pg_causes.specs.Reasons.{are_enums}
use Rattle.pg_causes.specs.declared.overview.Reason.{Reason}
use Rattle.pg_causes.specs.declared.overview.Reason.TheVariants as reasons

-- the message holds the field and another one, both of which come into one oneof of the new type
pub record HoldsAnother (new : Shape) (pair : Pair) (number : ℕ) (message : Message) : Type 0 where
  pub other : ℕ
  pub both : HoldsBoth new pair number other message ⊎ HoldsBoth new pair other number message

-- By reason: what a message holds of an old field so that it breaks beside the new field.
abbrev pub BreaksFor : EnumView → Shape → Shape → Pair → Reason → FieldShape → FieldShape → Message → Type 0
BreaksFor view old new pair reasons.Unlike f g message = HoldsUnlike f g message
BreaksFor view old new pair reasons.Value f g message =
    (are_enums f.element g.element ≡ false) × HoldsMisreadItem view.alike f g message
BreaksFor view old new pair reasons.Name f g message =
    (are_enums f.element g.element ≡ true) × HoldsMisreadItem view.alike f g message
BreaksFor view old new pair reasons.ListToOne f g message = BreaksInOne view.alike old new pair f g message
BreaksFor view old new pair reasons.Map f g message = HoldsUnlikeEntry f g message
BreaksFor view old new pair reasons.MapKey f g message = HoldsMisreadKey view.alike f g message
BreaksFor view old new pair reasons.MapValue f g message = HoldsMisreadValue view.alike f g message
BreaksFor view old new pair reasons.Oneof f g message = HoldsAnother new pair f.number message
