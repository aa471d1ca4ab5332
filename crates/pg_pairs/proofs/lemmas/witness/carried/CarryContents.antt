-- What is known of the field of a choice and of the child that is given for it.
use Rattle.std.proofs.Common.{◌≡◌, ℕ, length, Option, Some, IfSome, subst, rules}
use Rattle.pg_schema.specs.declared.parts.field.Element.TheVariants as elements
use Rattle.pg_schema.specs.declared.parts.field.TypeId.{TypeId}
use Rattle.pg_schema.specs.Shape.{Shape, FieldShape, fields, field_at}
use Rattle.pg_schema.specs.ShapeRules.{ElementFits, IsField, IsShape}
use Rattle.pg_dyn.specs.message.Kept.{Kept}
use Rattle.pg_dyn.proofs.Lists.{each_at}
use Rattle.pg_dyn.proofs.PublicLaws.{fields_are_found}
use Rattle.pg_pairs.specs.declared.choices.case.Case.{Case}
use Rattle.pg_pairs.specs.declared.choices.choice.Choice.{Choice}
use Rattle.pg_pairs.specs.declared.choices.choice.Pair.{Pair}
use Rattle.pg_pairs.specs.views.EnumView.{EnumView}
use Rattle.pg_pairs.specs.views.ViewLaws.{IsEnumView}
use Rattle.pg_pairs.specs.choices.Choices.{Table, choices}
use Rattle.pg_pairs.specs.bounds.Covering.{IsAmong}
use Rattle.pg_pairs.specs.witness.Carried.{field_child, choice_child}
use Rattle.pg_pairs.specs.witness.CarriedChoices.{ChildGiven}
use Rattle.pg_pairs.specs.inner.CarriedItems.{IsChildOf, IsPlacedBy}
use Rattle.pg_pairs.proofs.lemmas.bounds.Messages.{one_found}
use Rattle.pg_pairs.proofs.lemmas.witness.Reached.{choice_known}

-- a message's type that a field has is there
pub element_there : (shape : Shape) → IsShape shape → (type : TypeId) (n : ℕ) (f : FieldShape) → field_at (fields shape type) n ≡ Some f → ElementFits (length shape) f.element
element_there shape is_shape type n f found = (each_at (IsField (length shape)) (fields shape type) n f found (fields_are_found.0 shape type is_shape).each).element_fits

-- a choice round an item is one of a field that is no map, and that of an entry is one of a map
pub placed_there : (enum_view : EnumView) (old new : Shape) (table : Table) → IsEnumView enum_view → IsShape old → IsShape new → (pair : Pair) (c : Choice) → IsAmong c (choices enum_view table old new pair) → (f : FieldShape) → field_at (fields old pair.old) c.number ≡ Some f → IsPlacedBy f.presence c.case
placed_there enum_view old new table law shape_old shape_new pair c among f found =
    let stands = (choice_known enum_view law old new shape_old shape_new table pair c among).1 in
    subst (λ (x : FieldShape). IsPlacedBy x.presence c.case) (one_found (fields old pair.old) c.number stands.field f stands.found found) stands.placed

pub child_there_is : (f g : FieldShape) (case : Case) (part : ℕ) (p : Pair) → field_child f g case part ≡ Some p → f.element ≡ elements.Message p.old
child_there_is f g case part p = search rules

-- a child that is given is a message of the field's type
pub given_is_child : (old new : Shape) (pair : Pair) (c : Choice) (f g : FieldShape) → field_at (fields old pair.old) c.number ≡ Some f → field_at (fields new pair.new) c.number ≡ Some g → (child : Option Kept) → ChildGiven old (choice_child old new pair c) child → IfSome child (IsChildOf old f.element)
given_is_child old new pair c f g found at child given = search (rules, child_there_is)
