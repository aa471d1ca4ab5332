use Rattle.std.proofs.Common.{◌≡◌, ◌++◌, ◌-◌, List, suc, length, slice_index_or}
use Rattle.pg_schema.specs.declared.parts.field.Field.{Field}
use Rattle.pg_schema.specs.Parts.{field_shape}
use Rattle.pg_schema.specs.Shape.{FieldShape}
use Rattle.pg_pairs.specs.choices.Choices.{affordable}
use Rattle.pg_pairs.specs.inner.OneofLinks.{AreLinks, joined_from}
use Rattle.pg_pairs.proofs.lemmas.choices.OneofLinks.{Follows}
use Rattle.pg_pairs.proofs.choices.meeting.offer_joined.Given as goal

abbrev pub decreases-loop-later : goal.decreases-loop-later
decreases-loop-later l = length l.list - l.later

abbrev pub invariant-loop-later : goal.invariant-loop-later
invariant-loop-later l =
    (gs : List FieldShape) → AreLinks gs l.list 0 l.links → (f : Field) → f ≡ slice_index_or l.list l.at f →
    Follows gs l.list (field_shape f)
    (l.fn.choices.items ++ affordable (joined_from gs (field_shape f) l.list (suc l.at))) l.choices.items l.later
