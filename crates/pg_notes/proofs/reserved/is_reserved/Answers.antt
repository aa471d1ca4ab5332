use Rattle.std.proofs.Common.{◌∙◌, List, ap}
use Rattle.pg_schema.specs.declared.parts.message_type.ReservedFields.{ReservedFields}
use Rattle.pg_notes.specs.FieldNotes.{is_reserved}
use Rattle.pg_notes.proofs.Reach.{reserved_moved}
use Rattle.pg_notes.proofs.reserved.is_reserved.Goals as goal

pub returns-then-not-is_empty : goal.returns-then-not-is_empty
returns-then-not-is_empty c =
    c.is_held.ensures ∙ (ap (λ (rs : List ReservedFields). is_reserved rs c.args.number) c.deref.ensures.value
    ∙ reserved_moved c.args.ranges.now c.args.table.now.sorted.items c.args.number c.requires.same)
