use Rattle.std.proofs.Common.{length, ap, sym, ◌∙◌, length-append}
use Rattle.pg_schema.specs.declared.parts.field.Element.TheVariants as elements
use Rattle.pg_wire.specs.Records.{written}
use Rattle.pg_dyn.specs.word.Coding.{body, scalar_form}
use Rattle.pg_dyn.specs.encoding.Lending.{leaf_lent}
use Rattle.pg_dyn.specs.encoding.Writing.{item_record}
use Rattle.pg_dyn.specs.encoding.Written.{capped}
use Rattle.pg_dyn.proofs.encoding.counting.entry_len.Goals as goal

pub returns : goal.returns
returns c = λ bytes is.
    let b = body (scalar_form c.args.key) (leaf_lent c.args.leaf) in
    let first = c.record_len-first.ensures b (c.saturated_len.ensures ∙ ap capped c.body_len.ensures)
    ∙ ap (λ w. capped (length (written 1 w b).bytes)) c.wire_type_of.ensures in
    let second = c.record_len-second.ensures bytes is in
    c.add.ensures (length (item_record 1 (elements.Scalar c.args.key) (leaf_lent c.args.leaf)).bytes) (length (written 2 c.args.wire_type bytes).bytes) first second
    ∙ ap capped (sym (length-append (item_record 1 (elements.Scalar c.args.key) (leaf_lent c.args.leaf)).bytes (written 2 c.args.wire_type bytes).bytes))
