use Rattle.std.proofs.Common.{flat_map, take_all, ap, ◌∙◌}
use Rattle.pg_schema.specs.Parts.{shape_of}
use Rattle.pg_schema.specs.Shape.{fields}
use Rattle.pg_dyn.specs.views.Comparison.{records_outside}
use Rattle.pg_dyn.specs.message.KeptParts.{unknown_of}
use Rattle.pg_dyn.specs.encoding.Writing.{bytes_of}
use Rattle.pg_pairs.specs.inner.Comparing.{outside_record}
use Rattle.pg_pairs.proofs.lemmas.witness.SameMessages.{outside_all}
use Rattle.pg_pairs.proofs.witness.comparing.outside_bytes.Goals as goal

pub returns : goal.returns
returns c =
    c.loop-found.invariant
    ∙ ap (flat_map (outside_record (fields (shape_of c.args.schema.now) c.type_id-type_id.result))) (take_all c.loop-found.found-index c.unknown-unknown.result.now c.loop-found-test.false)
    ∙ outside_all (fields (shape_of c.args.schema.now) c.type_id-type_id.result) c.unknown-unknown.result.now
    ∙ ap (λ rs. bytes_of (records_outside (fields (shape_of c.args.schema.now) c.type_id-type_id.result) rs)) c.unknown-unknown.ensures
    ∙ ap (λ t. bytes_of (records_outside (fields (shape_of c.args.schema.now) t) (unknown_of c.args.message.now))) c.type_id-type_id.ensures
