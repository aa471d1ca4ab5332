use Rattle.pg_link.specs.names.Outline.{of_enum_part}
use Rattle.pg_link.proofs.lemmas.names.DeclareLaws.{one_more, enum_part_rest}
use Rattle.pg_link.proofs.names.declares.NameList.add_enum_parts.Goals as goal

pub loop-part-preserved : goal.loop-part-preserved
loop-part-preserved c =
    one_more c.args.scope.now of_enum_part (enum_part_rest c.args.scope.now) c.args.parts.now c.loop-part.part-index c.part-item.result _ _ _ c.loop-part-test.true c.part-item.is
    c.in_ok-add_enum_part.ensures c.loop-part.invariant
