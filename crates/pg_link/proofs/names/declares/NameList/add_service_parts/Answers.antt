use Rattle.pg_link.specs.names.Outline.{of_service_part}
use Rattle.pg_link.proofs.lemmas.names.DeclareLaws.{one_more, service_part_rest}
use Rattle.pg_link.proofs.names.declares.NameList.add_service_parts.Goals as goal

pub loop-part-preserved : goal.loop-part-preserved
loop-part-preserved c =
    one_more c.args.scope.now of_service_part (service_part_rest c.args.scope.now) c.args.parts.now c.loop-part.part-index c.part-item.result _ _ _ c.loop-part-test.true c.part-item.is
    c.in_ok-add_service_part.ensures c.loop-part.invariant
