use Rattle.std.proofs.Common.{string_bytes}
use Rattle.pg_link.proofs.lemmas.names.DeclareLaws.{package_more}
use Rattle.pg_link.proofs.names.declares.NameList.add_package.Goals as goal

pub loop-word-preserved : goal.loop-word-preserved
loop-word-preserved c =
    package_more (string_bytes c.loop-word.scope) (string_bytes c.add_package_part-in-loop-word.new.scope) c.deref-word-items.result.now c.loop-word.word-index c.word-item.result
    _ _ _ c.loop-word-test.true c.word-item.is c.in_ok-add_package_part-2.ensures.declared c.in_ok-add_package_part-2.ensures.inner c.loop-word.invariant
