use Rattle.std.proofs.Common.{rules, arith, ◌≡◌, ◌<◌, length, true}
use Rattle.pg_dyn.specs.reading.Content.{same_oneof}
use Rattle.pg_pairs.proofs.lemmas.choices.OneofLinks.{other_passes}
use Rattle.pg_pairs.proofs.choices.oneof_links.other_from.Goals as goal

pub returns-then-same_oneof-clause-passes : goal.returns-then-same_oneof-clause-passes
returns-then-same_oneof-clause-passes c = λ gs n are from p.
    let inside : c.args.next < length c.args.list.now = (let out = c.if-next-list.false in omega arith) in
    let beside = c.index-list-next.result in
    let old : same_oneof c.args.field.now.oneof beside.oneof ≡ true = search rules in
    other_passes gs c.args.list.now c.args.field.now beside n c.args.next _ inside c.index-list-next.is old p (are.each c.args.next _ from inside beside c.index-list-next.is).other
