use Rattle.std.proofs.Common.{◌≡◌, ◌∙◌, false, sym}
use Rattle.std.specs.BTreeSet.{contains}
use Rattle.std.specs.Ordering.{nat_cmp}
use Rattle.pg_check.proofs.lemmas.admitting.PartMembers.{none_there}
use Rattle.pg_check.proofs.admitting.oneof_members.are_all_among.Goals as goal

pub returns-then-not-contains : goal.returns-then-not-contains
returns-then-not-contains c = λ fields set.
    let k = c.loop-place.place-counter in
    let lacks : contains nat_cmp c.args.places.now k ≡ false = sym c.if-not-contains.ensures in
    sym (none_there c.args.oneofs k fields c.loop-place-test.true (sym (set k) ∙ lacks))
