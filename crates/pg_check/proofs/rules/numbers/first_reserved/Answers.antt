use Rattle.std.proofs.Common.{ap, ◌∙◌}
use Rattle.pg_check.specs.inner.NumberFaults.{first_reserved}
use Rattle.pg_check.proofs.lemmas.rules.Reach.{reserved_moved}
use Rattle.pg_check.proofs.rules.numbers.first_reserved.Goals as goal

pub returns : goal.returns
returns c =
    c.first_held-place.ensures ∙ (ap (λ rs. first_reserved rs c.args.keys.now) c.deref-2.ensures.value
    ∙ reserved_moved c.args.reserved.now c.in_ok-sorted.sorted.items c.in_ok-sorted.ensures.same c.args.keys.now)
