use Rattle.std.proofs.Common.{subst}
use Rattle.pg_pairs.specs.inner.CarriedItems.{IsPlacedBy}
use Rattle.pg_pairs.proofs.witness.content.broken_content.Goals as goal

pub returns-in_ok-unlike_content-in-Unlike-clause-taken : goal.returns-in_ok-unlike_content-in-Unlike-clause-taken
returns-in_ok-unlike_content-in-Unlike-clause-taken c = λ shape element placed child. c.in_ok-unlike_content-in-Unlike.ensures.taken shape element

pub returns-in_ok-lost_items-in-List-clause-taken : goal.returns-in_ok-lost_items-in-List-clause-taken
returns-in_ok-lost_items-in-List-clause-taken c = λ shape element placed child.
    c.in_ok-lost_items-in-List.ensures.taken shape (subst (IsPlacedBy c.args.fields.now.old.now.presence) c.in-List.is placed) element
