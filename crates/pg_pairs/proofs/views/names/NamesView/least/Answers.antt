use Rattle.std.proofs.Common.{subst, sym}
use Rattle.pg_dyn.specs.declared.view_name.ViewName.TheVariants as views
use Rattle.pg_dyn.specs.views.ViewNames.{alike_under, named_numbers}
use Rattle.pg_pairs.specs.views.ViewLaws.{IsLeastOf}
use Rattle.pg_pairs.proofs.lemmas.views.LeastByName.{least_both_ways}
use Rattle.pg_pairs.proofs.lemmas.views.NamedViews.{least_is_shortest}
use Rattle.pg_pairs.proofs.views.names.NamesView.least.Goals as goal

pub returns-clause-equal : goal.returns-clause-equal
returns-clause-equal c = let e = least_both_ways c.args.zero (named_numbers c.args.old.now) (named_numbers c.args.new.now) in cc

pub returns-clause-shortest : goal.returns-clause-shortest
returns-clause-shortest c =
    subst (IsLeastOf (alike_under views.Names c.args.old.now c.args.new.now) c.args.zero) (sym (returns-clause-equal c)) (least_is_shortest views.Names c.args.old.now c.args.new.now c.args.zero)
