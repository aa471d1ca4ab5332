use Rattle.std.proofs.Common.{sym, subst}
use Rattle.pg_pairs.specs.gaps.TrueGaps.{IsTrueOf}
use Rattle.pg_pairs.proofs.lemmas.gaps.Gaps.{gap_table}
use Rattle.pg_pairs.proofs.gaps.scalar_gap.gap.Goals as goal

pub returns-clause-exact : goal.returns-clause-exact
returns-clause-exact c = subst (IsTrueOf c.args.old c.args.new) (sym c.in_table.ensures) (gap_table c.args.old c.args.new)
