use Rattle.std.proofs.Common.{subst, sym}
use Rattle.pg_cert.specs.Text.{IsPairOf}
use Rattle.pg_pairs.specs.declared.choices.choice.Pair.{Pair}
use Rattle.pg_gate.proofs.answer.dispatch.reported.Goals as goal

pub explained-requires : goal.explained-requires
explained-requires c = subst (λ (pair : Pair). IsPairOf c.args.old.now.schema c.args.new.now.schema pair) (sym c.root.ensures.root) c.requires.claim.root
