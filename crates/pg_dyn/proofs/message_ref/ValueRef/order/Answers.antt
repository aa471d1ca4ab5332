use Rattle.std.proofs.Common.{◌∙◌}
use Rattle.pg_dyn.specs.message_ref.Borrowed.{leaf_of}
use Rattle.pg_dyn.proofs.lemmas.message.KeyLaws.{rank_is}
use Rattle.pg_dyn.proofs.message_ref.ValueRef.order.Goals as goal

pub returns : goal.returns
returns c = c.rank.ensures ∙ rank_is (leaf_of c.args.self.now) (leaf_of c.args.other.now) c.requires
