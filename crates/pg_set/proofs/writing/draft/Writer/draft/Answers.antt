use Rattle.std.proofs.Common.{ap, sym, subst, ◌∙◌}
use Rattle.pg_set.specs.inner.writing.Drafts.{IsDraft, drafted}
use Rattle.pg_set.proofs.lemmas.writing.Growing.{begun_draft, begun_is}
use Rattle.pg_set.proofs.writing.draft.Writer.draft.Goals as goal

pub invariant_of-result : goal.invariant_of-result
invariant_of-result c = subst (IsDraft c.args.type_id 0) (sym c.new.ensures.items) (begun_draft c.args.type_id 0)

pub returns : goal.returns
returns c = ap (drafted c.args.type_id 0) c.new.ensures.items ∙ begun_is c.args.type_id
