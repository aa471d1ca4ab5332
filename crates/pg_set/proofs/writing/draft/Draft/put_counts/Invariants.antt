use Rattle.std.proofs.Common.{◌≡◌, take}
use Rattle.pg_set.specs.inner.writing.Drafts.{put}
use Rattle.pg_set.specs.writing.Items.{counts}
use Rattle.pg_set.proofs.writing.draft.Draft.put_counts.Given as goal

abbrev pub invariant-loop-value : goal.invariant-loop-value
invariant-loop-value l = l.self ≡ put l.number (counts l.number (take l.value-index l.values)) l.fn.self
