use Rattle.std.proofs.Common.{◌≡◌, take}
use Rattle.pg_set.specs.inner.writing.Drafts.{put}
use Rattle.pg_set.specs.writing.Items.{children}
use Rattle.pg_set.proofs.writing.draft.Draft.put_children.Given as goal

abbrev pub invariant-loop-body : goal.invariant-loop-body
invariant-loop-body l = l.self ≡ put l.number (children l.number (take l.body-index l.fn.children.items)) l.fn.self
