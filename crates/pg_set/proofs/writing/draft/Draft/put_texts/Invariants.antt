use Rattle.std.proofs.Common.{◌≡◌, map, take}
use Rattle.std.specs.String.{string_bytes}
use Rattle.pg_set.specs.inner.writing.Drafts.{put}
use Rattle.pg_set.specs.writing.Items.{texts}
use Rattle.pg_set.proofs.writing.draft.Draft.put_texts.Given as goal

abbrev pub invariant-loop-text : goal.invariant-loop-text
invariant-loop-text l = l.self ≡ put l.number (texts l.number (map string_bytes (take l.text-index l.texts))) l.fn.self
