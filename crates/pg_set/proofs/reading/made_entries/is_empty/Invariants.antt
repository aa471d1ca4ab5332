use Rattle.std.proofs.Common.{[], ◌≡◌, take, ℕ}
use Rattle.std.specs.List.{AllByRecursion}
use Rattle.pg_dyn.specs.declared.message_ref.ContentRef.{ContentRef}
use Rattle.pg_dyn.specs.message.Kept.{message_of}
use Rattle.pg_set.specs.stated.SetMessages.{items_at}
use Rattle.pg_set.proofs.reading.made_entries.is_empty.Given as goal

abbrev pub invariant-loop-content : goal.invariant-loop-content
invariant-loop-content l = AllByRecursion (λ (f : ℕ × ContentRef). items_at f.0 (message_of l.message) ≡ []) (take l.content-index l.contents)
