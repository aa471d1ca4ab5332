use Rattle.std.proofs.Common.{◌≡◌, ◌||◌, ℕ, false, get_or, length, take}
use Rattle.pg_link.specs.inner.VisibleFiles.{is_numbered}
use Rattle.pg_link.proofs.names.visible_files.mark_each.Given as goal

-- the files of the numbers so far are marked too
abbrev pub invariant-loop-number : goal.invariant-loop-number
invariant-loop-number l = record {
  same_length : length l.marks.items ≡ length l.fn.marks.items;
  so_far : (k : ℕ) → get_or l.marks.items k false ≡ (get_or l.fn.marks.items k false || is_numbered (take l.number-index l.numbers) k);
}
