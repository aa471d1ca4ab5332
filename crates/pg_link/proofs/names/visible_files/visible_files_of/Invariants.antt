use Rattle.std.proofs.Common.{◌≡◌, length, map}
use Rattle.pg_link.specs.inner.VisibleFiles.{AreHanded, AreVisibleFiles}
use Rattle.pg_link.proofs.names.visible_files.visible_files_of.Given as goal

-- the files so far have their masks
abbrev pub invariant-loop-number : goal.invariant-loop-number
invariant-loop-number l = record {
  handed_length : length l.handed.items ≡ l.number;
  visible_files_length : length l.visible_files.items ≡ l.number;
  handed : AreHanded l.files.entries (map (λ m. m.items) l.handed.items);
  visible_files : AreVisibleFiles l.files.entries (map (λ m. m.items) l.visible_files.items);
}
