use Rattle.std.proofs.Common.{◌≡◌, ◌++◌, ℕ, List, length, map, flat_map, take}
use Rattle.pg_link.specs.names.Files.{handed_on}
use Rattle.pg_link.specs.inner.Made.{line_of}
use Rattle.pg_link.specs.inner.VisibleFiles.{Marks, taken}
use Rattle.pg_link.specs.walk.Walk.{outlines}
use Rattle.pg_link.proofs.names.visible_files.add_imports.Given as goal

-- what the imports so far hand on has come
abbrev pub invariant-loop-line : goal.invariant-loop-line
invariant-loop-line l = record {
  same_length : length l.marks.items ≡ length l.fn.marks.items;
  marked : (paths : List (List ℕ)) → Marks l.files.entries paths l.fn.marks.items
      → Marks l.files.entries (paths ++ flat_map (handed_on (outlines l.files.entries)) (taken l.all (map line_of (take l.line-index l.lines)))) l.marks.items;
}
