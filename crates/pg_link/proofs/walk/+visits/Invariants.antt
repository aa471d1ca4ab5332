use Rattle.std.proofs.Common.{◌≡◌, ◌-◌, ◌+◌, ◌*◌, ℕ, List, take, length, map, string_bytes}
use Rattle.pg_link.specs.names.Files.{Differ}
use Rattle.pg_link.specs.walk.Reads.{Reads, world_of}
use Rattle.pg_link.specs.inner.Walking.{IsSound, Imports, Extends, ReadsAll, VisitLists, entries, listed_paths, open_paths}
use Rattle.pg_link.proofs.lemmas.walk.WalkLaws.{line_path}
use Rattle.pg_link.proofs.walk.+visits.Given as goal

-- each visit that goes on reads one more file
abbrev pub decreases-visit : goal.decreases-visit
decreases-visit g l = 2 * (1024 - (length (open_paths l.walk.now) + length (entries l.walk.now)))

abbrev pub decreases-visit_imports : goal.decreases-visit_imports
decreases-visit_imports g l = 2 * (1024 - (length (open_paths l.walk.now) + length (entries l.walk.now))) + 1

abbrev pub invariant-visit_imports-lines : goal.invariant-visit_imports-lines
invariant-visit_imports-lines g l = record {
  sound : (roots : List (List ℕ)) → Imports (world_of g.S.Sources l.fn.source l.folder roots) l.fn.walk l.path l.read
      → IsSound (world_of g.S.Sources l.fn.source l.folder roots) (open_paths l.fn.walk) (entries l.walk);
  opened : open_paths l.walk ≡ open_paths l.fn.walk;
  before_is : map string_bytes l.before.keys ≡ map line_path (take l.index l.read.lines.items);
  differ : Differ (map line_path (take l.index l.read.lines.items));
  extends : Extends l.fn.walk l.walk;
  lists : VisitLists (listed_paths l.fn.walk) (map line_path (take l.index l.read.lines.items)) l.walk;
  asked : ReadsAll l.folder (g.S.Sources.reads l.fn.source) (g.S.Sources.reads l.source) l.fn.walk l.walk;
  reads : Reads g.S.Sources l.fn.source l.source 0;
}

abbrev pub decreases-visit_imports-lines : goal.decreases-visit_imports-lines
decreases-visit_imports-lines g l = length l.read.lines.items - l.index
