use Rattle.std.proofs.Common.{◌≡◌, [], take}
use Rattle.pg_link.specs.names.Names.{texts}
use Rattle.pg_link.specs.walk.Reads.{Reads, world_of}
use Rattle.pg_link.specs.inner.Walking.{IsSound, VisitLists, entries, open_paths}
use Rattle.pg_link.proofs.lemmas.walk.ReadLaws.{IsSoFar}
use Rattle.pg_link.proofs.walk.follow_imports.Given as goal

abbrev pub invariant-loop-root : goal.invariant-loop-root
invariant-loop-root g l = record {
  sound : IsSound (world_of g.S.Sources l.fn.source l.folder (texts l.roots)) [] (entries l.walk);
  opened : open_paths l.walk ≡ [];
  lists : VisitLists [] (texts (take l.root-index l.roots)) l.walk;
  asked : IsSoFar l.folder (g.S.Sources.reads l.fn.source) (g.S.Sources.reads l.source) l.walk;
  reads : Reads g.S.Sources l.fn.source l.source 0;
}
