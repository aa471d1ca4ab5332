use Rattle.std.proofs.Common.{◌≡◌, List, Some, map, take}
use Rattle.pg_link.specs.inner.Index.{names_seen}
use Rattle.pg_link.specs.inner.FoundScope.{Recalls}
use Rattle.pg_link.specs.inner.Made.{use_of}
use Rattle.pg_link.specs.inner.Indexed.{IsNumbered, declared_in}
use Rattle.pg_link.specs.names.Standing.{Standing}
use Rattle.pg_link.specs.uses.Targets.{target_in}
use Rattle.pg_link.specs.uses.Uses.{Use}
use Rattle.pg_link.proofs.uses.targets.targets_of.Given as goal

-- the uses so far have their targets
abbrev pub invariant-loop-site : goal.invariant-loop-site
invariant-loop-site l = record {
  found : (all : List Standing) → IsNumbered l.index all
      → map Some l.targets.items ≡ map (target_in (declared_in all) (names_seen l.index.names (Some l.visible.marks.now))) (map use_of (take l.site-index l.site-items));
  placed : l.places.items ≡ map (λ (u : Use). u.at) (map use_of (take l.site-index l.site-items));
  recalls : Recalls (names_seen l.index.names (Some l.visible.marks.now)) l.last;
}
