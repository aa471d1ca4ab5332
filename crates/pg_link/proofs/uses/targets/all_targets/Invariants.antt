use Rattle.std.proofs.Common.{◌≡◌, Some, map, take}
use Rattle.pg_link.specs.declared.uses.targets.FileTargets.{FileTargets}
use Rattle.pg_link.specs.uses.Targets.{file_places, file_targets}
use Rattle.pg_link.proofs.uses.targets.all_targets.Given as goal

-- the files so far have their targets
abbrev pub invariant-loop-number : goal.invariant-loop-number
invariant-loop-number l = record {
  found : map (map Some) (map (λ (f : FileTargets). f.targets.items) l.targets.items) ≡ map (file_targets l.files.entries) (take l.number l.files.entries);
  placed : map (λ (f : FileTargets). f.places.items) l.targets.items ≡ map file_places (take l.number l.files.entries);
}
