use Rattle.std.proofs.Common.{◌≡◌, ◌++◌, map, flat_map, drop}
use Rattle.pg_link.specs.names.Names.{texts}
use Rattle.pg_link.specs.inner.Made.{use_of}
use Rattle.pg_link.specs.uses.Uses.{service_part_uses}
use Rattle.pg_link.proofs.uses.UseList.add_service_parts.Given as goal

-- the uses so far, and those of the parts that are left, are those of all
abbrev pub invariant-loop-part : goal.invariant-loop-part
invariant-loop-part l = map use_of l.self.uses.items ++ flat_map (service_part_uses (texts l.scope.value.items)) (drop l.part-index l.parts) ≡ map use_of l.fn.self.uses.items ++ flat_map (service_part_uses (texts l.scope.value.items)) l.parts
