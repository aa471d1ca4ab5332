use Rattle.std.proofs.Common.{◌≡◌, ◌++◌, map, flat_map, drop}
use Rattle.pg_link.specs.names.Names.{texts}
use Rattle.pg_link.specs.inner.Made.{use_of}
use Rattle.pg_link.specs.uses.Uses.{part_uses}
use Rattle.pg_link.proofs.uses.UseList.+uses.Given as goal

-- the uses so far, and those of the parts that are left, are those of all
abbrev pub invariant-add_parts-loop-part : goal.invariant-add_parts-loop-part
invariant-add_parts-loop-part l = map use_of l.self.uses.items ++ flat_map (part_uses (texts l.scope.value.items)) (drop l.part-index l.parts) ≡ map use_of l.fn.self.uses.items ++ flat_map (part_uses (texts l.scope.value.items)) l.parts
