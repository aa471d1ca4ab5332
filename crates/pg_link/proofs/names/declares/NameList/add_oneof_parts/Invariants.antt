use Rattle.std.proofs.Common.{◌≡◌, ◌++◌, map, drop}
use Rattle.pg_link.specs.names.Declares.{Done, names_in}
use Rattle.pg_link.specs.names.Outline.{all_of, of_oneof_part}
use Rattle.pg_link.specs.inner.Made.{declared_of}
use Rattle.pg_link.proofs.names.declares.NameList.add_oneof_parts.Given as goal

-- the names so far, and those of the parts that are left, are those of all
abbrev pub invariant-loop-part : goal.invariant-loop-part
invariant-loop-part l = map declared_of l.self.names.items ++ names_in l.scope (all_of of_oneof_part (drop l.part-index l.parts) Done) ≡ map declared_of l.fn.self.names.items ++ names_in l.scope (all_of of_oneof_part l.parts Done)
