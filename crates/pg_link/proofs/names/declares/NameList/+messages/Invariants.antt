use Rattle.std.proofs.Common.{◌≡◌, ◌++◌, map, drop}
use Rattle.pg_link.specs.names.Declares.{Done, names_in}
use Rattle.pg_link.specs.names.Outline.{all_of, of_part}
use Rattle.pg_link.specs.inner.Made.{declared_of}
use Rattle.pg_link.proofs.names.declares.NameList.+messages.Given as goal

-- the names so far, and those of the parts that are left, are those of all
abbrev pub invariant-add_parts-loop-part : goal.invariant-add_parts-loop-part
invariant-add_parts-loop-part l = map declared_of l.self.names.items ++ names_in l.scope (all_of of_part (drop l.part-index l.parts) Done) ≡ map declared_of l.fn.self.names.items ++ names_in l.scope (all_of of_part l.parts Done)
