-- the contents without the members among the fields so far
use Rattle.std.proofs.Common.{◌≡◌, map, take}
use Rattle.pg_schema.specs.Parts.{field_shape}
use Rattle.pg_dyn.proofs.lemmas.setting.MembersOut.{without}
use Rattle.pg_dyn.proofs.setting.oneof_siblings.remove_members.Given as goal

abbrev pub invariant-loop-other : goal.invariant-loop-other
invariant-loop-other l = l.contents.items ≡ without (field_shape l.field) (map field_shape (take l.other-index l.members)) l.fn.contents.items
