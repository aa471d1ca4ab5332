-- no content so far is a member of a oneof from there on
use Rattle.std.proofs.Common.{◌≡◌, ℕ, ◌^◌, ◌≤◌, length, take}
use Rattle.pg_schema.specs.Parts.{shape_of}
use Rattle.pg_schema.specs.Shape.{fields}
use Rattle.pg_dyn.specs.setting.ContentFaults.{members}
use Rattle.pg_dyn.proofs.oneofs.oneofs_end.Given as goal

abbrev pub invariant-loop-number : goal.invariant-loop-number
invariant-loop-number l =
    (l.end ≤ 2 ^ 32) × ((o : ℕ) → l.end ≤ o → length (members (fields (shape_of l.schema) l.type_id) o (take l.number-index l.contents)) ≡ 0)
