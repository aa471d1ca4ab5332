-- the oneofs below have one content at most
use Rattle.std.proofs.Common.{◌-◌, ℕ, ◌+◌, ◌<◌, ◌≤◌, length}
use Rattle.pg_schema.specs.Parts.{shape_of}
use Rattle.pg_schema.specs.Shape.{fields}
use Rattle.pg_dyn.specs.setting.ContentFaults.{members}
use Rattle.pg_dyn.proofs.oneofs.each_oneof_once.Given as goal

abbrev pub invariant-loop-first : goal.invariant-loop-first
invariant-loop-first l =
    (l.first ≤ l.end + 1024) × ((o : ℕ) → o < l.first → length (members (fields (shape_of l.schema) l.type_id) o l.contents) ≤ 1)

abbrev pub decreases-loop-first : goal.decreases-loop-first
decreases-loop-first l = l.end - l.first
