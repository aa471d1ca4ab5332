-- Each call goes to a part of the old message. The contents before the index are the same; of two contents the items from the index on decide.
use Rattle.std.proofs.Common.{◌≡◌, ℕ, ◌+◌, ◌-◌, ◌*◌, true, take, drop}
use Rattle.std.specs.List.{AllByRecursion}
use Rattle.pg_schema.specs.Parts.{field_shape, shape_of}
use Rattle.pg_schema.specs.Shape.{field_at, fields}
use Rattle.pg_dyn.specs.declared.message_ref.ContentRef.{ContentRef}
use Rattle.pg_dyn.specs.message.Kept.{type_of}
use Rattle.pg_dyn.specs.message.Weights.{weight}
use Rattle.pg_pairs.specs.inner.Comparing.{all_match, is_same_if, keyed}
use Rattle.pg_pairs.proofs.lemmas.witness.SameSteps.{held_weight, total}
use Rattle.pg_pairs.proofs.witness.comparing.+same.Given as goal

abbrev pub decreases-is_same_item : goal.decreases-is_same_item
decreases-is_same_item l = 8 * held_weight l.value.now

abbrev pub decreases-is_same_content : goal.decreases-is_same_content
decreases-is_same_content l = 8 * total (keyed l.content.now) + 1

abbrev pub decreases-is_same_field : goal.decreases-is_same_field
decreases-is_same_field l = 8 * weight l.message.now - 6

abbrev pub decreases-is_same_at : goal.decreases-is_same_at
decreases-is_same_at l = 8 * weight l.message.now - 5

abbrev pub decreases-is_same_other : goal.decreases-is_same_other
decreases-is_same_other l = 8 * weight l.message.now - 4

abbrev pub decreases-are_same_contents : goal.decreases-are_same_contents
decreases-are_same_contents l = 8 * weight l.message.now - 4

abbrev pub decreases-are_same_others : goal.decreases-are_same_others
decreases-are_same_others l = 8 * weight l.message.now - 3

abbrev pub decreases-is_same_message : goal.decreases-is_same_message
decreases-is_same_message l = 8 * weight l.message.now - 2

abbrev pub invariant-are_same_contents-loop-number : goal.invariant-are_same_contents-loop-number
invariant-are_same_contents-loop-number l =
    AllByRecursion (λ (c : ℕ × ContentRef). is_same_if l.graph.view l.graph.old.now l.graph.new.now l.message l.read
    (field_at (fields (shape_of l.graph.old.now) (type_of l.message)) c.0) ≡ true) (take l.number-index l.contents)

abbrev pub invariant-are_same_others-loop-number : goal.invariant-are_same_others-loop-number
invariant-are_same_others-loop-number l =
    AllByRecursion (λ (c : ℕ × ContentRef). is_same_if l.graph.view l.graph.old.now l.graph.new.now l.message l.read
    (field_at (fields (shape_of l.graph.old.now) (type_of l.message)) c.0) ≡ true) (take l.number-index l.others)

abbrev pub invariant-is_same_content-loop-at : goal.invariant-is_same_content-loop-at
invariant-is_same_content-loop-at l =
    all_match l.graph.view l.graph.old.now l.graph.new.now (field_shape l.fields.old.now) (field_shape l.fields.new.now)
    (drop l.at (keyed l.content)) (drop l.at (keyed l.read))
    ≡ all_match l.graph.view l.graph.old.now l.graph.new.now (field_shape l.fields.old.now) (field_shape l.fields.new.now)
    (keyed l.content) (keyed l.read)
