use Rattle.pg_schema.specs.Parts.{shape_of}
use Rattle.pg_pairs.proofs.lemmas.graph.EdgeLaws.{are_priced}
use Rattle.pg_pairs.proofs.graph.priced.Priced.new.Goals as goal

pub invariant_of-result : goal.invariant_of-result
invariant_of-result g c = record { priced = ∣ are_priced (shape_of c.args.old.now) (shape_of c.args.new.now) c.parts.ensures.checked.shape c.parts-2.ensures.checked.shape ∣₁ }
