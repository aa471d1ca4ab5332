-- What has a fault is refused with it.
use Rattle.std.proofs.Common.{ℕ, sym, subst}
use Rattle.pg_schema.specs.Parts.{shape_of}
use Rattle.pg_schema.specs.Shape.{fields}
use Rattle.pg_dyn.specs.reading.Faults.{FirstFault, TooDeep, the_root}
use Rattle.pg_dyn.proofs.reading.decoding.decode_ref.Goals as goal

pub returns-then-limit-eq0-clause-refused : goal.returns-then-limit-eq0-clause-refused
returns-then-limit-eq0-clause-refused c =
    subst (λ (n : ℕ). FirstFault (shape_of c.args.schema.now) n (fields (shape_of c.args.schema.now) c.args.type_id) c.args.bytes.now TooDeep 0) (sym c.if-limit-eq0.true) (the_root (fields (shape_of c.args.schema.now) c.args.type_id) c.args.bytes.now)
