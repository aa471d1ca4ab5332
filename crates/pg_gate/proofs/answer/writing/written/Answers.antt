use Rattle.std.proofs.Common.{◌≡◌, refl, rules}
use Rattle.pg_fds.specs.declared.error.FdsError.TheVariants as sets
use Rattle.pg_call.specs.Paths.{paths_in}
use Rattle.pg_gate.specs.inner.Sources.{world_of}
use Rattle.pg_gate.proofs.lemmas.answer.SetLemmas.{unwritten}
use Rattle.pg_gate.proofs.answer.writing.written.Goals as goal

pub returns-clause-refused : goal.returns-clause-refused
returns-clause-refused g c =
    let w = world_of g.S.Sources c.args.source.now (paths_in c.args.files.now) in
    let other : c.in-Err.error ≡ sets.Memory → ⊥ = search rules in
    (refl, unwritten w c.in_ok-schema.field-0.schema c.in_ok-schema.ensures.compiled c.in-Err.error other c.in-Err.ensures.err)
