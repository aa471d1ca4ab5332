use Rattle.std.proofs.Common.{◌∙◌, [], ◌∷◌, ◌++◌, ℕ, None, ap}
use Rattle.pg_schema.specs.declared.parts.service.Method.{Method}
use Rattle.pg_notes.specs.declared.note.Note.{Note}
use Rattle.pg_notes.specs.declared.note.Note.TheVariants.{MethodGone}
use Rattle.pg_notes.proofs.Going.{told_all, told_each}
use Rattle.pg_notes.proofs.services.tell_gone.Goals as goal

pub loop-index-preserved : goal.loop-index-preserved
loop-index-preserved c =
    told_each (λ (k : ℕ). MethodGone c.args.service k None ∷ []) c.args.methods.now c.loop-index.index c.args.told.now.items c.loop-index.told.items c.push.new.self.items
    c.loop-index-test.true c.loop-index.invariant (c.in_ok-push.ensures.items ∙ ap (λ (note : Note). c.loop-index.told.items ++ note ∷ []) c.gone.ensures)

pub returns : goal.returns
returns c =
    told_all (λ (at : ℕ × Method). MethodGone c.args.service at.0 None ∷ []) c.args.methods.now c.loop-index.index c.args.told.now.items c.loop-index.told.items
    c.loop-index-test.false c.loop-index.invariant
