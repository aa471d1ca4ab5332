-- What is read of the encoding is the message itself.
use Rattle.std.proofs.Common.{◌∙◌, ◌≤◌, ℕ, List, length, subst}
use Rattle.pg_schema.specs.Parts.{shape_of}
use Rattle.pg_dyn.specs.encoding.Encoding.{cap}
use Rattle.pg_dyn.specs.views.ViewNames.{view_named}
use Rattle.pg_pairs.proofs.lemmas.witness.BreakSteps.{lent_answers, lent_within, lent_written, unread_never}
use Rattle.pg_pairs.proofs.witness.breaking.breaks.Goals as goal

pub breaks_as_written-requires-clause-written : goal.breaks_as_written-requires-clause-written
breaks_as_written-requires-clause-written c =
    lent_written c.reads_again.ensures (shape_of c.args.graph.now.old.now) c.parts.ensures.checked.shape c.args.message.now c.in-Ok.lent c.requires (subst (λ (xs : List ℕ). length xs ≤ cap) c.in_ok-bytes.ensures.ok.0 c.in_ok-bytes.ensures.ok.1) c.as_slice-written.result.now (c.as_slice-written.ensures.value ∙ c.in_ok-bytes.ensures.ok.0) c.type_id.result c.type_id.ensures c.in-Ok.ensures.message c.in-Ok.ensures.fits.1

pub breaks_as_written-requires-clause-within : goal.breaks_as_written-requires-clause-within
breaks_as_written-requires-clause-within c =
    lent_within c.reads_again.ensures (shape_of c.args.graph.now.old.now) c.parts.ensures.checked.shape c.args.message.now c.in-Ok.lent c.requires (subst (λ (xs : List ℕ). length xs ≤ cap) c.in_ok-bytes.ensures.ok.0 c.in_ok-bytes.ensures.ok.1) c.as_slice-written.result.now (c.as_slice-written.ensures.value ∙ c.in_ok-bytes.ensures.ok.0) c.type_id.result c.type_id.ensures c.in-Ok.ensures.message c.in-Ok.ensures.fits.1

pub returns-in-Ok-clause-exact : goal.returns-in-Ok-clause-exact
returns-in-Ok-clause-exact c =
    lent_answers c.reads_again.ensures (shape_of c.args.graph.now.old.now) c.parts.ensures.checked.shape c.args.message.now c.in-Ok.lent c.requires (subst (λ (xs : List ℕ). length xs ≤ cap) c.in_ok-bytes.ensures.ok.0 c.in_ok-bytes.ensures.ok.1) c.as_slice-written.result.now (c.as_slice-written.ensures.value ∙ c.in_ok-bytes.ensures.ok.0) c.type_id.result c.type_id.ensures c.in-Ok.ensures.message c.in-Ok.ensures.fits.1
    (view_named c.args.graph.now.view c.args.graph.now.old.now c.args.graph.now.new.now) (shape_of c.args.graph.now.new.now) c.args.pair.old c.args.pair.new c.in_ok-breaks_as_written-in-Ok.field-0 c.in_ok-breaks_as_written-in-Ok.ensures

pub unreachable-requires : goal.unreachable-requires
unreachable-requires c =
    unread_never c.reads_again.ensures (shape_of c.args.graph.now.old.now) c.parts.ensures.checked.shape c.args.message.now c.requires (subst (λ (xs : List ℕ). length xs ≤ cap) c.in_ok-bytes.ensures.ok.0 c.in_ok-bytes.ensures.ok.1) c.as_slice-written.result.now (c.as_slice-written.ensures.value ∙ c.in_ok-bytes.ensures.ok.0) c.type_id.result c.type_id.ensures (c.in-Err.ensures.unread c.in_default.not-Memory)
