-- What the new type's reader makes of the encoding decides.
use Rattle.std.proofs.Common.{◌≡◌, ◌∙◌, false, Some, None, ap, sym, true≢false}
use Rattle.pg_schema.specs.Parts.{shape_of}
use Rattle.pg_dyn.specs.reading.Decoding.{dec}
use Rattle.pg_dyn.specs.encoding.Encoding.{enc}
use Rattle.pg_dyn.specs.message.Kept.{message_of, type_of}
use Rattle.pg_dyn.specs.views.ViewNames.{view_named}
use Rattle.pg_pairs.proofs.lemmas.witness.BreakSteps.{absent_keeps, answered, of_read, other_type, same_type, unread_is}
use Rattle.pg_pairs.proofs.witness.breaking.breaks_as_written.Goals.{then-ne-via-then-ne, then-ne-via-else-ne+then-not-is_plain, then-ne-via-else-ne+else-not-is_plain+then-not-has}
use Rattle.pg_pairs.proofs.witness.breaking.breaks_as_written.Goals as goal
use Rattle.pg_dyn.proofs.PublicLaws.{plain_is_kept}

pub returns-then-ne : goal.returns-then-ne
returns-then-ne c = (
  (λ e. absurd (true≢false (sym e))),
  λ k.
      elim c.then-ne.branch [
        | then-ne-via-then-ne w ↦ absurd (other_type c.type_id.result c.args.pair.old c.ne.result c.ne.ensures w.if-ne.true (c.type_id.ensures ∙ k.0))
        | then-ne-via-else-ne+then-not-is_plain w ↦
            absurd (true≢false (sym (w.is_plain.ensures.1 ((plain_is_kept c.args.message.now).1 k.1.is_plain)) ∙ w.if-not-is_plain.true))
        | then-ne-via-else-ne+else-not-is_plain+then-not-has w ↦
            absurd (true≢false (sym (absent_keeps (view_named c.args.graph.now.view c.args.graph.now.old.now c.args.graph.now.new.now) (shape_of c.args.graph.now.old.now) (shape_of c.args.graph.now.new.now) c.args.pair.old c.args.pair.new (message_of c.args.message.now) c.parts.ensures.checked.shape c.parts-2.ensures.checked.shape k.1.is_message k.1.is_plain k.1.has_encoding (λ there. true≢false (sym (w.has.ensures.1 there) ∙ w.if-not-has.true))) ∙ k.1.not_kept))
      ],
)

pub returns-in_ok-is_same_message-in-Ok : goal.returns-in_ok-is_same_message-in-Ok
returns-in_ok-is_same_message-in-Ok c =
    let found : dec (shape_of c.args.graph.now.new.now) c.args.pair.new (enc (shape_of c.args.graph.now.old.now) (type_of c.args.message.now) (message_of c.args.message.now)) ≡ Some (message_of c.in-Ok.read) =
    ap (dec (shape_of c.args.graph.now.new.now) c.args.pair.new) c.requires.written ∙ c.in-Ok.ensures.message in
    let type_is = sym c.type_id.ensures ∙ same_type c.type_id.result c.args.pair.old c.ne.result c.ne.ensures c.if-ne.false in
    answered (view_named c.args.graph.now.view c.args.graph.now.old.now c.args.graph.now.new.now) (shape_of c.args.graph.now.old.now) (shape_of c.args.graph.now.new.now) c.args.message.now c.args.pair.old c.args.pair.new c.in_ok-is_same_message-in-Ok.field-0 type_is c.requires.fits (c.is_plain.ensures.0 c.if-not-is_plain.false) c.requires.within
    (of_read (view_named c.args.graph.now.view c.args.graph.now.old.now c.args.graph.now.new.now) (shape_of c.args.graph.now.old.now) (shape_of c.args.graph.now.new.now) c.args.message.now c.args.pair.old c.args.pair.new c.in-Ok.read c.in_ok-is_same_message-in-Ok.field-0 c.in_ok-is_same_message-in-Ok.ensures c.in-Ok.ensures.fits.1 found)

pub returns-in_default : goal.returns-in_default
returns-in_default c =
    let found : dec (shape_of c.args.graph.now.new.now) c.args.pair.new (enc (shape_of c.args.graph.now.old.now) (type_of c.args.message.now) (message_of c.args.message.now)) ≡ None =
    ap (dec (shape_of c.args.graph.now.new.now) c.args.pair.new) c.requires.written ∙ c.in-Err.ensures.unread c.in_default.not-Memory in
    let type_is = sym c.type_id.ensures ∙ same_type c.type_id.result c.args.pair.old c.ne.result c.ne.ensures c.if-ne.false in
    answered (view_named c.args.graph.now.view c.args.graph.now.old.now c.args.graph.now.new.now) (shape_of c.args.graph.now.old.now) (shape_of c.args.graph.now.new.now) c.args.message.now c.args.pair.old c.args.pair.new false type_is c.requires.fits (c.is_plain.ensures.0 c.if-not-is_plain.false) c.requires.within
    (unread_is (view_named c.args.graph.now.view c.args.graph.now.old.now c.args.graph.now.new.now) (shape_of c.args.graph.now.old.now) (shape_of c.args.graph.now.new.now) (type_of c.args.message.now) c.args.pair.new (message_of c.args.message.now) found)
