use Rattle.std.proofs.lemmas.Result.{IfOk-weaker}
use Rattle.pg_schema.specs.Parts.{shape_of}
use Rattle.pg_gate.proofs.lemmas.RelayLemmas.{writes_home}
use Rattle.pg_gate.proofs.relaying.relay.Goals as goal

pub returns-clause-home : goal.returns-clause-home
returns-clause-home c =
    IfOk-weaker c.encode_ref.result _ _
    (λ again written.
    writes_home c.messages_come_home.ensures (shape_of c.args.old.now) (shape_of c.args.new.now) c.args.pair c.parts.ensures.checked.shape
    c.parts-2.ensures.checked.shape c.in_ok-message.message c.args.bytes.now again.items c.in_ok-message.ensures.message
    c.in_ok-message.ensures.fits written)
    c.encode_ref.ensures.ok
