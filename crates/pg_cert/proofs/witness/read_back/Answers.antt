use Rattle.std.proofs.Common.{◌∙◌, sym, true≢false}
use Rattle.pg_schema.specs.Parts.{shape_of}
use Rattle.pg_cert.proofs.WitnessSteps.{no_type, not_plain}
use Rattle.pg_cert.proofs.witness.read_back.Goals as goal

pub returns-then-not-has : goal.returns-then-not-has
returns-then-not-has c = no_type (shape_of c.args.old.now) c.args.root c.args.bytes.now (λ there. true≢false (sym (c.has.ensures.1 there) ∙ c.if-not-has.true)) c.requires

pub returns-then-not-is_plain : goal.returns-then-not-is_plain
returns-then-not-is_plain c =
    not_plain (shape_of c.args.old.now) c.args.root c.args.bytes.now c.reads_again.ensures c.parts.ensures.checked.shape c.in-Ok.message c.in-Ok.ensures.message
    (λ plain. true≢false (sym (c.is_plain.ensures.1 plain) ∙ c.if-not-is_plain.true))
