use Rattle.std.proofs.Common.{codes, ap, sym, ◌∙◌}
use Rattle.pg_schema.specs.ScalarWords.{scalar_of}
use Rattle.pg_schema.proofs.lemmas.ScalarLetters.{none_by_s, off}
use Rattle.pg_schema.proofs.parts.field.named_by_s.Goals as goal

pub returns-in-string : goal.returns-in-string
unfolding scalar_of
returns-in-string c = λ rest is. sym (ap scalar_of c.in-string.is)

pub returns-in-sint32 : goal.returns-in-sint32
unfolding scalar_of
returns-in-sint32 c = λ rest is. sym (ap scalar_of c.in-sint32.is)

pub returns-in-sint64 : goal.returns-in-sint64
unfolding scalar_of
returns-in-sint64 c = λ rest is. sym (ap scalar_of c.in-sint64.is)

pub returns-in-sfixed32 : goal.returns-in-sfixed32
unfolding scalar_of
returns-in-sfixed32 c = λ rest is. sym (ap scalar_of c.in-sfixed32.is)

pub returns-in-sfixed64 : goal.returns-in-sfixed64
unfolding scalar_of
returns-in-sfixed64 c = λ rest is. sym (ap scalar_of c.in-sfixed64.is)

pub returns-in_default : goal.returns-in_default
returns-in_default c = λ rest is.
    let word = c.args.word.now in
    none_by_s rest
    (off word (codes "sint32") rest 115 is c.in_default.not-sint32)
    (off word (codes "sint64") rest 115 is c.in_default.not-sint64)
    (off word (codes "sfixed32") rest 115 is c.in_default.not-sfixed32)
    (off word (codes "sfixed64") rest 115 is c.in_default.not-sfixed64)
    (off word (codes "string") rest 115 is c.in_default.not-string)
    ∙ ap scalar_of (sym is)
