use Rattle.std.proofs.Common.{Some, sym, ◌∙◌, ap, subst}
use Rattle.std.specs.Str.{IsUtf8}
use Rattle.pg_cert.proofs.Plain.{name_there, named_there, name_utf8}
use Rattle.pg_cert.proofs.reading.named.Goals as goal

pub returns-in-Ok-clause-there : goal.returns-in-Ok-clause-there
returns-in-Ok-clause-there c = named_there c.args.schema.now.types.items c.message.result c.in-Ok.name.now (λ id found. (c.message.ensures id).0 found)

pub returns-in-Ok-clause-found : goal.returns-in-Ok-clause-found
returns-in-Ok-clause-found c =
    λ id there is. (c.message.ensures id).1 (name_there c.args.schema.now id there ∙ ap Some (sym is ∙ sym c.in-Ok.ensures.cases.0))

pub returns-in-Err-clause-found : goal.returns-in-Err-clause-found
returns-in-Err-clause-found c = λ id there is. absurd (c.in-Err.ensures.cases.0 (subst IsUtf8 (sym is) (name_utf8 c.args.schema.now id)))
