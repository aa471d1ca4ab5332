use Rattle.std.proofs.Common.{◌∙◌, refl, sym, subst}
use Rattle.pg_link.specs.declared.error.Place.{Place}
use Rattle.pg_check.specs.admitting.BrokenParts.{IsFirstBrokenPart, IsNowhere}
use Rattle.pg_check.specs.admitting.PartErrors.{bad, first, lacking}
use Rattle.pg_check.proofs.lemmas.admitting.BrokenParts.{none_broken, reported_part}
use Rattle.pg_check.proofs.admitting.refusal_of.Goals as goal

pub returns-in-Ok-Some : goal.returns-in-Ok-Some
returns-in-Ok-Some c =
    let nowhere : Place = record { file = c.new.result; line = 0; column = 0 } in
    let is_nowhere : IsNowhere nowhere = record { file = c.new.ensures.bytes; line = refl; column = refl } in
    let named = reported_part c.args.parts.now c.in-Ok-Some.fault nowhere (sym c.in-Ok-Some.ensures ∙ c.in-Ok-Some.field-0-is) is_nowhere in
    first c.error_of.result (subst (IsFirstBrokenPart c.args.parts.now) (sym c.error_of.ensures) named) c.requires

pub returns-in-Ok-None : goal.returns-in-Ok-None
returns-in-Ok-None c =
    let nowhere : Place = record { file = c.new.result; line = 0; column = 0 } in
    bad nowhere (record { file = c.new.ensures.bytes; line = refl; column = refl })
    (none_broken c.args.parts.now (sym c.in-Ok-None.ensures ∙ c.in-Ok-None.field-0-is)) c.requires

pub returns-in-Err : goal.returns-in-Err
returns-in-Err c = lacking
