use Rattle.std.proofs.Common.{Some, sym, ap, ◌∙◌}
use Rattle.std.proofs.lemmas.Map.Text.{hash_map_updates_text}
use Rattle.std.specs.String.{string_bytes}
use Rattle.pg_set.specs.declared.reading.outline.Named.TheVariants as nameds
use Rattle.pg_set.specs.inner.Declarations.{may_be}
use Rattle.pg_set.proofs.lemmas.outline.Declaring.{adds_one}
use Rattle.pg_set.proofs.reading.declare.declare_part.Goals as goal

pub returns-in-None-clause-adds : goal.returns-in-None-clause-adds
returns-in-None-clause-adds c =
    let key = string_bytes c.args.part in
    let step = hash_map_updates_text key c.args.names.now c.insert.new.self (Some nameds.Package) c.in_ok-insert.ensures.updates in
    adds_one key nameds.Package c.args.names.now c.insert.new.self step (ap (λ o. may_be o nameds.Package) (sym c.in_ok-insert.ensures.old ∙ c.in-None.is))

pub returns-in-Some-Package-clause-adds : goal.returns-in-Some-Package-clause-adds
returns-in-Some-Package-clause-adds c =
    let key = string_bytes c.args.part in
    let step = hash_map_updates_text key c.args.names.now c.insert.new.self (Some nameds.Package) c.in_ok-insert.ensures.updates in
    adds_one key nameds.Package c.args.names.now c.insert.new.self step
    (ap (λ o. may_be o nameds.Package) (sym c.in_ok-insert.ensures.old ∙ c.in-Some-Package.is) ∙ ap (λ t. may_be (Some t) nameds.Package) c.in-Some-Package.field-0-is)
