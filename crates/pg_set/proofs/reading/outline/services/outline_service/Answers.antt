use Rattle.std.proofs.Common.{◌≡◌, map, refl, ap, ◌∙◌}
use Rattle.std.proofs.lemmas.Result.{err_from_is_err_and}
use Rattle.pg_dyn.specs.message.Kept.{message_of}
use Rattle.pg_set.specs.declared.reading.outline.Named.TheVariants as nameds
use Rattle.pg_set.specs.stated.SetMessages.{children_at}
use Rattle.pg_set.specs.stated.SetNames.{qualified}
use Rattle.pg_set.proofs.lemmas.outline.OutlinedNames.{both_added, inside_fails, name_fails}
use Rattle.pg_set.proofs.reading.outline.services.outline_service.Goals as goal

pub returns-in_err-name-clause-refused : goal.returns-in_err-name-clause-refused
returns-in_err-name-clause-refused c =
    let m = message_of c.args.message.now in
    let scope = c.args.scope.now in
    let p = err_from_is_err_and c.from_residual.result c.from_residual.ensures.1 in
    rw (p.1, p.2) (name_fails scope (qualified scope m) nameds.Other m c.args.names.now _ (c.in_err-name.ensures.refused refl))

pub returns-in_err-declare_each-clause-refused : goal.returns-in_err-declare_each-clause-refused
returns-in_err-declare_each-clause-refused c =
    let m = message_of c.args.message.now in
    let scope = c.args.scope.now in
    let found = map message_of c.as_slice.result.now in
    let here : c.as_str.result.now ≡ qualified scope m = c.as_str.ensures.value ∙ c.in_ok-name.ensures.name in
    let all : found ≡ children_at 2 m = ap (λ ms. map message_of ms) c.as_slice.ensures.value ∙ c.in_ok-methods.ensures in
    let p = err_from_is_err_and c.from_residual-in_err-declare_each.result c.from_residual-in_err-declare_each.ensures.1 in
    rw (p.1, p.2) (inside_fails scope (qualified scope m) nameds.Other m c.as_str.result.now found here all c.args.names.now c.declare_named.new.names c.in_ok-name.ensures.adds _ (c.in_err-declare_each.ensures.refused refl))

pub returns-clause-adds : goal.returns-clause-adds
returns-clause-adds c =
    let m = message_of c.args.message.now in
    let scope = c.args.scope.now in
    let found = map message_of c.as_slice.result.now in
    let here : c.as_str.result.now ≡ qualified scope m = c.as_str.ensures.value ∙ c.in_ok-name.ensures.name in
    let all : found ≡ children_at 2 m = ap (λ ms. map message_of ms) c.as_slice.ensures.value ∙ c.in_ok-methods.ensures in
    both_added scope (qualified scope m) nameds.Other m c.as_str.result.now found here all c.args.names.now c.declare_named.new.names c.in_ok-name.ensures.adds c.declare_each.new.names c.in_ok-declare_each.ensures.adds
