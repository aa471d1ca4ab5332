use Rattle.std.proofs.Common.{◌≡◌, length, map, refl, ap, subst, ◌∙◌, arith}
use Rattle.std.proofs.lemmas.Result.{err_from_is_err_and}
use Rattle.pg_dyn.specs.message.Kept.{message_of}
use Rattle.pg_set.specs.declared.reading.outline.Named.TheVariants as nameds
use Rattle.pg_set.specs.inner.Declarations.{Adds, CannotAdd, enum_declared}
use Rattle.pg_set.specs.stated.SetMessages.{children_at}
use Rattle.pg_set.proofs.lemmas.outline.OutlinedNames.{both_added, inside_fails, name_fails}
use Rattle.pg_set.proofs.reading.outline.enums.outline_enum.Goals as goal

pub returns-in_err-name-clause-refused : goal.returns-in_err-name-clause-refused
returns-in_err-name-clause-refused c =
    let m = message_of c.args.message.now in
    let scope = c.args.scope.now in
    let at : c.len-index.result ≡ length c.args.enums.now.items = omega (arith, c.len-index.ensures, c.args.enums.now.ok.0) in
    let p = err_from_is_err_and c.from_residual.result c.from_residual.ensures.1 in
    rw (p.1, p.2) (subst (λ n. CannotAdd (enum_declared scope n m) c.args.names.now c.in_err-name.field-0.0) at
    (name_fails scope scope (nameds.Enum (record { index = c.len-index.result })) m c.args.names.now _ (c.in_err-name.ensures.refused refl)))

pub returns-in_err-declare_each-clause-refused : goal.returns-in_err-declare_each-clause-refused
returns-in_err-declare_each-clause-refused c =
    let m = message_of c.args.message.now in
    let scope = c.args.scope.now in
    let found = map message_of c.as_slice.result.now in
    let all : found ≡ children_at 2 m = ap (λ ms. map message_of ms) c.as_slice.ensures.value ∙ c.in_ok-values.ensures in
    let at : c.len-index.result ≡ length c.args.enums.now.items = omega (arith, c.len-index.ensures, c.args.enums.now.ok.0) in
    let p = err_from_is_err_and c.from_residual-in_err-declare_each.result c.from_residual-in_err-declare_each.ensures.1 in
    rw (p.1, p.2) (subst (λ n. CannotAdd (enum_declared scope n m) c.args.names.now c.in_err-declare_each.field-0.0) at
    (inside_fails scope scope (nameds.Enum (record { index = c.len-index.result })) m scope found refl all c.args.names.now c.declare_named.new.names c.in_ok-name.ensures.adds _ (c.in_err-declare_each.ensures.refused refl)))

pub returns-clause-adds : goal.returns-clause-adds
returns-clause-adds c =
    let m = message_of c.args.message.now in
    let scope = c.args.scope.now in
    let found = map message_of c.as_slice.result.now in
    let all : found ≡ children_at 2 m = ap (λ ms. map message_of ms) c.as_slice.ensures.value ∙ c.in_ok-values.ensures in
    let at : c.len-index.result ≡ length c.args.enums.now.items = omega (arith, c.len-index.ensures, c.args.enums.now.ok.0) in
    subst (λ n. Adds (enum_declared scope n m) c.args.names.now c.declare_each.new.names) at
    (both_added scope scope (nameds.Enum (record { index = c.len-index.result })) m scope found refl all c.args.names.now c.declare_named.new.names c.in_ok-name.ensures.adds c.declare_each.new.names c.in_ok-declare_each.ensures.adds)
