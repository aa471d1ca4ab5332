use Rattle.std.proofs.Common.{◌≡◌, [], ◌∷◌, ap, subst, ◌∙◌}
use Rattle.std.proofs.lemmas.Result.{err_from_is_err_and}
use Rattle.std.specs.String.{string_bytes}
use Rattle.pg_dyn.specs.message.Kept.{message_of}
use Rattle.pg_set.specs.inner.Declarations.{Adds, CannotAdd}
use Rattle.pg_set.specs.stated.SetNames.{name_in, qualified}
use Rattle.pg_set.proofs.reading.declare.declare_named.Goals as goal

pub returns-in_err-declare-clause-refused : goal.returns-in_err-declare-clause-refused
returns-in_err-declare-clause-refused c =
    let name = qualified c.args.scope.now (message_of c.args.message.now) in
    let same : string_bytes c.in_ok-clone.field-0 ≡ name = c.in_ok-clone.ensures.cases ∙ (c.in_ok-full.ensures ∙ ap (name_in c.args.scope.now) c.text-own.ensures) in
    let p = err_from_is_err_and c.from_residual-in_err-declare.result c.from_residual-in_err-declare.ensures.1 in
    rw (p.1, p.2) (λ other. subst (λ n. CannotAdd ((n, c.args.named) ∷ []) c.args.names.now c.in_err-declare.field-0.0) same (c.in_err-declare.ensures.refused other))

pub returns-clause-name : goal.returns-clause-name
returns-clause-name c = c.in_ok-full.ensures ∙ ap (name_in c.args.scope.now) c.text-own.ensures

pub returns-clause-adds : goal.returns-clause-adds
returns-clause-adds c =
    let same : string_bytes c.in_ok-clone.field-0 ≡ qualified c.args.scope.now (message_of c.args.message.now) = c.in_ok-clone.ensures.cases ∙ (c.in_ok-full.ensures ∙ ap (name_in c.args.scope.now) c.text-own.ensures) in
    subst (λ n. Adds ((n, c.args.named) ∷ []) c.args.names.now c.declare.new.names) same c.in_ok-declare.ensures.adds
