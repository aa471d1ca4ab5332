use Rattle.std.proofs.Common.{◌≡◌, [], ◌∷◌, ap, subst, ◌∙◌}
use Rattle.std.proofs.lemmas.Result.{IfErr-weaker, on_ok_weaker}
use Rattle.std.specs.Prelude.{false}
use Rattle.std.specs.String.{string_bytes}
use Rattle.pg_dyn.specs.message.Kept.{message_of}
use Rattle.pg_set.specs.inner.Declarations.{Adds, CannotAdd, is_package}
use Rattle.pg_set.specs.stated.SetNames.{name_in, qualified}
use Rattle.pg_set.proofs.reading.declare.declare_own.Goals as goal

pub returns-clause-adds : goal.returns-clause-adds
returns-clause-adds c =
    let same : string_bytes c.in_ok-full.full ≡ qualified c.args.scope.now (message_of c.args.message.now) = c.in_ok-full.ensures ∙ ap (name_in c.args.scope.now) c.text-own.ensures in
    on_ok_weaker c.declare.result (subst (λ n. Adds ((n, c.args.named) ∷ []) c.args.names.now c.declare.new.names) same) c.declare.ensures.adds

pub returns-clause-refused : goal.returns-clause-refused
returns-clause-refused c =
    let same : string_bytes c.in_ok-full.full ≡ qualified c.args.scope.now (message_of c.args.message.now) = c.in_ok-full.ensures ∙ ap (name_in c.args.scope.now) c.text-own.ensures in
    IfErr-weaker c.declare.result (λ e. is_package c.args.named ≡ false → CannotAdd ((string_bytes c.in_ok-full.full, c.args.named) ∷ []) c.args.names.now e)
    (λ e. is_package c.args.named ≡ false → CannotAdd ((qualified c.args.scope.now (message_of c.args.message.now), c.args.named) ∷ []) c.args.names.now e)
    (λ e fails other. subst (λ n. CannotAdd ((n, c.args.named) ∷ []) c.args.names.now e) same (fails other)) c.declare.ensures.refused
