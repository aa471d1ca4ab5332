use Rattle.std.proofs.Common.{◌≡◌, length, subst, arith}
use Rattle.std.proofs.lemmas.Result.{err_from_is_err_and}
use Rattle.pg_dyn.specs.message.Kept.{message_of}
use Rattle.pg_set.specs.inner.Declarations.{Adds, CannotAdd, type_declared}
use Rattle.pg_set.proofs.reading.outline.Outline.outline_type.Goals as goal

pub returns-in_err-declare_type-clause-refused : goal.returns-in_err-declare_type-clause-refused
returns-in_err-declare_type-clause-refused c =
    let old = c.args.self.now.types in
    let at : c.in_ok-index.index ≡ length old.items = omega (arith, c.in_ok-index.ensures.ok, old.ok.0) in
    let p = err_from_is_err_and c.from_residual-in_err-declare_type.result c.from_residual-in_err-declare_type.ensures.1 in
    rw (p.1, p.2) (λ few oneofs. subst (λ n. CannotAdd (type_declared c.args.name.now n (message_of c.args.message.now)) c.args.self.now.names c.in_err-declare_type.field-0.0) at (c.in_err-declare_type.ensures.refused oneofs))

pub returns-clause-adds : goal.returns-clause-adds
returns-clause-adds c =
    let old = c.args.self.now.types in
    let at : c.in_ok-index.index ≡ length old.items = omega (arith, c.in_ok-index.ensures.ok, old.ok.0) in
    subst (λ n. Adds (type_declared c.args.name.now n (message_of c.args.message.now)) c.args.self.now.names c.declare_type.new.names) at c.in_ok-declare_type.ensures.adds
