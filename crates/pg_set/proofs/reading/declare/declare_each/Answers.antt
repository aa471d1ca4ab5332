use Rattle.std.proofs.Common.{◌∷◌, ◌+◌, [], ap, drop}
use Rattle.std.proofs.lemmas.Result.{err_from_is_err_and}
use Rattle.pg_dyn.specs.message.Kept.{message_of}
use Rattle.pg_set.specs.inner.Declarations.{all_named, named_in}
use Rattle.pg_set.proofs.lemmas.outline.Declaring.{left_all, left_fails, left_none, left_on, seen_drop, seen_past}
use Rattle.pg_set.proofs.lemmas.outline.NameLoops.{seen}
use Rattle.pg_set.proofs.reading.declare.declare_each.Goals as goal

pub loop-message-init : goal.loop-message-init
loop-message-init c = left_all (all_named c.args.scope.now c.args.named (seen c.args.messages.now)) c.args.names.now

pub loop-message-preserved : goal.loop-message-preserved
loop-message-preserved c =
    let ms = c.args.messages.now in
    let i = c.loop-message.message-index in
    let m = c.message-item.result in
    let scope = c.args.scope.now in
    let thing = c.args.named in
    left_on (all_named scope thing (seen (drop i ms))) (named_in scope thing (message_of m) ∷ []) (all_named scope thing (seen (drop (i + 1) ms))) (all_named scope thing (seen ms)) c.loop-message.names c.declare_own.new.names c.args.names.now
    (ap (all_named scope thing) (seen_drop ms i m c.loop-message-test.true c.message-item.is)) c.loop-message.invariant c.in_ok-declare_own.ensures.adds

pub returns-in_err-declare_own-clause-refused : goal.returns-in_err-declare_own-clause-refused
returns-in_err-declare_own-clause-refused c =
    let ms = c.args.messages.now in
    let i = c.loop-message.message-index in
    let m = c.message-item.result in
    let scope = c.args.scope.now in
    let thing = c.args.named in
    let p = err_from_is_err_and c.from_residual.result c.from_residual.ensures.1 in
    rw (p.1, p.2) (λ other.
    left_fails (all_named scope thing (seen (drop i ms))) (named_in scope thing (message_of m) ∷ []) (all_named scope thing (seen (drop (i + 1) ms))) (all_named scope thing (seen ms)) c.loop-message.names c.args.names.now _
    (ap (all_named scope thing) (seen_drop ms i m c.loop-message-test.true c.message-item.is)) c.loop-message.invariant (c.in_err-declare_own.ensures.refused other))

pub returns-clause-adds : goal.returns-clause-adds
returns-clause-adds c =
    let ms = c.args.messages.now in
    let i = c.loop-message.message-index in
    left_none (all_named c.args.scope.now c.args.named (seen (drop i ms))) (all_named c.args.scope.now c.args.named (seen ms)) c.loop-message.names c.args.names.now
    (ap (all_named c.args.scope.now c.args.named) (seen_past ms i c.loop-message-test.false)) c.loop-message.invariant
