use Rattle.std.proofs.Common.{◌≡◌, get_or, refl, sym, arith, subst}
use Rattle.pg_wire.proofs.Scan.{IsScan, IsScan-none, IsScan-more, next_fits, value_at-last, value_at-short, value_at-long}
use Rattle.pg_wire.proofs.varint.scan.Goals as goal

pub loop-i-init : goal.loop-i-init
loop-i-init c = IsScan-none c.args.bytes.now

pub overflow_add-value : goal.overflow_add-value
overflow_add-value c =
    let byte = get_or c.args.bytes.now c.loop-i.i 0 in
    let fits = next_fits c.args.bytes.now c.loop-i.i c.loop-i.value byte c.loop-i.invariant (omega (arith, c.min-i-end.ensures)) (omega (arith, c.min-i-end.ensures)) refl in
    rw c.from.ensures (omega (arith, fits))

pub returns-then-byte-lt128-clause-value : goal.returns-then-byte-lt128-clause-value
returns-then-byte-lt128-clause-value c =
    let byte = get_or c.args.bytes.now c.loop-i.i 0 in
    rw c.from.ensures
    (sym (value_at-last c.args.bytes.now c.loop-i.i c.loop-i.value byte c.loop-i.invariant (omega (arith, c.min-i-end.ensures)) (omega (arith, c.min-i-end.ensures)) refl
    c.if-byte-lt128.true))

pub loop-i-preserved : goal.loop-i-preserved
loop-i-preserved c =
    let byte = get_or c.args.bytes.now c.loop-i.i 0 in
    rw c.from.ensures
    (IsScan-more c.args.bytes.now c.loop-i.i c.loop-i.value byte c.loop-i.invariant (omega (arith, c.min-i-end.ensures)) (omega (arith, c.min-i-end.ensures)) refl
    c.if-byte-lt128.false)

pub returns-then-bytes-lt10-clause-value : goal.returns-then-bytes-lt10-clause-value
returns-then-bytes-lt10-clause-value c =
    sym (value_at-short c.args.bytes.now c.loop-i.i c.loop-i.value c.loop-i.invariant (omega (arith, c.min-i-end.ensures)) (omega arith))

pub returns-else-bytes-lt10-clause-value : goal.returns-else-bytes-lt10-clause-value
returns-else-bytes-lt10-clause-value c =
    let ten : c.loop-i.i ≡ 10 = omega (arith, c.min-i-end.ensures) in
    sym (value_at-long c.args.bytes.now c.loop-i.value (subst (λ i. IsScan c.args.bytes.now i c.loop-i.value) ten c.loop-i.invariant))
