use Rattle.std.proofs.Common.{◌≡◌, ◌+◌, ◌-◌, length, take, get_or, false, refl, ap, subst, ◌∙◌, arith, eq-eqb}
use Rattle.pg_schema.specs.Parts.{shape_of}
use Rattle.pg_schema.specs.Shape.{fields}
use Rattle.pg_dyn.specs.setting.ContentFaults.{members}
use Rattle.pg_dyn.proofs.lemmas.fitting.OneofWalks.{all_once, is_in, once_if, twice_at}
use Rattle.pg_dyn.proofs.oneofs.once_in_window.Goals as goal

pub returns-then-has_member-oneof-clause-twice : goal.returns-then-has_member-oneof-clause-twice
returns-then-has_member-oneof-clause-twice c = λ e.
    let l = c.loop-number in
    let o = c.in-Some.oneof in
    let at : c.args.first + (o - c.args.first) ≡ o = omega (arith, c.if-first-oneof.true) in
    let one : length (members (fields (shape_of c.args.schema.now) c.args.type_id) c.in-Some.oneof (take c.loop-number.number-index c.args.contents.now)) ≡ 1 =
    subst (λ m. length (members (fields (shape_of c.args.schema.now) c.args.type_id) m (take c.loop-number.number-index c.args.contents.now)) ≡ once_if (get_or c.loop-number.has_member (c.in-Some.oneof - c.args.first) false)) at
    (l.invariant.0 (o - c.args.first) c.if-oneof-first-lt-WINDOW.true)
    ∙ ap once_if c.if-has_member-oneof.true in
    let member = is_in (fields (shape_of c.args.schema.now) c.args.type_id) c.loop-number-item.result.0 c.oneof_of.result c.oneof_of.ensures o o c.in-Some.is ∙ eq-eqb o o refl in
    (o, twice_at (fields (shape_of c.args.schema.now) c.args.type_id) o c.args.contents.now l.number-index c.loop-number-item.result c.loop-number-test.true c.loop-number-item.is member one)

pub returns-clause-once : goal.returns-clause-once
returns-clause-once c = λ e o from upto.
    all_once (fields (shape_of c.args.schema.now) c.args.type_id) c.args.first c.loop-number.has_member c.args.contents.now c.loop-number.number-index c.loop-number.invariant.0 c.loop-number-test.false o from upto
