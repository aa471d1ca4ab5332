use Rattle.std.proofs.Common.{◌≡◌, length, map, refl, ap, ◌∙◌, arith}
use Rattle.std.proofs.lemmas.Result.{err_from_is_err_and}
use Rattle.pg_dyn.specs.message.Kept.{message_of}
use Rattle.pg_set.specs.declared.reading.outline.Named.TheVariants as nameds
use Rattle.pg_set.specs.inner.Declarations.{all_named}
use Rattle.pg_set.specs.stated.SetMessages.{children_at}
use Rattle.pg_set.specs.stated.TypeMessages.{real_oneofs, synthetic_places}
use Rattle.pg_set.proofs.lemmas.outline.Declaring.{first_fails}
use Rattle.pg_set.proofs.lemmas.outline.OutlinedNames.{marks_named, marks_refused, members_added, oneofs_fail, seen_long}
use Rattle.pg_set.proofs.reading.outline.declare_members.Goals as goal

pub returns-in_err-marks-clause-refused : goal.returns-in_err-marks-clause-refused
returns-in_err-marks-clause-refused c =
    let m = message_of c.args.message.now in
    let numbers = c.deref-2.ensures.value ∙ (c.in_ok-synthetic.ensures ∙ ap synthetic_places (ap (λ ms. map message_of ms) c.deref.ensures.value ∙ c.in_ok-fields.ensures)) in
    let as_many : c.len.result ≡ length (children_at 8 m) = omega (arith, c.len.ensures, c.in_ok-oneofs.oneofs.ok.0, seen_long c.in_ok-oneofs.oneofs.items, ap length c.in_ok-oneofs.ensures) in
    let p = err_from_is_err_and c.from_residual-in_err-marks.result c.from_residual-in_err-marks.ensures.1 in
    rw (p.1, p.2) (λ named fresh. marks_refused m c.len.result c.deref-2.result.now _ numbers as_many c.in_err-marks.ensures.refused named)

pub returns-in_err-declare_each-clause-refused : goal.returns-in_err-declare_each-clause-refused
returns-in_err-declare_each-clause-refused c =
    let m = message_of c.args.message.now in
    let full = c.args.full.now in
    let all = ap (λ ms. map message_of ms) c.deref-6.ensures.value ∙ c.in_ok-fields.ensures in
    let p = err_from_is_err_and c.from_residual-in_err-declare_each.result c.from_residual-in_err-declare_each.ensures.1 in
    rw (p.1, p.2) (λ named. first_fails (all_named full nameds.Other (children_at 2 m)) (all_named full nameds.Other (real_oneofs (synthetic_places (children_at 2 m)) 0 (children_at 8 m))) c.args.names.now _
    (rw (← all) (c.in_err-declare_each.ensures.refused refl)))

pub returns-in_err-declare_each-2-clause-refused : goal.returns-in_err-declare_each-2-clause-refused
returns-in_err-declare_each-2-clause-refused c =
    let m = message_of c.args.message.now in
    let fields = map message_of c.deref-6.result.now in
    let real = map message_of c.deref-7.result.now in
    let all : fields ≡ children_at 2 m = ap (λ ms. map message_of ms) c.deref-6.ensures.value ∙ c.in_ok-fields.ensures in
    let numbers : c.deref-4.result.now ≡ synthetic_places (children_at 2 m) =
    c.deref-4.ensures.value ∙ (c.in_ok-synthetic.ensures ∙ ap synthetic_places (ap (λ ms. map message_of ms) c.deref.ensures.value ∙ c.in_ok-fields.ensures)) in
    let oneofs : map message_of c.deref-3.result.now ≡ children_at 8 m = ap (λ ms. map message_of ms) c.deref-3.ensures.value ∙ c.in_ok-oneofs.ensures in
    let these : real ≡ real_oneofs (synthetic_places (children_at 2 m)) 0 (children_at 8 m) =
    ap (λ ms. map message_of ms) c.deref-7.ensures.value ∙ (c.in_ok-real.ensures ∙ (ap (λ ns. real_oneofs ns 0 (map message_of c.deref-3.result.now)) numbers ∙ ap (real_oneofs (synthetic_places (children_at 2 m)) 0) oneofs)) in
    let p = err_from_is_err_and c.from_residual-in_err-declare_each-2.result c.from_residual-in_err-declare_each-2.ensures.1 in
    rw (p.1, p.2) (λ named. oneofs_fail c.args.full.now m fields real all these c.args.names.now c.declare_each.new.names c.in_ok-declare_each.ensures.adds _ (c.in_err-declare_each-2.ensures.refused refl))

pub returns-clause-adds : goal.returns-clause-adds
returns-clause-adds c =
    let m = message_of c.args.message.now in
    let fields = map message_of c.deref-6.result.now in
    let real = map message_of c.deref-7.result.now in
    let all : fields ≡ children_at 2 m = ap (λ ms. map message_of ms) c.deref-6.ensures.value ∙ c.in_ok-fields.ensures in
    let numbers : c.deref-4.result.now ≡ synthetic_places (children_at 2 m) =
    c.deref-4.ensures.value ∙ (c.in_ok-synthetic.ensures ∙ ap synthetic_places (ap (λ ms. map message_of ms) c.deref.ensures.value ∙ c.in_ok-fields.ensures)) in
    let oneofs : map message_of c.deref-3.result.now ≡ children_at 8 m = ap (λ ms. map message_of ms) c.deref-3.ensures.value ∙ c.in_ok-oneofs.ensures in
    let these : real ≡ real_oneofs (synthetic_places (children_at 2 m)) 0 (children_at 8 m) =
    ap (λ ms. map message_of ms) c.deref-7.ensures.value ∙ (c.in_ok-real.ensures ∙ (ap (λ ns. real_oneofs ns 0 (map message_of c.deref-3.result.now)) numbers ∙ ap (real_oneofs (synthetic_places (children_at 2 m)) 0) oneofs)) in
    members_added c.args.full.now m fields real all these c.args.names.now c.declare_each.new.names c.in_ok-declare_each.ensures.adds c.declare_each-2.new.names c.in_ok-declare_each-2.ensures.adds

pub returns-clause-oneofs : goal.returns-clause-oneofs
returns-clause-oneofs c =
    let m = message_of c.args.message.now in
    let numbers = c.deref-2.ensures.value ∙ (c.in_ok-synthetic.ensures ∙ ap synthetic_places (ap (λ ms. map message_of ms) c.deref.ensures.value ∙ c.in_ok-fields.ensures)) in
    let as_many : c.len.result ≡ length (children_at 8 m) = omega (arith, c.len.ensures, c.in_ok-oneofs.oneofs.ok.0, seen_long c.in_ok-oneofs.oneofs.items, ap length c.in_ok-oneofs.ensures) in
    marks_named m c.len.result c.deref-2.result.now numbers as_many c.in_ok-marks.ensures.places
