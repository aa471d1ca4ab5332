use Rattle.std.proofs.Common.{◌≡◌, ◌++◌, ◌∷◌, [], map, rules, refl, sym, ap, ap₂, subst, ◌∙◌, arith}
use Rattle.std.proofs.lemmas.Str.{encode_ascii}
use Rattle.std.proofs.lemmas.Result.{IfErr-weaker, err_from_is_err_and, on_ok_weaker}
use Rattle.std.proofs.Math.Utf8.{encode}
use Rattle.std.specs.String.{string_bytes}
use Rattle.pg_set.specs.inner.Declarations.{Adds, CannotAdd, package_declared, package_part}
use Rattle.pg_set.specs.stated.SetNames.{package_parts}
use Rattle.pg_set.proofs.lemmas.outline.Declaring.{Left, left_all, left_fails, left_none, left_on}
use Rattle.pg_set.proofs.lemmas.outline.Fronts.{dot_past, letter_past, parts_end, parts_from}
use Rattle.pg_set.proofs.reading.declare.declare_package.Goals as goal
use Rattle.pg_set.proofs.reading.declare.declare_package.Goals.{then-letter-eq46+in_ok-clone+in_ok-declare_part, else-letter-eq46}

pub returns-in_err-declare_part-clause-refused : goal.returns-in_err-declare_part-clause-refused
returns-in_err-declare_part-clause-refused c =
    let path = c.args.path.now in
    let now = string_bytes c.loop-letter.front in
    let rest = c.loop-letter.letter-iterator.rest.now in
    let later = c.next.new.self.rest.now in
    let letter = c.in-Some.letter in
    let p = err_from_is_err_and c.from_residual-in_err-declare_part.result c.from_residual-in_err-declare_part.ensures.1 in
    rw (p.1, p.2)
    (left_fails (map package_part (parts_from now rest)) (package_part now ∷ []) (map package_part (parts_from (now ++ encode letter) later)) (package_declared (46 ∷ path)) c.loop-letter.names c.args.names.now _
    (ap (map package_part) (dot_past now rest later (now ++ encode letter) letter c.in-Some.ensures.steps.0 refl c.if-letter-eq46.true)) c.loop-letter.invariant
    (subst (λ n. CannotAdd (package_part n ∷ []) c.loop-letter.names c.in_err-declare_part.field-0.0) c.in_ok-clone.ensures.cases c.in_err-declare_part.ensures.refused))

pub loop-letter-init : goal.loop-letter-init
loop-letter-init c =
    let path = c.args.path.now in
    let empty : string_bytes c.new-front.result ≡ [] = search rules in
    let front : string_bytes c.push.new.self ≡ 46 ∷ [] = c.in_ok-push.ensures.bytes ∙ (ap (λ bs. bs ++ encode 46) empty ∙ encode_ascii 46 (omega arith)) in
    let rest : c.into_iter-letter-iterator.result.rest.now ≡ path = search rules in
    let begin : parts_from (string_bytes c.push.new.self) c.into_iter-letter-iterator.result.rest.now ≡ package_parts (46 ∷ path) = ap₂ parts_from front rest in
    subst (λ ps. Left (map package_part ps) (package_declared (46 ∷ path)) c.args.names.now c.args.names.now) (sym begin) (left_all (package_declared (46 ∷ path)) c.args.names.now)

pub loop-letter-preserved : goal.loop-letter-preserved
loop-letter-preserved c =
    let old = c.args.names.now in
    let path = c.args.path.now in
    let inv = c.loop-letter.invariant in
    let now = string_bytes c.loop-letter.front in
    let rest = c.loop-letter.letter-iterator.rest.now in
    let later = c.next.new.self.rest.now in
    let letter = c.in-Some.letter in
    let grown = string_bytes c.push-in-loop-letter.new.self in
    let all = package_declared (46 ∷ path) in
    elim c.if-letter-eq46.branch [
      | then-letter-eq46+in_ok-clone+in_ok-declare_part w ↦
          let adds = subst (λ n. Adds (package_part n ∷ []) c.loop-letter.names w.declare_part.new.names) w.in_ok-clone.ensures.cases w.in_ok-declare_part.ensures.adds in
          subst (λ table. Left (map package_part (parts_from grown later)) all table old) (sym w.names-is)
          (left_on (map package_part (parts_from now rest)) (package_part now ∷ []) (map package_part (parts_from grown later)) all c.loop-letter.names w.declare_part.new.names old
          (ap (map package_part) (dot_past now rest later grown letter c.in-Some.ensures.steps.0 c.in_ok-push-2.ensures.bytes w.if-letter-eq46.true)) inv adds)
      | else-letter-eq46 w ↦
          subst (λ table. Left (map package_part (parts_from grown later)) all table old) (sym w.names-is)
          (subst (λ ps. Left (map package_part ps) all c.loop-letter.names old) (letter_past now rest later grown letter c.in-Some.ensures.steps.0 c.in_ok-push-2.ensures.bytes w.if-letter-eq46.false) inv)
    ]

pub returns-clause-adds : goal.returns-clause-adds
returns-clause-adds c =
    let old = c.args.names.now in
    let mid = c.loop-letter.names in
    let now = string_bytes c.loop-letter.front in
    let rest = c.loop-letter.letter-iterator.rest.now in
    let all = package_declared (46 ∷ c.args.path.now) in
    let new = c.declare_part-2.new.names in
    on_ok_weaker c.declare_part-2.result
    (λ (on : Adds (package_part now ∷ []) mid new). left_none [] all new old refl
    (left_on (map package_part (parts_from now rest)) (package_part now ∷ []) [] all mid new old (ap (map package_part) (parts_end now rest c.in-None.ensures.steps.0.0)) c.loop-letter.invariant on)) c.declare_part-2.ensures.adds

pub returns-clause-refused : goal.returns-clause-refused
returns-clause-refused c =
    let old = c.args.names.now in
    let mid = c.loop-letter.names in
    let now = string_bytes c.loop-letter.front in
    let rest = c.loop-letter.letter-iterator.rest.now in
    let all = package_declared (46 ∷ c.args.path.now) in
    IfErr-weaker c.declare_part-2.result (λ e. CannotAdd (package_part now ∷ []) mid e) (λ e. CannotAdd all old e)
    (λ e fails. left_fails (map package_part (parts_from now rest)) (package_part now ∷ []) [] all mid old e (ap (map package_part) (parts_end now rest c.in-None.ensures.steps.0.0)) c.loop-letter.invariant fails) c.declare_part-2.ensures.refused
