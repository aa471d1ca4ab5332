use Rattle.std.proofs.Common.{◌≡◌, ◌≤◌, ◌++◌, List, [], ◌∷◌, ℕ, length, ap, sym, refl, ◌∙◌, arith}
use Rattle.std.proofs.lemmas.Result.{err_from_is_err_and}
use Rattle.pg_schema.specs.declared.parts.field.Element.{Element}
use Rattle.pg_schema.specs.declared.parts.field.Element.TheVariants as elements
use Rattle.pg_wire.specs.declared.record.WireType.TheVariants.{Len}
use Rattle.pg_wire.specs.Records.{written}
use Rattle.pg_dyn.specs.encoding.Lending.{Bare, lent_item}
use Rattle.pg_dyn.specs.encoding.Written.{capped, packed_body, packed_bytes, packed_lengths}
use Rattle.pg_dyn.specs.word.NumberLists.{numbers_in}
use Rattle.pg_dyn.proofs.lemmas.encoding.EncodeSteps.{first_is, later_is, longer, record_in_turn, record_size}
use Rattle.pg_dyn.proofs.encoding.numbers.push_packed.Goals as goal

packed_some : {V : Type 0} (item : V → Bare) (n : ℕ) (e : Element) (vs : List V) → (length vs ≡ 0 → ⊥) → packed_bytes item n e vs ≡ (written n Len (packed_body item e vs)).bytes
packed_some item n e [] h = absurd (h refl)
packed_some item n e (v ∷ vs) h = refl

noted_some : {V : Type 0} (item : V → Bare) (e : Element) (vs : List V) → (length vs ≡ 0 → ⊥) → packed_lengths item e vs ≡ capped (length (packed_body item e vs)) ∷ []
noted_some item e [] h = absurd (h refl)
noted_some item e (v ∷ vs) h = refl

pub returns-in_ok-push_bodies-in-len1-up-clause-ok : goal.returns-in_ok-push_bodies-in-len1-up-clause-ok
returns-in_ok-push_bodies-in-len1-up-clause-ok c = λ rest whole.
    let e = elements.Scalar c.args.scalar in
    let vs = numbers_in c.args.numbers.now in
    let b = packed_body lent_item e vs in
    let some : length (numbers_in c.args.numbers.now) ≡ 0 → ⊥ = λ none. c.if-len-eq0.false (c.len.ensures ∙ none) in
    let ls = whole ∙ ap (λ xs. xs ++ rest) (noted_some lent_item e vs some) in
    let told = c.in_ok-not_too_long-in-len1-up.ensures.ok (length b) (first_is c.args.lengths.now _ _ ls) in
    let front = c.in_ok-push_front-in-len1-up.ensures.ok b (sym told) in (
      record_in_turn c.args.number b c.args.out.now.items _ _ front c.in_ok-push_bodies-in-len1-up.ensures.ok
          ∙ ap (λ xs. c.args.out.now.items ++ xs) (sym (packed_some lent_item c.args.number e vs some)),
      later_is c.args.lengths.now _ _ ls,
    )

pub returns-in_err-not_too_long-in-len1-up-clause-err : goal.returns-in_err-not_too_long-in-len1-up-clause-err
returns-in_err-not_too_long-in-len1-up-clause-err c =
    let e = elements.Scalar c.args.scalar in
    let vs = numbers_in c.args.numbers.now in
    let b = packed_body lent_item e vs in
    let some : length (numbers_in c.args.numbers.now) ≡ 0 → ⊥ = λ none. c.if-len-eq0.false (c.len.ensures ∙ none) in
    let within : length (packed_body lent_item (elements.Scalar c.args.scalar) (numbers_in c.args.numbers.now)) ≤ length (packed_bytes lent_item c.args.number (elements.Scalar c.args.scalar) (numbers_in c.args.numbers.now)) = omega (arith, ap length (packed_some lent_item c.args.number e vs some), record_size c.args.number Len b) in
    let p = err_from_is_err_and c.from_residual.result c.from_residual.ensures.1 in
    rw (p.1, p.2)
    (λ rest whole.
    let ls = whole ∙ ap (λ xs. xs ++ rest) (noted_some lent_item e vs some) in
    longer (length b) (length (packed_bytes lent_item c.args.number e vs)) _ within (c.in_err-not_too_long-in-len1-up.ensures.err (length b) (first_is c.args.lengths.now _ _ ls)))
