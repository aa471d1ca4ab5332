use Rattle.std.proofs.Common.{◌≡◌, ◌≤◌, ◌++◌, List, [], ◌∷◌, ℕ, nat_eq, false, length, ap, sym, refl, ◌∙◌, arith}
use Rattle.std.proofs.lemmas.Result.{err_from_is_err_and}
use Rattle.pg_schema.specs.declared.parts.field.Element.{Element}
use Rattle.pg_wire.specs.declared.record.WireType.TheVariants.{Len}
use Rattle.pg_wire.specs.Records.{written}
use Rattle.pg_dyn.specs.encoding.Lending.{Bare}
use Rattle.pg_dyn.specs.encoding.Written.{capped, packed_body, packed_bytes, packed_lengths}
use Rattle.pg_dyn.proofs.lemmas.encoding.EncodeSteps.{first_is, later_is, longer, record_in_turn, record_size}
use Rattle.pg_dyn.proofs.encoding.records.push_packed.Goals as goal

packed_some : {V : Type 0} (item : V → Bare) (n : ℕ) (e : Element) (vs : List V) → nat_eq (length vs) 0 ≡ false → packed_bytes item n e vs ≡ (written n Len (packed_body item e vs)).bytes
packed_some item n e [] h = absurd (cc)
packed_some item n e (v ∷ vs) h = refl

noted_some : {V : Type 0} (item : V → Bare) (e : Element) (vs : List V) → nat_eq (length vs) 0 ≡ false → packed_lengths item e vs ≡ capped (length (packed_body item e vs)) ∷ []
noted_some item e [] h = absurd (cc)
noted_some item e (v ∷ vs) h = refl

pub returns-in_ok-push_bodies-in-len1-up-clause-ok : goal.returns-in_ok-push_bodies-in-len1-up-clause-ok
returns-in_ok-push_bodies-in-len1-up-clause-ok g c = λ rest whole.
    let b = packed_body g.M.Lends.item c.args.element c.args.values.now in
    let some = sym c.is_empty.ensures ∙ c.if-is_empty.false in
    let ls = whole ∙ ap (λ xs. xs ++ rest) (noted_some g.M.Lends.item c.args.element c.args.values.now some) in
    let told = c.in_ok-not_too_long-in-len1-up.ensures.ok (length b) (first_is c.args.lengths.now _ _ ls) in
    let front = c.in_ok-push_front-in-len1-up.ensures.ok b (sym told) in (
      record_in_turn c.args.number b c.args.out.now.items _ _ front c.in_ok-push_bodies-in-len1-up.ensures.ok
          ∙ ap (λ xs. c.args.out.now.items ++ xs) (sym (packed_some g.M.Lends.item c.args.number c.args.element c.args.values.now some)),
      later_is c.args.lengths.now _ _ ls,
    )

pub returns-in_err-not_too_long-in-len1-up-clause-err : goal.returns-in_err-not_too_long-in-len1-up-clause-err
returns-in_err-not_too_long-in-len1-up-clause-err g c =
    let b = packed_body g.M.Lends.item c.args.element c.args.values.now in
    let some = sym c.is_empty.ensures ∙ c.if-is_empty.false in
    let within : length b ≤ length (packed_bytes g.M.Lends.item c.args.number c.args.element c.args.values.now) = omega (arith, ap length (packed_some g.M.Lends.item c.args.number c.args.element c.args.values.now some), record_size c.args.number Len b) in
    let p = err_from_is_err_and c.from_residual.result c.from_residual.ensures.1 in
    rw (p.1, p.2)
    (λ rest whole.
    let ls = whole ∙ ap (λ xs. xs ++ rest) (noted_some g.M.Lends.item c.args.element c.args.values.now some) in
    longer (length b) (length (packed_bytes g.M.Lends.item c.args.number c.args.element c.args.values.now)) _ within (c.in_err-not_too_long-in-len1-up.ensures.err (length b) (first_is c.args.lengths.now _ _ ls)))
