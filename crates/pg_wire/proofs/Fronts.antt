-- What follows ten bytes makes no difference to the varint at their front.
use Rattle.std.proofs.Common.{◌≡◌, ℕ, zero, suc, ◌≤◌, List, [], ◌∷◌, ◌++◌, length, take, drop, Ok, Err, Result, refl, ap, sym, ◌∙◌, arith, lt-ltb, le-ltb, ⊎_elim}
use Rattle.std.proofs.lemmas.Bool.{cases_lt}
use Rattle.std.proofs.lemmas.List.{take-append-drop, length-take-le}
use Rattle.pg_wire.specs.declared.error.WireError.{WireError}
use Rattle.pg_wire.specs.Errors.{placed}
use Rattle.pg_wire.specs.Reading.{Fault, Front, ◌>>=◌}
use Rattle.pg_wire.specs.Varint.{varint_value, varint_within, varint_at}
use Rattle.pg_wire.specs.Reads.{value_at}

module _ {B : Type 0} where
  -- what is made of the bytes that are read, whatever follows them
  abbrev made : (List ℕ → B) → Front (List ℕ) → Result B Fault
  made make read = read >>= λ r. Ok (make r.0)

  made-with_first : (make : List ℕ → B) (b : ℕ) (read : Front (List ℕ)) → made make (read >>= λ r. Ok (b ∷ r.0, r.1)) ≡ made (λ v. make (b ∷ v)) read
  made-with_first make b (Ok r) = refl
  made-with_first make b (Err f) = refl

  made-append : (make : List ℕ → B) (n : ℕ) (front rest : List ℕ) → n ≤ length front → made make (varint_within n (front ++ rest)) ≡ made make (varint_within n front)
  made-append make zero front rest h = refl
  made-append make (suc n) [] rest h = absurd (omega arith)
  made-append make (suc n) (b ∷ front) rest h =
      ⊎_elim (λ below. rw (lt-ltb b 128 below))
      (λ above.
      rw (le-ltb b 128 above)
      (made-with_first make b (varint_within n (front ++ rest)) ∙ made-append (λ v. make (b ∷ v)) n front rest (omega arith) ∙ sym (made-with_first make b (varint_within n front))))
      (cases_lt b 128)

pub value_at-take : (bytes : List ℕ) → 10 ≤ length bytes → ◌≡◌ {A = Result (ℕ × ℕ) WireError} (value_at (take 10 bytes)) (value_at bytes)
unfolding varint_at
value_at-take bytes h =
    let same = made-append (λ v. (varint_value v, length v)) 10 (take 10 bytes) (drop 10 bytes) (omega (arith, length-take-le 10 bytes h)) in
    ap (placed 0) (sym same ∙ ap (λ xs. made (λ v. (varint_value v, length v)) (varint_within 10 xs)) (take-append-drop 10 bytes))
