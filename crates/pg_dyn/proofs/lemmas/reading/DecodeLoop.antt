-- A decoder goes over the records of bytes.
use Rattle.std.proofs.Common.{◌≡◌, ℕ, ◌+◌, ◌≤◌, List, [], ◌∷◌, length, Result, Ok, Err, refl, ap, ap₂, sym, ◌∙◌, arith, drop, drop_at, rules}
use Rattle.pg_wire.specs.declared.error.WireError.{WireError}
use Rattle.pg_wire.specs.Reading.{Fault, Front, ◌>>=◌}
use Rattle.pg_wire.specs.Errors.{error_at, fault_of, place_of, placed}
use Rattle.pg_wire.specs.Records.{WireRecord, record_at}
use Rattle.pg_wire.specs.Reads.{record_found, results}
use Rattle.pg_wire.proofs.RecordLaws.{record_at_takes}
use Rattle.pg_wire.proofs.Results.{fault_of-error_at, results-end, results-ok, results-err}

cons_not_nil : {A : Type 0} (x : A) (xs : List A) → ◌≡◌ {A = List A} [] (x ∷ xs) → ⊥
cons_not_nil x xs e = cc

heads : {A : Type 0} (x y : A) (xs ys : List A) → x ∷ xs ≡ y ∷ ys → x ≡ y
heads x y xs ys e = cc

tails : {A : Type 0} (x y : A) (xs ys : List A) → x ∷ xs ≡ y ∷ ys → xs ≡ ys
tails x y xs ys e = cc

same_ok : (r s : WireRecord) → ◌≡◌ {A = Result WireRecord WireError} (Ok r) (Ok s) → r ≡ s
same_ok r s e = cc

same_err : (d e : WireError) → ◌≡◌ {A = Result WireRecord WireError} (Err d) (Err e) → d ≡ e
same_err d e k = cc

ok_not_err : (r : WireRecord) (e : WireError) → ◌≡◌ {A = Result WireRecord WireError} (Ok r) (Err e) → ⊥
ok_not_err r e k = cc

-- the record in front, and what is left after it
pub record OkStep (at : ℕ) (rest : List ℕ) (r : WireRecord) (left : List (Result WireRecord WireError)) : Type 0 where
  pub later : List ℕ
  pub read : record_at rest ≡ Ok (r, later)
  pub left_is : left ≡ results (at + length r.bytes) later

pub record ErrStep (at : ℕ) (rest : List ℕ) (e : WireError) : Type 0 where
  pub fault : Fault
  pub read : record_at rest ≡ Err fault
  pub error_is : error_at fault at ≡ e
  pub some : 1 ≤ length rest

found_of : (rest : List ℕ) (read : Front WireRecord) → record_at rest ≡ read → record_found rest ≡ placed 0 (read >>= λ x. Ok x.0)
found_of rest read e = ap (λ y. placed 0 (y >>= λ x. Ok x.0)) e

error_there : (f : Fault) (at : ℕ) → error_at (fault_of (error_at f 0)) (place_of (error_at f 0) + at) ≡ error_at f at
error_there f at = search (rules, arith, fault_of-error_at)

pub ok_step : (at : ℕ) (rest : List ℕ) (r : WireRecord) (left : List (Result WireRecord WireError)) → results at rest ≡ Ok r ∷ left → OkStep at rest r left
ok_step at [] r left h = absurd (cons_not_nil (Ok r) left (sym (results-end at [] refl) ∙ h))
ok_step at (b ∷ bytes) r left h = of (record_at (b ∷ bytes)) refl
  where
    of : (read : Front WireRecord) → record_at (b ∷ bytes) ≡ read → OkStep at (b ∷ bytes) r left
    of (Ok x) e =
        let first = results-ok at (b ∷ bytes) x.0 (found_of (b ∷ bytes) (Ok x) e) in
        let same = sym first.then ∙ h in
        let is = same_ok x.0 r (heads (Ok x.0) (Ok r) _ left same) in
        let joined = (record_at_takes (b ∷ bytes) x.0 x.1 e).1 in
        let dropped : drop (length x.0.bytes) (b ∷ bytes) ≡ x.1 = ap (drop (length x.0.bytes)) joined ∙ drop_at x.0.bytes x.1 (length x.0.bytes) refl in
        record {
          later = x.1;
          read = e ∙ ap (λ s. Ok (s, x.1)) is;
          left_is = sym (tails (Ok x.0) (Ok r) _ left same) ∙ ap₂ (λ s later. results (at + length s.bytes) later) is dropped;
        }
    of (Err f) e = absurd (ok_not_err r _ (sym (heads _ (Ok r) [] left (sym (results-err at (b ∷ bytes) (error_at f 0) (omega arith) (found_of (b ∷ bytes) (Err f) e)) ∙ h))))

pub err_step : (at : ℕ) (rest : List ℕ) (e : WireError) (left : List (Result WireRecord WireError)) → results at rest ≡ Err e ∷ left → ErrStep at rest e
err_step at [] e left h = absurd (cons_not_nil (Err e) left (sym (results-end at [] refl) ∙ h))
err_step at (b ∷ bytes) e left h = of (record_at (b ∷ bytes)) refl
  where
    of : (read : Front WireRecord) → record_at (b ∷ bytes) ≡ read → ErrStep at (b ∷ bytes) e
    of (Ok x) k = absurd (ok_not_err x.0 e (heads (Ok x.0) (Err e) _ left (sym (results-ok at (b ∷ bytes) x.0 (found_of (b ∷ bytes) (Ok x) k)).then ∙ h)))
    of (Err f) k =
        let same = heads _ (Err e) [] left (sym (results-err at (b ∷ bytes) (error_at f 0) (omega arith) (found_of (b ∷ bytes) (Err f) k)) ∙ h) in
        record { fault = f; read = k; error_is = sym (error_there f at) ∙ same_err _ e same; some = omega arith }

pub end_step : (at : ℕ) (rest : List ℕ) → results at rest ≡ [] → rest ≡ []
end_step at [] h = refl
end_step at (b ∷ bytes) h = of (record_at (b ∷ bytes)) refl
  where
    of : (read : Front WireRecord) → record_at (b ∷ bytes) ≡ read → b ∷ bytes ≡ []
    of (Ok x) k = absurd (cons_not_nil _ _ (sym h ∙ (results-ok at (b ∷ bytes) x.0 (found_of (b ∷ bytes) (Ok x) k)).then))
    of (Err f) k = absurd (cons_not_nil _ [] (sym h ∙ results-err at (b ∷ bytes) (error_at f 0) (omega arith) (found_of (b ∷ bytes) (Err f) k)))
