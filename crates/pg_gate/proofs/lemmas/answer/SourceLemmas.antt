-- What reads leave of a source, step by step.
use Rattle.std.proofs.Common.{◌≡◌, ◌∙◌, ℕ, Result, arith, refl, subst, sym}
use Rattle.std.specs.Result.{IsErrAnd}
use Rattle.pg_link.specs.declared.sources.Sources.{Ghosts}
use Rattle.pg_gate.specs.Failures.{failures_by}
use Rattle.pg_link.specs.walk.Reads.{Reads}
use Rattle.pg_gate.proofs.lemmas.ErrorLemmas.{passed_on}

module _ {S : Type 0} (members : Ghosts S) (old : S) where
  -- what `?` passes on
  pub passed : {T E : Type 0} (new : S) (r : Result T E) (reports : E → ℕ) (error : E) → IsErrAnd r (λ e. e ≡ error) → Reads members old new (reports error)
      → Reads members old new (failures_by reports r)
  passed new r reports error is reads = subst (λ n. Reads members old new n) (sym (passed_on r reports error is)) reads

  -- nothing more failed
  pub no_more : (new : S) (n : ℕ) → n ≡ 0 → Reads members old new 0 → Reads members old new n
  no_more new n none reads = subst (λ n. Reads members old new n) (sym none) reads

  -- a source that isn't asked
  pub unasked : Reads members old old 0
  unasked = record { counted = omega arith; same_given = refl; same_lacked = refl }

  -- reads, and then further ones
  pub then : (between new : S) (n : ℕ) → Reads members old between 0 → Reads members between new n → Reads members old new n
  then between new n first second = record {
    counted = omega (arith, first.counted, second.counted);
    same_given = second.same_given ∙ first.same_given;
    same_lacked = second.same_lacked ∙ first.same_lacked;
  }
