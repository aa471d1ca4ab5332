-- Gathered records are gone over one by one: those that count are kept, and the others are read.
use Rattle.std.proofs.Common.{◌≡◌, ◌≢◌, ℕ, ◌+◌, ◌-◌, ◌<◌, ◌≤◌, List, [], ◌∷◌, ◌++◌, length, map, get_or, take, drop, true, false, Some, None, ap, sym, subst, ◌∙◌, arith, rules}
use Rattle.std.specs.List.{AllByRecursion}
use Rattle.std.proofs.lemmas.List.{map-append, take_all, take_more}
use Rattle.std.proofs.Math.Seq.{drop-cons}
use Rattle.pg_schema.specs.Shape.{Shape, FieldShape, field_at}
use Rattle.pg_schema.specs.ShapeRules.{Rising}
use Rattle.pg_wire.specs.declared.record.Record.{Record}
use Rattle.pg_wire.specs.Reads.{seen_record}
use Rattle.pg_wire.specs.Records.{IsRecord}
use Rattle.pg_dyn.specs.declared.reading.oneof_runs.OneofRuns.{OneofRuns}
use Rattle.pg_dyn.specs.reading.ByFields.{AreGood, AreOf, RecordsGood}
use Rattle.pg_dyn.specs.reading.Content.{is_unknown}
use Rattle.pg_dyn.specs.reading.Gathering.{counts_at}
use Rattle.pg_dyn.specs.reading.Steps.{Taken}
use Rattle.pg_dyn.proofs.lemmas.reading.by_fields.BodiesByFields.{seen_at}
use Rattle.pg_dyn.proofs.lemmas.reading.gathered.Gathered.{CountedSoFar, found_there, none_so_far, one_counts_more, one_drops, taken_there}
use Rattle.pg_dyn.proofs.lemmas.reading.gathered.GoodRecords.{IsGood, each_good, good_by_field, good_each, good_of_field}
use Rattle.pg_dyn.proofs.Lists.{each-append, each_after, each_before}

one_cut : {A : Type 0} (xs : List A) (i : ℕ) (d : A) → i < length xs → take (i + 1 - i) (drop i xs) ≡ get_or xs i d ∷ []
one_cut xs i d inside = let one : i + 1 - i ≡ 1 = omega arith in ap (λ n. take n (drop i xs)) one ∙ ap (take 1) (drop-cons xs i d inside)

-- Of the records before the index these count, and where they are good, so are all before it.
pub record CountedUpTo (shape : Shape) (levels : ℕ) (fs : List FieldShape) (oneof_runs : OneofRuns) (known : List Record) (place : ℕ)
    (left : List Record) : Type 0 where
  pub counted : CountedSoFar fs oneof_runs known place left
  pub good : RecordsGood shape levels fs (map seen_record left) → RecordsGood shape levels fs (map seen_record (take place known))

module _ (shape : Shape) (levels : ℕ) (fs : List FieldShape) (rising : Rising fs) (oneof_runs : OneofRuns) (known : List Record) where
  pub none_counted : CountedUpTo shape levels fs oneof_runs known 0 []
  none_counted = record { counted = none_so_far fs rising oneof_runs known; good = λ h. h }

  module _ (are_records : AllByRecursion IsRecord (map seen_record known))
      (are_known : AllByRecursion (λ r. is_unknown fs r ≡ false) (map seen_record known)) (place : ℕ) (left : List Record)
      (was : CountedUpTo shape levels fs oneof_runs known place left) (inside : place < length known) where
    -- some field takes the record there
    pub some_field : (d : Record) → field_at fs (get_or known place d).number ≡ None → ⊥
    some_field d none = found_there fs rising oneof_runs known are_records are_known place left was.counted inside d none

    module _ (d : Record) (f : FieldShape) (found : field_at fs (get_or known place d).number ≡ Some f) where
      taken : Taken fs (seen_record (get_or known place d)) f
      taken = record { found = found; taken = taken_there fs rising oneof_runs known are_records are_known place left was.counted inside d f found }

      one_of : AreOf f (map seen_record (take (place + 1 - place) (drop place known)))
      one_of =
          subst (λ rs. AreOf f (map seen_record rs)) (sym (one_cut known place d inside)) ((seen_at IsRecord known place d inside are_records, taken.taken), tt)

      one_some : take (place + 1 - place) (drop place known) ≢ []
      one_some none = search (rules, one_cut)

      pub one_run : AreOf f (map seen_record (take (place + 1 - place) (drop place known))) × (take (place + 1 - place) (drop place known) ≢ [])
      one_run = (one_of, one_some)

      pub one_good : RecordsGood shape levels fs (map seen_record known)
          → AreGood shape levels f (map seen_record (take (place + 1 - place) (drop place known)))
      one_good h =
          subst (λ rs. AreGood shape levels f (map seen_record rs)) (sym (one_cut known place d inside)) (
            good_of_field shape levels fs (seen_record (get_or known place d)) f taken
                (seen_at (IsGood shape levels fs) known place d inside (good_each shape levels fs (map seen_record known) h)),
            tt,
          )

      -- where all before the index and the one there are good, so are all before the next
      more_good : RecordsGood shape levels fs (map seen_record (take place known)) → IsGood shape levels fs (seen_record (get_or known place d))
          → RecordsGood shape levels fs (map seen_record (take (place + 1) known))
      more_good h one =
          each_good shape levels fs (map seen_record (take (place + 1) known))
          (subst (AllByRecursion (IsGood shape levels fs))
          (sym (ap (map seen_record) (take_more known place d inside) ∙ map-append seen_record (take place known) (get_or known place d ∷ [])))
          (each-append (IsGood shape levels fs) (map seen_record (take place known)) (seen_record (get_or known place d) ∷ [])
          (good_each shape levels fs (map seen_record (take place known)) h) (one, tt)))

      pub one_kept : counts_at oneof_runs f place ≡ true → CountedUpTo shape levels fs oneof_runs known (place + 1) (left ++ get_or known place d ∷ [])
      one_kept counts = record {
        counted = one_counts_more fs rising oneof_runs known are_records are_known place left was.counted inside d f found counts;
        good = λ h.
            let each =
            subst (AllByRecursion (IsGood shape levels fs)) (map-append seen_record left (get_or known place d ∷ []))
            (good_each shape levels fs (map seen_record (left ++ get_or known place d ∷ [])) h) in
            more_good (was.good (each_good shape levels fs (map seen_record left)
            (each_before (IsGood shape levels fs) (map seen_record left) (seen_record (get_or known place d) ∷ []) each)))
            (each_after (IsGood shape levels fs) (map seen_record left) (seen_record (get_or known place d) ∷ []) each).0;
      }

      pub one_read : counts_at oneof_runs f place ≡ false → AreGood shape levels f (map seen_record (take (place + 1 - place) (drop place known)))
          → CountedUpTo shape levels fs oneof_runs known (place + 1) left
      one_read drops good = record {
        counted = one_drops fs rising oneof_runs known are_records are_known place left was.counted inside d f found drops;
        good = λ h.
            more_good (was.good h)
            (good_by_field shape levels fs rising (seen_record (get_or known place d)) f taken
            (subst (λ rs. AreGood shape levels f (map seen_record rs)) (one_cut known place d inside) good).0);
      }

  pub all_counted_good : (place : ℕ) (left : List Record) → length known ≤ place → CountedUpTo shape levels fs oneof_runs known place left
      → RecordsGood shape levels fs (map seen_record left) → RecordsGood shape levels fs (map seen_record known)
  all_counted_good place left all was h = subst (λ rs. RecordsGood shape levels fs (map seen_record rs)) (take_all place known all) (was.good h)
