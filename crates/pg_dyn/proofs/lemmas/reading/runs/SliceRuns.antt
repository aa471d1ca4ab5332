-- Records of a slice, one by one.
use Rattle.std.proofs.Common.{◌≡◌, ℕ, suc, zero, ◌+◌, ◌<◌, ◌≤◌, List, [], ◌∷◌, ◌++◌, length, get_or, map, take, refl, ap, ◌∙◌, arith, add-one}
use Rattle.std.specs.List.{AllByRecursion}
use Rattle.std.proofs.lemmas.List.{take_all}
use Rattle.pg_wire.specs.declared.record.Record.{Record}
use Rattle.pg_wire.specs.declared.record.WireType.TheVariants.{Varint}
use Rattle.pg_wire.specs.Reads.{seen_record}
use Rattle.pg_wire.specs.Records.{WireRecord}

-- the record at an index inside, as goals write it
abbrev blank : Record
blank = record { number = 0; wire_type = Varint; body = record { ref_ptr = (0, 0); now = [] }; bytes = record { ref_ptr = (0, 0); now = [] } }

abbrev pub record_in : List Record → ℕ → WireRecord
record_in run i = seen_record (get_or run i blank)

-- what holds of each record holds of the one at an index
pub holds_in : (P : WireRecord → Type 0) (run : List Record) (i : ℕ) → i < length run → AllByRecursion P (map seen_record run) → P (record_in run i)
holds_in P [] i inside each = absurd (omega arith)
holds_in P (x ∷ xs) zero inside each = each.0
holds_in P (x ∷ xs) (suc i) inside each = holds_in P xs i (omega arith) each.1

-- one record more
pub one_more : (run : List Record) (i : ℕ) → i < length run → map seen_record (take (i + 1) run) ≡ map seen_record (take i run) ++ record_in run i ∷ []
one_more run i inside = ap (λ n. map seen_record (take n run)) (add-one i) ∙ more run i inside
  where
    more : (xs : List Record) (k : ℕ) → k < length xs → map seen_record (take (suc k) xs) ≡ map seen_record (take k xs) ++ record_in xs k ∷ []
    more [] k below = absurd (omega arith)
    more (x ∷ xs) zero below = refl
    more (x ∷ xs) (suc k) below = ap (λ rs. seen_record x ∷ rs) (more xs k (omega arith))

-- all records
pub all_of : (run : List Record) (i : ℕ) → length run ≤ i → map seen_record (take i run) ≡ map seen_record run
all_of run i past = ap (map seen_record) (take_all i run past)

pub some_seen : (run : List Record) → map seen_record run ≡ [] → run ≡ []
some_seen [] h = refl
some_seen (x ∷ xs) h = absurd (cc)
