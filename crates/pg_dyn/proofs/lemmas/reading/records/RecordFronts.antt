-- The records of bytes, one after the other.
use Rattle.std.proofs.Common.{◌≡◌, ℕ, List, [], ◌∷◌, ◌++◌, length, Result, Ok, Err, ap, sym, ◌∙◌, append_assoc, length-append, refl, ◌+◌, ◌≤◌, arith, rules}
use Rattle.std.proofs.lemmas.List.{append-nil}
use Rattle.pg_wire.proofs.Bind.{ok_pair}
use Rattle.pg_wire.proofs.RecordLaws.{Spells-more, record_at_takes, records_of_Spells}
use Rattle.pg_wire.specs.Reads.{results}
use Rattle.pg_wire.specs.Records.{IsRecord, Spells, WireRecord, records_of, record_at}
use Rattle.pg_wire.specs.declared.error.WireError.{WireError}
use Rattle.pg_dyn.proofs.lemmas.reading.DecodeLoop.{end_step, err_step, ok_step}
use Rattle.pg_dyn.proofs.lemmas.reading.faults.Faulty.{first_of, nonempty, split_at}

-- The bytes, of which a front is read as these records; the iterator gives what is left.
pub record Front (bytes : List ℕ) (left : List (Result WireRecord WireError)) (rs : List WireRecord) : Type 0 where
  pub front : List ℕ
  pub rest : List ℕ
  pub joined : bytes ≡ front ++ rest
  pub left_is : left ≡ results (length front) rest
  pub spelled : Spells front rs

abbrev pub none_yet : (bytes : List ℕ) → Front bytes (results 0 bytes) []
none_yet bytes = record { front = []; rest = bytes; joined = refl; left_is = refl; spelled = record { joined = refl; each = tt } }

module _ (bytes : List ℕ) (left : List (Result WireRecord WireError)) (rs : List WireRecord) (a : Front bytes left rs) where
  pub all_read : left ≡ [] → records_of bytes ≡ Ok rs
  all_read none = search (rules, end_step, append-nil, records_of_Spells)

  pub no_records : (e : WireError) (later : List (Result WireRecord WireError)) → left ≡ Err e ∷ later → (all : List WireRecord) → records_of bytes ≡ Ok all → ⊥
  no_records e later h all whole =
      let step = err_step (length a.front) a.rest e later (sym a.left_is ∙ h) in
      let parts = split_at bytes a.front a.rest rs all a.joined a.spelled whole in
      let head = first_of a.rest parts.others parts.spelled step.some in
      let clash = sym head.read ∙ step.read in cc

  module _ (r : WireRecord) (later : List (Result WireRecord WireError)) (h : left ≡ Ok r ∷ later) where
    -- the bytes after the record
    abbrev pub behind : List ℕ
    behind = (ok_step (length a.front) a.rest r later (sym a.left_is ∙ h)).later

    pub next_read : record_at a.rest ≡ Ok (r, behind)
    next_read = (ok_step (length a.front) a.rest r later (sym a.left_is ∙ h)).read

    taken : IsRecord r × (a.rest ≡ r.bytes ++ behind)
    taken = record_at_takes a.rest r behind next_read

    pub next_is_record : IsRecord r
    next_is_record = taken.0

    pub next_inside : length a.front + length r.bytes ≤ length bytes
    next_inside = omega (arith, ap length a.joined, length-append a.front a.rest, ap length taken.1, length-append r.bytes behind)

    pub one_read : Front bytes later (rs ++ r ∷ [])
    one_read = record {
      front = a.front ++ r.bytes;
      rest = behind;
      joined = a.joined ∙ ap (λ xs. a.front ++ xs) taken.1 ∙ sym (append_assoc a.front r.bytes behind);
      left_is = (ok_step (length a.front) a.rest r later (sym a.left_is ∙ h)).left_is ∙ ap (λ n. results n behind) (sym (length-append a.front r.bytes));
      spelled = Spells-more a.front rs r a.spelled taken.0;
    }

    pub further : length one_read.front ≡ length a.front + length r.bytes
    unfolding one_read
    further = length-append a.front r.bytes

    -- the record is the next of all
    pub next_of_all : (all : List WireRecord) → records_of bytes ≡ Ok all → (others : List WireRecord) × (all ≡ rs ++ r ∷ others)
    next_of_all all whole =
        let s = ok_step (length a.front) a.rest r later (sym a.left_is ∙ h) in
        let parts = split_at bytes a.front a.rest rs all a.joined a.spelled whole in
        let head = first_of a.rest parts.others parts.spelled (nonempty a.rest r s.later s.read) in
        let same = ok_pair head.first r _ s.later (sym head.read ∙ s.read) in
        (head.others, parts.are ∙ ap (λ xs. rs ++ xs) (head.are ∙ ap (λ x. x ∷ head.others) same.0))
