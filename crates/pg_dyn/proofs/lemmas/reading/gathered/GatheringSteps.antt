-- One more record is gathered.
use Rattle.std.proofs.Common.{◌≡◌, ℕ, List, [], ◌∷◌, ◌++◌, length, map, filter, true, false, not, Result, Ok, ap, sym, subst, ◌∙◌, append_assoc, rules}
use Rattle.std.proofs.lemmas.List.{append-nil, length-map, map-append}
use Rattle.pg_schema.specs.declared.parts.field.TypeId.{TypeId}
use Rattle.pg_schema.specs.Shape.{Shape, FieldShape, fields}
use Rattle.pg_wire.specs.declared.error.WireError.{WireError}
use Rattle.pg_wire.specs.declared.record.Record.{Record}
use Rattle.pg_wire.specs.Reads.{results, seen_record}
use Rattle.pg_wire.specs.Records.{WireRecord, IsRecord, records_of}
use Rattle.pg_dyn.specs.declared.reading.gathering.Gathered.{Gathered}
use Rattle.pg_dyn.specs.reading.Content.{is_unknown}
use Rattle.pg_dyn.specs.reading.Gathering.{AreGathered, AreOneofRuns, known_of}
use Rattle.pg_dyn.proofs.Lists.{each-append, filter-append'}
use Rattle.pg_dyn.proofs.lemmas.reading.records.RecordFronts.{Front, all_read, none_yet, one_read}

module _ (fs : List FieldShape) (rs : List WireRecord) (r : WireRecord) where
  known_more : is_unknown fs r ≡ false → known_of fs (rs ++ r ∷ []) ≡ known_of fs rs ++ r ∷ []
  known_more known = filter-append' (λ x. not (is_unknown fs x)) rs (r ∷ []) ∙ rw known

  known_same : is_unknown fs r ≡ true → known_of fs (rs ++ r ∷ []) ≡ known_of fs rs
  known_same unknown = filter-append' (λ x. not (is_unknown fs x)) rs (r ∷ []) ∙ rw unknown (append-nil (known_of fs rs))

  unknown_more : is_unknown fs r ≡ true → filter (is_unknown fs) (rs ++ r ∷ []) ≡ filter (is_unknown fs) rs ++ r ∷ []
  unknown_more unknown = filter-append' (is_unknown fs) rs (r ∷ []) ∙ rw unknown

  unknown_same : is_unknown fs r ≡ false → filter (is_unknown fs) (rs ++ r ∷ []) ≡ filter (is_unknown fs) rs
  unknown_same known = filter-append' (is_unknown fs) rs (r ∷ []) ∙ rw known (append-nil (filter (is_unknown fs) rs))

-- the records so far that some field accepts are as many as were kept
pub known_length : (shape : Shape) (type : TypeId) (rs : List WireRecord) (old : Gathered) → AreGathered shape type rs old
    → length (known_of (fields shape type) rs) ≡ length old.known.items
known_length shape type rs old h = ap length (sym h.known) ∙ length-map old.known.items seen_record

module _ (shape : Shape) (type : TypeId) (rs : List WireRecord) (old new : Gathered) (h : AreGathered shape type rs old) where
  pub known_added : (found : Record) → IsRecord (seen_record found) → is_unknown (fields shape type) (seen_record found) ≡ false
      → new.known.items ≡ old.known.items ++ found ∷ [] → new.unknown ≡ old.unknown
      → AreOneofRuns (fields shape type) (known_of (fields shape type) rs ++ seen_record found ∷ []) new.oneof_runs
      → AreGathered shape type (rs ++ seen_record found ∷ []) new
  known_added found is known items same oneof_runs =
      search (rules, each-append, map-append, known_more, unknown_same)

  pub unknown_added : (found : Record) → IsRecord (seen_record found) → is_unknown (fields shape type) (seen_record found) ≡ true
      → new.unknown.items ≡ old.unknown.items ++ found ∷ [] → new.known ≡ old.known → new.oneof_runs ≡ old.oneof_runs
      → AreGathered shape type (rs ++ seen_record found ∷ []) new
  unknown_added found is unknown items same oneof_runs =
      search (rules, each-append, known_same, map-append, unknown_more)

-- The records of bytes are gathered after others.

pub record GatheringAhead (shape : Shape) (type : TypeId) (bytes : List ℕ) (old now : Gathered) (left : List (Result WireRecord WireError)) : Type 0 where
  pub records : List WireRecord
  pub front : Front bytes left records
  pub gathered : (before : List WireRecord) → AreGathered shape type before old → AreGathered shape type (before ++ records) now

module _ (shape : Shape) (type : TypeId) (bytes : List ℕ) (old : Gathered) where
  pub begin : (left : List (Result WireRecord WireError)) → left ≡ results 0 bytes → GatheringAhead shape type bytes old old left
  begin left is = search (rules, none_yet, append-nil)

  module _ (now : Gathered) (left : List (Result WireRecord WireError)) (a : GatheringAhead shape type bytes old now left) where
    pub onward : (r : WireRecord) (later : List (Result WireRecord WireError)) → left ≡ Ok r ∷ later → (new : Gathered)
        → ((rs : List WireRecord) → AreGathered shape type rs now → AreGathered shape type (rs ++ r ∷ []) new) → GatheringAhead shape type bytes old new later
    onward r later h new step = record {
      records = a.records ++ r ∷ [];
      front = one_read bytes left a.records a.front r later h;
      gathered = λ before k. subst (λ rs. AreGathered shape type rs new) (append_assoc before a.records (r ∷ []))
          (step (before ++ a.records) (a.gathered before k));
    }

    pub done : left ≡ [] → (rs : List WireRecord) × (records_of bytes ≡ Ok rs)
        × ((before : List WireRecord) → AreGathered shape type before old → AreGathered shape type (before ++ rs) now)
    done none = (a.records, all_read bytes left a.records a.front none, a.gathered)
