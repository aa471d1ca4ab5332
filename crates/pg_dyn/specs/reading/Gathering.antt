-- The records of a message, gathered before they are read field by field (Encoding guide, "Message Structure"; language guide, "Oneof":
-- of the members of a oneof only the last counts).
use Rattle.std.specs.Prelude.{◌≡◌, ⊤, ℕ, suc, ◌≤◌, List, [], ◌∷◌, map, filter, length, Bool, true, false, not, ◌&&◌, nat_eq, nat_le, if◌then◌else◌, Option, Some, None}
use Rattle.std.specs.List.{AllByRecursion}
use Rattle.std.specs.Ordering.{nat_cmp}
use Rattle.std.specs.BTreeMap.{get}
use Rattle.pg_schema.specs.declared.parts.field.TypeId.{TypeId}
use Rattle.pg_schema.specs.Shape.{Shape, FieldShape, fields, field_at}
use Rattle.pg_wire.specs.declared.record.Record.{Record}
use Rattle.pg_wire.specs.Reads.{seen_record}
use Rattle.pg_wire.specs.Records.{WireRecord, IsRecord}
use Rattle.pg_dyn.specs.declared.reading.gathering.Gathered.{Gathered}
use Rattle.pg_dyn.specs.declared.reading.oneof_runs.OneofRun.{OneofRun}
use Rattle.pg_dyn.specs.declared.reading.oneof_runs.OneofRuns.{OneofRuns}
use Rattle.pg_dyn.specs.reading.Content.{counted, is_unknown, takes}

-- the elements that pass the test, which gets their indexes
abbrev pub filter_at : {A : Type 0} → (ℕ → A → Bool) → ℕ → List A → List A
filter_at test place [] = []
filter_at test place (x ∷ xs) = if test place x then x ∷ filter_at test (suc place) xs else filter_at test (suc place) xs

-- whether a record of the field, at that index, is of the last run of its oneof
abbrev pub counts_at : OneofRuns → FieldShape → ℕ → Bool
counts_at oneof_runs f place = of f.oneof
  where
    in_run : Option OneofRun → Bool
    in_run None = false
    in_run (Some s) = nat_eq s.number f.number && nat_le s.start place

    of : Option ℕ → Bool
    of None = true
    of (Some oneof) = in_run (get nat_cmp oneof_runs.by_oneof oneof)

-- the records that some field accepts
abbrev pub known_of : List FieldShape → List WireRecord → List WireRecord
known_of fs rs = filter (λ r. not (is_unknown fs r)) rs

-- The oneof_runs say which of the records count.
pub record AreOneofRuns (fs : List FieldShape) (rs : List WireRecord) (oneof_runs : OneofRuns) : Type 0 where
  pub which : (f : FieldShape) → field_at fs f.number ≡ Some f → counted fs f rs ≡ filter_at (λ place r. takes f r && counts_at oneof_runs f place) 0 rs
  pub begun : (oneof : ℕ) (s : OneofRun) → get nat_cmp oneof_runs.by_oneof oneof ≡ Some s → s.start ≤ length rs
  pub all : oneof_runs.all_count ≡ true → (f : FieldShape) → field_at fs f.number ≡ Some f → counted fs f rs ≡ filter (takes f) rs

-- These records were gathered.
pub record AreGathered (shape : Shape) (type : TypeId) (rs : List WireRecord) (g : Gathered) : Type 0 where
  pub are_records : AllByRecursion IsRecord rs
  pub known : map seen_record g.known.items ≡ known_of (fields shape type) rs
  pub unknown : map seen_record g.unknown.items ≡ filter (is_unknown (fields shape type)) rs
  pub oneof_runs : AreOneofRuns (fields shape type) (known_of (fields shape type) rs) g.oneof_runs

-- the records' numbers never fall
abbrev pub NumbersRise : List Record → Type 0
NumbersRise [] = ⊤
NumbersRise (r ∷ rs) = AllByRecursion (λ (s : Record). r.number ≤ s.number) rs × NumbersRise rs

-- The records are by rising number, those of each number in their order.
pub record AreByNumber (old new : List Record) : Type 0 where
  pub rise : NumbersRise new
  pub same : (number : ℕ) → filter (λ (r : Record). nat_eq r.number number) new ≡ filter (λ (r : Record). nat_eq r.number number) old

-- Of gathered records these count, in any order of the fields.
pub record IsCounted (fs : List FieldShape) (rs left : List WireRecord) : Type 0 where
  pub are_records : AllByRecursion IsRecord left
  pub known : AllByRecursion (λ r. is_unknown fs r ≡ false) left
  pub which : (f : FieldShape) → field_at fs f.number ≡ Some f → filter (takes f) left ≡ counted fs f rs
