-- The records of bodies that are read as one message.
use Rattle.std.proofs.Common.{◌≡◌, ℕ, zero, suc, drop, ◌+◌, ◌<◌, ◌≤◌, get_or, take_all, List, [], ◌∷◌, ◌++◌, map, flat_map, take, length, true, Some, is_some, Result, Ok, Err, refl, ap, sym, ◌∙◌, subst, arith, append_assoc, append-nil, rules}
use Rattle.std.specs.List.{AllByRecursion, list_all}
use Rattle.std.proofs.lemmas.List.{map-append, map_more}
use Rattle.pg_schema.specs.declared.parts.field.TypeId.{TypeId}
use Rattle.pg_schema.specs.Shape.{Shape, FieldShape, fields}
use Rattle.pg_wire.specs.declared.record.Record.{Record}
use Rattle.pg_wire.specs.Reads.{seen_record}
use Rattle.pg_wire.specs.Reading.{Fault}
use Rattle.pg_wire.specs.Records.{WireRecord, IsRecord, Spells, record_at, records_of}
use Rattle.pg_wire.proofs.Bind.{ok_pair}
use Rattle.pg_wire.proofs.RecordLaws.{record_at-append, records_of_Spells, Spells_from_records_of, Spells-more}
use Rattle.pg_dyn.specs.declared.reading.gathering.Gathered.{Gathered}
use Rattle.pg_dyn.specs.reading.ByFields.{BodiesGood, RecordsGood}
use Rattle.pg_dyn.specs.reading.Decoding.{dec, read_records}
use Rattle.pg_dyn.specs.reading.Gathering.{AreGathered}
use Rattle.pg_dyn.specs.message.Message.{Message}
use Rattle.pg_dyn.specs.reading.Steps.{IsShallowIn, IsShallowRecord}
use Rattle.pg_dyn.specs.reading.Faults.{TooDeep}
use Rattle.pg_dyn.specs.reading.Faults as faults
use Rattle.pg_dyn.specs.encoding.Writing.{bytes_of}
use Rattle.pg_dyn.proofs.lemmas.reading.Depth.{dec_is}
use Rattle.pg_dyn.proofs.lemmas.reading.faults.Faulty.{each_mid, first_of, nonempty, split_at}
use Rattle.pg_dyn.proofs.lemmas.reading.records.Joining.{dec_from_readable, list_all-append, readable_from_dec, records_of-append}
use Rattle.pg_dyn.proofs.Lists.{each-append, each_after, each_before, flat_map-append', list_all_each, list_all_true}

ok_records : (rs ss : List WireRecord) → ◌≡◌ {A = Result (List WireRecord) Fault} (Ok rs) (Ok ss) → rs ≡ ss
ok_records rs ss e = cc

-- Nothing is too deep in bytes where nothing does in any of their records.
module _ (shape : Shape) (levels : ℕ) (fs : List FieldShape) (bytes : List ℕ) (rs : List WireRecord) (spelled : records_of bytes ≡ Ok rs) where
  one_shallow : AllByRecursion (IsShallowRecord shape levels fs) rs → (front back rest : List ℕ) (before : List WireRecord) (r : WireRecord)
      → bytes ≡ front ++ back → Spells front before → record_at back ≡ Ok (r, rest) → IsShallowRecord shape levels fs r
  one_shallow shallow front back rest before r joined spells read =
      let parts = split_at bytes front back before rs joined spells spelled in
      let head = first_of back parts.others parts.spelled (nonempty back r rest read) in
      let same = ok_pair head.first r _ rest (sym head.read ∙ read) in
      let are : rs ≡ before ++ r ∷ head.others = parts.are ∙ ap (λ xs. before ++ xs) (head.are ∙ ap (λ x. x ∷ head.others) same.0) in
      each_mid (IsShallowRecord shape levels fs) before r head.others (subst (AllByRecursion (IsShallowRecord shape levels fs)) are shallow)

  pub shallow_from_records : AllByRecursion (IsShallowRecord shape levels fs) rs → IsShallowIn shape (suc levels) fs bytes
  shallow_from_records shallow place h = search (rules, arith, one_shallow)

  rest_shallow : IsShallowIn shape (suc levels) fs bytes → (front : List ℕ) (before later : List WireRecord) → Spells front before
      → AllByRecursion IsRecord later → bytes ≡ front ++ bytes_of later
      → AllByRecursion (IsShallowRecord shape levels fs) later
  rest_shallow shallow front before [] spells are joined = tt
  rest_shallow shallow front before (r ∷ later) spells are joined = (
    λ f taken place too_deep. shallow (length front + place)
        (faults.in_record levels fs bytes front (bytes_of (r ∷ later)) (bytes_of later) r f TooDeep place joined (before, spells)
        (record_at-append r (bytes_of later) are.0) taken.found taken.taken too_deep),
    rest_shallow shallow (front ++ r.bytes) (before ++ r ∷ []) later (Spells-more front before r spells are.0) are.1
        (joined ∙ sym (append_assoc front r.bytes (bytes_of later))),
  )

  pub records_shallow : IsShallowIn shape (suc levels) fs bytes → AllByRecursion (IsShallowRecord shape levels fs) rs
  records_shallow shallow =
      let spells = Spells_from_records_of bytes rs spelled in
      rest_shallow shallow [] [] rs (record { joined = refl; each = tt }) spells.each spells.joined

-- Bytes are read, and nothing is too deep, exactly where that is so of their records.
module _ (shape : Shape) (levels : ℕ) (type : TypeId) (bytes : List ℕ) (rs : List WireRecord) (spelled : records_of bytes ≡ Ok rs) where
  pub bytes_good : RecordsGood shape levels (fields shape type) rs
      → (is_some (dec shape type bytes) ≡ true) × IsShallowIn shape (suc levels) (fields shape type) bytes
  bytes_good h = (dec_from_readable shape type bytes (rs, spelled, h.0), shallow_from_records shape levels (fields shape type) bytes rs spelled h.1)

  pub records_good : (is_some (dec shape type bytes) ≡ true) × IsShallowIn shape (suc levels) (fields shape type) bytes
      → RecordsGood shape levels (fields shape type) rs
  records_good h = search (rules, readable_from_dec, ok_records, records_shallow)

  pub bytes_read : (m : Message) → read_records (dec shape) (fields shape type) rs ≡ Some m → dec shape type bytes ≡ Some m
  bytes_read m h = rw (dec_is shape type bytes, spelled) h

-- Bodies, each of which records spell.

abbrev pub own_records : WireRecord → List WireRecord
own_records b = of (records_of b.body)
  where
    of : Result (List WireRecord) Fault → List WireRecord
    of (Ok rs) = rs
    of (Err fault) = []

abbrev pub IsSpelled : WireRecord → Type 0
IsSpelled b = records_of b.body ≡ Ok (own_records b)

abbrev pub bodies_of : List WireRecord → List ℕ
bodies_of bs = flat_map (λ (b : WireRecord). b.body) bs

pub spelled_by : (b : WireRecord) (rs : List WireRecord) → records_of b.body ≡ Ok rs → own_records b ≡ rs
spelled_by b rs h = rw h

pub is_spelled : (b : WireRecord) (rs : List WireRecord) → records_of b.body ≡ Ok rs → IsSpelled b
is_spelled b rs h = h ∙ ap (λ ss. Ok ss) (sym (spelled_by b rs h))

pub bodies_spelled : (bs : List WireRecord) → AllByRecursion IsSpelled bs → records_of (bodies_of bs) ≡ Ok (flat_map own_records bs)
bodies_spelled [] h = records_of_Spells [] [] (record { joined = refl; each = tt })
bodies_spelled (b ∷ bs) h = records_of-append b.body (bodies_of bs) (own_records b) (flat_map own_records bs) h.0 (bodies_spelled bs h.1)

module _ (shape : Shape) (levels : ℕ) (fs : List FieldShape) where
  good_parts : (rs ss : List WireRecord) → RecordsGood shape levels fs (rs ++ ss) → RecordsGood shape levels fs rs × RecordsGood shape levels fs ss
  good_parts rs ss h = search (rules, list_all_true, list_all_each, each_before, each_after)

  good_joined : (rs ss : List WireRecord) → RecordsGood shape levels fs rs → RecordsGood shape levels fs ss → RecordsGood shape levels fs (rs ++ ss)
  good_joined rs ss h k = search (rules, list_all-append, each-append)

-- Each body is good exactly where the records of all are.
module _ (shape : Shape) (levels : ℕ) (type : TypeId) where
  abbrev pub IsBodyGood : WireRecord → Type 0
  IsBodyGood b = (is_some (dec shape type b.body) ≡ true) × IsShallowIn shape (suc levels) (fields shape type) b.body

  pub each_body_good : (bs : List WireRecord) → AllByRecursion IsSpelled bs → RecordsGood shape levels (fields shape type) (flat_map own_records bs)
      → AllByRecursion IsBodyGood bs
  each_body_good [] h good = tt
  each_body_good (b ∷ bs) h good =
      let parts = good_parts shape levels (fields shape type) (own_records b) (flat_map own_records bs) good in
      (bytes_good shape levels type b.body (own_records b) h.0 parts.0, each_body_good bs h.1 parts.1)

  pub all_records_good : (bs : List WireRecord) → AllByRecursion IsSpelled bs → AllByRecursion IsBodyGood bs
      → RecordsGood shape levels (fields shape type) (flat_map own_records bs)
  all_records_good [] h good = (refl, tt)
  all_records_good (b ∷ bs) h good =
      search (rules, good_joined, records_good, all_records_good bs h.1 good.1)

-- What is gathered of bodies.

pub record AreOpened (shape : Shape) (type : TypeId) (bs : List WireRecord) (g : Gathered) : Type 0 where
  pub spelled : AllByRecursion IsSpelled bs
  pub gathered : AreGathered shape type (flat_map own_records bs) g

-- the records of bytes were gathered after those before them
abbrev pub Gathers : Shape → TypeId → List ℕ → Gathered → Gathered → Type 0
Gathers shape type bytes old new =
    (rs : List WireRecord) × (records_of bytes ≡ Ok rs)
    × ((before : List WireRecord) → AreGathered shape type before old → AreGathered shape type (before ++ rs) new)

pub opened_more : (shape : Shape) (type : TypeId) (bs : List WireRecord) (b : WireRecord) (old new : Gathered) → AreOpened shape type bs old
    → Gathers shape type b.body old new → AreOpened shape type (bs ++ b ∷ []) new
opened_more shape type bs b old new h k =
    search (rules, spelled_by, flat_map-append', append-nil, each-append, is_spelled)

module _ (shape : Shape) (type : TypeId) (bs : List WireRecord) (g : Gathered) (h : AreOpened shape type bs g) where
  -- what the gathered records say is what the bodies say, one after the other
  pub opened_read : (m : Message) → read_records (dec shape) (fields shape type) (flat_map own_records bs) ≡ Some m → dec shape type (bodies_of bs) ≡ Some m
  opened_read m read = bytes_read shape 0 type (bodies_of bs) (flat_map own_records bs) (bodies_spelled bs h.spelled) m read

  pub opened_good : (levels l : ℕ) → levels ≡ suc l → RecordsGood shape l (fields shape type) (flat_map own_records bs) → BodiesGood shape levels type bs
  opened_good levels l is good =
      subst (λ n. BodiesGood shape n type bs) (sym is) ((λ none. absurd (omega arith)), each_body_good shape l type bs h.spelled good)

  pub good_opened : (levels l : ℕ) → levels ≡ suc l → BodiesGood shape levels type bs → RecordsGood shape l (fields shape type) (flat_map own_records bs)
  good_opened levels l is good =
      all_records_good shape l type bs h.spelled
      (subst (λ n. AllByRecursion (λ (b : WireRecord). (is_some (dec shape type b.body) ≡ true) × IsShallowIn shape n (fields shape type) b.body) bs) is good.1)

-- The bodies of the records of a run, one after the other.

pub seen_at : (P : WireRecord → Type 0) (run : List Record) (place : ℕ) (d : Record) → place < length run → AllByRecursion P (map seen_record run)
    → P (seen_record (get_or run place d))
seen_at P [] place d below h = absurd (omega arith)
seen_at P (r ∷ run) zero d below h = h.0
seen_at P (r ∷ run) (suc place) d below h = seen_at P run place d (omega arith) h.1

module _ (shape : Shape) (type : TypeId) (run : List Record) (place : ℕ) where
  pub opened_step : (d : Record) (old new : Gathered) → place < length run → AreOpened shape type (map seen_record (take place run)) old
      → Gathers shape type (seen_record (get_or run place d)).body old new
      → AreOpened shape type (map seen_record (take (place + 1) run)) new
  opened_step d old new below h k =
      subst (λ bs. AreOpened shape type bs new) (sym (map_more seen_record run place d below))
      (opened_more shape type (map seen_record (take place run)) (seen_record (get_or run place d)) old new h k)

  pub opened_all : (g : Gathered) → length run ≤ place → AreOpened shape type (map seen_record (take place run)) g
      → AreOpened shape type (map seen_record run) g
  opened_all g all h = subst (λ rs. AreOpened shape type (map seen_record rs) g) (take_all place run all) h

  -- of good bodies each is spelled by records
  pub good_spelled : (levels : ℕ) (d : Record) → place < length run → BodiesGood shape levels type (map seen_record run)
      → (rs : List WireRecord) × (records_of (seen_record (get_or run place d)).body ≡ Ok rs)
  good_spelled levels d below good =
      let one = seen_at (λ b. (is_some (dec shape type b.body) ≡ true) × IsShallowIn shape levels (fields shape type) b.body) run place d below good.1 in
      let read = readable_from_dec shape type (seen_record (get_or run place d)).body one.0 in
      (read.0, read.1)

-- The record at an index, as a run of its own.
pub record OneAt (run : List Record) (place : ℕ) : Type 0 where
  pub one : Record
  pub behind : List Record
  pub split : run ≡ take place run ++ one ∷ behind
  pub cut : (n : ℕ) → n ≡ 1 → take n (drop place run) ≡ one ∷ []
  pub front : take (place + 1) run ≡ take place run ++ one ∷ []

pub one_at : (run : List Record) (place : ℕ) → place < length run → OneAt run place
one_at [] place below = absurd (omega arith)
one_at (r ∷ run) zero below = record { one = r; behind = run; split = refl; cut = λ n is. ap (λ k. take k (r ∷ run)) is; front = refl }
one_at (r ∷ run) (suc place) below = search (rules, arith, one_at run place)

-- what holds of each record holds of it
pub one_holds : (P : WireRecord → Type 0) (run : List Record) (place : ℕ) (at : OneAt run place) → AllByRecursion P (map seen_record run)
    → P (seen_record at.one)
one_holds P run place at h = search (rules, each_mid, map-append)
