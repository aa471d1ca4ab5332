-- Runs of records of one number, in records by rising number, and the contents that they say.
use Rattle.std.proofs.Common.{◌≡◌, ◌≢◌, ℕ, zero, suc, ◌+◌, ◌-◌, ◌<◌, ◌≤◌, List, [], ◌∷◌, ◌++◌, length, map, get_or, take, drop, length-drop, true, Option, Some, refl, ap, sym, subst, ◌∙◌, arith, rules}
use Rattle.std.specs.List.{AllByRecursion}
use Rattle.std.proofs.lemmas.List.{drop-drop, get_or-drop, map-append, take_all}
use Rattle.std.proofs.Math.Seq.{drop-cons, take-add}
use Rattle.pg_schema.specs.declared.parts.field.TypeId.{TypeId}
use Rattle.pg_schema.specs.Shape.{Shape, FieldShape, fields, field_at}
use Rattle.pg_schema.specs.ShapeRules.{Rising}
use Rattle.pg_wire.specs.declared.record.Record.{Record}
use Rattle.pg_wire.specs.Reads.{seen_record}
use Rattle.pg_wire.specs.Records.{WireRecord, IsRecord}
use Rattle.pg_dyn.specs.declared.message_ref.ContentRef.{ContentRef}
use Rattle.pg_dyn.specs.reading.ByFields.{AllCount, AreGood, AreOf, HoldsOf, RecordsGood}
use Rattle.pg_dyn.specs.reading.Content.{takes}
use Rattle.pg_dyn.specs.reading.Decoding.{dec, read_records}
use Rattle.pg_dyn.specs.fitting.Fits.{Fits}
use Rattle.pg_dyn.specs.reading.Gathering.{NumbersRise}
use Rattle.pg_dyn.specs.message.Kept.{ends, message_of}
use Rattle.pg_dyn.specs.message_ref.Borrowed.{fields_onto}
use Rattle.pg_dyn.specs.reading.Steps.{FieldReads, HeldFits, IsShallow, Taken}
use Rattle.pg_dyn.proofs.lemmas.reading.by_fields.ByFields.{ReadSoFar, one_field, whole_fits, whole_read, with_held}
use Rattle.pg_dyn.proofs.lemmas.reading.gathered.GoodRecords.{IsGood, each_good, good_by_field, good_each, good_of_field, same_found}
use Rattle.pg_dyn.proofs.Lists.{each-append, each-map, each_both, each_unmapped, each_weaker}
use Rattle.pg_dyn.proofs.lemmas.reading.records.Splitting.{found_number}
use Rattle.pg_dyn.proofs.lemmas.fitting.FitsSteps.{same_default}

rise_drop : (k : ℕ) (rs : List Record) → NumbersRise rs → NumbersRise (drop k rs)
rise_drop zero rs h = h
rise_drop (suc k) [] h = h
rise_drop (suc k) (r ∷ rs) h = rise_drop k rs h.1

each_take : {A : Type 0} (P : A → Type 0) (k : ℕ) (xs : List A) → AllByRecursion P xs → AllByRecursion P (take k xs)
each_take P zero xs h = tt
each_take P (suc k) [] h = tt
each_take P (suc k) (x ∷ xs) h = (h.0, each_take P k xs h.1)

each_drop : {A : Type 0} (P : A → Type 0) (k : ℕ) (xs : List A) → AllByRecursion P xs → AllByRecursion P (drop k xs)
each_drop P zero xs h = h
each_drop P (suc k) [] h = tt
each_drop P (suc k) (x ∷ xs) h = each_drop P k xs h.1

-- in records by rising number, those from an index on where the number is another have greater numbers than the first
greater : (n k : ℕ) (rs : List Record) → NumbersRise rs → AllByRecursion (λ (s : Record). n ≤ s.number) rs
    → ((d : Record) → k < length rs → (get_or rs k d).number ≢ n)
    → AllByRecursion (λ (s : Record). n < s.number) (drop k rs)
greater n zero [] rise h other = tt
greater n (suc k) [] rise h other = tt
greater n zero (r ∷ rs) rise h other =
    let apart : r.number ≢ n = other r (omega arith) in
    let above : n < r.number = omega (arith, h.0) in
    (above, each_weaker (λ (s : Record). r.number ≤ s.number) (λ (s : Record). n < s.number) (λ s low. omega arith) rs rise.0)
greater n (suc k) (r ∷ rs) rise h other = greater n k rs rise.1 h.1 (λ d low. other d (omega arith))

-- the first of them has the least number
least : (rs : List Record) (k : ℕ) (d : Record) → k < length rs → NumbersRise rs
    → AllByRecursion (λ (s : Record). (get_or rs k d).number ≤ s.number) (drop k rs)
least [] k d inside h = absurd (omega arith)
least (r ∷ rs) zero d inside h = (omega arith, h.0)
least (r ∷ rs) (suc k) d inside h = least rs k d (omega arith) h.1

map_none : {A B : Type 0} (h : A → B) (xs : List A) → map h xs ≡ [] → xs ≡ []
map_none h [] e = refl
map_none h (x ∷ xs) e = absurd (cc)

module _ (shape : Shape) (levels : ℕ) (type : TypeId) (sorted : List Record) where
  abbrev Good : Record → Type 0
  Good r = IsGood shape levels (fields shape type) (seen_record r)

  abbrev Known : Record → Type 0
  Known r = (f : FieldShape) × Taken (fields shape type) (seen_record r) f

  abbrev Own : FieldShape → WireRecord → Type 0
  Own f r = IsRecord r × Taken (fields shape type) r f

  abbrev Below : ℕ → Record → Type 0
  Below place r = AllByRecursion (λ (s : Record). r.number < s.number) (drop place sorted)

  -- The contents are what the records before the index say, and those from the index on have greater numbers.
  pub record ReadUpTo (place : ℕ) (cs : List (ℕ × ContentRef)) : Type 0 where
    pub inside : place ≤ length sorted
    pub below : AllByRecursion (Below place) (take place sorted)
    pub read : ReadSoFar shape type (map seen_record (take place sorted)) cs
    pub good : AllByRecursion (IsGood shape levels (fields shape type)) (map seen_record (take place sorted))

  module _ (rising : Rising (fields shape type)) (rise : NumbersRise sorted) (all : AllCount (fields shape type) (map seen_record sorted)) (place : ℕ)
      (here : place < length sorted) where
    -- some field takes the record at the index
    pub field_there : (d : Record) → Known (get_or sorted place d)
    field_there d = of sorted place here (each_unmapped (λ r. (f : FieldShape) × Taken (fields shape type) r f) seen_record sorted all.known)
      where
        of : (rs : List Record) (k : ℕ) → k < length rs → AllByRecursion Known rs → Known (get_or rs k d)
        of [] k inside h = absurd (omega arith)
        of (r ∷ rs) zero inside h = h.0
        of (r ∷ rs) (suc k) inside h = of rs k (omega arith) h.1

    -- The run up to an end, whose number a field has.
    module _ (end : ℕ) (later : place < end) (inside : end ≤ length sorted)
        (run : (d : Record) → AllByRecursion (λ (r : Record). r.number ≡ (get_or sorted place d).number) (take (end - place) (drop place sorted)))
        (d : Record) (f : FieldShape) (found : field_at (fields shape type) (get_or sorted place d).number ≡ Some f) where
      abbrev rows : List Record
      rows = take (end - place) (drop place sorted)

      number : f.number ≡ (get_or sorted place d).number
      number = found_number (fields shape type) (get_or sorted place d).number f found

      own_rows : AllByRecursion (Own f) (map seen_record rows)
      own_rows =
          let known = each_unmapped (λ r. IsRecord r × ((g : FieldShape) × Taken (fields shape type) r g)) seen_record sorted
          (each_both IsRecord (λ r. (g : FieldShape) × Taken (fields shape type) r g) (map seen_record sorted) all.are_records all.known) in
          let in_run =
          each_take (λ (r : Record). IsRecord (seen_record r) × Known r) (end - place) (drop place sorted)
          (each_drop (λ (r : Record). IsRecord (seen_record r) × Known r) place sorted known) in
          each-map (Own f) seen_record rows
          (each_weaker (λ (r : Record). (r.number ≡ (get_or sorted place d).number) × (IsRecord (seen_record r) × Known r))
          (λ (r : Record). Own f (seen_record r)) one rows
          (each_both (λ (r : Record). r.number ≡ (get_or sorted place d).number) (λ (r : Record). IsRecord (seen_record r) × Known r) rows (run d) in_run))
        where
          one : (r : Record) → (r.number ≡ (get_or sorted place d).number) × (IsRecord (seen_record r) × Known r) → Own f (seen_record r)
          one r h =
              let same : h.1.1.0 ≡ f = same_found h.1.1.0 f (sym h.1.1.1.found ∙ ap (field_at (fields shape type)) h.0 ∙ found) in
              (h.1.0, subst (λ x. Taken (fields shape type) (seen_record r) x) same h.1.1.1)

      are_of : AreOf f (map seen_record (take (end - place) (drop place sorted)))
      are_of = each_weaker (Own f) (λ r. IsRecord r × (takes f r ≡ true)) (λ r h. (h.0, h.1.taken)) (map seen_record rows) own_rows

      some_rows : take (end - place) (drop place sorted) ≢ []
      some_rows none = search (rules, arith, drop-cons)

      pub one_run : AreOf f (map seen_record (take (end - place) (drop place sorted))) × (take (end - place) (drop place sorted) ≢ [])
      one_run = (are_of, some_rows)

      -- where all records are good, so are these
      pub good_run : RecordsGood shape levels (fields shape type) (map seen_record sorted)
          → AreGood shape levels f (map seen_record (take (end - place) (drop place sorted)))
      good_run h =
          let each =
          each_unmapped (IsGood shape levels (fields shape type)) seen_record sorted (good_each shape levels (fields shape type) (map seen_record sorted) h) in
          let these =
          each-map (IsGood shape levels (fields shape type)) seen_record rows
          (each_take Good (end - place) (drop place sorted) (each_drop Good place sorted each)) in
          each_weaker (λ r. IsGood shape levels (fields shape type) r × Own f r) (λ r. FieldReads shape f r × IsShallow shape levels f r)
          (λ r both. good_of_field shape levels (fields shape type) r f both.1.1 both.0) (map seen_record rows)
          (each_both (IsGood shape levels (fields shape type)) (Own f) (map seen_record rows) these own_rows)

      module _ (cs : List (ℕ × ContentRef)) (was : ReadUpTo place cs)
          (beyond : (e : Record) → end < length sorted → (get_or sorted end e).number ≢ (get_or sorted place e).number) where
        till : place + (end - place) ≡ end
        till = omega arith

        after : drop (end - place) (drop place sorted) ≡ drop end sorted
        after = drop-drop (end - place) place sorted ∙ ap (λ n. drop n sorted) till

        before : take end sorted ≡ take place sorted ++ rows
        before = ap (λ n. take n sorted) (sym till) ∙ take-add place (end - place) sorted

        above_run : AllByRecursion (λ (s : Record). (get_or sorted place d).number < s.number) (drop end sorted)
        above_run =
            subst (AllByRecursion (λ (s : Record). (get_or sorted place d).number < s.number)) after
            (greater (get_or sorted place d).number (end - place) (drop place sorted) (rise_drop place sorted rise) (least sorted place d here rise)
            (λ e more same. beyond e (omega (arith, length-drop place sorted))
            (ap (λ n. (get_or sorted n e).number) (sym till) ∙ ap (λ (r : Record). r.number) (sym (get_or-drop place sorted (end - place) e)) ∙ same
            ∙ at_place e)))
          where
            at_place : (e : Record) → (get_or sorted place d).number ≡ (get_or sorted place e).number
            at_place e = ap (λ (r : Record). r.number) (same_default sorted place d e here)

        below_next : AllByRecursion (Below end) (take end sorted)
        below_next =
            subst (AllByRecursion (Below end)) (sym before)
            (each-append (Below end) (take place sorted) rows
            (each_weaker (Below place) (Below end) (λ r h. subst (AllByRecursion (λ (s : Record). r.number < s.number)) after
            (each_drop (λ (s : Record). r.number < s.number) (end - place) (drop place sorted) h))
            (take place sorted) was.below)
            (each_weaker (λ (r : Record). r.number ≡ (get_or sorted place d).number) (Below end)
            (λ r e. subst (λ m. AllByRecursion (λ (s : Record). m < s.number) (drop end sorted)) (sym e) above_run) rows (run d)))

        lower : AllByRecursion (λ (r : WireRecord). r.number < f.number) (map seen_record (take place sorted))
        lower =
            each-map (λ (r : WireRecord). r.number < f.number) seen_record (take place sorted)
            (each_weaker (Below place) (λ (r : Record). r.number < f.number)
            (λ r h. let at = (subst (AllByRecursion (λ (s : Record). r.number < s.number)) (drop-cons sorted place d here) h).0 in omega
            (arith, number, at)) (take place sorted) was.below)

        onward : (held : Option ContentRef) → HoldsOf shape f (map seen_record (take (end - place) (drop place sorted))) held → HeldFits shape f held
            → AreGood shape levels f (map seen_record (take (end - place) (drop place sorted))) → ReadUpTo end (cs ++ with_held f.number held)
        onward held holds fits good =
            let joined : map seen_record (take end sorted) ≡ map seen_record (take place sorted) ++ map seen_record rows =
            ap (map seen_record) before ∙ map-append seen_record (take place sorted) rows in
            let taken = each_weaker (Own f) (λ r. takes f r ≡ true) (λ r h. h.1.taken) (map seen_record rows) own_rows in
            let found_f = ap (field_at (fields shape type)) number ∙ found in
            record {
              inside = inside;
              below = below_next;
              read = subst (λ rs. ReadSoFar shape type rs (cs ++ with_held f.number held)) (sym joined)
                  (one_field shape type (map seen_record (take place sorted)) (map seen_record rows) cs was.read f found_f lower taken
                  (λ none. some_rows (map_none seen_record rows none)) held holds fits);
              good = subst (AllByRecursion (IsGood shape levels (fields shape type))) (sym joined)
                  (each-append (IsGood shape levels (fields shape type)) (map seen_record (take place sorted)) (map seen_record rows) was.good
                  (each_weaker (λ r. (FieldReads shape f r × IsShallow shape levels f r) × Own f r) (IsGood shape levels (fields shape type))
                  (λ r both. good_by_field shape levels (fields shape type) rising r f both.1.1 both.0) (map seen_record rows)
                  (each_both (λ r. FieldReads shape f r × IsShallow shape levels f r) (Own f) (map seen_record rows) good own_rows)));
            }

        pub onward_by : (held : Option ContentRef) (new : List (ℕ × ContentRef)) → new ≡ cs ++ with_held f.number held
            → HoldsOf shape f (map seen_record (take (end - place) (drop place sorted))) held → HeldFits shape f held
            → AreGood shape levels f (map seen_record (take (end - place) (drop place sorted))) → ReadUpTo end new
        onward_by held new is holds fits good = subst (ReadUpTo end) (sym is) (onward held holds fits good)

  -- All records.
  module _ (rising : Rising (fields shape type)) (all : AllCount (fields shape type) (map seen_record sorted)) (place : ℕ) (cs : List (ℕ × ContentRef))
      (was : ReadUpTo place cs) (none_left : length sorted ≤ place) where
    all_taken : take place sorted ≡ sorted
    all_taken = take_all place sorted none_left

    whole : ReadSoFar shape type (map seen_record sorted) cs
    whole = subst (λ rs. ReadSoFar shape type (map seen_record rs) cs) all_taken was.read

    all_good : RecordsGood shape levels (fields shape type) (map seen_record sorted)
    all_good = search (rules, each_good, all_taken)

    all_read : read_records (dec shape) (fields shape type) (map seen_record sorted) ≡ Some (message_of (fields_onto cs (ends type [])))
    all_read = whole_read shape type (map seen_record sorted) cs rising all whole all_good.0

    all_fit : type.index < length shape → Fits shape (fields_onto cs (ends type []))
    all_fit there = whole_fits shape type (map seen_record sorted) cs rising all whole there

    -- what is read, that it fits, and that all records are good
    pub all_are : type.index < length shape
        → (read_records (dec shape) (fields shape type) (map seen_record sorted) ≡ Some (message_of (fields_onto cs (ends type []))))
        × Fits shape (fields_onto cs (ends type []))
        × RecordsGood shape levels (fields shape type) (map seen_record sorted)
    all_are there = (all_read, all_fit there, all_good)
