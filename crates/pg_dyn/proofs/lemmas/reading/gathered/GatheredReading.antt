-- What gathered records are read as: those that count, by rising number, say what all of them say.
use Rattle.std.proofs.Common.{◌≡◌, ◌<◌, ℕ, List, [], ◌∷◌, length, map, filter, Bool, true, false, not, cond, nat_eq, Some, option_and_then, refl, ap, ap₂, sym, subst, ◌∙◌, eq-eqb, rules}
use Rattle.std.specs.List.{AllByRecursion}
use Rattle.pg_schema.specs.declared.parts.field.TypeId.{TypeId}
use Rattle.pg_schema.specs.Shape.{Shape, FieldShape, fields, field_at}
use Rattle.pg_schema.specs.ShapeRules.{Rising}
use Rattle.pg_wire.specs.declared.record.Record.{Record}
use Rattle.pg_wire.specs.Reads.{seen_record}
use Rattle.pg_wire.specs.Records.{WireRecord, IsRecord}
use Rattle.pg_dyn.specs.declared.message_ref.ContentRef.{ContentRef}
use Rattle.pg_dyn.specs.declared.reading.gathering.Gathered.{Gathered}
use Rattle.pg_dyn.specs.fitting.Belonging.{IsUnknown}
use Rattle.pg_dyn.specs.reading.ByFields.{AllCount, RecordsGood}
use Rattle.pg_dyn.specs.reading.Content.{content, counted, is_unknown, takes}
use Rattle.pg_dyn.specs.reading.Decoding.{Reader, all_readable, dec, field_parts, read_part, read_records}
use Rattle.pg_dyn.specs.fitting.Fits.{Fits}
use Rattle.pg_dyn.specs.reading.Gathering.{AreByNumber, AreGathered, AreOneofRuns, IsCounted, known_of}
use Rattle.pg_dyn.specs.message.Kept.{ends, message_of}
use Rattle.pg_dyn.specs.message.Message.{Message, message_from, parts}
use Rattle.pg_dyn.specs.reading.Optional.{all_some, joined}
use Rattle.pg_dyn.specs.message_ref.Borrowed.{fields_onto}
use Rattle.pg_dyn.specs.reading.Steps.{part_of}
use Rattle.pg_dyn.proofs.lemmas.fitting.PartsToFits.{fits_with_unknown}
use Rattle.pg_dyn.proofs.lemmas.reading.gathered.Gathered.{all_counted, each_by_number, known_counted, known_taken, seen_each, sorted_all_count, sorted_counted}
use Rattle.pg_dyn.proofs.lemmas.reading.gathered.GoodRecords.{IsGood, each_good, good_each, good_unknown}
use Rattle.pg_dyn.proofs.lemmas.reading.records.Joining.{each_after_last}
use Rattle.pg_dyn.proofs.Lists.{each-filter, each-map, each_filtered, each_of_all, each_unfiltered, each_weaker, map_same}
use Rattle.pg_dyn.proofs.lemmas.reading.records.RecordsRead.{built, pieces_of}
use Rattle.pg_dyn.proofs.lemmas.reading.records.ReadSplits.{parts-message_from}
use Rattle.pg_dyn.proofs.lemmas.message.ReplacingLaws.{message_of-kept_from}
use Rattle.pg_dyn.specs.message_ref.Borrowed.{all_seen}
use Rattle.pg_dyn.proofs.lemmas.reading.records.Splitting.{each_found, found_number}

-- records of which each field counts the same as of others, and none of which is unknown, say the others' message without the unknown
pub rearranged : (child : Reader) (fs : List FieldShape) (rs ss : List WireRecord) (m : Message) → Rising fs
    → ((f : FieldShape) → field_at fs f.number ≡ Some f → counted fs f ss ≡ counted fs f rs)
    → all_readable child fs rs ≡ true → read_records child fs ss ≡ Some m → read_records child fs rs ≡ Some (message_from (parts m) (filter (is_unknown fs) rs))
rearranged child fs rs ss m rising same readable read =
    let (pieces, was_readable, each, made) = pieces_of child fs ss m read in
    let again = map_same (field_parts child fs rs) (field_parts child fs ss) fs
    (each_weaker (λ f. field_at fs f.number ≡ Some f) (λ f. field_parts child fs rs f ≡ field_parts child fs ss f)
    (λ f found. ap (λ cs. option_and_then (λ ps. all_some (map (read_part child f.element) ps)) (content f cs)) (sym (same f found))) fs
    (each_found fs rising)) in
    built child fs rs pieces readable (ap all_some again ∙ each)
    ∙ ap (λ ps. Some (message_from ps (filter (is_unknown fs) rs))) (sym (parts-message_from (joined pieces) (filter (is_unknown fs) ss)).0 ∙ ap parts made)

-- what holds of all that pass one test or another, where each passes one
each_in_parts : {A I : Type 0} (test : I → A → Bool) (P : A → Type 0) (xs : List A) → AllByRecursion (λ x. (i : I) × (test i x ≡ true)) xs
    → ((i : I) → AllByRecursion P (filter (test i) xs)) → AllByRecursion P xs
each_in_parts test P [] passes h = tt
each_in_parts {A} {I} test P (x ∷ xs) passes h =
    (first (test passes.0.0 x) passes.0.1 (h passes.0.0), each_in_parts test P xs passes.1 (λ i. later i (test i x) (h i)))
  where
    first : (b : Bool) → b ≡ true → AllByRecursion P (cond b (x ∷ filter (test passes.0.0) xs) (filter (test passes.0.0) xs)) → P x
    first true e k = k.0
    first false e k = absurd (cc)

    later : (i : I) (b : Bool) → AllByRecursion P (cond b (x ∷ filter (test i) xs) (filter (test i) xs)) → AllByRecursion P (filter (test i) xs)
    later i true k = k.1
    later i false k = k

-- Of gathered records these count, and where they are good, so are all.
pub record IsLeft (shape : Shape) (levels : ℕ) (fs : List FieldShape) (rs : List WireRecord) (left : List Record) : Type 0 where
  pub counted : IsCounted fs (known_of fs rs) (map seen_record left)
  pub good : RecordsGood shape levels fs (map seen_record left) → RecordsGood shape levels fs (known_of fs rs)

known_each : (fs : List FieldShape) (rs : List WireRecord) → AllByRecursion (λ r. is_unknown fs r ≡ false) (known_of fs rs)
known_each fs rs =
    each_weaker (λ r. (r ≡ r) × (not (is_unknown fs r) ≡ true)) (λ r. is_unknown fs r ≡ false) (λ r h. of (is_unknown fs r) h.1) (known_of fs rs)
    (each-filter (λ r. r ≡ r) (λ r. not (is_unknown fs r)) rs (each_of_all (λ r. r ≡ r) (λ r. refl) rs))
  where
    of : (b : Bool) → not b ≡ true → b ≡ false
    of true e = absurd (cc)
    of false e = refl

module _ (shape : Shape) (levels : ℕ) (type : TypeId) (rs : List WireRecord) (g : Gathered) (h : AreGathered shape type rs g) where
  known_are_records : AllByRecursion IsRecord (map seen_record g.known.items)
  known_are_records = subst (AllByRecursion IsRecord) (sym h.known) (each_filtered IsRecord (λ r. not (is_unknown (fields shape type) r)) rs h.are_records)

  known_are_known : AllByRecursion (λ r. is_unknown (fields shape type) r ≡ false) (map seen_record g.known.items)
  known_are_known = subst (AllByRecursion (λ r. is_unknown (fields shape type) r ≡ false)) (sym h.known) (known_each (fields shape type) rs)

  runs_are : AreOneofRuns (fields shape type) (map seen_record g.known.items) g.oneof_runs
  runs_are = subst (λ ks. AreOneofRuns (fields shape type) ks g.oneof_runs) (sym h.known) h.oneof_runs

  -- of the known records, by another name
  pub known_asked : (ks : List Record) → ks ≡ g.known.items
      → AllByRecursion IsRecord (map seen_record ks)
      × (AllByRecursion (λ r. is_unknown (fields shape type) r ≡ false) (map seen_record ks) × AreOneofRuns (fields shape type) (map seen_record ks) g.oneof_runs)
  known_asked ks is =
      subst (λ (xs : List Record). AllByRecursion IsRecord (map seen_record xs)
      × (AllByRecursion (λ r. is_unknown (fields shape type) r ≡ false) (map seen_record xs) × AreOneofRuns (fields shape type) (map seen_record xs) g.oneof_runs))
      (sym is) (known_are_records, (known_are_known, runs_are))

  -- all are left where each counts
  pub all_left : g.oneof_runs.all_count ≡ true → IsLeft shape levels (fields shape type) rs g.known.items
  all_left all = search (rules, all_counted, runs_are, known_are_records, known_are_known)

  pub some_left : (ks left : List Record) → ks ≡ g.known.items → IsCounted (fields shape type) (map seen_record ks) (map seen_record left)
      → (RecordsGood shape levels (fields shape type) (map seen_record left) → RecordsGood shape levels (fields shape type) (map seen_record ks))
      → IsLeft shape levels (fields shape type) rs left
  some_left ks left is are good = search rules

  -- records that are good, of which some are known
  pub known_good : (ks : List Record) → ks ≡ g.known.items → RecordsGood shape levels (fields shape type) rs
      → RecordsGood shape levels (fields shape type) (map seen_record ks)
  known_good ks is k = search (rules, each_good, each_filtered, good_each)

  pub unknown_are : AllByRecursion (IsUnknown (fields shape type)) (map seen_record g.unknown.items)
  unknown_are = search (rules, each_weaker, each-filter)

  pub fits_of_all : (cs : List (ℕ × ContentRef)) → type.index < length shape → Fits shape (fields_onto cs (ends type []))
      → Fits shape (fields_onto cs (ends type (map seen_record g.unknown.items)))
  fits_of_all cs there fits = fits_with_unknown shape type (all_seen cs) [] (map seen_record g.unknown.items) there unknown_are fits

  module _ (rising : Rising (fields shape type)) (left sorted : List Record) (is_left : IsLeft shape levels (fields shape type) rs left)
      (by : AreByNumber left sorted) where
    pub all_count : AllCount (fields shape type) (map seen_record sorted)
    all_count = sorted_all_count (fields shape type) rising (known_of (fields shape type) rs) left sorted is_left.counted by

    pub good_before : RecordsGood shape levels (fields shape type) rs → RecordsGood shape levels (fields shape type) (map seen_record sorted)
    good_before k =
        let fs = fields shape type in
        let known = each_filtered (IsGood shape levels fs) (λ r. not (is_unknown fs r)) rs (good_each shape levels fs rs k) in
        let good_left =
        each_in_parts (λ (i : (f : FieldShape) × (field_at fs f.number ≡ Some f)) r. takes i.0 r) (IsGood shape levels fs) (map seen_record left)
        (each_weaker (λ r. is_unknown fs r ≡ false) (λ r. (i : (f : FieldShape) × (field_at fs f.number ≡ Some f)) × (takes i.0 r ≡ true)) taker
        (map seen_record left) is_left.counted.known)
        (λ i. subst (AllByRecursion (IsGood shape levels fs)) (sym (is_left.counted.which i.0 i.1))
        (each_filtered (IsGood shape levels fs) (takes i.0) _ (each_after_last (IsGood shape levels fs) _ (known_of fs rs) known))) in
        each_good shape levels fs (map seen_record sorted)
        (each-map (IsGood shape levels fs) seen_record sorted
        (each_by_number left sorted by (λ r. IsGood shape levels fs (seen_record r)) (seen_each (IsGood shape levels fs) left good_left)))
      where
        taker : (r : WireRecord) → is_unknown (fields shape type) r ≡ false
            → (i : (f : FieldShape) × (field_at (fields shape type) f.number ≡ Some f)) × (takes i.0 r ≡ true)
        taker r known =
            let (f, taken) = known_taken (fields shape type) rising r known in
            ((f, ap (field_at (fields shape type)) (found_number (fields shape type) r.number f taken.found) ∙ taken.found), taken.taken)

    pub good_after : RecordsGood shape levels (fields shape type) (map seen_record sorted) → RecordsGood shape levels (fields shape type) rs
    good_after k =
        let fs = fields shape type in
        let good = seen_each (IsGood shape levels fs) sorted (good_each shape levels fs (map seen_record sorted) k) in
        let good_left = each_in_parts (λ (n : ℕ) (r : Record). nat_eq r.number n) (λ (r : Record). IsGood shape levels fs (seen_record r)) left
        (each_of_all (λ (r : Record). (n : ℕ) × (nat_eq r.number n ≡ true)) (λ r. (r.number, eq-eqb r.number r.number refl)) left)
        (λ n. subst (AllByRecursion (λ (r : Record). IsGood shape levels fs (seen_record r))) (by.same n)
        (each_filtered (λ (r : Record). IsGood shape levels fs (seen_record r)) (λ (r : Record). nat_eq r.number n) sorted good)) in
        let good_known =
        good_each shape levels fs (known_of fs rs)
        (is_left.good (each_good shape levels fs (map seen_record left) (each-map (IsGood shape levels fs) seen_record left good_left))) in
        each_good shape levels fs rs (each_unfiltered (IsGood shape levels fs) (λ r. not (is_unknown fs r))
        (λ r unknown. good_unknown shape levels fs r (not_not (is_unknown fs r) unknown)) rs good_known)
      where
        not_not : (b : Bool) → not b ≡ false → b ≡ true
        not_not true e = refl
        not_not false e = absurd (cc)

    pub read_of_all : (cs : List (ℕ × ContentRef)) → RecordsGood shape levels (fields shape type) (map seen_record sorted)
        → read_records (dec shape) (fields shape type) (map seen_record sorted) ≡ Some (message_of (fields_onto cs (ends type [])))
        → read_records (dec shape) (fields shape type) rs ≡ Some (message_of (fields_onto cs (ends type (map seen_record g.unknown.items))))
    read_of_all cs good read =
        let fs = fields shape type in
        let us = map seen_record g.unknown.items in
        let sorted_are = sorted_counted fs rising (known_of fs rs) left sorted is_left.counted by in
        let message : (vs : List WireRecord) → message_of (fields_onto cs (ends type vs)) ≡ message_from (map part_of (all_seen cs)) vs =
        λ vs. message_of-kept_from type (all_seen cs) vs in
        rearranged (dec shape) fs rs (map seen_record sorted) (message_of (fields_onto cs (ends type []))) rising
        (λ f found. all_count.count f found ∙ sorted_are.which f found ∙ known_counted fs f found rs) (good_after good).0 read
        ∙ ap₂ (λ ps vs. Some (message_from ps vs)) (ap parts (message []) ∙ (parts-message_from (map part_of (all_seen cs)) []).0) (sym h.unknown)
        ∙ ap (λ m. Some m) (sym (message us))
