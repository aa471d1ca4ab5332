-- What gathered records say of those that count.
use Rattle.std.proofs.Common.{◌≡◌, ℕ, suc, ◌+◌, ◌<◌, ◌≤◌, List, [], ◌∷◌, ◌++◌, length, map, take, filter, get_or, Bool, true, false, true≢false, not, ◌&&◌, ◌||◌, cond, nat_eq, Some, None, ◌⊎◌, inl, inr, ⊎_elim, refl, ap, ap₂, sym, subst, ◌∙◌, arith, eq-eqb, eqb-true, zero, take_all, rules}
use Rattle.std.specs.List.{AllByRecursion, list_any}
use Rattle.std.proofs.lemmas.Bool.{and_parts, and_from}
use Rattle.std.proofs.lemmas.List.{append-nil, length-map, length-take-le, map-append, take_more}
use Rattle.pg_schema.specs.Shape.{FieldShape, field_at}
use Rattle.pg_schema.specs.ShapeRules.{Rising}
use Rattle.pg_wire.specs.declared.record.Record.{Record}
use Rattle.pg_wire.specs.Reads.{seen_record}
use Rattle.pg_wire.specs.Records.{WireRecord, IsRecord}
use Rattle.pg_dyn.specs.declared.reading.oneof_runs.OneofRuns.{OneofRuns}
use Rattle.pg_dyn.specs.reading.ByFields.{AllCount}
use Rattle.pg_dyn.specs.reading.Content.{counted, is_sibling, is_unknown, takes}
use Rattle.pg_dyn.specs.reading.Gathering.{AreByNumber, AreOneofRuns, IsCounted, counts_at, filter_at, known_of}
use Rattle.pg_dyn.specs.reading.Optional.{after_last_of}
use Rattle.pg_dyn.specs.reading.ReadingOn.{clears}
use Rattle.pg_dyn.specs.reading.Steps.{Taken}
use Rattle.pg_dyn.proofs.lemmas.laws.Flat.{is_sibling_sym}
use Rattle.pg_dyn.proofs.Lists.{after_last_of_none, each-append, each-map, each_filtered, each_weaker, filter-after_last_of_none, filter-append', filter-filter_weaker, filter-map, filtered_out, list_any_at, none_list_any}
use Rattle.pg_dyn.proofs.lemmas.reading.records.Splitting.{after_last_of-filter, each_found, takes_number}
use Rattle.pg_dyn.proofs.lemmas.reading.runs.OneofRunLaws.{filter_at-append}

-- Records by rising number.

each_in_filters : (P : Record → Type 0) (rs : List Record) → ((n : ℕ) → AllByRecursion P (filter (λ (r : Record). nat_eq r.number n) rs)) → AllByRecursion P rs
each_in_filters P [] h = tt
each_in_filters P (r ∷ rs) h = (
  first (filter (λ (x : Record). nat_eq x.number r.number) rs) (nat_eq r.number r.number) (eq-eqb r.number r.number refl)
      (h r.number),
  each_in_filters P rs (λ n. later (nat_eq r.number n) (filter (λ (x : Record). nat_eq x.number n) rs) (h n)),
)
  where
    first : (xs : List Record) (b : Bool) → b ≡ true → AllByRecursion P (cond b (r ∷ xs) xs) → P r
    first xs true is k = k.0
    first xs false is k = absurd (true≢false (sym is))

    later : (b : Bool) (xs : List Record) → AllByRecursion P (cond b (r ∷ xs) xs) → AllByRecursion P xs
    later true xs k = k.1
    later false xs k = k

module _ (old new : List Record) (sorted : AreByNumber old new) where
  pub each_by_number : (P : Record → Type 0) → AllByRecursion P old → AllByRecursion P new
  each_by_number P h = each_in_filters P new (λ n. subst (AllByRecursion P) (sym (sorted.same n)) (each_filtered P (λ (r : Record). nat_eq r.number n) old h))

  pub taken_by_number : (f : FieldShape) → filter (takes f) (map seen_record new) ≡ filter (takes f) (map seen_record old)
  taken_by_number f =
      let of_field : (rs : List Record) → filter (takes f) (map seen_record rs) ≡ map seen_record (filter (λ r. takes f (seen_record r))
      (filter (λ (r : Record). nat_eq r.number f.number) rs)) =
      λ rs. filter-map (takes f) seen_record rs
      ∙ ap (map seen_record) (sym (filter-filter_weaker (λ (r : Record). nat_eq r.number f.number) (λ r. takes f (seen_record r))
      (λ r h. takes_number f (seen_record r) h) rs)) in
      of_field new ∙ ap (λ rs. map seen_record (filter (λ r. takes f (seen_record r)) rs)) (sorted.same f.number) ∙ sym (of_field old)

-- what holds of records as they are seen
pub seen_each : (P : WireRecord → Type 0) (rs : List Record) → AllByRecursion P (map seen_record rs) → AllByRecursion (λ r. P (seen_record r)) rs
seen_each P [] h = tt
seen_each P (r ∷ rs) h = (h.0, seen_each P rs h.1)

-- Records that some field accepts.

any_passes : (test : FieldShape → Bool) (P : FieldShape → Type 0) (fs : List FieldShape) → AllByRecursion P fs → list_any test fs ≡ true
    → (f : FieldShape) × P f × (test f ≡ true)
any_passes test P [] each h = absurd (true≢false (sym h))
any_passes test P (f ∷ fs) each h = search (rules, any_passes test P fs each.1)

not_false : (b : Bool) → not b ≡ false → b ≡ true
not_false true h = refl
not_false false h = absurd (true≢false h)

module _ (fs : List FieldShape) (rising : Rising fs) (r : WireRecord) (known : is_unknown fs r ≡ false) where
  pub known_taken : (f : FieldShape) × Taken fs r f
  known_taken = search (rules, any_passes, each_found, not_false, eqb-true, takes_number)

  pub known_takes : (f : FieldShape) → field_at fs r.number ≡ Some f → takes f r ≡ true
  known_takes f found = search (rules, known_taken)

  pub known_found : field_at fs r.number ≡ None → ⊥
  known_found none = let e = sym known_taken.1.found ∙ none in cc

module _ (fs : List FieldShape) (f : FieldShape) (found : field_at fs f.number ≡ Some f) where
  taken_known : (r : WireRecord) → takes f r ≡ true → not (is_unknown fs r) ≡ true
  taken_known r taken = ap (λ b. not (not b)) (list_any_at (λ g. takes g r) fs f.number f found taken)

  clearing_taken : (r : WireRecord) (gs : List FieldShape) → list_any (λ g. is_sibling f g && takes g r) gs ≡ true → list_any (λ g. takes g r) gs ≡ true
  clearing_taken r [] h = h
  clearing_taken r (g ∷ gs) h = of (is_sibling f g) (takes g r) h (clearing_taken r gs)
    where
      of : (a b : Bool) → ((a && b) || list_any (λ x. is_sibling f x && takes x r) gs) ≡ true
          → (list_any (λ x. is_sibling f x && takes x r) gs ≡ true → list_any (λ x. takes x r) gs ≡ true) → (b || list_any (λ x. takes x r) gs) ≡ true
      of a true e later = refl
      of true false e later = later e
      of false false e later = later e

  clearing_known : (r : WireRecord) → clears fs f r ≡ true → not (is_unknown fs r) ≡ true
  clearing_known r h = ap (λ b. not (not b)) (clearing_taken r fs h)

  -- records that no field accepts neither count nor clear
  pub known_counted : (rs : List WireRecord) → counted fs f (known_of fs rs) ≡ counted fs f rs
  known_counted rs =
      search (rules, after_last_of-filter, clearing_known, filter-filter_weaker, taken_known)

-- Records that count.

pub all_counted : (fs : List FieldShape) (ks : List WireRecord) (oneof_runs : OneofRuns) → AreOneofRuns fs ks oneof_runs → oneof_runs.all_count ≡ true
    → AllByRecursion IsRecord ks → AllByRecursion (λ r. is_unknown fs r ≡ false) ks → IsCounted fs ks ks
all_counted fs ks oneof_runs h all are known = record { are_records = are; known = known; which = λ f found. sym (h.all all f found) }

-- of two members of a oneof at most one has records that count
one_counts : (fs : List FieldShape) (f g : FieldShape) → field_at fs f.number ≡ Some f → field_at fs g.number ≡ Some g → is_sibling f g ≡ true
    → (rs : List WireRecord) → (counted fs f rs ≡ []) ⊎ (counted fs g rs ≡ [])
one_counts fs f g found_f found_g sibling [] = inl refl
one_counts fs f g found_f found_g sibling (r ∷ rs) =
    of (list_any (clears fs f) (r ∷ rs)) refl (list_any (clears fs g) (r ∷ rs)) refl (one_counts fs f g found_f found_g sibling rs)
  where
    none_taken : (x y : FieldShape) → field_at fs y.number ≡ Some y → is_sibling x y ≡ true → list_any (clears fs x) (r ∷ rs) ≡ false → counted fs y (r ∷ rs) ≡ []
    none_taken x y found_y apart none =
        filter-after_last_of_none (takes y) (clears fs y) (r ∷ rs)
        (each_weaker (λ q. clears fs x q ≡ false) (λ q. takes y q ≡ false) (λ q k. not_taken q k (takes y q) refl) (r ∷ rs)
        (none_list_any (clears fs x) (r ∷ rs) none))
      where
        not_taken : (q : WireRecord) → clears fs x q ≡ false → (b : Bool) → takes y q ≡ b → b ≡ false
        not_taken q k true taken =
            absurd (true≢false (sym (list_any_at (λ h. is_sibling x h && takes h q) fs y.number y found_y (and_from (is_sibling x y) (takes y q) apart taken)) ∙ k))
        not_taken q k false taken = refl

    of : (a : Bool) → list_any (clears fs f) (r ∷ rs) ≡ a → (b : Bool) → list_any (clears fs g) (r ∷ rs) ≡ b
        → (counted fs f rs ≡ []) ⊎ (counted fs g rs ≡ []) → (counted fs f (r ∷ rs) ≡ []) ⊎ (counted fs g (r ∷ rs) ≡ [])
    of false is b here rest = inr (none_taken f g found_g sibling is)
    of true is false here rest = inl (none_taken g f found_f (is_sibling_sym f g sibling) here)
    of true is true here rest =
        ⊎_elim (λ e. inl (ap (filter (takes f)) (ap (λ x. cond x (after_last_of (clears fs f) rs) (r ∷ rs)) is) ∙ e))
        (λ e. inr (ap (filter (takes g)) (ap (λ x. cond x (after_last_of (clears fs g) rs) (r ∷ rs)) here) ∙ e)) rest

-- a record that clears is taken by another member
abbrev ClearedBy : List FieldShape → FieldShape → List WireRecord → Type 0
ClearedBy fs f rs = (g : FieldShape) × (field_at fs g.number ≡ Some g) × (is_sibling f g ≡ true) × (filter (takes g) rs ≡ [] → ⊥)

cleared_by : (fs : List FieldShape) → Rising fs → (f : FieldShape) (rs : List WireRecord) → list_any (clears fs f) rs ≡ true → ClearedBy fs f rs
cleared_by fs rising f [] e = absurd (true≢false (sym e))
cleared_by fs rising f (r ∷ rs) e = of (clears fs f r) refl (λ is. cleared_by fs rising f rs (sym (ap (λ b. b || list_any (clears fs f) rs) is) ∙ e))
  where
    dropped : (b : Bool) (xs : List WireRecord) → cond b (r ∷ xs) xs ≡ [] → xs ≡ []
    dropped true xs k = absurd (cc)
    dropped false xs k = k

    of : (b : Bool) → clears fs f r ≡ b → (clears fs f r ≡ false → ClearedBy fs f rs) → ClearedBy fs f (r ∷ rs)
    of true is later =
        let (g, found_g, passes) = any_passes (λ g. is_sibling f g && takes g r) (λ g. field_at fs g.number ≡ Some g) fs (each_found fs rising) is in
        let parts = and_parts (is_sibling f g) (takes g r) passes in
        (g, found_g, parts.0, λ none. let k = sym (ap (λ b. cond b (r ∷ filter (takes g) rs) (filter (takes g) rs)) parts.1) ∙ none in cc)
    of false is later = let (g, found_g, sibling, some) = later is in (g, found_g, sibling, λ none. some (dropped (takes g r) (filter (takes g) rs) none))

module _ (fs : List FieldShape) (rising : Rising fs) (ks left : List WireRecord) (h : IsCounted fs ks left) where
  -- others of which each field takes the same
  pub counted_alike : (others : List WireRecord) → AllByRecursion IsRecord others → AllByRecursion (λ r. is_unknown fs r ≡ false) others
      → ((f : FieldShape) → filter (takes f) others ≡ filter (takes f) left) → IsCounted fs ks others
  counted_alike others are known same = record { are_records = are; known = known; which = λ f found. same f ∙ h.which f found }

  nothing_clears : (f : FieldShape) → field_at fs f.number ≡ Some f → (b : Bool) → list_any (clears fs f) left ≡ b → counted fs f left ≡ filter (takes f) left
  nothing_clears f found b none =
      grind (
        arith,
        after_last_of_none,
        filter-after_last_of_none,
        filtered_out,
        cleared_by,
        one_counts,
      )

  -- of records that count all count
  pub counted_all_count : AllCount fs left
  counted_all_count = search (rules, each_weaker, known_taken, nothing_clears)

-- records that count do so by rising number too
pub sorted_counted : (fs : List FieldShape) → Rising fs → (ks : List WireRecord) (left new : List Record)
    → IsCounted fs ks (map seen_record left) → AreByNumber left new → IsCounted fs ks (map seen_record new)
sorted_counted fs rising ks left new h sorted =
    search (rules, counted_alike, each-map, each_by_number, seen_each, taken_by_number)

pub sorted_all_count : (fs : List FieldShape) → Rising fs → (ks : List WireRecord) (left new : List Record)
    → IsCounted fs ks (map seen_record left) → AreByNumber left new → AllCount fs (map seen_record new)
sorted_all_count fs rising ks left new h sorted = counted_all_count fs rising ks (map seen_record new) (sorted_counted fs rising ks left new h sorted)

-- Records are counted one by one: of those before the index these count.
pub record CountedSoFar (fs : List FieldShape) (oneof_runs : OneofRuns) (known : List Record) (place : ℕ) (left : List Record) : Type 0 where
  pub are_records : AllByRecursion IsRecord (map seen_record left)
  pub are_known : AllByRecursion (λ r. is_unknown fs r ≡ false) (map seen_record left)
  pub which : (f : FieldShape) → field_at fs f.number ≡ Some f
      → filter (takes f) (map seen_record left) ≡ filter_at (λ p r. takes f r && counts_at oneof_runs f p) 0 (map seen_record (take place known))

module _ (fs : List FieldShape) (rising : Rising fs) (oneof_runs : OneofRuns) (known : List Record) where
  pub none_so_far : CountedSoFar fs oneof_runs known 0 []
  none_so_far = record { are_records = tt; are_known = tt; which = λ f found. refl }

  module _ (are : AllByRecursion IsRecord (map seen_record known)) (are_known : AllByRecursion (λ r. is_unknown fs r ≡ false) (map seen_record known))
      (place : ℕ) (left : List Record) (h : CountedSoFar fs oneof_runs known place left) where
    pub counted_so_far : length known ≤ place → AreOneofRuns fs (map seen_record known) oneof_runs → IsCounted fs (map seen_record known) (map seen_record left)
    counted_so_far all k = search (rules, take_all)

    module _ (inside : place < length known) (d : Record) where
      each_there : (P : WireRecord → Type 0) → AllByRecursion P (map seen_record known) → P (seen_record (get_or known place d))
      each_there P each = go known place inside (seen_each P known each)
        where
          go : (rs : List Record) (i : ℕ) → i < length rs → AllByRecursion (λ r. P (seen_record r)) rs → P (seen_record (get_or rs i d))
          go [] i l k = absurd (omega arith)
          go (r ∷ rs) zero l k = k.0
          go (r ∷ rs) (suc i) l k = go rs i (omega arith) k.1

      -- the record there is one that a field takes
      pub taken_there : (f : FieldShape) → field_at fs (get_or known place d).number ≡ Some f → takes f (seen_record (get_or known place d)) ≡ true
      taken_there = known_takes fs rising (seen_record (get_or known place d)) (each_there (λ r. is_unknown fs r ≡ false) are_known)

      pub found_there : field_at fs (get_or known place d).number ≡ None → ⊥
      found_there = known_found fs rising (seen_record (get_or known place d)) (each_there (λ r. is_unknown fs r ≡ false) are_known)

      before : (f : FieldShape) → filter_at (λ p r. takes f r && counts_at oneof_runs f p) 0 (map seen_record (take (place + 1) known))
          ≡ filter_at (λ p r. takes f r && counts_at oneof_runs f p) 0 (map seen_record (take place known))
          ++ cond (takes f (seen_record (get_or known place d)) && counts_at oneof_runs f place) (seen_record (get_or known place d) ∷ []) []
      before f =
          let r = get_or known place d in
          let size = length-map (take place known) seen_record in
          let short = length-take-le place known (omega arith) in
          ap (filter_at (λ p x. takes f x && counts_at oneof_runs f p) 0)
          (ap (map seen_record) (take_more known place d inside) ∙ map-append seen_record (take place known) (r ∷ []))
          ∙ filter_at-append (λ p x. takes f x && counts_at oneof_runs f p) 0 place (map seen_record (take place known)) (seen_record r)
          (omega (arith, size, short))

      module _ (g : FieldShape) (found_g : field_at fs (get_or known place d).number ≡ Some g) where
        -- a field that takes the record there is g
        taker : (f : FieldShape) → field_at fs f.number ≡ Some f → takes f (seen_record (get_or known place d)) ≡ true → f ≡ g
        taker f found taken = search (rules, eqb-true, takes_number)

        pub one_counts_more : counts_at oneof_runs g place ≡ true → CountedSoFar fs oneof_runs known (place + 1) (left ++ get_or known place d ∷ [])
        one_counts_more counts =
            let r = get_or known place d in
            let more = map-append seen_record left (r ∷ []) in
            record {
              are_records = subst (AllByRecursion IsRecord) (sym more)
                  (each-append IsRecord (map seen_record left) (seen_record r ∷ []) h.are_records (each_there IsRecord are, tt));
              are_known = subst (AllByRecursion (λ x. is_unknown fs x ≡ false)) (sym more)
                  (each-append (λ x. is_unknown fs x ≡ false) (map seen_record left) (seen_record r ∷ []) h.are_known
                  (each_there (λ x. is_unknown fs x ≡ false) are_known, tt));
              which = λ f found.
                  ap (filter (takes f)) more ∙ filter-append' (takes f) (map seen_record left) (seen_record r ∷ [])
                  ∙ ap₂ (λ xs b. xs ++ cond b (seen_record r ∷ []) []) (h.which f found) (last f found (takes f (seen_record r)) refl) ∙ sym (before f);
            }
          where
            last : (f : FieldShape) → field_at fs f.number ≡ Some f → (b : Bool) → takes f (seen_record (get_or known place d)) ≡ b
                → b ≡ (b && counts_at oneof_runs f place)
            last f found true taken = sym (ap (λ x. counts_at oneof_runs x place) (taker f found taken) ∙ counts)
            last f found false taken = refl

        pub one_drops : counts_at oneof_runs g place ≡ false → CountedSoFar fs oneof_runs known (place + 1) left
        one_drops drops = record {
          are_records = h.are_records;
          are_known = h.are_known;
          which = λ f found.
              h.which f found ∙ sym (append-nil _)
              ∙ ap (λ b. filter_at (λ p r. takes f r && counts_at oneof_runs f p) 0 (map seen_record (take place known))
              ++ cond b (seen_record (get_or known place d) ∷ []) []) (sym (last f found (takes f (seen_record (get_or known place d))) refl))
              ∙ sym (before f);
        }
          where
            last : (f : FieldShape) → field_at fs f.number ≡ Some f → (b : Bool) → takes f (seen_record (get_or known place d)) ≡ b
                → (b && counts_at oneof_runs f place) ≡ false
            last f found true taken = ap (λ x. counts_at oneof_runs x place) (taker f found taken) ∙ drops
            last f found false taken = refl
