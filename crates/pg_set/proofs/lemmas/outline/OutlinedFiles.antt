-- What files declare, as a loop comes to them.
use Rattle.std.proofs.Common.{◌≡◌, ℕ, zero, suc, ◌+◌, ◌<◌, ◌≤◌, ◌^◌, Bool, true, false, ◌&&◌, nat_eq, ◌⊎◌, inl, inr, List, [], ◌∷◌, ◌++◌, map, filter, length, take, drop, get_or, Option, Some, None, slice_get, refl, ap, ap₂, sym, subst, ◌∙◌, arith, add-one, append-nil, length-append, option_map, rules}
use Rattle.std.proofs.lemmas.Bool.Decides.{nat_tests}
use Rattle.std.proofs.lemmas.Grind.{flat_map-append}
use Rattle.std.proofs.lemmas.List.{drop_all, length-map}
use Rattle.std.proofs.lemmas.List.Folds.{list_all-append}
use Rattle.std.specs.List.{AllByRecursion, cons_option, flat_map, list_all}
use Rattle.pg_schema.specs.rules.Packages.{is_free_of}
use Rattle.pg_schema.specs.rules.Pairs.{are_distinct}
use Rattle.pg_schema.proofs.lemmas.rules.PairLemmas.{and_both, and_left, and_right}
use Rattle.pg_dyn.specs.message.Kept.{Kept, message_of}
use Rattle.pg_dyn.specs.message.Message.{Message}
use Rattle.pg_set.specs.declared.error.Unstated.{Unstated}
use Rattle.pg_set.specs.inner.Declarations.{Adds, CannotAdd, Declaration, NameTable, enums_declared, file_declared, package_declared, services_declared, types_declared}
use Rattle.pg_set.specs.stated.Numbering.{Counts, inside_file}
use Rattle.pg_set.specs.inner.reading.OutlinedScopes.{MayPlace}
use Rattle.pg_set.specs.inner.reading.OutlinedRows.{NameOneofs, files_at}
use Rattle.pg_set.specs.stated.Outlines.{Row, file_types, row_in, type_rows}
use Rattle.pg_set.specs.stated.SetMessages.{children_at}
use Rattle.pg_set.specs.stated.SetNames.{file_scope, files_names, qualified}
use Rattle.pg_set.specs.stated.StatedTable.{are_free, few, has_name, has_no_entries, may_declare, names_oneofs, nest_within, nests_within, packages_of}
use Rattle.pg_set.specs.stated.TypeMessages.{is_entry, is_no_entry}
use Rattle.pg_set.proofs.lemmas.outline.Declaring.{adds_both, first_fails, later_fails}
use Rattle.pg_set.proofs.lemmas.outline.NameLoops.{seen}
use Rattle.pg_set.proofs.lemmas.lists.Marks.{all_more}
use Rattle.std.proofs.lemmas.Option.{slice_get-map, slice_get_read}

-- ---- files at indices

module _ (files : List Message) (m : Message) where
  suc_at : (order : List ℕ) (i place : ℕ) → i < length order → place ≡ get_or order i place → slice_get files place ≡ Some m
      → files_at files (take (suc i) order) ≡ files_at files (take i order) ++ m ∷ []
  suc_at [] i place h is there = absurd (omega (arith, h))
  suc_at (p ∷ order) zero place h is there = ap (λ o. cons_option o []) (ap (slice_get files) (sym is) ∙ there)
  suc_at (p ∷ order) (suc i) place h is there = ap (cons_option (slice_get files p)) (suc_at order i place (omega (arith, h)) is there) ∙ cons_more (slice_get files p) (files_at files (take i order))
    where
      cons_more : (o : Option Message) (fs : List Message) → cons_option o (fs ++ m ∷ []) ≡ cons_option o fs ++ m ∷ []
      cons_more None fs = refl
      cons_more (Some x) fs = refl

  -- one file more
  pub file_at : (order : List ℕ) (i place : ℕ) → i < length order → place ≡ get_or order i place → slice_get files place ≡ Some m → files_at files (take (i + 1) order) ≡ files_at files (take i order) ++ m ∷ []
  file_at order i place h is there = rw add-one (suc_at order i place h is there)

  -- those in front, it and those after
  pub files_whole : (order : List ℕ) (i place : ℕ) → i < length order → place ≡ get_or order i place → slice_get files place ≡ Some m
      → (files_at files (take i order) ++ m ∷ []) ++ files_at files (drop (suc i) order) ≡ files_at files order
  files_whole [] i place h is there = absurd (omega (arith, h))
  files_whole (p ∷ order) zero place h is there = ap (λ o. cons_option o (files_at files order)) (sym (ap (slice_get files) (sym is) ∙ there))
  files_whole (p ∷ order) (suc i) place h is there = later (slice_get files p) (files_at files (take i order)) ∙ ap (cons_option (slice_get files p)) (files_whole order i place (omega (arith, h)) is there)
    where
      later : (o : Option Message) (fs : List Message) → (cons_option o fs ++ m ∷ []) ++ files_at files (drop (suc i) order) ≡ cons_option o ((fs ++ m ∷ []) ++ files_at files (drop (suc i) order))
      later None fs = refl
      later (Some x) fs = refl

module _ (files : List Message) (m : Message) where
  suc_left : (order : List ℕ) (i place : ℕ) → i < length order → place ≡ get_or order i place → slice_get files place ≡ Some m → files_at files (drop i order) ≡ m ∷ files_at files (drop (suc i) order)
  suc_left [] i place h is there = absurd (omega (arith, h))
  suc_left (p ∷ order) zero place h is there = ap (λ o. cons_option o (files_at files order)) (ap (slice_get files) (sym is) ∙ there)
  suc_left (p ∷ order) (suc i) place h is there = suc_left order i place (omega (arith, h)) is there

  -- the first of those that are left
  pub file_left : (order : List ℕ) (i place : ℕ) → i < length order → place ≡ get_or order i place → slice_get files place ≡ Some m → files_at files (drop i order) ≡ m ∷ files_at files (drop (i + 1) order)
  file_left order i place h is there = rw add-one (suc_left order i place h is there)

pub none_left : (files : List Message) (order : List ℕ) (i : ℕ) → length order ≤ i → files_at files (drop i order) ≡ []
none_left files order i h = ap (files_at files) (drop_all i order h)

-- what one file more adds
pub flat_more : {X : Type 0} (f : Message → List X) (before : List Message) (m : Message) → flat_map f (before ++ m ∷ []) ≡ flat_map f before ++ f m
flat_more f before m = flat_map-append f before (m ∷ []) ∙ ap (λ xs. flat_map f before ++ xs) (append-nil (f m))

pub files_on : {X : Type 0} (f : Message → List X) (before after : List Message) (m : Message) (mid new : List X) → after ≡ before ++ m ∷ [] → mid ≡ flat_map f before → new ≡ mid ++ f m → new ≡ flat_map f after
files_on f before after m mid new more is here = here ∙ (ap (λ xs. xs ++ f m) is ∙ (sym (flat_more f before m) ∙ ap (flat_map f) (sym more)))

-- ---- where all may be declared

all_middle : {A : Type 0} (P : A → Type 0) (front : List A) (m : A) (behind : List A) → AllByRecursion P ((front ++ m ∷ []) ++ behind) → P m
all_middle P [] m behind all = all.0
all_middle P (x ∷ front) m behind all = all_middle P front m behind all.1

few_here : (f : Message → List Row) (before : List Message) (m : Message) (later : List Message) → length (flat_map f ((before ++ m ∷ []) ++ later)) ≤ 2 ^ 32 → length (flat_map f before) + length (f m) ≤ 2 ^ 32
few_here f before m later few = search (rules, flat_map-append, length-append, flat_more)

-- what `may_declare` says, as facts
pub record MayStand (depth : ℕ) (files : List Message) : Type 0 where
  pub free : are_free depth files ≡ true
  pub no_entries : AllByRecursion (λ m. filter is_entry (children_at 4 m) ≡ []) files
  pub oneofs : AllByRecursion (λ m. NameOneofs depth (children_at 4 m)) files
  pub few_types : length (flat_map (file_types depth) files) ≤ 2 ^ 32

few_is : (n : ℕ) → few n ≡ true → n ≤ 2 ^ 32
few_is n is = grind (arith, nat_tests)

is_few : (n : ℕ) → n ≤ 2 ^ 32 → few n ≡ true
is_few n h = grind (arith, nat_tests)

none_long : {A : Type 0} (xs : List A) → nat_eq (length xs) 0 ≡ true → xs ≡ []
none_long [] is = refl
none_long (x ∷ xs) is = absurd (grind (arith, nat_tests))

entries_none : (files : List Message) → list_all has_no_entries files ≡ true → AllByRecursion (λ m. filter is_entry (children_at 4 m) ≡ []) files
entries_none [] all = tt
entries_none (m ∷ ms) all =
    (none_long (filter is_entry (children_at 4 m)) (and_left (has_no_entries m) (list_all has_no_entries ms) all), entries_none ms (and_right (has_no_entries m) (list_all has_no_entries ms) all))

none_entries : (files : List Message) → AllByRecursion (λ m. filter is_entry (children_at 4 m) ≡ []) files → list_all has_no_entries files ≡ true
none_entries [] all = refl
none_entries (m ∷ ms) all = and_both (has_no_entries m) (list_all has_no_entries ms) (ap (λ (xs : List Message). nat_eq (length xs) 0) all.0) (none_entries ms all.1)

all_split : {A : Type 0} (test : A → Bool) (a b : List A) → list_all test (a ++ b) ≡ true → (list_all test a ≡ true) × (list_all test b ≡ true)
all_split test a b all = (and_left (list_all test a) (list_all test b) (sym (list_all-append test a b) ∙ all), and_right (list_all test a) (list_all test b) (sym (list_all-append test a b) ∙ all))

all_join : {A : Type 0} (test : A → Bool) (a b : List A) → list_all test a ≡ true → list_all test b ≡ true → list_all test (a ++ b) ≡ true
all_join test a b first second = list_all-append test a b ∙ and_both (list_all test a) (list_all test b) first second

oneofs_of : (depth : ℕ) (scope : List ℕ) (ms : List Message) → list_all names_oneofs (type_rows depth scope ms) ≡ true → nest_within depth ms ≡ true → NameOneofs depth ms
oneofs_of zero scope ms all deep = none_long ms deep
oneofs_of (suc depth) scope [] all deep = tt
oneofs_of (suc depth) scope (m ∷ ms) all deep =
    let own = filter is_no_entry (children_at 3 m) in
    let inside = type_rows depth (qualified scope m) own in
    let split = all_split names_oneofs (row_in scope m ∷ inside) (type_rows (suc depth) scope ms) all in (
      (
        and_left (names_oneofs (row_in scope m)) (list_all names_oneofs inside) split.0,
        oneofs_of depth (qualified scope m) own (and_right (names_oneofs (row_in scope m)) (list_all names_oneofs inside) split.0) (and_left (nest_within depth own) (nest_within (suc depth) ms) deep),
      ),
      oneofs_of (suc depth) scope ms split.1 (and_right (nest_within depth own) (nest_within (suc depth) ms) deep),
    )

of_oneofs : (depth : ℕ) (scope : List ℕ) (ms : List Message) → NameOneofs depth ms → list_all names_oneofs (type_rows depth scope ms) ≡ true
of_oneofs zero scope ms all = refl
of_oneofs (suc depth) scope [] all = refl
of_oneofs (suc depth) scope (m ∷ ms) all =
    let inside = type_rows depth (qualified scope m) (filter is_no_entry (children_at 3 m)) in
    all_join names_oneofs (row_in scope m ∷ inside) (type_rows (suc depth) scope ms)
    (and_both (names_oneofs (row_in scope m)) (list_all names_oneofs inside) all.0.0 (of_oneofs depth (qualified scope m) (filter is_no_entry (children_at 3 m)) all.0.1)) (of_oneofs (suc depth) scope ms all.1)

-- of message types that name their oneofs, none is nested deeper
deep_of : (depth : ℕ) (ms : List Message) → NameOneofs depth ms → nest_within depth ms ≡ true
deep_of zero ms none = ap (λ (xs : List Message). nat_eq (length xs) 0) none
deep_of (suc depth) [] all = refl
deep_of (suc depth) (m ∷ ms) all =
    let own = filter is_no_entry (children_at 3 m) in
    and_both (nest_within depth own) (nest_within (suc depth) ms) (deep_of depth own all.0.1) (deep_of (suc depth) ms all.1)

file_oneofs : (depth : ℕ) (files : List Message) → list_all names_oneofs (flat_map (file_types depth) files) ≡ true → list_all (nests_within depth) files ≡ true → AllByRecursion (λ m. NameOneofs depth (children_at 4 m)) files
file_oneofs depth [] all deep = tt
file_oneofs depth (m ∷ ms) all deep =
    let split = all_split names_oneofs (file_types depth m) (flat_map (file_types depth) ms) all in
    (oneofs_of depth (file_scope m) (children_at 4 m) split.0 (and_left (nests_within depth m) (list_all (nests_within depth) ms) deep), file_oneofs depth ms split.1 (and_right (nests_within depth m) (list_all (nests_within depth) ms) deep))

deep_file : (depth : ℕ) (files : List Message) → AllByRecursion (λ m. NameOneofs depth (children_at 4 m)) files → list_all (nests_within depth) files ≡ true
deep_file depth [] all = refl
deep_file depth (m ∷ ms) all = and_both (nests_within depth m) (list_all (nests_within depth) ms) (deep_of depth (children_at 4 m) all.0) (deep_file depth ms all.1)

oneofs_file : (depth : ℕ) (files : List Message) → AllByRecursion (λ m. NameOneofs depth (children_at 4 m)) files → list_all names_oneofs (flat_map (file_types depth) files) ≡ true
oneofs_file depth [] all = refl
oneofs_file depth (m ∷ ms) all = all_join names_oneofs (file_types depth m) (flat_map (file_types depth) ms) (of_oneofs depth (file_scope m) (children_at 4 m) all.0) (oneofs_file depth ms all.1)

module _ (depth : ℕ) (files : List Message) where
  abbrev free_part : Bool
  free_part = are_free depth files

  abbrev entries_part : Bool
  entries_part = list_all has_no_entries files

  abbrev deep_part : Bool
  deep_part = list_all (nests_within depth) files

  abbrev oneofs_part : Bool
  oneofs_part = list_all names_oneofs (flat_map (file_types depth) files)

  abbrev types_part : Bool
  types_part = few (length (flat_map (file_types depth) files))

  pub may_stand : may_declare depth files ≡ true → MayStand depth files
  may_stand may =
      let a4 = and_left (free_part && entries_part && deep_part && oneofs_part) types_part may in
      let a3 = and_left (free_part && entries_part && deep_part) oneofs_part a4 in
      let a2 = and_left (free_part && entries_part) deep_part a3 in
      record {
        free = and_left free_part entries_part a2;
        no_entries = entries_none files (and_right free_part entries_part a2);
        oneofs = file_oneofs depth files (and_right (free_part && entries_part && deep_part) oneofs_part a4) (and_right (free_part && entries_part) deep_part a3);
        few_types = few_is _ (and_right (free_part && entries_part && deep_part && oneofs_part) types_part may);
      }

  pub stand_may : MayStand depth files → may_declare depth files ≡ true
  stand_may all =
      and_both (free_part && entries_part && deep_part && oneofs_part) types_part
      (and_both (free_part && entries_part && deep_part) oneofs_part
      (and_both (free_part && entries_part) deep_part (and_both free_part entries_part all.free (none_entries files all.no_entries)) (deep_file depth files all.oneofs)) (oneofs_file depth files all.oneofs)) (is_few _ all.few_types)

  -- names are free where they are of all packages, those without a name too
  pub free_there : are_distinct (files_names depth files) ≡ true → list_all (is_free_of (files_names depth files)) (map file_scope files) ≡ true → are_free depth files ≡ true
  free_there once apart =
      and_both (are_distinct (files_names depth files)) (list_all (is_free_of (files_names depth files)) (packages_of files)) once (fewer (is_free_of (files_names depth files)) (map file_scope files) apart)
    where
      fewer : (test : List ℕ → Bool) (names : List (List ℕ)) → list_all test names ≡ true → list_all test (filter has_name names) ≡ true
      fewer test [] all = refl
      fewer test ([] ∷ names) all = fewer test names (and_right (test []) (list_all test names) all)
      fewer test ((x ∷ xs) ∷ names) all = and_both (test (x ∷ xs)) (list_all test (filter has_name names)) (and_left (test (x ∷ xs)) (list_all test names) all) (fewer test names (and_right (test (x ∷ xs)) (list_all test names) all))

-- ---- refusals

pub holds_or : (test : Bool) (E : Type 0) → (test ≡ true → E) → E ⊎ (test ≡ false)
holds_or true E holds = inl (holds refl)
holds_or false E holds = inr refl

pub one_more : {A : Type 0} (P : A → Type 0) (before after : List A) (m : A) → after ≡ before ++ m ∷ [] → AllByRecursion P before → P m → AllByRecursion P after
one_more P before after m more all here = subst (AllByRecursion P) (sym more) (all_more P before m all here)

module _ (depth : ℕ) (before : List Message) (m : Message) (later all : List Message) (whole : (before ++ m ∷ []) ++ later ≡ all) (may : MayStand depth all) where
  split : (P : Message → Type 0) → AllByRecursion P all → AllByRecursion P ((before ++ m ∷ []) ++ later)
  split P each = subst (AllByRecursion P) (sym whole) each

  pub may_place : (counts : Counts) → counts.types ≡ length (flat_map (file_types depth) before) → MayPlace depth counts m
  may_place counts t =
      let few = few_here (file_types depth) before m later (subst (λ ms. length (flat_map (file_types depth) ms) ≤ 2 ^ 32) (sym whole) may.few_types) in
      record {
        no_entries = all_middle _ before m later (split _ may.no_entries);
        oneofs = all_middle _ before m later (split _ may.oneofs);
        few_types = subst (λ n. n + length (file_types depth m) ≤ 2 ^ 32) (sym t) few;
      }

-- ---- a file

module _ (depth : ℕ) (counts : Counts) (m : Message) where
  abbrev of_parts : List Declaration
  of_parts = package_declared (file_scope m)

  abbrev of_enums : List Declaration
  of_enums = enums_declared (file_scope m) counts.enums (children_at 5 m)

  abbrev of_types : List Declaration
  of_types = types_declared depth (file_scope m) (inside_file counts m) (children_at 4 m)

  abbrev of_services : List Declaration
  of_services = services_declared (file_scope m) (children_at 6 m)

  module _ {Y : Type 0} (at : List ℕ) (here : at ≡ file_scope m) (t0 : NameTable Y) where
    pub parts_fail : (e : Unstated) → CannotAdd (package_declared at) t0 e → CannotAdd (file_declared depth counts m) t0 e
    parts_fail e fails =
        first_fails (of_parts ++ of_enums ++ of_types) of_services t0 e (first_fails (of_parts ++ of_enums) of_types t0 e (first_fails of_parts of_enums t0 e (subst (λ a. CannotAdd (package_declared a) t0 e) here fails)))

    module _ (t1 : NameTable Y) (first : Adds (package_declared at) t0 t1) (enums : List Message) (same_enums : enums ≡ children_at 5 m) where
      enums_same : enums_declared at counts.enums enums ≡ of_enums
      enums_same = ap (λ a. enums_declared a counts.enums enums) here ∙ ap (enums_declared (file_scope m) counts.enums) same_enums

      parts_there : Adds of_parts t0 t1
      parts_there = subst (λ a. Adds (package_declared a) t0 t1) here first

      pub file_enums_fail : (e : Unstated) → CannotAdd (enums_declared at counts.enums enums) t1 e → CannotAdd (file_declared depth counts m) t0 e
      file_enums_fail e fails =
          first_fails (of_parts ++ of_enums ++ of_types) of_services t0 e (first_fails (of_parts ++ of_enums) of_types t0 e
          (later_fails of_parts of_enums t0 t1 e parts_there (subst (λ ds. CannotAdd ds t1 e) enums_same fails)))

      module _ (t2 : NameTable Y) (second : Adds (enums_declared at counts.enums enums) t1 t2) (within_counts : Counts) (counted : within_counts ≡ inside_file counts m) (types : List Message) (same_types : types ≡ children_at 4 m) where
        types_same : types_declared depth at within_counts types ≡ of_types
        types_same = ap (λ a. types_declared depth a within_counts types) here ∙ ap₂ (types_declared depth (file_scope m)) counted same_types

        enums_there : Adds (of_parts ++ of_enums) t0 t2
        enums_there = adds_both of_parts of_enums t0 t1 t2 parts_there (subst (λ ds. Adds ds t1 t2) enums_same second)

        pub file_types_fail : (e : Unstated) → CannotAdd (types_declared depth at within_counts types) t2 e → CannotAdd (file_declared depth counts m) t0 e
        file_types_fail e fails =
            first_fails (of_parts ++ of_enums ++ of_types) of_services t0 e (later_fails (of_parts ++ of_enums) of_types t0 t2 e enums_there (subst (λ ds. CannotAdd ds t2 e) types_same fails))

        module _ (t3 : NameTable Y) (third : Adds (types_declared depth at within_counts types) t2 t3) (services : List Message) (same_services : services ≡ children_at 6 m) where
          services_same : services_declared at services ≡ of_services
          services_same = ap (λ a. services_declared a services) here ∙ ap (services_declared (file_scope m)) same_services

          types_there : Adds (of_parts ++ of_enums ++ of_types) t0 t3
          types_there = adds_both (of_parts ++ of_enums) of_types t0 t2 t3 enums_there (subst (λ ds. Adds ds t2 t3) types_same third)

          pub file_services_fail : (e : Unstated) → CannotAdd (services_declared at services) t3 e → CannotAdd (file_declared depth counts m) t0 e
          file_services_fail e fails = later_fails (of_parts ++ of_enums ++ of_types) of_services t0 t3 e types_there (subst (λ ds. CannotAdd ds t3 e) services_same fails)

          pub file_added : (t4 : NameTable Y) → Adds (services_declared at services) t3 t4 → Adds (file_declared depth counts m) t0 t4
          file_added t4 last = adds_both (of_parts ++ of_enums ++ of_types) of_services t0 t3 t4 types_there (subst (λ ds. Adds ds t3 t4) services_same last)

-- what is at an index says what the message there says
pub seen_got : (ms : List Kept) (place : ℕ) (m : Kept) → place < length ms → m ≡ get_or ms place m → slice_get (seen ms) place ≡ Some (message_of m)
seen_got ms place m h is = slice_get-map message_of ms place ∙ ap (option_map message_of) (slice_get_read ms (length ms) place m refl h is)

pub count_of : {A R : Type 0} (row : A → R) (xs : List A) (rows : List R) → map row xs ≡ rows → length xs ≡ length rows
count_of row xs rows is = sym (length-map xs row) ∙ ap length is
