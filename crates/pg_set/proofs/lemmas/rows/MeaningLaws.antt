-- What names mean by the rows of message types and enums: where names occur once, each name means its own.
use Rattle.std.proofs.Common.{◌≡◌, ℕ, zero, suc, ◌+◌, ◌≤◌, Bool, true, false, cond, ◌||◌, List, [], ◌∷◌, flat_map, Option, Some, None, option_map, slice_get, refl, ap, ◌∙◌, arith, rules}
use Rattle.std.proofs.lemmas.Option.{none-some, same_Some, slice_get-map}
use Rattle.std.proofs.lemmas.Slice.Eq.{bytes_eq-Decides}
use Rattle.std.specs.List.{AllByRecursion, position_from}
use Rattle.std.specs.Str.{bytes_eq}
use Rattle.pg_schema.specs.rules.Pairs.{are_distinct}
use Rattle.pg_schema.specs.rules.TextSets.{is_among}
use Rattle.pg_dyn.specs.message.Message.{Message}
use Rattle.pg_set.specs.declared.reading.outline.Named.{Named}
use Rattle.pg_set.specs.declared.reading.outline.Named.TheVariants as nameds
use Rattle.pg_set.specs.stated.Outlines.{Row, file_enums, file_types}
use Rattle.pg_set.specs.stated.SetNames.{files_names, qualified, qualified_names}
use Rattle.pg_set.specs.stated.StatedTable.{entry_names, meaning, names_of, place_of}
use Rattle.pg_set.specs.stated.StatedNames.{first_of}
use Rattle.pg_set.specs.descriptor.Descriptor.{enum_id, type_id}
use Rattle.pg_set.specs.stated.StatedTypes.{own_entries}
use Rattle.pg_set.proofs.lemmas.lists.NameCounts.{at_most_once, count, count_append}
use Rattle.pg_set.proofs.lemmas.rows.RowNames.{AreMeant}
use Rattle.pg_set.proofs.lemmas.rows.NamesOfRows.{as_entry, as_row, few_in_files}

-- ---- the index of a name

module _ (n : List ℕ) where
  counted_there : (names : List (List ℕ)) (place : ℕ) → slice_get names place ≡ Some n → 1 ≤ count n names
  counted_there [] place is = absurd (none-some n is)
  counted_there (x ∷ names) zero is = search (rules, bytes_eq-Decides, same_Some, count)
  counted_there (x ∷ names) (suc place) is = omega (arith, counted_there names place is)

  none_from : (names : List (List ℕ)) (start : ℕ) → count n names ≡ 0 → position_from (bytes_eq n) start names ≡ None
  none_from [] start none = refl
  none_from (x ∷ names) start none = of (bytes_eq n x) none (λ rest. none_from names (start + 1) rest)
    where
      of : (b : Bool) → cond b 1 0 + count n names ≡ 0 → (count n names ≡ 0 → position_from (bytes_eq n) (start + 1) names ≡ None) → cond b (Some start) (position_from (bytes_eq n) (start + 1) names) ≡ None
      of true none later = absurd (omega (arith, none))
      of false none later = later (omega (arith, none))

  found_from : (names : List (List ℕ)) (place start : ℕ) → slice_get names place ≡ Some n → count n names ≤ 1 → position_from (bytes_eq n) start names ≡ Some (start + place)
  found_from [] place start is once = absurd (none-some n is)
  found_from (x ∷ names) zero start is once = search (rules, bytes_eq-Decides, same_Some)
  found_from (x ∷ names) (suc place) start is once = of (bytes_eq n x) once (counted_there names place is) (λ few. found_from names place (start + 1) is few ∙ ap Some (moved place))
    where
      moved : (p : ℕ) → start + 1 + p ≡ start + suc p
      moved p = omega arith

      of : (b : Bool) → cond b 1 0 + count n names ≤ 1 → 1 ≤ count n names → (count n names ≤ 1 → position_from (bytes_eq n) (start + 1) names ≡ Some (start + suc place))
          → cond b (Some start) (position_from (bytes_eq n) (start + 1) names) ≡ Some (start + suc place)
      of true once there later = absurd (omega (arith, once, there))
      of false once there later = later (omega (arith, once))

  pub place_is : (names : List (List ℕ)) (place : ℕ) → slice_get names place ≡ Some n → count n names ≤ 1 → place_of names n ≡ Some place
  place_is names place is once = found_from names place 0 is once ∙ ap Some (omega arith)

  pub among_counted : (names : List (List ℕ)) → 1 ≤ count n names → is_among names n ≡ true
  among_counted [] there = absurd (omega (arith, there))
  among_counted (x ∷ names) there = of (bytes_eq n x) there (λ more. among_counted names more)
    where
      of : (b : Bool) → 1 ≤ cond b 1 0 + count n names → (1 ≤ count n names → is_among names n ≡ true) → (b || is_among names n) ≡ true
      of true there later = refl
      of false there later = later (omega (arith, there))

-- ---- what the name of each row means

module _ (types enums : List Row) (once : (n : List ℕ) → as_row n types + as_row n enums + as_entry n types ≤ 1) where
  abbrev or_entry : List ℕ → Option Named
  or_entry n = cond (is_among (flat_map entry_names types) n) (Some nameds.Entry) None

  abbrev or_enum : List ℕ → Option ℕ → Option Named
  or_enum n place = first_of (option_map (λ p. nameds.Enum (enum_id p)) place) (or_entry n)

  abbrev or_type : List ℕ → Option ℕ → Option ℕ → Option Named
  or_type n place enum = first_of (option_map (λ p. nameds.Type (type_id p)) place) (or_enum n enum)

  named_at : (rows : List Row) (place : ℕ) (r : Row) → slice_get rows place ≡ Some r → slice_get (names_of rows) place ≡ Some r.0
  named_at rows place r at = slice_get-map (λ (x : Row). x.0) rows place ∙ ap (option_map (λ (x : Row). x.0)) at

  type_means : (place : ℕ) (r : Row) → slice_get types place ≡ Some r → meaning types enums r.0 ≡ Some (nameds.Type (type_id place))
  type_means place r at = search (rules, as_row, place_is, named_at)

  enum_means : (place : ℕ) (r : Row) → slice_get enums place ≡ Some r → meaning types enums r.0 ≡ Some (nameds.Enum (enum_id place))
  enum_means place r at = search (rules, counted_there, named_at, as_row, none_from, place_is)

  entry_means : (n : List ℕ) → 1 ≤ as_entry n types → meaning types enums n ≡ Some nameds.Entry
  entry_means n there = search (rules, as_row, none_from, among_counted)

  -- each entry type of a row is among those of all
  its_entry : (n : List ℕ) (rows : List Row) (place : ℕ) (r : Row) → slice_get rows place ≡ Some r → 1 ≤ count n (entry_names r) → 1 ≤ as_entry n rows
  its_entry n [] place r at there = absurd (none-some r at)
  its_entry n (x ∷ rows) zero r at there = omega (arith, there, ap (λ y. count n (entry_names y)) (same_Some x r at), count_append n (entry_names x) (flat_map entry_names rows))
  its_entry n (x ∷ rows) (suc place) r at there = omega (arith, its_entry n rows place r at there, count_append n (entry_names x) (flat_map entry_names rows))

  each_entry : (full : List ℕ) (es : List Message) → ((n : List ℕ) → 1 ≤ count n (qualified_names full es) → meaning types enums n ≡ Some nameds.Entry) → AllByRecursion (λ e. meaning types enums (qualified full e) ≡ Some nameds.Entry) es
  each_entry full [] means = tt
  each_entry full (e ∷ es) means = (
    means (qualified full e) (counted_there (qualified full e) (qualified_names full (e ∷ es)) zero refl),
    each_entry full es (λ n there. means n (behind n there)),
  )
    where
      behind : (n : List ℕ) → 1 ≤ count n (qualified_names full es) → 1 ≤ count n (qualified_names full (e ∷ es))
      behind n there = omega (arith, there, count_append n (qualified full e ∷ []) (qualified_names full es))

  pub rows_meant : AreMeant (meaning types enums) types enums
  rows_meant = record {
    types = type_means;
    entries = λ place r at. each_entry r.0 (own_entries r.1) (λ n there. entry_means n (its_entry n types place r at there));
    enums = enum_means;
  }

-- the names of all that files declare occur once, so those of their rows mean these
pub files_meant : (depth : ℕ) (files : List Message) → are_distinct (files_names depth files) ≡ true
    → AreMeant (meaning (flat_map (file_types depth) files) (flat_map (file_enums depth) files)) (flat_map (file_types depth) files) (flat_map (file_enums depth) files)
files_meant depth files once = search (rules, rows_meant, few_in_files, at_most_once, as_row, as_entry, count)
