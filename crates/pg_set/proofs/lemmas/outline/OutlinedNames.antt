-- Names that enums, services and message types declare, as calls come to them.
use Rattle.std.proofs.Common.{◌≡◌, ℕ, ℤ, true, zero, suc, ◌+◌, ◌-◌, ◌<◌, ◌≤◌, ◌^◌, List, [], ◌∷◌, ◌++◌, map, length, filter, take, drop, get_or, refl, ap, ap₂, sym, subst, ◌∙◌, arith, add-one, append_assoc, append-nil, length-append, rules}
use Rattle.std.proofs.lemmas.List.{length-map, length-take-le, take_all}
use Rattle.std.proofs.lemmas.List.Concat.{flat_map_single}
use Rattle.std.specs.List.{AllByRecursion, flat_map, list_all}
use Rattle.pg_dyn.specs.message.Kept.{Kept, message_of}
use Rattle.pg_dyn.specs.message.Message.{Message}
use Rattle.pg_schema.specs.standing.Places.{places_from}
use Rattle.pg_set.specs.declared.error.Unstated.{Unstated}
use Rattle.pg_set.specs.declared.error.Unstated.TheVariants as errors
use Rattle.pg_set.specs.declared.reading.outline.Named.{Named}
use Rattle.pg_set.specs.declared.reading.outline.Named.TheVariants as nameds
use Rattle.pg_set.specs.declared.reading.outline.OutlinedType.{OutlinedType}
use Rattle.pg_set.specs.inner.Declarations.{Adds, CannotAdd, Declaration, NameTable, all_named, enums_declared, members_declared, named_in, type_declared, types_declared, whole_declared}
use Rattle.pg_set.specs.stated.Numbering.{Counts, behind_type, each_from, inner_types, inside_type}
use Rattle.pg_set.specs.inner.reading.OutlinedRows.{NameOneofs, NamesOneofs, row, type_row}
use Rattle.pg_set.specs.stated.Outlines.{Row, enum_rows, rows_in, rows_of_enums, rows_of_type, type_rows}
use Rattle.pg_set.specs.stated.SetMessages.{children_at}
use Rattle.pg_set.specs.stated.SetNames.{qualified}
use Rattle.pg_set.specs.stated.FileMessages.{is_place}
use Rattle.pg_set.specs.stated.TypeMessages.{is_entry, is_no_entry, real_oneofs, synthetic_places}
use Rattle.pg_set.proofs.lemmas.outline.InOrderLaws.{more_from}
use Rattle.pg_set.proofs.lemmas.outline.Declaring.{Left, adds_both, first_fails, later_fails, left_fails, seen_drop}
use Rattle.pg_set.proofs.lemmas.outline.NameLoops.{seen, seen_on, seen_whole}
use Rattle.pg_set.proofs.lemmas.order.OrderSteps.{map_more}

-- ---- a name and those of what is inside

module _ (scope inner : List ℕ) (thing : Named) (m : Message) where
  abbrev name_first : List Declaration
  name_first = named_in scope thing m ∷ []

  abbrev name_behind : List Declaration
  name_behind = all_named inner nameds.Other (children_at 2 m)

  pub name_fails : {Y : Type 0} (table : NameTable Y) (e : Unstated) → CannotAdd (named_in scope thing m ∷ []) table e → CannotAdd (named_in scope thing m ∷ all_named inner nameds.Other (children_at 2 m)) table e
  name_fails table e fails = first_fails name_first name_behind table e fails

  module _ (at : List ℕ) (found : List Message) (here : at ≡ inner) (all : found ≡ children_at 2 m) where
    same_behind : all_named at nameds.Other found ≡ name_behind
    same_behind = ap (λ a. all_named a nameds.Other found) here ∙ ap (all_named inner nameds.Other) all

    pub both_added : {Y : Type 0} (old mid : NameTable Y) → Adds (named_in scope thing m ∷ []) old mid → (new : NameTable Y) → Adds (all_named at nameds.Other found) mid new
        → Adds (named_in scope thing m ∷ all_named inner nameds.Other (children_at 2 m)) old new
    both_added old mid first new later = adds_both name_first name_behind old mid new first (subst (λ ds. Adds ds mid new) same_behind later)

    pub inside_fails : {Y : Type 0} (old mid : NameTable Y) → Adds (named_in scope thing m ∷ []) old mid → (e : Unstated) → CannotAdd (all_named at nameds.Other found) mid e
        → CannotAdd (named_in scope thing m ∷ all_named inner nameds.Other (children_at 2 m)) old e
    inside_fails old mid first e fails = later_fails name_first name_behind old mid e first (subst (λ ds. CannotAdd ds mid e) same_behind fails)

-- ---- lists of things, as loops come to them

module _ {X : Type 0} (f : Message → List X) (ms : List Kept) (i : ℕ) (m : Kept) (h : i < length ms) (is : m ≡ get_or ms i m) where
  -- what one message more adds
  pub lists_on : (start mid new : List X) → mid ≡ start ++ flat_map f (seen (take i ms)) → new ≡ mid ++ f (message_of m) → new ≡ start ++ flat_map f (seen (take (i + 1) ms))
  lists_on start mid new before here = search (rules, append_assoc, seen, seen_on)

  -- where all fit, so do those up to here
  pub up_to_here : (start : ℕ) → start + length (flat_map f (seen ms)) ≤ 2 ^ 32 → start + length (flat_map f (seen (take i ms))) + length (f (message_of m)) ≤ 2 ^ 32
  up_to_here start all =
      let front = flat_map f (seen (take i ms)) in
      let own = f (message_of m) in
      let behind = flat_map f (seen (drop (suc i) ms)) in
      omega (arith, all, ap length (seen_whole f ms i m h is), length-append (front ++ own) behind, length-append front own)

module _ {X : Type 0} (f : Message → X) (ms : List Kept) (i : ℕ) (m : Kept) (h : i < length ms) (is : m ≡ get_or ms i m) where
  pub one_seen : map f (seen (take (i + 1) ms)) ≡ map f (seen (take i ms)) ++ f (message_of m) ∷ []
  one_seen = sym (flat_map_single f (seen (take (i + 1) ms))) ∙ (seen_on (λ x. f x ∷ []) ms i m h is ∙ ap (λ xs. xs ++ f (message_of m) ∷ []) (flat_map_single f (seen (take i ms))))

  pub maps_on : (start mid new : List X) → mid ≡ start ++ map f (seen (take i ms)) → new ≡ mid ++ f (message_of m) ∷ [] → new ≡ start ++ map f (seen (take (i + 1) ms))
  maps_on start mid new before here = search (rules, append_assoc, seen, one_seen)

-- what holds of all messages holds of one
pub seen_at : (P : Message → Type 0) (ms : List Kept) (i : ℕ) (m : Kept) → i < length ms → m ≡ get_or ms i m → AllByRecursion P (seen ms) → P (message_of m)
seen_at P [] i m h is all = absurd (omega (arith, h))
seen_at P (x ∷ ms) zero m h is all = subst (λ (b : Kept). P (message_of b)) (sym is) all.0
seen_at P (x ∷ ms) (suc i) m h is all = seen_at P ms i m (omega (arith, h)) is all.1

pub seen_long : (ms : List Kept) → length (seen ms) ≡ length ms
seen_long [] = refl
seen_long (x ∷ ms) = ap suc (seen_long ms)

-- how long a list is that is made row by row
pub rows_long : {A R : Type 0} (row : A → R) (old new : List A) (more : List R) → map row new ≡ map row old ++ more → length new ≡ length old + length more
rows_long row old new more is = omega (arith, ap length is, length-append (map row old) more, length-map old row, length-map new row)

-- so many rows were made, one for each message
pub count_at : {A R : Type 0} (row : A → R) (f : Message → R) (old mid : List A) (ms : List Kept) (i : ℕ) → i ≤ length ms → map row mid ≡ map row old ++ map f (seen (take i ms)) → length mid ≡ length old + i
count_at row f old mid ms i h is =
    omega (arith, rows_long row old mid (map f (seen (take i ms))) is, length-map (seen (take i ms)) f, seen_long (take i ms), length-take-le i ms h)

-- the index of one thing more
pub ids_on : {I : Type 0} (place : I → ℕ) (start i : ℕ) (mid new : List I) (id : I) → map place mid ≡ places_from start i → new ≡ mid ++ id ∷ [] → place id ≡ start + i → map place new ≡ places_from start (i + 1)
ids_on place start i mid new id before here at = search (rules, map_more, more_from, add-one)

-- ---- one level down

module _ (scope : List ℕ) (ms : List Message) where
  pub rows_below : (depth : ℕ) → (depth ≡ 0 → ⊥) → type_rows depth scope ms ≡ flat_map (rows_of_type (type_rows (depth - 1)) scope) ms
  rows_below zero some = absurd (some refl)
  rows_below (suc depth) some = search rules

  pub enums_below : (depth : ℕ) → (depth ≡ 0 → ⊥) → enum_rows depth scope ms ≡ flat_map (rows_of_enums (enum_rows (depth - 1)) scope) ms
  enums_below zero some = absurd (some refl)
  enums_below (suc depth) some = search rules

pub oneofs_below : (depth : ℕ) (ms : List Message) → (depth ≡ 0 → ⊥) → NameOneofs depth ms → AllByRecursion (λ m. NamesOneofs m × NameOneofs (depth - 1) (filter is_no_entry (children_at 3 m))) ms
oneofs_below zero ms some all = absurd (some refl)
oneofs_below (suc depth) ms some all =
    let down : depth ≡ suc depth - 1 = omega arith in
    subst (λ d. AllByRecursion (λ m. NamesOneofs m × NameOneofs d (filter is_no_entry (children_at 3 m))) ms) down all

-- ---- fields, oneofs and entry types

pub marks_refused : (m : Message) (count : ℕ) (numbers : List ℤ) (e : Unstated) → numbers ≡ synthetic_places (children_at 2 m) → count ≡ length (children_at 8 m) → (list_all (is_place count) numbers ≡ true → e ≡ errors.Memory) → NamesOneofs m → e ≡ errors.Memory
marks_refused m count numbers e these as_many refused named = refused (ap₂ (λ n ns. list_all (is_place n) ns) as_many these ∙ named)

pub marks_named : (m : Message) (count : ℕ) (numbers : List ℤ) → numbers ≡ synthetic_places (children_at 2 m) → count ≡ length (children_at 8 m) → list_all (is_place count) numbers ≡ true → NamesOneofs m
marks_named m count numbers these as_many places = sym (ap₂ (λ n ns. list_all (is_place n) ns) as_many these) ∙ places

module _ {Y : Type 0} (full : List ℕ) (m : Message) (fields real : List Message) (all : fields ≡ children_at 2 m) (these : real ≡ real_oneofs (synthetic_places (children_at 2 m)) 0 (children_at 8 m))
    (old mid : NameTable Y) (first : Adds (all_named full nameds.Other fields) old mid) where
  abbrev of_fields : List Declaration
  of_fields = all_named full nameds.Other (children_at 2 m)

  abbrev of_oneofs : List Declaration
  of_oneofs = all_named full nameds.Other (real_oneofs (synthetic_places (children_at 2 m)) 0 (children_at 8 m))

  fields_there : Adds of_fields old mid
  fields_there = subst (λ ms. Adds (all_named full nameds.Other ms) old mid) all first

  pub members_added : (new : NameTable Y) → Adds (all_named full nameds.Other real) mid new → Adds (members_declared full m) old new
  members_added new later = adds_both of_fields of_oneofs old mid new fields_there (subst (λ ms. Adds (all_named full nameds.Other ms) mid new) these later)

  pub oneofs_fail : (e : Unstated) → CannotAdd (all_named full nameds.Other real) mid e → CannotAdd (members_declared full m) old e
  oneofs_fail e fails = later_fails of_fields of_oneofs old mid e fields_there (subst (λ ms. CannotAdd (all_named full nameds.Other ms) mid e) these fails)

module _ (full : List ℕ) (place : ℕ) (m : Message) where
  abbrev type_own : List Declaration
  type_own = (full, nameds.Type (record { index = place })) ∷ []

  abbrev members : List Declaration
  members = members_declared full m

  abbrev entries : List Declaration
  entries = all_named full nameds.Entry (filter is_entry (children_at 3 m))

  module _ {Y : Type 0} (name : List ℕ) (named : name ≡ full) where
    pub own_fails : (table : NameTable Y) (e : Unstated) → CannotAdd ((name, nameds.Type (record { index = place })) ∷ []) table e → CannotAdd (type_declared full place m) table e
    own_fails table e fails = first_fails type_own (members ++ entries) table e (subst (λ n. CannotAdd ((n, nameds.Type (record { index = place })) ∷ []) table e) named fails)

    module _ (t0 t1 : NameTable Y) (first : Adds ((name, nameds.Type (record { index = place })) ∷ []) t0 t1) where
      name_there : Adds type_own t0 t1
      name_there = subst (λ n. Adds ((n, nameds.Type (record { index = place })) ∷ []) t0 t1) named first

      pub members_fail : (e : Unstated) → CannotAdd (members_declared full m) t1 e → CannotAdd (type_declared full place m) t0 e
      members_fail e fails = first_fails (type_own ++ members) entries t0 e (later_fails type_own members t0 t1 e name_there fails)

      module _ (t2 : NameTable Y) (second : Adds (members_declared full m) t1 t2) (found : List Message) (all : found ≡ filter is_entry (children_at 3 m)) where
        members_there : Adds (type_own ++ members) t0 t2
        members_there = adds_both type_own members t0 t1 t2 name_there second

        pub entries_fail : (e : Unstated) → CannotAdd (all_named full nameds.Entry found) t2 e → CannotAdd (type_declared full place m) t0 e
        entries_fail e fails = later_fails (type_own ++ members) entries t0 t2 e members_there (subst (λ ms. CannotAdd (all_named full nameds.Entry ms) t2 e) all fails)

        pub own_added : (t3 : NameTable Y) → Adds (all_named full nameds.Entry found) t2 t3 → Adds (type_declared full place m) t0 t3
        own_added t3 third = adds_both (type_own ++ members) entries t0 t2 t3 members_there (subst (λ ms. Adds (all_named full nameds.Entry ms) t2 t3) all third)

-- ---- a message type

module _ (depth : ℕ) (scope : List ℕ) (counts : Counts) (m : Message) where
  abbrev own : List Declaration
  own = type_declared (qualified scope m) counts.types m

  abbrev enums : List Declaration
  enums = enums_declared (qualified scope m) counts.enums (children_at 4 m)

  abbrev inside : List Declaration
  inside = types_declared depth (qualified scope m) (inside_type counts m) (inner_types m)

  module _ (at : List ℕ) (here : at ≡ qualified scope m) where
    same_own : type_declared at counts.types m ≡ own
    same_own = ap (λ a. type_declared a counts.types m) here

    module _ {Y : Type 0} where
      pub type_fails : (table : NameTable Y) (e : Unstated) → CannotAdd (type_declared at counts.types m) table e → CannotAdd (whole_declared (types_declared depth) scope counts m) table e
      type_fails table e fails = first_fails (own ++ enums) inside table e (first_fails own enums table e (subst (λ ds. CannotAdd ds table e) same_own fails))

      module _ (t0 t1 : NameTable Y) (first : Adds (type_declared at counts.types m) t0 t1) (place : ℕ) (at_place : place ≡ counts.enums) (found : List Message) (all : found ≡ children_at 4 m) where
        same_enums : enums_declared at place found ≡ enums
        same_enums = ap (λ a. enums_declared a place found) here ∙ ap₂ (enums_declared (qualified scope m)) at_place all

        own_there : Adds own t0 t1
        own_there = subst (λ ds. Adds ds t0 t1) same_own first

        pub enums_fail : (e : Unstated) → CannotAdd (enums_declared at place found) t1 e → CannotAdd (whole_declared (types_declared depth) scope counts m) t0 e
        enums_fail e fails = first_fails (own ++ enums) inside t0 e (later_fails own enums t0 t1 e own_there (subst (λ ds. CannotAdd ds t1 e) same_enums fails))

        module _ (t2 : NameTable Y) (second : Adds (enums_declared at place found) t1 t2) (within_counts : Counts) (counted : within_counts ≡ inside_type counts m) (within : List Message) (types : within ≡ inner_types m) where
          same_inside : types_declared depth at within_counts within ≡ inside
          same_inside = ap (λ a. types_declared depth a within_counts within) here ∙ ap₂ (types_declared depth (qualified scope m)) counted types

          enums_there : Adds (own ++ enums) t0 t2
          enums_there = adds_both own enums t0 t1 t2 own_there (subst (λ ds. Adds ds t1 t2) same_enums second)

          pub types_fail : (e : Unstated) → CannotAdd (types_declared depth at within_counts within) t2 e → CannotAdd (whole_declared (types_declared depth) scope counts m) t0 e
          types_fail e fails = later_fails (own ++ enums) inside t0 t2 e enums_there (subst (λ ds. CannotAdd ds t2 e) same_inside fails)

          pub type_added : (t3 : NameTable Y) → Adds (types_declared depth at within_counts within) t2 t3 → Adds (whole_declared (types_declared depth) scope counts m) t0 t3
          type_added t3 last = adds_both (own ++ enums) inside t0 t2 t3 enums_there (subst (λ ds. Adds ds t2 t3) same_inside last)

-- one level down
pub declared_below : (scope : List ℕ) (counts : Counts) (ms : List Message) (depth : ℕ) → (depth ≡ 0 → ⊥)
    → types_declared depth scope counts ms ≡ each_from (behind_type (depth - 1) scope) (whole_declared (types_declared (depth - 1)) scope) counts ms
declared_below scope counts ms zero some = absurd (some refl)
declared_below scope counts ms (suc depth) some = search rules

-- ---- message types, as a loop comes to them

module _ (depth : ℕ) (scope : List ℕ) (ms : List Kept) (i : ℕ) (m : Kept) (some : depth ≡ 0 → ⊥) (h : i < length ms) (is : m ≡ get_or ms i m) where
  pub deep_fails : {Y : Type 0} (start here : Counts) (old mid : NameTable Y) (e : Unstated)
      → Left (each_from (behind_type (depth - 1) scope) (whole_declared (types_declared (depth - 1)) scope) here (seen (drop i ms))) (each_from (behind_type (depth - 1) scope) (whole_declared (types_declared (depth - 1)) scope) start (seen ms)) mid old
      → CannotAdd (whole_declared (types_declared (depth - 1)) scope here (message_of m)) mid e → CannotAdd (types_declared depth scope start (seen ms)) old e
  deep_fails start here old mid e left fails =
      let on = behind_type (depth - 1) scope in
      let whole_of = whole_declared (types_declared (depth - 1)) scope in
      subst (λ ds. CannotAdd ds old e) (sym (declared_below scope start (seen ms) depth some))
      (left_fails (each_from on whole_of here (seen (drop i ms))) (whole_of here (message_of m)) (each_from on whole_of (on here (message_of m)) (seen (drop (i + 1) ms))) (each_from on whole_of start (seen ms)) mid old e
      (ap (each_from on whole_of here) (seen_drop ms i m h is)) left fails)

  -- a type's index is there, and so are those of the types inside it
  pub few_types : (old mid : List OutlinedType) → map type_row mid ≡ map type_row old ++ flat_map (rows_of_type (type_rows (depth - 1)) scope) (seen (take i ms)) → length old + length (type_rows depth scope (seen ms)) ≤ 2 ^ 32
      → suc (length mid) + length (type_rows (depth - 1) (qualified scope (message_of m)) (filter is_no_entry (children_at 3 (message_of m)))) ≤ 2 ^ 32
  few_types old mid rows all =
      let f = rows_of_type (type_rows (depth - 1)) scope in
      omega (arith, up_to_here f ms i m h is (length old) (subst (λ rs. length old + length rs ≤ 2 ^ 32) (rows_below scope (seen ms) depth some) all), rows_long type_row old mid (flat_map f (seen (take i ms))) rows)

  pub oneofs_here : NameOneofs depth (seen ms) → NamesOneofs (message_of m) × NameOneofs (depth - 1) (filter is_no_entry (children_at 3 (message_of m)))
  oneofs_here all = seen_at (λ x. NamesOneofs x × NameOneofs (depth - 1) (filter is_no_entry (children_at 3 x))) ms i m h is (oneofs_below depth (seen ms) some all)

-- the rows of a message type and those inside it
pub type_rows_on : (depth : ℕ) (scope at : List ℕ) (m : Message) (within : List Message) (mid first new : List Row) → at ≡ qualified scope m → within ≡ filter is_no_entry (children_at 3 m)
    → first ≡ mid ++ (at, m) ∷ [] → new ≡ first ++ type_rows depth at within → new ≡ mid ++ rows_of_type (type_rows depth) scope m
type_rows_on depth scope at m within mid first new here types one more = search (rules, append_assoc)

pub enum_rows_on : (depth : ℕ) (scope at : List ℕ) (m : Message) (within found : List Message) (mid first new : List Row) → at ≡ qualified scope m → within ≡ filter is_no_entry (children_at 3 m) → found ≡ children_at 4 m
    → first ≡ mid ++ rows_in at found → new ≡ first ++ enum_rows depth at within → new ≡ mid ++ rows_of_enums (enum_rows depth) scope m
enum_rows_on depth scope at m within found mid first new here types all one more = search (rules, append_assoc)

pub taken : {A : Type 0} (xs : List A) (i : ℕ) → length xs ≤ i → take i xs ≡ xs
taken xs i h = take_all i xs h

-- a loop has come to the end
pub lists_end : {X : Type 0} (f : Message → List X) (ms : List Kept) (i : ℕ) (start mid all : List X) → length ms ≤ i → all ≡ flat_map f (seen ms) → mid ≡ start ++ flat_map f (seen (take i ms)) → mid ≡ start ++ all
lists_end f ms i start mid all h same is = is ∙ (ap (λ xs. start ++ flat_map f (seen xs)) (taken ms i h) ∙ ap (λ xs. start ++ xs) (sym same))

-- `optional` fields of one message type more name its oneofs
pub oneofs_above : (depth : ℕ) (ms : List Message) → (depth ≡ 0 → ⊥) → AllByRecursion (λ m. NamesOneofs m × NameOneofs (depth - 1) (filter is_no_entry (children_at 3 m))) ms → NameOneofs depth ms
oneofs_above zero ms some all = absurd (some refl)
oneofs_above (suc depth) ms some all =
    let down : suc depth - 1 ≡ depth = omega arith in
    subst (λ d. AllByRecursion (λ m. NamesOneofs m × NameOneofs d (filter is_no_entry (children_at 3 m))) ms) down all

-- with no depth there is nothing
pub no_type_rows : (depth : ℕ) (scope : List ℕ) (ms : List Message) (old : List Row) → depth ≡ 0 → old ≡ old ++ type_rows depth scope ms
no_type_rows depth scope ms old none = sym (append-nil old) ∙ ap (λ d. old ++ type_rows d scope ms) (sym none)

pub no_enum_rows : (depth : ℕ) (scope : List ℕ) (ms : List Message) (old : List Row) → depth ≡ 0 → old ≡ old ++ enum_rows depth scope ms
no_enum_rows depth scope ms old none = sym (append-nil old) ∙ ap (λ d. old ++ enum_rows d scope ms) (sym none)
