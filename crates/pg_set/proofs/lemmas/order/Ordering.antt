-- From indices of files to their paths.
use Rattle.std.proofs.Common.{◌≡◌, ◌↔◌, ℕ, zero, suc, ◌<◌, ◌⊎◌, inl, inr, Bool, true, false, cond, nat_eq, ◌||◌, List, [], ◌∷◌, ◌++◌, length, map, String, Option, Some, None, slice_get, unwrap_or, refl, ap, ap₂, sym, subst, ◌∙◌, arith, rules}
use Rattle.std.proofs.lemmas.Bool.{false≢true}
use Rattle.std.proofs.lemmas.List.{length-map, map-append}
use Rattle.std.proofs.lemmas.Option.{none-some, same_Some, slice_get_within}
use Rattle.std.proofs.lemmas.Slice.Eq.{bytes_eq-Decides}
use Rattle.std.specs.BTreeMap.{BTreeMap, get_by_text}
use Rattle.std.specs.List.{AllByRecursion, list_all, list_any}
use Rattle.std.specs.Map.{update}
use Rattle.std.specs.Str.{bytes_eq}
use Rattle.pg_schema.specs.rules.Pairs.{are_distinct, differ}
use Rattle.pg_schema.proofs.lemmas.rules.PairLemmas.{and_left, and_right}
use Rattle.pg_schema.specs.standing.Places.{places_from}
use Rattle.pg_set.specs.inner.reading.FilePlaces.{ImportsAt, IsIndex, StandAt, name_at, IsPostOrder}
use Rattle.pg_schema.specs.standing.Visits.{Visits, all_visited, listed_last, passed_over}
use Rattle.pg_set.specs.stated.PostOrder.{Importer, imports_at, paths_of}
use Rattle.pg_set.specs.inner.reading.Walks.{AreWithin, Falls, Walks}
use Rattle.pg_set.proofs.lemmas.order.Visited.{Among, Text, behind_at, imports_found, rank, there_at}
use Rattle.pg_set.proofs.lemmas.lists.Tests.{or_right, same_number, itself}

-- ---- one more at the end

last_at : {A : Type 0} (xs : List A) (x : A) → slice_get (xs ++ x ∷ []) (length xs) ≡ Some x
last_at [] x = refl
last_at (y ∷ xs) x = last_at xs x

front_at : {A : Type 0} (xs : List A) (x : A) (i : ℕ) → i < length xs → slice_get (xs ++ x ∷ []) i ≡ slice_get xs i
front_at [] x i h = absurd (omega (arith, h))
front_at (y ∷ xs) x zero h = refl
front_at (y ∷ xs) x (suc i) h = front_at xs x i (omega (arith, h))

-- what is at an index was there before, or is the last
either_at : {A : Type 0} (xs : List A) (x : A) (i : ℕ) (y : A) → slice_get (xs ++ x ∷ []) i ≡ Some y → (slice_get xs i ≡ Some y) ⊎ ((i ≡ length xs) × (x ≡ y))
either_at [] x zero y is = inr (refl, same_Some x y is)
either_at [] x (suc i) y is = absurd (none-some y is)
either_at (z ∷ xs) x zero y is = inl is
either_at (z ∷ xs) x (suc i) y is = elim (either_at xs x i y is) [ inl before ↦ inl before | inr last ↦ inr (ap suc last.0, last.1) ]

-- ---- the map of indices

abbrev Reads : List Text → Text → ℕ → Option ℕ → Type 0
Reads paths path place found = (found ≡ Some place) ↔ (slice_get paths place ≡ Some path)

no_other : (paths : List Text) (key : Text) → ((place : ℕ) → Reads paths key place None) → (place : ℕ) → slice_get paths place ≡ Some key → ⊥
no_other paths key none place is = none-some place ((none place).1 is)

index_here : (paths : List Text) (key path : Text) (place : ℕ) → key ≡ path → ((p : ℕ) → Reads paths key p None) → Reads (paths ++ key ∷ []) path place (Some (length paths))
index_here paths key path place same none = search (rules, same_Some, last_at, either_at, no_other)

index_elsewhere : (paths : List Text) (key path : Text) (place : ℕ) (found : Option ℕ) → (key ≡ path → ⊥) → Reads paths path place found → Reads (paths ++ key ∷ []) path place found
index_elsewhere paths key path place found other reads = search (rules, front_at, slice_get_within, either_at)

pub index_more : {Y : Type 0} (paths : List Text) (key : Text) (i : ℕ) (old new : BTreeMap (String Y) ℕ) → i ≡ length paths → get_by_text old key ≡ None
    → ((cs : Text) → get_by_text new cs ≡ update bytes_eq (get_by_text old) key (Some i) cs) → IsIndex paths old → IsIndex (paths ++ key ∷ []) new
index_more paths key i old new many fresh step index path place =
    subst (Reads (paths ++ key ∷ []) path place) (sym (step path))
    (elim (bytes_eq key path) as (λ b. bytes_eq key path ≡ b → Reads (paths ++ key ∷ []) path place (cond b (Some i) (get_by_text old path))) [
      | true ↦ λ t. subst (λ n. Reads (paths ++ key ∷ []) path place (Some n)) (sym many)
          (index_here paths key path place ((bytes_eq-Decides key path).0 t) (λ p. subst (Reads paths key p) fresh (index key p)))
      | false ↦ λ f. index_elsewhere paths key path place (get_by_text old path) (λ same. absurd (cc (f, (bytes_eq-Decides key path).1 same))) (index path place)
    ] refl)

among_at : (paths : List Text) (place : ℕ) (path : Text) → slice_get paths place ≡ Some path → Among paths path
among_at [] place path is = absurd (none-some path is)
among_at (x ∷ paths) zero path is = ap (λ b. b || list_any (bytes_eq path) paths) ((bytes_eq-Decides path x).1 (sym (same_Some x path is)))
among_at (x ∷ paths) (suc place) path is = or_right (bytes_eq path x) (list_any (bytes_eq path) paths) (among_at paths place path is)

place_of : (paths : List Text) (path : Text) → Among paths path → (place : ℕ) × (slice_get paths place ≡ Some path)
place_of [] path among = absurd (false≢true among)
place_of (x ∷ paths) path among = of (bytes_eq path x) refl (place_of paths path) among
  where
    of : (b : Bool) → bytes_eq path x ≡ b → (Among paths path → (place : ℕ) × (slice_get paths place ≡ Some path)) → (b || list_any (bytes_eq path) paths) ≡ true
        → (place : ℕ) × (slice_get (x ∷ paths) place ≡ Some path)
    of true same later h = (0, ap (λ y. Some y) (sym ((bytes_eq-Decides path x).0 same)))
    of false other later h = let there = later h in (suc there.0, there.1)

-- a path that the map has is one of the files'
pub index_has : {Y : Type 0} (paths : List Text) (index : BTreeMap (String Y) ℕ) (path : Text) (place : ℕ) → IsIndex paths index → get_by_text index path ≡ Some place → Among paths path
index_has paths index path place is found = among_at paths place path ((is path place).0 found)

-- and one that it doesn't have is none
pub index_lacks : {Y : Type 0} (paths : List Text) (index : BTreeMap (String Y) ℕ) (path : Text) → IsIndex paths index → get_by_text index path ≡ None → list_any (bytes_eq path) paths ≡ false
index_lacks paths index path is none = search (rules, place_of, none-some)

-- ---- from indices to paths

name_is : (paths : List Text) (place : ℕ) (path : Text) → slice_get paths place ≡ Some path → name_at paths place ≡ path
name_is paths place path is = ap (λ o. unwrap_or o []) is

pub there : {A : Type 0} (xs : List A) (i : ℕ) → i < length xs → (x : A) × (slice_get xs i ≡ Some x)
there [] i h = absurd (omega (arith, h))
there (x ∷ xs) zero h = (x, refl)
there (x ∷ xs) (suc i) h = there xs i (omega (arith, h))

names_are : (paths : List Text) (own : List ℕ) (these : List Text) → StandAt paths own these → map (name_at paths) own ≡ these
names_are paths [] [] stand = refl
names_are paths [] (x ∷ these) stand = absurd (cc)
names_are paths (p ∷ own) [] stand = absurd (cc)
names_are paths (p ∷ own) (x ∷ these) stand =
    let first : slice_get paths p ≡ Some x = cc in
    let later : map (slice_get paths) own ≡ map (λ t. Some t) these = cc in
    ap₂ (λ y ys. y ∷ ys) (name_is paths p x first) (names_are paths own these later)

abbrev pub AllValid : List Text → List ℕ → Type 0
AllValid paths places = AllByRecursion (λ p. p < length paths) places

stand_valid : (paths : List Text) (own : List ℕ) (these : List Text) → StandAt paths own these → AllValid paths own
stand_valid paths [] these stand = tt
stand_valid paths (p ∷ own) [] stand = absurd (cc)
stand_valid paths (p ∷ own) (x ∷ these) stand =
    let first : slice_get paths p ≡ Some x = cc in
    let later : map (slice_get paths) own ≡ map (λ t. Some t) these = cc in
    (slice_get_within paths p x first, stand_valid paths own these later)

valid_more : (paths : List Text) (places : List ℕ) (p : ℕ) → AllValid paths places → p < length paths → AllValid paths (places ++ p ∷ [])
valid_more paths [] p all h = (h, tt)
valid_more paths (q ∷ places) p all h = (all.0, valid_more paths places p all.1 h)

named_among : (paths : List Text) (places : List ℕ) (p : ℕ) → list_any (nat_eq p) places ≡ true → Among (map (name_at paths) places) (name_at paths p)
named_among paths [] p found = absurd (false≢true found)
named_among paths (q ∷ places) p found = search (rules, named_among paths places p, Among, bytes_eq-Decides, same_number, or_right)

differs_at : (x : Text) (paths : List Text) (i : ℕ) (y : Text) → list_all (differ x) paths ≡ true → slice_get paths i ≡ Some y → x ≡ y → ⊥
differs_at x [] i y apart is same = absurd (none-some y is)
differs_at x (z ∷ paths) zero y apart is same = search (rules, false≢true, bytes_eq-Decides, same_Some, and_left)
differs_at x (z ∷ paths) (suc i) y apart is same = differs_at x paths i y (and_right (differ x z) (list_all (differ x) paths) apart) is same

-- a path is at one index
one_place : (paths : List Text) (i j : ℕ) (x : Text) → are_distinct paths ≡ true → slice_get paths i ≡ Some x → slice_get paths j ≡ Some x → i ≡ j
one_place [] i j x once is_i is_j = absurd (none-some x is_i)
one_place (y ∷ paths) zero zero x once is_i is_j = refl
one_place (y ∷ paths) zero (suc j) x once is_i is_j = absurd (differs_at y paths j x (and_left (list_all (differ y) paths) (are_distinct paths) once) is_j (same_Some y x is_i))
one_place (y ∷ paths) (suc i) zero x once is_i is_j = absurd (differs_at y paths i x (and_left (list_all (differ y) paths) (are_distinct paths) once) is_i (same_Some y x is_j))
one_place (y ∷ paths) (suc i) (suc j) x once is_i is_j = ap suc (one_place paths i j x (and_right (list_all (differ y) paths) (are_distinct paths) once) is_i is_j)

pub same_place : (paths : List Text) (i j : ℕ) → are_distinct paths ≡ true → i < length paths → j < length paths → name_at paths i ≡ name_at paths j → i ≡ j
same_place paths i j once h k same =
    let a = there paths i h in
    let b = there paths j k in
    let alike : a.0 ≡ b.0 = sym (name_is paths i a.0 a.1) ∙ (same ∙ name_is paths j b.0 b.1) in
    one_place paths i j a.0 once a.1 (b.1 ∙ ap (λ x. Some x) (sym alike))

named_apart : (paths : List Text) (places : List ℕ) (p : ℕ) → are_distinct paths ≡ true → AllValid paths places → p < length paths → list_any (nat_eq p) places ≡ false
    → list_any (bytes_eq (name_at paths p)) (map (name_at paths) places) ≡ false
named_apart paths [] p once all low missing = refl
named_apart paths (q ∷ places) p once all low missing = search (rules, named_apart paths places p once all.1 low, itself, false≢true, same_place, bytes_eq-Decides)

imports_of_place : (paths : List Text) (all : List (List ℕ)) (files : List Importer) (place : ℕ) (own : List ℕ)
    → map (map (slice_get paths)) all ≡ map (λ (i : Importer). map (λ t. Some t) i.imports) files → slice_get all place ≡ Some own
    → (i : Importer) × (slice_get files place ≡ Some i) × StandAt paths own i.imports
imports_of_place paths [] files place own at is = absurd (none-some own is)
imports_of_place paths (o ∷ all) [] place own at is = absurd (cc)
imports_of_place paths (o ∷ all) (i ∷ files) zero own at is = search (rules, same_Some)
imports_of_place paths (o ∷ all) (i ∷ files) (suc place) own at is =
    let later : map (map (slice_get paths)) all ≡ map (λ (j : Importer). map (λ t. Some t) j.imports) files = cc in
    imports_of_place paths all files place own later is

-- as many lists as files
pub as_many : (paths : List Text) (all : List (List ℕ)) (files : List Importer) → map (map (slice_get paths)) all ≡ map (λ (i : Importer). map (λ t. Some t) i.imports) files
    → length all ≡ length (paths_of files)
as_many paths [] [] at = refl
as_many paths [] (i ∷ files) at = absurd (cc)
as_many paths (o ∷ all) [] at = absurd (cc)
as_many paths (o ∷ all) (i ∷ files) at = ap suc (as_many paths all files (cc))

paths_at : (files : List Importer) (place : ℕ) (i : Importer) → slice_get files place ≡ Some i → slice_get (paths_of files) place ≡ Some i.path
paths_at [] place i is = absurd (none-some i is)
paths_at (j ∷ files) zero i is = ap (λ (k : Importer). Some k.path) (same_Some j i is)
paths_at (j ∷ files) (suc place) i is = paths_at files place i is

module _ (files : List Importer) (all : List (List ℕ)) (once : are_distinct (paths_of files) ≡ true) (at : ImportsAt files all) where
  abbrev names : List ℕ → List Text
  names places = map (name_at (paths_of files)) places

  abbrev IsNamed : (front visited listed : List ℕ) → Type 0
  IsNamed front visited listed = Visits bytes_eq (imports_at files) (names front) (names visited) (names listed) × AllValid (paths_of files) listed

  leads_there : (place : ℕ) (own : List ℕ) → slice_get all place ≡ Some own → (imports_at files (name_at (paths_of files) place) ≡ Some (names own)) × (place < length (paths_of files))
  leads_there place own is =
      let (i, found, stand) = imports_of_place (paths_of files) all files place own at is in
      let named = paths_at files place i found in (
        ap (imports_at files) (name_is (paths_of files) place i.path named)
            ∙ (imports_found files place i once found ∙ ap (λ ts. Some ts) (sym (names_are (paths_of files) own i.imports stand))),
        slice_get_within (paths_of files) place i.path named,
      )

  named_walk : (front visited listed : List ℕ) → Walks all front visited listed → AllValid (paths_of files) front → IsNamed front visited listed
  named_walk front visited listed (all_visited f) valid = (all_visited (names f), valid)
  named_walk front visited listed (passed_over f later l x found rest) valid =
      let named = named_walk f later l rest valid in
      (passed_over (names f) (names later) (names l) (name_at (paths_of files) x) (named_among (paths_of files) f x found) named.0, named.1)
  named_walk front visited listed (listed_last f own inside later l x missing is inner rest) valid =
      let (leads, within) = leads_there x own is in
      let inside_named = named_walk f own inside inner valid in
      let named = named_walk (inside ++ x ∷ []) later l rest (valid_more (paths_of files) inside x inside_named.1 within) in (
        listed_last (names f) (names own) (names inside) (names later) (names l) (name_at (paths_of files) x) (named_apart (paths_of files) f x once valid within missing) leads inside_named.0
            (subst (λ fs. Visits bytes_eq (imports_at files) fs (names later) (names l)) (map-append (name_at (paths_of files)) inside (x ∷ [])) named.0),
        named.1,
      )

  -- what is imported is of the files
  pub within_count : (count : ℕ) → count ≡ length (paths_of files) → AreWithin count all
  within_count count many = subst (λ n. AreWithin n all) (sym many) (each all (λ place own is. let (i, found, stand) = imports_of_place (paths_of files) all files place own at is in stand_valid (paths_of files) own i.imports stand))
    where
      each : (xs : List (List ℕ)) → ((place : ℕ) (own : List ℕ) → slice_get xs place ≡ Some own → AllValid (paths_of files) own) → AllByRecursion (AllValid (paths_of files)) xs
      each [] every = tt
      each (x ∷ xs) every = (every 0 x refl, each xs (λ place own is. every (suc place) own is))

  -- where imports go round, there is no post-order
  pub no_ranks : ((r : ℕ → ℕ) → Falls r all → ⊥) → (listed : List Text) → IsPostOrder files listed → ⊥
  no_ranks none listed order =
      none (λ place. rank listed (name_at (paths_of files) place)) (λ place own is.
      let (i, found, stand) = imports_of_place (paths_of files) all files place own at is in
      let named = name_is (paths_of files) place i.path (paths_at files place i found) in
      ranks_of own i.imports place i.path stand named (behind_at files listed once order place i found))
    where
      ranks_of : (own : List ℕ) (these : List Text) (place : ℕ) (path : Text) → StandAt (paths_of files) own these → name_at (paths_of files) place ≡ path
          → AllByRecursion (λ y. Among listed y × (rank listed y < rank listed path)) these → AllByRecursion (λ p. rank listed (name_at (paths_of files) p) < rank listed (name_at (paths_of files) place)) own
      ranks_of [] these place path stand named behind = tt
      ranks_of (p ∷ own) [] place path stand named behind = absurd (cc)
      ranks_of (p ∷ own) (y ∷ these) place path stand named behind =
          let first : slice_get (paths_of files) p ≡ Some y = cc in
          let later : map (slice_get (paths_of files)) own ≡ map (λ t. Some t) these = cc in
          let low = behind.0.1 in
          let left : rank listed (name_at (paths_of files) p) ≡ rank listed y = ap (rank listed) (name_is (paths_of files) p y first) in
          let right : rank listed (name_at (paths_of files) place) ≡ rank listed path = ap (rank listed) named in
          (omega (arith, low, left, right), ranks_of own these place path later named behind.1)

  -- the walk over indices is one over paths
  pub in_order : (count : ℕ) (listed : List ℕ) → count ≡ length (paths_of files) → Walks all [] (places_from 0 count) listed → IsPostOrder files (names listed)
  in_order count listed many walk =
      subst (λ ps. Visits bytes_eq (imports_at files) [] ps (names listed)) (ap (λ n. names (places_from 0 n)) many ∙ all_names (paths_of files))
      (named_walk [] (places_from 0 count) listed walk tt).0
    where
      shifted : (x : Text) (paths : List Text) (start count : ℕ) → map (name_at (x ∷ paths)) (places_from (suc start) count) ≡ map (name_at paths) (places_from start count)
      shifted x paths start zero = refl
      shifted x paths start (suc count) = ap (λ ns. name_at paths start ∷ ns) (shifted x paths (suc start) count)

      all_names : (paths : List Text) → map (name_at paths) (places_from 0 (length paths)) ≡ paths
      all_names [] = refl
      all_names (x ∷ paths) = ap (λ ns. x ∷ ns) (shifted x paths 0 (length paths) ∙ all_names paths)

  -- and over the indices of files
  pub of_files : (count : ℕ) (listed : List ℕ) → Walks all [] (places_from 0 count) listed → AllByRecursion (λ place. place < length files) listed
  of_files count listed walk =
      subst (λ n. AllByRecursion (λ place. place < n) listed) (length-map files (λ (i : Importer). i.path)) (named_walk [] (places_from 0 count) listed walk tt).1

-- an import that isn't there: there is no post-order
pub none_missing : (files : List Importer) (place : ℕ) (i : Importer) → are_distinct (paths_of files) ≡ true → slice_get files place ≡ Some i
    → list_all (λ y. list_any (bytes_eq y) (paths_of files)) i.imports ≡ false → (listed : List Text) → IsPostOrder files listed → ⊥
none_missing files place i once is missing listed order = false≢true (sym missing ∙ there_at files listed once order place i is)
