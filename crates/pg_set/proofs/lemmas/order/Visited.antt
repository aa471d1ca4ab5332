-- What a list in post-order says of the files in it.
use Rattle.std.proofs.Common.{◌≡◌, ℕ, zero, suc, ◌<◌, Bool, true, false, cond, ◌||◌, List, [], ◌∷◌, ◌++◌, length, find, Option, Some, option_map, slice_get, refl, ap, sym, subst, ◌∙◌, arith, map, is_some, rules}
use Rattle.std.proofs.lemmas.Bool.{false≢true}
use Rattle.std.proofs.lemmas.Option.{none-some, same_Some}
use Rattle.std.proofs.lemmas.Slice.Eq.{bytes_eq-Decides}
use Rattle.std.specs.Cmp.{IsEquivalence}
use Rattle.std.specs.List.{AllByRecursion, list_all, list_any}
use Rattle.std.specs.Str.{bytes_eq}
use Rattle.pg_schema.specs.rules.Pairs.{are_distinct, differ}
use Rattle.pg_schema.proofs.lemmas.rules.PairLemmas.{and_left, and_right, bytes_eq-sym}
use Rattle.pg_schema.specs.standing.Visits.{Visits, all_visited, listed_last, passed_over}
use Rattle.pg_dyn.proofs.Lists.{each_weaker, list_all_each}
use Rattle.pg_dyn.proofs.lemmas.views.SelfSame.{bytes_eq_self}
use Rattle.pg_set.specs.stated.PostOrder.{Importer, imports_at, paths_of}
use Rattle.pg_set.specs.inner.reading.FilePlaces.{IsPostOrder}
use Rattle.pg_set.proofs.lemmas.lists.Marks.{any_more}
use Rattle.pg_set.proofs.lemmas.lists.Tests.{not_so, or_left, or_right}

abbrev pub Text : Type 0
Text = List ℕ

abbrev pub Among : List Text → Text → Type 0
Among list x = list_any (bytes_eq x) list ≡ true

pub same_bytes : (x y : Text) → bytes_eq x y ≡ true → x ≡ y
same_bytes x y e = (bytes_eq-Decides x y).0 e

pub same_texts : IsEquivalence bytes_eq
same_texts = record { refl = bytes_eq_self; symm = bytes_eq-sym; congr = λ x y z e. ap (λ w. bytes_eq w z) (same_bytes x y e) }

or_rest : (a b : Bool) → a ≡ false → (a || b) ≡ true → b ≡ true
or_rest true b e h = absurd (false≢true (sym e))
or_rest false b e h = h

pub among_front : (list : List Text) (x y : Text) → Among list x → Among (list ++ y ∷ []) x
among_front list x y among = any_more (bytes_eq x) list y ∙ or_left (list_any (bytes_eq x) list) (bytes_eq x y) among

pub among_last : (list : List Text) (x : Text) → Among (list ++ x ∷ []) x
among_last list x = any_more (bytes_eq x) list x ∙ or_right (list_any (bytes_eq x) list) (bytes_eq x x) (bytes_eq_self x)

-- ---- ranks

-- how many come before it
abbrev pub rank : List Text → Text → ℕ
rank [] x = 0
rank (y ∷ ys) x = cond (bytes_eq x y) 0 (suc (rank ys x))

rank_within : (list : List Text) (x : Text) → Among list x → rank list x < length list
rank_within [] x among = absurd (false≢true among)
rank_within (y ∷ ys) x among = search (rules, rank_within ys x)

rank_front : (list : List Text) (x y : Text) → Among list x → rank (list ++ y ∷ []) x ≡ rank list x
rank_front [] x y among = absurd (false≢true among)
rank_front (z ∷ list) x y among = search (rules, rank_front list x y)

rank_last : (list : List Text) (x : Text) → list_any (bytes_eq x) list ≡ false → rank (list ++ x ∷ []) x ≡ length list
rank_last [] x missing = ap (λ b. cond b 0 1) (bytes_eq_self x)
rank_last (z ∷ list) x missing = search (rules, rank_last list x, false≢true)

-- ---- all that is listed comes after what it leads to

module _ (leads : Text → Option (List Text)) where
  abbrev pub Lists : (front visited listed : List Text) → Type 0
  Lists front visited listed = Visits bytes_eq leads front visited listed

  pub still_listed : (front visited listed : List Text) → Lists front visited listed → (x : Text) → Among front x → Among listed x
  still_listed front visited listed (all_visited f) x among = among
  still_listed front visited listed (passed_over f later l y found rest) x among = still_listed f later l rest x among
  still_listed front visited listed (listed_last f own inside later l y missing is inner rest) x among =
      still_listed (inside ++ y ∷ []) later l rest x (among_front inside x y (still_listed f own inside inner x among))

  pub visited_listed : (front visited listed : List Text) → Lists front visited listed → AllByRecursion (Among listed) visited
  visited_listed front visited listed (all_visited f) = tt
  visited_listed front visited listed (passed_over f later l y found rest) = (still_listed f later l rest y found, visited_listed f later l rest)
  visited_listed front visited listed (listed_last f own inside later l y missing is inner rest) =
      (still_listed (inside ++ y ∷ []) later l rest y (among_last inside y), visited_listed (inside ++ y ∷ []) later l rest)

  abbrev pub IsBehind : List Text → Text → Type 0
  IsBehind list x = (own : List Text) × (leads x ≡ Some own) × AllByRecursion (λ y. Among list y × (rank list y < rank list x)) own

  abbrev pub AreClosed : List Text → Type 0
  AreClosed list = (x : Text) → Among list x → IsBehind list x

  closed_more : (list : List Text) (x : Text) (own : List Text) → leads x ≡ Some own → AllByRecursion (Among list) own → AreClosed list → AreClosed (list ++ x ∷ [])
  closed_more list x own is inside closed z among = of (list_any (bytes_eq z) list) refl
    where
      low : (y : Text) → Among list y → rank (list ++ x ∷ []) y < length list
      low y there = let below = rank_within list y there in let same = rank_front list y x there in omega (arith, below, same)

      last : list_any (bytes_eq z) list ≡ false → z ≡ x
      last missing = same_bytes z x (or_rest (list_any (bytes_eq z) list) (bytes_eq z x) missing (sym (any_more (bytes_eq z) list x) ∙ among))

      of : (b : Bool) → list_any (bytes_eq z) list ≡ b → IsBehind (list ++ x ∷ []) z
      of true there =
          let old = closed z there in
          let same = rank_front list z x there in (
            old.0,
            old.1,
            each_weaker (λ y. Among list y × (rank list y < rank list z)) (λ y. Among (list ++ x ∷ []) y × (rank (list ++ x ∷ []) y < rank (list ++ x ∷ []) z))
                (λ y h. let before = h.1 in let alike = rank_front list y x h.0 in (among_front list y x h.0, omega (arith, before, alike, same))) old.0 old.2,
          )
      of false missing =
          let e = last missing in
          let here : rank (list ++ x ∷ []) z ≡ length list = ap (rank (list ++ x ∷ [])) e ∙ rank_last list x (subst (λ w. list_any (bytes_eq w) list ≡ false) e missing) in (
            own,
            ap leads e ∙ is,
            each_weaker (Among list) (λ y. Among (list ++ x ∷ []) y × (rank (list ++ x ∷ []) y < rank (list ++ x ∷ []) z))
                (λ y there. let below = low y there in (among_front list y x there, omega (arith, below, here))) own inside,
          )

  pub closed : (front visited listed : List Text) → Lists front visited listed → AreClosed front → AreClosed listed
  closed front visited listed (all_visited f) before = before
  closed front visited listed (passed_over f later l y found rest) before = closed f later l rest before
  closed front visited listed (listed_last f own inside later l y missing is inner rest) before =
      closed (inside ++ y ∷ []) later l rest (closed_more inside y own is (visited_listed f own inside inner) (closed f own inside inner before))

  pub all_behind : (visited listed : List Text) → Lists [] visited listed → AreClosed listed
  all_behind visited listed visits = closed [] visited listed visits (λ x among. absurd (false≢true among))

-- ---- files by their paths

pub differs : (x y : Text) → differ x y ≡ true → bytes_eq x y ≡ false
differs x y h = not_so (bytes_eq x y) h

module _ {A : Type 0} (path : A → Text) where
  apart_at : (x : Text) (xs : List A) (place : ℕ) (a : A) → list_all (differ x) (map path xs) ≡ true → slice_get xs place ≡ Some a → bytes_eq x (path a) ≡ false
  apart_at x [] place a apart is = absurd (none-some a is)
  apart_at x (b ∷ xs) zero a apart is = search (rules, differs, same_Some, and_left)
  apart_at x (b ∷ xs) (suc place) a apart is = apart_at x xs place a (and_right (differ x (path b)) (list_all (differ x) (map path xs)) apart) is

  -- what is at an index is found by its path, where paths occur once
  pub found_at : (xs : List A) (place : ℕ) (a : A) → are_distinct (map path xs) ≡ true → slice_get xs place ≡ Some a → find (λ b. bytes_eq (path b) (path a)) xs ≡ Some a
  found_at [] place a once is = absurd (none-some a is)
  found_at (b ∷ xs) zero a once is = search (rules, same_Some, bytes_eq_self)
  found_at (b ∷ xs) (suc place) a once is =
      ap (λ t. cond t (Some b) (find (λ c. bytes_eq (path c) (path a)) xs))
      (apart_at (path b) xs place a (and_left (list_all (differ (path b)) (map path xs)) (are_distinct (map path xs)) once) is)
      ∙ found_at xs place a (and_right (list_all (differ (path b)) (map path xs)) (are_distinct (map path xs)) once) is

  -- a path is that of one of them where one is found by it
  pub among_found : (x : Text) (xs : List A) → list_any (bytes_eq x) (map path xs) ≡ is_some (find (λ a. bytes_eq (path a) x) xs)
  among_found x [] = refl
  among_found x (a ∷ xs) = search (rules, among_found x xs, bytes_eq-sym, is_some)

pub imports_found : (files : List Importer) (place : ℕ) (i : Importer) → are_distinct (paths_of files) ≡ true → slice_get files place ≡ Some i
    → imports_at files i.path ≡ Some i.imports
imports_found files place i once is = ap (option_map (λ (j : Importer). j.imports)) (found_at (λ (j : Importer). j.path) files place i once is)

-- a path that leads somewhere is one of the files
pub is_file : (files : List Importer) (x : Text) (own : List Text) → imports_at files x ≡ Some own → Among (paths_of files) x
is_file files x own is = search (rules, among_found, option_map, is_some, none-some)

path_at : (files : List Importer) (place : ℕ) (i : Importer) → slice_get files place ≡ Some i → Among (paths_of files) i.path
path_at [] place i is = absurd (none-some i is)
path_at (j ∷ files) zero i is = or_left (bytes_eq i.path j.path) (list_any (bytes_eq i.path) (paths_of files)) (ap (λ (k : Importer). bytes_eq i.path k.path) (same_Some j i is) ∙ bytes_eq_self i.path)
path_at (j ∷ files) (suc place) i is = or_right (bytes_eq i.path j.path) (list_any (bytes_eq i.path) (paths_of files)) (path_at files place i is)

pub all_listed : (list visited : List Text) → AllByRecursion (Among list) visited → (x : Text) → Among visited x → Among list x
all_listed list [] all x among = absurd (false≢true among)
all_listed list (y ∷ ys) all x among = search (rules, all_listed list ys all.1 x, same_bytes)

-- ---- what a post-order says of each file

module _ (files : List Importer) (listed : List Text) (once : are_distinct (paths_of files) ≡ true) (order : IsPostOrder files listed) where
  -- each file comes after those that it imports
  pub behind_at : (place : ℕ) (i : Importer) → slice_get files place ≡ Some i
      → AllByRecursion (λ y. Among listed y × (rank listed y < rank listed i.path)) i.imports
  behind_at place i is =
      let there = all_listed listed (paths_of files) (visited_listed (imports_at files) [] (paths_of files) listed order) i.path (path_at files place i is) in
      let (own, leads, behind) = all_behind (imports_at files) (paths_of files) listed order i.path there in
      let same : own ≡ i.imports = same_Some own i.imports (sym leads ∙ imports_found files place i once is) in
      subst (AllByRecursion (λ y. Among listed y × (rank listed y < rank listed i.path))) same behind

  -- what it imports is there
  pub there_at : (place : ℕ) (i : Importer) → slice_get files place ≡ Some i → list_all (λ y. list_any (bytes_eq y) (paths_of files)) i.imports ≡ true
  there_at place i is = search (rules, list_all_each, each_weaker, all_behind, is_file, behind_at)
