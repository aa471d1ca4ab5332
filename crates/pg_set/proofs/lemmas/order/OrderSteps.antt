-- Files and paths, as loops come to them.
use Rattle.std.proofs.Common.{◌≡◌, ℕ, zero, suc, ◌+◌, ◌<◌, ◌≤◌, Bool, true, false, not, List, [], ◌∷◌, ◌++◌, length, map, take, drop, get_or, Result, Err, IfErr, Some, slice_get, refl, ap, sym, subst, ◌∙◌, arith, add-one, option_map, rules}
use Rattle.std.proofs.lemmas.List.{map-append, get_or_default}
use Rattle.std.proofs.lemmas.List.Folds.{list_all-map, list_all_at}
use Rattle.std.proofs.lemmas.Simd.{map-map}
use Rattle.std.proofs.lemmas.Option.{slice_get-map, slice_get_read}
use Rattle.std.specs.List.{list_all}
use denote.Ref.{Bor}
use Rattle.pg_schema.specs.rules.Pairs.{are_distinct}
use Rattle.pg_schema.specs.rules.TextSets.{is_among}
use Rattle.pg_schema.proofs.lemmas.rules.TextSetLemmas.{twice}
use Rattle.pg_set.specs.declared.reading.order.Importing.{Importing}
use Rattle.pg_set.specs.inner.Lent.{lent}
use Rattle.pg_set.specs.inner.reading.FilePlaces.{StandAt, importer, importers}
use Rattle.pg_set.specs.stated.PostOrder.{Importer, imports_once, paths_of}

pub suc_of : {A B : Type 0} (f : A → B) (xs : List A) (i : ℕ) (x : A) → i < length xs → x ≡ get_or xs i x → map f (take (suc i) xs) ≡ map f (take i xs) ++ f x ∷ []
suc_of f [] i x h is = absurd (omega (arith, h))
suc_of f (y ∷ xs) zero x h is = ap (λ z. f z ∷ []) (sym is)
suc_of f (y ∷ xs) (suc i) x h is = ap (λ zs. f y ∷ zs) (suc_of f xs i x (omega (arith, h)) is)

-- at an index that is there the default doesn't count
pub item_at_place : {A : Type 0} (xs : List A) (i : ℕ) (d : A) → i < length xs → get_or xs i d ≡ get_or xs i (get_or xs i d)
item_at_place xs i d h = get_or_default xs i d (get_or xs i d) h

-- one more of them
pub one_step : {A B : Type 0} (f : A → B) (xs : List A) (i : ℕ) (x : A) → i < length xs → x ≡ get_or xs i x → map f (take (i + 1) xs) ≡ map f (take i xs) ++ f x ∷ []
one_step f xs i x h is = rw add-one (suc_of f xs i x h is)

whole_of : {A B : Type 0} (f : A → B) (xs : List A) (i : ℕ) (x : A) → i < length xs → x ≡ get_or xs i x → (map f (take i xs) ++ f x ∷ []) ++ map f (drop (suc i) xs) ≡ map f xs
whole_of f [] i x h is = absurd (omega (arith, h))
whole_of f (y ∷ xs) zero x h is = ap (λ z. f z ∷ map f xs) is
whole_of f (y ∷ xs) (suc i) x h is = ap (λ zs. f y ∷ zs) (whole_of f xs i x (omega (arith, h)) is)

-- a string that is among those in front of it occurs twice
pub stands_twice : {A : Type 0} (f : A → List ℕ) (xs : List A) (i : ℕ) (x : A) → i < length xs → x ≡ get_or xs i x → is_among (map f (take i xs)) (f x) ≡ true → are_distinct (map f xs) ≡ false
stands_twice f xs i x h is among =
    subst (λ ts. are_distinct ts ≡ false) (whole_of f xs i x h is) (twice (map f (take i xs)) (map f (drop (suc i) xs)) (f x) (ap not among))

-- ---- paths of imports

pub map_more : {A B : Type 0} (f : A → B) (xs : List A) (x : A) → map f (xs ++ x ∷ []) ≡ map f xs ++ f x ∷ []
map_more f xs x = map-append f xs (x ∷ [])

pub stand_more : (all : List (List ℕ)) (places : List ℕ) (these : List (List ℕ)) (place : ℕ) (path : List ℕ) → slice_get all place ≡ Some path → StandAt all places these → StandAt all (places ++ place ∷ []) (these ++ path ∷ [])
stand_more all places these place path is stand = search (rules, map_more)

-- a path that fails the test
pub path_fails : (test : List ℕ → Bool) (paths : List (Bor (List ℕ))) (i : ℕ) (path : Bor (List ℕ)) → i < length paths → path ≡ get_or paths i path → test path.now ≡ false → list_all test (lent paths) ≡ false
path_fails test paths i path h is fails = search (rules, list_all-map, list_all_at)

-- ---- files

pub imports_twice : (files : List Importing) (i : ℕ) (f : Importing) → i < length files → f ≡ get_or files i f → are_distinct (lent f.paths.items) ≡ false → list_all imports_once (importers files) ≡ false
imports_twice files i f h is fails = search (rules, list_all-map, list_all_at)

pub importer_at : (files : List Importing) (i : ℕ) (f : Importing) → i < length files → f ≡ get_or files i f → slice_get (importers files) i ≡ Some (importer f)
importer_at files i f h is = slice_get-map importer files i ∙ ap (option_map importer) (slice_get_read files (length files) i f refl h is)

pub paths_step : (files : List Importing) (i : ℕ) (f : Importing) → i < length files → f ≡ get_or files i f → paths_of (importers (take (i + 1) files)) ≡ paths_of (importers (take i files)) ++ f.name.now ∷ []
paths_step files i f h is = ap paths_of (one_step importer files i f h is) ∙ map_more (λ (x : Importer). x.path) (importers (take i files)) (importer f)

name_twice_at : (files : List Importing) → map (λ (f : Importing). f.name.now) files ≡ paths_of (importers files)
name_twice_at files = sym (map-map (λ (x : Importer). x.path) importer files)

pub name_twice : (files : List Importing) (i : ℕ) (f : Importing) → i < length files → f ≡ get_or files i f → is_among (paths_of (importers (take i files))) f.name.now ≡ true → are_distinct (paths_of (importers files)) ≡ false
name_twice files i f h is among =
    subst (λ ps. are_distinct ps ≡ false) (name_twice_at files)
    (stands_twice (λ (g : Importing). g.name.now) files i f h is (subst (λ ps. is_among ps f.name.now ≡ true) (sym (name_twice_at (take i files))) among))

pub paths_long : (files : List Importing) (i : ℕ) → i ≤ length files → i ≡ length (paths_of (importers (take i files)))
paths_long files zero h = refl
paths_long [] (suc i) h = absurd (omega (arith, h))
paths_long (f ∷ files) (suc i) h = ap suc (paths_long files i (omega (arith, h)))

-- an error that is handed on
pub handed_on : {T E : Type 0} (r : Result T E) (Q : E → Type 0) (x y : E) → r ≡ Err y → y ≡ x → Q x → IfErr r Q
handed_on r Q x y is same holds = subst (λ s. IfErr s Q) (sym is) (subst Q (sym same) holds)
