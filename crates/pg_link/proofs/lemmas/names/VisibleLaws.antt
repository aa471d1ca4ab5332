-- What files hand on and what is visible in them: it is what is computed where each is before those that it imports.
use Rattle.std.proofs.Common.{◌≡◌, ◌∙◌, zero, suc, Bool, true, false, ◌||◌, cond, List, [], ◌∷◌, ◌++◌, flat_map, refl, sym, ap, subst, true≢false, arith, rules}
use Rattle.std.proofs.lemmas.Bool.{or_left, or_right}
use Rattle.std.proofs.lemmas.List.Folds.{list_any-append, flat_map-map}
use Rattle.std.specs.List.{list_any, All, IsAmong}
use Rattle.std.specs.Str.{bytes_eq}
use Rattle.pg_link.specs.names.Files.{File, Import, InOrder, Differ, is_path_of, paths_of, import_paths, public_paths, handed_on, seen_paths}
use Rattle.pg_link.specs.names.Names.{Text}
use Rattle.pg_link.proofs.lemmas.names.SameBytes.{same_text, text_same}

-- ---- lists

-- it holds of each, one after the other
abbrev pub Each : {X : Type 0} → (X → Type 0) → List X → Type 0
Each P [] = Unit {0}
Each P (x ∷ xs) = P x × Each P xs

pub each_of : {X : Type 0} (P : X → Type 0) (xs : List X) → All P xs → Each P xs
each_of P [] all = tt
each_of P (x ∷ xs) all = (all 0 x (omega arith), each_of P xs (λ k d inside. all (suc k) d (omega (arith, inside))))

pub each_at : {X : Type 0} (P : X → Type 0) (xs : List X) (x : X) → Each P xs → IsAmong xs x → P x
each_at P [] x each (i, (within, is)) = absurd (omega (arith, within))
each_at P (y ∷ ys) x each (zero, (within, is)) = subst P (sym is) each.0
each_at P (y ∷ ys) x each (suc i, (within, is)) = each_at P ys x each.1 (i, (omega (arith, within), is))

pub each_more : {X : Type 0} (P Q : X → Type 0) (xs : List X) → ((x : X) → P x → Q x) → Each P xs → Each Q xs
each_more P Q [] more each = tt
each_more P Q (x ∷ xs) more each = (more x each.0, each_more P Q xs more each.1)

pub first_among : {X : Type 0} (x : X) (xs : List X) → IsAmong (x ∷ xs) x
first_among x xs = (zero, (omega arith, refl))

pub later_among : {X : Type 0} (y : X) (xs : List X) (x : X) → IsAmong xs x → IsAmong (y ∷ xs) x
later_among y xs x (i, (within, is)) = (suc i, (omega (arith, within), is))

abbrev pub Found : {X : Type 0} → (X → Bool) → List X → Type 0
Found {X = X} test xs = (x : X) × IsAmong xs x × (test x ≡ true)

found_by : {X : Type 0} (test : X → Bool) (x : X) (xs : List X) (b : Bool) → test x ≡ b → (list_any test xs ≡ true → Found test xs)
    → (b || list_any test xs) ≡ true → Found test (x ∷ xs)
found_by test x xs b pass rest is = grind (arith, first_among, later_among)

-- one that passes the test
pub any_found : {X : Type 0} (test : X → Bool) (xs : List X) → list_any test xs ≡ true → Found test xs
any_found test [] is = absurd (true≢false (sym is))
any_found test (x ∷ xs) is = found_by test x xs (test x) refl (any_found test xs) is

pub any_at : {X : Type 0} (test : X → Bool) (xs : List X) (x : X) → IsAmong xs x → test x ≡ true → list_any test xs ≡ true
any_at test [] x (i, (within, is)) pass = absurd (omega (arith, within))
any_at test (y ∷ ys) x (zero, (within, is)) pass = or_left (test y) (list_any test ys) (subst (λ z. test z ≡ true) is pass)
any_at test (y ∷ ys) x (suc i, (within, is)) pass = or_right (test y) (list_any test ys) (any_at test ys x (i, (omega (arith, within), is)) pass)

pub any_flat : {X Y : Type 0} (test : Y → Bool) (f : X → List Y) (xs : List X) → list_any test (flat_map f xs) ≡ list_any (λ x. list_any test (f x)) xs
any_flat test f [] = refl
any_flat test f (x ∷ xs) = list_any-append test (f x) (flat_map f xs) ∙ ap (λ b. list_any test (f x) || b) (any_flat test f xs)

flat_same : {X Y : Type 0} (f g : X → List Y) (xs : List X) → Each (λ x. f x ≡ g x) xs → flat_map f xs ≡ flat_map g xs
flat_same f g [] each = refl
flat_same f g (x ∷ xs) each = ap (λ l. l ++ flat_map f xs) each.0 ∙ ap (λ l. g x ++ l) (flat_same f g xs each.1)

-- ---- bytes

apart_by : (files : List File) (path first : Text) (b : Bool) → bytes_eq first path ≡ b → is_path_of (paths_of files) path ≡ true
    → is_path_of (paths_of files) first ≡ false → bytes_eq first path ≡ false
apart_by files path first true is has none = search (rules, true≢false, same_text)
apart_by files path first false is has none = is

-- a path among files isn't one that is not
pub apart_from : (files : List File) (path first : Text) → is_path_of (paths_of files) path ≡ true → is_path_of (paths_of files) first ≡ false → bytes_eq first path ≡ false
apart_from files path first has none = apart_by files path first (bytes_eq first path) refl has none

-- ---- files

pub path_there : (files : List File) (file : File) → IsAmong files file → is_path_of (paths_of files) file.path ≡ true
path_there [] file (i, (within, is)) = absurd (omega (arith, within))
path_there (f ∷ files) file (zero, (within, is)) = search (rules, or_left, text_same)
path_there (f ∷ files) file (suc i, (within, is)) = search (rules, or_right, path_there files file (i, (omega (arith, within), is)))

-- what a file imports is there
pub imports_there : (files : List File) → InOrder files → (file : File) → IsAmong files file
    → Each (λ p. is_path_of (paths_of files) p ≡ true) (import_paths file.imports)
imports_there [] order file (i, (within, is)) = absurd (omega (arith, within))
imports_there (f ∷ files) order file (zero, (within, is)) = search (rules, each_more, or_right, each_of)
imports_there (f ∷ files) order file (suc i, (within, is)) = search (rules, each_more, or_right, imports_there files order.2 file (i, (omega (arith, within), is)))

publics_by : (P : Text → Type 0) (line : Import) (lines : List Import) (b : Bool) → line.is_public ≡ b → P line.path → Each P (public_paths lines)
    → Each P (cond b (line.path ∷ public_paths lines) (public_paths lines))
publics_by P line lines b is here rest = grind arith

publics : (P : Text → Type 0) (lines : List Import) → Each P (import_paths lines) → Each P (public_paths lines)
publics P [] each = tt
publics P (line ∷ lines) each = publics_by P line lines line.is_public refl each.0 (publics P lines each.1)

-- a file before others that are asked for changes nothing
handed_later : (f : File) (files : List File) (path : Text) → is_path_of (paths_of files) path ≡ true → is_path_of (paths_of files) f.path ≡ false
    → handed_on (f ∷ files) path ≡ handed_on files path
handed_later f files path has none = rw (apart_from files path f.path has none) refl

seen_later : (f : File) (files : List File) (path : Text) → is_path_of (paths_of files) path ≡ true → is_path_of (paths_of files) f.path ≡ false
    → seen_paths (f ∷ files) path ≡ seen_paths files path
seen_later f files path has none = rw (apart_from files path f.path has none) refl

all_later : (f : File) (files : List File) (paths : List Text) → is_path_of (paths_of files) f.path ≡ false
    → Each (λ p. is_path_of (paths_of files) p ≡ true) paths → flat_map (handed_on files) paths ≡ flat_map (handed_on (f ∷ files)) paths
all_later f files paths none each = search (rules, flat_same, each_more, handed_later)

handed_first : (f : File) (files : List File) → handed_on (f ∷ files) f.path ≡ f.path ∷ flat_map (handed_on files) (public_paths f.imports)
handed_first f files = rw (text_same f.path f.path refl) refl

seen_first : (f : File) (files : List File) → seen_paths (f ∷ files) f.path ≡ f.path ∷ flat_map (λ (l : Import). handed_on files l.path) f.imports
seen_first f files = rw (text_same f.path f.path refl) refl

own_imports : (f : File) (files : List File) → InOrder (f ∷ files) → Each (λ p. is_path_of (paths_of files) p ≡ true) (import_paths f.imports)
own_imports f files order = each_of (λ p. is_path_of (paths_of files) p ≡ true) (import_paths f.imports) order.0

-- a file hands on itself, and what its public imports hand on
pub handed_on_is : (files : List File) → InOrder files → Differ (paths_of files) → (file : File) → IsAmong files file
    → handed_on files file.path ≡ file.path ∷ flat_map (handed_on files) (public_paths file.imports)
handed_on_is [] order apart file (i, (within, is)) = absurd (omega (arith, within))
handed_on_is (f ∷ files) order apart file (zero, (within, is)) =
    subst (λ (x : File). handed_on (f ∷ files) x.path ≡ x.path ∷ flat_map (handed_on (f ∷ files)) (public_paths x.imports)) (sym is)
    (handed_first f files ∙ ap (λ l. f.path ∷ l) (all_later f files (public_paths f.imports) apart.0
    (publics (λ p. is_path_of (paths_of files) p ≡ true) f.imports (own_imports f files order))))
handed_on_is (f ∷ files) order apart file (suc i, (within, is)) =
    let among : IsAmong files file = (i, (omega (arith, within), is)) in
    handed_later f files file.path (path_there files file among) apart.0 ∙ (handed_on_is files order.2 apart.1 file among
    ∙ ap (λ l. file.path ∷ l) (all_later f files (public_paths file.imports) apart.0
    (publics (λ p. is_path_of (paths_of files) p ≡ true) file.imports (imports_there files order.2 file among))))

lines_flat : (files : List File) (lines : List Import) → flat_map (λ (l : Import). handed_on files l.path) lines ≡ flat_map (handed_on files) (import_paths lines)
lines_flat files lines = sym (flat_map-map (handed_on files) (λ (l : Import). l.path) lines)

-- it and what its imports hand on are visible in it
pub seen_paths_is : (files : List File) → InOrder files → Differ (paths_of files) → (file : File) → IsAmong files file
    → seen_paths files file.path ≡ file.path ∷ flat_map (handed_on files) (import_paths file.imports)
seen_paths_is [] order apart file (i, (within, is)) = absurd (omega (arith, within))
seen_paths_is (f ∷ files) order apart file (zero, (within, is)) = search (rules, flat_map, seen_first, lines_flat, all_later, own_imports)
seen_paths_is (f ∷ files) order apart file (suc i, (within, is)) =
    let among : IsAmong files file = (i, (omega (arith, within), is)) in
    seen_later f files file.path (path_there files file among) apart.0 ∙ (seen_paths_is files order.2 apart.1 file among
    ∙ ap (λ l. file.path ∷ l) (all_later f files (import_paths file.imports) apart.0 (imports_there files order.2 file among)))
