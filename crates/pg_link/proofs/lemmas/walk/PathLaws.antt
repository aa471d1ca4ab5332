-- Which paths are among files, and among the keys of sets and maps.
use Rattle.std.proofs.Common.{◌≡◌, ◌∙◌, Bool, true, false, ◌||◌, List, [], ◌∷◌, ◌++◌, map, reverse, length, String, None, Option, refl, sym, ap, subst, cond, is_some, string_bytes, true≢false, not, arith, rules}
use Rattle.std.proofs.lemmas.List.{map-append, reverse-append}
use Rattle.std.proofs.lemmas.List.Folds.{list_any-append}
use Rattle.std.proofs.lemmas.Map.Made.{is_some-lookup}
use Rattle.std.specs.Global.{Global}
use Rattle.std.specs.HashMap.{get_by_text}
use Rattle.std.specs.List.{list_any}
use Rattle.std.specs.Map.{keys_of}
use Rattle.std.specs.Str.{bytes_eq}
use Rattle.pg_link.specs.declared.walk.Walk as walks
use Rattle.pg_link.specs.names.Files.{is_path_of, paths_of}
use Rattle.pg_link.specs.names.Names.{Text}
use Rattle.pg_link.specs.walk.Walk.{Entry, outlines}
use Rattle.pg_link.specs.inner.Walking.{has_path}

pub any-map : {X Y : Type 0} (test : Y → Bool) (f : X → Y) (xs : List X) → list_any test (map f xs) ≡ list_any (λ x. test (f x)) xs
any-map test f [] = refl
any-map test f (x ∷ xs) = ap (λ b. test (f x) || b) (any-map test f xs)

or_turned : (a b : Bool) → (a || (b || false)) ≡ (b || a)
or_turned a b = grind arith

pub any-reverse : {X : Type 0} (test : X → Bool) (xs : List X) → list_any test (reverse xs) ≡ list_any test xs
any-reverse test [] = refl
any-reverse test (x ∷ xs) =
    ap (list_any test) (reverse-append (x ∷ []) xs) ∙ (list_any-append test (reverse xs) (x ∷ [])
    ∙ (or_turned (list_any test (reverse xs)) (test x) ∙ ap (λ b. test x || b) (any-reverse test xs)))

-- the keys of a set hold these bytes
pub among_keys : (path : Text) (keys : List (String Global)) → is_path_of (map string_bytes keys) path ≡ list_any (λ k. bytes_eq path (string_bytes k)) keys
among_keys path keys = any-map (bytes_eq path) string_bytes keys

pub among_open : (path : Text) (keys : List (String Global)) → is_path_of (reverse (map string_bytes keys)) path ≡ list_any (λ k. bytes_eq path (string_bytes k)) keys
among_open path keys = any-reverse (bytes_eq path) (map string_bytes keys) ∙ among_keys path keys

-- the entries of a map hold a path
pub among_entries : (path : Text) (es : List Entry) → is_path_of (paths_of (outlines es)) path ≡ list_any (λ k. bytes_eq path (string_bytes k)) (keys_of es)
among_entries path es = search (rules, any-map, reverse, any-reverse, string_bytes)

pub has_found : (walk : walks.Walk) (path : Text) → has_path walk path ≡ is_some (get_by_text walk.files path)
has_found walk path = among_entries path walk.files.entries ∙ sym (is_some-lookup (λ (k : String Global). bytes_eq path (string_bytes k)) walk.files.entries)

-- a new key goes last, so first among those that are open
key_last : (keys : List (String Global)) (k : String Global) (b : Bool) → b ≡ false
    → reverse (map string_bytes (cond b keys (keys ++ k ∷ []))) ≡ string_bytes k ∷ reverse (map string_bytes keys)
key_last keys k b none = grind (arith, true≢false, reverse, map-append, string_bytes, reverse-append)

pub opens : (keys new : List (String Global)) (k : String Global) (path : Text) → string_bytes k ≡ path
    → new ≡ cond (list_any (λ x. bytes_eq (string_bytes k) (string_bytes x)) keys) keys (keys ++ k ∷ [])
    → is_path_of (reverse (map string_bytes keys)) path ≡ false → reverse (map string_bytes new) ≡ path ∷ reverse (map string_bytes keys)
opens keys new k path same is none =
    let absent : list_any (λ x. bytes_eq (string_bytes k) (string_bytes x)) keys ≡ false =
    subst (λ (p : Text). list_any (λ x. bytes_eq p (string_bytes x)) keys ≡ false) (sym same) (sym (among_open path keys) ∙ none) in
    ap (λ ks. reverse (map string_bytes ks)) is ∙ (key_last keys k _ absent ∙ ap (λ (p : Text). p ∷ reverse (map string_bytes keys)) same)

-- the last key comes off
pub closes : (old new : List (String Global)) (out : List (String Global)) (p : Text) (ps : List Text)
    → length out ≡ 1 → old ≡ new ++ out → reverse (map string_bytes old) ≡ p ∷ ps → reverse (map string_bytes new) ≡ ps
closes old new [] p ps one is opened = absurd (omega (arith, one))
closes old new (x ∷ []) p ps one is opened = search (rules, reverse, string_bytes, map-append, reverse-append)
closes old new (x ∷ (y ∷ more)) p ps one is opened = absurd (omega (arith, one))

pub none_of : {X : Type 0} (o : Option X) → is_some o ≡ false → o ≡ None
none_of o none = grind (arith, true≢false)

-- ---- what a set says when a path is put into it

not_true : (b r : Bool) → r ≡ not b → r ≡ false → b ≡ true
not_true b r is none = grind (arith, true≢false)

not_false : (b r : Bool) → r ≡ not b → r ≡ true → b ≡ false
not_false b r is new = grind (arith, true≢false)

abbrev holds : List (String Global) → String Global → Bool
holds keys k = list_any (λ x. bytes_eq (string_bytes k) (string_bytes x)) keys

among_by : (keys : List (String Global)) (k : String Global) (path : Text) → string_bytes k ≡ path → is_path_of (map string_bytes keys) path ≡ holds keys k
among_by keys k path same = among_keys path keys ∙ ap (λ (p : Text). list_any (λ x. bytes_eq p (string_bytes x)) keys) (sym same)

pub seen_before : (keys : List (String Global)) (k : String Global) (path : Text) (added : Bool) → string_bytes k ≡ path
    → added ≡ not (holds keys k) → added ≡ false → is_path_of (map string_bytes keys) path ≡ true
seen_before keys k path added same is old = among_by keys k path same ∙ not_true (holds keys k) added is old

pub first_seen : (keys : List (String Global)) (k : String Global) (path : Text) (added : Bool) → string_bytes k ≡ path
    → added ≡ not (holds keys k) → added ≡ true → is_path_of (map string_bytes keys) path ≡ false
first_seen keys k path added same is new = among_by keys k path same ∙ not_false (holds keys k) added is new

added_last : (keys : List (String Global)) (k : String Global) (b : Bool) → b ≡ false
    → map string_bytes (cond b keys (keys ++ k ∷ [])) ≡ map string_bytes keys ++ string_bytes k ∷ []
added_last keys k b none = grind (arith, true≢false, map-append, string_bytes)

pub noted : (keys new : List (String Global)) (k : String Global) (path : Text) (added : Bool) → string_bytes k ≡ path
    → added ≡ not (holds keys k) → added ≡ true → new ≡ cond (holds keys k) keys (keys ++ k ∷ [])
    → map string_bytes new ≡ map string_bytes keys ++ path ∷ []
noted keys new k path added same is fresh made = search (rules, string_bytes, added_last, not_false)
