-- The parts of packages: what comes before each dot of a name, and the whole.
use Rattle.std.proofs.Common.{◌≡◌, ℕ, suc, ◌<◌, Bool, true, false, cond, not, ◌&&◌, nat_eq, List, [], ◌∷◌, ◌++◌, map, filter, length, get_or, refl, ap, sym, ◌∙◌, arith, append_assoc, append-nil, rules}
use Rattle.std.proofs.lemmas.List.Folds.{list_all-append, list_all-map}
use Rattle.std.proofs.lemmas.Str.{encode_ascii, inside_one}
use Rattle.std.proofs.Math.Utf8.{encode}
use Rattle.std.proofs.lemmas.Simd.{map-map}
use Rattle.std.specs.List.{flat_map, list_all}
use Rattle.pg_schema.specs.rules.Packages.{is_free_of, is_front}
use Rattle.pg_schema.specs.rules.Pairs.{differ}
use Rattle.pg_set.specs.stated.SetNames.{fronts, package_parts}
use Rattle.pg_set.specs.stated.StatedTable.{has_name}
use Rattle.pg_set.proofs.lemmas.outline.FreshNames.{all_both, are_apart}
use Rattle.pg_set.proofs.lemmas.lists.Tests.{same_number}
use Rattle.pg_set.proofs.lemmas.lists.Alike.{all_agree}

-- ---- parts and names

all_true : {A : Type 0} (test : A → Bool) → ((x : A) → test x ≡ true) → (xs : List A) → list_all test xs ≡ true
all_true test holds [] = refl
all_true test holds (x ∷ xs) = ap (λ b. b && list_all test xs) (holds x) ∙ all_true test holds xs

eq_sym : (a b : ℕ) → nat_eq a b ≡ nat_eq b a
eq_sym a b = search rules

-- the name is none of the parts, where it is no front of the whole
no_front : (text name : List ℕ) → list_all (λ part. differ part name) (fronts text) ≡ not (is_front name text)
no_front [] [] = refl
no_front [] (x ∷ xs) = refl
no_front (b ∷ bs) [] = search (rules, list_all-map, all_true)
no_front (b ∷ bs) (x ∷ xs) = search (rules, no_front bs xs, list_all-map, all_agree, eq_sym, all_true)

-- each part against each name, and each name against each part
turned : {A B : Type 0} (test : A → B → Bool) (xs : List A) (ys : List B) → list_all (λ x. list_all (test x) ys) xs ≡ list_all (λ y. list_all (λ x. test x y) xs) ys
turned test [] ys = sym (all_true (λ y. true) (λ y. refl) ys)
turned test (x ∷ xs) ys = ap (λ r. list_all (test x) ys && r) (turned test xs ys) ∙ sym (all_both (test x) (λ y. list_all (λ z. test z y) xs) ys)

parts_free : (names : List (List ℕ)) (whole : List ℕ) → are_apart names (fronts whole) ≡ is_free_of names whole
parts_free names whole =
    turned (λ part name. differ part name) (fronts whole) names ∙ all_agree (λ name. list_all (λ part. differ part name) (fronts whole)) (λ name. not (is_front name whole)) (no_front whole) names

-- the names against the parts of packages, by their scopes: of those that have a name
module _ (names : List (List ℕ)) (some : list_all (differ []) names ≡ true) where
  -- what comes before the first dot of a scope is no name
  whole_free : (b : ℕ) (bs : List ℕ) → are_apart names (package_parts (b ∷ bs)) ≡ is_free_of names (b ∷ bs)
  whole_free b bs = of (nat_eq b 46) refl ∙ parts_free names (b ∷ bs)
    where
      of : (r : Bool) → nat_eq b 46 ≡ r → are_apart names (package_parts (b ∷ bs)) ≡ are_apart names (fronts (b ∷ bs))
      of true is =
          ap (λ r. r && are_apart names (package_parts (b ∷ bs))) (sym some)
          ∙ ap (λ r. are_apart names (cond r ([] ∷ package_parts (b ∷ bs)) (package_parts (b ∷ bs)))) (sym is)
      of false is = ap (λ r. are_apart names (cond r ([] ∷ package_parts (b ∷ bs)) (package_parts (b ∷ bs)))) (sym is)

  pub packages_free : (scopes : List (List ℕ)) → are_apart names (flat_map package_parts scopes) ≡ list_all (is_free_of names) (filter has_name scopes)
  packages_free [] = refl
  packages_free ([] ∷ scopes) = packages_free scopes
  packages_free ((b ∷ bs) ∷ scopes) = search (rules, packages_free scopes, list_all-append, are_apart, whole_free)

-- ---- the letters of a package

-- bytes without a dot come before each part of what is after them
fronts_past : (bytes later : List ℕ) → ((k : ℕ) → k < length bytes → get_or (bytes ++ later) k 0 ≡ 46 → ⊥) → fronts (bytes ++ later) ≡ map (λ front. bytes ++ front) (fronts later)
fronts_past [] later none = sym (map-same (fronts later))
  where
    map-same : (xs : List (List ℕ)) → map (λ front. [] ++ front) xs ≡ xs
    map-same [] = refl
    map-same (x ∷ xs) = ap (λ ys. x ∷ ys) (map-same xs)
fronts_past (b ∷ bs) later none = of (nat_eq b 46) refl ∙ (ap (map (λ front. b ∷ front)) (fronts_past bs later deeper) ∙ map-map (λ front. b ∷ front) (λ front. bs ++ front) (fronts later))
  where
    deeper : (k : ℕ) → k < length bs → get_or (bs ++ later) k 0 ≡ 46 → ⊥
    deeper k h is = none (suc k) (omega (arith, h)) is

    of : (r : Bool) → nat_eq b 46 ≡ r → fronts (b ∷ bs ++ later) ≡ map (λ front. b ∷ front) (fronts (bs ++ later))
    of true is = absurd (none 0 (omega arith) (same_number b 46 is))
    of false is = ap (λ r. cond r ([] ∷ map (λ front. b ∷ front) (fronts (bs ++ later))) (map (λ front. b ∷ front) (fronts (bs ++ later)))) is

-- the parts that begin with what was read, where so much is left
abbrev pub parts_from : (front rest : List ℕ) → List (List ℕ)
parts_from front rest = map (λ part. front ++ part) (fronts rest)

joined : (a b : List ℕ) (xs : List (List ℕ)) → map (λ part. a ++ part) (map (λ part. b ++ part) xs) ≡ map (λ part. (a ++ b) ++ part) xs
joined a b [] = refl
joined a b (x ∷ xs) = ap (λ y. y ∷ map (λ part. a ++ part) (map (λ part. b ++ part) xs)) (sym (append_assoc a b x)) ∙ ap (λ ys. ((a ++ b) ++ x) ∷ ys) (joined a b xs)

-- a letter that is no dot
pub letter_past : (front rest later grown : List ℕ) (letter : ℕ) → rest ≡ encode letter ++ later → grown ≡ front ++ encode letter → (letter ≡ 46 → ⊥) → parts_from front rest ≡ parts_from grown later
letter_past front rest later grown letter next is other = search (rules, fronts_past, encode, inside_one, joined)

-- a dot
pub dot_past : (front rest later grown : List ℕ) (letter : ℕ) → rest ≡ encode letter ++ later → grown ≡ front ++ encode letter → letter ≡ 46 → parts_from front rest ≡ front ∷ parts_from grown later
dot_past front rest later grown letter next is dot =
    let one : encode letter ≡ 46 ∷ [] = ap encode dot ∙ encode_ascii 46 (omega arith) in
    ap (λ r. parts_from front r) (next ∙ ap (λ bs. bs ++ later) one)
    ∙ (ap (λ f. f ∷ map (λ part. front ++ part) (map (λ part. 46 ∷ part) (fronts later))) (append-nil front)
    ∙ ap (λ ps. front ∷ ps) (joined front (46 ∷ []) (fronts later) ∙ ap (λ g. parts_from g later) (ap (λ bs. front ++ bs) (sym one) ∙ sym is)))

pub parts_end : (front rest : List ℕ) → length rest ≡ 0 → parts_from front rest ≡ front ∷ []
parts_end front [] none = ap (λ f. f ∷ []) (append-nil front)
parts_end front (x ∷ rest) none = absurd (omega (arith, none))
