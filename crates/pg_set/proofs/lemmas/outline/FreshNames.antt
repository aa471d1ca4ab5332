-- Declarations that may be made one after the other: names occur once, and none is a part of a package.
use Rattle.std.proofs.Common.{◌≡◌, ℕ, Bool, true, false, cond, not, ◌&&◌, ◌||◌, inl, inr, List, [], ◌∷◌, map, filter, refl, ap, sym, ◌∙◌, rules}
use Rattle.std.proofs.lemmas.Bool.{false≢true}
use Rattle.std.specs.List.{list_all}
use Rattle.std.specs.Str.{bytes_eq}
use Rattle.pg_schema.specs.rules.Pairs.{all_pairs, are_distinct, differ}
use Rattle.pg_schema.proofs.lemmas.rules.PairLemmas.{and_both, and_left, and_right, bytes_eq-sym}
use Rattle.pg_set.specs.declared.reading.outline.Named.{Named}
use Rattle.pg_set.specs.inner.Declarations.{Declaration, are_new, declared, is_package, may_be, no_names}
use Rattle.pg_set.specs.stated.StatedNames.{NameLookup}
use Rattle.pg_set.proofs.lemmas.outline.Declaring.{and_assoc, both_packages, declared_elsewhere, declared_here, same_or_apart}
use Rattle.pg_set.proofs.lemmas.lists.Tests.{or_all, or_left, or_none}

-- ---- declarations that may be together

abbrev fits : NameLookup → Declaration → Bool
fits means d = may_be (means d.0) d.1

-- they differ in their names, or are both packages
abbrev pub agree : Declaration → Declaration → Bool
agree d e = differ d.0 e.0 || is_package d.1 && is_package e.1

or_false : (a b : Bool) → a ≡ false → (a || b) ≡ b
or_false true b is = absurd (false≢true (sym is))
or_false false b is = refl

module _ (means : NameLookup) (d e : Declaration) where
  fits_here : (d.0 ≡ e.0) × (bytes_eq d.0 e.0 ≡ true) → fits (declared means d) e ≡ (is_package d.1 && is_package e.1)
  fits_here same = ap (λ o. may_be o e.1) (declared_here means d e.0 same.1)

  agree_here : bytes_eq d.0 e.0 ≡ true → agree d e ≡ (is_package d.1 && is_package e.1)
  agree_here same = or_false (differ d.0 e.0) (is_package d.1 && is_package e.1) (ap not same)

  fits_elsewhere : bytes_eq d.0 e.0 ≡ false → fits (declared means d) e ≡ fits means e
  fits_elsewhere apart = ap (λ o. may_be o e.1) (declared_elsewhere means d e.0 apart)

  agree_elsewhere : bytes_eq d.0 e.0 ≡ false → agree d e ≡ true
  agree_elsewhere apart = or_left (differ d.0 e.0) (is_package d.1 && is_package e.1) (ap not apart)

  -- one that may come after another may come without it
  behind : fits means d ≡ true → fits (declared means d) e ≡ true → (fits means e ≡ true) × (agree d e ≡ true)
  behind first fit = search (rules, same_or_apart, both_packages, fits_here, agree_here, fits_elsewhere, agree_elsewhere)

  ahead : fits means e ≡ true → agree d e ≡ true → fits (declared means d) e ≡ true
  ahead fit agrees = elim (same_or_apart d.0 e.0) [ inl same ↦ fits_here same ∙ (sym (agree_here same.1) ∙ agrees) | inr apart ↦ fits_elsewhere apart ∙ fit ]

module _ (means : NameLookup) (d : Declaration) where
  all_behind : fits means d ≡ true → (es : List Declaration) → list_all (fits (declared means d)) es ≡ true → (list_all (fits means) es ≡ true) × (list_all (agree d) es ≡ true)
  all_behind first [] fit = (refl, refl)
  all_behind first (e ∷ es) fit =
      let here = behind means d e first (and_left (fits (declared means d) e) (list_all (fits (declared means d)) es) fit) in
      let later = all_behind first es (and_right (fits (declared means d) e) (list_all (fits (declared means d)) es) fit) in
      (and_both (fits means e) (list_all (fits means) es) here.0 later.0, and_both (agree d e) (list_all (agree d) es) here.1 later.1)

  all_ahead : (es : List Declaration) → list_all (fits means) es ≡ true → list_all (agree d) es ≡ true → list_all (fits (declared means d)) es ≡ true
  all_ahead [] fit agrees = refl
  all_ahead (e ∷ es) fit agrees =
      and_both (fits (declared means d) e) (list_all (fits (declared means d)) es)
      (ahead means d e (and_left (fits means e) (list_all (fits means) es) fit) (and_left (agree d e) (list_all (agree d) es) agrees))
      (all_ahead es (and_right (fits means e) (list_all (fits means) es) fit) (and_right (agree d e) (list_all (agree d) es) agrees))

new_pairs : (means : NameLookup) (ds : List Declaration) → are_new means ds ≡ true → (list_all (fits means) ds ≡ true) × (all_pairs agree ds ≡ true)
new_pairs means [] fresh = (refl, refl)
new_pairs means (d ∷ ds) fresh =
    let first = and_left (fits means d) (are_new (declared means d) ds) fresh in
    let later = new_pairs (declared means d) ds (and_right (fits means d) (are_new (declared means d) ds) fresh) in
    let both = all_behind means d first ds later.0 in
    (and_both (fits means d) (list_all (fits means) ds) first both.0, and_both (list_all (agree d) ds) (all_pairs agree ds) both.1 later.1)

pairs_new : (means : NameLookup) (ds : List Declaration) → list_all (fits means) ds ≡ true → all_pairs agree ds ≡ true → are_new means ds ≡ true
pairs_new means [] fit agrees = refl
pairs_new means (d ∷ ds) fit agrees =
    and_both (fits means d) (are_new (declared means d) ds) (and_left (fits means d) (list_all (fits means) ds) fit)
    (pairs_new (declared means d) ds (all_ahead means d ds (and_right (fits means d) (list_all (fits means) ds) fit) (and_left (list_all (agree d) ds) (all_pairs agree ds) agrees))
    (and_right (list_all (agree d) ds) (all_pairs agree ds) agrees))

all_fit : (ds : List Declaration) → list_all (fits no_names) ds ≡ true
all_fit [] = refl
all_fit (d ∷ ds) = all_fit ds

-- ---- names, and parts of packages

abbrev pub pick : (Named → Bool) → List Declaration → List Declaration
pick test ds = filter (λ (d : Declaration). test d.1) ds

abbrev pub is_thing : Named → Bool
is_thing thing = not (is_package thing)

abbrev pub names_of : List Declaration → List (List ℕ)
names_of ds = map (λ (d : Declaration). d.0) ds

abbrev pub things : List Declaration → List (List ℕ)
things ds = names_of (pick is_thing ds)

abbrev pub parts : List Declaration → List (List ℕ)
parts ds = names_of (pick is_package ds)

-- no part is one of the names
abbrev pub are_apart : (names parts : List (List ℕ)) → Bool
are_apart names parts = list_all (λ part. list_all (λ name. differ part name) names) parts

and_swap : (a b c : Bool) → (a && (b && c)) ≡ (b && (a && c))
and_swap true true c = refl
and_swap true false c = refl
and_swap false true c = refl
and_swap false false c = refl

regroup : (a b c d : Bool) → ((a && b) && (c && d)) ≡ ((a && c) && (b && d))
regroup true true true d = refl
regroup true true false d = refl
regroup true false true d = refl
regroup true false false d = refl
regroup false b c d = refl

pub all_both : {A : Type 0} (p q : A → Bool) (xs : List A) → list_all (λ x. p x && q x) xs ≡ (list_all p xs && list_all q xs)
all_both p q [] = refl
all_both p q (x ∷ xs) = ap (λ b. (p x && q x) && b) (all_both p q xs) ∙ regroup (p x) (q x) (list_all p xs) (list_all q xs)

differ_sym : (a b : List ℕ) → differ a b ≡ differ b a
differ_sym a b = ap not (bytes_eq-sym a b)

module _ (d : Declaration) where
  -- a name agrees with others that it differs from
  thing_agrees : is_package d.1 ≡ false → (es : List Declaration) → list_all (agree d) es ≡ (list_all (differ d.0) (things es) && list_all (λ part. differ part d.0) (parts es))
  thing_agrees own [] = refl
  thing_agrees own (e ∷ es) = search (rules, thing_agrees own es, or_none, differ_sym, and_swap, and_assoc)

  -- a part of a package agrees with other parts
  part_agrees : is_package d.1 ≡ true → (es : List Declaration) → list_all (agree d) es ≡ list_all (λ name. differ d.0 name) (things es)
  part_agrees own [] = refl
  part_agrees own (e ∷ es) = search (rules, part_agrees own es, or_all, or_none)

-- what is said of one declaration more, which is a package or isn't
abbrev whole : Declaration → List Declaration → Bool → Bool
whole d ds b =
    are_distinct (names_of (cond (not b) (d ∷ pick is_thing ds) (pick is_thing ds)))
    && are_apart (names_of (cond (not b) (d ∷ pick is_thing ds) (pick is_thing ds))) (names_of (cond b (d ∷ pick is_package ds) (pick is_package ds)))

pairs_are : (ds : List Declaration) → all_pairs agree ds ≡ (are_distinct (things ds) && are_apart (things ds) (parts ds))
pairs_are [] = refl
pairs_are (d ∷ ds) = of (pairs_are ds) (is_package d.1) refl
  where
    of : all_pairs agree ds ≡ (are_distinct (things ds) && are_apart (things ds) (parts ds)) → (b : Bool) → is_package d.1 ≡ b → all_pairs agree (d ∷ ds) ≡ (are_distinct (things (d ∷ ds)) && are_apart (things (d ∷ ds)) (parts (d ∷ ds)))
    of before true is =
        ap (λ b. b && all_pairs agree ds) (part_agrees d is ds) ∙ (ap (λ b. list_all (λ name. differ d.0 name) (things ds) && b) before
        ∙ (and_swap (list_all (λ name. differ d.0 name) (things ds)) (are_distinct (things ds)) (are_apart (things ds) (parts ds)) ∙ ap (whole d ds) (sym is)))
    of before false is =
        ap (λ b. b && all_pairs agree ds) (thing_agrees d is ds) ∙ (ap (λ b. (list_all (differ d.0) (things ds) && list_all (λ part. differ part d.0) (parts ds)) && b) before
        ∙ (regroup (list_all (differ d.0) (things ds)) (list_all (λ part. differ part d.0) (parts ds)) (are_distinct (things ds)) (are_apart (things ds) (parts ds))
        ∙ (ap (λ b. (list_all (differ d.0) (things ds) && are_distinct (things ds)) && b) (sym (all_both (λ part. differ part d.0) (λ part. list_all (λ name. differ part name) (things ds)) (parts ds))) ∙ ap (whole d ds) (sym is))))

-- from nothing on: names occur once, and no part of a package is one of them
pub fresh_apart : (ds : List Declaration) → are_new no_names ds ≡ true → (are_distinct (things ds) && are_apart (things ds) (parts ds)) ≡ true
fresh_apart ds fresh = sym (pairs_are ds) ∙ (new_pairs no_names ds fresh).1

pub apart_fresh : (ds : List Declaration) → (are_distinct (things ds) && are_apart (things ds) (parts ds)) ≡ true → are_new no_names ds ≡ true
apart_fresh ds apart = pairs_new no_names ds (all_fit ds) (pairs_are ds ∙ apart)
