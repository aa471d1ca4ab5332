-- The cheapest of choices, found from the first on.
use Rattle.std.proofs.Common.{◌≡◌, ◌<◌, ◌≤◌, ℕ, List, [], ◌∷◌, ◌++◌, filter, nat_le, cond, Option, Some, None, inl, refl, ap, sym, ◌∙◌, subst, arith, rules}
use Rattle.std.proofs.lemmas.List.{append_assoc}
use Rattle.std.specs.List.{AllByRecursion}
use Rattle.std.proofs.lemmas.Bool.{leb-true, leb-false, le-leb, lt-leb}
use Rattle.pg_dyn.proofs.Lists.{each_weaker}
use Rattle.pg_pairs.specs.declared.choices.choice.Choice.{Choice}
use Rattle.pg_pairs.specs.choices.Choices.{cheaper, cheapest}
use Rattle.pg_pairs.specs.laws.CheapestLaws.{first_of, IsCheapest, CheapestIsLeast}

among_least : (c : Choice) (cs : List Choice) (o : Option Choice) → IsCheapest o cs → IsCheapest (Some (cheaper c o)) (c ∷ cs)
among_least c cs None none = (inl refl, (omega arith, subst (AllByRecursion (λ (d : Choice). c.cost ≤ d.cost)) (sym none) tt))
among_least c cs (Some d) (among, least) = search (rules, leb-true, each_weaker, leb-false)

pub cheapest_is_least : CheapestIsLeast
cheapest_is_least [] = refl
cheapest_is_least (c ∷ cs) = among_least c cs (cheapest cs) (cheapest_is_least cs)

-- a former choice that costs no more is kept
pub kept_former : (c x : Choice) (later : Option Choice) → c.cost ≤ x.cost → first_of (Some c) (Some (cheaper x later)) ≡ first_of (Some c) later
kept_former c x None below = rw (le-leb c.cost x.cost below) refl
kept_former c x (Some d) below = search (rules, leb-true, le-leb)

-- one that costs more, or none, is replaced
pub replaced : (former : Option Choice) (x : Choice) (later : Option Choice) → ((c : Choice) → former ≡ Some c → x.cost < c.cost) → first_of former (Some (cheaper x later)) ≡ first_of (Some x) later
replaced None x later above = refl
replaced (Some c) x None above = let more = above c refl in rw (lt-leb c.cost x.cost more) refl
replaced (Some c) x (Some d) above = search (rules, lt-leb, leb-false)

-- rows of choices

first_of-some : (c : Choice) (o later : Option Choice) → first_of (Some (cheaper c o)) later ≡ Some (cheaper c (first_of o later))
first_of-some c None later = refl
first_of-some c (Some d) later = search (rules, kept_former, leb-true, replaced, leb-false)

-- the cheapest of two rows is a cheapest of theirs
pub cheapest-append : (xs ys : List Choice) → cheapest (xs ++ ys) ≡ first_of (cheapest xs) (cheapest ys)
cheapest-append [] ys = refl
cheapest-append (x ∷ xs) ys = ap (λ o. Some (cheaper x o)) (cheapest-append xs ys) ∙ sym (first_of-some x (cheapest xs) (cheapest ys))

-- a choice that costs no more than that
abbrev pub if_below : ℕ → Option Choice → Option Choice
if_below n None = None
if_below n (Some c) = cond (nat_le c.cost n) (Some c) None

if_below-kept : (n : ℕ) (c : Choice) (o : Option Choice) → c.cost ≤ n → Some (cheaper c (if_below n o)) ≡ if_below n (Some (cheaper c o))
if_below-kept n c None small = rw (le-leb c.cost n small) refl
if_below-kept n c (Some d) small = search (rules, le-leb, leb-false)

if_below-past : (n : ℕ) (c : Choice) (o : Option Choice) → n < c.cost → if_below n o ≡ if_below n (Some (cheaper c o))
if_below-past n c None large = rw (lt-leb c.cost n large) refl
if_below-past n c (Some d) large = search (rules, leb-true, lt-leb)

-- of the choices that cost no more than that the cheapest is that of all, if this costs no more
pub cheapest-below : (n : ℕ) (cs : List Choice) → cheapest (filter (λ (c : Choice). nat_le c.cost n) cs) ≡ if_below n (cheapest cs)
cheapest-below n [] = refl
cheapest-below n (c ∷ cs) =
    search (rules, cheapest-below n cs, if_below-kept, leb-true, if_below-past, leb-false)

-- rows whose cheapest are the same have the same cheapest among what costs no more than that
pub same-below : (n : ℕ) (xs ys : List Choice) → cheapest xs ≡ cheapest ys → cheapest (filter (λ (c : Choice). nat_le c.cost n) xs) ≡ cheapest (filter (λ (c : Choice). nat_le c.cost n) ys)
same-below n xs ys same = cheapest-below n xs ∙ ap (if_below n) same ∙ sym (cheapest-below n ys)

-- one may take the other's position in a row
pub cheapest-within : (xs ys zs rest : List Choice) → cheapest ys ≡ cheapest zs → first_of (cheapest (xs ++ ys)) (cheapest rest) ≡ cheapest (xs ++ (zs ++ rest))
cheapest-within xs ys zs rest same = search (rules, cheapest-append, append_assoc)
