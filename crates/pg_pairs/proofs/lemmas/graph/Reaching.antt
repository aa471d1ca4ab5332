-- One step of the search for pairs: the children of the next one are added at the end.
use Rattle.std.proofs.Common.{◌≡◌, ℕ, zero, suc, ◌+◌, ◌<◌, List, [], ◌∷◌, ◌++◌, flat_map, take, length, get_or, slice_get, ltb, lt-ltb, le-ltb, is_some, unwrap_or, option_map, Option, Some, None, inl, inr, ⊎_elim, refl, ap, sym, ◌∙◌, subst, append-nil, append_assoc, add-one, arith, rules}
use Rattle.std.specs.List.{AllByRecursion}
use Rattle.std.proofs.lemmas.List.{take-append-le}
use Rattle.std.proofs.lemmas.Option.{slice_get-get_or, slice_get_cases}
use Rattle.pg_dyn.proofs.Lists.{each-append, each_weaker}
use Rattle.pg_pairs.specs.laws.EdgeChildren.{among_distinct, append_left, append_right}
use Rattle.pg_pairs.specs.declared.choices.choice.Pair.{Pair}
use Rattle.pg_pairs.specs.bounds.Covering.{distinct, IsAmong}
use Rattle.pg_pairs.specs.graph.Walks.{AreClosed, FromOneRoot}
use Rattle.pg_pairs.specs.graph.Reached.{IsLedTo, IsReachedFrom, LeadsTo, itself, onwards}
use Rattle.pg_pairs.proofs.lemmas.choices.Among.{among_each}
use Rattle.pg_pairs.proofs.lemmas.graph.Grown.{distinct-again, distinct-front, grown_after, each_distinct}

-- Indices of lists.

-- what is read at an index, by what its reading says
pub copied_at : {A B : Type 0} (now : B → A) (xs : List A) (i : ℕ) (r : Option B) → is_some r ≡ ltb i (length xs) → ((d : A) → unwrap_or (option_map now r) d ≡ get_or xs i d) → option_map now r ≡ slice_get xs i
copied_at now xs i None there value = search (rules, lt-ltb, slice_get_cases)
copied_at now xs i (Some b) there value = search (rules, slice_get-get_or, le-ltb, slice_get_cases)

inside : {A : Type 0} (xs : List A) (i : ℕ) (x : A) → slice_get xs i ≡ Some x → i < length xs
inside [] i x h = absurd (cc)
inside (y ∷ xs) zero x h = omega arith
inside (y ∷ xs) (suc i) x h = let later = inside xs i x h in omega arith

take_suc : {A : Type 0} (xs : List A) (i : ℕ) (x : A) → slice_get xs i ≡ Some x → take (suc i) xs ≡ take i xs ++ x ∷ []
take_suc [] i x h = absurd (cc)
take_suc (y ∷ xs) zero x h = let same : y ≡ x = cc in ap (λ z. z ∷ []) same
take_suc (y ∷ xs) (suc i) x h = ap (λ zs. y ∷ zs) (take_suc xs i x h)

take_one_more : {A : Type 0} (xs : List A) (i : ℕ) (x : A) → slice_get xs i ≡ Some x → take (i + 1) xs ≡ take i xs ++ x ∷ []
take_one_more xs i x h = ap (λ n. take n xs) (add-one i) ∙ take_suc xs i x h

pub take_past : {A : Type 0} (xs : List A) (i : ℕ) → slice_get xs i ≡ None → take i xs ≡ xs
take_past [] zero h = refl
take_past [] (suc i) h = refl
take_past (y ∷ xs) zero h = absurd (cc)
take_past (y ∷ xs) (suc i) h = ap (λ zs. y ∷ zs) (take_past xs i h)

pub each_at : {A : Type 0} (P : A → Type 0) (xs : List A) (i : ℕ) (x : A) → slice_get xs i ≡ Some x → AllByRecursion P xs → P x
each_at P [] i x h each = absurd (cc)
each_at P (y ∷ xs) zero x h each = let same : y ≡ x = cc in subst P same each.0
each_at P (y ∷ xs) (suc i) x h each = each_at P xs i x h each.1

pub every_is_among : {A : Type 0} (P : A → Type 0) (xs : List A) → ((x : A) → IsAmong x xs → P x) → AllByRecursion P xs
every_is_among P [] h = tt
every_is_among P (x ∷ xs) h = (h x (inl refl), every_is_among P xs (λ y among. h y (inr among)))

flat_map-end : {A B : Type 0} (h : A → List B) (xs : List A) (x : A) → flat_map h (xs ++ x ∷ []) ≡ flat_map h xs ++ h x
flat_map-end h [] x = append-nil (h x)
flat_map-end h (y ∷ xs) x = ap (λ zs. h y ++ zs) (flat_map-end h xs x) ∙ sym (append_assoc (h y) (flat_map h xs) (h x))

-- each child of each pair is among all children
each_flat : {A B : Type 0} (h : A → List B) (xs : List A) (all : List B) → ((y : B) → IsAmong y (flat_map h xs) → IsAmong y all) → AllByRecursion (λ x. AllByRecursion (λ y. IsAmong y all) (h x)) xs
each_flat h [] all within = tt
each_flat h (x ∷ xs) all within = (
  every_is_among (λ y. IsAmong y all) (h x) (λ y among. within y (append_left y (h x) (flat_map h xs) among)),
  each_flat h xs all (λ y among. within y (append_right y (h x) (flat_map h xs) among)),
)

module _ (kids : Pair → List Pair) (roots : List Pair) where
  -- the roots and the children of the pairs before that index
  abbrev pub found_to : ℕ → List Pair → List Pair
  found_to at ps = distinct (roots ++ flat_map kids (take at ps))

  pub once : (at : ℕ) (ps : List Pair) → ps ≡ found_to at ps → distinct ps ≡ ps
  once at ps so_far = ap distinct so_far ∙ distinct-again (roots ++ flat_map kids (take at ps)) ∙ sym so_far

  module _ (ps : List Pair) (at : ℕ) (x : Pair) (here : slice_get ps at ≡ Some x) (after : List Pair) (is : after ≡ distinct (ps ++ kids x)) where
    front_stays : ps ≡ found_to at ps → take (at + 1) after ≡ take (at + 1) ps
    front_stays so_far =
        let (more, grown) = grown_after ps (kids x) (once at ps so_far) in
        ap (take (at + 1)) (is ∙ grown) ∙ take-append-le (at + 1) ps more (let within = inside ps at x here in omega arith)

    pub next_found : ps ≡ found_to at ps → after ≡ found_to (at + 1) after
    next_found so_far =
        is ∙ ap (λ qs. distinct (qs ++ kids x)) so_far ∙ distinct-front (roots ++ flat_map kids (take at ps)) (kids x)
        ∙ ap distinct (append_assoc roots (flat_map kids (take at ps)) (kids x))
        ∙ ap (λ qs. distinct (roots ++ qs)) (sym (flat_map-end kids (take at ps) x))
        ∙ ap (λ qs. distinct (roots ++ flat_map kids qs)) (sym (front_stays so_far ∙ take_one_more ps at x here))

    child_led : (c : Pair) → IsLedTo kids roots x → IsAmong c (kids x) → IsLedTo kids roots c
    child_led c led among = record { root = led.root; among = led.among; leads = onwards x c led.leads among }

    pub next_led : AllByRecursion (IsLedTo kids roots) ps → AllByRecursion (IsLedTo kids roots) after
    next_led led =
        subst (AllByRecursion (IsLedTo kids roots)) (sym is)
        (each_distinct (IsLedTo kids roots) (ps ++ kids x)
        (each-append (IsLedTo kids roots) ps (kids x) led
        (every_is_among (IsLedTo kids roots) (kids x) (λ c among. child_led c (each_at (IsLedTo kids roots) ps at x here led) among))))

  -- what holds of the pairs and of the children of the next holds of all that are found
  pub next_each : (P : Pair → Type 0) (ps : List Pair) (x : Pair) (after : List Pair) → after ≡ distinct (ps ++ kids x) → AllByRecursion P ps → ((y : Pair) → IsAmong y (kids x) → P y) → AllByRecursion P after
  next_each P ps x after is each more = subst (AllByRecursion P) (sym is) (each_distinct P (ps ++ kids x) (each-append P ps (kids x) each (every_is_among P (kids x) more)))

  module _ (ps : List Pair) (in_order : ps ≡ distinct (roots ++ flat_map kids ps)) where
    -- what is found is in the list
    among_found : (y : Pair) → IsAmong y (roots ++ flat_map kids ps) → IsAmong y ps
    among_found y among = subst (IsAmong y) (sym in_order) (among_distinct y (roots ++ flat_map kids ps) among)

    pub all_closed : AreClosed kids ps
    all_closed = each_flat kids ps ps (λ y among. among_found y (append_right y roots (flat_map kids ps) among))

    led_among : (root : Pair) → IsAmong root roots → (p : Pair) → LeadsTo kids root p → IsAmong p ps
    led_among root first p itself = among_found root (append_left root roots (flat_map kids ps) first)
    led_among root first p (onwards above child leads among) =
        search (rules, led_among root first above leads, among_each, all_closed)

    all_led : (p : Pair) → IsLedTo kids roots p → IsAmong p ps
    all_led p led = led_among led.root led.among p led.leads

  -- all are found
  pub all_found : (ps : List Pair) (at : ℕ) → take at ps ≡ ps → ps ≡ found_to at ps → AllByRecursion (IsLedTo kids roots) ps → IsReachedFrom kids roots ps
  all_found ps at past so_far led = search (rules, flat_map, all_led)

-- one root leads to its own pairs alone
one_leads : (kids : Pair → List Pair) (root p : Pair) → IsLedTo kids (root ∷ []) p → LeadsTo kids root p
one_leads kids root p led = subst (λ r. LeadsTo kids r p) (⊎_elim (λ same. same) (λ none. absurd none) led.among) led.leads

pub from_one_root : FromOneRoot
from_one_root kids root ps reached = search (rules, each_weaker, one_leads)
