-- The lowest fault of a row, one element after the other.
use Rattle.std.proofs.Common.{◌≡◌, ◌≤◌, ◌<◌, ◌+◌, ℕ, zero, suc, List, [], ◌∷◌, ◌++◌, length, take, get_or, Result, Ok, Err, ◌⊎◌, inl, inr, ⊎_elim, ap, sym, subst, ◌∙◌, arith, add-one, rules}
use Rattle.std.specs.List.{AllByRecursion}
use Rattle.std.proofs.lemmas.List.{take_all}
use Rattle.pg_dyn.specs.declared.error.DynError.{DynError}
use Rattle.pg_dyn.specs.setting.ContentFaults.{AnyOf, FirstOfTwo, FirstOf, HasNoEarlyFault}
use Rattle.pg_dyn.specs.error.Codes.{code_of}
use Rattle.pg_dyn.specs.inner.Reported.{Reports, reported_code}
use Rattle.pg_dyn.proofs.Lists.{each-append}

module _ {A : Type 0} (F : A → DynError → Type 0) where
  pub any_of_first : (xs : List A) (e : DynError) → FirstOf F xs e → AnyOf (λ x. F x e) xs
  any_of_first [] e h = absurd h
  any_of_first (x ∷ xs) e (inl h) = inl h
  any_of_first (x ∷ xs) e (inr h) = inr (any_of_first xs e h.1)

  first_left : (xs ys : List A) (e : DynError) → FirstOf F xs e → FirstOf F (xs ++ ys) e
  first_left [] ys e h = absurd h
  first_left (x ∷ xs) ys e (inl h) = inl h
  first_left (x ∷ xs) ys e (inr h) = inr (h.0, first_left xs ys e h.1)

  abbrev NoneSo : (DynError → Type 0) → DynError → Type 0
  NoneSo G e = (other : DynError) → code_of other ≡ code_of e → G other → ⊥

  first_last : (xs : List A) (x : A) (e : DynError) → NoneSo (FirstOf F xs) e → F x e → FirstOf F (xs ++ x ∷ []) e
  first_last [] x e none h = inl h
  first_last (y ∷ xs) x e none h = search (rules, first_last xs x e)

  none_so : (y : A) (xs : List A) (e : DynError) → NoneSo (F y) e → NoneSo (FirstOf F xs) e → NoneSo (FirstOf F (y ∷ xs)) e
  none_so y xs e here later other same (inl k) = here other same k
  none_so y xs e here later other same (inr k) = later other same k.1

  first_split : (xs : List A) (x : A) (e : DynError) → FirstOf F (xs ++ x ∷ []) e → FirstOfTwo (FirstOf F xs) (F x) e
  first_split [] x e (inl h) = inr ((λ other same k. k), h)
  first_split [] x e (inr h) = absurd h.1
  first_split (y ∷ xs) x e (inl h) = inl (inl h)
  first_split (y ∷ xs) x e (inr h) = ⊎_elim (λ k. inl (inr (h.0, k))) (λ k. inr (none_so y xs e h.0 k.0, k.1)) (first_split xs x e h.1)

-- Of two answers the lower one is that of both, of equal ones the first.
module _ (P Q : Type 0) (F G : DynError → Type 0) (p : P → HasNoEarlyFault F) (q : Q → HasNoEarlyFault G) where
  first_lower : (a b : Result (Unit {0}) DynError) → Reports P F a → Reports Q G b → reported_code a ≤ reported_code b → Reports (P × Q) (FirstOfTwo F G) a
  first_lower a b x y le = grind arith

  second_lower : (a b : Result (Unit {0}) DynError) → Reports P F a → Reports Q G b → reported_code b < reported_code a → Reports (P × Q) (FirstOfTwo F G) b
  second_lower a b x y lt = grind arith

  pub reported_both : (a b r : Result (Unit {0}) DynError) → Reports P F a → Reports Q G b → (r ≡ a) ⊎ ((r ≡ b) × (reported_code b < reported_code a)) → reported_code r ≤ reported_code b → Reports (P × Q) (FirstOfTwo F G) r
  reported_both a b r x y one le = search (rules, first_lower, second_lower)

-- the same in other words
pub reported_so : (P Q : Type 0) (F G : DynError → Type 0) → (P → Q) → ((e : DynError) → F e → G e) → ((e : DynError) → code_of e < 605 → G e → F e) → (r : Result (Unit {0}) DynError) → Reports P F r → Reports Q G r
reported_so P Q F G right to back (Ok t) x = right x
reported_so P Q F G right to back (Err e) x = ((to e x.0.0, λ other low k. let early : code_of other < 605 = omega (arith, x.1) in x.0.1 other low (back other early k)), x.1)

pub take_more : {X : Type 0} (xs : List X) (i : ℕ) (x : X) → i < length xs → x ≡ get_or xs i x → take (i + 1) xs ≡ take i xs ++ x ∷ []
take_more xs i x inside is = ap (λ n. take n xs) (add-one i) ∙ more xs i x inside is
  where
    more : {X : Type 0} (ys : List X) (k : ℕ) (y : X) → k < length ys → y ≡ get_or ys k y → take (suc k) ys ≡ take k ys ++ y ∷ []
    more [] k y inside is = absurd (omega arith)
    more (z ∷ ys) zero y inside is = ap (λ w. w ∷ []) (sym is)
    more (z ∷ ys) (suc k) y inside is = ap (λ ws. z ∷ ws) (more ys k y (omega arith) is)

module _ {A : Type 0} (P : A → Type 0) (F : A → DynError → Type 0) (p : (x : A) → P x → HasNoEarlyFault (F x)) where
  -- what is reported of the elements of a row
  abbrev pub ReportsEach : List A → Result (Unit {0}) DynError → Type 0
  ReportsEach xs r = Reports (AllByRecursion P xs) (FirstOf F xs) r

  pub none_first : (xs : List A) → AllByRecursion P xs → HasNoEarlyFault (FirstOf F xs)
  none_first [] h e early k = k
  none_first (x ∷ xs) h e early (inl k) = p x h.0 e early k
  none_first (x ∷ xs) h e early (inr k) = none_first xs h.1 e early k.1

  pub reported_more : (xs : List A) (i : ℕ) (x : A) (a b r : Result (Unit {0}) DynError) → i < length xs → x ≡ get_or xs i x → ReportsEach (take i xs) a → Reports (P x) (F x) b → (r ≡ a) ⊎ ((r ≡ b) × (reported_code b < reported_code a)) → reported_code r ≤ reported_code b
      → ReportsEach (take (i + 1) xs) r
  reported_more xs i x a b r inside is of_front of_next one le =
      let front = take i xs in
      let more : take (i + 1) xs ≡ front ++ x ∷ [] = take_more xs i x inside is in
      subst (λ ys. ReportsEach ys r) (sym more)
      (reported_so (AllByRecursion P front × P x) (AllByRecursion P (front ++ x ∷ [])) (FirstOfTwo (FirstOf F front) (F x)) (FirstOf F (front ++ x ∷ []))
      (λ k. each-append P front (x ∷ []) k.0 (k.1, tt)) (λ e. ⊎_elim (λ k. first_left F front (x ∷ []) e k) (λ k. first_last F front x e k.0 k.1)) (λ e early k. first_split F front x e k) r
      (reported_both (AllByRecursion P front) (P x) (FirstOf F front) (F x) (none_first front) (p x) a b r of_front of_next one le))

  pub reported_all : (xs : List A) (i : ℕ) (r : Result (Unit {0}) DynError) → length xs ≤ i → ReportsEach (take i xs) r → ReportsEach xs r
  reported_all xs i r past h = subst (λ ys. ReportsEach ys r) (take_all i xs past) h
