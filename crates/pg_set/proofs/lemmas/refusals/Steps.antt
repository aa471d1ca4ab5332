-- Where steps come to nothing, one of them does; and where one does, they do.
use Rattle.std.proofs.Common.{◌≡◌, ◌↔◌, zero, suc, Bool, true, false, cond, not, ◌&&◌, List, [], ◌∷◌, map, Option, Some, None, option_map, option_and_then, refl, ap, sym, subst, ◌∙◌, arith}
use Rattle.std.proofs.lemmas.Bool.{false≢true}
use Rattle.std.proofs.lemmas.List.Folds.{list_all_at}
use Rattle.std.proofs.lemmas.Option.{none-some}
use Rattle.std.specs.List.{Any, list_all}
use Rattle.pg_set.specs.stated.StatedNames.{both, each, only_if}
use Rattle.pg_set.proofs.lemmas.lists.Each.{each_first, each_rest}

-- ---- one test or the other

module _ {Z : Type 0} where
  pub by_test : (b : Bool) → (b ≡ true → Z) → (b ≡ false → Z) → Z
  by_test true is isnt = is refl
  by_test false is isnt = isnt refl

  pub of_and : (a b : Bool) → (a && b) ≡ false → (a ≡ false → Z) → (a ≡ true → b ≡ false → Z) → Z
  of_and true b h first second = second refl h
  of_and false b h first second = first refl

  pub of_cond : {A : Type 0} (b : Bool) (x y : Option A) → cond b x y ≡ None → (b ≡ true → x ≡ None → Z) → (b ≡ false → y ≡ None → Z) → Z
  of_cond true x y h first second = first refl h
  of_cond false x y h first second = second refl h

pub isnt : (b : Bool) → not b ≡ false → b ≡ true
isnt true h = refl
isnt false h = sym h

-- ---- some item of a list

module _ {A : Type 0} (P : A → Type 0) where
  pub any_here : (x : A) (xs : List A) → P x → Any P (x ∷ xs)
  any_here x xs p = (0, x, omega arith, refl, p)

  pub any_there : (x : A) (xs : List A) → Any P xs → Any P (x ∷ xs)
  any_there x xs a = let h = a.2 in (suc a.0, a.1, omega (arith, h), a.3, a.4)

  pub any_of : {Z : Type 0} (x : A) (xs : List A) → Any P (x ∷ xs) → (P x → Z) → (Any P xs → Z) → Z
  any_of x xs (zero, y, h, e, p) here there = here (subst P (sym e) p)
  any_of x xs (suc k, y, h, e, p) here there = there (k, y, omega (arith, h), e, p)

  pub none_any : {Z : Type 0} → Any P [] → Z
  none_any a = let h = a.2 in absurd (omega (arith, h))

-- an item is one of the list
pub any_weaker : {A : Type 0} (P Q : A → Type 0) (xs : List A) → ((x : A) → Any (λ y. y ≡ x) xs → P x → Q x) → Any P xs → Any Q xs
any_weaker P Q xs on (k, x, h, e, p) = (k, x, h, e, on x (k, x, h, e, refl) p)

pub any_false : {A : Type 0} (test : A → Bool) (xs : List A) → list_all test xs ≡ false → Any (λ x. test x ≡ false) xs
any_false test [] h = absurd (false≢true (sym h))
any_false test (x ∷ xs) h =
    of_and (test x) (list_all test xs) h (any_here (λ y. test y ≡ false) x xs) (λ here rest. any_there (λ y. test y ≡ false) x xs (any_false test xs rest))

pub false_any : {A : Type 0} (test : A → Bool) (xs : List A) → Any (λ x. test x ≡ false) xs → list_all test xs ≡ false
false_any test xs (k, x, h, e, p) = list_all_at test xs k x h (ap test e ∙ p)

pub any_seen : {A B : Type 0} (P : B → Type 0) (see : A → B) (xs : List A) → Any (λ x. P (see x)) xs ↔ Any P (map see xs)
any_seen P see [] = (none_any (λ x. P (see x)), none_any P)
any_seen P see (x ∷ xs) =
    let rest = any_seen P see xs in (
      λ a. any_of (λ y. P (see y)) x xs a (any_here P (see x) (map see xs)) (λ b. any_there P (see x) (map see xs) (rest.0 b)),
      λ a. any_of P (see x) (map see xs) a (any_here (λ y. P (see y)) x xs) (λ b. any_there (λ y. P (see y)) x xs (rest.1 b)),
    )

-- ---- where steps come to nothing

pub map_none : {A B : Type 0} (f : A → B) (o : Option A) → option_map f o ≡ None → o ≡ None
map_none f None h = refl
map_none f (Some x) h = absurd (none-some (f x) (sym h))

-- what is there comes to nothing by the test
pub test_none : {A : Type 0} (b : Bool) (x : A) → only_if b (Some x) ≡ None → b ≡ false
test_none true x h = absurd (none-some x (sym h))
test_none false x h = refl

pub of_then : {A B Z : Type 0} (f : A → Option B) (o : Option A) → option_and_then f o ≡ None → (o ≡ None → Z) → ((x : A) → o ≡ Some x → f x ≡ None → Z) → Z
of_then f None h first second = first refl
of_then f (Some x) h first second = second x refl h

pub of_only : {A Z : Type 0} (b : Bool) (o : Option A) → only_if b o ≡ None → (b ≡ false → Z) → (o ≡ None → Z) → Z
of_only true o h first second = second h
of_only false o h first second = first refl

pub of_both : {A B C Z : Type 0} (f : A → B → C) (a : Option A) (b : Option B) → both f a b ≡ None → (a ≡ None → Z) → (b ≡ None → Z) → Z
of_both f a b h first second = of_then (λ x. option_map (f x) b) a h first (λ x is none. second (map_none (f x) b none))

-- each of a list comes to nothing where one does
pub each_none : {A B : Type 0} (f : A → Option B) (xs : List A) → each f xs ≡ None → Any (λ x. f x ≡ None) xs
each_none f [] h = absurd (none-some [] (sym h))
each_none f (x ∷ xs) h =
    of_then (λ y. option_map (λ ys. y ∷ ys) (each f xs)) (f x) h (any_here (λ y. f y ≡ None) x xs)
    (λ y is none. any_there (λ z. f z ≡ None) x xs (each_none f xs (map_none (λ ys. y ∷ ys) (each f xs) none)))

-- ---- and where one does, they do

pub only_nothing : {A : Type 0} (b : Bool) (o : Option A) → o ≡ None → only_if b o ≡ None
only_nothing true o h = h
only_nothing false o h = refl

pub then_nothing : {A B : Type 0} (f : A → Option B) (o : Option A) → ((x : A) → o ≡ Some x → f x ≡ None) → option_and_then f o ≡ None
then_nothing f None h = refl
then_nothing f (Some x) h = h x refl

pub second_none : {A B C : Type 0} (f : A → B → C) (a : Option A) (b : Option B) → b ≡ None → both f a b ≡ None
second_none f a b none = then_nothing (λ x. option_map (f x) b) a (λ x is. ap (option_map (f x)) none)

pub none_each : {A B : Type 0} (f : A → Option B) (xs : List A) → Any (λ x. f x ≡ None) xs → each f xs ≡ None
none_each f [] a = none_any (λ x. f x ≡ None) a
none_each f (x ∷ xs) a = any_of (λ y. f y ≡ None) x xs a (each_first f x xs) (λ rest. each_rest f x xs (none_each f xs rest))

-- ---- what came to something

pub only_some : {A : Type 0} (b : Bool) (o : Option A) (y : A) → only_if b o ≡ Some y → (b ≡ true) × (o ≡ Some y)
only_some true o y h = (refl, h)
only_some false o y h = absurd (none-some y h)
