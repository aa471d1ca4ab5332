-- Lists that loops go along.
use Rattle.std.proofs.Common.{◌≡◌, ◌∙◌, ℕ, zero, suc, ◌+◌, ◌<◌, List, [], ◌∷◌, ◌++◌, map, take, length, get_or, slice_get, Some, refl, ap, sym, subst, add-one, arith}
use Rattle.std.specs.List.{AllByRecursion, flat_map}
use Rattle.std.proofs.lemmas.Grind.{flat_map-append}
use Rattle.std.proofs.lemmas.List.{append-nil, map-append}
use Rattle.std.proofs.lemmas.Option.{get_or_from_slice_get, slice_get_within}
use Rattle.std.proofs.Math.Seq.{take-suc}
use Rattle.pg_dyn.proofs.Lists.{each-append}
use Rattle.pg_schema.specs.Shape.{Shape}
use Rattle.pg_pairs.specs.bounds.Covering.{IsAmong}
use Rattle.pg_pairs.specs.choices.Causes.{causes}
use Rattle.pg_pairs.specs.choices.Told.{told_causes, told_of}
use Rattle.pg_pairs.specs.declared.choices.choice.Pair.{Pair}
use Rattle.pg_pairs.specs.declared.choices.told.FieldCause.{FieldCause}
use Rattle.pg_pairs.specs.laws.ToldLaws.{CausesAreTold}
use Rattle.pg_pairs.specs.views.EnumView.{EnumView}
use Rattle.pg_pairs.proofs.lemmas.graph.Reaching.{every_is_among}
use Rattle.pg_pairs.proofs.lemmas.views.NameLaws.{among_map}

-- the choice of each told cause is a cause
pub each_told : (enum_view : EnumView) (old new : Shape) (pair : Pair) (list : List FieldCause) → CausesAreTold → map told_of list ≡ told_causes enum_view old new pair
    → AllByRecursion (λ (t : FieldCause). IsAmong t.choice (causes enum_view old new pair)) list
each_told enum_view old new pair list law same =
    every_is_among (λ (t : FieldCause). IsAmong t.choice (causes enum_view old new pair)) list (λ t here. law.are_causes enum_view old new pair (told_of t) (subst (IsAmong (told_of t)) same (among_map told_of t list here)))

pub map_map : {A B C : Type 0} (f : A → B) (g : B → C) (xs : List A) → map (λ x. g (f x)) xs ≡ map g (map f xs)
map_map f g [] = refl
map_map f g (x ∷ xs) = ap (λ ys. g (f x) ∷ ys) (map_map f g xs)

-- something is at each index within
pub nothing_at : {A : Type 0} (xs : List A) (i : ℕ) → i < length xs → ((x : A) → slice_get xs i ≡ Some x → ⊥) → ⊥
nothing_at [] i within never = omega arith
nothing_at (x ∷ xs) zero within never = never x refl
nothing_at (x ∷ xs) (suc i) within never = nothing_at xs i (omega arith) never

taken_more : {A : Type 0} (xs : List A) (i : ℕ) (x : A) → i < length xs → x ≡ get_or xs i x → take (i + 1) xs ≡ take i xs ++ x ∷ []
taken_more xs i x within here = ap (λ n. take n xs) (add-one i) ∙ (take-suc xs i x within ∙ ap (λ y. take i xs ++ y ∷ []) (sym here))

-- one element more at the end of a list
pub pushed : {A B : Type 0} (f : A → B) (xs ys : List A) (x : A) (zs : List B) (y : B) → ys ≡ xs ++ x ∷ [] → map f xs ≡ zs → f x ≡ y → map f ys ≡ zs ++ y ∷ []
pushed f xs ys x zs y more before last = ap (map f) more ∙ (map-append f xs (x ∷ []) ∙ (ap (λ ws. ws ++ f x ∷ []) before ∙ ap (λ z. zs ++ z ∷ []) last))

pub each_pushed : {A : Type 0} (P : A → Type 0) (xs ys : List A) (x : A) → ys ≡ xs ++ x ∷ [] → AllByRecursion P xs → P x → AllByRecursion P ys
each_pushed P xs ys x more each last = subst (AllByRecursion P) (sym more) (each-append P xs (x ∷ []) each (last, tt))

-- what is made of one element more
pub map_more : {A B : Type 0} (f : A → B) (xs : List A) (i : ℕ) (x : A) → i < length xs → x ≡ get_or xs i x → map f (take (i + 1) xs) ≡ map f (take i xs) ++ f x ∷ []
map_more f xs i x within here = ap (map f) (taken_more xs i x within here) ∙ map-append f (take i xs) (x ∷ [])

pub flat_more : {A B C : Type 0} (h : B → List C) (f : A → B) (xs : List A) (i : ℕ) (x : A) → slice_get xs i ≡ Some x → flat_map h (map f (take (i + 1) xs)) ≡ flat_map h (map f (take i xs)) ++ h (f x)
flat_more h f xs i x at =
    ap (flat_map h) (map_more f xs i x (slice_get_within xs i x at) (sym (get_or_from_slice_get xs i x x at)))
    ∙ (flat_map-append h (map f (take i xs)) (f x ∷ []) ∙ ap (λ ys. flat_map h (map f (take i xs)) ++ ys) (append-nil (h (f x))))
