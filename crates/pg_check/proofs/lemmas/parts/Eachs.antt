-- Two lists, item by item.
use Rattle.std.proofs.Common.{◌≡◌, ◌∙◌, ℕ, suc, ◌+◌, ◌<◌, List, [], ◌∷◌, ◌++◌, flat_map, map, take, get_or, length, sym, subst, ap, refl}
use Rattle.std.specs.List.{AllByRecursion}
use Rattle.std.proofs.lemmas.List.{map-append}
use Rattle.pg_check.specs.parts.MadeParts.{EachIs}
use Rattle.pg_check.proofs.lemmas.rules.FirstLaws.{take_item}

pub joined_all : {X : Type 0} (P : X → Type 0) (xs ys : List X) → AllByRecursion P xs → AllByRecursion P ys → AllByRecursion P (xs ++ ys)
joined_all P [] ys h k = k
joined_all P (x ∷ xs) ys h k = (h.0, joined_all P xs ys h.1 k)

pub front_of : {X : Type 0} (P : X → Type 0) (xs ys : List X) → AllByRecursion P (xs ++ ys) → AllByRecursion P xs
front_of P [] ys h = tt
front_of P (x ∷ xs) ys h = (h.0, front_of P xs ys h.1)

pub back_of : {X : Type 0} (P : X → Type 0) (xs ys : List X) → AllByRecursion P (xs ++ ys) → AllByRecursion P ys
back_of P [] ys h = h
back_of P (x ∷ xs) ys h = back_of P xs ys h.1

-- what follows of each
pub each_weaker : {A : Type 0} (P Q : A → Type 0) → ((x : A) → P x → Q x) → (xs : List A) → AllByRecursion P xs → AllByRecursion Q xs
each_weaker P Q more [] h = tt
each_weaker P Q more (x ∷ xs) h = (more x h.0, each_weaker P Q more xs h.1)

pub each_flat : {A B : Type 0} (P : B → Type 0) (f : A → List B) (xs : List A) → AllByRecursion (λ x. AllByRecursion P (f x)) xs → AllByRecursion P (flat_map f xs)
each_flat P f [] h = tt
each_flat P f (x ∷ xs) h = joined_all P (f x) (flat_map f xs) h.0 (each_flat P f xs h.1)

pub each_mapped : {A B : Type 0} (P : B → Type 0) (f : A → B) (xs : List A) → AllByRecursion (λ x. P (f x)) xs → AllByRecursion P (map f xs)
each_mapped P f [] h = tt
each_mapped P f (x ∷ xs) h = (h.0, each_mapped P f xs h.1)

-- what follows of each from the one at its index
pub each_all : {A B : Type 0} (is : A → B → Type 0) (P : A → Type 0) (Q : B → Type 0) → ((x : A) (y : B) → is x y → P x → Q y)
    → (xs : List A) (ys : List B) → EachIs is xs ys → AllByRecursion P xs → AllByRecursion Q ys
each_all is P Q so [] [] h k = tt
each_all is P Q so [] (y ∷ ys) h k = absurd h
each_all is P Q so (x ∷ xs) [] h k = absurd h
each_all is P Q so (x ∷ xs) (y ∷ ys) h k = (so x y h.0 k.0, each_all is P Q so xs ys h.1 k.1)

pub same_all : {A B C : Type 0} (f : A → C) (g : B → C) (P : B → Type 0) (Q : A → Type 0) → ((x : A) (y : B) → f x ≡ g y → P y → Q x)
    → (xs : List A) (ys : List B) → map f xs ≡ map g ys → AllByRecursion P ys → AllByRecursion Q xs
same_all f g P Q so [] ys is h = tt
same_all f g P Q so (x ∷ xs) [] is h = absurd (cc (is))
same_all f g P Q so (x ∷ xs) (y ∷ ys) is h =
    let one : f x ≡ g y = cc (is) in
    let others : map f xs ≡ map g ys = cc (is) in
    (so x y one h.0, same_all f g P Q so xs ys others h.1)

pub each-append : {A B : Type 0} (is : A → B → Type 0) (xs : List A) (ys : List B) (vs : List A) (ws : List B) → EachIs is xs ys → EachIs is vs ws → EachIs is (xs ++ vs) (ys ++ ws)
each-append is [] [] vs ws h k = k
each-append is [] (y ∷ ys) vs ws h k = absurd h
each-append is (x ∷ xs) [] vs ws h k = absurd h
each-append is (x ∷ xs) (y ∷ ys) vs ws h k = (h.0, each-append is xs ys vs ws h.1 k)

pub each-length : {A B : Type 0} (is : A → B → Type 0) (xs : List A) (ys : List B) → EachIs is xs ys → length xs ≡ length ys
each-length is [] [] h = refl
each-length is [] (y ∷ ys) h = absurd h
each-length is (x ∷ xs) [] h = absurd h
each-length is (x ∷ xs) (y ∷ ys) h = ap suc (each-length is xs ys h.1)

-- one more item of a list that is looked at, made from it
pub each-more : {A M W T : Type 0} (is : W → T → Type 0) (make : M → W) (view : A → M) (xs : List A) (i : ℕ) (x : A) (made new : List T) (t : T) → i < length xs → x ≡ get_or xs i x
    → new ≡ made ++ t ∷ [] → is (make (view x)) t → EachIs is (map make (map view (take i xs))) made → EachIs is (map make (map view (take (i + 1) xs))) new
each-more is make view xs i x made new t h at added one before =
    let front = map make (map view (take i xs)) in
    let item : take (i + 1) xs ≡ take i xs ++ x ∷ [] = take_item xs i x h ∙ ap (λ y. take i xs ++ y ∷ []) (sym at) in
    let step : map make (map view (take (i + 1) xs)) ≡ front ++ make (view x) ∷ [] =
    ap (λ ys. map make (map view ys)) item ∙ (ap (map make) (map-append view (take i xs) (x ∷ [])) ∙ map-append make (map view (take i xs)) (view x ∷ [])) in
    subst (λ ws. EachIs is ws new) (sym step) (subst (EachIs is (front ++ make (view x) ∷ [])) (sym added)
    (each-append is front made (make (view x) ∷ []) (t ∷ []) before (one, tt)))
