-- First indices and what is at them.
use Rattle.std.proofs.Common.{◌≡◌, ◌∙◌, ◌↔◌, ℕ, zero, suc, ◌+◌, Bool, true, false, cond, List, [], ◌∷◌, find, slice_get, Option, Some, None, option_map, refl, ap, sym, add-one}
use Rattle.std.specs.List.{position_from}
use Rattle.std.specs.Option.{option_and_then}
use Rattle.std.specs.Str.{bytes_eq}
use Rattle.std.proofs.lemmas.Slice.Eq.{bytes_eq-Decides}
use Rattle.pg_schema.specs.declared.parts.field.TypeId.{TypeId}
use Rattle.pg_schema.specs.declared.parts.message_type.MessageType.{MessageType}
use Rattle.pg_schema.specs.Parts.{name_at}
use Rattle.pg_notes.specs.Named.{place_of}
use Rattle.pg_notes.specs.Notes.{message_name}

-- a list that starts one index later
shifted : {A : Type 0} (p : A → Bool) (n : ℕ) (xs : List A) → position_from p (n + 1) xs ≡ option_map suc (position_from p n xs)
shifted p n [] = refl
shifted p n (x ∷ xs) = of (p x) (shifted p (n + 1) xs)
  where
    of : (b : Bool) → position_from p ((n + 1) + 1) xs ≡ option_map suc (position_from p (n + 1) xs)
        → cond b (Some (n + 1)) (position_from p ((n + 1) + 1) xs) ≡ option_map suc (cond b (Some n) (position_from p (n + 1) xs))
    of true later = ap (λ k. Some k) (add-one n)
    of false later = later

-- the first item that passes is the one at the first index
pub found_at : {A : Type 0} (p : A → Bool) (xs : List A) → find p xs ≡ option_and_then (slice_get xs) (position_from p 0 xs)
found_at p [] = refl
found_at {A} p (x ∷ xs) = of (p x) (found_at p xs ∙ at_later (position_from p 0 xs) ∙ ap (option_and_then (slice_get (x ∷ xs))) (sym (shifted p 0 xs)))
  where
    at_later : (found : Option ℕ) → option_and_then (slice_get xs) found ≡ option_and_then (slice_get (x ∷ xs)) (option_map suc found)
    at_later None = refl
    at_later (Some k) = refl

    of : (b : Bool) → find p xs ≡ option_and_then (slice_get (x ∷ xs)) (position_from p (0 + 1) xs)
        → cond b (Some x) (find p xs) ≡ option_and_then (slice_get (x ∷ xs)) (cond b (Some 0) (position_from p (0 + 1) xs))
    of true later = refl
    of false later = later

-- the first index at which a name is has that name
first_named : (types : List MessageType) (name : List ℕ) (k : ℕ) → place_of message_name types name ≡ Some k → option_map message_name (slice_get types k) ≡ Some name
first_named [] name k is = absurd (cc)
first_named (t ∷ types) name k is = of (bytes_eq name (message_name t)) refl (place_of message_name types name) refl (first_named types name) is
  where
    of : (b : Bool) → bytes_eq name (message_name t) ≡ b → (later : Option ℕ) → place_of message_name types name ≡ later → ((j : ℕ) → place_of message_name types name ≡ Some j → option_map message_name (slice_get types j) ≡ Some name)
        → cond b (Some 0) (position_from (λ (u : MessageType). bytes_eq name (message_name u)) (0 + 1) types) ≡ Some k → option_map message_name (slice_get (t ∷ types) k) ≡ Some name
    of true here later at rest found = let first : 0 ≡ k = cc in let same : name ≡ message_name t = (bytes_eq-Decides name (message_name t)).0 here in
        ap (λ i. option_map message_name (slice_get (t ∷ types) i)) (sym first) ∙ ap (λ n. Some n) (sym same)
    of false here None at rest found = absurd (let none : position_from (λ (u : MessageType). bytes_eq name (message_name u)) (0 + 1) types ≡ None = shifted _ 0 types ∙ ap (option_map suc) at in cc)
    of false here (Some j) at rest found =
        let next : position_from (λ (u : MessageType). bytes_eq name (message_name u)) (0 + 1) types ≡ Some (suc j) = shifted _ 0 types ∙ ap (option_map suc) at in
        let is_next : suc j ≡ k = cc in
        ap (λ i. option_map message_name (slice_get (t ∷ types) i)) (sym is_next) ∙ rest j at

-- a name that is at an index has a first index
named_first : (types : List MessageType) (name : List ℕ) (i : ℕ) → option_map message_name (slice_get types i) ≡ Some name → place_of message_name types name ≡ None → ⊥
named_first [] name i named none = absurd (cc)
named_first (t ∷ types) name zero named none =
    let same : name ≡ message_name t = cc in
    let here : bytes_eq name (message_name t) ≡ true = (bytes_eq-Decides name (message_name t)).1 same in
    absurd (let found : place_of message_name (t ∷ types) name ≡ Some 0 = ap (λ b. cond b (Some 0) (position_from (λ (u : MessageType). bytes_eq name (message_name u)) (0 + 1) types)) here in cc)
named_first (t ∷ types) name (suc i) named none = of (bytes_eq name (message_name t)) (place_of message_name types name) refl (named_first types name i named) none
  where
    of : (b : Bool) (later : Option ℕ) → place_of message_name types name ≡ later → (place_of message_name types name ≡ None → ⊥)
        → cond b (Some 0) (position_from (λ (u : MessageType). bytes_eq name (message_name u)) (0 + 1) types) ≡ None → ⊥
    of true later at rest is = absurd (cc)
    of false None at rest is = rest at
    of false (Some j) at rest is = absurd (let next : position_from (λ (u : MessageType). bytes_eq name (message_name u)) (0 + 1) types ≡ Some (suc j) = shifted _ 0 types ∙ ap (option_map suc) at in cc)

-- a look-up of a full name finds the first type of that name
pub looked_up : (types : List MessageType) (name : List ℕ) (found : Option TypeId) → ((id : TypeId) → (found ≡ Some id) ↔ (name_at types id ≡ Some name)) → place_of message_name types name ≡ option_map (λ (id : TypeId). id.index) found
looked_up types name found finds = of (place_of message_name types name) refl found finds
  where
    of : (first : Option ℕ) → place_of message_name types name ≡ first → (found : Option TypeId) → ((id : TypeId) → (found ≡ Some id) ↔ (name_at types id ≡ Some name)) → first ≡ option_map (λ (id : TypeId). id.index) found
    of None is None finds = refl
    of None is (Some id) finds = absurd (named_first types name id.index ((finds id).0 refl) is)
    of (Some k) is found finds = let there : found ≡ Some (record { index = k }) = (finds (record { index = k })).1 (first_named types name k is) in ap (option_map (λ (id : TypeId). id.index)) (sym there)
