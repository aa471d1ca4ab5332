-- Indices of pairs.
use Rattle.std.proofs.Common.{◌≡◌, ℕ, suc, ◌+◌, ◌<◌, ◌⊎◌, List, [], ◌∷◌, ◌++◌, length, slice_get, map, flat_map, Bool, true, false, cond, is_some, Some, inl, inr, ⊎_elim, refl, ap, sym, ◌∙◌, subst, arith, append-nil, append_assoc}
use Rattle.std.specs.BTreeMap.{BTreeMap, get, Updates}
use Rattle.pg_pairs.specs.declared.choices.choice.Pair.{Pair}
use Rattle.pg_pairs.specs.bounds.Covering.{IsAmong, same_pair}
use Rattle.pg_pairs.specs.laws.ByIndices.{by_indices, equal_same}
use Rattle.pg_cert.proofs.Tables.{same_pair-refl}
use Rattle.pg_least.specs.inner.Places.{ArePlaces}
use Rattle.pg_pairs.specs.laws.EdgeChildren.{same_pair-true}
use Rattle.pg_least.proofs.Steps.{place_cases}

-- One pair more has an index.
pub placed_more : (pairs : List Pair) (at : ℕ) (q : Pair) (before after : BTreeMap (ℕ × ℕ) ℕ) → slice_get pairs at ≡ Some q → Updates by_indices before after (q.old.index, q.new.index) (Some at) → ArePlaces pairs at before → ArePlaces pairs (at + 1) after
placed_more pairs at q before after here updates places = record {
  sound = λ p k is. sound_at p k (same_pair q p) refl (sym (place_after p) ∙ is);
  complete = λ p k below is. updates_some p (same_pair q p) refl
      (⊎_elim (λ same. inl (let both : Some q ≡ Some p = sym here ∙ ap (slice_get pairs) (sym same) ∙ is in let one : q ≡ p = cc in subst (λ x. same_pair q x ≡ true) one (same_pair-refl q)))
      (λ apart. inr (places.complete p k (omega arith) is)) (place_cases k at));
}
  where
    place_after : (p : Pair) → get by_indices after (p.old.index, p.new.index) ≡ cond (same_pair q p) (Some at) (get by_indices before (p.old.index, p.new.index))
    place_after p = updates.0 (p.old.index, p.new.index) ∙ ap (λ b. cond b (Some at) (get by_indices before (p.old.index, p.new.index))) (equal_same q p)

    sound_at : (p : Pair) (k : ℕ) (b : Bool) → same_pair q p ≡ b → cond b (Some at) (get by_indices before (p.old.index, p.new.index)) ≡ Some k → slice_get pairs k ≡ Some p
    sound_at p k true same is = let k_is : at ≡ k = cc in ap (slice_get pairs) (sym k_is) ∙ here ∙ ap Some (same_pair-true q p same)
    sound_at p k false apart is = places.sound p k is

    updates_some : (p : Pair) (b : Bool) → same_pair q p ≡ b → (same_pair q p ≡ true) ⊎ (is_some (get by_indices before (p.old.index, p.new.index)) ≡ true) → is_some (get by_indices after (p.old.index, p.new.index)) ≡ true
    updates_some p true same h = ap is_some (place_after p) ∙ rw same refl
    updates_some p false apart (inl same) = absurd (let no : true ≡ false = sym same ∙ apart in cc)
    updates_some p false apart (inr there) = ap is_some (place_after p) ∙ rw apart there

pub map-end : {A B : Type 0} (f : A → B) (xs : List A) (x : A) → map f (xs ++ x ∷ []) ≡ map f xs ++ f x ∷ []
map-end f [] x = refl
map-end f (y ∷ xs) x = ap (λ zs. f y ∷ zs) (map-end f xs x)

pub flat_map-end : {A B : Type 0} (h : A → List B) (xs : List A) (x : A) → flat_map h (xs ++ x ∷ []) ≡ flat_map h xs ++ h x
flat_map-end h [] x = append-nil (h x)
flat_map-end h (y ∷ xs) x = ap (λ zs. h y ++ zs) (flat_map-end h xs x) ∙ sym (append_assoc (h y) (flat_map h xs) (h x))

-- a pair of the list has an index in it
place_in : (p : Pair) (pairs : List Pair) → IsAmong p pairs → (at : ℕ) × (at < length pairs) × (slice_get pairs at ≡ Some p)
place_in p [] h = absurd h
place_in p (q ∷ pairs) h = ⊎_elim (λ same. (0, omega arith, ap Some (sym same))) (λ later. let (at, within, is) = place_in p pairs later in (suc at, omega arith, is)) h

pub place_there : (pairs : List Pair) (places : BTreeMap (ℕ × ℕ) ℕ) → ArePlaces pairs (length pairs) places → (p : Pair) → IsAmong p pairs → is_some (get by_indices places (p.old.index, p.new.index)) ≡ true
place_there pairs places are p among = let (at, within, is) = place_in p pairs among in are.complete p at within is
