-- The parts that a message's fields show, whatever kind its contents are of.
use Rattle.std.proofs.Common.{◌≡◌, ℕ, zero, suc, ◌<◌, ◌≢◌, List, [], ◌∷◌, ◌++◌, length, filter, get_or, nat_eq, refl, ap, ap₂, sym, subst, ◌∙◌, arith, eq-eqb, ne_eqb, rules}
use Rattle.std.proofs.lemmas.List.{append-nil}
use Rattle.std.specs.List.{AllByRecursion}
use Rattle.pg_schema.specs.declared.parts.field.TypeId.{TypeId}
use Rattle.pg_wire.specs.Records.{WireRecord}
use Rattle.pg_dyn.specs.message.Message.{Part, is_of}
use Rattle.pg_dyn.specs.message.Kept.{ends}
use Rattle.pg_dyn.specs.message.KeptParts.{AreOf, KeptItem, of_number, parts_of}
use Rattle.pg_dyn.specs.message.Replacing.{all_parts, kept_onto}
use Rattle.pg_dyn.specs.message.Seen.{Rises}
use Rattle.pg_dyn.proofs.Lists.{each_weaker, filter-append'}
use Rattle.pg_dyn.proofs.lemmas.message.ReplacingLaws.{kept_all, kept_none, parts_of-kept_onto}

-- a fact of each field, at an index
pub at_index : {A : Type 0} (P : ℕ × A → Type 0) (fs : List (ℕ × A)) (i : ℕ) (d : ℕ × A) → i < length fs → AllByRecursion P fs → P (get_or fs i d)
at_index P [] i d inside h = absurd (omega arith)
at_index P (f ∷ fs) zero d inside h = h.0
at_index P (f ∷ fs) (suc i) d inside h = at_index P fs i d (omega arith) h.1

pub each_from_index : {A : Type 0} (P : ℕ × A → Type 0) (fs : List (ℕ × A)) → ((k : ℕ) (d : ℕ × A) → k < length fs → P (get_or fs k d)) → AllByRecursion P fs
each_from_index P [] h = tt
each_from_index P (f ∷ fs) h = (h 0 f (omega arith), each_from_index P fs (λ k d inside. h (suc k) d (omega arith)))

pub found_fact : {A : Type 0} (P : ℕ × A → Type 0) (fs : List (ℕ × A)) (i : ℕ) (r : ℕ × A) → i < length fs → AllByRecursion P fs → r ≡ get_or fs i r → P r
found_fact P fs i r inside each is = subst P (sym is) (at_index P fs i r inside each)

module _ {C : Type 0} (parts : ℕ → C → List (Part KeptItem)) (numbered : (n : ℕ) (c : C) → AreOf n (parts n c)) (m : ℕ) where
  own : (n : ℕ) (c : C) → n ≡ m → filter (is_of m) (parts n c) ≡ parts n c
  own n c same = kept_all (λ k. nat_eq k m) n (parts n c) (numbered n c) (eq-eqb n m same)

  other : (n : ℕ) (c : C) → n ≢ m → filter (is_of m) (parts n c) ≡ []
  other n c apart = kept_none (λ k. nat_eq k m) n (parts n c) (numbered n c) (ne_eqb n m apart)

  none_of : (fs : List (ℕ × C)) → AllByRecursion (λ (f : ℕ × C). f.0 ≢ m) fs → filter (is_of m) (all_parts parts fs) ≡ []
  none_of [] h = refl
  none_of (f ∷ fs) h = filter-append' (is_of m) (parts f.0 f.1) (all_parts parts fs) ∙ ap₂ (λ xs ys. xs ++ ys) (other f.0 f.1 h.0) (none_of fs h.1)

  above : (n : ℕ) (fs : List (ℕ × C)) → n ≡ m → AllByRecursion (λ (g : ℕ × C). n < g.0) fs → AllByRecursion (λ (g : ℕ × C). g.0 ≢ m) fs
  above n fs same h = each_weaker (λ (g : ℕ × C). n < g.0) (λ (g : ℕ × C). g.0 ≢ m) (λ g low e. absurd (omega (arith, same, low, e))) fs h

  one_at : (fs : List (ℕ × C)) (i : ℕ) (d : ℕ × C) → i < length fs → Rises fs → (get_or fs i d).0 ≡ m
      → filter (is_of m) (all_parts parts fs) ≡ parts (get_or fs i d).0 (get_or fs i d).1
  one_at [] i d inside rises is = absurd (omega arith)
  one_at (f ∷ fs) zero d inside rises is =
      filter-append' (is_of m) (parts f.0 f.1) (all_parts parts fs) ∙ ap₂ (λ xs ys. xs ++ ys) (own f.0 f.1 is) (none_of fs (above f.0 fs is rises.0)) ∙ append-nil (parts f.0 f.1)
  one_at (f ∷ fs) (suc i) d inside rises is =
      search (rules, arith, at_index, filter-append', other, one_at fs i d)

  shown : (type : TypeId) (fs : List (ℕ × C)) (us : List WireRecord) → parts_of (kept_onto (all_parts parts fs) (ends type us)) ≡ all_parts parts fs
  shown type fs us = parts_of-kept_onto (all_parts parts fs) (ends type us) ∙ append-nil (all_parts parts fs)

  -- the field that a look-up found, and none
  pub found_field : (fs : List (ℕ × C)) (i : ℕ) (r : ℕ × C) (type : TypeId) (us : List WireRecord) → i < length fs → Rises fs → r ≡ get_or fs i r → r.0 ≡ m
      → of_number m (kept_onto (all_parts parts fs) (ends type us)) ≡ parts m r.1
  found_field fs i r type us inside rises is number = search (rules, shown, one_at)

  pub of_number_none : (fs : List (ℕ × C)) (type : TypeId) (us : List WireRecord) → AllByRecursion (λ (f : ℕ × C). f.0 ≢ m) fs
      → of_number m (kept_onto (all_parts parts fs) (ends type us)) ≡ []
  of_number_none fs type us h = ap (filter (is_of m)) (shown type fs us) ∙ none_of fs h
