-- Indices that are marked.
use Rattle.std.proofs.Common.{◌≡◌, ℕ, zero, suc, ◌+◌, ◌<◌, ℤ, pos, Bool, true, false, ◌||◌, nat_eq, List, [], ◌∷◌, length, take, get_or, refl, ap, sym, subst, ◌∙◌, arith, add-one, rules}
use Rattle.std.proofs.Math.ListN.{set, length-set}
use Rattle.std.proofs.lemmas.Grind.{get_or-set_at}
use Rattle.std.proofs.lemmas.List.{get_or-set_other}
use Rattle.pg_set.specs.stated.FileMessages.{is_place}
use Rattle.pg_set.specs.inner.reading.Made.{AreMarked}
use Rattle.pg_set.specs.stated.TypeMessages.{is_at, is_marked}
use Rattle.pg_set.proofs.lemmas.lists.Tests.{is_below, or_all, or_none, other_turned, same_turned}

pub is_one : (count : ℕ) (n : ℤ) (place : ℕ) → n ≡ pos place → place < count → is_place count n ≡ true
is_one count n place is h = ap (is_place count) is ∙ is_below place count h

-- ---- marks

or_assoc : (a b c : Bool) → (a || (b || c)) ≡ ((a || b) || c)
or_assoc true b c = refl
or_assoc false b c = refl

marked_suc : (numbers : List ℤ) (i : ℕ) (p : ℕ) → i < length numbers
    → is_marked (take (suc i) numbers) p ≡ (is_marked (take i numbers) p || is_at p (get_or numbers i (pos 0)))
marked_suc [] i p h = absurd (omega (arith, h))
marked_suc (n ∷ ns) zero p h = search rules
marked_suc (n ∷ ns) (suc i) p h = ap (λ b. is_at p n || b) (marked_suc ns i p (omega (arith, h))) ∙ or_assoc (is_at p n) (is_marked (take i ns) p) (is_at p (get_or ns i (pos 0)))

-- one index more is marked
pub marks_step : (numbers : List ℤ) (i place count : ℕ) (marks : List Bool) → i < length numbers → get_or numbers i (pos 0) ≡ pos place → place < count
    → AreMarked (take i numbers) count marks → AreMarked (take (i + 1) numbers) count (set marks place true)
marks_step numbers i place count marks h is below marked = record {
  all = length-set marks place true ∙ marked.all;
  each = λ p within. one p within (nat_eq place p) refl;
}
  where
    room : place < length marks
    room = subst (λ k. place < k) (sym marked.all) below

    more : (p : ℕ) (b : Bool) → nat_eq place p ≡ b → is_marked (take (i + 1) numbers) p ≡ (is_marked (take i numbers) p || b)
    more p b e = rw add-one (marked_suc numbers i p h ∙ ap (λ x. is_marked (take i numbers) p || x) (ap (is_at p) is ∙ e))

    one : (p : ℕ) → p < count → (b : Bool) → nat_eq place p ≡ b → get_or (set marks place true) p false ≡ is_marked (take (i + 1) numbers) p
    one p within true e =
        let same : p ≡ place = same_turned place p e in
        get_or-set_at marks place p true false same room ∙ sym (more p true e ∙ or_all (is_marked (take i numbers) p))
    one p within false e =
        get_or-set_other marks place p true false (other_turned place p e) ∙ (marked.each p within ∙ sym (more p false e ∙ or_none (is_marked (take i numbers) p)))
