-- How many fields name each oneof, as a loop counts them.
use Rattle.std.proofs.Common.{◌≡◌, ℕ, zero, suc, ◌+◌, ◌<◌, ◌≤◌, min, pos, Bool, true, false, cond, nat_eq, List, [], ◌∷◌, filter, length, map, take, get_or, Some, None, refl, ap, sym, subst, ◌∙◌, arith, add-one, rules}
use Rattle.std.proofs.Math.ListN.{set, length-set}
use Rattle.std.proofs.lemmas.Grind.{get_or-set_at}
use Rattle.std.proofs.lemmas.List.{get_or-set_other}
use Rattle.pg_dyn.specs.message.Kept.{Kept, message_of}
use Rattle.pg_dyn.specs.message.Message.{Message}
use Rattle.pg_set.specs.inner.reading.Made.{AreCounted}
use Rattle.pg_set.specs.stated.TypeMessages.{is_named, members_at}
use Rattle.pg_set.specs.stated.SetMessages.{maybe_number_at}
use Rattle.pg_set.proofs.lemmas.lists.Tests.{other_turned, same_turned}

abbrev seen : List Kept → (i : ℕ) → List Message
seen ms i = map message_of (take i ms)

abbrev named : (p : ℕ) → List Message → List Message
named p xs = filter (λ y. is_named p (maybe_number_at 9 y)) xs

abbrev one_if : Bool → ℕ
one_if true = 1
one_if false = 0

one_more : (p : ℕ) (ms : List Kept) (i : ℕ) (m : Kept) → i < length ms → m ≡ get_or ms i m
    → members_at p (seen ms (suc i)) ≡ members_at p (seen ms i) + one_if (is_named p (maybe_number_at 9 (message_of m)))
one_more p [] i m h is = absurd (omega (arith, h))
one_more p (x ∷ ms) zero m h is = search rules
one_more p (x ∷ ms) (suc i) m h is = of (is_named p (maybe_number_at 9 (message_of x))) (one_more p ms i m (omega (arith, h)) is)
  where
    of : (b : Bool) → length (named p (seen ms (suc i))) ≡ length (named p (seen ms i)) + one_if (is_named p (maybe_number_at 9 (message_of m)))
        → length (cond b (message_of x ∷ named p (seen ms (suc i))) (named p (seen ms (suc i)))) ≡ length (cond b (message_of x ∷ named p (seen ms i)) (named p (seen ms i))) + one_if (is_named p (maybe_number_at 9 (message_of m)))
    of true e = omega (arith, e)
    of false e = e

few : (p : ℕ) (ms : List Kept) (i : ℕ) → members_at p (seen ms i) ≤ i
few p ms zero = search rules
few p [] (suc i) = omega arith
few p (x ∷ ms) (suc i) = search (rules, few p ms i)

-- a field that names an index
pub counted_more : (ms : List Kept) (i : ℕ) (m : Kept) (place count before now : ℕ) (counts : List ℕ) → i < length ms → i < 18446744073709551615 → m ≡ get_or ms i m
    → maybe_number_at 9 (message_of m) ≡ Some (pos place) → place < count → before ≡ get_or counts place before → now ≡ min (before + 1) 18446744073709551615
    → AreCounted (seen ms i) count counts → AreCounted (seen ms (i + 1)) count (set counts place now)
counted_more ms i m place count before now counts h fits is named below at sum counted = record {
  all = length-set counts place now ∙ counted.all;
  each = λ p within. one p within (nat_eq place p) refl;
}
  where
    room : place < length counts
    room = subst (λ k. place < k) (sym counted.all) below

    here : get_or counts place 0 ≡ before
    here = default counts place before room ∙ sym at
      where
        default : (xs : List ℕ) (k d : ℕ) → k < length xs → get_or xs k 0 ≡ get_or xs k d
        default [] k d h = absurd (omega (arith, h))
        default (x ∷ xs) zero d h = refl
        default (x ∷ xs) (suc k) d h = default xs k d (omega (arith, h))

    more : (p : ℕ) (b : Bool) → nat_eq place p ≡ b → members_at p (seen ms (i + 1)) ≡ members_at p (seen ms i) + one_if b
    more p b e = rw add-one (one_more p ms i m h is ∙ ap (λ c. members_at p (seen ms i) + one_if c) (ap (is_named p) named ∙ e))

    one : (p : ℕ) → p < count → (b : Bool) → nat_eq place p ≡ b → get_or (set counts place now) p 0 ≡ members_at p (seen ms (i + 1))
    one p within true e =
        let same : p ≡ place = same_turned place p e in
        let before_is : before ≡ members_at p (seen ms i) = sym here ∙ (ap (λ k. get_or counts k 0) (sym same) ∙ counted.each p within) in
        let at_most = few p ms i in
        let step : members_at p (seen ms (i + 1)) ≡ members_at p (seen ms i) + 1 = more p true e in
        get_or-set_at counts place p now 0 same room ∙ (let total : now ≡ members_at p (seen ms i) + 1 = omega (arith, sum, before_is, at_most, fits) in total ∙ sym step)
    one p within false e =
        let step : members_at p (seen ms (i + 1)) ≡ members_at p (seen ms i) + 0 = more p false e in
        let kept : get_or counts p 0 ≡ members_at p (seen ms i) = counted.each p within in
        get_or-set_other counts place p now 0 (other_turned place p e) ∙ (kept ∙ (let same : members_at p (seen ms i) ≡ members_at p (seen ms (i + 1)) = omega (arith, step) in same))

-- one that names none
pub uncounted_more : (ms : List Kept) (i : ℕ) (m : Kept) (count : ℕ) (counts : List ℕ) → i < length ms → m ≡ get_or ms i m → maybe_number_at 9 (message_of m) ≡ None
    → AreCounted (seen ms i) count counts → AreCounted (seen ms (i + 1)) count counts
uncounted_more ms i m count counts h is none counted = record {
  all = counted.all;
  each = λ p within.
      let step : members_at p (seen ms (suc i)) ≡ members_at p (seen ms i) + 0 = one_more p ms i m h is ∙ ap (λ o. members_at p (seen ms i) + one_if (is_named p o)) none in
      let kept : get_or counts p 0 ≡ members_at p (seen ms i) = counted.each p within in
      rw add-one (kept ∙ (let same : members_at p (seen ms i) ≡ members_at p (seen ms (suc i)) = omega (arith, step) in same));
}
