-- Numbers among reserved ranges that are sorted by first numbers.
use Rattle.std.proofs.Common.{◌≡◌, ◌∙◌, ℕ, zero, suc, ◌<◌, ◌≤◌, max, Bool, true, false, ◌&&◌, ◌||◌, nat_le, List, [], ◌∷◌, length, take, get_or, sym, ap, refl, arith}
use Rattle.std.specs.List.{list_any}
use Rattle.std.specs.List.Sorted.{IsNonDecreasingBy, IsPartitionedBy, IsPartitionPoint, IsPermutation}
use Rattle.std.proofs.lemmas.Bool.Decides.{nat_tests}
use Rattle.std.proofs.lemmas.List.Sorted.{list_any-IsPermutation}
use Rattle.pg_schema.specs.declared.parts.message_type.ReservedFields.{ReservedFields}
use Rattle.pg_notes.specs.FieldNotes.{is_reserved}
use Rattle.pg_notes.specs.inner.Tops.{tops_from, highest}

or_max : (n a b : ℕ) → (nat_le n a || nat_le n b) ≡ nat_le n (max a b)
or_max n a b = grind (arith, nat_tests)

alone : (n a : ℕ) → (nat_le n a || false) ≡ nat_le n (max a 0)
alone n a = grind (arith, nat_tests)

top_of : (n : ℕ) (r : ReservedFields) (rs : List ReservedFields) → list_any (λ (q : ReservedFields). nat_le n q.last) (r ∷ rs) ≡ nat_le n (highest (r ∷ rs))
top_of n r [] = alone n r.last
top_of n r (q ∷ qs) = ap (λ b. nat_le n r.last || b) (top_of n q qs) ∙ or_max n r.last (highest (q ∷ qs))

front_true : (a b : Bool) → a ≡ true → (a && b) ≡ b
front_true a b h = grind arith

front_false : (a b c : Bool) → a ≡ false → ((a && b) || c) ≡ c
front_false a b c h = grind arith

-- only ranges that begin at the number or before it can have it
pub reserved_front : (n : ℕ) (rs : List ReservedFields) (k : ℕ) → ((i : ℕ) (d : ReservedFields) → i < k → i < length rs → nat_le (get_or rs i d).first n ≡ true) → ((i : ℕ) (d : ReservedFields) → k ≤ i → i < length rs → nat_le (get_or rs i d).first n ≡ false)
    → is_reserved rs n ≡ list_any (λ (q : ReservedFields). nat_le n q.last) (take k rs)
reserved_front n [] zero low high = refl
reserved_front n [] (suc k) low high = refl
reserved_front n (r ∷ rs) zero low high =
    front_false (nat_le r.first n) (nat_le n r.last) (is_reserved rs n) (high 0 r (omega arith) (omega arith))
    ∙ reserved_front n rs zero (λ i d h l. absurd (omega (arith, h))) (λ i d h l. high (suc i) d (omega arith) (omega (arith, l)))
reserved_front n (r ∷ rs) (suc k) low high =
    ap (λ b. b || is_reserved rs n) (front_true (nat_le r.first n) (nat_le n r.last) (low 0 r (omega arith) (omega arith)))
    ∙ ap (λ b. nat_le n r.last || b) (reserved_front n rs k (λ i d h l. low (suc i) d (omega (arith, h)) (omega (arith, l))) (λ i d h l. high (suc i) d (omega (arith, h)) (omega (arith, l))))

pub reserved_top : (n : ℕ) (rs : List ReservedFields) (j : ℕ) → j < length rs → list_any (λ (q : ReservedFields). nat_le n q.last) (take (suc j) rs) ≡ nat_le n (highest (take (suc j) rs))
reserved_top n rs j h = grind (arith, top_of)

pub tops_at : (t : ℕ) (rs : List ReservedFields) (j : ℕ) → j < length rs → get_or (tops_from t rs) j 0 ≡ max t (highest (take (suc j) rs))
tops_at t [] j h = absurd (omega (arith, h))
tops_at t (r ∷ rs) zero h = omega arith
tops_at t (r ∷ rs) (suc i) h =
    let next : get_or (tops_from (max t r.last) rs) i 0 ≡ max (max t r.last) (highest (take (suc i) rs)) = tops_at (max t r.last) rs i (omega (arith, h)) in
    omega (arith, next)

pub tops_length : (t : ℕ) (rs : List ReservedFields) → length (tops_from t rs) ≡ length rs
tops_length t [] = refl
tops_length t (r ∷ rs) = ap suc (tops_length (max t r.last) rs)

-- ranges in another order reserve the same numbers
pub reserved_moved : (xs ys : List ReservedFields) (n : ℕ) → IsPermutation xs ys → is_reserved ys n ≡ is_reserved xs n
reserved_moved xs ys n moved = sym (list_any-IsPermutation (λ (r : ReservedFields). nat_le r.first n && nat_le n r.last) xs ys moved)

below : (a b n : ℕ) → a ≤ b → nat_le b n ≡ true → nat_le a n ≡ true
below a b n h t = grind (arith, nat_tests)

pub partitioned : (n : ℕ) (rs : List ReservedFields) → IsNonDecreasingBy (λ (r : ReservedFields). r.first) rs → IsPartitionedBy (λ (r : ReservedFields). nat_le r.first n) rs
partitioned n rs order i j d le lt t = below (get_or rs i d).first (get_or rs j d).first n (order i j d le lt) t

abbrev pub IsPoint : ℕ → List ReservedFields → ℕ → Type 0
IsPoint n rs k = IsPartitionPoint (λ (r : ReservedFields). nat_le r.first n ≡ true) (λ (r : ReservedFields). nat_le r.first n ≡ false) rs k

front_of : (n : ℕ) (rs : List ReservedFields) (k : ℕ) → IsPoint n rs k → is_reserved rs n ≡ list_any (λ (q : ReservedFields). nat_le n q.last) (take k rs)
front_of n rs k point = reserved_front n rs k (λ i d h l. point.0 i d (omega arith) h) (λ i d h l. point.1 i d h l)

pub none_held : (n : ℕ) (rs : List ReservedFields) (k : ℕ) → IsPoint n rs k → k ≡ 0 → false ≡ is_reserved rs n
none_held n rs k point is = sym (front_of n rs k point ∙ ap (λ m. list_any (λ (q : ReservedFields). nat_le n q.last) (take m rs)) is)

pub some_held : (n : ℕ) (rs : List ReservedFields) (tops : List ℕ) (k j : ℕ) → IsPoint n rs k → k ≤ length rs → k ≡ suc j → tops ≡ tops_from 0 rs → nat_le n (get_or tops j 0) ≡ is_reserved rs n
some_held n rs tops k j point bound is of =
    let inside : j < length rs = omega (arith, bound, is) in
    let top : get_or tops j 0 ≡ highest (take (suc j) rs) = ap (λ ts. get_or ts j 0) of ∙ (tops_at 0 rs j inside ∙ no_more (highest (take (suc j) rs))) in
    ap (nat_le n) top ∙ (sym (reserved_top n rs j inside) ∙ (ap (λ m. list_any (λ (q : ReservedFields). nat_le n q.last) (take m rs)) (sym is) ∙ sym (front_of n rs k point)))
  where
    no_more : (a : ℕ) → max 0 a ≡ a
    no_more a = omega arith
