-- Records by rising number.
use Rattle.std.proofs.Common.{◌≡◌, ℕ, suc, ◌<◌, ◌≤◌, List, [], ◌∷◌, ◌++◌, length, get_or, filter, Bool, not, ◌&&◌, nat_eq, refl, sym, ◌∙◌, arith, rules}
use Rattle.std.specs.Prelude.{nat_lt}
use Rattle.std.specs.List.{AllByRecursion}
use Rattle.std.specs.List.Sorted.{IsNonDecreasingBy, IsStableBy, ties}
use Rattle.std.proofs.lemmas.Bool.Decides.{nat_tests}
use Rattle.pg_wire.specs.declared.record.Record.{Record}
use Rattle.pg_wire.specs.declared.record.WireType.TheVariants.{Len}
use Rattle.pg_dyn.specs.reading.Gathering.{AreByNumber, NumbersRise}
use Rattle.pg_dyn.proofs.Lists.{each-append, each_weaker, filter_alike}

abbrev has_number : ℕ → Record → Bool
has_number n r = nat_eq r.number n

-- One more record after the others.

pub rise_more : (rs : List Record) (r : Record) (last : ℕ) → NumbersRise rs → AllByRecursion (λ (x : Record). x.number ≤ last) rs → last ≤ r.number
    → NumbersRise (rs ++ r ∷ [])
rise_more [] r last rise below above = (tt, tt)
rise_more (x ∷ rs) r last rise below above =
    (each-append (λ (y : Record). x.number ≤ y.number) rs (r ∷ []) rise.0 (omega (arith, below.0, above), tt), rise_more rs r last rise.1 below.1 above)

pub highest_more : (rs : List Record) (r : Record) (last : ℕ) → AllByRecursion (λ (x : Record). x.number ≤ last) rs → last ≤ r.number
    → AllByRecursion (λ (x : Record). x.number ≤ r.number) (rs ++ r ∷ [])
highest_more rs r last below above = search (rules, arith, each-append, each_weaker)

-- Sorted records.

each_here : (P : Record → Type 0) (rs : List Record) → ((k : ℕ) (d : Record) → k < length rs → P (get_or rs k d)) → AllByRecursion P rs
each_here P [] h = tt
each_here P (r ∷ rs) h = (h 0 r (omega arith), each_here P rs (λ k d inside. h (suc k) d (omega (arith, inside))))

pub sorted_rise : (rs : List Record) → IsNonDecreasingBy (λ (r : Record). r.number) rs → NumbersRise rs
sorted_rise [] h = tt
sorted_rise (r ∷ rs) h = (
  each_here (λ (x : Record). r.number ≤ x.number) rs (λ k d inside. h 0 (suc k) d (omega arith) (omega (arith, inside))),
  sorted_rise rs (λ i j d up inside. h (suc i) (suc j) d (omega (arith, up)) (omega (arith, inside))),
)

abbrev pub lower : Record → Record → Bool
lower a b = nat_lt a.number b.number

tied : (m n : ℕ) → (not (nat_lt n m) && not (nat_lt m n)) ≡ nat_eq m n
tied m n = grind (arith, nat_tests)

-- a record of the number
of_number : ℕ → Record
of_number n = record { number = n; wire_type = Len; body = record { ref_ptr = (0, 0); now = [] }; bytes = record { ref_ptr = (0, 0); now = [] } }

pub stable_same : (old new : List Record) → IsStableBy lower old new → (n : ℕ) → filter (has_number n) new ≡ filter (has_number n) old
unfolding of_number
stable_same old new stable n =
    let same : (rs : List Record) → filter (ties lower (of_number n)) rs ≡ filter (has_number n) rs =
    λ rs. filter_alike (ties lower (of_number n)) (has_number n) (λ r. tied r.number n) rs in
    sym (same new) ∙ stable (of_number n) ∙ same old

pub nothing_moved : (rs : List Record) → NumbersRise rs → AreByNumber rs rs
nothing_moved rs rise = record { rise = rise; same = λ number. refl }
