-- Records that rise stay, and sorted ones rise.
use Rattle.std.proofs.Common.{◌≡◌, Vec, Global, refl, sym, subst, rules}
use Rattle.std.specs.Ordering.{is_lt}
use Rattle.std.proofs.lemmas.List.Sorted.{IsNonDecreasingBy-from_sort_by, IsStrictWeakOrder-by_number, answers_always}
use Rattle.pg_wire.specs.declared.record.Record.{Record}
use Rattle.pg_dyn.specs.reading.Gathering.{AreByNumber, NumbersRise}
use Rattle.pg_dyn.proofs.lemmas.reading.runs.NumberOrder.{lower, nothing_moved, sorted_rise, stable_same}
use Rattle.pg_dyn.proofs.reading.sorting.by_number.Goals.{then-not-in_order+in_ok-sort_by, else-not-in_order}
use Rattle.pg_dyn.proofs.reading.sorting.by_number.Goals as goal

pub returns : goal.returns
returns c =
    let old = c.args.records.items in
    elim c.if-not-in_order.branch as (λ b. AreByNumber c.args.records.items c.if-not-in_order.sorted.items) [
      | then-not-in_order+in_ok-sort_by w ↦
          let new = w.sort_by.new.self.items in
          let rise = sorted_rise new (IsNonDecreasingBy-from_sort_by (λ (r : Record). r.number) new w.in_ok-sort_by.ensures.sorted (λ a r g k. search rules)) in
          let stable =
          w.sort_by.ensures.stable lower (IsStrictWeakOrder-by_number (λ (r : Record). r.number))
          (answers_always _ (λ a r. is_lt r ≡ lower a.0.now a.1.0.now) _ (λ f a r g k. search rules)) in
          subst (λ (v : Vec Record Global). AreByNumber old v.items) (sym w.sorted-is) (record { rise = rise; same = stable_same old new stable })
      | else-not-in_order w ↦
          subst (λ (v : Vec Record Global). AreByNumber old v.items) (sym w.sorted-is)
          (nothing_moved old (subst NumbersRise c.deref.ensures.value (w.if-not-in_order.ensures refl)))
    ]
