use Rattle.std.proofs.Common.{◌≡◌, ◌<◌, ◌+◌, ℕ, List, Bool, false, true, get_or, subst, sym, arith, rules}
use Rattle.std.proofs.lemmas.List.Elements.{All-push}
use Rattle.std.specs.List.{All}
use Rattle.pg_link.specs.inner.VisibleFiles.{is_numbered}
use Rattle.pg_link.proofs.lemmas.names.FileMarks.{below_more, no_more_number, one_more_number}
use Rattle.pg_link.proofs.names.visible_files.numbers_of.Goals as goal

pub loop-number-preserved-then-not-mark : goal.loop-number-preserved-then-not-mark
loop-number-preserved-then-not-mark c =
    let inv = c.loop-number.invariant in
    let unmarked : get_or c.args.marks.now c.loop-number.number false ≡ false = search rules in record {
      within = below_more c.loop-number.numbers.items c.loop-number.number inv.within;
      each = no_more_number c.args.marks.now c.loop-number.numbers.items c.loop-number.number unmarked inv.within inv.each;
    }

pub loop-number-preserved : goal.loop-number-preserved
loop-number-preserved c =
    let i : ℕ = c.loop-number.number in
    let numbers : List ℕ = c.loop-number.numbers.items in
    let marks : List Bool = c.args.marks.now in
    let inv = c.loop-number.invariant in
    let marked : get_or marks i false ≡ true = search rules in
    let here : i < i + 1 = omega arith in
    record {
      within = subst (λ (l : List ℕ). All (λ n. n < i + 1) l) (sym c.in_ok-push.ensures.items) (All-push (λ (n : ℕ). n < i + 1) numbers i (below_more numbers i inv.within) here);
      each = subst (λ (l : List ℕ). (k : ℕ) → k < i + 1 → is_numbered l k ≡ get_or marks k false) (sym c.in_ok-push.ensures.items)
          (one_more_number marks numbers i marked inv.each);
    }
