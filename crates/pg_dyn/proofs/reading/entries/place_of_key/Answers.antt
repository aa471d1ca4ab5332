-- The keys rise, so those below the given one are in front.
use Rattle.std.proofs.Common.{Bool, true, false, ℕ, ◌≡◌, ◌+◌, ◌-◌, ◌/◌, ◌<◌, suc, take, drop, length, sym, subst, arith, add-one}
use Rattle.std.specs.List.{AllByRecursion}
use Rattle.pg_dyn.specs.message_ref.Borrowed.{leaf_of}
use Rattle.pg_dyn.specs.message_ref.BorrowedItems.{key_of}
use Rattle.pg_dyn.specs.message.KeyOrder.{IsOfKind}
use Rattle.pg_dyn.specs.declared.message_ref.EntryRef.{EntryRef}
use Rattle.pg_dyn.proofs.lemmas.fitting.FitsSteps.{fact_at}
use Rattle.pg_dyn.proofs.lemmas.reading.entries.LastOfKeys.{same_kind}
use Rattle.pg_dyn.proofs.lemmas.reading.entries.EntryPlaces.{Below, NotBelow, below_upto, not_below_from}
use Rattle.pg_dyn.proofs.reading.entries.place_of_key.Goals as goal

not_true : (b : Bool) → b ≡ true → b ≡ false → ⊥
not_true b h k = cc

pub is_below-requires : goal.is_below-requires
is_below-requires c =
    let a = c.requires.alike in
    let inside : length c.args.entries.now - 1 < length c.args.entries.now = omega arith in
    same_kind a.0 _ _ (fact_at (λ (e : EntryRef). IsOfKind a.0 (key_of e)) c.args.entries.now (length c.args.entries.now - 1) c.index-entries-high.result inside a.2) a.1

pub returns-then-is_below-clause-below : goal.returns-then-is_below-clause-below
returns-then-is_below-clause-below c =
    let es = c.args.entries.now in
    let x = c.index-entries-high.result in
    let inside : length es - 1 < length es = omega arith in
    let size : suc (length es - 1) ≡ length es = omega arith in
    subst (λ (k : ℕ). AllByRecursion (Below key_of (leaf_of c.args.key.now)) (take k es)) size
    (below_upto key_of es (leaf_of c.args.key.now) (length es - 1) x c.requires.rises inside (c.is_below.ensures.0 c.if-is_below.true))

pub loop-low-preserved-then-is_below-2 : goal.loop-low-preserved-then-is_below-2
loop-low-preserved-then-is_below-2 c =
    let es = c.args.entries.now in
    let l = c.loop-low in
    let middle = l.low + (l.high - l.low) / 2 in
    let below_high : middle < l.high = omega arith in
    let inside : middle < length es = omega (arith, l.invariant.inside) in
    record {
      ordered = omega arith;
      inside = l.invariant.inside;
      below = subst (λ (k : ℕ). AllByRecursion (Below key_of (leaf_of c.args.key.now)) (take k es)) (sym (add-one middle))
          (below_upto key_of es (leaf_of c.args.key.now) middle c.index-entries-middle.result c.requires.rises inside (c.is_below-in-loop-low.ensures.0 c.if-is_below-2.true));
      from_there = l.invariant.from_there;
    }

pub loop-low-preserved : goal.loop-low-preserved
loop-low-preserved c =
    let es = c.args.entries.now in
    let l = c.loop-low in
    let middle = l.low + (l.high - l.low) / 2 in
    let below_high : middle < l.high = omega arith in
    let inside : middle < length es = omega (arith, l.invariant.inside) in
    record {
      ordered = omega arith;
      inside = omega (arith, l.invariant.inside);
      below = l.invariant.below;
      from_there = not_below_from key_of es (leaf_of c.args.key.now) middle c.index-entries-middle.result c.requires.rises inside
          (λ k. not_true c.is_below-in-loop-low.result (c.is_below-in-loop-low.ensures.1 k) c.if-is_below-2.false);
    }

pub returns-clause-from_there : goal.returns-clause-from_there
returns-clause-from_there c =
    let l = c.loop-low in
    let same : l.high ≡ l.low = omega (arith, l.invariant.ordered) in
    subst (λ (k : ℕ). AllByRecursion (NotBelow key_of (leaf_of c.args.key.now)) (drop k c.args.entries.now)) same l.invariant.from_there
