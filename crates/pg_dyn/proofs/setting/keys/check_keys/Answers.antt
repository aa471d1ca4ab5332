-- Keys that rise are there once each; others are looked at in order.
use Rattle.std.proofs.Common.{List, inr, refl, sym, subst}
use Rattle.std.specs.List.Sorted.{IsPermutation}
use Rattle.pg_dyn.specs.declared.message.Value.{Value}
use Rattle.pg_dyn.specs.setting.ContentFaults.{HasEntryTwice, HasKeyTwice}
use Rattle.pg_dyn.specs.fitting.ContentFits.{KeysRise}
use Rattle.pg_dyn.specs.message.KeyOrder.{AreAlike, KeysAlike}
use Rattle.pg_dyn.proofs.lemmas.message.KeyLaws.{Behind, alike_moved, rising_once, shown, twice_back, twice_moved}
use Rattle.pg_dyn.proofs.setting.keys.check_keys.Goals as goal

pub returns-then-keys_rise-clause-ok : goal.returns-then-keys_rise-clause-ok
returns-then-keys_rise-clause-ok c =
    λ h. rising_once c.in-Map.entries.items (subst KeysRise c.deref.ensures.value (c.keys_rise.ensures.0 c.if-keys_rise.true)) (subst HasKeyTwice c.in-Map.is h)

pub has_equal_neighbours-requires-clause-alike : goal.has_equal_neighbours-requires-clause-alike
has_equal_neighbours-requires-clause-alike c =
    let es = c.in-Map.entries.items in
    let moved = subst (λ (xs : List (Value × Value)). IsPermutation xs (shown c.in-Ok.sorted.items)) c.deref-2.ensures.value c.in-Ok.ensures.moved in
    subst (λ (bs : List Behind). AreAlike (shown bs)) (sym c.deref-3.ensures.value) (alike_moved es (shown c.in-Ok.sorted.items) moved (subst KeysAlike c.in-Map.is c.requires))

pub returns-then-has_equal_neighbours-clause-err : goal.returns-then-has_equal_neighbours-clause-err
returns-then-has_equal_neighbours-clause-err c =
    let es = c.in-Map.entries.items in
    let moved = subst (λ (xs : List (Value × Value)). IsPermutation xs (shown c.in-Ok.sorted.items)) c.deref-2.ensures.value c.in-Ok.ensures.moved in
    let twice = subst (λ (bs : List Behind). HasEntryTwice (shown bs)) c.deref-3.ensures.value (c.if-has_equal_neighbours.ensures.twice refl) in
    inr (refl, subst HasKeyTwice (sym c.in-Map.is) (twice_moved es (shown c.in-Ok.sorted.items) moved twice))

pub returns-clause-ok : goal.returns-clause-ok
returns-clause-ok c =
    λ h.
    let es = c.in-Map.entries.items in
    let moved = subst (λ (xs : List (Value × Value)). IsPermutation xs (shown c.in-Ok.sorted.items)) c.deref-2.ensures.value c.in-Ok.ensures.moved in
    let back = twice_back es (shown c.in-Ok.sorted.items) moved (subst HasKeyTwice c.in-Map.is h) in
    c.if-has_equal_neighbours.ensures.once refl (subst (λ (bs : List Behind). HasEntryTwice (shown bs)) (sym c.deref-3.ensures.value) back)
