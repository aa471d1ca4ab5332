-- Entries out of order are sorted, and no two of them have one key.
use Rattle.std.proofs.Common.{◌≡◌, List, sym, subst, rules}
use Rattle.std.specs.List.{AllByRecursion}
use Rattle.std.specs.Ordering.{is_lt}
use Rattle.std.proofs.lemmas.List.Sorted.{answers_always}
use Rattle.pg_dyn.specs.declared.message.Value.{Value}
use Rattle.pg_dyn.specs.message.KeyOrder.{ranks_below}
use Rattle.pg_dyn.specs.message.Seen.{IsKey}
use Rattle.pg_dyn.proofs.lemmas.message.KeyLaws.{alike_keys, alike_moved, equal_twice, ranks_entries, sorted_rise, twice_moved}
use Rattle.pg_dyn.proofs.setting.keys.sorted.Goals as goal

pub keys_rise-requires : goal.keys_rise-requires
keys_rise-requires c =
    subst (λ (es : List (Value × Value)). AllByRecursion (λ (e : Value × Value). IsKey e.0) es) (sym c.deref.ensures.value) (alike_keys c.args.entries.items c.requires.alike)

pub returns-then-not-keys_rise-clause-rise : goal.returns-then-not-keys_rise-clause-rise
returns-then-not-keys_rise-clause-rise c =
    let es = c.args.entries.items in
    let fs = c.sort_unstable_by.new.self.items in
    let moved = c.sort_unstable_by.ensures.permutation in
    let alike = alike_moved es fs moved c.requires.alike in
    let sorted = c.sort_unstable_by.ensures.sorted ranks_below ranks_entries (answers_always _ (λ a r. is_lt r ≡ ranks_below a.0.now a.1.0.now) _ (λ f a r g k. search rules)) in
    sorted_rise fs alike sorted (λ k d e inside equal. c.requires.once (twice_moved es fs moved (equal_twice fs k d e inside alike equal)))
