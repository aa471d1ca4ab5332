-- Entries that rise stay as they are, and sorted ones normalize alike.
use Rattle.std.proofs.Common.{◌≡◌, [], sym, subst, ◌∙◌, rules}
use Rattle.std.specs.Ordering.{is_lt}
use Rattle.std.proofs.lemmas.Result.{IfOk-weaker}
use Rattle.std.proofs.lemmas.List.Sorted.{answers_always}
use Rattle.pg_dyn.specs.message_ref.BorrowedItems.{AreAlike, KeysRise, key_of, ranks_below}
use Rattle.pg_dyn.specs.reading.Normalized.{placed}
use Rattle.pg_dyn.proofs.lemmas.message_ref.BorrowedItems.{ranks_entries}
use Rattle.pg_dyn.proofs.lemmas.reading.entries.NormalizedEntries.{alike_moved, rising_stay, normalized_stable}
use Rattle.pg_dyn.proofs.reading.ordering.last_of_keys.Goals as goal

pub keys_rise-requires : goal.keys_rise-requires
keys_rise-requires c = subst AreAlike (sym c.deref.ensures.value) c.requires

pub returns-then-keys_rise : goal.returns-then-keys_rise
returns-then-keys_rise c =
    sym (rising_stay c.args.entries.items c.requires (subst KeysRise c.deref.ensures.value (c.keys_rise.ensures c.if-keys_rise.true)))

pub put_all-requires : goal.put_all-requires
put_all-requires c = alike_moved c.args.entries.items c.sort_by.new.self.items c.sort_by.ensures.permutation c.requires

pub returns : goal.returns
returns c =
    let es = c.args.entries.items in
    let fs = c.sort_by.new.self.items in
    let stable = c.sort_by.ensures.stable ranks_below ranks_entries (answers_always _ (λ a r. is_lt r ≡ ranks_below a.0.now a.1.0.now) _ (λ f a r g k. search rules)) in
    let same = normalized_stable es fs c.requires c.sort_by.ensures.permutation stable in
    IfOk-weaker c.put_all.result (λ v. v.items ≡ placed key_of [] fs) (λ v. v.items ≡ placed key_of [] es) (λ v is. is ∙ same) c.put_all.ensures
