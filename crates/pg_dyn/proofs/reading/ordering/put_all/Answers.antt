-- The entries so far rise, and those that are left are keys of the same kind.
use Rattle.std.proofs.Common.{◌≡◌, ℕ, List, [], ◌∷◌, length, refl, sym, subst, arith}
use Rattle.pg_dyn.specs.declared.message_ref.EntryRef.{EntryRef}
use Rattle.pg_dyn.proofs.lemmas.reading.entries.NormalizedEntries.{NormalizesTo, all_put, next_alike, nothing_put, one_put}
use Rattle.pg_dyn.proofs.reading.ordering.put_all.Goals as goal

none_left : (n : ℕ) (xs : List EntryRef) → n ≡ length xs → n ≡ 0 → xs ≡ []
none_left n [] is none = refl
none_left n (x ∷ xs) is none = absurd (omega (arith, is, none))

pub loop-entry-init : goal.loop-entry-init
loop-entry-init c =
    subst (λ (before : List EntryRef). NormalizesTo c.args.entries.items before c.into_iter-entry-iterator.result.rest.items) (sym c.new-normalized.ensures.items)
    (nothing_put c.args.entries.items c.into_iter-entry-iterator.result.rest.items c.into_iter-entry-iterator.ensures.into_iter_gives.0 c.requires)

pub put_in-requires-clause-rises : goal.put_in-requires-clause-rises
put_in-requires-clause-rises c = c.loop-entry.invariant.rises

pub put_in-requires-clause-alike : goal.put_in-requires-clause-alike
put_in-requires-clause-alike c =
    let l = c.loop-entry in
    next_alike c.args.entries.items l.normalized.items l.entry-iterator.rest.items c.next.new.self.rest.items c.in-Some.entry c.in-Some.ensures.steps.0 l.invariant

pub loop-entry-preserved : goal.loop-entry-preserved
loop-entry-preserved c =
    let l = c.loop-entry in
    subst (λ (before : List EntryRef). NormalizesTo c.args.entries.items before c.next.new.self.rest.items) (sym c.in_ok-put_in.ensures)
    (one_put c.args.entries.items l.normalized.items l.entry-iterator.rest.items c.next.new.self.rest.items c.in-Some.entry c.in-Some.ensures.steps.0 l.invariant)

pub returns : goal.returns
returns c =
    let l = c.loop-entry in
    all_put c.args.entries.items l.normalized.items l.entry-iterator.rest.items (none_left l.entry-iterator.rest.len l.entry-iterator.rest.items l.entry-iterator.rest.ok.0 c.in-None.ensures.steps.0) l.invariant
