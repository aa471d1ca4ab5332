use Rattle.std.proofs.Common.{None, sym, ◌∙◌}
use Rattle.indexmap.proofs.CallerLemmas.{insert_entry-new}
use Rattle.pg_cert.specs.declared.bounds.PairBound.{PairBound}
use Rattle.pg_cert.proofs.Tables.{out_of_range, stands_twice, entries-more, same_keys}
use Rattle.pg_cert.proofs.bounds.entries_of.Goals as goal

unset : PairBound
unset = record { pair = record { old = record { index = 0 }; new = record { index = 0 } }; bound = None }

pub returns-then-not-is_bound-clause-broken : goal.returns-then-not-is_bound-clause-broken
returns-then-not-is_bound-clause-broken c =
    λ _. out_of_range c.args.bounds.now c.loop-line.line-index _ c.loop-line-test.true (sym c.is_bound.ensures ∙ c.if-not-is_bound.true)

pub returns-in-Ok-Some-clause-broken : goal.returns-in-Ok-Some-clause-broken
unfolding unset
returns-in-Ok-Some-clause-broken c =
    λ _. stands_twice c.args.bounds.now c.loop-line.line-index unset c.loop-line-test.true c.loop-line.entries.entries c.loop-line.invariant.0 c.in-Ok-Some.field-0-0
    (sym c.in-Ok-Some.ensures.old ∙ c.in-Ok-Some.field-0-is)

pub loop-line-preserved : goal.loop-line-preserved
unfolding unset
loop-line-preserved c =
    let absent = sym c.in-Ok-None.ensures.old ∙ c.in-Ok-None.field-0-is in
    entries-more c.args.bounds.now c.loop-line.line-index unset c.loop-line-test.true c.loop-line.entries.entries c.loop-line.invariant.0 c.insert.new.self.entries c.loop-line.invariant.1 (sym c.is_bound.ensures ∙ c.if-not-is_bound.false) absent
    (c.in-Ok-None.ensures.entries ∙ insert_entry-new same_keys c.loop-line.entries _ _ absent)
