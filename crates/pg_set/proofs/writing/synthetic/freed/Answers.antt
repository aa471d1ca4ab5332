use Rattle.std.proofs.Common.{◌≡◌, ◌+◌, ◌-◌, ◌∷◌, true, false, ap, sym, ◌∙◌}
use Rattle.std.specs.BTreeSet.{contains_text}
use Rattle.std.specs.String.{string_bytes}
use Rattle.pg_set.specs.writing.Synthetic.{freed, sign}
use Rattle.pg_set.proofs.lemmas.writing.SyntheticLaws.{free, not_free, sign_begins}
use Rattle.pg_set.proofs.writing.synthetic.freed.Goals as goal

pub returns-then-not-contains : goal.returns-then-not-contains
returns-then-not-contains c = λ names held.
    let none : contains_text c.args.taken.now (string_bytes c.loop.made) ≡ false = ap (contains_text c.args.taken.now) (sym c.as_str.ensures.value) ∙ (sym c.contains.ensures ∙ c.if-not-contains.true) in
    free c.args.tries c.loop.counter names (string_bytes c.loop.made) c.loop-test.true (sym (held (string_bytes c.loop.made) c.loop.invariant.begins) ∙ none) ∙ c.loop.invariant.same names held

pub loop-preserved : goal.loop-preserved
loop-preserved c =
    let made = c.in_ok-made.ensures ∙ ap (λ bs. sign ∷ bs) c.deref.ensures in
    let there : contains_text c.args.taken.now (string_bytes c.loop.made) ≡ true = ap (contains_text c.args.taken.now) (sym c.as_str.ensures.value) ∙ (sym c.contains.ensures ∙ c.if-not-contains.false) in
    record {
      begins = sign_begins _ _ made;
      same = λ names held.
          ap (freed (c.args.tries - (c.loop.counter + 1)) names) made
          ∙ not_free c.args.tries c.loop.counter names (string_bytes c.loop.made) c.loop-test.true (sym (held (string_bytes c.loop.made) c.loop.invariant.begins) ∙ there) ∙ c.loop.invariant.same names held;
    }
