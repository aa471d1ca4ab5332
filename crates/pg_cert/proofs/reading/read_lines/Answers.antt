use Rattle.std.proofs.Common.{ap, sym, subst}
use Rattle.std.specs.List.{AllByRecursion}
use Rattle.pg_cert.specs.declared.bounds.PairBound.{PairBound}
use Rattle.pg_cert.specs.Text.{IsPairOf}
use Rattle.pg_cert.proofs.Cuts.{some_is, none_lost}
use Rattle.pg_cert.proofs.LinesRead.{next_line, all_read, line_read, each_more}
use Rattle.pg_cert.proofs.reading.read_lines.Goals as goal

pub returns-in_default-read_line-clause-found : goal.returns-in_default-read_line-clause-found
returns-in_default-read_line-clause-found c =
    λ bounds later rest.
    let is = next_line c.args.old.now c.args.new.now c.args.text.now bounds later rest c.loop-words.bounds.items c.loop-words.left.now c.in-Some.words.now (c.loop-words.invariant.1 bounds later rest) c.in-Some.ensures.only in
    none_lost _ c.read_line.result _ (c.read_line.ensures.found is.line _ is.there is.bound is.words_are) c.in_default-read_line.is

pub loop-words-preserved : goal.loop-words-preserved
loop-words-preserved c = (
  subst (AllByRecursion (λ (b : PairBound). IsPairOf c.args.old.now c.args.new.now b.pair)) (sym c.in_ok-push.ensures.items)
      (each_more (λ (b : PairBound). IsPairOf c.args.old.now c.args.new.now b.pair) c.loop-words.bounds.items c.in-Some-read_line.line c.loop-words.invariant.0 c.in-Some-read_line.ensures.there),
  λ bounds later rest.
      let is = next_line c.args.old.now c.args.new.now c.args.text.now bounds later rest c.loop-words.bounds.items c.loop-words.left.now c.in-Some.words.now (c.loop-words.invariant.1 bounds later rest) c.in-Some.ensures.only in
      let parts = some_is _ c.read_line.result _ _ (c.read_line.ensures.found is.line _ is.there is.bound is.words_are) c.in-Some-read_line.is in
      line_read c.args.old.now c.args.new.now c.args.text.now bounds later rest c.loop-words.bounds.items c.in-Some.words.now is c.in-Some-read_line.line c.in-Some-read_line.later.now c.push.new.self.items (ap (λ p. p.0) parts) (ap (λ p. p.1) parts) c.in_ok-push.ensures.items,
)

pub returns-clause-found : goal.returns-clause-found
returns-clause-found c =
    λ bounds later rest.
    all_read c.args.old.now c.args.new.now c.args.text.now bounds later rest c.loop-words.bounds.items c.loop-words.left.now (c.loop-words.invariant.1 bounds later rest)
    (λ words begins. none_lost _ c.after.result _ (c.after.ensures.found words begins) c.in_default.is)
