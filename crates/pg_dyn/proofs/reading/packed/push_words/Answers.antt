-- Each word is read after those before it.
use Rattle.std.proofs.Common.{ℕ, List, ◌+◌, take, ap, sym, subst, ◌∙◌, arith}
use Rattle.pg_dyn.specs.word.Coding.{element_at, word_in}
use Rattle.pg_dyn.proofs.lemmas.reading.PackedRows.{IsOne, RowSoFar, row_begin, row_done, row_broken, row_fault, row_onward, to_end}
use Rattle.pg_dyn.proofs.reading.packed.push_words.Goals as goal

pub loop-start-init : goal.loop-start-init
loop-start-init c = row_begin c.args.wire_type c.args.body.now c.args.words.now.items

pub returns-in-Err-clause-err : goal.returns-in-Err-clause-err
returns-in-Err-clause-err c =
    let e = c.in-Err.ensures.err in
    row_fault c.args.wire_type c.args.body.now e.0
    (row_broken c.args.wire_type c.args.body.now c.args.words.now.items c.loop-start.start c.loop-start.words.items c.loop-start.invariant (c.loop-start-test.true) e.0
    (ap (element_at c.args.wire_type) (sym (to_end c.args.body.now c.loop-start.start)) ∙ e.1))

pub loop-start-preserved : goal.loop-start-preserved
loop-start-preserved c =
    let n = c.in-Ok.read.1 in
    let word = c.in-Ok.read.0 in
    subst (λ (ws : List ℕ). RowSoFar c.args.wire_type c.args.body.now (c.loop-start.start + n) c.args.words.now.items ws) (sym c.in_ok-push.ensures.items)
    (row_onward c.args.wire_type c.args.body.now c.args.words.now.items c.loop-start.start c.loop-start.words.items c.loop-start.invariant n word
    (subst (λ (xs : List ℕ). IsOne c.args.wire_type xs n) (to_end c.args.body.now c.loop-start.start) c.in-Ok.ensures.ok)
    (ap (λ (xs : List ℕ). word_in c.args.wire_type (take n xs)) (sym (to_end c.args.body.now c.loop-start.start)) ∙ c.in-Ok.ensures.word.0)
    (c.in-Ok.ensures.word.1, omega arith))

pub returns-clause-ok : goal.returns-clause-ok
returns-clause-ok c = row_done c.args.wire_type c.args.body.now c.args.words.now.items c.loop-start.start c.loop-start.words.items c.loop-start.invariant c.loop-start-test.false
