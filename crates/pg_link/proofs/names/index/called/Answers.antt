use Rattle.std.proofs.Common.{◌∙◌, ℕ, List, [], ◌∷◌, ◌++◌, ap, sym, slice_index_or}
use Rattle.std.specs.Borrow.{Bor}
use Rattle.pg_link.specs.names.Names.{called}
use Rattle.pg_link.proofs.lemmas.names.ResolvesLaws.{called-more}
use Rattle.pg_link.proofs.names.index.called.Goals as goal

pub loop-word-preserved : goal.loop-word-preserved
loop-word-preserved c =
    let none : Bor (List ℕ) = record { ref_ptr = (0, 0); now = [] } in
    let word : Bor (List ℕ) = slice_index_or c.args.words.now c.loop-word.word-index none in
    let more = called-more (λ (w : Bor (List ℕ)). w.now) c.args.words.now c.loop-word.word-index none c.loop-word-test.true in
    c.in_ok-push_word.ensures ∙ (ap (λ (t : List ℕ). t ++ called (word.now ∷ [])) c.loop-word.invariant ∙ sym more)
