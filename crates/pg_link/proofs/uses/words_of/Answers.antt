use Rattle.std.proofs.Common.{◌∙◌, ◌∷◌, ℕ, List, sym, ap, arith, string_bytes}
use Rattle.std.proofs.lemmas.List.{take_all}
use Rattle.pg_syntax.specs.declared.tree as tree
use Rattle.pg_link.specs.names.Resolves.{part_words}
use Rattle.pg_link.proofs.lemmas.uses.UseLaws.{texts_of_words}
use Rattle.pg_link.proofs.uses.words_of.Goals as goal

pub returns : goal.returns
returns c =
    let first : List ℕ = string_bytes c.args.dotted.now.first.text in
    let names : List tree.Name.Name = c.deref-word-items.result.now in
    c.loop-word.invariant ∙ ap (λ (l : List (List ℕ)). first ∷ l)
    (ap part_words (take_all c.loop-word.word-index names (omega (arith, c.loop-word-test.false)) ∙ c.deref-word-items.ensures.value)
    ∙ sym (texts_of_words c.args.dotted.now.more.items))
