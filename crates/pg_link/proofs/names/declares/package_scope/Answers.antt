use Rattle.std.proofs.Common.{◌∙◌, List, ℕ, [], ◌∷◌, ◌++◌, map, take, sym, ap, string_bytes}
use Rattle.pg_syntax.specs.declared.tree as tree
use Rattle.pg_link.specs.names.Names.{called}
use Rattle.pg_link.specs.names.Declares.{package_scope}
use Rattle.pg_link.specs.names.Outline.{word}
use Rattle.pg_link.proofs.lemmas.names.DeclareLaws.{scope_more}
use Rattle.pg_link.proofs.names.declares.package_scope.Goals as goal

pub loop-word-preserved : goal.loop-word-preserved
loop-word-preserved c =
    let dotted : tree.Dotted.Dotted = c.args.dotted.now in
    let words : List tree.Name.Name = c.deref-word-items.result.now in
    let i : ℕ = c.loop-word.word-index in
    let item : tree.Name.Name = c.word-item.result in
    c.in_ok-push_word-2.ensures ∙ (ap (λ (t : List ℕ). t ++ called (c.as_str-in-loop-word.result.now ∷ [])) c.loop-word.invariant
    ∙ (ap (λ (t : List ℕ). package_scope (word dotted.first ∷ map word (take i words)) ++ called (t ∷ [])) (c.as_str-in-loop-word.ensures.value ∙ ap (λ (n : tree.Name.Name). string_bytes n.text) c.word-item.is)
    ∙ sym (scope_more dotted.first words i item c.loop-word-test.true)))
