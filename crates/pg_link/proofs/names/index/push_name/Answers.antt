use Rattle.std.proofs.Common.{◌∙◌, List, ℕ, [], ◌∷◌, ◌++◌, ap, sym, take, string_bytes, append_assoc}
use Rattle.pg_syntax.specs.declared.tree as tree
use Rattle.pg_link.specs.names.Names.{called}
use Rattle.pg_link.specs.names.Resolves.{part_words}
use Rattle.pg_link.proofs.lemmas.names.ResolvesLaws.{called-behind}
use Rattle.pg_link.proofs.names.index.push_name.Goals as goal

pub loop-part-preserved : goal.loop-part-preserved
loop-part-preserved c =
    let text = λ (part : tree.Name.Name). string_bytes part.text in
    let first : List ℕ = string_bytes c.args.name.now.path.first.text in
    let parts : List tree.Name.Name = c.deref-part-items.result.now in
    let before : List ℕ = string_bytes c.args.text.now in
    let front : List ℕ = called (first ∷ part_words (take c.loop-part.part-index parts)) in
    let word : List ℕ = called (c.as_str-in-loop-part.result.now ∷ []) in
    let more = called-behind first text parts c.loop-part.part-index c.part-item.result c.loop-part-test.true in
    let same = ap (λ (t : List ℕ). called (t ∷ [])) (c.as_str-in-loop-part.ensures.value ∙ ap text c.part-item.is) in
    c.in_ok-push_word-2.ensures ∙ (ap (λ (t : List ℕ). t ++ word) c.loop-part.invariant
    ∙ (append_assoc before front word ∙ ap (λ (t : List ℕ). before ++ t) (ap (λ (t : List ℕ). front ++ t) same ∙ sym more)))
