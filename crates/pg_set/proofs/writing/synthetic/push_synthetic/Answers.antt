use Rattle.std.proofs.Common.{◌≡◌, ◌∷◌, true, length, ap, subst, ◌∙◌}
use Rattle.std.proofs.lemmas.Map.Text.{btree_set_updates_text}
use Rattle.std.specs.String.{string_bytes}
use Rattle.pg_set.specs.inner.writing.MadeNames.{HasMade}
use Rattle.pg_set.specs.writing.Synthetic.{freed, synthetic_name, with_underscore}
use Rattle.pg_set.proofs.lemmas.writing.SyntheticLaws.{set_with}
use Rattle.pg_set.proofs.writing.synthetic.push_synthetic.Goals as goal

pub returns-clause-taken : goal.returns-clause-taken
returns-clause-taken c = λ names held same.
    let key = string_bytes c.in_ok-clone.field-0 in
    let is : key ≡ synthetic_name names (string_bytes c.args.field.now.name) =
    c.in_ok-clone.ensures.cases ∙ (c.in_ok-name.ensures names held ∙ (ap (λ n. freed n names (string_bytes c.in_ok-begun.begun)) same ∙ ap (freed (length names) names) (c.in_ok-begun.ensures.made ∙ ap with_underscore c.deref.ensures))) in
    subst (λ k. HasMade (k ∷ names) c.insert.new.self) is (set_with names key c.args.taken.now c.insert.new.self (btree_set_updates_text key c.args.taken.now c.insert.new.self true c.in_ok-insert.ensures.updates) held)
