use Rattle.std.proofs.Common.{[], ◌∷◌, ◌++◌, ap, sym, ◌∙◌}
use Rattle.pg_pairs.specs.inner.Coming.{choice_kept, numbers_kept}
use Rattle.pg_pairs.specs.laws.CheapestLaws.{first_of}
use Rattle.pg_pairs.proofs.lemmas.choices.Comings.{none_gathered, one_gathered}
use Rattle.pg_pairs.proofs.choices.coming.gather.Goals as goal

pub returns-in_default : goal.returns-in_default
returns-in_default c gs fs f oneof_is number_is choice_is are = none_gathered gs f fs c.args.gathered.now are (sym oneof_is ∙ c.in_default.is)

pub returns : goal.returns
returns c gs fs f oneof_is number_is choice_is are =
    let value = c.remove-later.ensures.value in
    one_gathered gs f fs c.args.gathered.now are c.in-Some.oneof c.args.number c.args.choice c.in_ok-coming.coming c.remove-later.new.self c.insert.new.self (sym oneof_is ∙ c.in-Some.is) number_is choice_is c.remove-later.ensures.updates
    c.in_ok-insert.ensures.updates c.in_ok-coming.ensures.first (c.in_ok-coming.ensures.numbers ∙ ap (λ k. numbers_kept k ++ c.args.number ∷ []) value) (c.in_ok-coming.ensures.choice ∙ ap (λ k. first_of c.args.choice (choice_kept k)) value)
