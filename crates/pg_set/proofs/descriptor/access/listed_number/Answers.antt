use Rattle.std.proofs.Common.{SFits, ap, rules, sym, ℤ, ◌∙◌}
use Rattle.std.proofs.lemmas.Int.{to_z-of_z}
use Rattle.std.specs.Int.{w32}
use Rattle.pg_dyn.specs.message.Message.{Int, Plain}
use Rattle.pg_dyn.specs.word.NumberLists.{numbers_in}
use Rattle.pg_set.proofs.lemmas.descriptor.MessageLaws.{item_there, said_there}
use Rattle.pg_set.proofs.descriptor.access.listed_number.Goals as goal

pub number_of_value-requires-clause-said : goal.number_of_value-requires-clause-said
number_of_value-requires-clause-said c = said_there (numbers_in c.args.numbers.now) c.args.at c.get-value.result c.get-value.ensures.item c.requires.said

pub returns : goal.returns
returns c =
    let n = c.number_of_value.result in
    let fits : SFits w32 n = search rules in
    item_there (numbers_in c.args.numbers.now) c.args.at c.get-value.result _ c.get-value.ensures.item (ap (λ (k : ℤ). Plain (Int k)) (to_z-of_z w32 n fits) ∙ sym c.number_of_value.ensures)
