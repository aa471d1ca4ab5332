use Rattle.pg_set.proofs.lemmas.writing.NameLaws.{own_behind, own_of_plain}
use Rattle.pg_set.proofs.names.own_name.Goals as goal

pub returns-in-Some : goal.returns-in-Some
returns-in-Some c =
    let h = c.in-Some.ensures.cases in
    own_behind c.args.name.now c.in-Some.own.now h.0 h.1 h.2.0 h.2.1 h.4

pub returns-in-None : goal.returns-in-None
returns-in-None c = own_of_plain c.args.name.now c.in-None.ensures.cases
