use Rattle.std.proofs.Common.{sym, ◌∙◌}
use Rattle.pg_cert.proofs.Cuts.{cut-found, cut-lost}
use Rattle.pg_cert.proofs.reading.cut.Goals as goal

pub returns-in-Some-clause-found : goal.returns-in-Some-clause-found
returns-in-Some-clause-found c = λ word rest h is. cut-found c.args.byte c.args.text.now word rest c.in-Some.at (sym c.place_of.ensures.place ∙ c.in-Some.is) h is

pub returns-in-None-clause-found : goal.returns-in-None-clause-found
returns-in-None-clause-found c = λ word rest h is. cut-lost c.args.byte c.args.text.now word rest (sym c.place_of.ensures.place ∙ c.in-None.is) h is
