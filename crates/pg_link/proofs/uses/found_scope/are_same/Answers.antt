use Rattle.std.proofs.Common.{◌∙◌, sym}
use Rattle.pg_link.proofs.lemmas.uses.FoundScopeLaws.{same_words}
use Rattle.pg_link.proofs.uses.found_scope.are_same.Goals as goal

pub returns : goal.returns
returns c = λ same. same_words c.args.some.now c.args.others.now (sym c.eq.ensures ∙ same)
