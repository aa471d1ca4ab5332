use Rattle.std.proofs.Common.{◌++◌, map, append-nil, ap, sym, ◌∙◌}
use Rattle.pg_pairs.specs.choices.Told.{told_of}
use Rattle.pg_pairs.proofs.lemmas.choices.ToldSteps.{none_told}
use Rattle.pg_pairs.proofs.choices.told.tell_oneof.Goals as goal

pub returns-in_default : goal.returns-in_default
returns-in_default c gs fs f oneof_is number_is are =
    sym (append-nil (map told_of c.args.told.now.items)) ∙ ap (λ ts. map told_of c.args.told.now.items ++ ts) (sym (none_told gs fs f (sym oneof_is ∙ c.in_default.is)))
