use Rattle.pg_dyn.proofs.lemmas.setting.ContentChecks.{taken_once}
use Rattle.pg_dyn.proofs.laws.fields.contents_have_no_fault.Goals as goal

pub returns : goal.returns
returns c = λ shape type number content is. taken_once shape type number content is.field is.found is.items is.once
