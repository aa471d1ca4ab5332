use Rattle.pg_check.specs.inner.Sources.{source}
use Rattle.pg_check.proofs.lemmas.parts.PartsLaws.{one_more_file}
use Rattle.pg_check.proofs.parts.made_parts.push_file.Goals as goal

pub returns : goal.returns
returns c = λ d before.
    one_more_file d (source c.args.file.now) c.args.parts.now c.push_made.new.parts c.in_ok-made.made before c.in_ok-made.ensures
    c.in_ok-push_made.ensures.types c.in_ok-push_made.ensures.enums c.in_ok-push_made.ensures.services c.in_ok-push_made.ensures.files
