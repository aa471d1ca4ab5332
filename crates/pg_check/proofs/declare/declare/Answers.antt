use Rattle.std.proofs.Common.{◌∙◌, map, sym}
use Rattle.pg_check.specs.inner.Sources.{source}
use Rattle.pg_check.proofs.lemmas.rules.KeepingFiles.{none_broken}
use Rattle.pg_check.proofs.declare.declare.Goals as goal

pub returns-clause-declared : goal.returns-clause-declared
returns-clause-declared c = record {
  keeps_rules = (none_broken (map source c.args.files.now)).0 (sym c.in_ok-found.ensures ∙ c.in_default.is);
  has_parts = c.in_ok-parts.ensures;
}
