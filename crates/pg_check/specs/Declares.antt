-- What files declare: they keep to the rules, and the parts have exactly what they state.
use Rattle.std.specs.Prelude.{List}
use Rattle.pg_schema.specs.declared.parts.Parts.{Parts}
use Rattle.pg_check.specs.parts.MadeParts.{ArePartsOf, Source}
use Rattle.pg_check.specs.rules.KeepsRules.{KeepsRules}

pub record Declares (files : List Source) (parts : Parts) : Type 0 where
  pub keeps_rules : KeepsRules files
  pub has_parts : ArePartsOf files parts
