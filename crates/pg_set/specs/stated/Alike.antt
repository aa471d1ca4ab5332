-- Parts of a schema that are shown alike.
use Rattle.std.specs.Prelude.{◌≡◌}
use Rattle.pg_schema.specs.declared.parts.Parts.{Parts}
use Rattle.pg_schema.specs.rules.Sound.{IsSound}
use Rattle.pg_set.specs.stated.Views.{parts_view}

-- they keep to the rules alike
abbrev pub AlikeAreSound : Type 0
AlikeAreSound = (a b : Parts) → parts_view a ≡ parts_view b → IsSound a → IsSound b
