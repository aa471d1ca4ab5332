-- Causes: the ways in which a pair breaks by itself, without a child.
use Rattle.std.specs.Prelude.{◌≡◌, List, []}
use Rattle.pg_schema.specs.Shape.{Shape}
use Rattle.pg_pairs.specs.declared.choices.choice.Choice.{Choice}
use Rattle.pg_pairs.specs.declared.choices.choice.Pair.{Pair}
use Rattle.pg_pairs.specs.views.EnumView.{EnumView}
use Rattle.pg_pairs.specs.choices.Choices.{choices, no_bounds}
use Rattle.pg_pairs.specs.bounds.Covering.{children}
use Rattle.pg_pairs.specs.graph.Reached.{LeadsTo}

-- the pair's choices under the table in which no pair is
abbrev pub causes : EnumView → Shape → Shape → Pair → List Choice
causes enum_view old new pair = choices enum_view no_bounds old new pair

-- neither the pair nor one that it leads to has a cause
abbrev pub HasNoCause : EnumView → Shape → Shape → Pair → Type 0
HasNoCause enum_view old new root =
    (pair : Pair) → LeadsTo (children old new) root pair → causes enum_view old new pair ≡ []
