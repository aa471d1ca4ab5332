-- How the view of a graph compares enums between the graph's two schemas.
use Rattle.pg_pairs.specs.declared.graph.priced.Priced.{Priced}
use Rattle.pg_pairs.specs.views.EnumView.{EnumView}
use Rattle.pg_pairs.specs.views.NamedView.{seen_under}

abbrev pub seen : Priced → EnumView
seen graph = seen_under graph.view graph.old.now graph.new.now
