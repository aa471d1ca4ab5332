-- Files that are linked and files of the code, as sources, and what is made of one.
use Rattle.std.specs.Prelude.{List, map, option_map}
use Rattle.pg_link.specs.uses.Targets.{target_at}
use Rattle.pg_link.specs.walk.Walk.{Entry, path_of}
use Rattle.pg_check.specs.parts.EnumPlaces.{by_scope, enum_places}
use Rattle.pg_check.specs.parts.MadeParts.{Source}

-- a file among those that are linked
abbrev pub linked_source : List Entry → Entry → Source
linked_source files e = record {
  path = path_of e;
  text = e.1.bytes.items;
  tree = e.1.tree;
  targets = λ at. option_map (by_scope (enum_places files)) (target_at files e at);
}

abbrev pub linked_sources : List Entry → List Source
linked_sources files = map (linked_source files) files
