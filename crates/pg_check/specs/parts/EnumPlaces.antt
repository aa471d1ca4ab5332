-- Where enums are in a schema, which has them scope by scope, by where they are in order of declaration.
use Rattle.std.specs.List.{position_from}
use Rattle.std.specs.Option.{unwrap_or}
use Rattle.std.specs.Prelude.{ℕ, List, map, flat_map, get_or}
use Rattle.std.specs.Str.{bytes_eq}
use Rattle.pg_link.specs.walk.Walk.{Entry}
use Rattle.pg_link.specs.declared.uses.target.Target.{Target}
use Rattle.pg_link.specs.declared.uses.target.Target.TheVariants as targets
use Rattle.pg_link.specs.names.Names.{without_dot}
use Rattle.pg_link.specs.uses.Targets.{all_declared, enum_names}
use Rattle.pg_check.specs.rules.Outline.{Enum, scoped_enums}

abbrev pub enum_full : Enum → List ℕ
enum_full e = e.full

-- the full names of all enums in order of declaration, as they are numbered
abbrev pub declared_names : List Entry → List (List ℕ)
declared_names files = map without_dot (enum_names (all_declared files))

-- and scope by scope
abbrev pub scoped_names : List Entry → List (List ℕ)
scoped_names files = flat_map (λ (e : Entry). map enum_full (scoped_enums e.1.tree)) files

-- the index of a name among these; linked files have each of their enums once
abbrev pub place_among : List (List ℕ) → List ℕ → ℕ
place_among names name = unwrap_or (position_from (bytes_eq name) 0 names) 0

-- for each enum in order of declaration its index scope by scope
abbrev pub enum_places : List Entry → List ℕ
enum_places files = map (place_among (scoped_names files)) (declared_names files)

-- what is named, an enum by its index scope by scope
abbrev pub by_scope : (places : List ℕ) → Target → Target
by_scope places (targets.Message n) = targets.Message n
by_scope places (targets.Enum n) = targets.Enum (get_or places n 0)
