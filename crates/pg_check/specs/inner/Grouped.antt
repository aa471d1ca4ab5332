-- What is kept for scopes while parts are made, as indexes.
use Rattle.std.specs.BTreeMap.{BTreeMap, get_by_text}
use Rattle.std.specs.Option.{option_map_or}
use Rattle.std.specs.Prelude.{ℕ, List, [], map, string_bytes, String, Vec, Option}
use Rattle.std.specs.declared.alloc.Global.{Global}
use Rattle.pg_schema.specs.declared.parts.service.ServiceId.{ServiceId}
use Rattle.pg_link.specs.declared.uses.target.Target.{Target}
use Rattle.pg_check.specs.parts.ByScope.{Placed, type_id, enum_id}
use Rattle.pg_check.specs.parts.MadeParts.{FileShape, TypeTree, Source}
use Rattle.pg_check.specs.rules.Outline.{Message, package_of}

abbrev pub placed : (String Global × ℕ) → Placed
placed p = record { scope = string_bytes p.0; index = p.1 }

-- the indexes that are kept for the scope
abbrev pub in_scope : BTreeMap (String Global) (Vec ℕ Global) → List ℕ → List ℕ
in_scope by_scope scope = option_map_or (λ (g : Vec ℕ Global). g.items) (get_by_text by_scope scope) []

-- what is kept for scopes, as indexes
abbrev pub grouped_tree : (ℕ → Option Target) → (types enums : List ℕ → List ℕ) → Message → TypeTree
grouped_tree targets types enums m = record {
  targets = targets;
  full = m.full;
  body = m.body;
  nested = map type_id (types m.full);
  enums = map enum_id (enums m.full);
}

abbrev pub grouped_shape : (types enums : List ℕ → List ℕ) → List ServiceId → Source → FileShape
grouped_shape types enums services s = record {
  path = s.path;
  tree = s.tree;
  types = map type_id (types (package_of s.tree));
  enums = map enum_id (enums (package_of s.tree));
  services = services;
}
