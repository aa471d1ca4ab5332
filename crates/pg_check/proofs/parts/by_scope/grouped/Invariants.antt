use Rattle.std.proofs.Common.{◌≡◌, ℕ, List, [], map, take}
use Rattle.std.specs.BTreeMap.{get_by_text}
use Rattle.std.specs.List.{filter}
use Rattle.std.specs.Option.{option_map_or}
use Rattle.std.specs.Str.{bytes_eq}
use Rattle.std.specs.String.{string_bytes}
use Rattle.pg_check.proofs.parts.by_scope.grouped.Given as goal

abbrev pub invariant-loop-scope : goal.invariant-loop-scope
invariant-loop-scope l = (q : List ℕ) → option_map_or (λ g. g.items) (get_by_text l.by_scope q) [] ≡ map (λ p. p.1) (filter (λ p. bytes_eq q (string_bytes p.0)) (take l.scope-index l.list))
