-- The types before the index whose name the new schema declares are roots.
use Rattle.std.proofs.Common.{◌≡◌, ℕ, List, map, filter, take, Some}
use Rattle.std.specs.List.{AllByRecursion}
use Rattle.pg_causes.specs.Names.{is_declared, name_of}
use Rattle.pg_schema.specs.Parts.{name_at}
use Rattle.pg_least.specs.Loss.{AreRoots}
use Rattle.pg_pairs.specs.declared.choices.choice.Pair.{Pair}
use Rattle.pg_causes.proofs.names.roots_of.Given as goal

abbrev pub invariant-loop-index : goal.invariant-loop-index
invariant-loop-index l =
    record {
      in_order : map (λ (p : Pair). name_at l.old.types.items p.old) l.roots.items
          ≡ map Some (filter (is_declared l.new) (map name_of (take l.index l.types)));
      alike : AllByRecursion (λ p. (name : List ℕ) × AreRoots l.old l.new name p) l.roots.items;
    }
