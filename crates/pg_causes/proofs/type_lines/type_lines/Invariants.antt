-- The roots before the index have their lines.
use Rattle.std.proofs.Common.{◌≡◌, map, take, Some, string_bytes}
use Rattle.pg_schema.specs.Parts.{name_at}
use Rattle.pg_pairs.specs.declared.choices.choice.Pair.{Pair}
use Rattle.pg_cert.specs.Certificate.{bound_in}
use Rattle.pg_causes.specs.declared.overview.TypeLine.{TypeLine}
use Rattle.pg_causes.proofs.type_lines.type_lines.Given as goal

abbrev pub invariant-loop-root : goal.invariant-loop-root
invariant-loop-root l =
    record {
      names : map (λ (line : TypeLine). Some (string_bytes line.name)) l.lines.items
          ≡ map (λ (p : Pair). name_at l.old.types.items p.old) (take l.root-index l.roots);
      bounds : map (λ (line : TypeLine). Some line.bound) l.lines.items ≡ map (bound_in l.bounds) (take l.root-index l.roots);
    }
