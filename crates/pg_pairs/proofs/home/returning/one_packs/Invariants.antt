use Rattle.std.proofs.Common.{◌≡◌, drop}
use Rattle.std.specs.List.{list_any}
use Rattle.pg_schema.specs.Parts.{shape_of}
use Rattle.pg_pairs.specs.home.Returns.{packs}
use Rattle.pg_pairs.proofs.home.returning.one_packs.Given as goal

abbrev pub invariant-loop-pair : goal.invariant-loop-pair
invariant-loop-pair l = list_any (packs (shape_of l.old) (shape_of l.new)) (drop l.pair-index l.pairs)
    ≡ list_any (packs (shape_of l.old) (shape_of l.new)) l.pairs
