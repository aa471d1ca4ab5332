use Rattle.std.proofs.Common.{◌≡◌, take}
use Rattle.std.specs.String.{string_bytes}
use Rattle.pg_schema.proofs.lemmas.rules.PackageLemmas.{AreBeyond}
use Rattle.pg_schema.proofs.rules.packages.is_free.Given as goal

abbrev pub invariant-loop-byte : goal.invariant-loop-byte
invariant-loop-byte l = record {
  written : string_bytes l.front ≡ take l.byte-index l.path;
  beyond : AreBeyond l.byte-index l.set l.path;
}
