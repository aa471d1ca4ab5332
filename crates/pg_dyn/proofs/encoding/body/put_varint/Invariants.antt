-- Some of the varint's bytes are added, and what is left of the value completes them.
use Rattle.std.proofs.Common.{◌≡◌, ◌+◌, ◌++◌, ℕ, List, length, vec_len}
use Rattle.std.specs.Vec.{vec_capacity}
use Rattle.pg_wire.proofs.Spelling.{IsPartOf}
use Rattle.pg_dyn.proofs.encoding.body.put_varint.Given as goal

abbrev pub invariant-loop-rest : goal.invariant-loop-rest
invariant-loop-rest l = record {
  written : List ℕ;
  part : IsPartOf l.value written l.rest;
  added : l.out.items ≡ l.fn.out.items ++ written;
  len : vec_len l.out ≡ vec_len l.fn.out + length written;
  capacity : vec_capacity l.out ≡ vec_capacity l.fn.out;
}

abbrev pub decreases-loop-rest : goal.decreases-loop-rest
decreases-loop-rest l = l.rest
