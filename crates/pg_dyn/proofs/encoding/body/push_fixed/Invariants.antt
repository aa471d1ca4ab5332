-- The bytes before the index are added, and there is room for the others.
use Rattle.std.proofs.Common.{◌≡◌, ◌≤◌, ◌+◌, ◌++◌, length, take, vec_len}
use Rattle.std.specs.Vec.{vec_capacity}
use Rattle.pg_dyn.proofs.encoding.body.push_fixed.Given as goal

abbrev pub invariant-loop-byte : goal.invariant-loop-byte
invariant-loop-byte l = record {
  added : l.out.items ≡ l.fn.out.items ++ take l.byte-index l.bytes;
  room : vec_len l.out + length l.bytes ≤ vec_capacity l.out + l.byte-index;
}
