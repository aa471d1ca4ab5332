use Rattle.std.proofs.Common.{◌<◌, vec_len}
use Rattle.pg_link.proofs.folder.read_to_end.Given as goal

abbrev pub invariant-loop : goal.invariant-loop
invariant-loop g l = vec_len l.bytes < 2147483647
