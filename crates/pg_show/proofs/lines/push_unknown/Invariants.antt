-- The records before the index have their lines.
use Rattle.std.proofs.Common.{◌≡◌, ◌++◌, flat_map, string_bytes, take}
use Rattle.pg_show.specs.Contents.{record_line}
use Rattle.pg_show.proofs.lines.push_unknown.Given as goal

abbrev pub invariant-loop-found : goal.invariant-loop-found
invariant-loop-found l = string_bytes l.text ≡ string_bytes l.fn.text ++ flat_map (record_line l.indent) (take l.found-index l.unknown)
