-- The lines before the index are objects of theirs.
use Rattle.std.proofs.Common.{◌≡◌, string_bytes, take}
use Rattle.std.specs.List.{flat_map}
use Rattle.pg_lines.specs.Json.{json_of}
use Rattle.pg_lines.specs.Line.{lines_in}
use Rattle.pg_lines.proofs.printing.json_of.Given as goal

abbrev pub invariant-loop-line : goal.invariant-loop-line
invariant-loop-line l = string_bytes l.text ≡ flat_map json_of (lines_in (take l.line-index l.lines))
