-- The lines before the index have their words.
use Rattle.std.proofs.Common.{◌≡◌, string_bytes, take}
use Rattle.std.specs.List.{flat_map}
use Rattle.pg_lines.specs.Line.{lines_in, words_of}
use Rattle.pg_lines.proofs.printing.words_of.Given as goal

abbrev pub invariant-loop-line : goal.invariant-loop-line
invariant-loop-line l = string_bytes l.text ≡ flat_map words_of (lines_in (take l.line-index l.lines))
