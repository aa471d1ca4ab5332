use Rattle.std.proofs.Common.{◌≡◌, ◌++◌, drop}
use Rattle.std.specs.String.{string_bytes}
use Rattle.pg_cert.specs.inner.Lines.{lines_text}
use Rattle.pg_cert.specs.Text.{names_of}
use Rattle.pg_cert.proofs.writing.push_lines.Given as goal

-- with the lines that are left it is the whole string
abbrev pub invariant-loop-at : goal.invariant-loop-at
invariant-loop-at l =
    string_bytes l.text ++ lines_text (names_of l.old) (names_of l.new) (drop l.at l.bounds)
    ≡ string_bytes l.initial.text ++ lines_text (names_of l.old) (names_of l.new) l.bounds
