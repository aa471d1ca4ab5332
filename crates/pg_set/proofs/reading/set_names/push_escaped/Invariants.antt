use Rattle.std.proofs.Common.{◌≡◌, ◌++◌, if◌then◌else◌}
use Rattle.std.specs.String.{string_bytes}
use Rattle.pg_set.specs.stated.SetNames.{escaped, is_backslash, is_dot_or_backslash}
use Rattle.pg_set.proofs.reading.set_names.push_escaped.Given as goal

-- what is written, and what is left to write
abbrev pub invariant-loop-letter : goal.invariant-loop-letter
invariant-loop-letter l =
    string_bytes l.full ++ escaped (λ byte. if l.dots then is_dot_or_backslash byte else is_backslash byte) l.letter-iterator.rest.now
    ≡ string_bytes l.fn.full ++ escaped (λ byte. if l.dots then is_dot_or_backslash byte else is_backslash byte) l.text
