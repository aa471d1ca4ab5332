-- What a sink's answers say.
use Rattle.std.specs.Prelude.{ℕ, Result, Ok, Err}
use Rattle.pg_lines.specs.declared.sink.SinkError.{SinkError}

-- how many bytes were taken
abbrev pub taken_of : Result ℕ SinkError → ℕ
taken_of (Ok count) = count
taken_of (Err error) = 0

-- the failures in an answer
abbrev pub failures_in : {X : Type 0} → Result X SinkError → ℕ
failures_in (Ok x) = 0
failures_in (Err error) = 1
