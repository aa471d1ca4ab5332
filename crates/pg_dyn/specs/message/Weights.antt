-- A measure of messages that is less for each message inside one.
use Rattle.std.specs.Prelude.{ℕ, ◌+◌}
use Rattle.pg_dyn.specs.message.Kept.{Kept, ends, holds, nests}

-- more than that of each message inside it
abbrev pub weight : Kept → ℕ
weight (ends type unknown) = 1
weight (holds number key manner leaf later) = weight later
weight (nests number key listed child later) = weight child + weight later
