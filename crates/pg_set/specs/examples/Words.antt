-- Messages, part by part, for examples.
use Rattle.std.specs.Prelude.{ℕ, pos, List, [], None}
use Rattle.pg_dyn.specs.message.Message.{Bytes, Int, Message, ends, holds, nests}

abbrev pub text : ℕ → List ℕ → Message → Message
text number bytes later = holds number None (Bytes bytes) later

abbrev pub count : ℕ → ℕ → Message → Message
count number n later = holds number None (Int (pos n)) later

abbrev pub child : ℕ → Message → Message → Message
child number m later = nests number None m later

abbrev pub nothing : Message
nothing = ends []
