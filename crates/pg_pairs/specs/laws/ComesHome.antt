-- The law that messages return.
use Rattle.std.specs.Prelude.{◌≡◌, ◌≤◌, length, true, Some}
use Rattle.pg_schema.specs.Shape.{Shape}
use Rattle.pg_schema.specs.ShapeRules.{IsShape}
use Rattle.pg_dyn.specs.message.Message.{Message, IsPlain}
use Rattle.pg_dyn.specs.encoding.Encoding.{cap, enc}
use Rattle.pg_dyn.specs.reading.Decoding.{dec}
use Rattle.pg_dyn.specs.fitting.Belonging.{IsMessage}
use Rattle.pg_dyn.specs.views.Comparison.{View}
use Rattle.pg_dyn.specs.views.Breaking.{Compatible}
use Rattle.pg_pairs.specs.declared.choices.choice.Pair.{Pair}
use Rattle.pg_pairs.specs.home.Returns.{Returns}
use Rattle.pg_pairs.specs.home.Home.{comes_home}

-- Where two types are compatible under a view and the pair returns, each plain message of the old type returns:
-- where the new type reads its bytes as a message that has an encoding, the old type's reader finds in that encoding
-- what it should read back.
abbrev pub MessagesComeHome : Type 0
MessagesComeHome =
    (view : View) (old new : Shape) (pair : Pair) → IsShape old → IsShape new →
    Compatible view old new pair.old pair.new → Returns old new pair →
    (v : Message) → IsMessage old pair.old v → IsPlain v → length (enc old pair.old v) ≤ cap →
    (w : Message) → dec new pair.new (enc old pair.old v) ≡ Some w → IsMessage new pair.new w →
    length (enc new pair.new w) ≤ cap →
    comes_home old new pair.old pair.new v ≡ true
