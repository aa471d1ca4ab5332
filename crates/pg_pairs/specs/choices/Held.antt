-- What a message holds: fields, messages inside it, and the fields of a cause.
use Rattle.std.specs.Prelude.{◌≡◌, ℕ, ◌<◌, List, Bool, true, false, Option, ◌⊎◌}
use Rattle.pg_schema.specs.Shape.{Shape, FieldShape}
use Rattle.pg_dyn.specs.message.Message.{Leaf, Item, Msg, Message, ends, holds, nests, parts}
use Rattle.pg_dyn.specs.views.Breaking.{Breaks}
use Rattle.pg_pairs.specs.declared.choices.choice.Pair.{Pair}
use Rattle.pg_pairs.specs.views.EnumView.{EnumView}
use Rattle.pg_pairs.specs.bounds.Covering.{IsAmong, field_children}
use Rattle.pg_pairs.specs.laws.FieldCosts.{IsShared}

-- the message has a part of that number
abbrev pub HoldsField : ℕ → Message → Type 0
HoldsField n (ends unknown) = ⊥
HoldsField n (holds number key leaf later) = (number ≡ n) ⊎ HoldsField n later
HoldsField n (nests number key child later) = (number ≡ n) ⊎ HoldsField n later

-- the message has that item in a part of that number, in a map with that key
abbrev pub HasItem : ℕ → Option Leaf → Item → Message → Type 0
HasItem n key item v = IsAmong (record { number = n; key = key; item = item }) (parts v)

-- no message in a field breaks by the pair of this field, which has a message type in both types
abbrev pub NoneBreaksInside : EnumView → Shape → Shape → Pair → Message → Type 0
NoneBreaksInside enum_view old new pair v =
    (f g : FieldShape) → IsShared old new pair f g → (p : Pair) → IsAmong p (field_children f g) →
    (key : Option Leaf) (child : Message) → HasItem f.number key (Msg child) v →
    Breaks enum_view.alike old new p.old p.new child → ⊥

-- the message has a field of these numbers, and two of them
pub record HoldsOne (numbers : List ℕ) (v : Message) : Type 0 where
  pub number : ℕ
  pub among : IsAmong number numbers
  pub held : HoldsField number v

pub record HoldsTwo (numbers : List ℕ) (v : Message) : Type 0 where
  pub first : ℕ
  pub second : ℕ
  pub apart : first < second
  pub first_among : IsAmong first numbers
  pub second_among : IsAmong second numbers
  pub first_held : HoldsField first v
  pub second_held : HoldsField second v

-- It holds the fields of a cause: two of those that meet in a oneof, and else one.
abbrev pub HoldsCause : (meet : Bool) → List ℕ → Message → Type 0
HoldsCause true numbers v = HoldsTwo numbers v
HoldsCause false numbers v = HoldsOne numbers v
