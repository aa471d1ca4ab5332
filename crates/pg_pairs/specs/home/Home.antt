-- What an old program should read back of a message that a new one relays (this project's choice).
use Rattle.std.specs.Prelude.{ℕ, List, [], ◌∷◌, Bool, false, ◌&&◌, nat_eq, if◌then◌else◌, Option, Some, None, is_some, option_map, option_and_then}
use Rattle.std.specs.List.{list_all}
use Rattle.std.specs.Str.{bytes_eq}
use lib.Pointwise.{pointwise}
use Rattle.pg_schema.specs.declared.parts.field.TypeId.{TypeId}
use Rattle.pg_schema.specs.Shape.{Shape, FieldShape, fields, field_at, is_singular, is_implicit}
use Rattle.pg_dyn.specs.message.Message.{Item, Message, ends, holds, nests, Part, parts, leaf_eq}
use Rattle.pg_dyn.specs.encoding.Writing.{bytes_of}
use Rattle.pg_dyn.specs.encoding.Encoding.{child_type, enc}
use Rattle.pg_dyn.specs.reading.Decoding.{dec}
use Rattle.pg_dyn.specs.views.Comparison.{Expected, Alike, Kept, is_zero_expected, is_zero_item, shown, numbers, same_key, matches}

-- what a program with that type writes again of the bytes that it reads
abbrev pub relayed : Shape → TypeId → List ℕ → Option (List ℕ)
relayed shape type bytes = option_map (enc shape type) (dec shape type bytes)

-- equal messages: part for part, and their unknown records byte for byte
abbrev pub message_eq : Message → Message → Bool
message_eq (ends unknown) (ends others) = bytes_eq (bytes_of unknown) (bytes_of others)
message_eq (holds m k a later) (holds n l b rest) = nat_eq m n && same_key k l && leaf_eq a b && message_eq later rest
message_eq (nests m k v later) (nests n l w rest) =
    nat_eq m n && same_key k l && message_eq v w && message_eq later rest
message_eq v w = false

-- Zero items of a singular field aren't shown where the new type has that field with implicit presence.
abbrev pub drops_zero : FieldShape → Option FieldShape → Bool
drops_zero f (Some g) = is_singular f.presence && is_implicit g.presence
drops_zero f None = false

-- A field shows what it did, as between a type and itself.
abbrev pub home_content : FieldShape → Option FieldShape → List (Part Expected) → List (Part Item) → Bool
home_content f beside old come =
    pointwise (λ (p : Part Expected) (q : Part Item). same_key p.key q.key && matches numbers f f p.item q.item)
    (shown is_zero_expected (drops_zero f beside) f.number old) (shown is_zero_item (drops_zero f beside) f.number come)

-- each field of the old type does
abbrev pub home_message : List FieldShape → List FieldShape → List (Part Expected) → Message → Bool
home_message fs gs old x = list_all (λ f. home_content f (field_at gs f.number) old (parts x)) fs

-- The parts of an old message as they must be read back: children by their pair's types where the new type has the
-- field, and equal where it hasn't.
abbrev pub homeward : Shape → Shape → TypeId → TypeId → Message → List (Part Expected)
homeward old new a b (ends unknown) = []
homeward old new a b (holds number key leaf later) =
    record { number = number; key = key; item = Alike leaf } ∷ homeward old new a b later
homeward old new a b (nests number key child later) =
    let of_old = child_type (fields old a) number in
    let of_new = child_type (fields new b) number in
    let is_home = home_message (fields old of_old) (fields new of_new) (homeward old new of_old of_new child) in
    record {
      number = number;
      key = key;
      item = Kept (λ x. if is_some (field_at (fields new b) number) then is_home x else message_eq child x);
    } ∷ homeward old new a b later

-- x is what the old type should read back of v
unfoldable pub home : Shape → Shape → TypeId → TypeId → Message → Message → Bool
home old new a b v x = home_message (fields old a) (fields new b) (homeward old new a b v) x

-- What the old type reads of its message's bytes, after the new one has relayed them, is what it should read back.
unfoldable pub comes_home : Shape → Shape → TypeId → TypeId → Message → Bool
comes_home old new a b v = is_home (option_and_then (dec old a) (relayed new b (enc old a v)))
  where
    is_home : Option Message → Bool
    is_home (Some x) = home old new a b v x
    is_home None = false
