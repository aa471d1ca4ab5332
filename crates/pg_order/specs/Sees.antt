-- Whether a new type reads bytes whole that an old writer may write, in whatever order (this profile's choice: what it
-- means that nothing is lost).
use Rattle.std.specs.Prelude.{◌≡◌, ℕ, List, [], ◌∷◌, filter, Bool, true, false, ◌&&◌, Option, Some, None, Result, Ok, Err}
use Rattle.std.specs.List.{list_all}
use Rattle.std.specs.Str.{bytes_eq}
use Rattle.pg_schema.specs.declared.parts.field.TypeId.{TypeId}
use Rattle.pg_schema.specs.Shape.{Shape, FieldShape, fields, field_at}
use Rattle.pg_wire.specs.Reading.{Fault}
use Rattle.pg_wire.specs.Records.{WireRecord, records_of}
use Rattle.pg_dyn.specs.message.Message.{Leaf, Message, ends, holds, nests, Part, parts, unknown_of}
use Rattle.pg_dyn.specs.reading.Content.{is_unknown}
use Rattle.pg_dyn.specs.encoding.Writing.{bytes_of}
use Rattle.pg_dyn.specs.encoding.Encoding.{child_type}
use Rattle.pg_dyn.specs.reading.Decoding.{dec}
use Rattle.pg_dyn.specs.views.Comparison.{View, Expected, Alike, Kept, same_content}
use Rattle.pg_order.specs.MayWrite.{MayBeParts, MayWrite}

-- whether each shared field has the same content
abbrev pub shares : View → List FieldShape → List FieldShape → List (Part Expected) → Message → Bool
shares view fs gs old new = list_all (λ f. of f (field_at gs f.number)) fs
  where
    of : FieldShape → Option FieldShape → Bool
    of f (Some g) = same_content view f g old (parts new)
    of f None = true

-- whether the message has the records that no field of its type accepts, as they are in the bytes, in their order
abbrev pub gives_back : List FieldShape → List ℕ → Message → Bool
gives_back gs bytes new = of (records_of bytes)
  where
    of : Result (List WireRecord) Fault → Bool
    of (Ok rs) = bytes_eq (bytes_of (unknown_of new)) (bytes_of (filter (is_unknown gs) rs))
    of (Err fault) = false

-- whether the message shows what was meant by the bytes, and loses nothing of them
abbrev pub sees : View → List FieldShape → List FieldShape → List (Part Expected) → List ℕ → Message → Bool
sees view fs gs old bytes new = shares view fs gs old new && gives_back gs bytes new

-- the parts of the old message, of which each child is to be seen likewise in the bytes that were written of it
abbrev pub seen_parts : View → (old new : Shape) (a b : TypeId) (v : Message) (ps : List (Part Leaf))
    → MayBeParts old a v ps → List (Part Expected)
seen_parts view old new a b (ends unknown) ps is = []
seen_parts view old new a b (holds number key leaf later) ps (qs, is, rest) =
    record { number = number; key = key; item = Alike leaf } ∷ seen_parts view old new a b later qs rest
seen_parts view old new a b (nests number key child later) ps (qs, bytes, is, written, rest) =
    let of_old = child_type (fields old a) number in
    let of_new = child_type (fields new b) number in
    let inside = seen_parts view old new of_old of_new child written.parts written.are_parts in
    record { number = number; key = key; item = Kept (sees view (fields old of_old) (fields new of_new) inside bytes) }
    ∷ seen_parts view old new a b later qs rest

-- The new type reads the bytes, shows the same values in each shared field, and gives the other records back as they
-- are in the bytes, in their order: so does each message inside with the bytes that were written of it.
pub record IsSeen (view : View) (old new : Shape) (a b : TypeId) (v : Message) (bytes : List ℕ)
    (written : MayWrite old a v bytes) : Type 0 where
  pub message : Message
  pub is_read : dec new b bytes ≡ Some message
  pub is_seen : sees view (fields old a) (fields new b) (seen_parts view old new a b v written.parts written.are_parts)
      bytes message ≡ true
