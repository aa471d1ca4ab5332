-- Laws of the bytes of a message, in whatever order of its fields and entries.
use Rattle.std.specs.Prelude.{◌≡◌, ℕ, ◌≤◌, List, length, Some}
use Rattle.pg_schema.specs.declared.parts.field.TypeId.{TypeId}
use Rattle.pg_schema.specs.Shape.{Shape}
use Rattle.pg_schema.specs.ShapeRules.{IsShape}
use Rattle.pg_dyn.specs.message.Message.{Message, IsPlain}
use Rattle.pg_dyn.specs.encoding.Encoding.{enc, cap}
use Rattle.pg_dyn.specs.reading.Decoding.{dec}
use Rattle.pg_dyn.specs.fitting.Belonging.{IsMessage}
use Rattle.pg_dyn.specs.views.Comparison.{View}
use Rattle.pg_dyn.specs.views.Breaking.{Breaks, Compatible}
use Rattle.pg_order.specs.MayWrite.{MayWrite}
use Rattle.pg_order.specs.Sees.{IsSeen}

-- The encoding is among the bytes that may be written.
abbrev pub EncodingMayBeWritten : Type 0
EncodingMayBeWritten = (shape : Shape) (type : TypeId) (m : Message) → MayWrite shape type m (enc shape type m)

-- All bytes that may be written of a message are as many.
abbrev pub OneLength : Type 0
OneLength =
    (shape : Shape) (type : TypeId) (m : Message) (bytes : List ℕ) → MayWrite shape type m bytes → length bytes ≡ length (enc shape type m)

-- The type itself reads them as the message.
abbrev pub ReadsAnyOrder : Type 0
ReadsAnyOrder =
    (shape : Shape) (type : TypeId) (m : Message) (bytes : List ℕ) → IsShape shape → IsMessage shape type m → length (enc shape type m) ≤ cap →
    MayWrite shape type m bytes → dec shape type bytes ≡ Some m

-- A compatible new type reads them whole.
abbrev pub CompatibleInAnyOrder : Type 0
CompatibleInAnyOrder =
    (view : View) (old new : Shape) (a b : TypeId) (v : Message) (bytes : List ℕ) → IsShape old → IsShape new →
    Compatible view old new a b → IsMessage old a v → IsPlain v → length (enc old a v) ≤ cap →
    (written : MayWrite old a v bytes) → IsSeen view old new a b v bytes written

-- Where each message that breaks has n bytes or more, so have all bytes that the new type doesn't read whole.
abbrev pub NoneUnseenIsShorter : Type 0
NoneUnseenIsShorter =
    (view : View) (old new : Shape) (a b : TypeId) (n : ℕ) (v : Message) (bytes : List ℕ) → IsShape old → IsShape new →
    ((x : Message) → Breaks view old new a b x → n ≤ length (enc old a x)) →
    IsMessage old a v → IsPlain v → length (enc old a v) ≤ cap → (written : MayWrite old a v bytes) →
    (IsSeen view old new a b v bytes written → ⊥) → n ≤ length bytes
