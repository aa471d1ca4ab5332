-- Why bytes can't be read, and where: the first byte of the record that has the fault itself, and of several faults that of the first
-- record in byte order that has one. The root has depth 1, a message inside one more than the message that holds it; the entry of a
-- map adds nothing, and where it lacks a value that is a message, the empty message stands for it (this profile's choice).
use Rattle.std.specs.Prelude.{◌≡◌, ℕ, suc, ◌+◌, ◌-◌, ◌≤◌, true, false, List, [], ◌++◌, length, filter, Some, Ok, Err}
use Rattle.std.specs.Str.{is_utf8}
use Rattle.pg_schema.specs.declared.parts.field.TypeId.{TypeId}
use Rattle.pg_schema.specs.declared.parts.field.Scalar.{Scalar}
use Rattle.pg_schema.specs.declared.parts.field.Element.TheVariants as elements
use Rattle.pg_schema.specs.declared.parts.field.Presence.TheVariants as presences
use Rattle.pg_schema.specs.Shape.{Shape, FieldShape, field_at, fields, is_map}
use Rattle.pg_wire.specs.Reading.{Fault, row}
use Rattle.pg_wire.specs.Records.{WireRecord, Spells, record_at}
use Rattle.pg_dyn.specs.word.Coding.{Text, form, form_wire, element_at}
use Rattle.pg_dyn.specs.reading.Content.{same_wire, takes, value_field, entry_fields}
use Rattle.pg_dyn.specs.reading.Decoding.{all_readable, dec}

-- the bytes aren't records, a string isn't UTF-8, or a message is deeper than a limit
pub data Code : Type 0 where
  Wire : Fault → Code
  NotUtf8 : Code
  TooDeep : Code

-- where a record's body begins
abbrev pub body_start : WireRecord → ℕ
body_start r = length r.bytes - length r.body

mutual
  -- Bytes of a message with these fields, which may have as many levels, have the fault of that code at that offset. `Before` is asked
  -- of the bytes before the record that has it.
  pub data FaultIn (shape : Shape) (Before : ℕ → List FieldShape → List ℕ → Type 0) : ℕ → List FieldShape → List ℕ → Code → ℕ → Type 0 where
    the_root : (fs : List FieldShape) (bytes : List ℕ) → FaultIn shape Before 0 fs bytes TooDeep 0
    no_record : (levels : ℕ) (fs : List FieldShape) (bytes front back : List ℕ) (fault : Fault) →
        bytes ≡ front ++ back → Before (suc levels) fs front → 1 ≤ length back → record_at back ≡ Err fault →
        FaultIn shape Before (suc levels) fs bytes (Wire fault) (length front)
    in_record : (levels : ℕ) (fs : List FieldShape) (bytes front back rest : List ℕ) (r : WireRecord) (f : FieldShape) (code : Code) (place : ℕ) →
        bytes ≡ front ++ back → Before (suc levels) fs front → record_at back ≡ Ok (r, rest) → field_at fs r.number ≡ Some f → takes f r ≡ true →
        FaultOf shape Before levels f r code place → FaultIn shape Before (suc levels) fs bytes code (length front + place)

  -- An accepted record of the field, whose message may have as many levels below its own, has the fault, at that offset from the
  -- record's first byte on. A value is missing once all of the entry is read.
  pub data FaultOf (shape : Shape) (Before : ℕ → List FieldShape → List ℕ → Type 0) : ℕ → FieldShape → WireRecord → Code → ℕ → Type 0 where
    not_text : (levels : ℕ) (f : FieldShape) (r : WireRecord) → is_map f.presence ≡ false → form f.element ≡ Text → is_utf8 r.body ≡ false →
        FaultOf shape Before levels f r NotUtf8 0
    bad_element : (levels : ℕ) (f : FieldShape) (r : WireRecord) (fault : Fault) → is_map f.presence ≡ false →
        same_wire r.wire (form_wire (form f.element)) ≡ false → row (element_at (form_wire (form f.element))) r.body ≡ Err fault →
        FaultOf shape Before levels f r (Wire fault) 0
    the_child : (f : FieldShape) (r : WireRecord) (t : TypeId) → is_map f.presence ≡ false → f.element ≡ elements.Message t →
        FaultOf shape Before 0 f r TooDeep 0
    in_child : (levels : ℕ) (f : FieldShape) (r : WireRecord) (t : TypeId) (code : Code) (place : ℕ) → is_map f.presence ≡ false →
        f.element ≡ elements.Message t → FaultIn shape Before (suc levels) (fields shape t) r.body code place →
        FaultOf shape Before (suc levels) f r code (body_start r + place)
    in_entry : (levels : ℕ) (f : FieldShape) (r : WireRecord) (key : Scalar) (code : Code) (place : ℕ) → f.presence ≡ presences.Map key →
        FaultIn shape Before (suc levels) (entry_fields key f.element) r.body code place → FaultOf shape Before levels f r code (body_start r + place)
    missing_value : (f : FieldShape) (r : WireRecord) (key : Scalar) (t : TypeId) (rs : List WireRecord) → f.presence ≡ presences.Map key →
        f.element ≡ elements.Message t → Spells r.body rs → filter (takes (value_field f.element)) rs ≡ [] →
        Before 1 (entry_fields key f.element) r.body → FaultOf shape Before 0 f r TooDeep 0

-- the bytes are records, whatever these hold
abbrev pub AreRecords : ℕ → List FieldShape → List ℕ → Type 0
AreRecords limit fs bytes = (rs : List WireRecord) × Spells bytes rs

-- a fault of the bytes, whatever is before it
abbrev pub HasFault : Shape → ℕ → List FieldShape → List ℕ → Code → ℕ → Type 0
HasFault shape = FaultIn shape AreRecords

-- a message is deeper than the limit, at that offset
abbrev pub TooDeepIn : Shape → ℕ → List FieldShape → List ℕ → ℕ → Type 0
TooDeepIn shape limit fs bytes place = HasFault shape limit fs bytes TooDeep place

abbrev pub TooDeepOf : Shape → ℕ → FieldShape → WireRecord → ℕ → Type 0
TooDeepOf shape levels f r place = FaultOf shape AreRecords levels f r TooDeep place

-- The bytes are records, each that a field accepts has a reading, and no message in them is deeper than the limit.
pub record AreRead (shape : Shape) (limit : ℕ) (fs : List FieldShape) (bytes : List ℕ) : Type 0 where
  pub records : List WireRecord
  pub spelled : Spells bytes records
  pub readable : all_readable (dec shape) fs records ≡ true
  pub shallow : (place : ℕ) → TooDeepIn shape limit fs bytes place → ⊥

-- The fault of the first record in byte order that has one: what is before that record is read.
abbrev pub FirstFault : Shape → ℕ → List FieldShape → List ℕ → Code → ℕ → Type 0
FirstFault shape = FaultIn shape (AreRead shape)

abbrev pub FirstFaultOf : Shape → ℕ → FieldShape → WireRecord → Code → ℕ → Type 0
FirstFaultOf shape = FaultOf shape (AreRead shape)
