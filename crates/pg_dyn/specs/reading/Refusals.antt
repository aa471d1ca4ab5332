-- When bytes may be refused, and with what (this profile's choice).
use Rattle.std.specs.Prelude.{ℕ, ◌+◌, ⊤, List, length, Option, Some, None, IsSomeAnd}
use Rattle.pg_schema.specs.declared.parts.field.TypeId.{TypeId}
use Rattle.pg_schema.specs.Shape.{Shape, fields}
use Rattle.pg_wire.specs.Errors.{fault_of, place_of}
use Rattle.pg_dyn.specs.declared.error.DynError.{DynError}
use Rattle.pg_dyn.specs.declared.error.DynError.TheVariants as errors
use Rattle.pg_dyn.specs.reading.Faults.{Code, Wire, NotUtf8, TooDeep, FirstFault}

-- The fault of bytes that an error names, with its offset. Refused memory is none, nor is what is wrong with contents.
abbrev pub fault_named : DynError → Option (Code × ℕ)
fault_named (errors.NotUtf8 at) = Some (NotUtf8, at)
fault_named (errors.TooDeep at) = Some (TooDeep, at)
fault_named (errors.Wire e) = Some (Wire (fault_of e), place_of e)
fault_named e = None

-- memory was refused, or the first fault in the bytes is the one that the error names, at its offset
abbrev pub MayRefuse : Shape → TypeId → ℕ → List ℕ → DynError → Type 0
MayRefuse shape type limit bytes errors.Memory = ⊤
MayRefuse shape type limit bytes e =
    IsSomeAnd (fault_named e) (λ (fault : Code × ℕ). FirstFault shape limit (fields shape type) bytes fault.0 fault.1)

-- Read at any depth, nothing is refused as too deep: no message is deeper than its bytes are many.
abbrev pub MayRefuseUnlimited : Shape → TypeId → List ℕ → DynError → Type 0
MayRefuseUnlimited shape type bytes (errors.TooDeep at) = ⊥
MayRefuseUnlimited shape type bytes e = MayRefuse shape type (length bytes + 1) bytes e
