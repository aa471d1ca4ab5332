-- Where a message is deeper than a limit, the bytes are at least as many: each message inside another has a byte more around it.
use Rattle.std.proofs.Common.{◌≡◌, ◌≢◌, ℕ, suc, ◌+◌, ◌≤◌, ◌<◌, List, length, None, Result, Ok, Err, IfErr, ap, sym, arith, length-append}
use Rattle.pg_schema.specs.declared.parts.field.TypeId.{TypeId}
use Rattle.pg_schema.specs.Shape.{Shape, FieldShape, fields}
use Rattle.pg_wire.specs.Records.{WireRecord, IsRecord}
use Rattle.pg_wire.proofs.RecordLaws.{record_at_takes, length-IsRecord}
use Rattle.pg_dyn.specs.declared.error.DynError.{DynError}
use Rattle.pg_dyn.specs.declared.error.DynError.TheVariants as errors
use Rattle.pg_dyn.specs.reading.Decoding.{dec}
use Rattle.pg_dyn.specs.reading.Refusals.{MayRefuse, MayRefuseUnlimited}
use Rattle.pg_dyn.proofs.lemmas.reading.faults.Faulty.{dec_of_fault, first_is_fault, text_not_deep, wire_not_deep}
use Rattle.pg_dyn.specs.reading.Faults.{Code, FirstFault, TooDeep, TooDeepIn, TooDeepOf, the_root, in_record, the_child, in_child, in_entry, missing_value}
use Rattle.pg_dyn.proofs.lemmas.reading.Depth.{body_shorter}

module _ (shape : Shape) where
  mutual
    pub deep_bytes : (limit : ℕ) (fs : List FieldShape) (bytes : List ℕ) (place : ℕ) → TooDeepIn shape limit fs bytes place → limit ≤ length bytes
    deep_bytes _ fs bytes _ (the_root _ _) = omega arith
    deep_bytes _ fs bytes _ (in_record levels _ _ front back rest r f _ place joined before read found taken deep) =
        let is = record_at_takes back r rest read in
        let inner = deep_record levels f r place is.0 deep in
        omega (arith, inner, ap length joined, length-append front back, ap length is.1, length-append r.bytes rest)

    deep_record : (levels : ℕ) (f : FieldShape) (r : WireRecord) (place : ℕ) → IsRecord r → TooDeepOf shape levels f r place → levels < length r.bytes
    deep_record _ f r _ is (the_child _ _ t no_map message) = omega (arith, length-IsRecord r is)
    deep_record _ f r _ is (in_child levels _ _ t _ place no_map message deep) =
        omega (arith, body_shorter r is, deep_bytes (suc levels) _ r.body place deep)
    deep_record _ f r _ is (in_entry levels _ _ key _ place map deep) = omega (arith, body_shorter r is, deep_bytes (suc levels) _ r.body place deep)
    deep_record _ f r _ is (missing_value _ _ key t rs map message spelled none before) = omega (arith, length-IsRecord r is)

-- Within a limit above the length no message is too deep.
not_deep : (shape : Shape) (type : TypeId) (limit : ℕ) (bytes : List ℕ) (place : ℕ) → length bytes < limit
    → FirstFault shape limit (fields shape type) bytes TooDeep place → ⊥
not_deep shape type limit bytes place short h =
    let long = deep_bytes shape limit (fields shape type) bytes place (first_is_fault shape limit (fields shape type) bytes TooDeep place h) in omega arith

unread : (shape : Shape) (type : TypeId) (limit : ℕ) (bytes : List ℕ) (code : Code) (place : ℕ) → code ≢ TooDeep
    → FirstFault shape limit (fields shape type) bytes code place → None ≡ dec shape type bytes
unread shape type limit bytes code place other h =
    sym (dec_of_fault shape type limit bytes code place (first_is_fault shape limit (fields shape type) bytes code place h) other)

-- What is refused within a limit above the length, memory aside, has no reading.
pub refused_unread : (shape : Shape) (type : TypeId) (limit : ℕ) (bytes : List ℕ) (e : DynError) → length bytes < limit → e ≢ errors.Memory → MayRefuse shape type limit bytes e → None ≡ dec shape type bytes
refused_unread shape type limit bytes e short other h =
    grind (arith, unread, text_not_deep, not_deep, wire_not_deep)

-- What is refused within a limit above the length isn't for want of depth.
pub refused_unlimited : (shape : Shape) (type : TypeId) (bytes : List ℕ) (e : DynError) → MayRefuse shape type (length bytes + 1) bytes e → MayRefuseUnlimited shape type bytes e
refused_unlimited shape type bytes e h = grind (arith, not_deep)

-- what an error says, by what it said
pub of_error : {A : Type 0} {P Q : DynError → Type 0} (r : Result A DynError) → ((e : DynError) → P e → Q e) → IfErr r P → IfErr r Q
of_error (Ok x) f h = tt
of_error (Err e) f h = f e h
