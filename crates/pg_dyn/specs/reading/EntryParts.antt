-- The records of a map's entry, taken apart (Encoding guide, "Maps").
use Rattle.std.specs.Prelude.{◌≡◌, true, List, map, filter}
use Rattle.std.specs.List.{AllByRecursion}
use Rattle.pg_schema.specs.declared.parts.field.Scalar.{Scalar}
use Rattle.pg_schema.specs.declared.parts.field.Element.{Element}
use Rattle.pg_schema.specs.declared.parts.field.Element.TheVariants as elements
use Rattle.pg_schema.specs.Shape.{Shape, FieldShape}
use Rattle.pg_wire.specs.Reads.{seen_record}
use Rattle.pg_wire.specs.Records.{WireRecord}
use Rattle.pg_dyn.specs.declared.reading.parts.Parts.{Parts}
use Rattle.pg_dyn.specs.reading.Content.{key_field, takes, value_field}
use Rattle.pg_dyn.specs.reading.Decoding.{dec, is_plain_readable}
use Rattle.pg_dyn.specs.reading.EntrySteps.{IsMessageOf, PartFits, PartRead}
use Rattle.pg_dyn.specs.reading.ReadingOn.{IsNoMessage}

-- each record that the field accepts has a reading
abbrev pub AreReadable : FieldShape → List WireRecord → Type 0
AreReadable f rs = (shape : Shape) → AllByRecursion (λ r. takes f r ≡ true → is_plain_readable (dec shape) f r ≡ true) rs

-- of an entry: the key's records, and the value's where that is no message
pub record ScalarsGood (key : Scalar) (element : Element) (rs : List WireRecord) : Type 0 where
  pub key_good : AreReadable (key_field key) rs
  pub value_good : IsNoMessage element → AreReadable (value_field element) rs

-- What is read of the records of an entry. Of a value that is a message these are its records.
pub record AreParts (key : Scalar) (element : Element) (rs : List WireRecord) (parts : Parts) : Type 0 where
  pub good : ScalarsGood key element rs
  pub key_read : (shape : Shape) → PartRead shape (key_field key) rs parts.key
  pub key_fits : (shape : Shape) → PartFits shape (elements.Scalar key) parts.key
  pub value_read : IsNoMessage element → (shape : Shape) → PartRead shape (value_field element) rs parts.value
  pub value_fits : IsNoMessage element → (shape : Shape) → PartFits shape element parts.value
  pub child : IsMessageOf element → map seen_record parts.child.items ≡ filter (takes (value_field element)) rs
