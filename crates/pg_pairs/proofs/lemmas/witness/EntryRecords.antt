-- The two records of an entry, with what is known of its key and its value.
use Rattle.std.proofs.Common.{◌≡◌, ◌<◌, ◌^◌, List, [], ◌∷◌, length, Ok}
use Rattle.pg_schema.specs.declared.parts.field.Scalar.{Scalar}
use Rattle.pg_schema.specs.declared.parts.field.Element.{Element}
use Rattle.pg_schema.specs.declared.parts.field.Element.TheVariants as elements
use Rattle.pg_wire.specs.Records.{WireRecord, records_of}
use Rattle.pg_dyn.specs.message.Message.{Leaf}
use Rattle.pg_dyn.specs.word.Coding.{form, body}
use Rattle.pg_dyn.specs.laws.Bodies.{IsNestedLeaf}
use Rattle.pg_dyn.specs.encoding.Writing.{item_record, entry_bytes}
use Rattle.pg_pairs.proofs.lemmas.bounds.Packed.{Reads}
use Rattle.pg_dyn.proofs.PublicLaws.{entry_bodies_read}

module _ (k : Scalar) (e : Element) (key value : Leaf) (key_reads : Reads (form (elements.Scalar k)) key) (value_reads : Reads (form e) value) (nested : IsNestedLeaf e value) where
  unfoldable pub two_records : List WireRecord
  two_records = item_record 1 (elements.Scalar k) key ∷ item_record 2 e value ∷ []

  pub entry_records : length (entry_bytes k e key value) < 2 ^ 64 → records_of (entry_bytes k e key value) ≡ Ok two_records
  unfolding two_records
  entry_records fits = (entry_bodies_read k e (body (form (elements.Scalar k)) key, key) (body (form e) value, value) key_reads value_reads nested fits).0
