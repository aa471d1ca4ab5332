-- A worked set, read, by computation: first the message of its bytes, then what it states.
use Rattle.std.specs.Prelude.{◌≡◌, pos, [], ◌∷◌, codes, false, map, None, Some, IsSomeAnd}
use Rattle.std.proofs.Common.{refl, ap, sym, subst, ◌∙◌}
use Rattle.std.specs.Str.{is_utf8, chars}
use Rattle.pg_schema.specs.declared.parts.field.Element.TheVariants as elements
use Rattle.pg_schema.specs.declared.parts.field.Field.{Field}
use Rattle.pg_schema.specs.declared.parts.field.Presence.TheVariants.{Implicit}
use Rattle.pg_schema.specs.declared.parts.field.Scalar.TheVariants.{Int32}
use Rattle.pg_schema.specs.declared.parts.file.File.{File}
use Rattle.pg_schema.specs.declared.parts.message_type.MessageType.{MessageType}
use Rattle.pg_wire.specs.Reading.{exactly, row}
use Rattle.pg_wire.specs.Varint.{varint_at}
use Rattle.pg_wire.specs.Words.{signed, unzigzag}
use Rattle.pg_wire.specs.Records.{record_at, records_of, tag_parts}
use Rattle.pg_dyn.specs.word.Coding.{word_in}
use Rattle.pg_dyn.specs.reading.Decoding.{dec}
use Rattle.pg_dyn.specs.message.Message.{Message, Int, Bytes, ends, holds, nests}
use Rattle.pg_set.specs.descriptor.Descriptor.{written_shape, file_set}
use Rattle.pg_set.specs.examples.Examples.{IsField, IsFile, IsMessage, one_field_bytes}
use Rattle.pg_set.specs.examples.ReadExamples.{OneFieldRead}
use Rattle.pg_set.specs.stated.Stated.{stated}
use Rattle.pg_set.specs.stated.Views.{FieldView, FileView, PartsView, TypeView, enum_view, field_view, file_view, parts_view, service_view, type_view}

-- ---- the message

abbrev field_message : Message
field_message =
    holds 1 None (Bytes (codes "a")) (holds 3 None (Int (pos 1)) (holds 4 None (Int (pos 1)) (holds 5 None (Int (pos 5)) (holds 10 None (Bytes (codes "a")) (ends [])))))

abbrev type_message : Message
type_message = holds 1 None (Bytes (codes "M")) (nests 2 None field_message (ends []))

abbrev file_message : Message
file_message = holds 1 None (Bytes (codes "m.proto")) (nests 4 None type_message (holds 12 None (Bytes (codes "proto3")) (ends [])))

abbrev set_message : Message
set_message = nests 1 None file_message (ends [])

message_read : dec written_shape file_set one_field_bytes ≡ Some set_message
unfolding is_utf8 chars exactly row varint_at signed unzigzag tag_parts record_at records_of word_in dec written_shape lib.Utf8.encode
message_read = refl

-- ---- what it states

abbrev the_field : FieldView
the_field = record {
  number = 1;
  name = codes "a";
  presence = Implicit;
  element = elements.Scalar Int32;
  oneof = None;
  json_name = codes "a";
  states_optional = false;
  options = record { packed = None; deprecated = None };
}

abbrev the_type : TypeView
the_type = record {
  name = codes "M";
  fields = the_field ∷ [];
  declared = 1 ∷ [];
  oneofs = [];
  nested_types = [];
  nested_enums = [];
  reserved_numbers = [];
  reserved_names = [];
  options = record { deprecated = None };
}

abbrev the_file : FileView
the_file = record { name = codes "m.proto"; package_name = []; imports = []; types = record { index = 0 } ∷ []; enums = []; services = []; options = [] }

abbrev the_parts : PartsView
the_parts = record { files = the_file ∷ []; types = the_type ∷ []; enums = []; services = [] }

message_states : stated set_message ≡ Some the_parts
message_states = refl

-- ---- what the parts say

field_says : (a : Field) → IsField a (codes "a") 1 Implicit (elements.Scalar Int32) false → field_view a ≡ the_field
field_says a f = rw (f.has_number, f.has_name, f.has_presence, f.has_element, f.in_no_oneof, f.has_json_name, f.states_optional, f.packed_unsaid, f.deprecated_unsaid) refl

type_says : (t : MessageType) (a : Field) → IsMessage t (a ∷ []) (1 ∷ []) → field_view a ≡ the_field → type_view t ≡ the_type
type_says t a m says =
    rw (m.has_name, m.has_fields, m.has_declared, m.no_oneofs, m.no_types, m.no_enums, m.no_reserved_numbers, m.no_reserved_names, m.deprecated_unsaid)
    (ap (λ v. record the_type { fields = v ∷ [] }) says)

file_says : (file : File) → IsFile file → file_view file ≡ the_file
file_says file f = rw (f.name, f.package_name, f.imports, f.types, f.enums, f.services, f.options) refl

pub one_field_read : OneFieldRead
one_field_read parts file t a p m f no_enums no_services =
    subst (λ r. IsSomeAnd r (λ set. stated set ≡ Some (parts_view parts))) (sym message_read) (message_states ∙ ap Some (sym says))
  where
    says : parts_view parts ≡ the_parts
    says =
        ap (λ fs. record { files = fs; types = map type_view parts.types.items; enums = map enum_view parts.enums.items; services = map service_view parts.services.items })
        (ap (map file_view) p.files ∙ ap (λ v. v ∷ []) (file_says file p.file_fits))
        ∙ (ap (λ ts. record { files = the_file ∷ []; types = ts; enums = map enum_view parts.enums.items; services = map service_view parts.services.items })
        (ap (map type_view) p.types ∙ ap (λ v. v ∷ []) (type_says t a m (field_says a f)))
        ∙ (ap (λ es. record { files = the_file ∷ []; types = the_type ∷ []; enums = map enum_view es; services = map service_view parts.services.items }) no_enums
        ∙ ap (λ ss. record { files = the_file ∷ []; types = the_type ∷ []; enums = []; services = map service_view ss }) no_services))
