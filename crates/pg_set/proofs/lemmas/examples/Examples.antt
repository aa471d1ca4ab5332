-- The worked sets, by computation: first the message, then its bytes.
use Rattle.std.specs.Prelude.{◌≡◌, [], codes}
use Rattle.std.proofs.Common.{refl, lit≤}
use Rattle.pg_wire.specs.Varint.{varint}
use Rattle.pg_wire.specs.Records.{tag, written}
use Rattle.pg_dyn.specs.word.Coding.{word_bytes}
use Rattle.pg_dyn.specs.encoding.Encoding.{enc}
use Rattle.pg_dyn.specs.message.Message.{Message, ends}
use Rattle.pg_set.specs.descriptor.Descriptor.{descriptor_shape, file_set}
use Rattle.pg_set.specs.examples.Words.{child, count, text}
use Rattle.pg_set.specs.examples.Examples as examples

-- a set of one file with this message type
abbrev set_of : Message → Message
set_of t = child 1 (text 1 (codes "m.proto") (child 4 t (text 12 (codes "proto3") (ends [])))) (ends [])

abbrev one_field_message : Message
one_field_message =
    set_of (text 1 (codes "M") (child 2 (text 1 (codes "a") (count 3 1 (count 4 1 (count 5 5 (text 10 (codes "a") (ends [])))))) (ends [])))

one_field_bytes : examples.one_field_bytes ≡ enc descriptor_shape file_set one_field_message
unfolding varint tag written word_bytes enc
one_field_bytes = refl

pub one_field : examples.OneField
one_field parts file t a p m f = (
  simp (
    p.files,
    p.file_fits.name,
    p.file_fits.package_name,
    p.file_fits.imports,
    p.file_fits.enums,
    p.file_fits.services,
    p.file_fits.options,
    p.file_fits.types,
    p.types,
    m.no_types,
    m.no_enums,
    m.no_oneofs,
    m.no_reserved_numbers,
    m.no_reserved_names,
    m.deprecated_unsaid,
    m.has_fields,
    m.has_declared,
    m.has_name,
    f.has_number,
    f.has_presence,
    f.has_element,
    f.states_optional,
    f.packed_unsaid,
    f.deprecated_unsaid,
    f.in_no_oneof,
    f.has_json_name,
    f.has_name,
  ) one_field_bytes,
  lit≤ tt,
)

abbrev map_message : Message
map_message =
    set_of (
    text 1 (codes "M") (
    child 2 (text 1 (codes "a") (count 3 1 (count 4 3 (count 5 11 (text 6 (codes ".M.AEntry") (text 10 (codes "a") (ends [])))))))
    (child 2 (text 1 (codes "b") (count 3 2 (count 4 1 (count 5 5 (count 9 0 (text 10 (codes "b") (count 17 1 (ends []))))))))
    (child 3 (
    text 1 (codes "AEntry") (
    child 2 (text 1 (codes "key") (count 3 1 (count 4 1 (count 5 9 (text 10 (codes "key") (ends []))))))
    (child 2 (text 1 (codes "value") (count 3 2 (count 4 1 (count 5 5 (text 10 (codes "value") (ends []))))))
    (child 7 (count 7 1 (ends [])) (ends []))))
    ) (child 8 (text 1 (codes "_b") (ends [])) (ends [])))))
    )

map_bytes : examples.map_and_optional_bytes ≡ enc descriptor_shape file_set map_message
unfolding varint tag written word_bytes enc
map_bytes = refl

pub map_and_optional : examples.MapAndOptional
map_and_optional parts file t a b p m f g = (
  simp (
    p.files,
    p.file_fits.name,
    p.file_fits.package_name,
    p.file_fits.imports,
    p.file_fits.enums,
    p.file_fits.services,
    p.file_fits.options,
    p.file_fits.types,
    p.types,
    m.no_types,
    m.no_enums,
    m.no_oneofs,
    m.no_reserved_numbers,
    m.no_reserved_names,
    m.deprecated_unsaid,
    m.has_fields,
    m.has_declared,
    m.has_name,
    f.has_number,
    f.has_presence,
    f.has_element,
    f.states_optional,
    f.packed_unsaid,
    f.deprecated_unsaid,
    f.in_no_oneof,
    f.has_json_name,
    f.has_name,
    g.has_number,
    g.has_presence,
    g.has_element,
    g.states_optional,
    g.packed_unsaid,
    g.deprecated_unsaid,
    g.in_no_oneof,
    g.has_json_name,
    g.has_name,
  ) map_bytes,
  lit≤ tt,
)
