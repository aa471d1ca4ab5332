-- The worked examples, by computation.
use Rattle.std.proofs.Common.{[], ◌∷◌, Some, None, refl}
use Rattle.std.specs.Prelude.{pos, negsuc}
use Rattle.std.specs.Str.{is_utf8, chars}
use Rattle.std.specs.Fmt.{digits}
use Rattle.hex.proofs.OnLiterals.{hex_on_literals}
use Rattle.pg_wire.specs.Reading.{exactly, row}
use Rattle.pg_wire.specs.Varint.{varint_at, varint}
use Rattle.pg_wire.specs.Words.{signed, unzigzag}
use Rattle.pg_wire.specs.Records.{tag_parts, record_at, records_of, tag, written}
use Rattle.pg_wire.specs.declared.record.WireType.TheVariants.{Varint, Len}
use Rattle.pg_dyn.specs.word.Coding.{word_bytes, word_in}
use Rattle.pg_dyn.specs.encoding.Encoding.{enc}
use Rattle.pg_dyn.specs.reading.Decoding.{dec}
use Rattle.pg_dyn.specs.message.Message.{ends, holds, nests, Int, F32, F64, Bytes}
use Rattle.pg_dyn.specs.laws.FaultExamples.{FaultExamples}
use Rattle.pg_show.specs.Worked as worked

unknown_record : worked.UnknownRecord
unfolding is_utf8 chars exactly row varint_at varint signed unzigzag tag_parts record_at records_of tag written word_bytes word_in enc dec hex_on_literals digits
unknown_record = record { message = holds 1 None (Int (pos 5)) (ends (written 2 Len (120 ∷ []) ∷ [])); read = refl; is_shown = refl }

zero : worked.Zero
unfolding is_utf8 chars exactly row varint_at varint signed unzigzag tag_parts record_at records_of tag written word_bytes word_in enc dec hex_on_literals digits
zero = record { message = ends []; read = refl; is_shown = refl }

packed_list : worked.PackedList
unfolding is_utf8 chars exactly row varint_at varint signed unzigzag tag_parts record_at records_of tag written word_bytes word_in enc dec hex_on_literals digits
packed_list = record { message = holds 1 None (Int (pos 1)) (holds 1 None (Int (pos 2)) (holds 1 None (Int (pos 3)) (holds 1 None (Int (pos 4)) (ends [])))); read = refl; is_shown = refl }

child : worked.Child
unfolding is_utf8 chars exactly row varint_at varint signed unzigzag tag_parts record_at records_of tag written word_bytes word_in enc dec hex_on_literals digits
child = record { message = nests 1 None (holds 2 None (Int (pos 5)) (ends [])) (ends []); read = refl; is_shown = refl }

child_with_unknown : worked.ChildWithUnknown
unfolding is_utf8 chars exactly row varint_at varint signed unzigzag tag_parts record_at records_of tag written word_bytes word_in enc dec hex_on_literals digits
child_with_unknown = record { message = nests 1 None (nests 1 None (ends (written 3 Varint (1 ∷ []) ∷ [])) (ends [])) (holds 2 None (Int (pos 3)) (ends [])); read = refl; is_shown = refl }

entry_twice : worked.EntryTwice
unfolding is_utf8 chars exactly row varint_at varint signed unzigzag tag_parts record_at records_of tag written word_bytes word_in enc dec hex_on_literals digits
entry_twice = record { message = holds 1 (Some (Int (pos 1))) (Int (pos 3)) (ends []); read = refl; is_shown = refl }

empty_entry : worked.EmptyEntry
unfolding is_utf8 chars exactly row varint_at varint signed unzigzag tag_parts record_at records_of tag written word_bytes word_in enc dec hex_on_literals digits
empty_entry = record { message = holds 1 (Some (Int (pos 0))) (Int (pos 0)) (ends []); read = refl; is_shown = refl }

entry_of_a_message : worked.EntryOfAMessage
unfolding is_utf8 chars exactly row varint_at varint signed unzigzag tag_parts record_at records_of tag written word_bytes word_in enc dec hex_on_literals digits
entry_of_a_message = record { message = nests 1 (Some (Int (pos 1))) (ends []) (ends []); read = refl; is_shown = refl }

last_of_a_oneof : worked.LastOfAOneof
unfolding is_utf8 chars exactly row varint_at varint signed unzigzag tag_parts record_at records_of tag written word_bytes word_in enc dec hex_on_literals digits
last_of_a_oneof = record { message = holds 2 None (Int (pos 2)) (ends []); read = refl; is_shown = refl }

below_zero : worked.BelowZero
unfolding is_utf8 chars exactly row varint_at varint signed unzigzag tag_parts record_at records_of tag written word_bytes word_in enc dec hex_on_literals digits
below_zero = record { message = holds 1 None (Int (negsuc 1)) (ends []); read = refl; is_shown = refl }

one_as_a_float : worked.OneAsAFloat
unfolding is_utf8 chars exactly row varint_at varint signed unzigzag tag_parts record_at records_of tag written word_bytes word_in enc dec hex_on_literals digits
one_as_a_float = record { message = holds 1 None (F32 1065353216) (ends []); read = refl; is_shown = refl }

one_as_a_double : worked.OneAsADouble
unfolding is_utf8 chars exactly row varint_at varint signed unzigzag tag_parts record_at records_of tag written word_bytes word_in enc dec hex_on_literals digits
one_as_a_double = record { message = holds 1 None (F64 4607182418800017408) (ends []); read = refl; is_shown = refl }

empty_text : worked.EmptyText
unfolding is_utf8 chars exactly row varint_at varint signed unzigzag tag_parts record_at records_of tag written word_bytes word_in enc dec hex_on_literals digits
empty_text = record { message = holds 1 None (Bytes []) (ends []); read = refl; is_shown = refl }

some_bytes : worked.SomeBytes
unfolding is_utf8 chars exactly row varint_at varint signed unzigzag tag_parts record_at records_of tag written word_bytes word_in enc dec hex_on_literals digits
some_bytes = record { message = holds 1 None (Bytes (255 ∷ [])) (ends []); read = refl; is_shown = refl }

pub worked_rows : FaultExamples → worked.WorkedRows
unfolding hex_on_literals
worked_rows faults = record {
  unknown_record = unknown_record;
  zero = zero;
  packed_list = packed_list;
  child = child;
  child_with_unknown = child_with_unknown;
  entry_twice = entry_twice;
  empty_entry = empty_entry;
  entry_of_a_message = entry_of_a_message;
  last_of_a_oneof = last_of_a_oneof;
  below_zero = below_zero;
  one_as_a_float = one_as_a_float;
  one_as_a_double = one_as_a_double;
  empty_text = empty_text;
  some_bytes = some_bytes;
  cut_off = faults.body_cut_off;
  varint_too_long = faults.varint_too_long;
  group = faults.group;
  both_cases = refl;
  no_bytes = refl;
  empty_word = refl;
  odd_word = refl;
  another_character = refl;
  two_hyphens = refl;
  lower_case = refl;
}
