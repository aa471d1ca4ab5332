-- The worked examples, by computation.
use Rattle.std.proofs.Common.{false, true, refl, arith, inl, inr, lit≤}
use Rattle.std.specs.Str.{is_utf8, chars}
use Rattle.pg_wire.specs.Reading.{exactly, row}
use Rattle.pg_wire.specs.Varint.{varint_at, varint}
use Rattle.pg_wire.specs.Words.{signed, unzigzag}
use Rattle.pg_wire.specs.Records.{tag_parts, record_at, records_of, tag, written}
use Rattle.pg_dyn.specs.word.Coding.{word_bytes, word_in}
use Rattle.pg_dyn.specs.encoding.Encoding.{enc}
use Rattle.pg_dyn.specs.reading.Decoding.{dec}
use Rattle.pg_dyn.specs.views.Comparison.{same}
use Rattle.pg_dyn.specs.views.Breaking.{is_kept}
use Rattle.pg_schema.specs.declared.parts.field.Element.TheVariants as elements
use Rattle.pg_schema.specs.declared.parts.field.Scalar.TheVariants.{Int32, Uint32}
use Rattle.pg_schema.specs.declared.parts.field.Scalar.TheVariants as scalars
use Rattle.pg_schema.specs.declared.parts.field.Presence.TheVariants.{Implicit, Explicit, Repeated, Map}
use Rattle.pg_dyn.specs.laws.Examples as examples
use Rattle.pg_dyn.specs.laws.Examples.{WorkedExamples, first, field, scalar, member}

int32_to_uint32 : examples.Int32ToUint32
unfolding is_utf8 chars exactly row varint_at varint signed unzigzag tag_parts record_at records_of tag written word_bytes word_in enc dec same is_kept
int32_to_uint32 = record {
  written_as = refl;
  breaks = record {
    is_message = (record { field = scalar 1 Implicit Int32; found = refl; key_fits = refl; before = tt; alone = tt }, (omega arith, refl), tt);
    is_plain = tt;
    has_encoding = lit≤ tt;
    not_kept = refl;
  };
}

uint32_to_int32 : examples.Uint32ToInt32
unfolding is_utf8 chars exactly row varint_at varint signed unzigzag tag_parts record_at records_of tag written word_bytes word_in enc dec same is_kept
uint32_to_int32 = record {
  written_as = refl;
  breaks = record {
    is_message = (record { field = scalar 1 Implicit Uint32; found = refl; key_fits = refl; before = tt; alone = tt }, (omega arith, refl), tt);
    is_plain = tt;
    has_encoding = lit≤ tt;
    not_kept = refl;
  };
}

int32_to_bool : examples.Int32ToBool
unfolding is_utf8 chars exactly row varint_at varint signed unzigzag tag_parts record_at records_of tag written word_bytes word_in enc dec same is_kept
int32_to_bool = record {
  written_as = refl;
  breaks = record {
    is_message = (record { field = scalar 1 Implicit Int32; found = refl; key_fits = refl; before = tt; alone = tt }, (omega arith, refl), tt);
    is_plain = tt;
    has_encoding = lit≤ tt;
    not_kept = refl;
  };
}

same_type : examples.SameType
unfolding is_utf8 chars exactly row varint_at varint signed unzigzag tag_parts record_at records_of tag written word_bytes word_in enc dec same is_kept
same_type = record {
  is_message = (record { field = scalar 1 Implicit Int32; found = refl; key_fits = refl; before = tt; alone = tt }, (omega arith, refl), tt);
  is_plain = tt;
  written_as = refl;
  kept = refl;
}

same_oneof : examples.SameOneof
unfolding is_utf8 chars exactly row varint_at varint signed unzigzag tag_parts record_at records_of tag written word_bytes word_in enc dec same is_kept
same_oneof = record {
  is_message = (record { field = member 2 Int32; found = refl; key_fits = refl; before = tt; alone = tt }, (omega arith, tt), tt);
  is_plain = tt;
  written_as = refl;
  kept = refl;
}

same_tree : examples.SameTree
unfolding is_utf8 chars exactly row varint_at varint signed unzigzag tag_parts record_at records_of tag written word_bytes word_in enc dec same is_kept
same_tree = record {
  is_message = (record { field = field 2 (Repeated false) (elements.Message first); found = refl; key_fits = refl; before = tt; alone = tt }, first, refl, (record { field = field 1 Explicit (elements.Message first); found = refl; key_fits = refl; before = tt; alone = tt }, first, refl, tt, tt), tt);
  is_plain = ((tt, tt), tt);
  written_as = refl;
  kept = refl;
}

optional_text_to_text : examples.OptionalTextToText
unfolding is_utf8 chars exactly row varint_at varint signed unzigzag tag_parts record_at records_of tag written word_bytes word_in enc dec same is_kept
optional_text_to_text = record {
  is_message = (record { field = scalar 1 Explicit scalars.String; found = refl; key_fits = refl; before = tt; alone = tt }, (refl, tt), tt);
  is_plain = tt;
  written_as = refl;
  kept = refl;
}

optional_text_to_message : examples.OptionalTextToMessage
unfolding is_utf8 chars exactly row varint_at varint signed unzigzag tag_parts record_at records_of tag written word_bytes word_in enc dec same is_kept
optional_text_to_message = record {
  written_as = refl;
  breaks = record {
    is_message = (record { field = scalar 1 Explicit scalars.String; found = refl; key_fits = refl; before = tt; alone = tt }, (refl, tt), tt);
    is_plain = tt;
    has_encoding = lit≤ tt;
    not_kept = refl;
  };
}

bytes_to_text : examples.BytesToText
unfolding is_utf8 chars exactly row varint_at varint signed unzigzag tag_parts record_at records_of tag written word_bytes word_in enc dec same is_kept
bytes_to_text = record {
  written_as = refl;
  breaks = record {
    is_message = (record { field = scalar 1 Implicit scalars.Bytes; found = refl; key_fits = refl; before = tt; alone = tt }, ((omega arith, tt), refl), tt);
    is_plain = tt;
    has_encoding = lit≤ tt;
    not_kept = refl;
  };
}

texts_to_optional_text : examples.TextsToOptionalText
unfolding is_utf8 chars exactly row varint_at varint signed unzigzag tag_parts record_at records_of tag written word_bytes word_in enc dec same is_kept
texts_to_optional_text = record {
  written_as = refl;
  breaks = record {
    is_message = (record { field = scalar 1 (Repeated false) scalars.String; found = refl; key_fits = refl; before = (inr (refl, tt), tt); alone = ((λ g found. refl), tt) }, (refl, tt), (record { field = scalar 1 (Repeated false) scalars.String; found = refl; key_fits = refl; before = tt; alone = tt }, (refl, tt), tt));
    is_plain = tt;
    has_encoding = lit≤ tt;
    not_kept = refl;
  };
}

texts_to_text : examples.TextsToText
unfolding is_utf8 chars exactly row varint_at varint signed unzigzag tag_parts record_at records_of tag written word_bytes word_in enc dec same is_kept
texts_to_text = record {
  written_as = refl;
  breaks = record {
    is_message = (record { field = scalar 1 (Repeated false) scalars.String; found = refl; key_fits = refl; before = tt; alone = tt }, (refl, tt), tt);
    is_plain = tt;
    has_encoding = lit≤ tt;
    not_kept = refl;
  };
}

packed_to_optional : examples.PackedToOptional
unfolding is_utf8 chars exactly row varint_at varint signed unzigzag tag_parts record_at records_of tag written word_bytes word_in enc dec same is_kept
packed_to_optional = record {
  written_as = refl;
  breaks = record {
    is_message = (record { field = scalar 1 (Repeated true) Int32; found = refl; key_fits = refl; before = tt; alone = tt }, (omega arith, tt), tt);
    is_plain = tt;
    has_encoding = lit≤ tt;
    not_kept = refl;
  };
}

unpacked_to_optional : examples.UnpackedToOptional
unfolding is_utf8 chars exactly row varint_at varint signed unzigzag tag_parts record_at records_of tag written word_bytes word_in enc dec same is_kept
unpacked_to_optional = record {
  written_as = refl;
  breaks = record {
    is_message = (record { field = scalar 1 (Repeated false) Int32; found = refl; key_fits = refl; before = (inr (refl, tt), tt); alone = ((λ g found. refl), tt) }, (omega arith, tt), (record { field = scalar 1 (Repeated false) Int32; found = refl; key_fits = refl; before = tt; alone = tt }, (omega arith, tt), tt));
    is_plain = tt;
    has_encoding = lit≤ tt;
    not_kept = refl;
  };
}

two_into_one_oneof : examples.TwoIntoOneOneof
unfolding is_utf8 chars exactly row varint_at varint signed unzigzag tag_parts record_at records_of tag written word_bytes word_in enc dec same is_kept
two_into_one_oneof = record {
  written_as = refl;
  breaks = record {
    is_message = (record { field = scalar 1 Implicit Int32; found = refl; key_fits = refl; before = (inl (omega arith), tt); alone = ((λ g found. refl), tt) }, (omega arith, refl), (record { field = scalar 2 Implicit Int32; found = refl; key_fits = refl; before = tt; alone = tt }, (omega arith, refl), tt));
    is_plain = tt;
    has_encoding = lit≤ tt;
    not_kept = refl;
  };
}

two_optional_into_one_oneof : examples.TwoOptionalIntoOneOneof
unfolding is_utf8 chars exactly row varint_at varint signed unzigzag tag_parts record_at records_of tag written word_bytes word_in enc dec same is_kept
two_optional_into_one_oneof = record {
  written_as = refl;
  breaks = record {
    is_message = (record { field = scalar 1 Explicit Int32; found = refl; key_fits = refl; before = (inl (omega arith), tt); alone = ((λ g found. refl), tt) }, (omega arith, tt), (record { field = scalar 2 Explicit Int32; found = refl; key_fits = refl; before = tt; alone = tt }, (omega arith, tt), tt));
    is_plain = tt;
    has_encoding = lit≤ tt;
    not_kept = refl;
  };
}

child_breaks : examples.ChildBreaks
unfolding is_utf8 chars exactly row varint_at varint signed unzigzag tag_parts record_at records_of tag written word_bytes word_in enc dec same is_kept
child_breaks = record {
  written_as = refl;
  breaks = record {
    is_message = (record { field = field 2 Explicit (elements.Message first); found = refl; key_fits = refl; before = tt; alone = tt }, first, refl, (record { field = scalar 1 Implicit Uint32; found = refl; key_fits = refl; before = tt; alone = tt }, (omega arith, refl), tt), tt);
    is_plain = (tt, tt);
    has_encoding = lit≤ tt;
    not_kept = refl;
  };
}

bool_to_sint32 : examples.BoolToSint32
unfolding is_utf8 chars exactly row varint_at varint signed unzigzag tag_parts record_at records_of tag written word_bytes word_in enc dec same is_kept
bool_to_sint32 = record {
  written_as = refl;
  breaks = record {
    is_message = (record { field = scalar 3 Implicit scalars.Bool; found = refl; key_fits = refl; before = tt; alone = tt }, (omega arith, refl), tt);
    is_plain = tt;
    has_encoding = lit≤ tt;
    not_kept = refl;
  };
}

gap_at_number_16 : examples.GapAtNumber16
unfolding is_utf8 chars exactly row varint_at varint signed unzigzag tag_parts record_at records_of tag written word_bytes word_in enc dec same is_kept
gap_at_number_16 = record {
  written_as = refl;
  breaks = record {
    is_message = (record { field = scalar 16 Implicit Int32; found = refl; key_fits = refl; before = tt; alone = tt }, (omega arith, refl), tt);
    is_plain = tt;
    has_encoding = lit≤ tt;
    not_kept = refl;
  };
}

gap_at_the_greatest_number : examples.GapAtTheGreatestNumber
unfolding is_utf8 chars exactly row varint_at varint signed unzigzag tag_parts record_at records_of tag written word_bytes word_in enc dec same is_kept
gap_at_the_greatest_number = record {
  written_as = refl;
  breaks = record {
    is_message = (record { field = scalar 536870911 Implicit Int32; found = refl; key_fits = refl; before = tt; alone = tt }, (omega arith, refl), tt);
    is_plain = tt;
    has_encoding = lit≤ tt;
    not_kept = refl;
  };
}

map_key_to_int32 : examples.MapKeyToInt32
unfolding is_utf8 chars exactly row varint_at varint signed unzigzag tag_parts record_at records_of tag written word_bytes word_in enc dec same is_kept
map_key_to_int32 = record {
  written_as = refl;
  breaks = record {
    is_message = (record { field = scalar 1 (Map Uint32) scalars.String; found = refl; key_fits = omega arith; before = tt; alone = tt }, (refl, tt), tt);
    is_plain = tt;
    has_encoding = lit≤ tt;
    not_kept = refl;
  };
}

map_key_is_not_accepted : examples.MapKeyIsNotAccepted
unfolding is_utf8 chars exactly row varint_at varint signed unzigzag tag_parts record_at records_of tag written word_bytes word_in enc dec same is_kept
map_key_is_not_accepted = record {
  written_as = refl;
  breaks = record {
    is_message = (record { field = scalar 1 (Map Int32) scalars.Bool; found = refl; key_fits = omega arith; before = tt; alone = tt }, (omega arith, tt), tt);
    is_plain = tt;
    has_encoding = lit≤ tt;
    not_kept = refl;
  };
}

lacked_field_comes_back : examples.LackedFieldComesBack
unfolding is_utf8 chars exactly row varint_at varint signed unzigzag tag_parts record_at records_of tag written word_bytes word_in enc dec same is_kept lib.Utf8.encode
lacked_field_comes_back = record {
  is_message = (record { field = scalar 1 Implicit Int32; found = refl; key_fits = refl; before = (inl (omega arith), tt); alone = ((λ g found. refl), tt) }, (omega arith, refl), (record { field = scalar 2 Implicit scalars.String; found = refl; key_fits = refl; before = tt; alone = tt }, (refl, refl), tt));
  is_plain = tt;
  written_as = refl;
  kept = refl;
}

pub worked_examples : WorkedExamples
unfolding is_utf8 chars exactly row varint_at varint signed unzigzag tag_parts record_at records_of tag written word_bytes word_in enc dec same is_kept
worked_examples = record {
  int32_to_uint32 = int32_to_uint32;
  uint32_to_int32 = uint32_to_int32;
  int32_to_bool = int32_to_bool;
  same_type = same_type;
  same_oneof = same_oneof;
  same_tree = same_tree;
  optional_text_to_text = optional_text_to_text;
  optional_text_to_message = optional_text_to_message;
  bytes_to_text = bytes_to_text;
  texts_to_optional_text = texts_to_optional_text;
  texts_to_text = texts_to_text;
  packed_to_optional = packed_to_optional;
  unpacked_to_optional = unpacked_to_optional;
  two_into_one_oneof = two_into_one_oneof;
  two_optional_into_one_oneof = two_optional_into_one_oneof;
  child_breaks = child_breaks;
  bool_to_sint32 = bool_to_sint32;
  gap_at_number_16 = gap_at_number_16;
  gap_at_the_greatest_number = gap_at_the_greatest_number;
  map_key_to_int32 = map_key_to_int32;
  map_key_is_not_accepted = map_key_is_not_accepted;
  lacked_field_comes_back = lacked_field_comes_back;
  unknown_stays_zero_goes = ((refl, refl), (refl, refl));
  packed_and_unpacked_are_alike = (refl, refl);
  child_records_are_merged = (refl, refl);
  later_entry_counts = ((refl, refl), (refl, refl));
  later_member_counts = (refl, refl);
  view_tells_numbers_apart = (refl, refl);
}
