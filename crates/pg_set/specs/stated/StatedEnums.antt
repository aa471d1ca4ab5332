-- The enums that a set states, as a function of its messages (descriptor.proto, `EnumDescriptorProto`).
use Rattle.std.specs.Prelude.{map}
use Rattle.pg_schema.specs.declared.parts.enum_type.ReservedValues.{ReservedValues}
use Rattle.pg_dyn.specs.message.Message.{Message}
use Rattle.pg_set.specs.stated.Outlines.{Row}
use Rattle.pg_set.specs.declared.descriptor.proto.TheConstants as proto
use Rattle.pg_set.specs.stated.SetMessages.{children_at, maybe_flag_at, number_at, options_at, text_at, texts_at}
use Rattle.pg_set.specs.stated.StatedNames.{undotted}
use Rattle.pg_set.specs.stated.Views.{EnumView, ValueView}

abbrev pub value : Message → ValueView
value m = record {
  name = text_at proto.VALUE_NAME m;
  number = number_at proto.VALUE_NUMBER m;
  options = record { deprecated = maybe_flag_at proto.VALUE_DEPRECATED (options_at proto.VALUE_OPTIONS m) };
}

-- both ends are reserved too
abbrev pub range : Message → ReservedValues
range m = record { first = number_at proto.RANGE_START m; last = number_at proto.RANGE_END m }

-- the enum of that name
abbrev pub enum_type : Row → EnumView
enum_type r = record {
  name = undotted r.0;
  values = map value (children_at proto.ENUM_VALUE r.1);
  reserved_numbers = map range (children_at proto.ENUM_RESERVED_RANGE r.1);
  reserved_names = texts_at proto.ENUM_RESERVED_NAME r.1;
  options = record {
    allow_alias = maybe_flag_at proto.ENUM_ALLOW_ALIAS (options_at proto.ENUM_OPTIONS r.1);
    deprecated = maybe_flag_at proto.ENUM_DEPRECATED (options_at proto.ENUM_OPTIONS r.1);
  };
}
