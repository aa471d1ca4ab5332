-- The fields that a set states, as a function of its messages (descriptor.proto, `FieldDescriptorProto`; proto3
-- language guide). Nothing where items, the oneof or the entry type of one aren't as they have to be.
use Rattle.std.specs.Prelude.{ℕ, ◌||◌, ◌&&◌, pos, Bool, not, nat_eq, List, filter, length, Option, Some, is_some, option_map, if◌then◌else◌}
use Rattle.std.specs.List.{list_all}
use Rattle.std.specs.Option.{option_and_then}
use Rattle.std.specs.Ordering.{int_eq}
use Rattle.std.specs.Str.{bytes_eq}
use Rattle.pg_schema.specs.declared.parts.field.Element.{Element}
use Rattle.pg_schema.specs.declared.parts.field.Presence.{Presence}
use Rattle.pg_schema.specs.declared.parts.field.Presence.TheVariants as presences
use Rattle.pg_schema.specs.declared.parts.field.Scalar.{Scalar}
use Rattle.pg_schema.specs.rules.DeclaredNames.{entry_name}
use Rattle.pg_schema.specs.rules.Fields.{is_message, stated_or}
use Rattle.pg_schema.specs.Shape.{is_map, is_packable}
use Rattle.pg_dyn.specs.message.Message.{Message}
use Rattle.pg_set.specs.writing.Fields.{message_code}
use Rattle.pg_set.specs.declared.descriptor.proto.TheConstants as proto
use Rattle.pg_set.specs.stated.SetMessages.{maybe_flag_at, maybe_text_at, natural, number_at, options_at, text_at}
use Rattle.pg_set.specs.stated.SetNames.{name_in}
use Rattle.pg_set.specs.stated.StatedEntries.{element, entry, says}
use Rattle.pg_set.specs.stated.StatedNames.{NameLookup, each, is_entry_type, meant, only_if}
use Rattle.pg_set.specs.stated.StatedOneofs.{oneof}
use Rattle.pg_set.specs.stated.TypeMessages.{is_optional, json_name_at, label_at}
use Rattle.pg_set.specs.stated.Views.{FieldView}

-- ---- how often items occur

abbrev pub packed_at : Message → Option Bool
packed_at m = maybe_flag_at proto.FIELD_PACKED (options_at proto.FIELD_OPTIONS m)

abbrev pub singular : Element → (member optional : Bool) → Presence
singular e member optional = if is_message e || member || optional then presences.Explicit else presences.Implicit

abbrev pub repeated : Element → (packed : Option Bool) → Presence
repeated e packed = presences.Repeated (stated_or packed (is_packable e))

-- that of a field which is no map; no `optional` field is repeated
abbrev pub presence : Message → Element → (member : Bool) → Option Presence
presence m e member =
    if int_eq (label_at m) (pos 3) then only_if (not (is_optional m)) (Some (repeated e (packed_at m))) else Some (singular e member (is_optional m))

abbrev pub Items : Type 0
Items = Presence × Element

abbrev pub plain_items : NameLookup → Message → (member : Bool) → Option Items
plain_items means m member = option_and_then (λ e. option_map (λ p. (p, e)) (presence m e member)) (element means m)

-- ---- maps

-- What the fields of a message type are made with: its qualified name; which of its oneofs are synthetic, and how many
-- fields name each; its entry types by their names.
pub record Owner : Type 0 where
  pub full : List ℕ
  pub synthetic : List Bool
  pub members : List ℕ
  pub entries : List ℕ → Option Message

-- the field's type is an entry type
abbrev pub is_map_field : NameLookup → Message → Bool
is_map_field means m =
    is_entry_type (meant means (maybe_text_at proto.FIELD_TYPE_NAME m))
    && int_eq (number_at proto.FIELD_TYPE m) (pos message_code)

-- it is repeated, and its type the entry type of its own name in its own message type
abbrev pub names_its_entry : Owner → Message → Bool
names_its_entry o m =
    int_eq (label_at m) (pos 3) && not (is_optional m)
    && says proto.FIELD_TYPE_NAME m (name_in o.full (entry_name (text_at proto.FIELD_NAME m)))

abbrev pub map_of : Scalar × Element → Items
map_of e = (presences.Map e.0, e.1)

abbrev pub map_items : NameLookup → Owner → Message → Option Items
map_items means o m =
    only_if (names_its_entry o m) (option_and_then (λ e. option_map map_of (entry means e)) (o.entries (entry_name (text_at proto.FIELD_NAME m))))

-- ---- fields

abbrev pub items : NameLookup → Owner → Message → (member : Bool) → Option Items
items means o m member = if is_map_field means m then map_items means o m else plain_items means m member

abbrev pub field_of : Message → (own : Option ℕ) → Items → FieldView
field_of m own items = record {
  number = natural (number_at proto.FIELD_NUMBER m);
  name = text_at proto.FIELD_NAME m;
  presence = items.0;
  element = items.1;
  oneof = own;
  json_name = json_name_at m;
  states_optional = is_optional m;
  options = record { packed = packed_at m; deprecated = maybe_flag_at proto.FIELD_DEPRECATED (options_at proto.FIELD_OPTIONS m) };
}

abbrev pub field : NameLookup → Owner → Message → Option FieldView
field means o m =
    option_and_then (λ own. option_map (field_of m own) (items means o m (is_some own))) (oneof o.synthetic o.members m)

abbrev pub is_map_view : FieldView → Bool
is_map_view f = is_map f.presence

-- the field is a map of the entry type of that name
abbrev pub is_map_of : (entry : List ℕ) → FieldView → Bool
is_map_of entry f = is_map_view f && bytes_eq (entry_name f.name) entry

-- just one of the fields is a map of the entry type
abbrev pub is_named_once : List FieldView → (entry : Message) → Bool
is_named_once fs entry = nat_eq (length (filter (is_map_of (text_at proto.MESSAGE_NAME entry)) fs)) 1

-- the fields of a message type with these entry types: each of those is that of just one field
abbrev pub fields : NameLookup → Owner → (entries : List Message) → List Message → Option (List FieldView)
fields means o entries ms =
    option_and_then (λ fs. only_if (list_all (is_named_once fs) entries) (Some fs)) (each (field means o) ms)
