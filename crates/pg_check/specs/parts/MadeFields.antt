-- What a field declares, as a schema has it (proto3 language specification, "Normal field", "Map field"; proto3
-- language guide, "Field Presence", "JSON Mapping"; Encoding guide, "Packed Repeated Fields").
use Rattle.std.specs.Prelude.{ℕ, Bool, true, false, ◌||◌, List, codes, Option, Some, None, string_bytes, is_some, if◌then◌else◌}
use Rattle.std.specs.Option.{option_map}
use Rattle.pg_schema.specs.declared.parts.field.Element.{Element}
use Rattle.pg_schema.specs.declared.parts.field.Element.TheVariants as elements
use Rattle.pg_schema.specs.declared.parts.field.Field as schema
use Rattle.pg_schema.specs.declared.parts.field.Presence.{Presence}
use Rattle.pg_schema.specs.declared.parts.field.Presence.TheVariants as presences
use Rattle.pg_schema.specs.declared.parts.field.Scalar.{Scalar}
use Rattle.pg_schema.specs.declared.parts.field.Scalar.TheVariants as scalars
use Rattle.pg_schema.specs.declared.parts.options.FieldOptions.{FieldOptions}
use Rattle.pg_schema.specs.rules.Fields.{is_message, stated_or}
use Rattle.pg_schema.specs.Shape.{is_packable}
use Rattle.pg_link.specs.declared.uses.target.Target.{Target}
use Rattle.pg_link.specs.declared.uses.target.Target.TheVariants as targets
use Rattle.pg_check.specs.parts.MadeNumbers.{field_number, index_of}
use Rattle.pg_check.specs.parts.MadeOptions.{flag_of}
use Rattle.pg_check.specs.rules.Members.{DeclaredField, Plain, Mapped, json_name, name_of, number_of, settings, settings_of}
use Rattle.pg_check.specs.rules.Numbers.{rank}
use Rattle.pg_check.specs.rules.Types.{scalar_named}
use Rattle.pg_syntax.specs.declared.tree as tree
use Rattle.pg_syntax.specs.declared.tree.Label.{Label}
use Rattle.pg_syntax.specs.declared.tree.Label.TheVariants as labels

pub record MadeField : Type 0 where
  pub number : ℕ
  pub name : List ℕ
  pub presence : Presence
  pub element : Element
  pub oneof : Option ℕ
  pub json_name : List ℕ
  pub states_optional : Bool
  pub options : FieldOptions

abbrev pub field : schema.Field → MadeField
field f = record {
  number = f.number;
  name = string_bytes f.name;
  presence = f.presence;
  element = f.element;
  oneof = f.oneof;
  json_name = string_bytes f.json_name;
  states_optional = f.states_optional;
  options = f.options;
}

-- ---- elements

-- A scalar, or the message type or enum that is named. A name that names none comes to int32; linked files have no
-- such.
abbrev pub element_of : Option Scalar → Option Target → Element
element_of (Some s) target = elements.Scalar s
element_of None None = elements.Scalar scalars.Int32
element_of None (Some (targets.Message n)) = elements.Message (record { index = index_of n })
element_of None (Some (targets.Enum n)) = elements.Enum (record { index = n })

abbrev pub element : (ℕ → Option Target) → tree.TypeName.TypeName → Element
element targets name = element_of (scalar_named name) (targets name.span.from)

-- what the items are; of a map, what its values are
abbrev pub element_in : (ℕ → Option Target) → DeclaredField → Element
element_in targets (Plain f oneof) = element targets f.type_name
element_in targets (Mapped m oneof) = element targets m.value

abbrev pub key_or : Option Scalar → Scalar
key_or None = scalars.Int32
key_or (Some s) = s

-- ---- presence

abbrev pub options : DeclaredField → FieldOptions
options m = record {
  packed = flag_of (codes "packed") (settings (settings_of m));
  deprecated = flag_of (codes "deprecated") (settings (settings_of m));
}

-- a singular message and a member of a oneof are explicit without `optional`
abbrev pub labelled : Option Label → (member : Bool) → Element → Option Bool → Presence
labelled (Some labels.Repeated) member element stated = presences.Repeated (stated_or stated (is_packable element))
labelled (Some labels.Optional) member element stated = presences.Explicit
labelled None member element stated = if member || is_message element then presences.Explicit else presences.Implicit

abbrev pub presence : (ℕ → Option Target) → DeclaredField → Presence
presence targets (Plain f oneof) =
    labelled f.label (is_some oneof) (element targets f.type_name) (flag_of (codes "packed") (settings f.settings))
presence targets (Mapped m oneof) = presences.Map (key_or (scalar_named m.key.value))

abbrev pub is_optional : Option Label → Bool
is_optional None = false
is_optional (Some labels.Repeated) = false
is_optional (Some labels.Optional) = true

abbrev pub states_optional : DeclaredField → Bool
states_optional (Plain f oneof) = is_optional f.label
states_optional (Mapped m oneof) = false

abbrev pub oneof_of : DeclaredField → Option ℕ
oneof_of (Plain f oneof) = oneof
oneof_of (Mapped m oneof) = oneof

-- ---- the field

abbrev pub made_number : DeclaredField → ℕ
made_number m = field_number (rank false (number_of m))

abbrev pub made_field : (ℕ → Option Target) → DeclaredField → MadeField
made_field targets m = record {
  number = made_number m;
  name = string_bytes (name_of m).text;
  presence = presence targets m;
  element = element_in targets m;
  oneof = option_map index_of (oneof_of m);
  json_name = json_name m;
  states_optional = states_optional m;
  options = options m;
}
