-- What a message declares, as a schema has it (proto3 language specification, "Message definition").
use Rattle.std.specs.Prelude.{◌≡◌, ℕ, Bool, List, map, flat_map, codes, Option, string_bytes}
use Rattle.std.specs.List.Sorted.{IsPermutation, IsNonDecreasingBy}
use Rattle.pg_schema.specs.declared.parts.field.EnumId.{EnumId}
use Rattle.pg_schema.specs.declared.parts.field.Field as schema
use Rattle.pg_schema.specs.declared.parts.field.TypeId.{TypeId}
use Rattle.pg_schema.specs.declared.parts.message_type.MessageType as types
use Rattle.pg_schema.specs.declared.parts.message_type.ReservedFields.{ReservedFields}
use Rattle.pg_schema.specs.declared.parts.options.MessageOptions.{MessageOptions}
use Rattle.pg_link.specs.declared.uses.target.Target.{Target}
use Rattle.pg_check.specs.parts.MadeFields.{MadeField, field, made_field, made_number}
use Rattle.pg_check.specs.parts.MadeNumbers.{field_range}
use Rattle.pg_check.specs.parts.MadeOptions.{flag_of}
use Rattle.pg_check.specs.rules.Members.{members, oneof_in as declared_oneof}
use Rattle.pg_check.specs.rules.Messages as rules
use Rattle.pg_syntax.specs.declared.tree as tree
use Rattle.pg_syntax.specs.declared.tree.Part.{Part}

abbrev pub made_fields : (ℕ → Option Target) → List Part → List MadeField
made_fields targets body = map (made_field targets) (members body)

-- the fields' numbers in order of declaration
abbrev pub declared : List Part → List ℕ
declared body = map made_number (members body)

abbrev pub oneof_in : Part → List (List ℕ)
oneof_in p = map (λ o. string_bytes o.name.text) (declared_oneof p)

abbrev pub oneofs : List Part → List (List ℕ)
oneofs body = flat_map oneof_in body

abbrev pub setting_in : Part → List tree.Setting.Setting
setting_in p = map (λ o. o.setting) (rules.option_in p)

abbrev pub body_settings : List Part → List tree.Setting.Setting
body_settings body = flat_map setting_in body

abbrev pub deprecated : List Part → Option Bool
deprecated body = flag_of (codes "deprecated") (body_settings body)

abbrev pub message_options : List Part → MessageOptions
message_options body = record { deprecated = deprecated body }

abbrev pub reserved_numbers : List Part → List ReservedFields
reserved_numbers body = map field_range (rules.items body)

-- the fields of a message type: those that are declared, by their numbers
pub record AreFields (made : List MadeField) (fields : List schema.Field) : Type 0 where
  pub same : IsPermutation made (map field fields)
  pub by_number : IsNonDecreasingBy (λ (f : schema.Field). f.number) fields

-- the message type of this name and body, with these message types and enums in it
pub record IsMessage (targets : ℕ → Option Target) (full : List ℕ) (body : List Part) (nested : List TypeId)
    (enums : List EnumId) (t : types.MessageType) : Type 0 where
  pub name : string_bytes t.name ≡ full
  pub fields : AreFields (made_fields targets body) t.fields.items
  pub declared : t.declared.items ≡ declared body
  pub oneofs : map string_bytes t.oneofs.items ≡ oneofs body
  pub nested_types : t.nested_types.items ≡ nested
  pub nested_enums : t.nested_enums.items ≡ enums
  pub reserved_numbers : t.reserved_numbers.items ≡ reserved_numbers body
  pub reserved_names : map string_bytes t.reserved_names.items ≡ rules.reserved_names body
  pub options : t.options ≡ message_options body
