-- The rules of a schema, as tests of what its parts say.
use Rattle.std.proofs.Common.{◌≡◌, ℕ, zero, suc, Bool, true, false, nat_eq, nat_lt, ◌&&◌, List, [], ◌∷◌, ◌++◌, map, length, is_some, refl, ap₂, rules}
use Rattle.std.specs.List.{list_all, list_any}
use Rattle.std.specs.String.{string_bytes}
use Rattle.pg_schema.specs.declared.parts.enum_type.EnumType.{EnumType}
use Rattle.pg_schema.specs.declared.parts.enum_type.EnumValue.{EnumValue}
use Rattle.pg_schema.specs.declared.parts.field.Field.{Field}
use Rattle.pg_schema.specs.declared.parts.file.File.{File}
use Rattle.pg_schema.specs.declared.parts.message_type.MessageType.{MessageType}
use Rattle.pg_schema.specs.declared.parts.options.OptionValue.{OptionValue}
use Rattle.pg_schema.specs.declared.parts.options.OptionValue.TheVariants as option_values
use Rattle.pg_schema.specs.declared.parts.service.Service.{Service}
use Rattle.pg_schema.specs.rules.Enums.{begins_with_zero, is_enum, is_zero}
use Rattle.pg_schema.specs.rules.Fields.{has_presence, is_field_number, is_known, is_oneof, is_packed, stated_or}
use Rattle.pg_schema.specs.rules.Files.{flag_options, is_file, is_method, is_of_kind, is_service, text_options}
use Rattle.pg_schema.specs.rules.Messages.{field_names, has_fields, has_oneofs, has_reserved, have_members, is_member, is_message_type, is_place}
use Rattle.pg_schema.specs.rules.Pairs.{are_distinct, is_rising}
use Rattle.pg_schema.specs.rules.TextSets.{are_named_once}
use Rattle.pg_schema.specs.rules.Uses.{from_lowest, is_reserved_range, is_used_once, is_value_range, reserved_use, reserved_values_use}
use Rattle.pg_schema.specs.rules.Words.{is_package, is_word}
use Rattle.pg_set.specs.stated.Views.{EnumView, FieldView, FileView, Flag, MethodView, Mode, OptionView, ServiceView, Text, TypeView, ValueOf, ValueView, enum_view, field_view, file_view, method_view, service_view, type_view, value_of, value_view}
use Rattle.pg_set.proofs.lemmas.lists.Seen.{all_seen, any_seen, length_seen, map_seen}

-- ---- fields and message types

abbrev pub field_holds : (oneofs types enums : ℕ) → FieldView → Bool
field_holds oneofs types enums v =
    is_field_number v.number && is_word v.name && has_presence v.presence v.element (is_some v.oneof) v.states_optional
    && is_packed v.presence v.element v.options.packed && is_known types enums v.element && is_oneof oneofs v.oneof

abbrev pub has_members : ℕ → List FieldView → Bool
has_members zero fields = true
has_members (suc place) fields = list_any (λ (v : FieldView). is_place place v.oneof) fields && has_members place fields

abbrev pub fields_hold : (types enums : ℕ) → TypeView → Bool
fields_hold types enums v =
    list_all (field_holds (length v.oneofs) types enums) v.fields && is_rising (0 ∷ map (λ (f : FieldView). f.number) v.fields)
    && (nat_eq (length v.declared) (length v.fields) && list_all (λ (f : FieldView). list_any (nat_eq f.number) v.declared) v.fields)

abbrev pub oneofs_hold : TypeView → Bool
oneofs_hold v = list_all is_word v.oneofs && has_members (length v.oneofs) v.fields

abbrev pub reserved_holds : TypeView → Bool
reserved_holds v =
    list_all is_reserved_range v.reserved_numbers
    && is_used_once false (map (λ (f : FieldView). record { first = f.number; last = f.number; is_reserved = false }) v.fields ++ map reserved_use v.reserved_numbers)
    && are_named_once (map (λ (f : FieldView). f.name) v.fields) v.reserved_names

abbrev pub type_holds : (types enums : ℕ) → TypeView → Bool
type_holds types enums v =
    fields_hold types enums v && oneofs_hold v && reserved_holds v && are_distinct (map (λ (f : FieldView). f.json_name) v.fields)

members_kept : (places : ℕ) (fs : List Field) → have_members places fs ≡ has_members places (map field_view fs)
members_kept zero fs = refl
members_kept (suc place) fs = ap₂ ◌&&◌ (any_seen field_view (is_member place) (λ v. is_place place v.oneof) (λ f. refl) fs) (members_kept place fs)

module _ (t : MessageType) where
  oneofs_length : length t.oneofs.items ≡ length (map string_bytes t.oneofs.items)
  oneofs_length = length_seen string_bytes t.oneofs.items

  fields_kept : (types enums : ℕ) → has_fields types enums t ≡ fields_hold types enums (type_view t)
  fields_kept types enums = search (rules, oneofs_length, all_seen, map_seen, length_seen)

  oneofs_kept : has_oneofs t ≡ oneofs_hold (type_view t)
  oneofs_kept = search (rules, all_seen, oneofs_length, members_kept)

  names_kept : field_names t.fields.items ≡ map (λ (f : FieldView). f.name) (map field_view t.fields.items)
  names_kept = map_seen field_view (λ f. string_bytes f.name) (λ v. v.name) (λ f. refl) t.fields.items

  reserved_kept : has_reserved t ≡ reserved_holds (type_view t)
  reserved_kept = search (rules, map_seen, names_kept)

  pub type_kept : (types enums : ℕ) → is_message_type types enums t ≡ type_holds types enums (type_view t)
  type_kept types enums = search (rules, fields_kept, oneofs_kept, reserved_kept, map_seen)

-- the numbers of the fields that are seen
pub numbers_seen : (numbers : List ℕ) (fields : List Field) (views : List FieldView)
    → numbers ≡ map (λ (f : Field). f.number) fields → map field_view fields ≡ views → numbers ≡ map (λ (v : FieldView). v.number) views
numbers_seen numbers fields views same seen = search (rules, map_seen)

-- ---- enums

abbrev pub starts_with_zero : List ValueView → Bool
starts_with_zero [] = false
starts_with_zero (v ∷ vs) = is_zero v.number

abbrev pub enum_holds : EnumView → Bool
enum_holds v =
    starts_with_zero v.values && list_all (λ (x : ValueView). is_word x.name) v.values && list_all is_value_range v.reserved_numbers
    && are_named_once (map (λ (x : ValueView). x.name) v.values) v.reserved_names
    && is_used_once (stated_or v.options.allow_alias false)
    (map (λ (x : ValueView). record { first = from_lowest x.number; last = from_lowest x.number; is_reserved = false }) v.values
    ++ map reserved_values_use v.reserved_numbers)

zero_kept : (vs : List EnumValue) → begins_with_zero vs ≡ starts_with_zero (map value_view vs)
zero_kept [] = refl
zero_kept (v ∷ vs) = refl

pub enum_kept : (e : EnumType) → is_enum e ≡ enum_holds (enum_view e)
enum_kept e = search (rules, zero_kept, all_seen, map_seen)

-- ---- files

abbrev kind_by : ℕ → ValueOf → Bool
kind_by number (Flag flag) = list_any (nat_eq number) flag_options
kind_by number (Mode mode) = nat_eq number 9
kind_by number (Text text) = list_any (nat_eq number) text_options

kind_kept : (number : ℕ) (value : OptionValue) → is_of_kind number value ≡ kind_by number (value_of value)
kind_kept number (option_values.Flag flag) = refl
kind_kept number (option_values.Mode mode) = refl
kind_kept number (option_values.Text text) = refl

abbrev pub file_holds : FileView → Bool
file_holds v =
    is_package v.package_name && is_rising (0 ∷ map (λ (o : OptionView). o.number) v.options)
    && list_all (λ (o : OptionView). kind_by o.number o.value) v.options

pub file_kept : (f : File) → is_file f ≡ file_holds (file_view f)
file_kept f = search (rules, map_seen, all_seen, kind_kept)

-- ---- services

abbrev pub method_holds : (types : ℕ) → MethodView → Bool
method_holds types m = is_word m.name && nat_lt m.input.index types && nat_lt m.output.index types

abbrev pub service_holds : (types : ℕ) → ServiceView → Bool
service_holds types s = list_all (method_holds types) s.methods

pub service_kept : (types : ℕ) (s : Service) → is_service types s ≡ service_holds types (service_view s)
service_kept types s = all_seen method_view (is_method types) (method_holds types) (λ m. refl) s.methods.items
