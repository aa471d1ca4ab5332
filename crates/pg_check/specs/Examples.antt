-- What the rules take and what they refuse, by small examples, with offsets for positions. A file of every construct is
-- tested: its tree is long to write out.
use Rattle.std.specs.Prelude.{◌≡◌, ℕ, pos, negsuc, Bool, true, false, List, [], ◌∷◌, codes, flat_map, length, Option, Some, None, string_bytes}
use Rattle.pg_schema.specs.JsonName.{default_json_name}
use Rattle.pg_schema.specs.ScalarWords.{scalar_of}
use Rattle.pg_link.specs.declared.uses.target.Target.{Target}
use Rattle.pg_check.specs.declared.rules.numbers.Keyed.{Keyed}
use Rattle.pg_check.specs.declared.rules.numbers.Numbers.{Numbers}
use Rattle.pg_check.specs.declared.rules.options.Kind.TheVariants as kinds
use Rattle.pg_check.specs.declared.rules.options.Owner.{Owner}
use Rattle.pg_check.specs.declared.rules.options.Owner.TheVariants as owners
use Rattle.pg_check.specs.parts.MadeNumbers.{field_number, value_number}
use Rattle.pg_check.specs.parts.MadeParts.{Source}
use Rattle.pg_check.specs.rules.Enums as enums
use Rattle.pg_check.specs.rules.Files.{file_lines, rpc_body, rpc_lines, service_lines}
use Rattle.pg_check.specs.rules.KeepsRules.{EnumKeeps, FieldsKeep, KeepsRules, MessageKeeps, OptionsKeep, ServiceKeeps, ValuesKeep, has_key, is_packed_rightly, may_be_member, member_options, oneof_keeps, source_messages, value_options}
use Rattle.pg_check.specs.rules.Members as members
use Rattle.pg_check.specs.rules.Messages as messages
use Rattle.pg_check.specs.rules.Names as names
use Rattle.pg_check.specs.rules.Numbers.{rank, is_field_number}
use Rattle.pg_check.specs.rules.Options.{OptionAt, an_option, in_brackets, in_line, is_of, is_of_kind, option_named}
use Rattle.pg_check.specs.rules.ReservedItems.{names_in, numbers_of}
use Rattle.pg_check.specs.rules.Types.{is_key_scalar, is_key_type, is_packable, is_packable_type}
use Rattle.pg_syntax.specs.declared.tree as tree
use Rattle.pg_syntax.specs.declared.tree.EnumPart.TheVariants as enum_parts
use Rattle.pg_syntax.specs.declared.tree.Label.{Label}
use Rattle.pg_syntax.specs.declared.tree.Label.TheVariants as labels
use Rattle.pg_syntax.specs.declared.tree.OneofPart.TheVariants as oneof_parts
use Rattle.pg_syntax.specs.declared.tree.Part.{Part}
use Rattle.pg_syntax.specs.declared.tree.Part.TheVariants as parts
use Rattle.pg_syntax.specs.declared.tree.ServicePart.{ServicePart}
use Rattle.pg_syntax.specs.declared.tree.ServicePart.TheVariants as service_parts
use Rattle.pg_syntax.specs.declared.tree.Statement.TheVariants as statements
use Rattle.pg_syntax.specs.declared.tree.Value.TheVariants as values

abbrev pub field : ℕ → ℕ → Keyed
field number at = record { key = rank false number; at = at }

abbrev pub item : ℕ → ℕ → ℕ → Numbers
item first last at = record { first = rank false first; last = rank false last; at = at }

abbrev pub name : List ℕ → ℕ → names.Named
name text at = record { text = text; at = at }

abbrev pub stated : List ℕ → Bool → ℕ → OptionAt
stated text is_right at = record { name = text; is_right = is_right; at = at }

-- ---- numbers and names of a message

-- fields of these numbers, with what is reserved
abbrev pub numbered : List Keyed → List Numbers → messages.DeclaredMessage
numbered keys items = record { keys = keys; items = items; names = []; reserved_names = []; json_names = [] }

-- fields of these names and JSON names, with the reserved names
abbrev pub called : (called json_names : List names.Named) → List (List ℕ) → messages.DeclaredMessage
called names json_names reserved = record {
  keys = [];
  items = [];
  names = names;
  reserved_names = reserved;
  json_names = json_names;
}

pub record WorkedFields : Type 0 where
  pub kept_numbers : FieldsKeep (numbered (field 1 18 ∷ field 2 30 ∷ []) (item 4 6 42 ∷ item 7 7 48 ∷ []))
  pub number_0 : FieldsKeep (numbered (field 0 18 ∷ []) []) → ⊥
  pub number_beyond : FieldsKeep (numbered (field 536870912 18 ∷ []) []) → ⊥
  pub number_of_the_runtime : FieldsKeep (numbered (field 19000 18 ∷ []) []) → ⊥
  pub number_twice : FieldsKeep (numbered (field 1 18 ∷ field 1 30 ∷ []) []) → ⊥
  pub number_reserved : FieldsKeep (numbered (field 4 18 ∷ []) (item 2 4 30 ∷ [])) → ⊥
  pub item_beyond : FieldsKeep (numbered [] (item 4 536870912 21 ∷ [])) → ⊥
  pub item_falls : FieldsKeep (numbered [] (item 5 2 21 ∷ [])) → ⊥
  pub items_overlap : FieldsKeep (numbered [] (item 1 3 21 ∷ item 3 3 29 ∷ [])) → ⊥
  pub kept_names : FieldsKeep
      (called (name (codes "a") 18 ∷ []) (name (codes "a") 18 ∷ name (codes "A") 30 ∷ []) (codes "c" ∷ []))
  pub name_reserved : FieldsKeep (called (name (codes "a") 18 ∷ []) [] (codes "a" ∷ [])) → ⊥
  pub json_name_twice : FieldsKeep (called [] (name (codes "fooBar") 18 ∷ name (codes "fooBar") 37 ∷ []) []) → ⊥

-- ---- values of an enum

-- values of these numbers, with what is reserved, and whether `allow_alias = true` is stated
abbrev pub valued : List Keyed → List Numbers → Bool → enums.DeclaredEnum
valued keys items has_aliases = record {
  keys = keys;
  names = [];
  items = items;
  reserved_names = [];
  has_aliases = has_aliases;
}

pub record WorkedValues : Type 0 where
  pub kept_values : ValuesKeep (valued (field 0 21 ∷ field 1 28 ∷ []) (item 3 5 40 ∷ []) false)
  pub no_value : ValuesKeep (valued [] [] false) → ⊥
  pub first_is_1 : ValuesKeep (valued (field 1 21 ∷ field 0 28 ∷ []) [] false) → ⊥
  pub value_beyond : ValuesKeep (valued (field 0 21 ∷ field 2147483648 28 ∷ []) [] false) → ⊥
  pub value_reserved : ValuesKeep (valued (field 0 21 ∷ field 3 28 ∷ []) (item 3 5 40 ∷ []) false) → ⊥
  pub value_name_reserved : ValuesKeep (record {
    keys = field 0 21 ∷ [];
    names = name (codes "A") 21 ∷ [];
    items = [];
    reserved_names = codes "A" ∷ [];
    has_aliases = false;
  }) → ⊥
  pub range_beyond : ValuesKeep (valued (field 0 21 ∷ []) (item 3 2147483648 40 ∷ []) false) → ⊥
  pub range_falls : ValuesKeep (valued (field 0 21 ∷ []) (item 5 3 40 ∷ []) false) → ⊥
  pub ranges_overlap : ValuesKeep (valued (field 0 21 ∷ []) (item 3 5 40 ∷ item 5 6 45 ∷ []) false) → ⊥
  pub alias_denied : ValuesKeep (valued (field 0 21 ∷ field 0 28 ∷ []) [] false) → ⊥
  pub alias_allowed : ValuesKeep (valued (field 0 21 ∷ field 0 28 ∷ []) [] true)

-- ---- maps, oneofs and packed fields

pub record WorkedMembers : Type 0 where
  pub kept_key : (m : tree.MapField.MapField) (oneof : Option ℕ) → is_key_type m.key.value ≡ true
      → has_key (members.Mapped m oneof) ≡ true
  pub bad_key : (m : tree.MapField.MapField) (oneof : Option ℕ) → is_key_type m.key.value ≡ false
      → has_key (members.Mapped m oneof) ≡ false
  pub plain_member : (f : tree.Field.Field) (index : ℕ) → f.label ≡ None
      → may_be_member (members.Plain f (Some index)) ≡ true
  pub labelled_member : (f : tree.Field.Field) (index : ℕ) (label : Label) → f.label ≡ Some label
      → may_be_member (members.Plain f (Some index)) ≡ false
  pub map_as_member : (m : tree.MapField.MapField) (index : ℕ) → may_be_member (members.Mapped m (Some index)) ≡ false
  pub oneof_of_a_field : (o : tree.Oneof.Oneof) (f : tree.Field.Field) → o.parts.items ≡ oneof_parts.Field f ∷ []
      → oneof_keeps o ≡ true
  pub oneof_of_nothing : (o : tree.Oneof.Oneof) → o.parts.items ≡ [] → oneof_keeps o ≡ false
  pub option_in_oneof : (o : tree.Oneof.Oneof) (f : tree.Field.Field) (line : tree.OptionLine.OptionLine)
      → o.parts.items ≡ oneof_parts.Field f ∷ oneof_parts.Option line ∷ [] → oneof_keeps o ≡ false
  pub packed_list : (targets : ℕ → Option Target) (f : tree.Field.Field) (oneof : Option ℕ)
      → f.label ≡ Some labels.Repeated
      → is_packable_type targets f.type_name ≡ true → is_packed_rightly targets (members.Plain f oneof) ≡ true
  pub packed_alone : (targets : ℕ → Option Target) (f : tree.Field.Field) (oneof : Option ℕ) (s : tree.Setting.Setting)
      → f.label ≡ None
      → members.settings f.settings ≡ s ∷ [] → messages.states_packed s ≡ true
      → is_packed_rightly targets (members.Plain f oneof) ≡ false

-- ---- options

-- an option that no declaration has, alone
abbrev pub unknown : List OptionAt
unknown = stated (codes "ctype") false 25 ∷ []

pub record WorkedOptions : Type 0 where
  pub kept_options : OptionsKeep (stated (codes "packed") true 12 ∷ stated (codes "deprecated") true 38 ∷ [])
  pub wrong_option : OptionsKeep unknown → ⊥
  pub option_twice : OptionsKeep (stated (codes "deprecated") true 12 ∷ stated (codes "deprecated") true 38 ∷ []) → ⊥
  pub of_a_message : (targets : ℕ → Option Target) (body : List Part) → messages.lines body ≡ unknown
      → MessageKeeps targets body → ⊥
  pub of_a_field : (targets : ℕ → Option Target) (body : List Part) (m : members.DeclaredField)
      → members.members body ≡ m ∷ []
      → member_options m ≡ unknown → MessageKeeps targets body → ⊥
  pub of_an_enum : (body : List enums.Part) → enums.lines body ≡ unknown → EnumKeeps body → ⊥
  pub of_a_value : (v : tree.EnumValue.EnumValue) (more : List enums.Part)
      → value_options (enum_parts.Value v) ≡ unknown
      → EnumKeeps (enum_parts.Value v ∷ more) → ⊥
  pub empty_service : ServiceKeeps []
  pub of_a_service : (body : List ServicePart) → service_lines body ≡ unknown → ServiceKeeps body → ⊥
  pub of_an_rpc : (r : tree.Rpc.Rpc) (more : List ServicePart) → rpc_lines (rpc_body r.body) ≡ unknown
      → ServiceKeeps (service_parts.Rpc r ∷ more) → ⊥
  pub of_a_file : (s : Source) → file_lines s.tree ≡ unknown → KeepsRules (s ∷ []) → ⊥

-- ---- files

-- the field `int32 a = 1;`, wherever its words are
pub record IsFieldA (f : tree.Field.Field) : Type 0 where
  pub no_label : f.label ≡ None
  pub is_named : string_bytes f.name.text ≡ codes "a"
  pub is_numbered : f.number ≡ 1
  pub no_options : f.settings ≡ None

-- a file with one message type of this body, and with nothing else
pub record HasOneMessage (s : Source) (body : List Part) : Type 0 where
  pub message : tree.Message.Message
  pub no_package : s.tree.packaged ≡ None
  pub is_only : s.tree.statements.items ≡ statements.Message message ∷ []
  pub has_body : message.parts.items ≡ body

pub record WorkedFiles : Type 0 where
  pub no_file : KeepsRules []
  -- message M { int32 a = 1; }
  pub kept_file : (s : Source) (f : tree.Field.Field) → IsFieldA f → HasOneMessage s (parts.Field f ∷ [])
      → KeepsRules (s ∷ [])
  -- message M { int32 a = 1; reserved "a"; }
  pub reserved_name_in_file : (s : Source) (f : tree.Field.Field) (r : tree.Reserved.Reserved) → IsFieldA f
      → names_in r.items ≡ codes "a" ∷ [] → HasOneMessage s (parts.Field f ∷ parts.Reserved r ∷ [])
      → KeepsRules (s ∷ []) → ⊥
  -- a file that keeps to the rules has no message type that breaks one
  pub message_in_file : (s : Source) (body : List Part) → HasOneMessage s body → KeepsRules (s ∷ [])
      → MessageKeeps s.targets body
  pub too_many_types : (files : List Source) → length (flat_map source_messages files) ≡ 4097 → KeepsRules files → ⊥

pub record WorkedRules : Type 0 where
  pub of_fields : WorkedFields
  pub of_values : WorkedValues
  pub of_members : WorkedMembers
  pub of_options : WorkedOptions
  pub of_files : WorkedFiles
  pub highest_number : is_field_number (rank false 536870911) ≡ true
  pub zero_is_none : is_field_number (rank false 0) ≡ false
  pub kept_by_the_runtime : is_field_number (rank false 19000) ≡ false
  pub json_name : default_json_name (codes "foo_bar") ≡ codes "fooBar"
  pub float_is_no_key : is_key_scalar (scalar_of (codes "float")) ≡ false
  pub bytes_are_no_key : is_key_scalar (scalar_of (codes "bytes")) ≡ false
  pub text_is_a_key : is_key_scalar (scalar_of (codes "string")) ≡ true
  pub other_types_are_no_keys : is_key_scalar (scalar_of (codes "K")) ≡ false
  pub empty_oneof : messages.has_member [] ≡ false
  pub unknown_option : option_named owners.Field (codes "ctype") ≡ None
  pub unknown_is_wrong : (value : tree.Value.Value) → is_of None value ≡ false
  pub option_of_a_field : option_named owners.Field (codes "json_name") ≡ an_option 10 kinds.Text
  pub option_of_another : option_named owners.Message (codes "json_name") ≡ None
  pub number_is_no_text : (n : tree.Number.Number) → is_of_kind kinds.Text (values.Number n) ≡ false
  pub packed_text : is_packable (scalar_of (codes "string")) None ≡ false
  pub packed_numbers : is_packable (scalar_of (codes "sint32")) None ≡ true
  pub made_number : field_number (rank false 7) ≡ 7
  pub lowest_value : value_number (rank true 2147483648) ≡ negsuc 2147483647
  pub highest_value : value_number (rank false 2147483647) ≡ pos 2147483647
  -- fields, maps and values are at their names; reserved items at their first token; options in brackets at their first
  -- identifier, and as statements at the word `option`
  pub field_place : (f : tree.Field.Field) (o : Option ℕ) → members.place_of (members.Plain f o) ≡ f.name.span.from
  pub map_place : (m : tree.MapField.MapField) (o : Option ℕ) → members.place_of (members.Mapped m o) ≡ m.name.span.from
  pub number_place : (m : members.DeclaredField) → (members.key_of m).at ≡ members.place_of m
  pub name_place : (m : members.DeclaredField) → (members.named m).at ≡ members.place_of m
  pub json_name_place : (m : members.DeclaredField) → (members.json_named m).at ≡ members.place_of m
  pub value_place : (v : tree.EnumValue.EnumValue) → (enums.key_of v).at ≡ v.name.span.from
  pub value_name_place : (v : tree.EnumValue.EnumValue) → (enums.name_of v).at ≡ v.name.span.from
  pub item_place : (highest : ℕ) (r : tree.Range.Range) → (numbers_of highest r).at ≡ r.span.from
  pub bracket_place : (owner : Owner) (s : tree.Setting.Setting) → (in_brackets owner s).at ≡ s.span.from
  pub statement_place : (owner : Owner) (o : tree.OptionLine.OptionLine) → (in_line owner o).at ≡ o.span.from
