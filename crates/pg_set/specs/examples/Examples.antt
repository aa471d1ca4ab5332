-- Worked sets: the bytes of small files' sets. They are protoc's, from `protoc --descriptor_set_out=m.pb m.proto`
-- (libprotoc 3.21.12).
use Rattle.std.specs.Prelude.{◌≡◌, ℕ, Bool, true, false, List, [], ◌∷◌, codes, None}
use Rattle.std.specs.String.{string_bytes}
use Rattle.pg_schema.specs.declared.parts.field.Element.{Element}
use Rattle.pg_schema.specs.declared.parts.field.Element.TheVariants as elements
use Rattle.pg_schema.specs.declared.parts.field.Field.{Field}
use Rattle.pg_schema.specs.declared.parts.field.Presence.{Presence}
use Rattle.pg_schema.specs.declared.parts.field.Presence.TheVariants.{Implicit, Explicit, Map}
use Rattle.pg_schema.specs.declared.parts.field.Scalar.TheVariants.{Int32, String}
use Rattle.pg_schema.specs.declared.parts.file.File.{File}
use Rattle.pg_schema.specs.declared.parts.message_type.MessageType.{MessageType}
use Rattle.pg_schema.specs.declared.parts.Parts.{Parts}
use Rattle.pg_set.specs.writing.Set.{fds}

-- a field `NAME = NUMBER` without options, in no oneof
pub record IsField (f : Field) (name : List ℕ) (number : ℕ) (presence : Presence) (element : Element) (is_optional : Bool) : Type 0 where
  pub has_name : string_bytes f.name ≡ name
  pub has_json_name : string_bytes f.json_name ≡ name
  pub has_number : f.number ≡ number
  pub has_presence : f.presence ≡ presence
  pub has_element : f.element ≡ element
  pub in_no_oneof : f.oneof ≡ None
  pub states_optional : f.states_optional ≡ is_optional
  pub packed_unsaid : f.options.packed ≡ None
  pub deprecated_unsaid : f.options.deprecated ≡ None

-- a message type `M` of these fields and nothing else
pub record IsMessage (t : MessageType) (fields : List Field) (declared : List ℕ) : Type 0 where
  pub has_name : string_bytes t.name ≡ codes "M"
  pub has_fields : t.fields.items ≡ fields
  pub has_declared : t.declared.items ≡ declared
  pub no_oneofs : t.oneofs.items ≡ []
  pub no_types : t.nested_types.items ≡ []
  pub no_enums : t.nested_enums.items ≡ []
  pub no_reserved_numbers : t.reserved_numbers.items ≡ []
  pub no_reserved_names : t.reserved_names.items ≡ []
  pub deprecated_unsaid : t.options.deprecated ≡ None

-- a file `m.proto` with the first message type and nothing else
pub record IsFile (f : File) : Type 0 where
  pub name : string_bytes f.name ≡ codes "m.proto"
  pub package_name : string_bytes f.package ≡ []
  pub imports : f.imports.items ≡ []
  pub types : f.types.items ≡ record { index = 0 } ∷ []
  pub enums : f.enums.items ≡ []
  pub services : f.services.items ≡ []
  pub options : f.options.items ≡ []

-- the parts of that file and that message type alone
pub record AreParts (parts : Parts) (file : File) (t : MessageType) : Type 0 where
  pub files : parts.files.items ≡ file ∷ []
  pub types : parts.types.items ≡ t ∷ []
  pub file_fits : IsFile file

-- `message M { int32 a = 1; }`
abbrev pub one_field_bytes : List ℕ
one_field_bytes =
    10 ∷ 36 ∷ 10 ∷ 7 ∷ 109 ∷ 46 ∷ 112 ∷ 114 ∷ 111 ∷ 116 ∷ 111 ∷ 34 ∷ 17 ∷ 10 ∷ 1 ∷ 77 ∷ 18 ∷ 12 ∷ 10 ∷ 1 ∷ 97 ∷ 24 ∷ 1
    ∷ 32 ∷ 1 ∷ 40
    ∷ 5 ∷ 82 ∷ 1 ∷ 97 ∷ 98 ∷ 6 ∷ 112 ∷ 114 ∷ 111 ∷ 116 ∷ 111 ∷ 51 ∷ []

abbrev pub OneField : Type 0
OneField =
    (parts : Parts) (file : File) (t : MessageType) (a : Field) → AreParts parts file t → IsMessage t (a ∷ []) (1 ∷ [])
    → IsField a (codes "a") 1 Implicit (elements.Scalar Int32) false
    → fds parts one_field_bytes

-- `message M { map<string, int32> a = 1; optional int32 b = 2; }`
abbrev pub map_and_optional_bytes : List ℕ
map_and_optional_bytes =
    10 ∷ 126 ∷ 10 ∷ 7 ∷ 109 ∷ 46 ∷ 112 ∷ 114 ∷ 111 ∷ 116 ∷ 111 ∷ 34 ∷ 107 ∷ 10 ∷ 1 ∷ 77 ∷ 18 ∷ 23 ∷ 10 ∷ 1 ∷ 97 ∷ 24 ∷ 1
    ∷ 32 ∷ 3 ∷ 40
    ∷ 11 ∷ 50 ∷ 9 ∷ 46 ∷ 77 ∷ 46 ∷ 65 ∷ 69 ∷ 110 ∷ 116 ∷ 114 ∷ 121 ∷ 82 ∷ 1 ∷ 97 ∷ 18 ∷ 17 ∷ 10 ∷ 1 ∷ 98 ∷ 24 ∷ 2 ∷ 32
    ∷ 1 ∷ 40 ∷ 5 ∷ 72
    ∷ 0 ∷ 82 ∷ 1 ∷ 98 ∷ 136 ∷ 1 ∷ 1 ∷ 26 ∷ 52 ∷ 10 ∷ 6 ∷ 65 ∷ 69 ∷ 110 ∷ 116 ∷ 114 ∷ 121 ∷ 18 ∷ 16 ∷ 10 ∷ 3 ∷ 107 ∷ 101
    ∷ 121 ∷ 24 ∷ 1
    ∷ 32 ∷ 1 ∷ 40 ∷ 9 ∷ 82 ∷ 3 ∷ 107 ∷ 101 ∷ 121 ∷ 18 ∷ 20 ∷ 10 ∷ 5 ∷ 118 ∷ 97 ∷ 108 ∷ 117 ∷ 101 ∷ 24 ∷ 2 ∷ 32 ∷ 1 ∷ 40
    ∷ 5 ∷ 82 ∷ 5
    ∷ 118 ∷ 97 ∷ 108 ∷ 117 ∷ 101 ∷ 58 ∷ 2 ∷ 56 ∷ 1 ∷ 66 ∷ 4 ∷ 10 ∷ 2 ∷ 95 ∷ 98 ∷ 98 ∷ 6 ∷ 112 ∷ 114 ∷ 111 ∷ 116 ∷ 111
    ∷ 51 ∷ []

abbrev pub MapAndOptional : Type 0
MapAndOptional =
    (parts : Parts) (file : File) (t : MessageType) (a b : Field) → AreParts parts file t
    → IsMessage t (a ∷ b ∷ []) (1 ∷ 2 ∷ [])
    → IsField a (codes "a") 1 (Map String) (elements.Scalar Int32) false
    → IsField b (codes "b") 2 Explicit (elements.Scalar Int32) true
    → fds parts map_and_optional_bytes

pub record WorkedSets : Type 0 where
  pub one_field : OneField
  pub map_and_optional : MapAndOptional
