-- Parts that keep to the rules and whose names are right are those of a schema.
use Rattle.std.proofs.Common.{◌≡◌, ℕ, Bool, true, ◌&&◌, List, [], ◌∷◌, refl, arith, rules}
use Rattle.std.specs.List.{list_all, AllByRecursion}
use Rattle.pg_schema.specs.declared.parts.enum_type.EnumType.{EnumType}
use Rattle.pg_schema.specs.declared.parts.field.Field.{Field}
use Rattle.pg_schema.specs.declared.parts.file.File.{File}
use Rattle.pg_schema.specs.declared.parts.message_type.MessageType.{MessageType}
use Rattle.pg_schema.specs.declared.parts.Parts.{Parts}
use Rattle.pg_schema.specs.rules.Enums.{is_enum}
use Rattle.pg_schema.specs.rules.Files.{is_file}
use Rattle.pg_schema.specs.rules.Messages.{is_field, is_message_type}
use Rattle.pg_schema.specs.rules.Sound.{IsSound}
use Rattle.pg_schema.proofs.lemmas.rules.PairLemmas.{and_left, and_right, and_both}
use Rattle.pg_check.proofs.lemmas.parts.kept.KeptParts.{KeptEnum, KeptFile, KeptMessage, KeptParts, is_kept_field}
use Rattle.pg_check.proofs.lemmas.parts.names.NamedParts.{NamedEnum, NamedMessage, NamedParts, has_package, is_named_field}

together : (a b c d e f : Bool) → (a && c && d && f) ≡ true → (b && e) ≡ true → (a && b && c && d && e && f) ≡ true
together a b c d e f h k = grind arith

fields_are : (oneofs types enums : ℕ) (fs : List Field) → list_all (is_kept_field oneofs) fs ≡ true → list_all (is_named_field types enums) fs ≡ true → list_all (is_field oneofs types enums) fs ≡ true
fields_are oneofs types enums [] h k = refl
fields_are oneofs types enums (f ∷ fs) h k = search (rules, and_both, together, and_left, and_right, fields_are oneofs types enums fs (and_right (is_kept_field oneofs f) _ h) (and_right (is_named_field types enums f) _ k))

message_is : (types enums : ℕ) (t : MessageType) → KeptMessage t → NamedMessage types enums t → is_message_type types enums t ≡ true
message_is types enums t kept named = search (rules, fields_are)

enum_is : (e : EnumType) → KeptEnum e → NamedEnum e → is_enum e ≡ true
enum_is e kept named = search (rules, and_both)

messages_are : (types enums : ℕ) (ts : List MessageType) → AllByRecursion KeptMessage ts → AllByRecursion (NamedMessage types enums) ts → list_all (is_message_type types enums) ts ≡ true
messages_are types enums [] h k = refl
messages_are types enums (t ∷ ts) h k = and_both (is_message_type types enums t) (list_all (is_message_type types enums) ts) (message_is types enums t h.0 k.0) (messages_are types enums ts h.1 k.1)

enums_are : (es : List EnumType) → AllByRecursion KeptEnum es → AllByRecursion NamedEnum es → list_all is_enum es ≡ true
enums_are [] h k = refl
enums_are (e ∷ es) h k = and_both (is_enum e) (list_all is_enum es) (enum_is e h.0 k.0) (enums_are es h.1 k.1)

files_are : (fs : List File) → AllByRecursion KeptFile fs → list_all has_package fs ≡ true → list_all is_file fs ≡ true
files_are [] h k = refl
files_are (f ∷ fs) h k = search (rules, and_both, has_package, and_left, and_right, files_are fs h.1 (and_right (has_package f) _ k))

pub sound_from : (parts : Parts) → KeptParts parts → NamedParts parts → IsSound parts
sound_from parts kept named = search (rules, files_are, messages_are, enums_are)
