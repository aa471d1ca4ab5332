-- The names that message types, enums and services of a sound schema declare are words, and those of entry types are of their letters.
use Rattle.std.proofs.Common.{◌≡◌, ℕ, Bool, true, false, cond, ◌&&◌, List, [], ◌∷◌, ◌++◌, length, map, Some, slice_get, refl, ◌∙◌, rules, arith}
use Rattle.std.proofs.lemmas.List.Folds.{list_all-append}
use Rattle.std.specs.List.{list_all}
use Rattle.std.specs.String.{string_bytes}
use Rattle.pg_schema.specs.declared.parts.enum_type.EnumType.{EnumType}
use Rattle.pg_schema.specs.declared.parts.enum_type.EnumValue.{EnumValue}
use Rattle.pg_schema.specs.declared.parts.field.EnumId.{EnumId}
use Rattle.pg_schema.specs.declared.parts.field.Field.{Field}
use Rattle.pg_schema.specs.declared.parts.message_type.MessageType.{MessageType}
use Rattle.pg_schema.specs.declared.parts.service.Method.{Method}
use Rattle.pg_schema.specs.declared.parts.service.Service.{Service}
use Rattle.pg_schema.specs.rules.DeclaredNames.{entry_name, entry_names, method_names, values_at}
use Rattle.pg_schema.specs.rules.Enums.{is_enum, is_value, value_names}
use Rattle.pg_schema.specs.rules.Files.{is_method, is_service}
use Rattle.pg_schema.specs.rules.Messages.{field_names, has_fields, has_oneofs, has_reserved, is_field, is_message_type, json_names}
use Rattle.pg_schema.specs.rules.Pairs.{are_distinct}
use Rattle.pg_schema.specs.rules.Words.{is_word}
use Rattle.pg_schema.specs.Shape.{is_map}
use Rattle.pg_schema.proofs.lemmas.rules.PairLemmas.{and_both, and_left, and_right}
use Rattle.pg_set.proofs.lemmas.rows.RowPlaces.{test_at}
use Rattle.pg_set.proofs.lemmas.written.names.QualifiedNames.{entry_plain, is_plain, word_plain}

-- where a rule says that each has a word for its name
words_plain : {A : Type 0} (name : A → List ℕ) (rule : A → Bool) → ((x : A) → rule x ≡ true → is_word (name x) ≡ true) → (xs : List A) → list_all rule xs ≡ true → list_all is_plain (map name xs) ≡ true
words_plain name rule word [] all = refl
words_plain name rule word (x ∷ xs) all =
    and_both (is_plain (name x)) (list_all is_plain (map name xs)) (word_plain (name x) (word x (and_left (rule x) (list_all rule xs) all))) (words_plain name rule word xs (and_right (rule x) (list_all rule xs) all))

all_joined : (xs ys : List (List ℕ)) → list_all is_plain xs ≡ true → list_all is_plain ys ≡ true → list_all is_plain (xs ++ ys) ≡ true
all_joined xs ys first second = list_all-append is_plain xs ys ∙ and_both (list_all is_plain xs) (list_all is_plain ys) first second

-- ---- values of enums

enum_plain : (e : EnumType) → is_enum e ≡ true → list_all is_plain (value_names e.values.items) ≡ true
enum_plain e rules = words_plain (λ (v : EnumValue). string_bytes v.name) is_value (λ v word. word) e.values.items (and_right _ _ (and_left _ _ (and_left _ _ (and_left _ _ rules))))

at_plain : (enums : List EnumType) (place : ℕ) (e : EnumType) → list_all is_enum enums ≡ true → slice_get enums place ≡ Some e → list_all is_plain (value_names e.values.items) ≡ true
at_plain enums place e rules at = enum_plain e (test_at is_enum enums place e rules at)

pub values_plain : (enums : List EnumType) → list_all is_enum enums ≡ true → (ids : List EnumId) → list_all is_plain (values_at enums ids) ≡ true
values_plain enums rules [] = refl
values_plain enums rules (id ∷ ids) = grind (arith, values_plain enums rules ids, all_joined, at_plain)

-- ---- what message types declare

module _ (oneofs types enums : ℕ) where
  pub field_word : (f : Field) → is_field oneofs types enums f ≡ true → is_word (string_bytes f.name) ≡ true
  field_word f rules = and_right _ _ (and_left _ _ (and_left _ _ (and_left _ _ (and_left _ _ rules))))

  entries_plain : (fs : List Field) → list_all (is_field oneofs types enums) fs ≡ true → list_all is_plain (entry_names fs) ≡ true
  entries_plain [] rules = refl
  entries_plain (f ∷ fs) rules =
      of (is_map f.presence) (entry_plain (string_bytes f.name) (word_plain (string_bytes f.name) (field_word f (and_left (is_field oneofs types enums f) (list_all (is_field oneofs types enums) fs) rules))))
      (entries_plain fs (and_right (is_field oneofs types enums f) (list_all (is_field oneofs types enums) fs) rules))
    where
      of : (b : Bool) → is_plain (entry_name (string_bytes f.name)) ≡ true → list_all is_plain (entry_names fs) ≡ true → list_all is_plain (cond b (entry_name (string_bytes f.name) ∷ []) [] ++ entry_names fs) ≡ true
      of true own later = and_both (is_plain (entry_name (string_bytes f.name))) (list_all is_plain (entry_names fs)) own later
      of false own later = later

module _ (types enums : ℕ) (t : MessageType) (rules : is_message_type types enums t ≡ true) where
  abbrev are_fields : Bool
  are_fields = list_all (is_field (length t.oneofs.items) types enums) t.fields.items

  its_rules : has_fields types enums t && has_oneofs t ≡ true
  its_rules = and_left (has_fields types enums t && has_oneofs t) (has_reserved t) (and_left (has_fields types enums t && has_oneofs t && has_reserved t) (are_distinct (json_names t.fields.items)) rules)

  its_fields : are_fields ≡ true
  its_fields = grind (arith, and_left, its_rules)

  its_oneofs : list_all (λ text. is_word (string_bytes text)) t.oneofs.items ≡ true
  its_oneofs = and_left _ _ (and_right (has_fields types enums t) (has_oneofs t) its_rules)

  pub type_plain : (values : List (List ℕ)) → list_all is_plain values ≡ true
      → list_all is_plain (field_names t.fields.items ++ map string_bytes t.oneofs.items ++ entry_names t.fields.items ++ values) ≡ true
  type_plain values plain = grind (arith, words_plain, field_word, its_fields, all_joined, its_oneofs, entries_plain)

-- ---- methods

pub methods_plain : (types : ℕ) (s : Service) → is_service types s ≡ true → list_all is_plain (method_names s.methods.items) ≡ true
methods_plain types s rules = words_plain (λ (d : Method). string_bytes d.name) (is_method types) (λ d keeps. and_left _ _ (and_left _ _ keeps)) s.methods.items rules
