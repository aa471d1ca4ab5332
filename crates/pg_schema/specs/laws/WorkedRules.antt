-- What the rules take and what they refuse, by small examples: a statement for each fact of a schema's invariant, of
-- something that keeps to it and of something that breaks it.
use Rattle.std.specs.Prelude.{◌≡◌, ℕ, pos, negsuc, true, false, [], ◌∷◌, codes, Option, Some, None}
use Rattle.std.specs.List.{list_all, list_any}
use Rattle.pg_schema.specs.declared.parts.field.Element.{Element}
use Rattle.pg_schema.specs.declared.parts.field.Element.TheVariants as elements
use Rattle.pg_schema.specs.declared.parts.field.Field.{Field}
use Rattle.pg_schema.specs.declared.parts.field.Presence.{Presence}
use Rattle.pg_schema.specs.declared.parts.field.Presence.TheVariants as presences
use Rattle.pg_schema.specs.declared.parts.field.Scalar.TheVariants as scalars
use Rattle.pg_schema.specs.declared.parts.field.TypeId.{TypeId}
use Rattle.pg_schema.specs.declared.parts.options.OptimizeMode.TheVariants as modes
use Rattle.pg_schema.specs.declared.parts.options.OptionValue.TheVariants as options
use Rattle.pg_schema.specs.declared.rules.uses.Use.{Use}
use Rattle.pg_schema.specs.rules.DeclaredNames.{entry_name}
use Rattle.pg_schema.specs.rules.Enums.{begins_with_zero, is_zero}
use Rattle.pg_schema.specs.rules.Fields.{has_presence, is_field_number, is_packed}
use Rattle.pg_schema.specs.rules.Files.{is_of_kind}
use Rattle.pg_schema.specs.JsonName.{default_json_name}
use Rattle.pg_schema.specs.rules.Messages.{have_members}
use Rattle.pg_schema.specs.rules.Packages.{is_front}
use Rattle.pg_schema.specs.rules.Pairs.{are_distinct, is_rising}
use Rattle.pg_schema.specs.rules.Scopes.{are_each_once, is_in}
use Rattle.pg_schema.specs.Shape.{Shape}
use Rattle.pg_schema.specs.rules.TextSets.{are_named_once}
use Rattle.pg_schema.specs.rules.Uses.{from_lowest, is_used_once}
use Rattle.pg_schema.specs.rules.Words.{is_package, is_word}

abbrev pub int32 : Element
int32 = elements.Scalar scalars.Int32

abbrev pub text : Element
text = elements.Scalar scalars.String

-- the index of the first message type
abbrev pub first_type : TypeId
first_type = record { index = 0 }

-- a schema of one message type with one such field, numbered 1
abbrev pub of_field : Presence → Element → Option ℕ → Shape
of_field presence element oneof =
    (record { number = 1; presence = presence; element = element; oneof = oneof } ∷ []) ∷ []

-- a field or value of that number
abbrev pub one : ℕ → Use
one number = record { first = number; last = number; is_reserved = false }

-- reserved numbers
abbrev pub kept : ℕ → ℕ → Use
kept first last = record { first = first; last = last; is_reserved = true }

pub record WorkedRules : Type 0 where
  pub words : list_all is_word (codes "a" ∷ codes "_A9" ∷ codes "max" ∷ []) ≡ true
  pub no_words : list_any is_word ([] ∷ codes "9a" ∷ codes "a.b" ∷ codes "a-b" ∷ []) ≡ false
  pub packages : list_all is_package ([] ∷ codes "a" ∷ codes "a.b_1.c" ∷ []) ≡ true
  pub no_packages : list_any is_package (codes "." ∷ codes "a." ∷ codes ".a" ∷ codes "a..b" ∷ codes "a.1" ∷ []) ≡ false
  pub field_numbers : list_all is_field_number (1 ∷ 18999 ∷ 20000 ∷ 536870911 ∷ []) ≡ true
  pub no_field_numbers : list_any is_field_number (0 ∷ 19000 ∷ 19999 ∷ 536870912 ∷ []) ≡ false
  pub implicit : has_presence presences.Implicit int32 false false ≡ true
  pub implicit_message : has_presence presences.Implicit (elements.Message (record { index = 0 })) false false ≡ false
  pub implicit_member : has_presence presences.Implicit int32 true false ≡ false
  pub optional_field : has_presence presences.Explicit int32 false true ≡ true
  pub explicit_for_no_reason : has_presence presences.Explicit int32 false false ≡ false
  pub optional_member : has_presence presences.Explicit int32 true true ≡ false
  pub repeated_member : has_presence (presences.Repeated true) int32 true false ≡ false
  pub text_key : has_presence (presences.Map scalars.String) int32 false false ≡ true
  pub float_key : has_presence (presences.Map scalars.Float) int32 false false ≡ false
  pub bytes_key : has_presence (presences.Map scalars.Bytes) int32 false false ≡ false
  pub packed_by_default : is_packed (presences.Repeated true) int32 None ≡ true
  pub unpacked_for_no_reason : is_packed (presences.Repeated false) int32 None ≡ false
  pub unpacked_as_stated : is_packed (presences.Repeated false) int32 (Some false) ≡ true
  pub texts : is_packed (presences.Repeated false) text None ≡ true
  pub packed_texts : is_packed (presences.Repeated true) text (Some true) ≡ false
  pub packed_singular : is_packed presences.Implicit int32 (Some true) ≡ false
  pub unpacked_singular : is_packed presences.Implicit int32 (Some false) ≡ true
  pub rising : is_rising (1 ∷ 2 ∷ 9 ∷ []) ≡ true
  pub number_twice : is_rising (1 ∷ 1 ∷ []) ≡ false
  pub falling : is_rising (2 ∷ 1 ∷ []) ≡ false
  pub reserved_beside : is_used_once false (one 1 ∷ kept 2 4 ∷ one 5 ∷ kept 6 6 ∷ []) ≡ true
  pub last_is_reserved : is_used_once false (one 4 ∷ kept 2 4 ∷ []) ≡ false
  pub first_is_reserved : is_used_once false (one 2 ∷ kept 2 4 ∷ []) ≡ false
  pub overlapping : is_used_once false (kept 4 6 ∷ kept 2 4 ∷ []) ≡ false
  pub aliases : is_used_once true (one 0 ∷ one 0 ∷ []) ≡ true
  pub aliases_without_option : is_used_once false (one 0 ∷ one 0 ∷ []) ≡ false
  pub reserved_in_spite_of_aliases : is_used_once true (one 3 ∷ kept 3 3 ∷ []) ≡ false
  pub lowest : from_lowest (negsuc 2147483647) ≡ 0
  pub highest : from_lowest (pos 2147483647) ≡ 4294967295
  pub first_value_zero : is_zero (pos 0) ≡ true
  pub first_value_one : is_zero (pos 1) ≡ false
  pub no_value : begins_with_zero [] ≡ false
  pub member : (f : Field) → f.oneof ≡ Some 0 → have_members 1 (f ∷ []) ≡ true
  pub no_member : (f : Field) → f.oneof ≡ None → have_members 1 (f ∷ []) ≡ false
  pub json_names_by_case : are_distinct (codes "x" ∷ codes "X" ∷ []) ≡ true
  pub json_name_twice : are_distinct (codes "x" ∷ codes "y" ∷ codes "x" ∷ []) ≡ false
  pub json_name : default_json_name (codes "foo_bar") ≡ codes "fooBar"
  pub json_name_of_digit : default_json_name (codes "foo_1bar") ≡ codes "foo1bar"
  pub json_name_of_underscores : default_json_name (codes "_a__b_") ≡ codes "AB"
  pub names_once : are_named_once (codes "a" ∷ codes "b" ∷ []) (codes "c" ∷ codes "c" ∷ []) ≡ true
  pub name_twice : are_named_once (codes "a" ∷ codes "a" ∷ []) [] ≡ false
  pub name_reserved : are_named_once (codes "a" ∷ codes "b" ∷ []) (codes "b" ∷ []) ≡ false
  pub in_package : is_in (codes "p.q") (codes "p.q.M") ≡ true
  pub in_no_package : is_in [] (codes "M") ≡ true
  pub not_in_package :
      list_any (is_in (codes "p")) (codes "pM" ∷ codes "p" ∷ codes "p." ∷ codes "q.M" ∷ codes "p.q.M" ∷ []) ≡ false
  pub each_once : are_each_once 2 (1 ∷ 0 ∷ []) ≡ true
  pub declared_twice : are_each_once 2 (0 ∷ 0 ∷ []) ≡ false
  pub declared_nowhere : are_each_once 2 (0 ∷ []) ≡ false
  pub place_past_the_end : are_each_once 2 (0 ∷ 2 ∷ []) ≡ false
  pub entry : entry_name (codes "foo_bar") ≡ codes "FooBarEntry"
  pub entry_of_digit : entry_name (codes "_1a") ≡ codes "1aEntry"
  pub entry_of_no_letter : entry_name (codes "__") ≡ codes "Entry"
  pub option_of_its_kind : is_of_kind 9 (options.Mode modes.Speed) ≡ true
  pub option_of_another_kind : is_of_kind 9 (options.Flag true) ≡ false
  pub option_unknown : is_of_kind 2 (options.Flag true) ≡ false
  pub part_of_a_package : list_all (λ name. is_front name (codes "p.q")) (codes "p" ∷ codes "p.q" ∷ []) ≡ true
  pub no_part_of_a_package :
      list_any (λ name. is_front name (codes "p.q")) (codes "q" ∷ codes "pq" ∷ codes "p.q.r" ∷ []) ≡ false
