use Rattle.std.proofs.Common.{◌≡◌, ◌≤◌, ℕ, zero, suc, List, [], ◌∷◌, ◌++◌, length, Some, None, refl, arith}
use Rattle.pg_schema.specs.ScalarWords.{scalar_of}
use Rattle.pg_check.specs.inner.FileFaults.{too_many}
use Rattle.pg_check.specs.rules.Options.{option_named}
use Rattle.pg_check.specs.rules.Outline.{Message}
use Rattle.pg_check.proofs.lemmas.rules.SmallFiles.{worked_files}
use Rattle.pg_check.proofs.lemmas.rules.SmallRules.{worked_fields, worked_members, worked_options, worked_values}
use Rattle.pg_check.proofs.laws.worked_rules.Goals as goal

so_many_types : (left : ℕ) (ms : List Message) → length ms ≤ left → too_many left ms ≡ None
so_many_types left [] few = refl
so_many_types zero (m ∷ ms) few = absurd (omega (arith, few))
so_many_types (suc left) (m ∷ ms) few = so_many_types left ms (omega (arith, few))

one_type_more : (ms : List Message) (m : Message) (more : List Message) → too_many (length ms) (ms ++ m ∷ more) ≡ Some m.name.span.from
one_type_more [] m more = refl
one_type_more (n ∷ ms) m more = one_type_more ms m more

pub returns-clause-kept : goal.returns-clause-kept
unfolding option_named scalar_of
returns-clause-kept c = record {
  of_fields = worked_fields;
  of_values = worked_values;
  of_members = worked_members;
  of_options = worked_options;
  of_files = worked_files;
  highest_number = refl;
  zero_is_none = refl;
  kept_by_the_runtime = refl;
  json_name = refl;
  float_is_no_key = refl;
  bytes_are_no_key = refl;
  text_is_a_key = refl;
  other_types_are_no_keys = refl;
  empty_oneof = refl;
  unknown_option = refl;
  unknown_is_wrong = λ value. refl;
  option_of_a_field = refl;
  option_of_another = refl;
  number_is_no_text = λ n. refl;
  packed_text = refl;
  packed_numbers = refl;
  made_number = refl;
  lowest_value = refl;
  highest_value = refl;
  field_place = λ f o. refl;
  map_place = λ m o. refl;
  number_place = λ m. refl;
  name_place = λ m. refl;
  json_name_place = λ m. refl;
  value_place = λ v. refl;
  value_name_place = λ v. refl;
  item_place = λ highest r. refl;
  bracket_place = λ owner s. refl;
  statement_place = λ owner o. refl;
}

pub returns-clause-faults : goal.returns-clause-faults
returns-clause-faults c = record {
  beyond = refl;
  number_twice = refl;
  reserved_number = refl;
  ends_are_reserved = refl;
  beside_the_item = refl;
  reserved_behind = refl;
  overlapping = refl;
  falling = refl;
  falling_holds_none = refl;
  lowest_code = refl;
  reserved_name = refl;
  json_name_twice = refl;
  json_names_by_case = refl;
  first_value_one = refl;
  first_value_zero = refl;
  alias = refl;
  alias_allowed = refl;
  no_value = refl;
  wrong_option = refl;
  option_twice = refl;
  option_before_packed = refl;
  first_in_text = refl;
  so_many_types = so_many_types;
  one_type_more = one_type_more;
}
