use Rattle.std.proofs.Common.{refl}
use Rattle.pg_set.proofs.laws.worked_pieces.Goals as goal

pub returns : goal.returns
returns c = record {
  own_name_of_two = refl;
  own_name_of_one = refl;
  scalar_codes = refl;
  message_field = refl;
  enum_field = refl;
  map_field = refl;
  labels = refl;
  range_of_fields = refl;
  range_of_values = refl;
  no_option = refl;
  false_option = refl;
  both_options = refl;
  mode_and_flag = refl;
  no_mark = refl;
  no_package = refl;
  synthetic = refl;
  synthetic_of_underscore = refl;
  synthetic_beside_oneof = refl;
  synthetic_after_another = refl;
}
