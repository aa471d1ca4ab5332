use Rattle.std.proofs.Common.{refl}
use Rattle.pg_set.proofs.laws.worked_names.Goals as goal

pub returns : goal.returns
returns c = record {
  parts = refl;
  no_part = refl;
  types = refl;
  quoted_dot = refl;
  type = refl;
  enum = refl;
  package_part = refl;
  no_dot = refl;
  may = refl;
  twice = refl;
  part_of_package = refl;
  without_name = refl;
  within_nameless = refl;
  twice_without_name = refl;
  dotted_apart = refl;
  twice_with_dot = refl;
}
