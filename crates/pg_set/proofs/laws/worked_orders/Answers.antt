use Rattle.std.proofs.Common.{refl}
use Rattle.pg_set.proofs.laws.worked_orders.Goals as goal

pub returns : goal.returns
returns c = record {
  no_files = refl;
  no_imports = refl;
  imports_first = refl;
  in_order_of_imports = refl;
  imported_twice = refl;
  not_there = refl;
  path_twice = refl;
  import_twice = refl;
  its_own_import = refl;
  go_round = refl;
  files = refl;
  skipped = refl;
  skipped_twice = refl;
  kept = refl;
}
