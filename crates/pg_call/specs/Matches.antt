-- What `clap` reads arguments as, where it takes them.
use Rattle.std.specs.Prelude.{◌≡◌, true, List, []}
use Rattle.std.specs.Borrow.{Bor}
use Rattle.clap.specs.Walk.{texts}
use Rattle.clap.specs.Words.{Text, fault_of, has_subcommand, subcommand_of, subcommand_rows_of}
use Rattle.clap.specs.declared.ArgMatches.{ArgMatches}
use Rattle.pg_call.specs.CommandLine.{view_names, whole_app}

-- `clap` takes the arguments: these matches are those of the subcommand that they enter
pub record AreMatchesOf (words : List Text) (matches : ArgMatches) : Type 0 where
  pub names : Bor (List (Bor Text))
  pub are_names : texts names.now ≡ view_names
  pub taken : fault_of (whole_app names) words ≡ []
  pub entered : subcommand_rows_of matches ≡ subcommand_of (whole_app names) words
  pub is_there : has_subcommand matches ≡ true
