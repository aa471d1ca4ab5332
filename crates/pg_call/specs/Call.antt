-- What the arguments of a command line call for.
use Rattle.std.specs.Prelude.{◌≡◌, ◌≢◌, ◌⊎◌, Bool, true, false, List, [], Some, codes}
use Rattle.std.specs.Prelude.{unwrap_or, option_map, if◌then◌else◌}
use Rattle.std.specs.Borrow.{Bor}
use Rattle.std.specs.Option.{option_map_or}
use Rattle.std.specs.Str.{bytes_eq}
use Rattle.clap.specs.Walk.{texts}
use Rattle.clap.specs.Words.{Row, Text, all_of, fault_of, first_of, subcommand_of}
use Rattle.pg_dyn.specs.declared.view_name.ViewName.{ViewName}
use Rattle.pg_dyn.specs.declared.view_name.ViewName.TheVariants as views
use Rattle.pg_call.specs.CommandLine.{view_names, whole_app}
use Rattle.pg_call.specs.Paths.{BothPaths, Paths, both_paths, first, paths_in}
use Rattle.pg_call.specs.declared.Call.{Call}
use Rattle.pg_call.specs.declared.Call.TheVariants as call
use Rattle.pg_call.specs.declared.GateAllCall.{GateAllCall}
use Rattle.pg_call.specs.declared.GateCall.{GateCall}
use Rattle.pg_call.specs.declared.ShowCall.{ShowCall}

-- what a gate is asked
pub record GateRequest : Type 0 where
  pub files : BothPaths
  pub root : Text
  pub certificate_only : Bool
  pub both : Bool
  pub explain : Bool
  pub json : Bool
  pub view : ViewName

-- what the gate of all message types is asked
pub record GateAllRequest : Type 0 where
  pub files : BothPaths
  pub explain : Bool
  pub json : Bool
  pub notes : Bool
  pub view : ViewName

-- what is to be shown
pub record ShowRequest : Type 0 where
  pub files : Paths
  pub root : Text
  pub word : Text
  pub json : Bool

-- a call
pub data Request : Type 0 where
  compile : (files : Paths) → Request
  gate : (asked : GateRequest) → Request
  gate_all : (asked : GateAllRequest) → Request
  show : (asked : ShowRequest) → Request
  verify : (files : BothPaths) (certificate : Text) (json : Bool) → Request
  types : (files : Paths) (json : Bool) → Request

abbrev pub gate_request : GateCall → GateRequest
gate_request asked = record {
  files = both_paths asked.files;
  root = asked.root.now;
  certificate_only = asked.certificate_only;
  both = asked.both;
  explain = asked.explain;
  json = asked.json;
  view = asked.view;
}

abbrev pub gate_all_request : GateAllCall → GateAllRequest
gate_all_request asked = record {
  files = both_paths asked.files;
  explain = asked.explain;
  json = asked.json;
  notes = asked.notes;
  view = asked.view;
}

abbrev pub show_request : ShowCall → ShowRequest
show_request asked = record {
  files = paths_in asked.files;
  root = asked.root.now;
  word = asked.word.now;
  json = asked.json;
}

abbrev pub request_of : Call → Request
request_of (call.Compile files) = compile (paths_in files)
request_of (call.Gate asked) = gate (gate_request asked)
request_of (call.GateAll asked) = gate_all (gate_all_request asked)
request_of (call.Show asked) = show (show_request asked)
request_of (call.Verify files certificate json) = verify (both_paths files) certificate.now json
request_of (call.Types files json) = types (paths_in files) json

-- ---- from clap's matches

abbrev pub text_at : Text → List Row → Text
text_at id rows = unwrap_or (first_of id rows) []

abbrev pub texts_at : Text → List Row → List Text
texts_at id rows = unwrap_or (all_of id rows) []

abbrev pub flag_at : Text → List Row → Bool
flag_at id rows = option_map_or (λ value. bytes_eq value (codes "true")) (first_of id rows) false

-- the view of an option that has one of the two names
abbrev pub view_if : (by_names : Bool) → ViewName
view_if true = views.Names
view_if false = views.Numbers

abbrev pub view_at : Text → List Row → ViewName
view_at id rows = view_if (bytes_eq (text_at id rows) (codes "names"))

-- the files that one option names, below the folder that another does, with the included folders of a third and the
-- list of a fourth
abbrev pub paths_at : (folder includes files list : Text) → List Row → Paths
paths_at folder includes files list rows = record {
  folder = text_at folder rows;
  includes = texts_at includes rows;
  files = texts_at files rows;
  list = first (texts_at list rows);
}

abbrev pub both_in : List Row → BothPaths
both_in rows = record {
  old = paths_at (codes "old-dir") (codes "old-include") (codes "old") (codes "old-files-from") rows;
  new = paths_at (codes "new-dir") (codes "new-include") (codes "new") (codes "new-files-from") rows;
}

abbrev pub gate_in : List Row → Request
gate_in rows = gate (record {
  files = both_in rows;
  root = text_at (codes "type") rows;
  certificate_only = flag_at (codes "cert") rows;
  both = flag_at (codes "both") rows;
  explain = flag_at (codes "explain") rows;
  json = flag_at (codes "json") rows;
  view = view_at (codes "view") rows;
})

abbrev pub gate_all_in : List Row → Request
gate_all_in rows = gate_all (record {
  files = both_in rows;
  explain = flag_at (codes "explain") rows;
  json = flag_at (codes "json") rows;
  notes = flag_at (codes "notes") rows;
  view = view_at (codes "view") rows;
})

abbrev pub verify_in : List Row → Request
verify_in rows = verify (both_in rows) (text_at (codes "CERT") rows) (flag_at (codes "json") rows)

abbrev pub show_in : List Row → Request
show_in rows = show (record {
  files = paths_at (codes "dir") (codes "include") (codes "file") (codes "files-from") rows;
  root = text_at (codes "type") rows;
  word = text_at (codes "HEX") rows;
  json = flag_at (codes "json") rows;
})

-- the files that are compiled by themselves
abbrev pub one_side : List Row → Paths
one_side rows = paths_at (codes "dir") (codes "include") (codes "FILE") (codes "files-from") rows

abbrev pub types_in : List Row → Request
types_in rows = types (one_side rows) (flag_at (codes "json") rows)

-- the call of a subcommand and its matches; clap has only these six
abbrev pub request_in : Text × List Row → Request
request_in met =
    if bytes_eq met.0 (codes "compile") then compile (one_side met.1)
    else if bytes_eq met.0 (codes "gate") then gate_in met.1
    else if bytes_eq met.0 (codes "gate-all") then gate_all_in met.1
    else if bytes_eq met.0 (codes "verify") then verify_in met.1
    else if bytes_eq met.0 (codes "types") then types_in met.1
    else show_in met.1

-- ---- from the arguments

-- A command keeps the reference to the list of names that `--view` takes, and so do clap's definitions, and nobody
-- knows beforehand where in memory that list is. So what clap does is said of some reference to just these names. By
-- law it is the same for each (`OneCall`).

-- clap takes the arguments, and its matches are those of this call
pub record CallsFor (words : List Text) (call : Request) : Type 0 where
  pub names : Bor (List (Bor Text))
  pub are_names : texts names.now ≡ view_names
  pub taken : fault_of (whole_app names) words ≡ []
  pub by_matches : option_map request_in (subcommand_of (whole_app names) words) ≡ Some call

-- the arguments call for something
pub record IsCall (words : List Text) : Type 0 where
  pub call : Request
  pub called : CallsFor words call

-- clap doesn't take the arguments: it finds a fault of them, or they ask for help or the version
pub record IsRefused (words : List Text) : Type 0 where
  pub names : Bor (List (Bor Text))
  pub are_names : texts names.now ≡ view_names
  pub by_clap : fault_of (whole_app names) words ≢ []

-- Arguments that clap takes are just one call, whichever such reference the command keeps.
pub record OneCall : Type 0 where
  pub called_or_refused : (words : List Text) → IsCall words ⊎ IsRefused words
  pub never_both : (words : List Text) → IsCall words → ¬ (IsRefused words)
  pub one : (words : List Text) (a b : Request) → CallsFor words a → CallsFor words b → a ≡ b
