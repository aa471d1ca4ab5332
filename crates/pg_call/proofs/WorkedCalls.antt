-- The calls of small lists of words, by computation.
use Rattle.std.specs.Prelude.{codes, option_map}
use Rattle.std.proofs.Common.{◌≡◌, ◌≢◌, true, false, List, [], ◌∷◌, Some, None, refl}
use Rattle.std.specs.Borrow.{Bor}
use Rattle.clap.proofs.OnLiterals.{clap_on_literals}
use Rattle.clap.specs.Words.{Kinds, Text, fault_of, subcommand_of}
use Rattle.clap.specs.declared.error.ErrorKind.{ErrorKind}
use Rattle.clap.specs.declared.error.ErrorKind.TheVariants as kind
use Rattle.pg_dyn.specs.declared.view_name.ViewName.TheVariants as views
use Rattle.pg_call.specs.Call.{CallsFor, IsRefused, Request, request_in, types}
use Rattle.pg_call.specs.CommandLine.{whole_app}
use Rattle.pg_call.specs.laws.WorkedCalls.{WorkedCalls, all_of, asked_all, asked_gate, asked_show, asked_verify, gate_all_words, gate_by, gate_in_folders_of, gate_words, here, including, show_words, verify_words}

-- some reference to the names of the views
abbrev names : Bor (List (Bor Text))
names = record {
  ref_ptr = (0, 0);
  now = record { ref_ptr = (0, 0); now = codes "numbers" } ∷ record { ref_ptr = (0, 0); now = codes "names" } ∷ [];
}

abbrev IsCalled : List Text → Request → Type 0
IsCalled words call = (fault_of (whole_app names) words ≡ []) × (option_map request_in (subcommand_of (whole_app names) words) ≡ Some call)

calls : (words : List Text) (call : Request) → IsCalled words call → CallsFor words call
calls words call by_clap = record { names = names; are_names = refl; taken = by_clap.0; by_matches = by_clap.1 }

some_kind : (kind : ErrorKind) (kinds : Kinds) → kinds ≡ kind ∷ [] → kinds ≢ []
some_kind kind kinds is none = cc

refused : (words : List Text) (kind : ErrorKind) → fault_of (whole_app names) words ≡ kind ∷ [] → IsRefused words
refused words kind by_clap = record { names = names; are_names = refl; by_clap = some_kind kind _ by_clap }

by_numbers : IsCalled (gate_words (codes "--view" ∷ codes "numbers" ∷ [])) (gate_by views.Numbers)
unfolding clap_on_literals
by_numbers = (refl, refl)

by_names : IsCalled (gate_words (codes "--view" ∷ codes "names" ∷ [])) (gate_by views.Names)
unfolding clap_on_literals
by_names = (refl, refl)

after_a_mark : IsCalled (gate_words (codes "--view=names" ∷ [])) (gate_by views.Names)
unfolding clap_on_literals
after_a_mark = (refl, refl)

no_view : IsCalled (gate_words []) (gate_by views.Numbers)
unfolding clap_on_literals
no_view = (refl, refl)

with_readings : IsCalled (gate_words (codes "--explain" ∷ [])) (asked_gate true false views.Numbers)
unfolding clap_on_literals
with_readings = (refl, refl)

another_word : fault_of (whole_app names) (gate_words (codes "--view" ∷ codes "other" ∷ [])) ≡ kind.InvalidValue ∷ []
unfolding clap_on_literals
another_word = refl

capitals : fault_of (whole_app names) (gate_words (codes "--view" ∷ codes "Names" ∷ [])) ≡ kind.InvalidValue ∷ []
unfolding clap_on_literals
capitals = refl

empty_word : fault_of (whole_app names) (gate_words (codes "--view" ∷ [] ∷ [])) ≡ kind.InvalidValue ∷ []
unfolding clap_on_literals
empty_word = refl

no_word : fault_of (whole_app names) (gate_words (codes "--view" ∷ [])) ≡ kind.InvalidValue ∷ []
unfolding clap_on_literals
no_word = refl

twice : fault_of (whole_app names) (gate_words (codes "--view" ∷ codes "names" ∷ codes "--view" ∷ codes "names" ∷ [])) ≡ kind.ArgumentConflict ∷ []
unfolding clap_on_literals
twice = refl

all_of_two_files : IsCalled (gate_all_words []) (asked_all false false false views.Numbers)
unfolding clap_on_literals
all_of_two_files = (refl, refl)

all_by_names : IsCalled (gate_all_words (codes "--explain" ∷ codes "--view=names" ∷ [])) (asked_all true false false views.Names)
unfolding clap_on_literals
all_by_names = (refl, refl)

all_with_notes : IsCalled (gate_all_words (codes "--notes" ∷ [])) (asked_all false false true views.Numbers)
unfolding clap_on_literals
all_with_notes = (refl, refl)

notes_of_one_type : fault_of (whole_app names) (gate_words (codes "--notes" ∷ [])) ≡ kind.UnknownArgument ∷ []
unfolding clap_on_literals
notes_of_one_type = refl

all_of_lists : IsCalled (codes "gate-all" ∷ codes "--old-files-from" ∷ codes "k" ∷ codes "--old=b" ∷ codes "--new-files-from=m" ∷ [])
    (all_of (record (here (codes "b" ∷ [])) { list = Some (codes "k") }) (record (here []) { list = Some (codes "m") }))
unfolding clap_on_literals
all_of_lists = (refl, refl)

all_of_one_side : IsCalled (codes "gate-all" ∷ codes "--old" ∷ codes "o" ∷ []) (all_of (here (codes "o" ∷ [])) (here []))
unfolding clap_on_literals
all_of_one_side = (refl, refl)

all_of_a_bare_word : fault_of (whole_app names) (gate_all_words (codes "c" ∷ [])) ≡ kind.UnknownArgument ∷ []
unfolding clap_on_literals
all_of_a_bare_word = refl

types_of_a_file : IsCalled (codes "types" ∷ codes "f" ∷ codes "--dir" ∷ codes "d" ∷ []) (types (record (here (codes "f" ∷ [])) { folder = codes "d" }) false)
unfolding clap_on_literals
types_of_a_file = (refl, refl)

types_of_files : IsCalled (codes "types" ∷ codes "f" ∷ codes "g" ∷ []) (types (here (codes "f" ∷ codes "g" ∷ [])) false)
unfolding clap_on_literals
types_of_files = (refl, refl)

types_in_folders : IsCalled (codes "types" ∷ codes "--include" ∷ codes "b" ∷ codes "f" ∷ codes "--include=a" ∷ []) (types (including (codes "b" ∷ codes "a" ∷ []) (codes "f" ∷ [])) false)
unfolding clap_on_literals
types_in_folders = (refl, refl)

types_of_no_folder : fault_of (whole_app names) (codes "types" ∷ codes "f" ∷ codes "--include" ∷ []) ≡ kind.InvalidValue ∷ []
unfolding clap_on_literals
types_of_no_folder = refl

types_of_two_folders : fault_of (whole_app names) (codes "types" ∷ codes "f" ∷ codes "--dir=a" ∷ codes "--dir=b" ∷ []) ≡ kind.ArgumentConflict ∷ []
unfolding clap_on_literals
types_of_two_folders = refl

gate_in_folders : IsCalled (gate_words (codes "--new-include" ∷ codes "c" ∷ codes "--old-include=a" ∷ codes "--old-include" ∷ codes "b" ∷ [])) (gate_in_folders_of (codes "a" ∷ codes "b" ∷ []) (codes "c" ∷ []))
unfolding clap_on_literals
gate_in_folders = (refl, refl)

gate_as_json : IsCalled (gate_words (codes "--json" ∷ [])) (asked_gate false true views.Numbers)
unfolding clap_on_literals
gate_as_json = (refl, refl)

all_as_json : IsCalled (gate_all_words (codes "--json" ∷ codes "--explain" ∷ [])) (asked_all true true false views.Numbers)
unfolding clap_on_literals
all_as_json = (refl, refl)

verify_in_words : IsCalled (verify_words []) (asked_verify false)
unfolding clap_on_literals
verify_in_words = (refl, refl)

verify_as_json : IsCalled (verify_words (codes "--json" ∷ [])) (asked_verify true)
unfolding clap_on_literals
verify_as_json = (refl, refl)

show_in_words : IsCalled (show_words []) (asked_show false)
unfolding clap_on_literals
show_in_words = (refl, refl)

show_as_json : IsCalled (show_words (codes "--json" ∷ [])) (asked_show true)
unfolding clap_on_literals
show_as_json = (refl, refl)

types_as_json : IsCalled (codes "types" ∷ codes "--json" ∷ codes "f" ∷ []) (types (here (codes "f" ∷ [])) true)
unfolding clap_on_literals
types_as_json = (refl, refl)

no_set_as_json : fault_of (whole_app names) (codes "compile" ∷ codes "--json" ∷ codes "f" ∷ []) ≡ kind.UnknownArgument ∷ []
unfolding clap_on_literals
no_set_as_json = refl

json_twice : fault_of (whole_app names) (gate_words (codes "--json" ∷ codes "--json" ∷ [])) ≡ kind.ArgumentConflict ∷ []
unfolding clap_on_literals
json_twice = refl

types_of_no_file : IsCalled (codes "types" ∷ codes "--dir" ∷ codes "d" ∷ []) (types (record (here []) { folder = codes "d" }) false)
unfolding clap_on_literals
types_of_no_file = (refl, refl)

types_of_a_list : IsCalled (codes "types" ∷ codes "f" ∷ codes "--files-from" ∷ codes "l" ∷ []) (types (record (here (codes "f" ∷ [])) { list = Some (codes "l") }) false)
unfolding clap_on_literals
types_of_a_list = (refl, refl)

types_of_two_lists : fault_of (whole_app names) (codes "types" ∷ codes "--files-from=k" ∷ codes "--files-from=l" ∷ []) ≡ kind.ArgumentConflict ∷ []
unfolding clap_on_literals
types_of_two_lists = refl

gate_of_a_list : fault_of (whole_app names) (gate_words (codes "--old-files-from" ∷ codes "l" ∷ [])) ≡ kind.UnknownArgument ∷ []
unfolding clap_on_literals
gate_of_a_list = refl

no_words : fault_of (whole_app names) [] ≡ kind.MissingSubcommand ∷ []
unfolding clap_on_literals
no_words = refl

help : fault_of (whole_app names) (codes "types" ∷ codes "--help" ∷ []) ≡ kind.DisplayHelp ∷ []
unfolding clap_on_literals
help = refl

pub worked_calls : WorkedCalls
worked_calls = record {
  by_numbers = calls _ _ by_numbers;
  by_names = calls _ _ by_names;
  after_a_mark = calls _ _ after_a_mark;
  no_view = calls _ _ no_view;
  with_readings = calls _ _ with_readings;
  another_word = refused _ _ another_word;
  capitals = refused _ _ capitals;
  empty_word = refused _ _ empty_word;
  no_word = refused _ _ no_word;
  twice = refused _ _ twice;
  all_of_two_files = calls _ _ all_of_two_files;
  all_by_names = calls _ _ all_by_names;
  all_with_notes = calls _ _ all_with_notes;
  notes_of_one_type = refused _ _ notes_of_one_type;
  all_of_lists = calls _ _ all_of_lists;
  all_of_one_side = calls _ _ all_of_one_side;
  all_of_a_bare_word = refused _ _ all_of_a_bare_word;
  types_of_a_file = calls _ _ types_of_a_file;
  types_of_files = calls _ _ types_of_files;
  types_in_folders = calls _ _ types_in_folders;
  types_of_no_folder = refused _ _ types_of_no_folder;
  types_of_two_folders = refused _ _ types_of_two_folders;
  gate_in_folders = calls _ _ gate_in_folders;
  gate_as_json = calls _ _ gate_as_json;
  all_as_json = calls _ _ all_as_json;
  verify_in_words = calls _ _ verify_in_words;
  verify_as_json = calls _ _ verify_as_json;
  show_in_words = calls _ _ show_in_words;
  show_as_json = calls _ _ show_as_json;
  types_as_json = calls _ _ types_as_json;
  no_set_as_json = refused _ _ no_set_as_json;
  json_twice = refused _ _ json_twice;
  types_of_no_file = calls _ _ types_of_no_file;
  types_of_a_list = calls _ _ types_of_a_list;
  types_of_two_lists = refused _ _ types_of_two_lists;
  gate_of_a_list = refused _ _ gate_of_a_list;
  no_words = refused _ _ no_words;
  help = refused _ _ help;
}
