-- Arguments of the command line, and what they call for.
use Rattle.std.specs.Prelude.{Bool, true, false, List, [], ◌∷◌, Some, None, codes}
use Rattle.clap.specs.Words.{Text}
use Rattle.pg_dyn.specs.declared.view_name.ViewName.{ViewName}
use Rattle.pg_dyn.specs.declared.view_name.ViewName.TheVariants as views
use Rattle.pg_call.specs.Paths.{Paths}
use Rattle.pg_call.specs.Call.{CallsFor, IsRefused, Request, gate, gate_all, show, types, verify}

-- files of the current folder
abbrev pub here : List Text → Paths
here files = record { folder = codes "."; includes = []; files = files; list = None }

-- files of the current folder, with included ones
abbrev pub including : List Text → List Text → Paths
including includes files = record (here files) { includes = includes }

-- `gate` for a type M of two files, and further arguments
abbrev pub gate_words : List Text → List Text
gate_words more =
    codes "gate" ∷ codes "--old" ∷ codes "o" ∷ codes "--new" ∷ codes "n" ∷ codes "--type" ∷ codes "M" ∷ more

abbrev pub asked_gate : (explain json : Bool) → ViewName → Request
asked_gate explain json view = gate (record {
  files = record { old = here (codes "o" ∷ []); new = here (codes "n" ∷ []) };
  root = codes "M";
  certificate_only = false;
  both = false;
  explain = explain;
  json = json;
  view = view;
})

abbrev pub gate_by : ViewName → Request
gate_by view = asked_gate false false view

-- the same gate, where both sides have included folders
abbrev pub gate_in_folders_of : (old new : List Text) → Request
gate_in_folders_of old new = gate (record {
  files = record { old = including old (codes "o" ∷ []); new = including new (codes "n" ∷ []) };
  root = codes "M";
  certificate_only = false;
  both = false;
  explain = false;
  json = false;
  view = views.Numbers;
})

-- `gate-all` of two old files and a new one, and further arguments
abbrev pub gate_all_words : List Text → List Text
gate_all_words more = codes "gate-all" ∷ codes "--old" ∷ codes "b" ∷ codes "--new=n" ∷ codes "--old=a" ∷ more

-- `gate-all` of these sides, without further options
abbrev pub all_of : (old new : Paths) → Request
all_of old new = gate_all (record {
  files = record { old = old; new = new };
  explain = false;
  json = false;
  notes = false;
  view = views.Numbers;
})

abbrev pub asked_all : (explain json notes : Bool) → ViewName → Request
asked_all explain json notes view = gate_all (record {
  files = record { old = here (codes "b" ∷ codes "a" ∷ []); new = here (codes "n" ∷ []) };
  explain = explain;
  json = json;
  notes = notes;
  view = view;
})

-- `verify` and `show` of a file in each place, and further arguments
abbrev pub verify_words : List Text → List Text
verify_words more = codes "verify" ∷ codes "--old" ∷ codes "o" ∷ codes "--new" ∷ codes "n" ∷ codes "c" ∷ more

abbrev pub asked_verify : (json : Bool) → Request
asked_verify json = verify (record { old = here (codes "o" ∷ []); new = here (codes "n" ∷ []) }) (codes "c") json

abbrev pub show_words : List Text → List Text
show_words more = codes "show" ∷ codes "--file" ∷ codes "f" ∷ codes "--type" ∷ codes "M" ∷ codes "00" ∷ more

abbrev pub asked_show : (json : Bool) → Request
asked_show json = show (record { files = here (codes "f" ∷ []); root = codes "M"; word = codes "00"; json = json })

pub record WorkedCalls : Type 0 where
  pub by_numbers : CallsFor (gate_words (codes "--view" ∷ codes "numbers" ∷ [])) (gate_by views.Numbers)
  pub by_names : CallsFor (gate_words (codes "--view" ∷ codes "names" ∷ [])) (gate_by views.Names)
  pub after_a_mark : CallsFor (gate_words (codes "--view=names" ∷ [])) (gate_by views.Names)
  pub no_view : CallsFor (gate_words []) (gate_by views.Numbers)
  pub with_readings : CallsFor (gate_words (codes "--explain" ∷ [])) (asked_gate true false views.Numbers)
  pub another_word : IsRefused (gate_words (codes "--view" ∷ codes "other" ∷ []))
  pub capitals : IsRefused (gate_words (codes "--view" ∷ codes "Names" ∷ []))
  pub empty_word : IsRefused (gate_words (codes "--view" ∷ [] ∷ []))
  pub no_word : IsRefused (gate_words (codes "--view" ∷ []))
  pub twice : IsRefused (gate_words (codes "--view" ∷ codes "names" ∷ codes "--view" ∷ codes "names" ∷ []))
  pub all_of_two_files : CallsFor (gate_all_words []) (asked_all false false false views.Numbers)
  pub all_by_names :
      CallsFor (gate_all_words (codes "--explain" ∷ codes "--view=names" ∷ [])) (asked_all true false false views.Names)
  pub all_with_notes : CallsFor (gate_all_words (codes "--notes" ∷ [])) (asked_all false false true views.Numbers)
  pub notes_of_one_type : IsRefused (gate_words (codes "--notes" ∷ []))
  pub all_of_lists : CallsFor (codes "gate-all" ∷ codes "--old-files-from" ∷ codes "k" ∷ codes "--old=b"
      ∷ codes "--new-files-from=m" ∷ [])
      (all_of (record (here (codes "b" ∷ [])) { list = Some (codes "k") })
      (record (here []) { list = Some (codes "m") }))
  pub all_of_one_side : CallsFor (codes "gate-all" ∷ codes "--old" ∷ codes "o" ∷ [])
      (all_of (here (codes "o" ∷ [])) (here []))
  pub all_of_a_bare_word : IsRefused (gate_all_words (codes "c" ∷ []))
  pub types_of_a_file : CallsFor (codes "types" ∷ codes "f" ∷ codes "--dir" ∷ codes "d" ∷ [])
      (types (record (here (codes "f" ∷ [])) { folder = codes "d" }) false)
  pub types_of_files : CallsFor (codes "types" ∷ codes "f" ∷ codes "g" ∷ []) (types (here (codes "f" ∷ codes "g" ∷ [])) false)
  pub types_in_folders : CallsFor (codes "types" ∷ codes "--include" ∷ codes "b" ∷ codes "f" ∷ codes "--include=a" ∷ [])
      (types (including (codes "b" ∷ codes "a" ∷ []) (codes "f" ∷ [])) false)
  pub types_of_no_folder : IsRefused (codes "types" ∷ codes "f" ∷ codes "--include" ∷ [])
  pub types_of_two_folders : IsRefused (codes "types" ∷ codes "f" ∷ codes "--dir=a" ∷ codes "--dir=b" ∷ [])
  pub gate_in_folders : CallsFor (gate_words (codes "--new-include" ∷ codes "c" ∷ codes "--old-include=a"
      ∷ codes "--old-include" ∷ codes "b" ∷ [])) (gate_in_folders_of (codes "a" ∷ codes "b" ∷ []) (codes "c" ∷ []))
  pub gate_as_json : CallsFor (gate_words (codes "--json" ∷ [])) (asked_gate false true views.Numbers)
  pub all_as_json : CallsFor (gate_all_words (codes "--json" ∷ codes "--explain" ∷ [])) (asked_all true true false views.Numbers)
  pub verify_in_words : CallsFor (verify_words []) (asked_verify false)
  pub verify_as_json : CallsFor (verify_words (codes "--json" ∷ [])) (asked_verify true)
  pub show_in_words : CallsFor (show_words []) (asked_show false)
  pub show_as_json : CallsFor (show_words (codes "--json" ∷ [])) (asked_show true)
  pub types_as_json : CallsFor (codes "types" ∷ codes "--json" ∷ codes "f" ∷ []) (types (here (codes "f" ∷ [])) true)
  pub no_set_as_json : IsRefused (codes "compile" ∷ codes "--json" ∷ codes "f" ∷ [])
  pub json_twice : IsRefused (gate_words (codes "--json" ∷ codes "--json" ∷ []))
  pub types_of_no_file : CallsFor (codes "types" ∷ codes "--dir" ∷ codes "d" ∷ [])
      (types (record (here []) { folder = codes "d" }) false)
  pub types_of_a_list : CallsFor (codes "types" ∷ codes "f" ∷ codes "--files-from" ∷ codes "l" ∷ [])
      (types (record (here (codes "f" ∷ [])) { list = Some (codes "l") }) false)
  pub types_of_two_lists : IsRefused (codes "types" ∷ codes "--files-from=k" ∷ codes "--files-from=l" ∷ [])
  pub gate_of_a_list : IsRefused (gate_words (codes "--old-files-from" ∷ codes "l" ∷ []))
  pub no_words : IsRefused []
  pub help : IsRefused (codes "types" ∷ codes "--help" ∷ [])
