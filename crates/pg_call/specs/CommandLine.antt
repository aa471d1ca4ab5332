-- The command line, as a command in clap's contracts.
use Rattle.std.specs.Prelude.{List, [], ◌∷◌, Some, true, codes}
use Rattle.std.specs.Borrow.{Bor}
use Rattle.clap.specs.Words.{App, Rule, Text, new_app, new_rule, with_rule, with_subcommand}
use Rattle.clap.specs.declared.ArgAction.TheVariants.{Append, SetTrue}
use Rattle.clap.specs.declared.builder.value_parser.ValueParser.TheVariants as parsers

-- ---- arguments

-- `--NAME VALUE`, by default that value
abbrev pub defaulted : Text → Text → Rule
defaulted name value =
    record (new_rule name) { long = Some name; value_names = 1; defaults = value ∷ [] }

-- `--NAME D`, by default `.`
abbrev pub folder : Text → Rule
folder name = defaulted name (codes ".")

-- `--NAME VALUE`, which may be left out
abbrev pub optional : Text → Rule
optional name = record (new_rule name) { long = Some name; value_names = 1 }

-- `--NAME VALUE`, as often as needed
abbrev pub each : Text → Rule
each name = record (new_rule name) { long = Some name; value_names = 1; action = Some Append }

-- `--view VIEW`, one of these names, by default `numbers`
abbrev pub view_option : Bor (List (Bor Text)) → Rule
view_option names = record (defaulted (codes "view") (codes "numbers")) { parser = Some (parsers.Names names) }

-- `--NAME VALUE`
abbrev pub named : Text → Rule
named name = record (new_rule name) { long = Some name; value_names = 1; required = true }

-- an argument without a name
abbrev pub positional : Text → Rule
positional name = record (new_rule name) { required = true }

-- arguments without a name, as often as needed
abbrev pub positionals : Text → Rule
positionals name = record (new_rule name) { action = Some Append }

-- `--NAME`
abbrev pub flag : Text → Rule
flag name = record (new_rule name) { long = Some name; action = Some SetTrue }

-- ---- commands

abbrev pub with_rules : App → List Rule → App
with_rules app [] = app
with_rules app (rule ∷ rules) = with_rules (with_rule app rule) rules

abbrev pub compile_app : App
compile_app = with_rules (new_app (codes "compile")) (folder (codes "dir") ∷ each (codes "include")
    ∷ optional (codes "files-from") ∷ positionals (codes "FILE") ∷ [])

-- the names of the views
abbrev pub view_names : List Text
view_names = codes "numbers" ∷ codes "names" ∷ []

-- the gate's, with the names of the views that this reference leads to
abbrev pub gate_app : Bor (List (Bor Text)) → App
gate_app names = with_rules (new_app (codes "gate")) (folder (codes "old-dir") ∷ folder (codes "new-dir")
    ∷ each (codes "old-include") ∷ each (codes "new-include")
    ∷ named (codes "old") ∷ named (codes "new") ∷ named (codes "type") ∷ flag (codes "cert")
    ∷ flag (codes "both") ∷ flag (codes "explain") ∷ flag (codes "json") ∷ view_option names ∷ [])

abbrev pub gate_all_app : Bor (List (Bor Text)) → App
gate_all_app names = with_rules (new_app (codes "gate-all")) (folder (codes "old-dir") ∷ folder (codes "new-dir")
    ∷ each (codes "old-include") ∷ each (codes "new-include")
    ∷ each (codes "old") ∷ each (codes "new") ∷ optional (codes "old-files-from") ∷ optional (codes "new-files-from")
    ∷ flag (codes "explain") ∷ flag (codes "json") ∷ flag (codes "notes") ∷ view_option names ∷ [])

abbrev pub verify_app : App
verify_app = with_rules (new_app (codes "verify")) (folder (codes "old-dir") ∷ folder (codes "new-dir")
    ∷ each (codes "old-include") ∷ each (codes "new-include")
    ∷ named (codes "old") ∷ named (codes "new") ∷ flag (codes "json") ∷ positional (codes "CERT") ∷ [])

abbrev pub show_app : App
show_app = with_rules (new_app (codes "show")) (folder (codes "dir") ∷ each (codes "include")
    ∷ named (codes "file") ∷ named (codes "type") ∷ flag (codes "json") ∷ positional (codes "HEX") ∷ [])

abbrev pub types_app : App
types_app = with_rules (new_app (codes "types")) (folder (codes "dir") ∷ each (codes "include")
    ∷ optional (codes "files-from") ∷ flag (codes "json") ∷ positionals (codes "FILE") ∷ [])

abbrev pub top_app : App
top_app = let app = new_app (codes "protogate") in
    record app { top = record app.top { no_binary_name = true; subcommand_required = true; has_version = true } }

abbrev pub with_apps : App → List App → App
with_apps app [] = app
with_apps app (below ∷ more) = with_apps (with_subcommand app below.top) more

abbrev pub whole_app : Bor (List (Bor Text)) → App
whole_app names = with_apps top_app
    (compile_app ∷ gate_app names ∷ gate_all_app names ∷ verify_app ∷ show_app ∷ types_app ∷ [])
