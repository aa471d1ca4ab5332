-- What arguments call for doesn't depend on where in memory the names of the views are.
use Rattle.std.specs.Prelude.{◌&&◌, false, is_some, not, option_map, if◌then◌else◌}
use Rattle.std.specs.List.{list_any}
use Rattle.std.specs.Borrow.{Bor}
use Rattle.std.proofs.Common.{◌≡◌, ◌∙◌, ◌||◌, ◌⊎◌, Bool, true, List, [], ◌∷◌, Option, Some, None, inl, inr, refl, ap, sym, map}
use Rattle.clap.proofs.OnLiterals.{clap_on_literals}
use Rattle.clap.specs.Facts.{explicit_source, parser_of_value}
use Rattle.clap.specs.Faults.{built_fault, check_fault, defaults_fault, fault_of, level_fault, settle_fault, walk_fault}
use Rattle.clap.specs.Kinds.{Kinds, check_kinds, or_else, value_kinds}
use Rattle.clap.specs.Simple.{App, Shape, argument_words, built, entered, names_of, subcommand_of}
use Rattle.clap.specs.Takes.{is_given}
use Rattle.clap.specs.Values.{reading_of, same_text}
use Rattle.clap.specs.Walk.{Held, Names, Row, Rule, Text, finished, nothing_held, settled, stop_after, texts, walk, walk_from}
use Rattle.clap.specs.declared.builder.value_parser.ValueParser.{ValueParser}
use Rattle.clap.specs.declared.builder.value_parser.ValueParser.TheVariants as parsers
use Rattle.clap.specs.declared.error.kind.ErrorKind.TheVariants as kind
use Rattle.pg_call.specs.CommandLine.{view_names, whole_app}
use Rattle.pg_call.specs.Call.{CallsFor, IsCall, IsRefused, OneCall, Request, request_in}
use Rattle.pg_call.proofs.AlikeFaults.{built_fault_alike, changed_app, entered_at_alike}

-- a reference to these strings, all of them at the first address of all
abbrev placed : List Text → Bor (List (Bor Text))
placed names = record { ref_ptr = (0, 0); now = map (λ (name : Text). record { ref_ptr = (0, 0); now = name }) names }

abbrev moved_parser : ValueParser → ValueParser
moved_parser (parsers.Names names) = parsers.Names (placed (texts names.now))
moved_parser parser = parser

abbrev moved : Option ValueParser → Option ValueParser
moved None = None
moved (Some parser) = Some (moved_parser parser)

same_reading : (p : Option ValueParser) → reading_of (parser_of_value (moved p)) ≡ reading_of (parser_of_value p)
same_reading None = refl
same_reading (Some parsers.String) = refl
same_reading (Some parsers.Falsey) = refl
same_reading (Some parsers.NonEmptyString) = refl
same_reading (Some parsers.Bool) = refl
same_reading (Some parsers.Boolish) = refl
same_reading (Some (parsers.Signed low high)) = refl
same_reading (Some (parsers.Unsigned low high)) = refl
same_reading (Some parsers.Float) = refl
same_reading (Some parsers.Char) = refl
same_reading (Some (parsers.Names names)) = refl
same_reading (Some (parsers.Values values)) = refl

any_moved : (ignore_case : Bool) (text : Text) (names : List (Bor Text)) →
    list_any (λ (name : Bor Text). same_text ignore_case name.now text) (placed (texts names)).now ≡ list_any (λ (name : Bor Text). same_text ignore_case name.now text) names
any_moved ignore_case text [] = refl
any_moved ignore_case text (name ∷ names) = ap (λ (b : Bool). same_text ignore_case name.now text || b) (any_moved ignore_case text names)

same_kinds : (ignore_case : Bool) (p : Option ValueParser) (text : Text) → value_kinds ignore_case (parser_of_value (moved p)) text ≡ value_kinds ignore_case (parser_of_value p) text
same_kinds ignore_case None text = refl
same_kinds ignore_case (Some parsers.String) text = refl
same_kinds ignore_case (Some parsers.Falsey) text = refl
same_kinds ignore_case (Some parsers.NonEmptyString) text = refl
same_kinds ignore_case (Some parsers.Bool) text = refl
same_kinds ignore_case (Some parsers.Boolish) text = refl
same_kinds ignore_case (Some (parsers.Signed low high)) text = refl
same_kinds ignore_case (Some (parsers.Unsigned low high)) text = refl
same_kinds ignore_case (Some parsers.Float) text = refl
same_kinds ignore_case (Some parsers.Char) text = refl
same_kinds ignore_case (Some (parsers.Names names)) text = ap (λ (b : Bool). if b then [] else kind.InvalidValue ∷ []) (any_moved ignore_case text names.now)
same_kinds ignore_case (Some (parsers.Values values)) text = refl

built_moved : (names : Bor (List (Bor Text))) → built (whole_app (placed (texts names.now))) ≡ changed_app moved same_reading same_kinds (built (whole_app names))
unfolding clap_on_literals
built_moved names = refl

same_faults : (names : Bor (List (Bor Text))) (words : List Text) → fault_of (whole_app (placed (texts names.now))) words ≡ fault_of (whole_app names) words
same_faults names words =
    ap (λ (a : App). built_fault a nothing_held words) (built_moved names) ∙ built_fault_alike moved same_reading same_kinds (built (whole_app names)) nothing_held words

same_subcommand : (names : Bor (List (Bor Text))) (words : List Text) → subcommand_of (whole_app (placed (texts names.now))) words ≡ subcommand_of (whole_app names) words
same_subcommand names words =
    ap (λ (a : App). entered a (stop_after a.top.rules (names_of a) words)) (built_moved names) ∙ entered_at_alike moved same_reading same_kinds (built (whole_app names)) words

faults_agree : (a b : Bor (List (Bor Text))) (words : List Text) → texts a.now ≡ texts b.now → fault_of (whole_app a) words ≡ fault_of (whole_app b) words
faults_agree a b words same =
    sym (same_faults a words) ∙ ap (λ (names : List Text). fault_of (whole_app (placed names)) words) same ∙ same_faults b words

subcommands_agree : (a b : Bor (List (Bor Text))) (words : List Text) → texts a.now ≡ texts b.now → subcommand_of (whole_app a) words ≡ subcommand_of (whole_app b) words
subcommands_agree a b words same =
    sym (same_subcommand a words) ∙ ap (λ (names : List Text). subcommand_of (whole_app (placed names)) words) same ∙ same_subcommand b words

-- ---- words without a fault enter a subcommand, for the command requires one

no_last : (a b : Kinds) → or_else a b ≡ [] → b ≡ []
no_last [] b none = none
no_last (k ∷ ks) b none = cc

check_entered : (wants_help required wants_argument has : Bool) → required ≡ true → check_kinds wants_help (not has && required) wants_argument ≡ [] → has ≡ true
check_entered wants_help required wants_argument true is none = refl
check_entered true required wants_argument false is none = cc
check_entered false true wants_argument false is none = cc
check_entered false false wants_argument false is none = cc

level_entered : (s : Shape) (names : Names) (h : Held) (words : List Text) (has : Bool) (below : Kinds) → s.subcommand_required ≡ true
    → level_fault s names h words has below ≡ [] → has ≡ true
level_entered s names h words has below required none =
    let end = (walk s.rules names h words).held in
    let rows = finished s.rules end in
    let checked = check_fault s rows has in
    let defaults = defaults_fault (settled s.rules end).rows s.rules in
    let settling = settle_fault s.rules s.args_override_self end in
    let last = or_else settling (or_else defaults checked) in
    let all_but_walk = no_last (walk_fault s names (walk_from h) words) (or_else below last) none in
    let all_but_below = no_last below last all_but_walk in
    check_entered (not has && (s.arg_required_else_help && not (list_any (λ (r : Row). explicit_source r.source) rows))) s.subcommand_required
    (not (s.subcommand_negates_reqs && has) && list_any (λ (a : Rule). a.required && not (is_given a.id rows)) s.rules) has required
    (no_last defaults checked (no_last settling (or_else defaults checked) all_but_below))

required : (names : Bor (List (Bor Text))) → (built (whole_app names)).top.subcommand_required ≡ true
unfolding clap_on_literals
required names = refl

is_entered : (names : Bor (List (Bor Text))) (words : List Text) → fault_of (whole_app names) words ≡ [] → is_some (subcommand_of (whole_app names) words) ≡ true
is_entered names words taken =
    let app = built (whole_app names) in
    level_entered app.top (names_of app) nothing_held (argument_words (whole_app names) words) _ _ (required names) taken

-- some reference to the names of the views
abbrev some_names : Bor (List (Bor Text))
some_names = placed view_names

called : (words : List Text) (met : Option (Text × List Row)) → fault_of (whole_app some_names) words ≡ [] → subcommand_of (whole_app some_names) words ≡ met → is_some met ≡ true → IsCall words
called words None taken is some = cc
called words (Some entered) taken is some =
    record { call = request_in entered; called = record { names = some_names; are_names = refl; taken = taken; by_matches = ap (option_map request_in) is } }

called_or_refused : (words : List Text) (kinds : Kinds) → fault_of (whole_app some_names) words ≡ kinds → IsCall words ⊎ IsRefused words
called_or_refused words [] is = inl (called words (subcommand_of (whole_app some_names) words) is refl (is_entered some_names words is))
called_or_refused words (kind ∷ kinds) is = inr (record { names = some_names; are_names = refl; by_clap = λ none. cc })

never_both : (words : List Text) → IsCall words → ¬ (IsRefused words)
never_both words call refused =
    let agree = faults_agree refused.names call.called.names words (refused.are_names ∙ sym call.called.are_names) in
    refused.by_clap (agree ∙ call.called.taken)

one : (words : List Text) (a b : Request) → CallsFor words a → CallsFor words b → a ≡ b
one words a b first second =
    let agree = subcommands_agree first.names second.names words (first.are_names ∙ sym second.are_names) in
    let same : Some a ≡ Some b = sym first.by_matches ∙ ap (option_map request_in) agree ∙ second.by_matches in
    cc

pub one_call : OneCall
one_call = record {
  called_or_refused = λ words. called_or_refused words _ refl;
  never_both = never_both;
  one = one;
}
