-- The faults of a parse stay the same where other parsers of some arguments take the same values.
use Rattle.std.specs.Prelude.{encode_utf8, if◌then◌else◌, is_some}
use Rattle.std.specs.List.{list_any}
use Rattle.std.specs.Option.{option_map_or}
use Rattle.std.proofs.Common.{◌≡◌, ◌∙◌, ◌&&◌, ◌||◌, Bool, false, ℕ, zero, suc, List, [], ◌∷◌, Option, Some, None, refl, ap, ap₂, drop, find, length, map, not, option_map, slice_get}
use Rattle.std.specs.Str.{bytes_eq, chars}
use Rattle.clap.specs.Facts.{parser_of_value, unwrap_or_range, explicit_source}
use Rattle.clap.specs.Faults.{action_fault, built_fault, bundle_fault, bundle_step_fault, check_fault, count_fault, default_fault, defaults_fault, entered_fault, flag_word_fault, flags_fault, level_fault}
use Rattle.clap.specs.Faults.{long_fault, option_fault, other_fault, positional_fault, react_fault, repeat_fault, set_fault, settle_fault, short_fault, step_fault, stray_fault, turn_fault, use_fault, values_fault, walk_fault, word_fault}
use Rattle.clap.specs.Kinds.{Kinds, check_kinds, or_else, range_kinds, request_kinds, value_kinds, values_kinds}
use Rattle.clap.specs.Lexer.{long_of, short_of}
use Rattle.clap.specs.Simple.{App, Shape, entered, label_of, names_of, rows_at}
use Rattle.clap.specs.Takes.{is_given}
use Rattle.clap.specs.Values.{reading_of}
use Rattle.clap.specs.Walk.{Held, Names, Row, Rule, Step, Text, Waiting, Walk, action_of, answers_to, arg_by_id, arg_by_index, arg_by_long, arg_by_short, attached_value, finished, has_row, is_empty, is_pending}
use Rattle.clap.specs.Walk.{most_values, nothing_held, settled, stop_after, subcommand_met, takes_several, takes_values, trailing, value, walk, walk_from, walked, with_default, word_met}
use Rattle.clap.specs.Walk.{next as step_next}
use Rattle.clap.specs.Walk.{subcommand as step_subcommand}
use Rattle.clap.specs.declared.builder.action.ArgAction.{ArgAction}
use Rattle.clap.specs.declared.builder.action.ArgAction.TheVariants as actions
use Rattle.clap.specs.declared.builder.value_parser.ValueParser.{ValueParser}
use Rattle.clap.specs.declared.error.kind.ErrorKind.TheVariants as kind
use Rattle.pg_call.proofs.AlikeWalks.{by_id, by_index, by_long, by_short, changed, find_changed, finished_alike, reacted_alike, rows_after_alike, settled_alike, walk_alike, walked_alike, with_default_alike, word_met_alike}

module _ (g : Option ValueParser → Option ValueParser) (same_reading : (p : Option ValueParser) → reading_of (parser_of_value (g p)) ≡ reading_of (parser_of_value p)) (same_kinds : (ignore_case : Bool) (p : Option ValueParser) (text : Text) → value_kinds ignore_case (parser_of_value (g p)) text ≡ value_kinds ignore_case (parser_of_value p) text) where
  abbrev others : List Rule → List Rule
  others c = map (changed g) c

  values_kinds_alike : (ignore_case : Bool) (p : Option ValueParser) (values : List Text) → values_kinds ignore_case (parser_of_value (g p)) values ≡ values_kinds ignore_case (parser_of_value p) values
  values_kinds_alike ignore_case p [] = refl
  values_kinds_alike ignore_case p (v ∷ vs) = ap₂ or_else (same_kinds ignore_case p v) (values_kinds_alike ignore_case p vs)

  values_fault_alike : (a : Rule) (values : List Text) → values_fault (changed g a) values ≡ values_fault a values
  values_fault_alike a values = values_kinds_alike a.ignore_case a.parser values

  count_fault_alike : (a : Rule) (values : List Text) (rows : List Row) → count_fault (changed g a) values rows ≡ count_fault a values rows
  count_fault_alike a [] rows = same_kinds a.ignore_case a.parser _
  count_fault_alike a (v ∷ vs) rows = values_fault_alike a (v ∷ vs)

  set_fault_alike : (again : Bool) (a : Rule) (values : List Text) (rows : List Row) → set_fault again (changed g a) values rows ≡ set_fault again a values rows
  set_fault_alike again a values rows = ap (or_else (repeat_fault again a.id rows)) (values_fault_alike a values)

  action_fault_alike : (action : ArgAction) (again : Bool) (a : Rule) (values : List Text) (rows : List Row) → action_fault action again (changed g a) values rows ≡ action_fault action again a values rows
  action_fault_alike actions.Set again a values rows = set_fault_alike again a values rows
  action_fault_alike actions.SetTrue again a values rows = set_fault_alike again a values rows
  action_fault_alike actions.SetFalse again a values rows = set_fault_alike again a values rows
  action_fault_alike actions.Append again a values rows = values_fault_alike a values
  action_fault_alike actions.Count again a values rows = count_fault_alike a values rows
  action_fault_alike actions.Help again a values rows = refl
  action_fault_alike actions.HelpShort again a values rows = refl
  action_fault_alike actions.HelpLong again a values rows = refl
  action_fault_alike actions.Version again a values rows = refl

  use_fault_alike : (again : Bool) (a : Rule) (values : List Text) (rows : List Row) → use_fault again (changed g a) values rows ≡ use_fault again a values rows
  use_fault_alike again a [] rows = ap (or_else (range_kinds (unwrap_or_range a.range).start_inclusive (most_values a) 0)) (action_fault_alike (action_of a) again a a.missing rows)
  use_fault_alike again a (v ∷ vs) rows = ap (or_else (range_kinds (unwrap_or_range a.range).start_inclusive (most_values a) (length (v ∷ vs)))) (action_fault_alike (action_of a) again a (v ∷ vs) rows)

  use_found_alike : (again : Bool) (o : Option Rule) (values : List Text) (rows : List Row) → option_map_or (λ (a : Rule). use_fault again a values rows) (option_map (changed g) o) [] ≡ option_map_or (λ (a : Rule). use_fault again a values rows) o []
  use_found_alike again None values rows = refl
  use_found_alike again (Some a) values rows = use_fault_alike again a values rows

  settle_pending_alike : (c : List Rule) (again : Bool) (p : Option (Text × List Text)) (rows : List Row) →
      option_map_or (λ (p : Text × List Text). option_map_or (λ (a : Rule). use_fault again a p.1 rows) (arg_by_id (others c) p.0) []) p []
      ≡ option_map_or (λ (p : Text × List Text). option_map_or (λ (a : Rule). use_fault again a p.1 rows) (arg_by_id c p.0) []) p []
  settle_pending_alike c again None rows = refl
  settle_pending_alike c again (Some p) rows =
      ap (λ (o : Option Rule). option_map_or (λ (a : Rule). use_fault again a p.1 rows) o []) (by_id g same_reading c p.0) ∙ use_found_alike again (arg_by_id c p.0) p.1 rows

  settle_fault_alike : (c : List Rule) (again : Bool) (h : Held) → settle_fault (others c) again h ≡ settle_fault c again h
  settle_fault_alike c again h = settle_pending_alike c again h.pending h.rows

  react_fault_alike : (c : List Rule) (again : Bool) (a : Rule) (values : List Text) (h : Held) → react_fault (others c) again (changed g a) values h ≡ react_fault c again a values h
  react_fault_alike c again a values h =
      ap₂ or_else (settle_fault_alike c again h)
      (ap (λ (s : Held). use_fault again (changed g a) values s.rows) (settled_alike g same_reading c h) ∙ use_fault_alike again a values (settled c h).rows)

  option_fault_alike : (c : List Rule) (again : Bool) (a : Rule) (v : Option Text) (h : Held) → option_fault (others c) again (changed g a) v h ≡ option_fault c again a v h
  option_fault_alike c again a (Some v) h = react_fault_alike c again a (v ∷ []) h
  option_fault_alike c again a None h = settle_fault_alike c again h

  long_fault_alike : (c : List Rule) (again : Bool) (o : Option Rule) (v : Option Text) (h : Held) → long_fault (others c) again (option_map (changed g) o) v h ≡ long_fault c again o v h
  long_fault_alike c again None v h = refl
  long_fault_alike c again (Some a) v h =
      ap₂ (λ (x y : Kinds). if takes_values a then x else (if is_some v then kind.TooManyValues ∷ [] else y)) (option_fault_alike c again a v h) (react_fault_alike c again a [] h)

  short_fault_alike : (c : List Rule) (again : Bool) (o : Option Rule) (rest : Text) (h : Held) (one other : Held → Kinds) → one ≡ other
      → short_fault (others c) again (option_map (changed g) o) rest h one ≡ short_fault c again o rest h other
  short_fault_alike c again None rest h one other same = refl
  short_fault_alike c again (Some a) rest h one other same =
      ap₂ (λ (x y : Kinds). if takes_values a then x else y) (option_fault_alike c again a (attached_value rest) h)
      (ap₂ or_else (react_fault_alike c again a [] h) (ap₂ (λ (n : Held → Kinds) (k : Held). n k) same (reacted_alike g same_reading c a [] h)))

  bundle_step_fault_alike : (c : List Rule) (again : Bool) (x : Option ℕ) (flags : Text) (skip : ℕ) (h : Held) (one other : Text → ℕ → Held → Kinds) → one ≡ other
      → bundle_step_fault (others c) again x flags skip h one ≡ bundle_step_fault c again x flags skip h other
  bundle_step_fault_alike c again None flags skip h one other same = refl
  bundle_step_fault_alike c again (Some x) flags zero h one other same =
      let rest = drop (length (encode_utf8 x)) flags in
      ap (λ (o : Option Rule). short_fault (others c) again o rest h (one rest 0)) (by_short g same_reading c x)
      ∙ short_fault_alike c again (arg_by_short c x) rest h (one rest 0) (other rest 0) (ap (λ (n : Text → ℕ → Held → Kinds). n rest 0) same)
  bundle_step_fault_alike c again (Some x) flags (suc skip) h one other same = ap (λ (n : Text → ℕ → Held → Kinds). n (drop (length (encode_utf8 x)) flags) skip h) same

  flags_fault_alike : (c : List Rule) (again : Bool) (k : ℕ) → flags_fault (others c) again k ≡ flags_fault c again k
  unfolding flags_fault
  flags_fault_alike c again zero = λ j flags skip h. []
  flags_fault_alike c again (suc k) = λ j flags skip h. bundle_step_fault_alike c again (slice_get (chars flags) 0) flags skip h (flags_fault (others c) again k) (flags_fault c again k) (flags_fault_alike c again k) j

  bundle_fault_alike : (c : List Rule) (again : Bool) (flags : Text) (h : Held) → bundle_fault (others c) again flags h ≡ bundle_fault c again flags h
  bundle_fault_alike c again flags h = ap (λ (n : Text → ℕ → Held → Kinds). n flags h.skip (record h { skip = 0 })) (flags_fault_alike c again (length flags))

  bundle_found_alike : (c : List Rule) (again : Bool) (o : Option Text) (h : Held) → option_map_or (λ (flags : Text). bundle_fault (others c) again flags h) o [] ≡ option_map_or (λ (flags : Text). bundle_fault c again flags h) o []
  bundle_found_alike c again None h = refl
  bundle_found_alike c again (Some flags) h = bundle_fault_alike c again flags h

  flag_word_fault_alike : (c : List Rule) (again : Bool) (o : Option (Text × Option Text)) (word : Text) (h : Held) → flag_word_fault (others c) again o word h ≡ flag_word_fault c again o word h
  flag_word_fault_alike c again (Some p) word h = ap (λ (o : Option Rule). long_fault (others c) again o p.1 h) (by_long g same_reading c p.0) ∙ long_fault_alike c again (arg_by_long c p.0) p.1 h
  flag_word_fault_alike c again None word h = bundle_found_alike c again (short_of word) h

  -- the shape with the other parsers
  abbrev pub changed_shape : Shape → Shape
  changed_shape s = record s { rules = map (changed g) s.rules }

  other_fault_alike : (s : Shape) (o : Option Text) (word : Text) (h : Held) → other_fault (changed_shape s) o word h ≡ other_fault s o word h
  other_fault_alike s (Some name) word h = refl
  other_fault_alike s None word h = ap (λ (x : Kinds). if bytes_eq word (45 ∷ 45 ∷ []) then [] else x) (flag_word_fault_alike s.rules s.args_override_self (long_of word) word h)

  word_fault_alike : (s : Shape) (names : Names) (is_trailing : Bool) (waiting : Waiting) (word : Text) (h : Held) → word_fault (changed_shape s) names is_trailing waiting word h ≡ word_fault s names is_trailing waiting word h
  word_fault_alike s names is_trailing waiting word h = ap (λ (x : Kinds). if is_trailing then [] else x) (other_fault_alike s (subcommand_met names waiting word) word h)

  positional_found_alike : (c : List Rule) (again : Bool) (o : Option Rule) (h : Held) (stray : Kinds) → option_map_or (λ (a : Rule). positional_fault (others c) again a h) (option_map (changed g) o) stray ≡ option_map_or (λ (a : Rule). positional_fault c again a h) o stray
  positional_found_alike c again None h stray = refl
  positional_found_alike c again (Some a) h stray = ap (λ (x : Kinds). if is_pending a h.pending && takes_several a then [] else x) (settle_fault_alike c again h)

  step_fault_alike : (s : Shape) (position : ℕ) (h : Held) (step : Step) → step_fault (changed_shape s) position h step ≡ step_fault s position h step
  step_fault_alike s position h (step_next waiting) = refl
  step_fault_alike s position h (trailing at) = refl
  step_fault_alike s position h (step_subcommand name) = refl
  step_fault_alike s position h value =
      ap (λ (o : Option Rule). option_map_or (λ (a : Rule). positional_fault (others s.rules) s.args_override_self a h) o (stray_fault s)) (by_index g same_reading s.rules position)
      ∙ positional_found_alike s.rules s.args_override_self (arg_by_index s.rules position) h (stray_fault s)

  turn_fault_alike : (s : Shape) (names : Names) (w : Walk) (word : Text) → turn_fault (changed_shape s) names w word ≡ turn_fault s names w word
  turn_fault_alike s names w word =
      let met = word_met s.rules names w.is_trailing w.waiting w.position word w.held in
      ap₂ (λ (x y : Kinds). if is_some w.stopped then [] else or_else x y) (word_fault_alike s names w.is_trailing w.waiting word w.held)
      (ap (λ (m : Held × Step). step_fault (changed_shape s) w.position m.0 m.1) (word_met_alike g same_reading s.rules names w.is_trailing w.waiting w.position word w.held)
      ∙ step_fault_alike s w.position met.0 met.1)

  walk_fault_alike : (s : Shape) (names : Names) (w : Walk) (words : List Text) → walk_fault (changed_shape s) names w words ≡ walk_fault s names w words
  unfolding walk_fault
  walk_fault_alike s names w [] = refl
  walk_fault_alike s names w (word ∷ rest) =
      ap₂ or_else (turn_fault_alike s names w word)
      (ap (λ (n : Walk → Text → Walk). walk_fault (changed_shape s) names (n w word) rest) (walked_alike g same_reading s.rules names) ∙ walk_fault_alike s names (walked s.rules names w word) rest)

  default_fault_alike : (rows : List Row) (a : Rule) → default_fault rows (changed g a) ≡ default_fault rows a
  default_fault_alike rows a = ap (λ (x : Kinds). if has_row a.id rows || is_empty a.defaults then [] else or_else (request_kinds (action_of a)) x) (values_fault_alike a a.defaults)

  defaults_fault_alike : (rows : List Row) (c : List Rule) → defaults_fault rows (others c) ≡ defaults_fault rows c
  unfolding defaults_fault
  defaults_fault_alike rows [] = refl
  defaults_fault_alike rows (a ∷ c) =
      ap₂ or_else (default_fault_alike rows a)
      (ap (λ (r : List Row). defaults_fault r (others c)) (with_default_alike g same_reading rows a) ∙ defaults_fault_alike (with_default rows a) c)

  any_alike : (test : Rule → Bool) → ((a : Rule) → test (changed g a) ≡ test a) → (c : List Rule) → list_any test (others c) ≡ list_any test c
  any_alike test same [] = refl
  any_alike test same (a ∷ c) = ap₂ ◌||◌ (same a) (any_alike test same c)

  check_fault_alike : (s : Shape) (rows : List Row) (has_subcommand : Bool) → check_fault (changed_shape s) rows has_subcommand ≡ check_fault s rows has_subcommand
  check_fault_alike s rows has_subcommand = ap (λ (b : Bool). check_kinds
      (not has_subcommand && (s.arg_required_else_help && not (list_any (λ (r : Row). explicit_source r.source) rows)))
      (not has_subcommand && s.subcommand_required)
      (not (s.subcommand_negates_reqs && has_subcommand) && b)) (any_alike (λ (a : Rule). a.required && not (is_given a.id rows)) (λ a. refl) s.rules)

  pub level_fault_alike : (s : Shape) (names : Names) (h : Held) (words : List Text) (has_subcommand : Bool) (below : Kinds) → level_fault (changed_shape s) names h words has_subcommand below ≡ level_fault s names h words has_subcommand below
  level_fault_alike s names h words has_subcommand below =
      let end = (walk s.rules names h words).held in
      ap₂ or_else (walk_fault_alike s names (walk_from h) words)
      (ap (or_else below)
      (ap (λ (w : Walk).
      or_else (settle_fault (others s.rules) s.args_override_self w.held)
      (or_else (defaults_fault (settled (others s.rules) w.held).rows (others s.rules))
      (check_fault (changed_shape s) (finished (others s.rules) w.held) has_subcommand))) (walk_alike g same_reading s.rules names h words)
      ∙ ap₂ or_else (settle_fault_alike s.rules s.args_override_self end)
      (ap₂ or_else
      (ap (λ (k : Held). defaults_fault k.rows (others s.rules)) (settled_alike g same_reading s.rules end) ∙ defaults_fault_alike (settled s.rules end).rows s.rules)
      (ap (λ (rows : List Row). check_fault (changed_shape s) rows has_subcommand) (finished_alike g same_reading s.rules end) ∙ check_fault_alike s (finished s.rules end) has_subcommand))))

  -- subcommands with the other parsers
  by_name : (subs : List Shape) (name : Text) → find (λ (s : Shape). answers_to name (label_of s)) (map changed_shape subs) ≡ option_map changed_shape (find (λ (s : Shape). answers_to name (label_of s)) subs)
  by_name subs name = find_changed changed_shape _ (λ s. refl) subs

  below_alike : (o : Option Shape) (words : List Text) → option_map_or (λ (s : Shape). level_fault s [] nothing_held words false []) (option_map changed_shape o) [] ≡ option_map_or (λ (s : Shape). level_fault s [] nothing_held words false []) o []
  below_alike None words = refl
  below_alike (Some s) words = level_fault_alike s [] nothing_held words false []

  -- the command with the other parsers in its subcommands
  abbrev pub changed_app : App → App
  changed_app a = record a { subs = map changed_shape a.subs }

  pub entered_fault_alike : (a : App) (stop : Option (Text × List Text)) → entered_fault (changed_app a) stop ≡ entered_fault a stop
  entered_fault_alike a None = refl
  entered_fault_alike a (Some p) =
      ap (λ (o : Option Shape). option_map_or (λ (s : Shape). level_fault s [] nothing_held p.1 false []) o []) (by_name a.subs p.0)
      ∙ below_alike (find (λ (s : Shape). answers_to p.0 (label_of s)) a.subs) p.1

  rows_at_alike : (o : Option Shape) (words : List Text) → option_map (λ (s : Shape). rows_at s words) (option_map changed_shape o) ≡ option_map (λ (s : Shape). rows_at s words) o
  rows_at_alike None words = refl
  rows_at_alike (Some s) words = ap (λ (rows : List Row). Some (s.name, rows)) (rows_after_alike g same_reading s.rules [] words)

  pub entered_alike : (a : App) (stop : Option (Text × List Text)) → entered (changed_app a) stop ≡ entered a stop
  entered_alike a None = refl
  entered_alike a (Some p) =
      ap (λ (o : Option Shape). option_map (λ (s : Shape). rows_at s p.1) o) (by_name a.subs p.0)
      ∙ rows_at_alike (find (λ (s : Shape). answers_to p.0 (label_of s)) a.subs) p.1

  labels_alike : (subs : List Shape) → map label_of (map changed_shape subs) ≡ map label_of subs
  labels_alike [] = refl
  labels_alike (s ∷ subs) = ap (λ (names : Names). label_of s ∷ names) (labels_alike subs)

  pub built_fault_alike : (a : App) (h : Held) (words : List Text) → built_fault (changed_app a) h words ≡ built_fault a h words
  built_fault_alike a h words =
      let stop = (walk a.top.rules (names_of a) h words).stopped in
      ap (λ (names : Names). level_fault a.top names h words (is_some (entered (changed_app a) (walk a.top.rules names h words).stopped)) (entered_fault (changed_app a) (walk a.top.rules names h words).stopped)) (labels_alike a.subs)
      ∙ ap₂ (λ (e : Option (Text × List Row)) (k : Kinds). level_fault a.top (names_of a) h words (is_some e) k) (entered_alike a stop) (entered_fault_alike a stop)

  pub entered_at_alike : (a : App) (words : List Text) → entered (changed_app a) (stop_after a.top.rules (names_of (changed_app a)) words) ≡ entered a (stop_after a.top.rules (names_of a) words)
  entered_at_alike a words =
      ap (λ (names : Names). entered (changed_app a) (stop_after a.top.rules names words)) (labels_alike a.subs) ∙ entered_alike a (stop_after a.top.rules (names_of a) words)
