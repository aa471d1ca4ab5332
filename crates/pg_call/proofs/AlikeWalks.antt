-- The walk of a parse over its words stays the same where other parsers of some arguments take the same values.
use Rattle.std.specs.Prelude.{encode_utf8, fold, if◌then◌else◌}
use Rattle.std.proofs.Common.{◌≡◌, ◌∙◌, ◌&&◌, ◌||◌, Bool, true, false, ℕ, zero, suc, List, [], ◌∷◌, Option, Some, None, refl, ap, ap₂, cond, drop, find, length, map, option_map, slice_get}
use Rattle.std.specs.Str.{bytes_eq, chars}
use Rattle.clap.specs.Facts.{parser_of_value}
use Rattle.clap.specs.Lexer.{long_of, short_of}
use Rattle.clap.specs.Values.{reading_of}
use Rattle.clap.specs.Walk.{Held, Names, Outcome, Row, Rule, Step, Text, Waiting, Walk, action_of, after_flag, after_step, arg_by_id, arg_by_index, arg_by_long, arg_by_short}
use Rattle.clap.specs.Walk.{attached_value, bundle, bundle_met, bundle_step, default_rows, done, finished, flag_met, has_row, idle, is_multiple, is_pending, long_met, long_or_other, long_word}
use Rattle.clap.specs.Walk.{next_position, nothing_held, option, option_met, option_word, plain, plain_word, positional, positional_held, pushed, reacted, refused, rows_after, settled, settled_rows}
use Rattle.clap.specs.Walk.{short_met, short_or_plain, short_word, subcommand_met, subcommand_or_other, takes_several, takes_values, to_positional, trailing, used, used_as, used_by_id}
use Rattle.clap.specs.Walk.{value, waits, walk, walk_from, walked, walked_from, with_default, word_met}
use Rattle.clap.specs.Walk.{next as step_next}
use Rattle.clap.specs.Walk.{subcommand as step_subcommand}
use Rattle.clap.specs.declared.builder.value_parser.ValueParser.{ValueParser}

-- the first of changed elements that passes a test which the change leaves alone
module _ {X : Type 0} (change : X → X) (test : X → Bool) (same : (x : X) → test (change x) ≡ test x) where
  chosen : (b : Bool) (x : X) (rest : Option X) → cond b (Some (change x)) (option_map change rest) ≡ option_map change (cond b (Some x) rest)
  chosen true x rest = refl
  chosen false x rest = refl

  pub find_changed : (xs : List X) → find test (map change xs) ≡ option_map change (find test xs)
  find_changed [] = refl
  find_changed (x ∷ xs) = ap₂ (λ (b : Bool) (o : Option X). cond b (Some (change x)) o) (same x) (find_changed xs) ∙ chosen (test x) x (find test xs)

module _ (g : Option ValueParser → Option ValueParser) where
  -- the argument with the other parser
  abbrev pub changed : Rule → Rule
  changed a = record a { parser = g a.parser }

module _ (g : Option ValueParser → Option ValueParser) (same_reading : (p : Option ValueParser) → reading_of (parser_of_value (g p)) ≡ reading_of (parser_of_value p)) where
  abbrev others : List Rule → List Rule
  others c = map (changed g) c

  pub by_id : (c : List Rule) (id : Text) → arg_by_id (others c) id ≡ option_map (changed g) (arg_by_id c id)
  by_id c id = find_changed (changed g) _ (λ a. refl) c

  pub by_long : (c : List Rule) (name : Text) → arg_by_long (others c) name ≡ option_map (changed g) (arg_by_long c name)
  by_long c name = find_changed (changed g) _ (λ a. refl) c

  pub by_short : (c : List Rule) (x : ℕ) → arg_by_short (others c) x ≡ option_map (changed g) (arg_by_short c x)
  by_short c x = find_changed (changed g) _ (λ a. refl) c

  pub by_index : (c : List Rule) (i : ℕ) → arg_by_index (others c) i ≡ option_map (changed g) (arg_by_index c i)
  by_index c i = find_changed (changed g) _ (λ a. refl) c

  used_alike : (a : Rule) (values : List Text) (rows : List Row) → used (changed g a) values rows ≡ used a values rows
  used_alike a [] rows = ap (λ how. used_as (action_of a) a.id how a.missing rows) (same_reading a.parser)
  used_alike a (v ∷ vs) rows = ap (λ how. used_as (action_of a) a.id how (v ∷ vs) rows) (same_reading a.parser)

  used_by_id_alike : (o : Option Rule) (values : List Text) (rows : List Row) → used_by_id (option_map (changed g) o) values rows ≡ used_by_id o values rows
  used_by_id_alike None values rows = refl
  used_by_id_alike (Some a) values rows = used_alike a values rows

  settled_rows_alike : (c : List Rule) (p : Option (Text × List Text)) (rows : List Row) → settled_rows (others c) p rows ≡ settled_rows c p rows
  settled_rows_alike c None rows = refl
  settled_rows_alike c (Some p) rows = ap (λ o. used_by_id o p.1 rows) (by_id c p.0) ∙ used_by_id_alike (arg_by_id c p.0) p.1 rows

  pub settled_alike : (c : List Rule) (h : Held) → settled (others c) h ≡ settled c h
  settled_alike c h = ap (λ (rows : List Row). record h { rows = rows; pending = None }) (settled_rows_alike c h.pending h.rows)

  pub reacted_alike : (c : List Rule) (a : Rule) (values : List Text) (h : Held) → reacted (others c) (changed g a) values h ≡ reacted c a values h
  reacted_alike c a values h =
      ap (λ (s : Held). record h { rows = used (changed g a) values s.rows; pending = None }) (settled_alike c h)
      ∙ ap (λ (rows : List Row). record h { rows = rows; pending = None }) (used_alike a values (settled c h).rows)

  option_met_alike : (c : List Rule) (a : Rule) (v : Option Text) (h : Held) → option_met (others c) (changed g a) v h ≡ option_met c a v h
  option_met_alike c a (Some v) h = ap (λ (k : Held). (k, done)) (reacted_alike c a (v ∷ []) h)
  option_met_alike c a None h = ap (λ (s : Held). (record s { pending = Some (a.id, []) }, waits a.id)) (settled_alike c h)

  flag_met_alike : (c : List Rule) (a : Rule) (v : Option Text) (h : Held) → flag_met (others c) (changed g a) v h ≡ flag_met c a v h
  flag_met_alike c a (Some v) h = refl
  flag_met_alike c a None h = ap (λ (k : Held). (k, done)) (reacted_alike c a [] h)

  long_met_alike : (c : List Rule) (o : Option Rule) (v : Option Text) (h : Held) → long_met (others c) (option_map (changed g) o) v h ≡ long_met c o v h
  long_met_alike c None v h = refl
  long_met_alike c (Some a) v h = ap₂ (λ (x y : Held × Outcome). if takes_values a then x else y) (option_met_alike c a v h) (flag_met_alike c a v h)

  short_met_alike : (c : List Rule) (o : Option Rule) (rest : Text) (h : Held) (one other : Held → Held × Outcome) → one ≡ other
      → short_met (others c) (option_map (changed g) o) rest h one ≡ short_met c o rest h other
  short_met_alike c None rest h one other same = refl
  short_met_alike c (Some a) rest h one other same =
      ap₂ (λ (x y : Held × Outcome). if takes_values a then x else y) (option_met_alike c a (attached_value rest) h)
      (ap₂ (λ (n : Held → Held × Outcome) (k : Held). n k) same (reacted_alike c a [] h))

  bundle_step_alike : (c : List Rule) (x : Option ℕ) (flags : Text) (skip : ℕ) (so_far : Outcome) (h : Held) (one other : Text → ℕ → Outcome → Held → Held × Outcome) → one ≡ other
      → bundle_step (others c) x flags skip so_far h one ≡ bundle_step c x flags skip so_far h other
  bundle_step_alike c None flags skip so_far h one other same = refl
  bundle_step_alike c (Some x) flags zero so_far h one other same =
      let rest = drop (length (encode_utf8 x)) flags in
      ap (λ (o : Option Rule). short_met (others c) o rest h (one rest 0 done)) (by_short c x)
      ∙ short_met_alike c (arg_by_short c x) rest h (one rest 0 done) (other rest 0 done) (ap (λ (n : Text → ℕ → Outcome → Held → Held × Outcome). n rest 0 done) same)
  bundle_step_alike c (Some x) flags (suc skip) so_far h one other same =
      ap (λ (n : Text → ℕ → Outcome → Held → Held × Outcome). n (drop (length (encode_utf8 x)) flags) skip so_far h) same

  bundle_met_alike : (c : List Rule) (k : ℕ) → bundle_met (others c) k ≡ bundle_met c k
  unfolding bundle_met
  bundle_met_alike c zero = λ j flags skip so_far h. (h, so_far)
  bundle_met_alike c (suc k) = λ j flags skip so_far h. bundle_step_alike c (slice_get (chars flags) 0) flags skip so_far h (bundle_met (others c) k) (bundle_met c k) (bundle_met_alike c k) j

  option_word_alike : (o : Option Rule) (id word : Text) (h : Held) → option_word (option_map (changed g) o) id word h ≡ option_word o id word h
  option_word_alike None id word h = refl
  option_word_alike (Some a) id word h = refl

  plain_word_alike : (c : List Rule) (waiting : Waiting) (word : Text) (h : Held) → plain_word (others c) waiting word h ≡ plain_word c waiting word h
  plain_word_alike c (option id) word h =
      ap (λ (m : Held × Waiting). (m.0, step_next m.1)) (ap (λ (o : Option Rule). option_word o id word h) (by_id c id) ∙ option_word_alike (arg_by_id c id) id word h)
  plain_word_alike c idle word h = refl
  plain_word_alike c positional word h = refl

  after_flag_alike : (c : List Rule) (waiting : Waiting) (word : Text) (h : Held) (o : Outcome) → after_flag (others c) waiting word h o ≡ after_flag c waiting word h o
  after_flag_alike c waiting word h done = refl
  after_flag_alike c waiting word h (waits id) = refl
  after_flag_alike c waiting word h plain = plain_word_alike c waiting word h
  after_flag_alike c waiting word h refused = plain_word_alike c waiting word h

  long_word_alike : (c : List Rule) (waiting : Waiting) (word name : Text) (v : Option Text) (h : Held) → long_word (others c) waiting word name v h ≡ long_word c waiting word name v h
  long_word_alike c waiting word name v h =
      ap (λ (m : Held × Outcome). after_flag (others c) waiting word m.0 m.1)
      (ap (λ (o : Option Rule). long_met (others c) o v h) (by_long c name) ∙ long_met_alike c (arg_by_long c name) v h)
      ∙ after_flag_alike c waiting word (long_met c (arg_by_long c name) v h).0 (long_met c (arg_by_long c name) v h).1

  bundle_alike : (c : List Rule) (flags : Text) (h : Held) → bundle (others c) flags h ≡ bundle c flags h
  bundle_alike c flags h = ap (λ (n : Text → ℕ → Outcome → Held → Held × Outcome). n flags h.skip plain (record h { skip = 0 })) (bundle_met_alike c (length flags))

  short_word_alike : (c : List Rule) (waiting : Waiting) (word flags : Text) (h : Held) → short_word (others c) waiting word flags h ≡ short_word c waiting word flags h
  short_word_alike c waiting word flags h =
      ap (λ (m : Held × Outcome). after_flag (others c) waiting word m.0 m.1) (bundle_alike c flags h)
      ∙ after_flag_alike c waiting word (bundle c flags h).0 (bundle c flags h).1

  short_or_plain_alike : (c : List Rule) (waiting : Waiting) (word : Text) (o : Option Text) (h : Held) → short_or_plain (others c) waiting word o h ≡ short_or_plain c waiting word o h
  short_or_plain_alike c waiting word (Some flags) h = short_word_alike c waiting word flags h
  short_or_plain_alike c waiting word None h = plain_word_alike c waiting word h

  long_or_other_alike : (c : List Rule) (waiting : Waiting) (word : Text) (o : Option (Text × Option Text)) (h : Held) → long_or_other (others c) waiting word o h ≡ long_or_other c waiting word o h
  long_or_other_alike c waiting word (Some p) h = long_word_alike c waiting word p.0 p.1 h
  long_or_other_alike c waiting word None h = short_or_plain_alike c waiting word (short_of word) h

  subcommand_or_other_alike : (c : List Rule) (o : Option Text) (waiting : Waiting) (position : ℕ) (word : Text) (h : Held) → subcommand_or_other (others c) o waiting position word h ≡ subcommand_or_other c o waiting position word h
  subcommand_or_other_alike c (Some name) waiting position word h = refl
  subcommand_or_other_alike c None waiting position word h =
      ap (λ (x : Held × Step). if bytes_eq word (45 ∷ 45 ∷ []) then (h, trailing position) else x) (long_or_other_alike c waiting word (long_of word) h)

  pub word_met_alike : (c : List Rule) (names : Names) (is_trailing : Bool) (waiting : Waiting) (position : ℕ) (word : Text) (h : Held) → word_met (others c) names is_trailing waiting position word h ≡ word_met c names is_trailing waiting position word h
  word_met_alike c names is_trailing waiting position word h =
      ap (λ (x : Held × Step). if is_trailing then (h, value) else x) (subcommand_or_other_alike c (subcommand_met names waiting word) waiting position word h)

  positional_held_alike : (c : List Rule) (a : Rule) (word : Text) (h : Held) → positional_held (others c) (changed g a) word h ≡ positional_held c a word h
  positional_held_alike c a word h = ap (λ (s : Held). pushed a.id word (if is_pending a h.pending && takes_several a then h else s)) (settled_alike c h)

  to_positional_alike : (c : List Rule) (o : Option Rule) (word : Text) (w : Walk) (h : Held) → to_positional (others c) (option_map (changed g) o) word w h ≡ to_positional c o word w h
  to_positional_alike c None word w h = refl
  to_positional_alike c (Some a) word w h = ap (λ (k : Held). record {
    held = k;
    waiting = if is_multiple a then positional else idle;
    position = next_position a w.position;
    is_trailing = w.is_trailing || a.trailing_var_arg;
    stopped = None;
  }) (positional_held_alike c a word h)

  after_step_alike : (c : List Rule) (word : Text) (w : Walk) (h : Held) (s : Step) → after_step (others c) word w h s ≡ after_step c word w h s
  after_step_alike c word w h (step_next waiting) = refl
  after_step_alike c word w h (trailing position) = refl
  after_step_alike c word w h (step_subcommand name) = refl
  after_step_alike c word w h value =
      ap (λ (o : Option Rule). to_positional (others c) o word w h) (by_index c w.position) ∙ to_positional_alike c (arg_by_index c w.position) word w h

  walked_from_alike : (c : List Rule) (names : Names) (p : Option (Text × List Text)) (w : Walk) (word : Text) → walked_from (others c) names p w word ≡ walked_from c names p w word
  walked_from_alike c names (Some p) w word = refl
  walked_from_alike c names None w word =
      let met = word_met c names w.is_trailing w.waiting w.position word w.held in
      ap (λ (m : Held × Step). after_step (others c) word w m.0 m.1) (word_met_alike c names w.is_trailing w.waiting w.position word w.held)
      ∙ after_step_alike c word w met.0 met.1

  pub walked_alike : (c : List Rule) (names : Names) → walked (others c) names ≡ walked c names
  unfolding walked
  walked_alike c names = λ j w word. walked_from_alike c names w.stopped w word j

  pub walk_alike : (c : List Rule) (names : Names) (h : Held) (words : List Text) → walk (others c) names h words ≡ walk c names h words
  walk_alike c names h words = ap (λ (step : Walk → Text → Walk). fold step (walk_from h) words) (walked_alike c names)

  pub with_default_alike : (rows : List Row) (a : Rule) → with_default rows (changed g a) ≡ with_default rows a
  with_default_alike rows a = ap (λ how. if has_row a.id rows then rows else default_rows a.id how a.defaults rows) (same_reading a.parser)

  defaults_alike : (rows : List Row) (c : List Rule) → fold with_default rows (others c) ≡ fold with_default rows c
  defaults_alike rows [] = refl
  defaults_alike rows (a ∷ c) = defaults_alike (with_default rows (changed g a)) c ∙ ap (λ (r : List Row). fold with_default r c) (with_default_alike rows a)

  pub finished_alike : (c : List Rule) (h : Held) → finished (others c) h ≡ finished c h
  finished_alike c h = ap (λ (s : Held). fold with_default s.rows (others c)) (settled_alike c h) ∙ defaults_alike (settled c h).rows c

  pub rows_after_alike : (c : List Rule) (names : Names) (words : List Text) → rows_after (others c) names words ≡ rows_after c names words
  rows_after_alike c names words =
      ap (λ (w : Walk). finished (others c) w.held) (walk_alike c names nothing_held words) ∙ finished_alike c (walk c names nothing_held words).held
