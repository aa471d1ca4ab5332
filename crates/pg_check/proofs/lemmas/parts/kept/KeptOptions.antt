-- Options of files that keep to the rules: each of its kind, by rising numbers.
use Rattle.std.proofs.Common.{◌≡◌, ◌∙◌, ℕ, Bool, true, false, cond, not, ◌&&◌, ◌||◌, nat_lt, nat_eq, List, [], ◌∷◌, ◌++◌, find, map, flat_map, option_map, Option, Some, None, codes, string_bytes, arith, sym, ap, refl, rules}
use Rattle.std.specs.List.{list_all, list_any}
use Rattle.std.specs.Str.{bytes_eq}
use Rattle.std.proofs.lemmas.Bool.{false≢true}
use Rattle.std.proofs.lemmas.Bool.Decides.{nat_tests}
use Rattle.std.proofs.lemmas.Grind.{flat_map-append}
use Rattle.std.proofs.lemmas.List.Folds.{list_all-map}
use Rattle.std.proofs.lemmas.Option.{same_Some}
use Rattle.std.proofs.lemmas.Simd.{map-map}
use Rattle.std.proofs.lemmas.Slice.Eq.{bytes_eq-Decides}
use Rattle.pg_schema.specs.declared.parts.options.FileOption as options
use Rattle.pg_schema.specs.declared.parts.options.OptionValue.{OptionValue}
use Rattle.pg_schema.specs.declared.parts.options.OptimizeMode.TheVariants as modes
use Rattle.pg_schema.specs.rules.Files.{flag_options, is_file_option, is_of_kind, option_numbers, text_options}
use Rattle.pg_schema.specs.rules.Pairs.{all_pairs, is_rising}
use Rattle.pg_schema.proofs.lemmas.rules.PairLemmas.{and_left, and_right, and_both}
use Rattle.pg_check.specs.declared.rules.options.Kind.{Kind}
use Rattle.pg_check.specs.declared.rules.options.Kind.TheVariants as kinds
use Rattle.pg_check.specs.declared.rules.options.Known.{Known}
use Rattle.pg_check.specs.declared.rules.options.Owner.TheVariants as owners
use Rattle.pg_check.specs.rules.Files.{file_line, file_lines}
use Rattle.pg_check.specs.rules.KeepsRules.{OptionsKeep, are_apart, is_right}
use Rattle.pg_check.specs.parts.MadeFiles.{AreOptions, MadeOption, MadeValue, Flag, Mode, Text, file_option, flag_option, known_option, made_options, made_value, numbered, option_in, option_value, setting_option}
use Rattle.pg_check.specs.rules.Names.{Named, is_same}
use Rattle.pg_check.specs.rules.Options as rules
use Rattle.pg_check.specs.rules.Options.{Entry, known_among, known_by, name_of, option_named, options_of}
use Rattle.pg_check.specs.rules.Outline.{statements_behind}
use Rattle.pg_check.proofs.lemmas.parts.Moved.{all_moved, all_weaker}
use Rattle.pg_check.proofs.lemmas.parts.Rising.{moved_numbers, rising_from}
use Rattle.pg_check.proofs.lemmas.parts.UsesApart.{two_apart}
use Rattle.pg_syntax.specs.declared.tree as tree
use Rattle.pg_syntax.specs.declared.tree.Statement.TheVariants as statements
use Rattle.pg_syntax.specs.declared.tree.Value.TheVariants as values

-- ---- the table

abbrev fits : ℕ → Kind → Bool
fits n kinds.Flag = list_any (nat_eq n) flag_options && nat_lt 0 n
fits n kinds.Mode = nat_eq n 9 && nat_lt 0 n
fits n kinds.Text = list_any (nat_eq n) text_options && nat_lt 0 n

-- what a name comes to, where the test of the first entry is this and the others give that
abbrev known_or : Bool → Entry → List Entry → List ℕ → Option Known
known_or b e es name = option_map (λ (o : Entry). o.known) (cond b (Some e) (find (λ (o : Entry). bytes_eq name o.name) es))

known_has : (p : Known → Bool) (es : List Entry) (name : List ℕ) (k : Known) → list_all (λ (e : Entry). p e.known) es ≡ true → known_among es name ≡ Some k → p k ≡ true
known_has p [] name k h is = absurd (cc (is))
known_has p (e ∷ es) name k h is = search (rules, and_right, same_Some, and_left, known_has p es name k (and_right (p e.known) _ h))

abbrev apart_entries : Entry → Entry → Bool
apart_entries d e = not (nat_eq e.known.number d.known.number)

same_number : (m n : ℕ) → m ≡ n → not (nat_eq m n) ≡ true → ⊥
same_number m n e h = grind (arith, nat_tests)

-- a number is that of one name
one_name : (es : List Entry) (m n : List ℕ) (j k : Known) → all_pairs apart_entries es ≡ true → known_among es m ≡ Some j → known_among es n ≡ Some k → j.number ≡ k.number → m ≡ n
one_name [] m n j k h is_j is_k same = absurd (cc (is_j))
one_name (e ∷ es) m n j k h is_j is_k same = by (bytes_eq m e.name) (bytes_eq n e.name) refl refl is_j is_k (λ a b. one_name es m n j k (and_right (list_all (apart_entries e) es) _ h) a b same)
  where
    others_differ : list_all (λ (d : Entry). not (nat_eq d.known.number e.known.number)) es ≡ true
    others_differ = and_left _ _ h

    by : (b c : Bool) → bytes_eq m e.name ≡ b → bytes_eq n e.name ≡ c → known_or b e es m ≡ Some j → known_or c e es n ≡ Some k
        → (known_among es m ≡ Some j → known_among es n ≡ Some k → m ≡ n) → m ≡ n
    by true true is_m is_n a b both = (bytes_eq-Decides m e.name).0 is_m ∙ sym ((bytes_eq-Decides n e.name).0 is_n)
    by true false is_m is_n a b both =
        absurd (same_number k.number e.known.number (sym same ∙ ap (λ (q : Known). q.number) (sym (same_Some e.known j a)))
        (known_has (λ (q : Known). not (nat_eq q.number e.known.number)) es n k others_differ b))
    by false true is_m is_n a b both =
        absurd (same_number j.number e.known.number (same ∙ ap (λ (q : Known). q.number) (sym (same_Some e.known k b)))
        (known_has (λ (q : Known). not (nat_eq q.number e.known.number)) es m j others_differ a))
    by false false is_m is_n a b both = both a b

abbrev table : List Entry
table = options_of owners.File

-- ---- one option

abbrev value_fits : ℕ → MadeValue → Bool
value_fits n (Flag flag) = list_any (nat_eq n) flag_options && nat_lt 0 n
value_fits n (Mode mode) = nat_eq n 9 && nat_lt 0 n
value_fits n (Text text) = list_any (nat_eq n) text_options && nat_lt 0 n

abbrev made_fits : MadeOption → Bool
made_fits o = value_fits o.number o.value

is_of_its_kind : (n : ℕ) (v : OptionValue) → value_fits n (option_value v) ≡ true → is_of_kind n v ≡ true
is_of_its_kind n v h = grind (arith, and_left)

is_positive : (n : ℕ) (v : MadeValue) → value_fits n v ≡ true → nat_lt 0 n ≡ true
is_positive n v h = grind (arith, and_right)

-- a value of the kind, as a schema has it
pub record IsMade (kind : Kind) (value : tree.Value.Value) : Type 0 where
  pub made : MadeValue
  pub is : made_value kind value ≡ Some made
  pub fits_too : (n : ℕ) → fits n kind ≡ true → value_fits n made ≡ true

abbrev flag_by : Bool → Bool → Option MadeValue
flag_by a b = flag_option (cond a (Some true) (cond b (Some false) None))

abbrev mode_by : Bool → Bool → Bool → Option MadeValue
mode_by a b c = cond a (Some (Mode modes.Speed)) (cond b (Some (Mode modes.CodeSize)) (cond c (Some (Mode modes.LiteRuntime)) None))

value_made : (kind : Kind) (value : tree.Value.Value) → rules.is_of_kind kind value ≡ true → IsMade kind value
value_made kinds.Flag (values.Name d) h = by (rules.is_word (codes "true") d) (rules.is_word (codes "false") d) refl refl h
  where
    by : (b c : Bool) → rules.is_word (codes "true") d ≡ b → rules.is_word (codes "false") d ≡ c → (b || c) ≡ true → IsMade kinds.Flag (values.Name d)
    by true c is_b is_c k = record { made = Flag true; is = ap (λ z. flag_by z (rules.is_word (codes "false") d)) is_b; fits_too = λ n f. f }
    by false true is_b is_c k = record { made = Flag false; is = ap (λ z. flag_by z (rules.is_word (codes "false") d)) is_b ∙ ap (flag_by false) is_c; fits_too = λ n f. f }
    by false false is_b is_c k = absurd (false≢true k)
value_made kinds.Flag (values.Text t) h = absurd (false≢true h)
value_made kinds.Flag (values.Number n) h = absurd (false≢true h)
value_made kinds.Mode (values.Name d) h = by (rules.is_word (codes "SPEED") d) (rules.is_word (codes "CODE_SIZE") d) (rules.is_word (codes "LITE_RUNTIME") d) refl refl refl h
  where
    by : (a b c : Bool) → rules.is_word (codes "SPEED") d ≡ a → rules.is_word (codes "CODE_SIZE") d ≡ b → rules.is_word (codes "LITE_RUNTIME") d ≡ c → (a || (b || c)) ≡ true → IsMade kinds.Mode (values.Name d)
    by true b c is_a is_b is_c k = record { made = Mode modes.Speed; is = ap (λ z. mode_by z (rules.is_word (codes "CODE_SIZE") d) (rules.is_word (codes "LITE_RUNTIME") d)) is_a; fits_too = λ n f. f }
    by false true c is_a is_b is_c k = record { made = Mode modes.CodeSize; is = ap (λ z. mode_by z (rules.is_word (codes "CODE_SIZE") d) (rules.is_word (codes "LITE_RUNTIME") d)) is_a ∙ ap (λ z. mode_by false z (rules.is_word (codes "LITE_RUNTIME") d)) is_b; fits_too = λ n f. f }
    by false false true is_a is_b is_c k = record { made = Mode modes.LiteRuntime; is = ap (λ z. mode_by z (rules.is_word (codes "CODE_SIZE") d) (rules.is_word (codes "LITE_RUNTIME") d)) is_a ∙ (ap (λ z. mode_by false z (rules.is_word (codes "LITE_RUNTIME") d)) is_b ∙ ap (mode_by false false) is_c); fits_too = λ n f. f }
    by false false false is_a is_b is_c k = absurd (false≢true k)
value_made kinds.Mode (values.Text t) h = absurd (false≢true h)
value_made kinds.Mode (values.Number n) h = absurd (false≢true h)
value_made kinds.Text (values.Name d) h = absurd (false≢true h)
value_made kinds.Text (values.Text t) h = record { made = Text _; is = refl; fits_too = λ n f. f }
value_made kinds.Text (values.Number n) h = absurd (false≢true h)

-- what an option statement makes: one option of the table
pub record IsOne (s : tree.Setting.Setting) : Type 0 where
  pub known : Known
  pub is_known : known_among table (string_bytes s.name.first.text) ≡ Some known
  pub value : MadeValue
  pub is : setting_option s ≡ record { number = known.number; value = value } ∷ []
  pub holds : value_fits known.number value ≡ true

one_made : (s : tree.Setting.Setting) → rules.is_right owners.File s ≡ true → IsOne s
unfolding option_named
one_made s h = by (known_by owners.File s.name) refl h
  where
    named : (b : Bool) (k : Known) → cond b (known_among table (string_bytes s.name.first.text)) None ≡ Some k → known_among table (string_bytes s.name.first.text) ≡ Some k
    named true k is = is
    named false k is = absurd (cc (is))

    by : (o : Option Known) → known_by owners.File s.name ≡ o → rules.is_of o s.value ≡ true → IsOne s
    by None is k = absurd (false≢true k)
    by (Some k) is right =
        let among : known_among table (string_bytes s.name.first.text) ≡ Some k = named (rules.is_alone s.name.more.items) k is in
        let made = value_made k.kind s.value right in
        record {
          known = k;
          is_known = among;
          value = made.made;
          is = ap (λ o. known_option o s.value) is ∙ ap (λ v. numbered k.number v) made.is;
          holds = made.fits_too k.number (known_has (λ (q : Known). fits q.number q.kind) table (string_bytes s.name.first.text) k refl among);
        }

-- ---- all options of a file

abbrev Lines : List tree.Statement.Statement → List Named
Lines list = map name_of (flat_map file_line list)

all_fit : (list : List tree.Statement.Statement) → list_all is_right (flat_map file_line list) ≡ true → list_all made_fits (flat_map option_in list) ≡ true
all_fit [] h = refl
all_fit (statements.Empty span ∷ ss) h = all_fit ss h
all_fit (statements.Import i ∷ ss) h = all_fit ss h
all_fit (statements.Message m ∷ ss) h = all_fit ss h
all_fit (statements.Enum e ∷ ss) h = all_fit ss h
all_fit (statements.Service s ∷ ss) h = all_fit ss h
all_fit (statements.Option o ∷ ss) h =
    let one = one_made o.setting (and_left _ _ h) in
    ap (λ os. list_all made_fits (os ++ flat_map option_in ss)) one.is ∙ and_both (value_fits one.known.number one.value) _ one.holds (all_fit ss (and_right (rules.is_right owners.File o.setting) _ h))

two_numbers : (m n : ℕ) → (m ≡ n → ⊥) → two_apart m n ≡ true
two_numbers m n h = search (rules, two_apart, nat_tests)

abbrev number : MadeOption → ℕ
number o = o.number

-- no later option of another name has its number
later_apart : (name : List ℕ) (k : Known) (at : ℕ) (list : List tree.Statement.Statement) → known_among table name ≡ Some k → list_all is_right (flat_map file_line list) ≡ true
    → list_all (λ y. not (is_same y (record { text = name; at = at }))) (Lines list) ≡ true → list_all (two_apart k.number) (map number (flat_map option_in list)) ≡ true
later_apart name k at [] is h new = refl
later_apart name k at (statements.Empty span ∷ ss) is h new = later_apart name k at ss is h new
later_apart name k at (statements.Import i ∷ ss) is h new = later_apart name k at ss is h new
later_apart name k at (statements.Message m ∷ ss) is h new = later_apart name k at ss is h new
later_apart name k at (statements.Enum e ∷ ss) is h new = later_apart name k at ss is h new
later_apart name k at (statements.Service s ∷ ss) is h new = later_apart name k at ss is h new
later_apart name k at (statements.Option o ∷ ss) is h new =
    let one = one_made o.setting (and_left _ _ h) in
    let other = string_bytes o.setting.name.first.text in
    ap (λ os. list_all (two_apart k.number) (map number (os ++ flat_map option_in ss))) one.is
    ∙ and_both (two_apart k.number one.known.number) (list_all (two_apart k.number) (map number (flat_map option_in ss)))
    (two_numbers k.number one.known.number (λ same.
    let equal : name ≡ other = one_name table name other k one.known refl is one.is_known same in
    false≢true (sym (ap not ((bytes_eq-Decides other name).1 (sym equal))) ∙ and_left _ _ new)))
    (later_apart name k at ss is (and_right (rules.is_right owners.File o.setting) _ h) (and_right (not (bytes_eq other name)) _ new))

all_numbers : (list : List tree.Statement.Statement) → list_all is_right (flat_map file_line list) ≡ true → are_apart is_same (Lines list) ≡ true → all_pairs two_apart (map number (flat_map option_in list)) ≡ true
all_numbers [] h new = refl
all_numbers (statements.Empty span ∷ ss) h new = all_numbers ss h new
all_numbers (statements.Import i ∷ ss) h new = all_numbers ss h new
all_numbers (statements.Message m ∷ ss) h new = all_numbers ss h new
all_numbers (statements.Enum e ∷ ss) h new = all_numbers ss h new
all_numbers (statements.Service s ∷ ss) h new = all_numbers ss h new
all_numbers (statements.Option o ∷ ss) h new =
    let one = one_made o.setting (and_left _ _ h) in
    let name = string_bytes o.setting.name.first.text in
    let others = and_right (rules.is_right owners.File o.setting) (list_all is_right (flat_map file_line ss)) h in
    ap (λ os. all_pairs two_apart (map number (os ++ flat_map option_in ss))) one.is
    ∙ and_both (list_all (two_apart one.known.number) (map number (flat_map option_in ss))) (all_pairs two_apart (map number (flat_map option_in ss)))
    (later_apart name one.known o.span.from ss one.is_known others (and_left _ _ new))
    (all_numbers ss others (and_right (list_all (λ y. not (is_same y (record { text = name; at = o.span.from }))) (Lines ss)) _ new))

abbrev all_statements : tree.FileTree.FileTree → List tree.Statement.Statement
all_statements file = file.statements.items ++ statements_behind file.packaged

pub record AreKept (list : List options.FileOption) : Type 0 where
  pub rising : is_rising (0 ∷ option_numbers list) ≡ true
  pub fitting : list_all is_file_option list ≡ true

abbrev option_number : options.FileOption → ℕ
option_number o = o.number

pub kept_options : (file : tree.FileTree.FileTree) (list : List options.FileOption) → AreOptions (made_options file) list → OptionsKeep (file_lines file) → AreKept list
kept_options file list are keep =
    let all = all_statements file in
    let lines : file_lines file ≡ flat_map file_line all = sym (flat_map-append file_line file.statements.items (statements_behind file.packaged)) in
    let made : made_options file ≡ flat_map option_in all = sym (flat_map-append option_in file.statements.items (statements_behind file.packaged)) in
    let right : list_all is_right (flat_map file_line all) ≡ true = ap (list_all is_right) (sym lines) ∙ keep.right in
    let once : are_apart is_same (Lines all) ≡ true = ap (λ ls. are_apart is_same (map name_of ls)) (sym lines) ∙ keep.once in
    let fit : list_all made_fits (made_options file) ≡ true = ap (list_all made_fits) made ∙ all_fit all right in
    let moved : list_all (λ o. made_fits (file_option o)) list ≡ true = sym (list_all-map made_fits file_option list) ∙ all_moved made_fits (made_options file) (map file_option list) are.same fit in
    let apart : all_pairs two_apart (map number (made_options file)) ≡ true = ap (λ os. all_pairs two_apart (map number os)) made ∙ all_numbers all right once in
    let stand : all_pairs two_apart (map option_number list) ≡ true = ap (all_pairs two_apart) (sym (map-map number file_option list)) ∙ moved_numbers number (made_options file) (map file_option list) are.same apart in
    record {
      rising = and_both (list_all (nat_lt 0) (option_numbers list)) (is_rising (option_numbers list))
          (list_all-map (nat_lt 0) option_number list ∙ all_weaker (λ o. made_fits (file_option o)) (λ o. nat_lt 0 o.number) (λ o h. is_positive o.number (option_value o.value) h) list moved)
          (rising_from option_number list are.by_number stand);
      fitting = all_weaker (λ o. made_fits (file_option o)) is_file_option (λ o h. is_of_its_kind o.number o.value h) list moved;
    }
