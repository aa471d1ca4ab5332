-- Options of files, as they are made.
use Rattle.std.proofs.Common.{◌≡◌, ℕ, ℤ, pos, Bool, true, false, cond, ◌&&◌, ◌||◌, nat_eq, nat_lt, List, [], ◌∷◌, ◌++◌, find, flat_map, map, Option, Some, None, option_map, refl, ap, sym, subst, ◌∙◌, arith, rules}
use Rattle.std.proofs.lemmas.Bool.{false≢true}
use Rattle.std.proofs.lemmas.Bool.Decides.{nat_tests}
use Rattle.std.proofs.lemmas.Option.{none-some, same_Some}
use Rattle.std.specs.List.{list_all, list_any}
use Rattle.std.specs.String.{string_bytes}
use Rattle.pg_schema.specs.declared.parts.options.FileOption.{FileOption}
use Rattle.pg_schema.specs.declared.parts.options.OptimizeMode.{OptimizeMode}
use Rattle.pg_schema.specs.declared.parts.options.OptimizeMode.TheVariants as modes
use Rattle.pg_schema.specs.declared.parts.options.OptionValue.{OptionValue}
use Rattle.pg_schema.specs.declared.parts.options.OptionValue.TheVariants as values
use Rattle.pg_schema.specs.rules.Files.{flag_options, is_file_option, is_of_kind, option_numbers}
use Rattle.pg_schema.specs.rules.Pairs.{is_rising}
use Rattle.pg_schema.proofs.lemmas.rules.PairLemmas.{and_left, and_right}
use Rattle.pg_dyn.specs.message.Message.{Bytes, Int, Item, Message, Plain, ends}
use Rattle.pg_set.specs.stated.StatedFiles.{mode_of, mode_or_flag, option_value}
use Rattle.pg_set.specs.writing.Messages.{where_found}
use Rattle.std.specs.Option.{unwrap_or}
use Rattle.pg_set.specs.stated.SetMessages.{child_in, child_of, item_at, options_at}
use Rattle.pg_set.specs.writing.Set.{mode_code}
use Rattle.pg_set.specs.stated.FileMessages.{option_places}
use Rattle.pg_set.specs.stated.Views.{OptionView, ValueOf, option_view, value_of}
use Rattle.pg_set.proofs.lemmas.lists.Tests.{below, not_higher, not_lower, same_number}

-- ---- one value

-- the item that says it
abbrev flag_number : Bool → ℤ
flag_number true = pos 1
flag_number false = pos 0

abbrev pub option_item : OptionValue → Item
option_item (values.Flag flag) = Plain (Int (flag_number flag))
option_item (values.Mode mode) = Plain (Int (pos (mode_code mode)))
option_item (values.Text text) = Plain (Bytes (string_bytes text))

mode_known : (mode : OptimizeMode) → mode_of (pos (mode_code mode)) ≡ Some mode
mode_known modes.Speed = refl
mode_known modes.CodeSize = refl
mode_known modes.LiteRuntime = refl

flag_known : (flag : Bool) → mode_or_flag (flag_number flag) None ≡ values.Flag flag
flag_known true = refl
flag_known false = refl

flag_kind : (number : ℕ) → list_any (nat_eq number) flag_options ≡ true → nat_eq number 9 ≡ false
flag_kind number h = search (rules, same_number)

-- what the item says that says it
pub value_is : (number : ℕ) (v : OptionValue) → is_of_kind number v ≡ true → option_value number (option_item v) ≡ value_of v
value_is number (values.Flag flag) kind = search (rules, flag_kind, flag_known)
value_is number (values.Mode mode) kind = search (rules, mode_known)
value_is number (values.Text text) kind = refl

-- the option of a number, where one is found
pub found_one : (os : List FileOption) (n : ℕ) (o : FileOption) → find (λ (x : FileOption). nat_eq x.number n) os ≡ Some o → list_all is_file_option os ≡ true → (o.number ≡ n) × (is_file_option o ≡ true)
found_one [] n o is all = absurd (none-some o is)
found_one (x ∷ os) n o is all = search (rules, found_one os n o, same_Some, same_number, and_left, and_right)

pub same_option : {n n' : ℕ} {v v' : ValueOf} → n ≡ n' → v ≡ v' → ◌≡◌ {A = OptionView} (record { number = n; value = v }) (record { number = n'; value = v' })
same_option number value = cc

-- ---- all of them

-- what the options of these numbers say
abbrev pub views_under : List FileOption → List ℕ → List OptionView
views_under options numbers = flat_map (λ number. where_found option_view (find (λ (o : FileOption). nat_eq o.number number) options)) numbers

not_found : (os : List FileOption) (p : ℕ) → list_all (nat_lt p) (option_numbers os) ≡ true → find (λ (o : FileOption). nat_eq o.number p) os ≡ None
not_found [] p h = refl
not_found (o ∷ os) p h =
    ap (λ b. cond b (Some o) (find (λ (x : FileOption). nat_eq x.number p) os)) (not_lower p o.number (below p o.number (and_left (nat_lt p o.number) (list_all (nat_lt p) (option_numbers os)) h)))
    ∙ not_found os p (and_right (nat_lt p o.number) (list_all (nat_lt p) (option_numbers os)) h)

-- after the first option are none of its number
behind_first : (o : FileOption) (os : List FileOption) (ps : List ℕ) → list_all (nat_lt o.number) ps ≡ true → views_under (o ∷ os) ps ≡ views_under os ps
behind_first o os [] h = refl
behind_first o os (p ∷ ps) h =
    ap (λ b. where_found option_view (cond b (Some o) (find (λ (x : FileOption). nat_eq x.number p) os)) ++ views_under (o ∷ os) ps) (not_higher o.number p (below o.number p (and_left (nat_lt o.number p) (list_all (nat_lt o.number) ps) h)))
    ∙ ap (λ vs. where_found option_view (find (λ (x : FileOption). nat_eq x.number p) os) ++ vs) (behind_first o os ps (and_right (nat_lt o.number p) (list_all (nat_lt o.number) ps) h))

none_under : (ps : List ℕ) → views_under [] ps ≡ []
none_under [] = refl
none_under (p ∷ ps) = none_under ps

abbrev are_in : List ℕ → List FileOption → Bool
are_in ps os = list_all (λ (o : FileOption). list_any (nat_eq o.number) ps) os

above_all : (p : ℕ) (ps : List ℕ) (n : ℕ) → list_all (nat_lt p) ps ≡ true → list_any (nat_eq n) ps ≡ true → nat_lt p n ≡ true
above_all p [] n h k = absurd (false≢true k)
above_all p (q ∷ ps) n h k = of (nat_eq n q) refl k (above_all p ps n (and_right (nat_lt p q) (list_all (nat_lt p) ps) h))
  where
    of : (b : Bool) → nat_eq n q ≡ b → (b || list_any (nat_eq n) ps) ≡ true → (list_any (nat_eq n) ps ≡ true → nat_lt p n ≡ true) → nat_lt p n ≡ true
    of true e k later = ap (nat_lt p) (same_number n q e) ∙ and_left (nat_lt p q) (list_all (nat_lt p) ps) h
    of false e k later = later k

-- numbers above the first are among the others
in_others : (p : ℕ) (ps : List ℕ) (os : List FileOption) → list_all (nat_lt p) (option_numbers os) ≡ true → are_in (p ∷ ps) os ≡ true → are_in ps os ≡ true
in_others p ps [] above h = refl
in_others p ps (o ∷ os) above h =
    both (ap (λ b. b || list_any (nat_eq o.number) ps) (not_lower p o.number (below p o.number (and_left (nat_lt p o.number) (list_all (nat_lt p) (option_numbers os)) above))))
    (in_others p ps os (and_right (nat_lt p o.number) (list_all (nat_lt p) (option_numbers os)) above) (and_right (list_any (nat_eq o.number) (p ∷ ps)) (are_in (p ∷ ps) os) h))
  where
    both : list_any (nat_eq o.number) (p ∷ ps) ≡ list_any (nat_eq o.number) ps → are_in ps os ≡ true → are_in ps (o ∷ os) ≡ true
    both same later = ap (λ b. b && are_in ps os) (sym same ∙ and_left (list_any (nat_eq o.number) (p ∷ ps)) (are_in (p ∷ ps) os) h) ∙ later

later_above : (p n : ℕ) (ns : List ℕ) → nat_lt p n ≡ true → list_all (nat_lt n) ns ≡ true → list_all (nat_lt p) ns ≡ true
later_above p n [] h k = refl
later_above p n (m ∷ ns) h k =
    ap (λ b. b && list_all (nat_lt p) ns) (over p n m h (and_left (nat_lt n m) (list_all (nat_lt n) ns) k)) ∙ later_above p n ns h (and_right (nat_lt n m) (list_all (nat_lt n) ns) k)
  where
    over : (a b c : ℕ) → nat_lt a b ≡ true → nat_lt b c ≡ true → nat_lt a c ≡ true
    over a b c h k = grind (arith, nat_tests)

under_all : (ps : List ℕ) (os : List FileOption) → is_rising ps ≡ true → is_rising (option_numbers os) ≡ true → are_in ps os ≡ true → views_under os ps ≡ map option_view os
under_all ps [] rises rising among = none_under ps
under_all [] (o ∷ os) rises rising among = absurd (false≢true among)
under_all (p ∷ ps) (o ∷ os) rises rising among =
    of (nat_eq o.number p) refl (and_left (list_any (nat_eq o.number) (p ∷ ps)) (are_in (p ∷ ps) os) among) (λ ns up h. under_all ps ns (and_right (list_all (nat_lt p) ps) (is_rising ps) rises) up h)
  where
    above : list_all (nat_lt o.number) (option_numbers os) ≡ true
    above = and_left (list_all (nat_lt o.number) (option_numbers os)) (is_rising (option_numbers os)) rising

    of : (b : Bool) → nat_eq o.number p ≡ b → (b || list_any (nat_eq o.number) ps) ≡ true
        → ((ns : List FileOption) → is_rising (option_numbers ns) ≡ true → are_in ps ns ≡ true → views_under ns ps ≡ map option_view ns)
        → where_found option_view (cond b (Some o) (find (λ (x : FileOption). nat_eq x.number p) os)) ++ views_under (o ∷ os) ps ≡ option_view o ∷ map option_view os
    of true e k later =
        let same : o.number ≡ p = same_number o.number p e in
        let over : list_all (nat_lt o.number) ps ≡ true = subst (λ n. list_all (nat_lt n) ps ≡ true) (sym same) (and_left (list_all (nat_lt p) ps) (is_rising ps) rises) in
        ap (λ vs. option_view o ∷ vs)
        (behind_first o os ps over
        ∙ later os (and_right (list_all (nat_lt o.number) (option_numbers os)) (is_rising (option_numbers os)) rising)
        (in_others p ps os (subst (λ n. list_all (nat_lt n) (option_numbers os) ≡ true) same above) (and_right (list_any (nat_eq o.number) (p ∷ ps)) (are_in (p ∷ ps) os) among)))
    of false e k later =
        let over : nat_lt p o.number ≡ true = above_all p ps o.number (and_left (list_all (nat_lt p) ps) (is_rising ps) rises) k in
        ap (λ f. where_found option_view f ++ views_under (o ∷ os) ps) (not_found os p (later_above p o.number (option_numbers os) over above))
        ∙ later (o ∷ os) rising
        (ap (λ b. b && are_in ps os) k ∙ in_others p ps os (later_above p o.number (option_numbers os) over above) (and_right (list_any (nat_eq o.number) (p ∷ ps)) (are_in (p ∷ ps) os) among))

kind_place : (o : FileOption) → is_file_option o ≡ true → list_any (nat_eq o.number) option_places ≡ true
kind_place o kind = search (rules, same_number)

kinds_places : (os : List FileOption) → list_all is_file_option os ≡ true → are_in option_places os ≡ true
kinds_places [] h = refl
kinds_places (o ∷ os) h =
    ap (λ b. b && are_in option_places os) (kind_place o (and_left (is_file_option o) (list_all is_file_option os) h)) ∙ kinds_places os (and_right (is_file_option o) (list_all is_file_option os) h)

-- the options of all numbers are all options
pub all_under : (os : List FileOption) → is_rising (0 ∷ option_numbers os) ≡ true → list_all is_file_option os ≡ true → views_under os option_places ≡ map option_view os
all_under os rising kinds = under_all option_places os refl (and_right (list_all (nat_lt 0) (option_numbers os)) (is_rising (option_numbers os)) rising) (kinds_places os kinds)

-- the message of options is none where there is no item
pub options_missing : (m : Message) → item_at 8 m ≡ None → options_at 8 m ≡ ends []
options_missing m none = ap (λ o. unwrap_or (option_map child_of o) (ends [])) none

-- and what the item is where there is one
pub options_found : (m : Message) (item : Item) (found : Option Message) → item_at 8 m ≡ Some item → found ≡ child_in item → unwrap_or found (ends []) ≡ options_at 8 m
options_found m item found there is = search (rules, option_map)
