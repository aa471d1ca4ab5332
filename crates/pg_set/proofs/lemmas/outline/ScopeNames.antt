-- No name that a set declares is empty: each has a dot.
use Rattle.std.proofs.Common.{◌≡◌, ℕ, zero, suc, true, List, [], ◌∷◌, ◌++◌, refl, ◌∙◌, rules}
use Rattle.std.proofs.lemmas.List.Folds.{list_all-append}
use Rattle.std.specs.List.{list_all}
use Rattle.pg_schema.specs.rules.Pairs.{differ}
use Rattle.pg_schema.proofs.lemmas.rules.PairLemmas.{and_both}
use Rattle.pg_dyn.specs.message.Message.{Message}
use Rattle.pg_set.specs.stated.SetMessages.{text_at}
use Rattle.pg_set.specs.stated.SetNames.{enums_names, files_names, name_in, own_names, qualified, qualified_names, services_names, types_names}

abbrev AreSome : List (List ℕ) → Type 0
AreSome names = list_all (differ []) names ≡ true

both_some : (a b : List (List ℕ)) → AreSome a → AreSome b → AreSome (a ++ b)
both_some a b first second = list_all-append (differ []) a b ∙ and_both (list_all (differ []) a) (list_all (differ []) b) first second

some_name : (scope name : List ℕ) → differ [] (name_in scope name) ≡ true
some_name [] name = refl
some_name (byte ∷ bytes) name = refl

one_more : (name : List ℕ) (names : List (List ℕ)) → differ [] name ≡ true → AreSome names → AreSome (name ∷ names)
one_more name names first later = and_both (differ [] name) (list_all (differ []) names) first later

module _ (scope : List ℕ) where
  some_qualified : (m : Message) → differ [] (qualified scope m) ≡ true
  some_qualified m = some_name scope (text_at 1 m)

  some_each : (ms : List Message) → AreSome (qualified_names scope ms)
  some_each [] = refl
  some_each (m ∷ ms) = one_more (qualified scope m) (qualified_names scope ms) (some_qualified m) (some_each ms)

  some_enums : (ms : List Message) → AreSome (enums_names scope ms)
  some_enums [] = refl
  some_enums (m ∷ ms) = search (rules, some_enums ms, both_some, one_more, some_qualified, some_each)

some_services : (scope : List ℕ) (ms : List Message) → AreSome (services_names scope ms)
some_services scope [] = refl
some_services scope (m ∷ ms) = search (rules, some_services scope ms, both_some, one_more, some_qualified, some_each)

some_own : (full : List ℕ) (m : Message) → differ [] full ≡ true → AreSome (own_names full m)
some_own full m here = search (rules, one_more, both_some, some_each)

each_type : (depth : ℕ) → ((scope : List ℕ) (ms : List Message) → AreSome (types_names depth scope ms)) → (scope : List ℕ) (ms : List Message) → AreSome (types_names (suc depth) scope ms)
each_type depth deeper scope [] = refl
each_type depth deeper scope (m ∷ ms) = search (rules, each_type depth deeper scope ms, both_some, some_own, some_qualified, some_enums)

some_types : (depth : ℕ) (scope : List ℕ) (ms : List Message) → AreSome (types_names depth scope ms)
some_types zero scope ms = refl
some_types (suc depth) scope ms = each_type depth (some_types depth) scope ms

pub some_names : (depth : ℕ) (ms : List Message) → list_all (differ []) (files_names depth ms) ≡ true
some_names depth [] = refl
some_names depth (m ∷ ms) = search (rules, some_names depth ms, both_some, some_enums, some_types, some_services)
