-- The rules at work on a few numbers, names and options.
use Rattle.std.proofs.Common.{◌≡◌, Bool, true, false, not, ◌&&◌, ◌||◌, List, [], ◌∷◌, is_some, subst, rules}
use Rattle.std.specs.List.{list_all}
use Rattle.std.proofs.lemmas.Bool.{false≢true}
use Rattle.pg_check.specs.Examples.{WorkedFields, WorkedMembers, WorkedOptions, WorkedValues, unknown}
use Rattle.pg_check.specs.rules.KeepsRules.{OptionsKeep}
use Rattle.pg_check.specs.rules.Messages as messages
use Rattle.pg_check.specs.rules.Options.{OptionAt}
use Rattle.pg_check.specs.rules.Types.{is_packable_type}
use Rattle.pg_syntax.specs.declared.tree as tree

pub worked_fields : WorkedFields
worked_fields = search (rules, false≢true)

pub worked_values : WorkedValues
worked_values = search (rules, false≢true)

packed_list : (targets : _) (f : tree.Field.Field) (b : Bool) → messages.is_repeated f.label ≡ true → is_packable_type targets f.type_name ≡ true
    → ((messages.is_repeated f.label && is_packable_type targets f.type_name) || b) ≡ true
packed_list targets f b many fits = search rules

packed_alone : (targets : _) (f : tree.Field.Field) (list : List tree.Setting.Setting) (s : tree.Setting.Setting) → messages.is_repeated f.label ≡ false → list ≡ s ∷ [] → messages.states_packed s ≡ true
    → ((messages.is_repeated f.label && is_packable_type targets f.type_name) || list_all (λ s. not (messages.states_packed s)) list) ≡ false
packed_alone targets f list s one is packed = search rules

pub worked_members : WorkedMembers
worked_members = search (rules, is_some, packed_list, packed_alone)

-- options that are only an unknown one
none_right : (options : List OptionAt) → options ≡ unknown → OptionsKeep options → ⊥
none_right options is keep = false≢true (subst OptionsKeep is keep).right

pub worked_options : WorkedOptions
worked_options = search (rules, false≢true, none_right)
