-- A file of one message type, and the rules at work on it.
use Rattle.std.proofs.Common.{◌≡◌, ◌∙◌, ℕ, Bool, true, not, ◌&&◌, ◌||◌, List, [], ◌∷◌, ◌++◌, codes, length, flat_map, Option, None, string_bytes, sym, ap, ap₂, subst, refl, arith, rules}
use Rattle.std.specs.List.{list_all, AllByRecursion}
use Rattle.std.proofs.lemmas.Bool.{false≢true}
use Rattle.pg_link.specs.declared.uses.target.Target.{Target}
use Rattle.pg_check.specs.Examples.{HasOneMessage, IsFieldA, WorkedFiles}
use Rattle.pg_check.specs.parts.MadeParts.{Source}
use Rattle.pg_check.specs.rules.Files.{file_line, file_lines}
use Rattle.pg_check.specs.rules.KeepsRules.{KeepsRules, MessageKeeps, OptionsKeep, source_messages}
use Rattle.pg_check.specs.rules.Members.{settings}
use Rattle.pg_check.specs.rules.Messages as messages
use Rattle.pg_check.specs.rules.Outline.{Message, all_messages, enum_stated, file_messages, full_name, messages_in, own_enums, package_in, scoped_enums, statements_behind}
use Rattle.pg_check.specs.rules.ReservedItems.{names_in}
use Rattle.pg_syntax.specs.declared.tree as tree
use Rattle.pg_syntax.specs.declared.tree.Label.{Label}
use Rattle.pg_syntax.specs.declared.tree.Part.{Part}
use Rattle.pg_syntax.specs.declared.tree.Part.TheVariants as parts
use Rattle.pg_syntax.specs.declared.tree.Statement.{Statement}
use Rattle.pg_syntax.specs.declared.tree.Statement.TheVariants as statements

-- what is listed of a file, statement by statement
abbrev listed : {X : Type 0} → (List ℕ → List Statement → List X) → Option tree.Packaged.Packaged → List Statement → List X
listed list p ss = list (package_in p) ss ++ list (package_in p) (statements_behind p)

module _ (s : Source) (body : List Part) (one : HasOneMessage s body) where
  listed_once : {X : Type 0} (list : List ℕ → List Statement → List X) → listed list s.tree.packaged s.tree.statements.items ≡ listed list None (statements.Message one.message ∷ [])
  listed_once list = search rules

  abbrev messages_in_all : List Part → List Message
  messages_in_all b = ((record { scope = []; full = full_name [] one.message.name; name = one.message.name; body = b } ∷ flat_map (messages_in (full_name [] one.message.name)) b) ++ []) ++ []

  messages_are : file_messages s.tree ≡ messages_in_all body
  messages_are = listed_once all_messages ∙ ap messages_in_all one.has_body

  enums_are : scoped_enums s.tree ≡ flat_map own_enums (messages_in_all body)
  enums_are = ap₂ (λ es ms. es ++ flat_map own_enums ms) (listed_once (λ scope ss. flat_map (enum_stated scope) ss)) messages_are

  lines_are : file_lines s.tree ≡ []
  lines_are = listed_once (λ scope ss. flat_map file_line ss)

no_options : OptionsKeep []
no_options = record { right = refl; once = refl }

unpacked : (o : Option tree.Settings.Settings) → o ≡ None → list_all (λ (s : tree.Setting.Setting). not (messages.states_packed s)) (settings o) ≡ true
unpacked o none = subst (λ x. list_all (λ (s : tree.Setting.Setting). not (messages.states_packed s)) (settings x) ≡ true) (sym none) refl

-- a field with no label
unlabelled : (label : Option Label) → label ≡ None → (b packable : Bool) → b ≡ true → (((messages.is_repeated label && packable) || b) && true) ≡ true
unlabelled label none b packable h = search rules

kept_body : (targets : ℕ → Option Target) (f : tree.Field.Field) → IsFieldA f → MessageKeeps targets (parts.Field f ∷ [])
kept_body targets f is = search (rules, no_options, unlabelled, unpacked)

kept_file : (s : Source) (f : tree.Field.Field) → IsFieldA f → HasOneMessage s (parts.Field f ∷ []) → KeepsRules (s ∷ [])
kept_file s f is one = search (rules, messages_are, kept_body, enums_are, lines_are, no_options)

message_in_file : (s : Source) (body : List Part) → HasOneMessage s body → KeepsRules (s ∷ []) → MessageKeeps s.targets body
message_in_file s body one keep = (subst (AllByRecursion (λ (m : Message). MessageKeeps s.targets m.body)) (messages_are s body one) keep.each.0.messages).0

reserved_name_in_file : (s : Source) (f : tree.Field.Field) (r : tree.Reserved.Reserved) → IsFieldA f → names_in r.items ≡ codes "a" ∷ []
    → HasOneMessage s (parts.Field f ∷ parts.Reserved r ∷ []) → KeepsRules (s ∷ []) → ⊥
reserved_name_in_file s f r is reserves one keep = search (rules, message_in_file, codes, string_bytes, false≢true)

too_many_types : (files : List Source) → length (flat_map source_messages files) ≡ 4097 → KeepsRules files → ⊥
too_many_types files many keep = let few = keep.few_types in omega (arith, few, many)

pub worked_files : WorkedFiles
worked_files = search (rules, kept_file, reserved_name_in_file, message_in_file, too_many_types)
