-- The message types of a source file as trees: each before those in it.
use Rattle.std.proofs.Common.{◌≡◌, ◌∙◌, ℕ, List, [], ◌∷◌, ◌++◌, flat_map, refl, ap, arith, rules}
use Rattle.std.specs.Bool.{⊤}
use Rattle.std.proofs.lemmas.List.{append-nil, append_assoc}
use Rattle.pg_check.specs.rules.Outline.{Message, file_messages, full_name, messages_in, messages_of, package_of, row_list, row_messages, statement_messages}
use Rattle.pg_syntax.specs.declared.tree as tree
use Rattle.pg_syntax.specs.declared.tree.Part.{Part, Row_of-Part, end_of-Part, more_of-Part}
use Rattle.pg_syntax.specs.declared.tree.Part.TheVariants as parts

-- a message type with those in it, and the others that follow it in its scope
pub data Trees : Type 0 where
  Bare : Trees
  Grown : Message → (inside others : Trees) → Trees

abbrev pub flat : Trees → List Message
flat Bare = []
flat (Grown m inside others) = m ∷ flat inside ++ flat others

-- those at the roots are in this scope, and each other one in the one that it grows on
abbrev pub IsIn : List ℕ → Trees → Type 0
IsIn scope Bare = ⊤
IsIn scope (Grown m inside others) = (m.scope ≡ scope) × IsIn m.full inside × IsIn scope others

abbrev beside : Trees → Trees → Trees
beside Bare others = others
beside (Grown m inside more) others = Grown m inside (beside more others)

flat_beside : (f g : Trees) → flat (beside f g) ≡ flat f ++ flat g
flat_beside Bare g = refl
flat_beside (Grown m inside others) g = search (rules, append_assoc, flat_beside others g)

in_beside : (scope : List ℕ) (f g : Trees) → IsIn scope f → IsIn scope g → IsIn scope (beside f g)
in_beside scope Bare g own more = more
in_beside scope (Grown m inside others) g own more = (own.0, own.1, in_beside scope others g own.2 more)

pub record HasTrees (scope : List ℕ) (ms : List Message) : Type 0 where
  pub trees : Trees
  pub is_flat : flat trees ≡ ms
  pub is_in : IsIn scope trees

no_trees : (scope : List ℕ) → HasTrees scope []
no_trees scope = record { trees = Bare; is_flat = refl; is_in = tt }

both_trees : (scope : List ℕ) (xs ys : List Message) → HasTrees scope xs → HasTrees scope ys → HasTrees scope (xs ++ ys)
both_trees scope xs ys f g = search (rules, flat_beside, in_beside)

one_tree : (m : Message) (inside : List Message) → HasTrees m.full inside → HasTrees m.scope (m ∷ inside)
one_tree m inside f = record {
  trees = Grown m f.trees Bare;
  is_flat = ap (λ ms. m ∷ ms) (append-nil (flat f.trees) ∙ f.is_flat);
  is_in = (refl, f.is_in, tt);
}

all_trees : {X : Type 0} (scope : List ℕ) (h : X → List Message) → ((x : X) → HasTrees scope (h x)) → (xs : List X) → HasTrees scope (flat_map h xs)
all_trees scope h each [] = no_trees scope
all_trees scope h each (x ∷ xs) = both_trees scope (h x) (flat_map h xs) (each x) (all_trees scope h each xs)

mutual
  part_trees : (scope : List ℕ) (p : Part) → HasTrees scope (messages_in scope p)
  part_trees scope (parts.Empty span) = no_trees scope
  part_trees scope (parts.Message' name shape row span) =
      one_tree (record { scope = scope; full = full_name scope name; name = name; body = row_list row }) (row_messages (full_name scope name) row)
      (row_trees (full_name scope name) row)
  part_trees scope (parts.Enum e) = no_trees scope
  part_trees scope (parts.Oneof o) = no_trees scope
  part_trees scope (parts.Option o) = no_trees scope
  part_trees scope (parts.Reserved r) = no_trees scope
  part_trees scope (parts.Map m) = no_trees scope
  part_trees scope (parts.Field f) = no_trees scope

  row_trees : {m : _} (scope : List ℕ) (row : Row_of-Part m) → HasTrees scope (row_messages scope row)
  row_trees scope end_of-Part = no_trees scope
  row_trees scope (more_of-Part p rest) = both_trees scope (messages_in scope p) (row_messages scope rest) (part_trees scope p) (row_trees scope rest)

message_trees : (scope : List ℕ) (m : tree.Message.Message) → HasTrees scope (messages_of scope m)
message_trees scope m =
    let full = full_name scope m.name in
    one_tree (record { scope = scope; full = full; name = m.name; body = m.parts.items }) (flat_map (messages_in full) m.parts.items)
    (all_trees full (messages_in full) (part_trees full) m.parts.items)

statement_trees : (scope : List ℕ) (s : tree.Statement.Statement) → HasTrees scope (statement_messages scope s)
statement_trees scope s = grind (arith, no_trees, message_trees)

pub file_trees : (file : tree.FileTree.FileTree) → HasTrees (package_of file) (file_messages file)
file_trees file = search (rules, both_trees, all_trees, statement_trees)
