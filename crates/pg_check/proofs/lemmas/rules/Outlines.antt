-- A message as a part of another.
use Rattle.std.proofs.Common.{◌≡◌, ◌∙◌, ℕ, List, ◌∷◌, ◌++◌, flat_map, refl, ap, rules}
use Rattle.pg_syntax.specs.declared.tree as tree
use Rattle.pg_syntax.specs.declared.tree.Part.{Row_of-Part, end_of-Part, more_of-Part, items-the_row-Part, items_hidden-the_row-Part-0}
use Rattle.pg_syntax.specs.declared.tree.Part.TheBlock.{hidden-the_row-Part-0}
use Rattle.pg_syntax.specs.declared.tree.Part.TheVariants as parts
use Rattle.pg_check.specs.rules.Outline.{messages_in, messages_of, row_list, row_messages}

row_is : {m : _} (row : Row_of-Part m) → row_list row ≡ items-the_row-Part m row
row_is end_of-Part = refl
row_is (more_of-Part p rest) = ap (λ ps. p ∷ ps) (row_is rest)

messages_are : {m : _} (scope : List ℕ) (row : Row_of-Part m) → row_messages scope row ≡ flat_map (messages_in scope) (items-the_row-Part m row)
messages_are scope end_of-Part = refl
messages_are scope (more_of-Part p rest) = ap (λ ms. messages_in scope p ++ ms) (messages_are scope rest)

body_is : (m : tree.Message.Message) → row_list (hidden-the_row-Part-0 m.parts) ≡ m.parts.items
body_is m = row_is (hidden-the_row-Part-0 m.parts) ∙ items_hidden-the_row-Part-0 m.parts

pub part_messages : (scope : List ℕ) (m : tree.Message.Message) → messages_in scope (parts.Message m) ≡ messages_of scope m
part_messages scope m = search (rules, hidden-the_row-Part-0, body_is, messages_are, flat_map, items_hidden-the_row-Part-0)
