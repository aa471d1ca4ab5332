-- Uses of a message among those of another, and the words of packages.
use Rattle.std.proofs.Common.{◌≡◌, List, [], ◌∷◌, ◌++◌, map, flat_map, refl, ap, string_bytes, rules}
use Rattle.pg_syntax.specs.declared.tree as tree
use Rattle.pg_syntax.specs.declared.tree.Part.{Row_of-Part, end_of-Part, more_of-Part, items-the_row-Part, items_hidden-the_row-Part-0}
use Rattle.pg_syntax.specs.declared.tree.Part.TheBlock.{hidden-the_row-Part-0}
use Rattle.pg_syntax.specs.declared.tree.Part.TheVariants as parts
use Rattle.pg_link.specs.names.Declares.{Word}
use Rattle.pg_link.specs.names.Names.{Text}
use Rattle.pg_link.specs.names.Outline.{word}
use Rattle.pg_link.specs.names.Resolves.{part_words}
use Rattle.pg_link.specs.uses.Uses.{message_uses, part_uses, row_uses}

row-items : {m : _} (scope : List Text) (row : Row_of-Part m) → row_uses scope row ≡ flat_map (part_uses scope) (items-the_row-Part m row)
row-items scope end_of-Part = refl
row-items scope (more_of-Part p rest) = ap (λ l. part_uses scope p ++ l) (row-items scope rest)

pub part_message : (scope : List Text) (m : tree.Message.Message) → part_uses scope (parts.Message m) ≡ message_uses scope m
part_message scope m = search (rules, string_bytes, row-items, hidden-the_row-Part-0, flat_map, items_hidden-the_row-Part-0)

pub texts_of_words : (names : List tree.Name.Name) → map (λ (w : Word). w.text) (map word names) ≡ part_words names
texts_of_words [] = refl
texts_of_words (n ∷ names) = ap (λ l. string_bytes n.text ∷ l) (texts_of_words names)
