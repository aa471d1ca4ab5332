-- Reserved items (proto3 language specification, "Reserved"; proto3 language guide, "Reserved Fields", "Reserved
-- Values"). That `max` is the highest number, that no item reaches beyond the numbers of its kind, and that items don't
-- overlap, is this profile's choice.
use Rattle.std.specs.Prelude.{ℕ, Bool, nat_le, ◌&&◌, List, [], ◌∷◌, map, Option, Some, None}
use Rattle.pg_check.specs.declared.rules.numbers.Numbers.{Numbers}
use Rattle.pg_syntax.specs.declared.tree as tree
use Rattle.pg_syntax.specs.declared.tree.Bound.TheVariants as bounds
use Rattle.pg_syntax.specs.declared.tree.ReservedItems.TheVariants as lists
use Rattle.pg_check.specs.rules.Numbers.{rank_of}
use Rattle.pg_syntax.specs.Proto3.{joined}
use Rattle.pg_syntax.specs.Tree.{spell}
use Rattle.pg_syntax.specs.Views as view

-- the end of a range; a number alone ends where it begins
abbrev pub end_of : (highest first : ℕ) → Option tree.Bound.Bound → ℕ
end_of highest first None = first
end_of highest first (Some (bounds.Number n)) = rank_of n
end_of highest first (Some (bounds.Max span)) = highest

abbrev pub numbers_of : ℕ → tree.Range.Range → Numbers
numbers_of highest r = record { first = rank_of r.from; last = end_of highest (rank_of r.from) r.to; at = r.span.from }

-- the numbers that an item list reserves
abbrev pub numbers_in : ℕ → tree.ReservedItems.ReservedItems → List Numbers
numbers_in highest (lists.Names first more) = []
numbers_in highest (lists.Ranges first more) = numbers_of highest first ∷ map (numbers_of highest) more.items

-- the bytes that literals spell, joined
abbrev pub text_of : tree.Text.Text → List ℕ
text_of text = joined (spell (view.text text))

-- the names that an item list reserves
abbrev pub names_in : tree.ReservedItems.ReservedItems → List (List ℕ)
names_in (lists.Names first more) = text_of first ∷ map text_of more.items
names_in (lists.Ranges first more) = []

-- both have a number
abbrev pub overlap : Numbers → Numbers → Bool
overlap a b = (nat_le a.first a.last && nat_le b.first b.last) && (nat_le a.first b.last && nat_le b.first a.last)
