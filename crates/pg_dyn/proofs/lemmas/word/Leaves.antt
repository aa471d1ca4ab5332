-- The test of items is that of their being equal.
use Rattle.std.proofs.Common.{◌≡◌, true, eq-eqb, eqb-true, arith}
use Rattle.std.proofs.lemmas.Bool.Decides.{Decides-int_eq}
use Rattle.std.proofs.lemmas.Slice.Eq.{bytes_eq-Decides}
use Rattle.pg_dyn.specs.message.Message.{Leaf, leaf_eq}

pub same_leaf : (k l : Leaf) → leaf_eq k l ≡ true → k ≡ l
same_leaf k l h = grind (arith, Decides-int_eq, eqb-true, bytes_eq-Decides)

pub leaf_eq_self : (k : Leaf) → leaf_eq k k ≡ true
leaf_eq_self k = grind (arith, Decides-int_eq, eq-eqb, bytes_eq-Decides)
