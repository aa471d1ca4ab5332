-- A list whose items are taken out one after another.
use Rattle.std.proofs.Common.{◌≡◌, List, [], ◌∷◌, ◌++◌, length, Some, None, refl, ap, sym, ◌∙◌, arith, append-nil, append_assoc, rules}
use Rattle.std.specs.declared.vec.IntoIter.{IntoIter}
use Rattle.std.specs.Vec.Iter.{into_iter_items, into_iter_len, into_iter_steps}

-- the items that came, and those that are left
pub record IsTaken {X Z : Type 0} (all came : List X) (left : IntoIter X Z) : Type 0 where
  pub parts : came ++ into_iter_items left ≡ all
  pub count : into_iter_len left ≡ length (into_iter_items left)

nothing_left : {X : Type 0} (xs : List X) → length xs ≡ 0 → xs ≡ []
nothing_left [] h = refl
nothing_left (x ∷ xs) h = absurd (omega (arith, h))

module _ {X Z : Type 0} (all came : List X) (left next : IntoIter X Z) where
  pub taken_more : (x : X) → IsTaken all came left → into_iter_steps left (Some x) next → IsTaken all (came ++ x ∷ []) next
  taken_more x before step = search (rules, arith, append_assoc)

  pub taken_all : IsTaken all came left → into_iter_steps left None next → came ≡ all
  taken_all before step = sym (append-nil came) ∙ ap (λ xs. came ++ xs) (sym (nothing_left (into_iter_items left) (sym before.count ∙ step.0))) ∙ before.parts
