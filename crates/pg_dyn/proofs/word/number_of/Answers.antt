use Rattle.std.proofs.Common.{SFits, ◌≡◌, ℕ, ◌<◌, ◌^◌, ◌%◌, ◌/◌, Bool, true, false, nat_eq, cond, ap, sym, subst, ◌∙◌, arith, pos, negsuc, ℤ, to_z, of_z, w64}
use Rattle.std.specs.Int.{w128}
use Rattle.std.proofs.lemmas.Int.{to_z-of_z}
use Rattle.pg_wire.specs.Words.{IsBetween, unzigzag}
use Rattle.pg_dyn.proofs.word.number_of.Goals as goal

-- the number of a word of 32 bits
unzigzag_below : (w : ℕ) → w < 2 ^ 32 → IsBetween (2 ^ 31) (2 ^ 31) (unzigzag w)
unfolding unzigzag
unzigzag_below w h = of (nat_eq (w % 2) 0)
  where
    of : (b : Bool) → IsBetween (2 ^ 31) (2 ^ 31) (cond b (pos (w / 2)) (negsuc (w / 2)))
    of true = omega arith
    of false = omega arith

-- a number that fits is the same in wider words
through : (u : ℤ) → SFits w64 u → SFits w128 u → to_z w128 (of_z w128 (to_z w64 (of_z w64 u))) ≡ u
through u near wide = ap (λ z. to_z w128 (of_z w128 z)) (to_z-of_z w64 u near) ∙ to_z-of_z w128 u wide

pub returns-in-Sint32-clause-range : goal.returns-in-Sint32-clause-range
returns-in-Sint32-clause-range c =
    let u = c.unzigzag.result in
    let near : SFits w64 u = omega (arith, c.unzigzag.type_inv) in
    let wide : SFits w128 u = omega (arith, c.unzigzag.type_inv) in
    rw c.in-Sint32.is (λ k. subst (IsBetween (2 ^ 31) (2 ^ 31)) (sym (through u near wide ∙ c.unzigzag.ensures)) (unzigzag_below (c.args.word % 4294967296) (omega arith)))
