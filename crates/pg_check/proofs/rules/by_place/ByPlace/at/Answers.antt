use Rattle.std.proofs.Common.{◌≡◌, ◌∙◌, ◌<◌, ◌≤◌, ℕ, List, Result, Equal, length, get_or, nat_cmp, sym, subst, arith}
use Rattle.std.proofs.Math.Nat.{lt_of_not-le}
use Rattle.std.proofs.lemmas.Bool.Decides.{nat_tests}
use Rattle.std.proofs.lemmas.List.Sorted.{searched}
use Rattle.std.specs.Result.{MatchResult}
use Rattle.pg_link.specs.declared.uses.target.Target.{Target}
use Rattle.pg_check.proofs.lemmas.rules.PlaceLaws.{copied_is, found_there, found_nowhere, in_order}
use Rattle.pg_check.proofs.rules.by_place.ByPlace.at.Goals as goal

same_number : (a b : ℕ) → nat_cmp a b ≡ Equal → a ≡ b
same_number a b is = grind (arith, nat_tests)

pub returns-in-Ok : goal.returns-in-Ok
returns-in-Ok c =
    let places : List ℕ = c.args.self.now.places.now in
    let targets : List Target = c.args.self.now.targets.now in
    c.copied.ensures ∙ (copied_is targets c.in-Ok.index c.get.result _ c.get.ensures.lookup.1 c.get.ensures.lookup.3
    ∙ sym (found_there places targets c.in-Ok.index c.args.at c.args.self.now.rising c.in-Ok.ensures.bound (same_number (get_or places c.in-Ok.index 0) c.args.at (c.in-Ok.ensures.ok 0))))

pub returns-in-Err : goal.returns-in-Err
returns-in-Err c =
    let places : List ℕ = c.args.self.now.places.now in
    let targets : List Target = c.args.self.now.targets.now in
    let around = subst (λ (r : Result ℕ ℕ). MatchResult r (λ i. (i < length places) × (get_or places i 0 ≡ c.args.at))
    (λ i. (i ≤ length places) × ((k : ℕ) → k < i → get_or places k 0 < c.args.at) × ((k : ℕ) → i ≤ k → k < length places → c.args.at < get_or places k 0)))
    c.in-Err.is (searched places c.args.at c.binary_search.result c.binary_search.ensures.position (in_order places c.args.self.now.rising)) in
    sym (found_nowhere places targets c.args.at (λ k within is.
    let early : k < c.in-Err.field-0 = lt_of_not-le (λ behind. omega (arith, around.2 k behind within, is)) in
    omega (arith, around.1 k early, is)))
