use Rattle.std.proofs.Common.{◌≡◌, not, true, false, nat_eq, nat_lt, length, sym, ◌∙◌, ap, arith}
use Rattle.std.proofs.lemmas.Bool.Decides.{nat_tests}
use Rattle.std.specs.List.{list_all}
use Rattle.pg_schema.specs.rules.Pairs.{all_pairs}
use Rattle.pg_schema.specs.rules.Uses.{is_used_once}
use Rattle.pg_schema.specs.inner.Steps.{is_whole}
use Rattle.pg_schema.proofs.lemmas.rules.UseLemmas.{all_three, places_once, places_whole}
use Rattle.pg_schema.proofs.rules.scopes.are_each_once.Goals as goal

pub is_used_once-requires : goal.is_used_once-requires
is_used_once-requires c = ap (list_all is_whole) c.in_ok-uses.ensures ∙ places_whole c.args.places.now

pub returns : goal.returns
returns c =
    let many : nat_eq (length c.args.places.now) c.args.count ≡ true = grind (arith, nat_tests) in
    let below : list_all (λ place. nat_lt place c.args.count) c.args.places.now ≡ true = sym c.are_below.ensures ∙ c.if-not-are_below.false in
    c.is_used_once.ensures ∙ (ap (is_used_once false) c.in_ok-uses.ensures ∙ (places_once c.args.places.now
    ∙ all_three (nat_eq (length c.args.places.now) c.args.count) (list_all (λ place. nat_lt place c.args.count) c.args.places.now) (all_pairs (λ a b. not (nat_eq a b)) c.args.places.now) many below))
