use Rattle.std.proofs.Common.{◌≡◌, ◌∙◌, ℕ, ℤ, None, Some, Option, SFits, cond, ap, sym, w32, rules}
use Rattle.std.specs.BTreeMap.{get}
use Rattle.std.specs.Ordering.{int_cmp, int_eq}
use Rattle.std.proofs.lemmas.Bool.Decides.{Decides-int_eq}
use Rattle.std.proofs.lemmas.Int.{to_z-of_z}
use Rattle.pg_notes.proofs.Firsts.{added, kept, none_there}
use Rattle.pg_notes.proofs.tables.keep_first.Goals as goal

pub returns-in_ok-insert : goal.returns-in_ok-insert
returns-in_ok-insert c =
    let old : ℤ → Option ℕ = get int_cmp c.args.numbers.now in
    let key : ℤ = c.args.value.now.number in
    let fits : SFits w32 key = search rules in
    let fresh : old key ≡ None = none_there (old key) (sym c.contains_key.ensures ∙ c.if-not-contains_key.true) in
    λ q. c.in_ok-insert.ensures.updates.0 q ∙ (ap (λ (k : ℤ). cond (int_eq k q) (Some c.args.index) (old q)) (to_z-of_z w32 key fits) ∙ added int_eq Decides-int_eq old key c.args.index fresh q)

pub returns-else-not-contains_key : goal.returns-else-not-contains_key
returns-else-not-contains_key c =
    let old : ℤ → Option ℕ = get int_cmp c.args.numbers.now in
    let key : ℤ = c.args.value.now.number in
    λ q. kept int_eq Decides-int_eq old key c.args.index (sym c.contains_key.ensures ∙ c.if-not-contains_key.false) q
