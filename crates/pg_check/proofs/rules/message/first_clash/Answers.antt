use Rattle.std.proofs.Common.{◌≡◌, ◌∙◌, ℕ, Bool, true, false, not, map, Option, Some, None, is_some, sym, ap, refl}
use Rattle.pg_check.specs.rules.Members.{json_named}
use Rattle.pg_check.specs.inner.CodeViews.{member}
use Rattle.pg_check.specs.inner.NumberFaults as numbers
use Rattle.pg_check.proofs.lemmas.rules.TextKeys.{all_once}
use Rattle.pg_check.proofs.rules.message.first_clash.Goals as goal

nothing : (o : Option ℕ) (b : Bool) → is_some o ≡ not b → b ≡ true → o ≡ None
nothing None b h t = refl
nothing (Some n) true h t = absurd (cc (h))
nothing (Some n) false h t = absurd (cc (t))

pub returns-then-is_none : goal.returns-then-is_none
returns-then-is_none c =
    let of_keys : numbers.first_twice c.deref.result.now ≡ None = sym c.in_ok-first_twice.ensures ∙ nothing c.in_ok-first_twice.field-0 c.is_none.result c.is_none.ensures c.if-is_none.true in
    sym (all_once (map json_named (map member c.args.list.now)) (sym (ap numbers.first_twice (c.deref.ensures.value ∙ c.in_ok-keys.ensures)) ∙ of_keys))
