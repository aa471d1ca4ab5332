use Rattle.std.proofs.Common.{◌≡◌, ◌∙◌, ◌<◌, zero, suc, ℕ, Bool, true, false, List, [], ◌∷◌, cond, get_or, length, Equal, nat_cmp, refl, sym, ap, arith}
use Rattle.std.proofs.lemmas.Bool.Decides.{nat_tests}
use Rattle.std.specs.Option.{unwrap_or}
use Rattle.pg_link.specs.inner.Index.{sees_one}
use Rattle.pg_link.proofs.names.index.is_own.Goals as goal

same_number : (a b : ℕ) → nat_cmp a b ≡ Equal → a ≡ b
same_number a b is = grind (arith, nat_tests)

by_first : (b c : Bool) → c ≡ true → cond b true c ≡ true
by_first true c is = refl
by_first false c is = is

-- what is visible at one index is visible
sees_at : (marks : List Bool) (files : List ℕ) (i : ℕ) → i < length files → get_or marks (get_or files i 0) false ≡ true → sees_one marks files ≡ true
sees_at marks [] i within is = absurd (omega arith)
sees_at marks (f ∷ files) zero within is = ap (λ b. cond b true (sees_one marks files)) is
sees_at marks (f ∷ files) (suc i) within is = by_first (get_or marks f false) (sees_one marks files) (sees_at marks files i (omega arith) is)

pub returns-in-Ok : goal.returns-in-Ok
returns-in-Ok c = λ yes.
    let marks : List Bool = c.args.visible.marks.now in
    let own : ℕ = c.args.visible.own in
    let read : c.unwrap_or.result ≡ get_or marks own false =
    c.unwrap_or.ensures ∙ (ap (λ o. unwrap_or o false) c.copied.ensures ∙ c.get.ensures.lookup.4 (omega arith) false) in
    let there : get_or c.args.files.now c.in-Ok.field-0 0 ≡ own = same_number (get_or c.args.files.now c.in-Ok.field-0 0) own (c.in-Ok.ensures.ok 0) in
    sees_at marks c.args.files.now c.in-Ok.field-0 c.in-Ok.ensures.bound (ap (λ n. get_or marks n false) there ∙ (sym read ∙ yes))
