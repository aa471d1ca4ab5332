use Rattle.std.proofs.Common.{◌≡◌, ◌∙◌, ◌≢◌, ◌+◌, ◌==◌, ℕ, Bool, true, false, cond, List, [], ◌∷◌, ◌++◌, drop, length, sym, ap, refl, Bor, Option, Some, None}
use Rattle.std.proofs.lemmas.Bool.Decides.{Decides-eqb}
use Rattle.std.specs.Option.{MatchOption, unwrap_or}
use Rattle.std.specs.Str.{IsCharBoundary}
use Rattle.pg_link.specs.names.Names.{without_dot}
use Rattle.pg_link.proofs.names.index.behind_dot.Goals as goal

abbrev Strips : List ℕ → Bor (List ℕ) → Type 0
Strips full x = (k : ℕ) × ((k ≡ length {A = ℕ} (46 ∷ [])) × (full ≡ (46 ∷ []) ++ drop k full) × IsCharBoundary full (length {A = ℕ} (46 ∷ []))) × (x.now ≡ drop k full) × (length x.now + k ≡ length full)

no_dot : (full : List ℕ) → ((other : List ℕ) → drop 0 full ≢ (46 ∷ []) ++ other) → full ≡ without_dot full
no_dot [] none = refl
no_dot (c ∷ rest) none = by (c == 46) refl
  where
    by : (b : Bool) → (c == 46) ≡ b → c ∷ rest ≡ cond b rest (c ∷ rest)
    by true is = absurd (none rest (ap (λ n. n ∷ rest) ((Decides-eqb c 46).0 is)))
    by false is = refl

strip_by : (o : Option (Bor (List ℕ))) (full : Bor (List ℕ)) → MatchOption o ((other : List ℕ) → drop 0 full.now ≢ (46 ∷ []) ++ other) (Strips full.now)
    → (unwrap_or o full).now ≡ without_dot full.now
strip_by None full cases = no_dot full.now cases
strip_by (Some x) full cases = sym (ap without_dot (cases.1.1 ∙ ap (λ t. 46 ∷ t) (sym cases.2)))

pub returns : goal.returns
returns c = ap (λ (b : Bor (List ℕ)). b.now) c.unwrap_or.ensures ∙ strip_by c.strip_prefix.result c.args.full c.strip_prefix.ensures.cases
