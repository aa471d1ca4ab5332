-- A certificate as it is written, line by line.
use Rattle.std.specs.Prelude.{codes}
use Rattle.std.proofs.Common.{◌≡◌, ℕ, ◌+◌, List, [], ◌∷◌, ◌++◌, drop, flat_map, map, Some, None, Option, slice_get, refl, ap, sym, ◌∙◌, append_assoc}
use Rattle.pg_pairs.specs.declared.choices.choice.Pair.{Pair}
use Rattle.pg_dyn.specs.declared.view_name.ViewName.TheVariants as views
use Rattle.pg_cert.specs.declared.bounds.PairBound.{PairBound}
use Rattle.pg_cert.specs.declared.heading.Heading.{Heading}
use Rattle.pg_cert.specs.declared.heading.Heading.TheVariants as headings
use Rattle.pg_cert.specs.Certificate.{Claim}
use Rattle.pg_cert.specs.Text.{Names, line_of, bound_words, claim_lines, heading_lines, last_words, text_of, root_words}
use Rattle.pg_cert.specs.inner.Lines.{heading_text, lines_text, last_text, pair_words}
use Rattle.pg_cert.proofs.Checks.{next_from, next_past}

module _ (old new : Names) (bounds : List PairBound) (at : ℕ) (before after : List ℕ) where
  -- a line more
  pub line_more : (b : PairBound) → slice_get bounds at ≡ Some b → after ≡ before ++ line_of (bound_words old new b) → after ++ lines_text old new (drop (at + 1) bounds) ≡ before ++ lines_text old new (drop at bounds)
  line_more b found is =
      ap (λ t. t ++ lines_text old new (drop (at + 1) bounds)) is ∙ append_assoc before (line_of (bound_words old new b)) (lines_text old new (drop (at + 1) bounds))
      ∙ ap (λ bs. before ++ lines_text old new bs) (sym (next_from bounds at b found))

  pub no_line_more : slice_get bounds at ≡ None → after ≡ before → after ++ lines_text old new (drop (at + 1) bounds) ≡ before ++ lines_text old new (drop at bounds)
  no_line_more found is = ap (λ t. t ++ lines_text old new (drop (at + 1) bounds)) is ∙ ap (λ bs. before ++ lines_text old new bs) (sym (next_past bounds at found))

flat_map-lines : (old new : Names) (bounds : List PairBound) (later : List (List (List ℕ))) → flat_map line_of (map (bound_words old new) bounds ++ later) ≡ lines_text old new bounds ++ flat_map line_of later
flat_map-lines old new [] later = refl
flat_map-lines old new (b ∷ bounds) later =
    ap (λ t. line_of (bound_words old new b) ++ t) (flat_map-lines old new bounds later) ∙ sym (append_assoc (line_of (bound_words old new b)) (lines_text old new bounds) (flat_map line_of later))

heading-row : (heading : Heading) (later : List (List (List ℕ))) → flat_map line_of (heading_lines heading ++ later) ≡ heading_text heading ++ flat_map line_of later
heading-row headings.First later = refl
heading-row (headings.Second views.Numbers) later = refl
heading-row (headings.Second views.Names) later = refl

-- all lines in one row
pub text-row : (heading : Heading) (old new : Names) (claim : Claim) → text_of heading old new claim ≡ heading_text heading ++ (line_of (root_words old new claim.root) ++ (lines_text old new claim.bounds ++ last_text claim.witness))
text-row heading old new claim =
    heading-row heading (claim_lines old new claim)
    ∙ ap (λ t. heading_text heading ++ (line_of (root_words old new claim.root) ++ t)) (flat_map-lines old new claim.bounds (last_words claim.witness))

-- the string as it grows
pub grown : (heading : Heading) (old new : Names) (claim : Claim) (t0 t1 t2 t3 t4 : List ℕ) (root : Pair) (bounds : List PairBound) (witness : Option (List ℕ)) → root ≡ claim.root → bounds ≡ claim.bounds → witness ≡ claim.witness →
    t0 ≡ heading_text heading ++ codes "root" → t1 ≡ t0 ++ pair_words old new root → t2 ≡ t1 ++ 10 ∷ [] → t3 ≡ t2 ++ lines_text old new bounds → t4 ≡ t3 ++ last_text witness → t4 ≡ text_of heading old new claim
grown heading old new claim t0 t1 t2 t3 t4 root bounds witness is_root is_bounds is_witness a b d e f =
    f ∙ ap (λ w. t3 ++ last_text w) is_witness
    ∙ ap (λ t. t ++ last_text claim.witness) (e ∙ ap (λ bs. t2 ++ lines_text old new bs) is_bounds ∙ ap (λ t. t ++ lines_text old new claim.bounds) (d ∙ ap (λ t. t ++ 10 ∷ []) (b ∙ ap (λ p. t0 ++ pair_words old new p) is_root ∙ ap (λ t. t ++ pair_words old new claim.root) a)))
    ∙ joined (heading_text heading) (lines_text old new claim.bounds) (last_text claim.witness) (old claim.root.old) (new claim.root.new)
    ∙ sym (text-row heading old new claim)
  where
    outer : (first r p t l later : List ℕ) → ((((first ++ r) ++ p) ++ t) ++ l) ++ later ≡ first ++ ((((r ++ p) ++ t) ++ l) ++ later)
    outer first r p t l later = simp append_assoc

    inner : (lines later o n : List ℕ) → (((codes "root" ++ ((32 ∷ o) ++ (32 ∷ n))) ++ 10 ∷ []) ++ lines) ++ later ≡ line_of (codes "root" ∷ o ∷ n ∷ []) ++ (lines ++ later)
    inner lines later o n = simp append_assoc

    joined : (first lines later o n : List ℕ) → ((((first ++ codes "root") ++ ((32 ∷ o) ++ (32 ∷ n))) ++ 10 ∷ []) ++ lines) ++ later ≡ first ++ (line_of (codes "root" ∷ o ∷ n ∷ []) ++ (lines ++ later))
    joined first lines later o n = outer first (codes "root") ((32 ∷ o) ++ (32 ∷ n)) (10 ∷ []) lines later ∙ ap (λ t. first ++ t) (inner lines later o n)
