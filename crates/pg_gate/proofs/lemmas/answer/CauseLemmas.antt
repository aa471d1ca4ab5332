-- The pairs of causes are pairs of the schemas' types.
use Rattle.std.proofs.Common.{◌≡◌, ◌≤◌, ℕ, List, [], ◌∷◌, length, true, refl, sym, subst, lt-ltb, ⊎_elim, arith}
use Rattle.std.specs.List.{AllByRecursion}
use Rattle.clap.specs.Words.{Text}
use Rattle.pg_schema.specs.declared.parts.Parts.{Parts}
use Rattle.pg_schema.specs.Parts.{shape_of}
use Rattle.pg_schema.specs.ShapeRules.{IsShape}
use Rattle.pg_dyn.proofs.Lists.{each-flat_map, each_weaker, each-map}
use Rattle.pg_dyn.specs.declared.view_name.ViewName.{ViewName}
use Rattle.pg_pairs.specs.declared.choices.choice.Pair.{Pair}
use Rattle.pg_pairs.specs.bounds.Covering.{IsAmong, children}
use Rattle.pg_pairs.specs.graph.Edges.{is_pair}
use Rattle.pg_pairs.specs.choices.Told.{Told, told_causes}
use Rattle.pg_pairs.specs.views.NamedView.{seen_under}
use Rattle.pg_pairs.specs.graph.Reached.{IsLedTo}
use Rattle.pg_pairs.proofs.PublicLaws.{causes_are_told, pairs_lead_to_pairs}
use Rattle.pg_pairs.proofs.lemmas.graph.Reaching.{every_is_among}
use Rattle.pg_gate.specs.inner.Causes.{HasFields}
use Rattle.pg_cert.specs.Text.{IsPairOf}
use Rattle.pg_causes.specs.Causes.{ToldIn, causes_at, in_pair, told_in}
use Rattle.pg_causes.specs.Overview.{IsOverview}
use Rattle.pg_least.specs.Loss.{AreRoots}
use Rattle.pg_causes.specs.declared.overview.Cause.{Cause}
use Rattle.pg_causes.specs.declared.overview.Overview.{Overview}
use Rattle.pg_gate.proofs.lemmas.answer.Ranges.{as_types, each_unmapped}
use Rattle.pg_least.proofs.PublicLaws.{named_types_are_there}

among_each : {A : Type 0} (P : A → Type 0) (x : A) (xs : List A) → IsAmong x xs → AllByRecursion P xs → P x
among_each P x [] among each = absurd among
among_each P x (y ∷ ys) among each = ⊎_elim (λ same. subst P (sym same) each.0) (λ later. among_each P x ys later each.1) among

module _ (view : ViewName) (old new : Parts) (is_old : IsShape (shape_of old)) (is_new : IsShape (shape_of new)) where
  root_there : (pair : Pair) → (name : Text) × AreRoots old new name pair → is_pair (shape_of old) (shape_of new) pair ≡ true
  root_there pair named =
      let old_there = named_types_are_there old named.0 pair.old named.1.old_named in
      let new_there = named_types_are_there new named.0 pair.new named.1.new_named in
      rw (lt-ltb pair.old.index (length (shape_of old)) old_there, lt-ltb pair.new.index (length (shape_of new)) new_there) refl

  led_there : (roots : List Pair) → AllByRecursion (λ p. is_pair (shape_of old) (shape_of new) p ≡ true) roots → (pair : Pair) → IsLedTo (children (shape_of old) (shape_of new)) roots pair → IsPairOf old new pair
  led_there roots known pair led =
      as_types old new pair
      (pairs_lead_to_pairs (shape_of old) (shape_of new) is_old is_new led.root pair (among_each (λ p. is_pair (shape_of old) (shape_of new) p ≡ true) led.root roots led.among known) led.leads)

  -- a cause as it is told: of a pair of types, with a field
  abbrev IsTold : ToldIn → Type 0
  IsTold t = IsPairOf old new t.pair × (1 ≤ length t.told.numbers)

  some_number : (n : ℕ) (ns : List ℕ) → IsAmong n ns → 1 ≤ length ns
  some_number n [] h = absurd h
  some_number n (m ∷ ns) h = omega arith

  told_there : (pair : Pair) → IsPairOf old new pair → AllByRecursion IsTold (causes_at (seen_under view old new) (shape_of old) (shape_of new) pair)
  told_there pair there =
      let ts = told_causes (seen_under view old new) (shape_of old) (shape_of new) pair in
      each-map IsTold (in_pair pair) ts
      (every_is_among (λ (t : Told). IsTold (in_pair pair t)) ts
      (λ t among. (there, some_number t.choice.number t.numbers (causes_are_told.are_of_fields (seen_under view old new) (shape_of old) (shape_of new) pair t among).0)))

  pub causes_there : (overview : Overview) → IsOverview view old new overview → AllByRecursion (HasFields old new) overview.causes.items
  causes_there overview is =
      let roots = each_weaker (λ (p : Pair). (name : Text) × AreRoots old new name p) (λ p. is_pair (shape_of old) (shape_of new) p ≡ true) root_there is.roots is.roots_alike in
      let pairs = each_weaker (IsLedTo (children (shape_of old) (shape_of new)) is.roots) (IsPairOf old new) (led_there is.roots roots) is.causes.pairs is.causes.reached.led_to in
      let each = each_weaker (IsPairOf old new) (λ (p : Pair). AllByRecursion IsTold (causes_at (seen_under view old new) (shape_of old) (shape_of new) p)) told_there is.causes.pairs pairs in
      let told = each-flat_map IsTold (causes_at (seen_under view old new) (shape_of old) (shape_of new)) is.causes.pairs each in
      each_weaker (λ (c : Cause). IsTold (told_in c)) (HasFields old new) (λ c t. record { pair = t.0; fields = t.1 }) overview.causes.items
      (each_unmapped IsTold told_in overview.causes.items (subst (AllByRecursion IsTold) (sym is.causes.are) told))
