-- Members of oneofs among contents by rising numbers.
use Rattle.std.proofs.Common.{◌≡◌, ℕ, ◌<◌, ◌≤◌, List, [], ◌∷◌, length, Bool, true, false, cond, Some, refl, ap, arith, true≢false, eq-eqb, ne_eqb, rules}
use Rattle.pg_schema.specs.Shape.{FieldShape, field_at}
use Rattle.pg_dyn.specs.declared.message.Content.{Content}
use Rattle.pg_dyn.specs.reading.Content.{is_sibling}
use Rattle.pg_dyn.specs.setting.ContentFaults.{is_in_oneof, members}
use Rattle.pg_dyn.specs.fitting.ContentFits.{AreApart, NoneSiblings}
use Rattle.pg_dyn.specs.message.Seen.{Rises}
use Rattle.pg_dyn.proofs.Lists.{filter_none, each_weaker, each_both}
use Rattle.pg_dyn.proofs.lemmas.reading.records.Splitting.{found_number}
use Rattle.pg_dyn.proofs.lemmas.setting.WholeFaults.{same_some}

module _ (fs : List FieldShape) where
  in_oneof : (n o : ℕ) → is_in_oneof fs o n ≡ true → (f : FieldShape) × (field_at fs n ≡ Some f) × (f.oneof ≡ Some o)
  in_oneof n o h = search (rules, same_some)

  siblings_in : (f g : FieldShape) (o : ℕ) → f.oneof ≡ Some o → g.oneof ≡ Some o → f.number < g.number → is_sibling f g ≡ true
  siblings_in f g o is_f is_g below = search (rules, arith, eq-eqb, ne_eqb)

  -- of two fields that are apart the second is in no oneof of the first
  apart_in : (a b o : ℕ) → a < b → AreApart fs a b → is_in_oneof fs o a ≡ true → is_in_oneof fs o b ≡ false
  apart_in a b o below apart first =
      search (rules, arith, in_oneof, found_number, true≢false, siblings_in)

  -- of contents that are no siblings each oneof has one member at most
  pub each_once : (cs : List (ℕ × Content)) → Rises cs → NoneSiblings fs cs → (o : ℕ) → length (members fs o cs) ≤ 1
  each_once [] rises apart o = omega arith
  each_once (c ∷ cs) rises apart o = of (is_in_oneof fs o c.0) refl (each_once cs rises.1 apart.1 o)
    where
      of : (b : Bool) → is_in_oneof fs o c.0 ≡ b → length (members fs o cs) ≤ 1 → length (cond b (c ∷ members fs o cs) (members fs o cs)) ≤ 1
      of true e rest =
          let none : members fs o cs ≡ [] =
          filter_none (λ (l : ℕ × Content). is_in_oneof fs o l.0) cs
          (each_weaker (λ (l : ℕ × Content). (c.0 < l.0) × AreApart fs c.0 l.0) (λ (l : ℕ × Content). is_in_oneof fs o l.0 ≡ false) (λ l k. apart_in c.0 l.0 o k.0 k.1 e) cs
          (each_both (λ (l : ℕ × Content). c.0 < l.0) (λ (l : ℕ × Content). AreApart fs c.0 l.0) cs rises.0 apart.0)) in
          omega (arith, ap length none)
      of false e rest = rest
