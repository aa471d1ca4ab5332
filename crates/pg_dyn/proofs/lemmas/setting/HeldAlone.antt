-- A message that fits and holds a member of a oneof holds no other, and loses just that one where another is set.
use Rattle.std.proofs.Common.{◌≡◌, ℕ, zero, suc, ◌<◌, List, [], ◌∷◌, length, get_or, Bool, true, false, not, Option, Some, None, refl, ap, sym, ◌∙◌, arith, true≢false, ◌≢◌, filter, nat_eq, cond, eq-eqb, ne_eqb, rules}
use Rattle.std.specs.List.{AllByRecursion}
use Rattle.std.proofs.lemmas.Bool.{and_parts, and_from, cases_eq, eqb-true, not-true}
use Rattle.pg_schema.specs.Shape.{FieldShape, field_at}
use Rattle.pg_schema.specs.ShapeRules.{Rising}
use Rattle.pg_dyn.specs.declared.message.Content.{Content}
use Rattle.pg_dyn.specs.reading.Content.{is_sibling, same_oneof}
use Rattle.pg_dyn.specs.fitting.ContentFits.{AreApart, NoneSiblings}
use Rattle.pg_dyn.specs.message.FieldList.{remove_field}
use Rattle.pg_dyn.specs.message.Replacing.{is_sibling_number}
use Rattle.pg_dyn.specs.message.Seen.{Rises}
use Rattle.pg_dyn.proofs.lemmas.fitting.PartsToFits.{own_sibling}
use Rattle.pg_dyn.proofs.lemmas.laws.Flat.{is_sibling_sym}
use Rattle.pg_dyn.proofs.lemmas.message.KeptParts.{at_index}
use Rattle.pg_dyn.proofs.Lists.{each_weaker}
use Rattle.pg_dyn.proofs.lemmas.setting.MembersOut.{removed_is}
use Rattle.pg_dyn.proofs.lemmas.reading.records.Splitting.{found_number}
use Rattle.pg_dyn.proofs.lemmas.setting.WithoutSiblings.{sibling_found, sibling_nowhere}

module _ (fs : List FieldShape) (rising : Rising fs) (f : FieldShape) (n : ℕ) (found : field_at fs n ≡ Some f) where
  after : (m : ℕ) → AreApart fs n m → is_sibling_number fs f m ≡ false
  after m apart = of (field_at fs m) refl
    where
      of : (x : Option FieldShape) → field_at fs m ≡ x → is_sibling_number fs f m ≡ false
      of (Some g) there = sibling_found fs f g m rising there ∙ apart f g found there
      of None there = sibling_nowhere fs f m there

  turned : (g : FieldShape) (b : Bool) → is_sibling f g ≡ b → is_sibling g f ≡ false → is_sibling f g ≡ false
  turned g true e apart = absurd (true≢false (sym (is_sibling_sym f g e) ∙ apart))
  turned g false e apart = e

  before : (m : ℕ) → AreApart fs m n → is_sibling_number fs f m ≡ false
  before m apart = of (field_at fs m) refl
    where
      of : (x : Option FieldShape) → field_at fs m ≡ x → is_sibling_number fs f m ≡ false
      of (Some g) there = sibling_found fs f g m rising there ∙ turned g (is_sibling f g) refl (apart g f there found)
      of None there = sibling_nowhere fs f m there

  own : is_sibling_number fs f n ≡ false
  own = sibling_found fs f f n rising found ∙ own_sibling f

  abbrev Stays : ℕ × Content → Type 0
  Stays c = not (is_sibling_number fs f c.0) ≡ true

  pub held_alone : (cs : List (ℕ × Content)) (i : ℕ) (d : ℕ × Content) → i < length cs → (get_or cs i d).0 ≡ n → NoneSiblings fs cs → AllByRecursion Stays cs
  held_alone [] i d inside here none = absurd (omega arith)
  held_alone (c ∷ cs) zero d inside here none = search (rules, own, each_weaker, after)
  held_alone (c ∷ cs) (suc i) d inside here none =
      search (rules, arith, before, at_index, held_alone cs i d)

-- The one that is lost.

same_third : (a b c : Option ℕ) → same_oneof a b ≡ true → same_oneof a c ≡ true → same_oneof b c ≡ true
same_third a b c h k = grind (arith, eq-eqb, eqb-true)

-- of two members of a oneof, each is a sibling of the third, but for itself
third : (f g h : FieldShape) → is_sibling f g ≡ true → is_sibling g h ≡ false → g.number ≢ h.number → is_sibling f h ≡ false
third f g h one none apart = search (rules, and_parts, and_from, same_third, ne_eqb, true≢false)

filter_on : (p q : ℕ × Content → Bool) (xs : List (ℕ × Content)) → AllByRecursion (λ (x : ℕ × Content). p x ≡ q x) xs → filter p xs ≡ filter q xs
filter_on p q [] e = refl
filter_on p q (x ∷ xs) e = ap (λ b. cond b (x ∷ filter p xs) (filter p xs)) e.0 ∙ ap (λ ys. cond (q x) (x ∷ ys) ys) (filter_on p q xs e.1)

module _ (fs : List FieldShape) (rising : Rising fs) (f : FieldShape) (found : field_at fs f.number ≡ Some f) (n : ℕ) (sibling : is_sibling_number fs f n ≡ true)
    (ms : List (ℕ × Content)) (rises : Rises ms) (i : ℕ) (d : ℕ × Content) (inside : i < length ms) (here : (get_or ms i d).0 ≡ n) (apart : NoneSiblings fs ms) where
  the_sibling : (g : FieldShape) × (field_at fs n ≡ Some g) × (is_sibling f g ≡ true)
  the_sibling = search (rules, sibling_found, true≢false, sibling_nowhere)

  module _ (g : FieldShape) (there : field_at fs n ≡ Some g) (one : is_sibling f g ≡ true) where
    off : (m : ℕ) → n ≢ m → is_sibling_number fs g m ≡ false → is_sibling_number fs f m ≡ false
    off m other none = of (field_at fs m) refl
      where
        of : (x : Option FieldShape) → field_at fs m ≡ x → is_sibling_number fs f m ≡ false
        of (Some h) at =
            sibling_found fs f h m rising at
            ∙ third f g h one (sym (sibling_found fs g h m rising at) ∙ none) (λ e. other (sym (found_number fs n g there) ∙ e ∙ found_number fs m h at))
        of None at = sibling_nowhere fs f m at

    same_test : (x : ℕ × Content) → not (is_sibling_number fs g x.0) ≡ true → not (is_sibling_number fs f x.0) ≡ not (nat_eq n x.0)
    same_test x stays = search (rules, eq-eqb, off, not-true, ne_eqb, cases_eq)

    one_out : filter (λ (x : ℕ × Content). not (is_sibling_number fs f x.0)) ms ≡ remove_field n ms
    one_out =
        filter_on (λ (x : ℕ × Content). not (is_sibling_number fs f x.0)) (λ (x : ℕ × Content). not (nat_eq n x.0)) ms
        (each_weaker (λ (x : ℕ × Content). not (is_sibling_number fs g x.0) ≡ true) (λ (x : ℕ × Content). not (is_sibling_number fs f x.0) ≡ not (nat_eq n x.0)) same_test ms (held_alone fs rising g n there ms i d inside here apart))
        ∙ sym (removed_is n ms rises)

  -- the contents without the other members are those without that one
  pub alone_out : filter (λ (x : ℕ × Content). not (is_sibling_number fs f x.0)) ms ≡ remove_field n ms
  alone_out = let (g, there, one) = the_sibling in one_out g there one
