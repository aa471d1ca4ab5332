-- Parts in order are the parts of each field, one field after the other.
use Rattle.std.proofs.Common.{◌≡◌, ◌≢◌, ℕ, ◌<◌, ◌≤◌, ◌⊎◌, ⊎_elim, List, [], ◌∷◌, ◌++◌, map, filter, true, Option, Some, refl, ap, sym, subst, arith, eq-eqb, ne_eqb, rules}
use Rattle.std.specs.Bool.{⊤}
use Rattle.std.specs.List.{AllByRecursion}
use Rattle.std.proofs.lemmas.Bool.{eqb-true, cases_eq}
use Rattle.pg_schema.specs.declared.parts.field.TypeId.{TypeId}
use Rattle.pg_schema.specs.Shape.{Shape, FieldShape, fields, field_at}
use Rattle.pg_schema.specs.ShapeRules.{Rising}
use Rattle.pg_dyn.specs.reading.Optional.{joined}
use Rattle.pg_dyn.specs.message.Message.{Leaf, Message, ends, holds, nests, Part, Place, place_of, places, parts, is_of}
use Rattle.pg_dyn.specs.fitting.Belonging.{IsPart, IsMessage}
use Rattle.pg_dyn.proofs.Lists.{each_weaker}
use Rattle.pg_dyn.proofs.lemmas.reading.records.Splitting.{found_number, found_later}

-- numbers of fields that never fall
pub record IsNext (fs : List FieldShape) (number : ℕ) (later : List Place) : Type 0 where
  pub field : FieldShape
  pub found : field_at fs number ≡ Some field
  pub not_above : AllByRecursion (λ (q : Place). number ≤ q.number) later

abbrev pub NeverFalls : List FieldShape → List Place → Type 0
NeverFalls fs [] = ⊤
NeverFalls fs (p ∷ ps) = IsNext fs p.number ps × NeverFalls fs ps

pub above_head : (f g : FieldShape) (fs : List FieldShape) (n : ℕ) → AllByRecursion (λ x. f.number < x.number) fs → field_at fs n ≡ Some g → f.number < n
above_head f g [] n above h = absurd (cc)
above_head f g (x ∷ fs) n above h = search (rules, arith, eqb-true, above_head f g fs n above.1)

module _ {A : Type 0} where
  -- the parts of each field
  abbrev pub of_each : List FieldShape → List (Part A) → List (Part A)
  of_each fs ps = joined (map (λ (f : FieldShape). filter (is_of f.number) ps) fs)

  of_each-nil : (fs : List FieldShape) → of_each fs [] ≡ []
  of_each-nil [] = refl
  of_each-nil (f ∷ fs) = of_each-nil fs

  -- a part in front changes nothing for fields of other numbers
  of_each_apart : (fs : List FieldShape) (p : Part A) (ps : List (Part A)) → AllByRecursion (λ g. p.number < g.number) fs → of_each fs (p ∷ ps) ≡ of_each fs ps
  of_each_apart [] p ps h = refl
  of_each_apart (g ∷ fs) p ps h = search (rules, arith, ne_eqb, of_each_apart fs p ps h.1)

  none_below : (n : ℕ) (p : Part A) (ps : List (Part A)) → n < p.number → AllByRecursion (λ (q : Place). p.number ≤ q.number) (map place_of ps) → filter (is_of n) ps ≡ []
  none_below n p [] below h = refl
  none_below n p (q ∷ ps) below h = search (rules, arith, ne_eqb, none_below n p ps below h.1)

  -- a part in front is first among the parts of its field
  of_each-cons : (fs : List FieldShape) (g : FieldShape) (p : Part A) (ps : List (Part A)) → Rising fs → field_at fs p.number ≡ Some g → AllByRecursion (λ (q : Place). p.number ≤ q.number) (map place_of ps) → of_each fs (p ∷ ps) ≡ p ∷ of_each fs ps
  of_each-cons [] g p ps rising found h = absurd (cc)
  of_each-cons (f ∷ fs) g p ps rising found h =
      ⊎_elim (λ at.
      rw (eq-eqb p.number f.number (sym at))
      (ap (λ qs. p ∷ (filter (is_of f.number) ps ++ qs)) (of_each_apart fs p ps (subst (λ n. AllByRecursion (λ x. n < x.number) fs) at rising.0))))
      (λ apart.
      let later : field_at fs p.number ≡ Some g = found_later f g fs p.number apart found in
      let other : p.number ≢ f.number = λ e. apart (sym e) in
      let none : filter (is_of f.number) ps ≡ [] = none_below f.number p ps (above_head f g fs p.number rising.0 later) h in
      rw (ne_eqb p.number f.number other, none) (of_each-cons fs g p ps rising.1 later h))
      (cases_eq f.number p.number)

  pub of_each_is : (fs : List FieldShape) (ps : List (Part A)) → Rising fs → NeverFalls fs (map place_of ps) → of_each fs ps ≡ ps
  of_each_is fs [] rising h = of_each-nil fs
  of_each_is fs (p ∷ ps) rising h = search (rules, of_each-cons, of_each_is fs ps rising h.1)

module _ (shape : Shape) (type : TypeId) where
  is_next : (number : ℕ) (key : Option Leaf) (later : List Place) → IsPart (fields shape type) number key later → IsNext (fields shape type) number later
  is_next number key later part = search (rules, arith, found_number, each_weaker)

  pub never_falls : (m : Message) → IsMessage shape type m → NeverFalls (fields shape type) (places m)
  never_falls (ends unknown) h = tt
  never_falls (holds number key leaf later) h = (is_next number key (places later) h.0, never_falls later h.2)
  never_falls (nests number key child later) h = (is_next number key (places later) h.0, never_falls later h.4)

pub places-parts : (m : Message) → map place_of (parts m) ≡ places m
places-parts (ends unknown) = refl
places-parts (holds number key leaf later) = ap (λ ps. record { number = number; key = key } ∷ ps) (places-parts later)
places-parts (nests number key child later) = ap (λ ps. record { number = number; key = key } ∷ ps) (places-parts later)
