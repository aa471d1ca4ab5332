-- What holds of all choices, or of all children, holds of those of one field.
use Rattle.std.proofs.Common.{◌≡◌, ℕ, ◌+◌, ◌<◌, List, [], ◌∷◌, ◌++◌, true, false, not, nat_eq, cond, if◌then◌else◌, Some, refl, ap, ◌∙◌, subst, arith, eqb-true, rules}
use Rattle.std.specs.List.{AllByRecursion}
use Rattle.std.proofs.lemmas.Bool.{not-false}
use Rattle.pg_schema.specs.Shape.{FieldShape, field_at}
use Rattle.pg_schema.specs.ShapeRules.{Rising}
use Rattle.pg_pairs.specs.declared.choices.case.Case.TheVariants as cases
use Rattle.pg_pairs.specs.declared.choices.choice.Choice.{Choice}
use Rattle.pg_pairs.specs.declared.choices.choice.Pair.{Pair}
use Rattle.pg_pairs.specs.views.EnumView.{EnumView}
use Rattle.pg_pairs.specs.choices.Costs.{least_content}
use Rattle.pg_pairs.specs.choices.Choices.{Table, choice, field_choices, joins, joined_choices, choices_beside, all_choices}
use Rattle.pg_pairs.specs.bounds.Covering.{field_children, children_beside, all_children, same_pair, distinct}
use Rattle.pg_pairs.specs.laws.EdgeChildren.{same_pair-true}
use Rattle.pg_dyn.proofs.PublicLaws.{fields_are_found}
use Rattle.pg_dyn.proofs.Lists.{each_at, each_before, each_after, each_unfiltered}

module _ (P : Choice → Type 0) (enum_view : EnumView) (table : Table) (gs : List FieldShape) where
  pub field_allowed : (fs : List FieldShape) (n : ℕ) (f g : FieldShape) → field_at fs n ≡ Some f → field_at gs n ≡ Some g → AllByRecursion P (all_choices enum_view table gs fs) → AllByRecursion P (field_choices enum_view table f g)
  field_allowed [] n f g found there h = absurd (cc)
  field_allowed (x ∷ fs) n f g found there h =
      elim (nat_eq x.number n) as (λ b. nat_eq x.number n ≡ b → cond b (Some x) (field_at fs n) ≡ Some f → AllByRecursion P (field_choices enum_view table f g)) [
        | true ↦ λ e k.
            let same : x ≡ f = cc in
            let at : field_at gs x.number ≡ Some g = ap (field_at gs) (eqb-true x.number n e) ∙ there in
            let own : AllByRecursion P (choices_beside enum_view table x (Some g)) =
            subst (λ o. AllByRecursion P (choices_beside enum_view table x o)) at
            (each_before P (choices_beside enum_view table x (field_at gs x.number)) (joined_choices gs x fs) (each_before P (choices_beside enum_view table x (field_at gs x.number) ++ joined_choices gs x fs) (all_choices enum_view table gs fs) h)) in
            subst (λ y. AllByRecursion P (field_choices enum_view table y g)) same own
        | false ↦ λ e k.
            field_allowed fs n f g k there (each_after P (choices_beside enum_view table x (field_at gs x.number) ++ joined_choices gs x fs) (all_choices enum_view table gs fs) h)
      ] refl found

  joined_in : (a b : FieldShape) (later : List FieldShape) (n : ℕ) → field_at later n ≡ Some b → joins gs a b ≡ true → AllByRecursion P (joined_choices gs a later) → P (choice a.number cases.Oneof b.number (least_content a + least_content b))
  joined_in a b [] n found joined h = absurd (cc)
  joined_in a b (x ∷ later) n found joined h =
      elim (nat_eq x.number n) as (λ c. nat_eq x.number n ≡ c → cond c (Some x) (field_at later n) ≡ Some b → P (choice a.number cases.Oneof b.number (least_content a + least_content b))) [
        | true ↦ λ e k.
            let same : x ≡ b = cc in
            let here = each_before P (if joins gs a x then choice a.number cases.Oneof x.number (least_content a + least_content x) ∷ [] else []) (joined_choices gs a later) h in
            let at_b : AllByRecursion P (if joins gs a b then choice a.number cases.Oneof b.number (least_content a + least_content b) ∷ [] else []) =
            subst (λ y. AllByRecursion P (if joins gs a y then choice a.number cases.Oneof y.number (least_content a + least_content y) ∷ [] else [])) same here in
            (rw joined at at_b).0
        | false ↦ λ e k.
            joined_in a b later n k joined (each_after P (if joins gs a x then choice a.number cases.Oneof x.number (least_content a + least_content x) ∷ [] else []) (joined_choices gs a later) h)
      ] refl found

  pub joined_allowed : (fs : List FieldShape) → Rising fs → (m n : ℕ) (a b : FieldShape) → field_at fs m ≡ Some a → field_at fs n ≡ Some b → m < n → joins gs a b ≡ true → AllByRecursion P (all_choices enum_view table gs fs) → P (choice a.number cases.Oneof b.number (least_content a + least_content b))
  joined_allowed [] rising m n a b found_a found_b below joined h = absurd (cc)
  joined_allowed (x ∷ fs) rising m n a b found_a found_b below joined h =
      elim (nat_eq x.number m) as (λ c. nat_eq x.number m ≡ c → cond c (Some x) (field_at fs m) ≡ Some a → P (choice a.number cases.Oneof b.number (least_content a + least_content b))) [
        | true ↦ λ e k.
            let same : x ≡ a = cc in
            let at = eqb-true x.number m e in
            let later = later_than n (λ at_n. absurd (omega arith)) found_b in
            let own = each_after P (choices_beside enum_view table x (field_at gs x.number)) (joined_choices gs x fs) (each_before P (choices_beside enum_view table x (field_at gs x.number) ++ joined_choices gs x fs) (all_choices enum_view table gs fs) h) in
            joined_in a b fs n later joined (subst (λ y. AllByRecursion P (joined_choices gs y fs)) same own)
        | false ↦ λ e k.
            let later = later_than n (λ at_n.
            let above : x.number < a.number = each_at (λ g. x.number < g.number) fs m a k rising.0 in
            let number = fields_are_found.1 fs m a k in
            absurd (omega arith)) found_b in
            joined_allowed fs rising.1 m n a b k later below joined (each_after P (choices_beside enum_view table x (field_at gs x.number) ++ joined_choices gs x fs) (all_choices enum_view table gs fs) h)
      ] refl found_a
    where
      later_than : (k : ℕ) → (x.number ≡ k → ⊥) → field_at (x ∷ fs) k ≡ Some b → field_at fs k ≡ Some b
      later_than k apart found = search (rules, eqb-true)

-- children, each once in the list

each_distinct : (P : Pair → Type 0) (ps : List Pair) → AllByRecursion P (distinct ps) → AllByRecursion P ps
each_distinct P [] h = tt
each_distinct P (p ∷ ps) h =
    (h.0, each_distinct P ps (each_unfiltered P (λ q. not (same_pair p q)) (λ q same. subst P (same_pair-true p q (not-false (same_pair p q) same)) h.0) (distinct ps) h.1))

module _ (P : Pair → Type 0) (gs : List FieldShape) where
  children_in : (fs : List FieldShape) (n : ℕ) (f g : FieldShape) → field_at fs n ≡ Some f → field_at gs n ≡ Some g → AllByRecursion P (all_children gs fs) → AllByRecursion P (field_children f g)
  children_in [] n f g found there h = absurd (cc)
  children_in (x ∷ fs) n f g found there h =
      elim (nat_eq x.number n) as (λ b. nat_eq x.number n ≡ b → cond b (Some x) (field_at fs n) ≡ Some f → AllByRecursion P (field_children f g)) [
        | true ↦ λ e k.
            let same : x ≡ f = cc in
            let at : field_at gs x.number ≡ Some g = ap (field_at gs) (eqb-true x.number n e) ∙ there in
            subst (λ y. AllByRecursion P (field_children y g)) same
            (subst (λ o. AllByRecursion P (children_beside x o)) at (each_before P (children_beside x (field_at gs x.number)) (all_children gs fs) h))
        | false ↦ λ e k. children_in fs n f g k there (each_after P (children_beside x (field_at gs x.number)) (all_children gs fs) h)
      ] refl found

  pub children_allowed : (fs : List FieldShape) (n : ℕ) (f g : FieldShape) → field_at fs n ≡ Some f → field_at gs n ≡ Some g → AllByRecursion P (distinct (all_children gs fs)) → AllByRecursion P (field_children f g)
  children_allowed fs n f g found there h = children_in fs n f g found there (each_distinct P (all_children gs fs) h)
