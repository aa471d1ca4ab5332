-- Each cause of a pair is told once.
use Rattle.std.proofs.Common.{◌≡◌, ℕ, ◌<◌, List, [], ◌∷◌, ◌++◌, map, filter, flat_map, Bool, true, false, if◌then◌else◌, ◌&&◌, nat_eq, nat_le, Option, Some, None, option_map, inl, inr, ⊎_elim, refl, ap, sym, ◌∙◌, subst, arith, append-nil, eqb-true}
use Rattle.std.specs.Bool.{⊤}
use Rattle.std.specs.List.{AllByRecursion}
use Rattle.pg_schema.specs.declared.parts.field.Scalar.{Scalar}
use Rattle.pg_schema.specs.declared.parts.field.Element.{Element}
use Rattle.pg_schema.specs.declared.parts.field.Element.TheVariants as elements
use Rattle.pg_schema.specs.Shape.{Shape, FieldShape, field_at, fields}
use Rattle.pg_schema.specs.ShapeRules.{IsShape, Rising}
use Rattle.pg_dyn.specs.encoding.Encoding.{cap}
use Rattle.pg_dyn.proofs.Lists.{each-append, each-filter, each-map, each_of_all, each_weaker}
use Rattle.pg_dyn.proofs.PublicLaws.{fields_are_found}
use Rattle.pg_pairs.specs.declared.choices.case.Case.{Case}
use Rattle.pg_pairs.specs.declared.choices.case.Case.TheVariants as cases
use Rattle.pg_pairs.specs.declared.choices.choice.Choice.{Choice}
use Rattle.pg_pairs.specs.declared.choices.choice.Pair.{Pair}
use Rattle.pg_pairs.specs.views.EnumView.{EnumView}
use Rattle.pg_pairs.specs.choices.Choices.{affordable, cheapest, child_body, choice, choice_of, choices_beside, choices_by, field_choices, gap_body, map_key, no_bounds, singular_cost, unlike_cost, zero_counts}
use Rattle.pg_pairs.specs.choices.Costs.{entry_cost, least_body, least_content, one_item}
use Rattle.pg_pairs.specs.choices.NewOneof.{new_oneof}
use Rattle.pg_pairs.specs.choices.Told.{Told, coming, is_first, meetings, told_alone, told_at, told_by, told_causes, told_oneof, told_own, told_together}
use Rattle.pg_pairs.specs.gaps.Likeness.{like}
use Rattle.pg_pairs.specs.laws.WaysTold.{AreApart, CausesAreApart, IsAnother, Pairwise}
use Rattle.pg_pairs.proofs.lemmas.bounds.BreaksTold.{own_number}
use Rattle.pg_pairs.proofs.lemmas.choices.Offers.{child_choice, gap_choice, key_choice, like_choices, like_map_choices, list_choice, map_child_choice, value_choice}

-- Lists.

pub pairwise-append : {A : Type 0} (R : A → A → Type 0) (xs ys : List A) → Pairwise R xs → Pairwise R ys → AllByRecursion (λ x. AllByRecursion (R x) ys) xs → Pairwise R (xs ++ ys)
pairwise-append R [] ys first second across = second
pairwise-append R (x ∷ xs) ys first second across = (each-append (R x) xs ys first.0 across.0, pairwise-append R xs ys first.1 second across.1)

pub pairwise-map : {A B : Type 0} (R : B → B → Type 0) (h : A → B) (xs : List A) → Pairwise (λ x y. R (h x) (h y)) xs → Pairwise R (map h xs)
pairwise-map R h [] each = tt
pairwise-map R h (x ∷ xs) each = (each-map (R (h x)) h xs each.0, pairwise-map R h xs each.1)

pub pairwise-weaker : {A : Type 0} (R S : A → A → Type 0) → ((x y : A) → R x y → S x y) → (xs : List A) → Pairwise R xs → Pairwise S xs
pairwise-weaker R S weaker [] each = tt
pairwise-weaker R S weaker (x ∷ xs) each = (each_weaker (R x) (S x) (weaker x) xs each.0, pairwise-weaker R S weaker xs each.1)

pub pairwise-filter : {A : Type 0} (R : A → A → Type 0) (test : A → Bool) (xs : List A) → Pairwise R xs → Pairwise R (filter test xs)
pairwise-filter R test [] each = tt
pairwise-filter R test (x ∷ xs) each =
    elim (test x) as (λ b. Pairwise R (if b then x ∷ filter test xs else filter test xs)) [
      | true ↦ (each_weaker (λ y. R x y × (test y ≡ true)) (R x) (λ y h. h.0) (filter test xs) (each-filter (R x) test xs each.0), pairwise-filter R test xs each.1)
      | false ↦ pairwise-filter R test xs each.1
    ]

-- The causes of one field.

two_offers : (number : ℕ) (a b : Case) (p q : ℕ) (m n : Option ℕ) → ((x y : ℕ) → IsAnother (choice number a p x) (choice number b q y)) → Pairwise IsAnother (choice_of number a p m ++ choice_of number b q n)
two_offers number a b p q None None another = tt
two_offers number a b p q None (Some y) another = (tt, tt)
two_offers number a b p q (Some x) None another = (tt, tt)
two_offers number a b p q (Some x) (Some y) another = ((another x y, tt), (tt, tt))

no_child : (number : ℕ) (case : Case) (part : ℕ) (price : ℕ → ℕ) (e d : Element) → choice_of number case part (option_map price (child_body no_bounds e d)) ≡ []
no_child number case part price (elements.Message s) (elements.Message t) = refl
no_child number case part price (elements.Message s) (elements.Scalar t) = refl
no_child number case part price (elements.Message s) (elements.Enum t) = refl
no_child number case part price (elements.Scalar s) d = refl
no_child number case part price (elements.Enum s) d = refl

module _ (enum_view : EnumView) where
  like_apart : (f g : FieldShape) → Pairwise IsAnother (like_choices enum_view no_bounds f g)
  like_apart f g =
      let none : child_choice no_bounds f g ≡ [] = no_child f.number cases.Child 0 (one_item f) f.element g.element in
      let are : like_choices enum_view no_bounds f g ≡ gap_choice enum_view f g ++ list_choice f g =
      ap (λ xs. (gap_choice enum_view f g ++ xs) ++ list_choice f g) none ∙ ap (λ xs. xs ++ list_choice f g) (append-nil (gap_choice enum_view f g)) in
      subst (Pairwise IsAnother) (sym are)
      (two_offers f.number cases.Gap cases.List 0 0 (option_map (one_item f) (gap_body enum_view (zero_counts f g) f.element g.element)) (singular_cost f g) (λ x y. inl (refl, refl)))

  map_apart : (f g : FieldShape) (k l : Scalar) → Pairwise IsAnother (like_map_choices enum_view no_bounds f g k l)
  map_apart f g k l =
      let none : map_child_choice no_bounds f g ≡ [] = no_child f.number cases.Map 2 (one_item f) f.element g.element in
      let are : like_map_choices enum_view no_bounds f g k l ≡ key_choice enum_view f k l ++ value_choice enum_view f g =
      ap (λ xs. (key_choice enum_view f k l ++ value_choice enum_view f g) ++ xs) none ∙ append-nil (key_choice enum_view f k l ++ value_choice enum_view f g) in
      subst (Pairwise IsAnother) (sym are)
      (two_offers f.number cases.Map cases.Map 1 2 (option_map (λ body. entry_cost f.number body (least_body f.element)) (gap_body enum_view true (elements.Scalar k) (elements.Scalar l)))
      (option_map (one_item f) (gap_body enum_view true f.element g.element)) (λ x y. inr (refl, refl, refl, refl)))

  field_apart : (f g : FieldShape) → Pairwise IsAnother (field_choices enum_view no_bounds f g)
  field_apart f g = of (map_key f.presence) (map_key g.presence)
    where
      of : (k l : Option Scalar) → Pairwise IsAnother (choices_by enum_view no_bounds f g k l)
      of (Some k) (Some l) =
          elim (like (elements.Scalar k) (elements.Scalar l) && like f.element g.element) as (λ b. Pairwise IsAnother (if b then like_map_choices enum_view no_bounds f g k l else choice f.number cases.Map 0 (least_content f) ∷ [])) [
            | true ↦ map_apart f g k l
            | false ↦ (tt, tt)
          ]
      of None None =
          elim (like f.element g.element) as (λ b. Pairwise IsAnother (if b then like_choices enum_view no_bounds f g else choice f.number cases.Unlike 0 (unlike_cost f g) ∷ [])) [
            | true ↦ like_apart f g
            | false ↦ (tt, tt)
          ]
      of (Some k) None = (tt, tt)
      of None (Some l) = (tt, tt)

  beside_apart : (f : FieldShape) (o : Option FieldShape) → Pairwise IsAnother (choices_beside enum_view no_bounds f o)
  beside_apart f None = tt
  beside_apart f (Some g) = field_apart f g

  beside_number : (f : FieldShape) (o : Option FieldShape) → AllByRecursion (λ (c : Choice). c.number ≡ f.number) (choices_beside enum_view no_bounds f o)
  beside_number f None = tt
  beside_number f (Some g) = own_number enum_view f g

-- the numbers begin with that one
abbrev Begins : ℕ → Told → Type 0
Begins n t = (rest : List ℕ) × (t.numbers ≡ n ∷ rest)

-- they are two at least
abbrev AreTwo : Told → Type 0
AreTwo t = (m : ℕ) × (n : ℕ) × (rest : List ℕ) × (t.numbers ≡ m ∷ n ∷ rest)

abbrev BeginsWithTwo : ℕ → Told → Type 0
BeginsWithTwo n t = Begins n t × AreTwo t

abbrev head_of : List ℕ → Option ℕ
head_of [] = None
head_of (n ∷ ns) = Some n

abbrev has_more : List ℕ → Bool
has_more [] = false
has_more (n ∷ []) = false
has_more (m ∷ n ∷ ns) = true

begin_apart : (m n : ℕ) (t u : Told) → m < n → Begins m t → Begins n u → AreApart t u
begin_apart m n t u below (xs, is_t) (ys, is_u) =
    inl (λ same. let heads : ◌≡◌ {A = Option ℕ} (Some m) (Some n) = ap head_of (sym is_t ∙ same ∙ is_u) in let equal : m ≡ n = cc in omega (arith, below, equal))

module _ (gs : List FieldShape) where
  together_is : (f : FieldShape) (ds : List FieldShape) (o : Option Choice) → (b : Bool) → is_first f.number ds ≡ b → cheapest (affordable (meetings gs ds)) ≡ o → AllByRecursion (BeginsWithTwo f.number) (if b then told_by ds o else [])
  together_is f [] o true is least = absurd (cc)
  together_is f [] o false is least = tt
  together_is f (x ∷ []) o false is least = tt
  together_is f (x ∷ []) (Some c) true is least = absurd (let no : ◌≡◌ {A = Option Choice} None (Some c) = least in cc)
  together_is f (x ∷ []) None true is least = tt
  together_is f (x ∷ y ∷ ds) None true is least = tt
  together_is f (x ∷ y ∷ ds) (Some c) true is least = (
    (
      (map (λ (e : FieldShape). e.number) (y ∷ ds), ap (λ n. n ∷ map (λ (e : FieldShape). e.number) (y ∷ ds)) (eqb-true x.number f.number is)),
      (x.number, y.number, map (λ (e : FieldShape). e.number) ds, refl),
    ),
    tt,
  )
  together_is f (x ∷ y ∷ ds) o false is least = tt

  oneof_is : (fs : List FieldShape) (f : FieldShape) → AllByRecursion (BeginsWithTwo f.number) (told_oneof gs fs f)
  oneof_is fs f = together_is f (coming gs (new_oneof gs f) fs) (cheapest (affordable (meetings gs (coming gs (new_oneof gs f) fs)))) (is_first f.number (coming gs (new_oneof gs f) fs)) refl refl

  module _ (enum_view : EnumView) where
    own_begins : (f : FieldShape) → AllByRecursion (Begins f.number) (told_own enum_view gs f)
    own_begins f =
        each-map (Begins f.number) told_alone (affordable (choices_beside enum_view no_bounds f (field_at gs f.number)))
        (each_weaker (λ (c : Choice). (c.number ≡ f.number) × (nat_le c.cost cap ≡ true)) (λ (c : Choice). Begins f.number (told_alone c)) (λ c h. ([], ap (λ n. n ∷ []) h.0))
        (affordable (choices_beside enum_view no_bounds f (field_at gs f.number)))
        (each-filter (λ (c : Choice). c.number ≡ f.number) (λ (c : Choice). nat_le c.cost cap) (choices_beside enum_view no_bounds f (field_at gs f.number)) (beside_number enum_view f (field_at gs f.number))))

    own_apart : (f : FieldShape) → Pairwise AreApart (told_own enum_view gs f)
    own_apart f =
        pairwise-map AreApart told_alone (affordable (choices_beside enum_view no_bounds f (field_at gs f.number)))
        (pairwise-weaker IsAnother (λ c d. AreApart (told_alone c) (told_alone d)) (λ c d another. inr another) (affordable (choices_beside enum_view no_bounds f (field_at gs f.number)))
        (pairwise-filter IsAnother (λ (c : Choice). nat_le c.cost cap) (choices_beside enum_view no_bounds f (field_at gs f.number)) (beside_apart enum_view f (field_at gs f.number))))

    at_begins : (fs : List FieldShape) (f : FieldShape) → AllByRecursion (Begins f.number) (told_at enum_view gs fs f)
    at_begins fs f = each-append (Begins f.number) (told_own enum_view gs f) (told_oneof gs fs f) (own_begins f) (each_weaker (BeginsWithTwo f.number) (Begins f.number) (λ t h. h.0) (told_oneof gs fs f) (oneof_is fs f))

    one_or_none : (f : FieldShape) (ds : List FieldShape) (o : Option Choice) (b : Bool) → Pairwise AreApart (if b then told_by ds o else [])
    one_or_none f ds None true = tt
    one_or_none f ds (Some c) true = (tt, tt)
    one_or_none f ds o false = tt

    alone_two : (c : Choice) (t : Told) → AreTwo t → AreApart (told_alone c) t
    alone_two c t (m, n, rest, is) = inl (λ same. let no : false ≡ true = ap has_more (same ∙ is) in absurd (cc))

    at_apart : (fs : List FieldShape) (f : FieldShape) → Pairwise AreApart (told_at enum_view gs fs f)
    at_apart fs f =
        pairwise-append AreApart (told_own enum_view gs f) (told_oneof gs fs f) (own_apart f) (one_or_none f (coming gs (new_oneof gs f) fs) (cheapest (affordable (meetings gs (coming gs (new_oneof gs f) fs)))) (is_first f.number (coming gs (new_oneof gs f) fs)))
        (each-map (λ t. AllByRecursion (AreApart t) (told_oneof gs fs f)) told_alone (affordable (choices_beside enum_view no_bounds f (field_at gs f.number)))
        (each_of_all (λ (c : Choice). AllByRecursion (AreApart (told_alone c)) (told_oneof gs fs f))
        (λ c. each_weaker (BeginsWithTwo f.number) (AreApart (told_alone c)) (λ t h. alone_two c t h.1) (told_oneof gs fs f) (oneof_is fs f)) (affordable (choices_beside enum_view no_bounds f (field_at gs f.number)))))

    -- what begins above a number
    abbrev BeginsAbove : ℕ → Told → Type 0
    BeginsAbove n t = (m : ℕ) × (n < m) × Begins m t

    later_begins : (fs later : List FieldShape) (n : ℕ) → AllByRecursion (λ (g : FieldShape). n < g.number) later → AllByRecursion (BeginsAbove n) (flat_map (told_at enum_view gs fs) later)
    later_begins fs [] n above = tt
    later_begins fs (g ∷ later) n above =
        each-append (BeginsAbove n) (told_at enum_view gs fs g) (flat_map (told_at enum_view gs fs) later)
        (each_weaker (Begins g.number) (BeginsAbove n) (λ t h. (g.number, above.0, h)) (told_at enum_view gs fs g) (at_begins fs g))
        (later_begins fs later n above.1)

    all_apart : (fs rest : List FieldShape) → Rising rest → Pairwise AreApart (flat_map (told_at enum_view gs fs) rest)
    all_apart fs [] rising = tt
    all_apart fs (f ∷ later) rising =
        pairwise-append AreApart (told_at enum_view gs fs f) (flat_map (told_at enum_view gs fs) later) (at_apart fs f) (all_apart fs later rising.1)
        (each_weaker (Begins f.number) (λ t. AllByRecursion (AreApart t) (flat_map (told_at enum_view gs fs) later))
        (λ t begins. each_weaker (BeginsAbove f.number) (AreApart t) (λ u h. begin_apart f.number h.0 t u h.1 begins h.2) (flat_map (told_at enum_view gs fs) later) (later_begins fs later f.number rising.0))
        (told_at enum_view gs fs f) (at_begins fs f))

pub causes_are_apart : CausesAreApart
causes_are_apart enum_view old new is_old pair = all_apart (fields new pair.new) enum_view (fields old pair.old) (fields old pair.old) (fields_are_found.0 old pair.old is_old).rising
