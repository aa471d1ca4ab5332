-- What holds of each choice that two fields of one number may have, and of two fields that meet, holds of all choices.
use Rattle.std.proofs.Common.{◌≡◌, ◌+◌, List, [], ◌∷◌, ◌++◌, true, false, ◌&&◌, if◌then◌else◌, Option, Some, None, option_map, refl, rules}
use Rattle.std.specs.List.{AllByRecursion}
use Rattle.pg_schema.specs.declared.parts.field.Scalar.{Scalar}
use Rattle.pg_schema.specs.declared.parts.field.Element.TheVariants as elements
use Rattle.pg_schema.specs.Shape.{FieldShape}
use Rattle.pg_dyn.proofs.Lists.{each-append}
use Rattle.pg_pairs.specs.declared.choices.case.Case.TheVariants as cases
use Rattle.pg_pairs.specs.declared.choices.choice.Choice.{Choice}
use Rattle.pg_pairs.specs.views.EnumView.{EnumView}
use Rattle.pg_pairs.specs.gaps.Likeness.{like}
use Rattle.pg_pairs.specs.choices.Costs.{least_body, entry_cost, one_item, least_content}
use Rattle.pg_pairs.specs.choices.Choices.{Table, all_choices, child_body, choice, choice_of, choices_beside, choices_by, field_choices, gap_body, joined_choices, map_key, singular_cost, unlike_cost, zero_counts}

-- The parts of a field's choices.

abbrev pub gap_choice : EnumView → FieldShape → FieldShape → List Choice
gap_choice enum_view f g = choice_of f.number cases.Gap 0
    (option_map (one_item f) (gap_body enum_view (zero_counts f g) f.element g.element))

abbrev pub child_choice : Table → FieldShape → FieldShape → List Choice
child_choice table f g = choice_of f.number cases.Child 0 (option_map (one_item f) (child_body table f.element g.element))

abbrev pub list_choice : FieldShape → FieldShape → List Choice
list_choice f g = choice_of f.number cases.List 0 (singular_cost f g)

abbrev pub like_choices : EnumView → Table → FieldShape → FieldShape → List Choice
like_choices enum_view table f g = gap_choice enum_view f g ++ child_choice table f g ++ list_choice f g

abbrev pub key_choice : EnumView → FieldShape → Scalar → Scalar → List Choice
key_choice enum_view f k l = choice_of f.number cases.Map 1
    (option_map (λ body. entry_cost f.number body (least_body f.element)) (gap_body enum_view true (elements.Scalar k) (elements.Scalar l)))

abbrev pub value_choice : EnumView → FieldShape → FieldShape → List Choice
value_choice enum_view f g = choice_of f.number cases.Map 2 (option_map (one_item f) (gap_body enum_view true f.element g.element))

abbrev pub map_child_choice : Table → FieldShape → FieldShape → List Choice
map_child_choice table f g = choice_of f.number cases.Map 2 (option_map (one_item f) (child_body table f.element g.element))

abbrev pub like_map_choices : EnumView → Table → FieldShape → FieldShape → Scalar → Scalar → List Choice
like_map_choices enum_view table f g k l = key_choice enum_view f k l ++ value_choice enum_view f g ++ map_child_choice table f g

module _ (P : Choice → Type 0) (enum_view : EnumView) (table : Table) where
  -- It holds of each that two fields may have: of unlike ones, of two that are no maps, and of two maps.
  pub record HoldsOfEach (f g : FieldShape) : Type 0 where
    pub unlike : P (choice f.number cases.Unlike 0 (unlike_cost f g))
    pub gap : map_key f.presence ≡ None → AllByRecursion P (gap_choice enum_view f g)
    pub child : map_key f.presence ≡ None → AllByRecursion P (child_choice table f g)
    pub list : map_key f.presence ≡ None → AllByRecursion P (list_choice f g)
    pub apart : (k : Scalar) → map_key f.presence ≡ Some k → P (choice f.number cases.Map 0 (least_content f))
    pub key : (k l : Scalar) → map_key f.presence ≡ Some k → AllByRecursion P (key_choice enum_view f k l)
    pub value : (k : Scalar) → map_key f.presence ≡ Some k → AllByRecursion P (value_choice enum_view f g)
    pub value_child : (k : Scalar) → map_key f.presence ≡ Some k → AllByRecursion P (map_child_choice table f g)

  pub each_own : (f g : FieldShape) → HoldsOfEach f g → AllByRecursion P (field_choices enum_view table f g)
  each_own f g holds = of (map_key f.presence) (map_key g.presence) refl
    where
      of : (k l : Option Scalar) → map_key f.presence ≡ k → AllByRecursion P (choices_by enum_view table f g k l)
      of (Some k) (Some l) is =
          elim (like (elements.Scalar k) (elements.Scalar l) && like f.element g.element) as (λ b. AllByRecursion P (if b then like_map_choices enum_view table f g k l else choice f.number cases.Map 0 (least_content f) ∷ [])) [
            | true ↦
                each-append P (key_choice enum_view f k l ++ value_choice enum_view f g) (map_child_choice table f g)
                (each-append P (key_choice enum_view f k l) (value_choice enum_view f g) (holds.key k l is) (holds.value k is)) (holds.value_child k is)
            | false ↦ (holds.apart k is, tt)
          ]
      of None None is = search (rules, each-append)
      of (Some k) None is = (holds.unlike, tt)
      of None (Some l) is = (holds.unlike, tt)

  module _ (own : (f g : FieldShape) → HoldsOfEach f g) (two : (a b : FieldShape) → P (choice a.number cases.Oneof b.number (least_content a + least_content b))) where
    each_beside : (f : FieldShape) (o : Option FieldShape) → AllByRecursion P (choices_beside enum_view table f o)
    each_beside f None = tt
    each_beside f (Some g) = each_own f g (own f g)

    each_joined : (gs : List FieldShape) (a : FieldShape) (later : List FieldShape) → AllByRecursion P (joined_choices gs a later)
    each_joined gs a [] = tt
    each_joined gs a (b ∷ later) = search (rules, each_joined gs a later, each-append)

    pub each_choice : (gs fs : List FieldShape) → AllByRecursion P (all_choices enum_view table gs fs)
    each_choice gs [] = tt
    each_choice gs (f ∷ later) =
        search (rules, each_choice gs later, each-append, each_beside, each_joined)
