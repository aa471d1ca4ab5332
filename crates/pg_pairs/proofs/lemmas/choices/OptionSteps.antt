-- The choices of a pair's fields: numbers that fit, and a pair that isn't there.
use Rattle.std.proofs.Common.{◌≡◌, ℕ, zero, suc, ◌+◌, ◌<◌, ◌^◌, List, [], ◌∷◌, ◌++◌, map, length, drop, get_or, slice_index_or, nat_le, None, ap, sym, ◌∙◌, drop-cons, append_assoc, add-one, arith, rules}
use Rattle.std.specs.List.{AllByRecursion}
use Rattle.pg_schema.specs.declared.parts.field.Field.{Field}
use Rattle.pg_schema.specs.declared.parts.field.TypeId.{TypeId}
use Rattle.pg_schema.specs.declared.parts.Parts.{Parts}
use Rattle.pg_schema.specs.Parts.{field_shape, shape_of}
use Rattle.pg_schema.specs.Lookups.{type_at}
use Rattle.pg_schema.specs.Shape.{Shape, FieldShape, field_at, fields}
use Rattle.pg_schema.specs.ShapeRules.{IsShape}
use Rattle.pg_dyn.specs.encoding.Encoding.{cap}
use Rattle.pg_dyn.proofs.Lists.{each_weaker, filter-append'}
use Rattle.pg_pairs.specs.declared.choices.choice.Choice.{Choice}
use Rattle.pg_pairs.specs.declared.choices.choice.Pair.{Pair}
use Rattle.pg_pairs.specs.views.EnumView.{EnumView}
use Rattle.pg_pairs.specs.choices.Choices.{Table, all_choices, choices, choices_beside, affordable}
use Rattle.pg_pairs.specs.inner.OneofLinks.{joined_from}
use Rattle.pg_pairs.proofs.lemmas.graph.ChildSteps.{past}
use Rattle.pg_dyn.proofs.PublicLaws.{fields_are_found}

pub drop_at : {A : Type 0} (xs : List A) (n : ℕ) (x d : A) → n < length xs → x ≡ get_or xs n d → drop n xs ≡ x ∷ drop (suc n) xs
drop_at xs n x d inside is = drop-cons xs n d inside ∙ ap (λ y. y ∷ drop (suc n) xs) (sym is)

-- the item at an index is one
pub item_is : {A : Type 0} (xs : List A) (n : ℕ) (x y : A) → n < length xs → x ≡ slice_index_or xs n x → y ≡ slice_index_or xs n y → x ≡ y
item_is [] n x y h e k = absurd (omega arith)
item_is (z ∷ xs) zero x y h e k = e ∙ sym k
item_is (z ∷ xs) (suc n) x y h e k = item_is xs n x y (omega arith) e k

pub affordable-append : (xs ys : List Choice) → affordable (xs ++ ys) ≡ affordable xs ++ affordable ys
affordable-append xs ys = filter-append' (λ (c : Choice). nat_le c.cost cap) xs ys

-- after the choices of a field come those of the later ones
pub choices_after : (enum_view : EnumView) (table : Table) (gs : List FieldShape) (list : List Field) (at : ℕ) (f : Field) → at < length list → f ≡ slice_index_or list at f → (now beside after total : List Choice) →
    now ++ affordable (all_choices enum_view table gs (map field_shape (drop at list))) ≡ total → beside ≡ now ++ affordable (choices_beside enum_view table (field_shape f) (field_at gs f.number)) →
    after ≡ beside ++ affordable (joined_from gs (field_shape f) list (suc at)) → after ++ affordable (all_choices enum_view table gs (map field_shape (drop (at + 1) list))) ≡ total
choices_after enum_view table gs list at f inside is now beside after total so_far beside_is after_is =
    let own = choices_beside enum_view table (field_shape f) (field_at gs f.number) in
    let joined = joined_from gs (field_shape f) list (suc at) in
    let rest = all_choices enum_view table gs (map field_shape (drop (suc at) list)) in
    let row = ap (λ fs. affordable (all_choices enum_view table gs (map field_shape fs))) (drop_at list at f f inside is) in
    ap (λ n. after ++ affordable (all_choices enum_view table gs (map field_shape (drop n list)))) (add-one at)
    ∙ ap (λ cs. cs ++ affordable rest) (after_is ∙ ap (λ cs. cs ++ affordable joined) beside_is ∙ append_assoc now (affordable own) (affordable joined) ∙ ap (λ cs. now ++ cs) (sym (affordable-append own joined)))
    ∙ append_assoc now (affordable (own ++ joined)) (affordable rest) ∙ ap (λ cs. now ++ cs) (sym (affordable-append (own ++ joined) rest) ∙ sym row) ∙ so_far

-- every field of a schema has a number that a tag can hold
pub numbers_fit : (parts : Parts) (id : TypeId) (list : List Field) → IsShape (shape_of parts) → map field_shape list ≡ fields (shape_of parts) id → AllByRecursion (λ (f : Field). f.number < 2 ^ 29) list
numbers_fit parts id list shape is = search (rules, unmap, each_weaker, fields_are_found)
  where
    unmap : (xs : List Field) → AllByRecursion (λ (f : FieldShape). f.number < 2 ^ 29) (map field_shape xs) → AllByRecursion (λ (f : Field). f.number < 2 ^ 29) xs
    unmap [] h = tt
    unmap (x ∷ xs) h = (h.0, unmap xs h.1)

pub no_choices : (enum_view : EnumView) (table : Table) (old : Parts) (new : Shape) (pair : Pair) → type_at old pair.old ≡ None → choices enum_view table (shape_of old) new pair ≡ []
no_choices enum_view table old new pair h = search (rules, past)
