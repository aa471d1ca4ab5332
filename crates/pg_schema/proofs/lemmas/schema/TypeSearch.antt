-- A message type at its index, and its fields as messages and bytes depend on them.
use Rattle.std.proofs.Common.{◌≡◌, ℕ, zero, suc, List, [], ◌∷◌, map, get_or, slice_get, find, length, nat_lt, true, false, arith, Option, Some, None, sym, ◌∙◌, ap, subst, refl}
use Rattle.std.specs.Option.{option_map, option_and_then}
use Rattle.std.specs.List.{AllByRecursion}
use Rattle.std.proofs.lemmas.Option.{same_Some, none-some, slice_get_read, slice_get_past}
use Rattle.std.proofs.lemmas.Bool.{ltb-true}
use Rattle.std.proofs.lemmas.Bool.Decides.{nat_tests}
use Rattle.pg_schema.specs.declared.parts.field.Field.{Field}
use Rattle.pg_schema.specs.declared.parts.message_type.MessageType.{MessageType}
use Rattle.pg_schema.specs.Parts.{field_shape}
use Rattle.pg_schema.specs.Shape.{FieldShape, field_at}
use Rattle.pg_schema.specs.ShapeRules.{IsType, IsShape, Rising}
use Rattle.pg_schema.proofs.lemmas.schema.FieldSearch.{has_number, shape_found}

abbrev pub shape_in : MessageType → List FieldShape
shape_in t = map field_shape t.fields.items

pub fields_at : (types : List MessageType) (i : ℕ) (t : MessageType) → slice_get types i ≡ Some t → get_or (map shape_in types) i [] ≡ shape_in t
fields_at [] i t is = absurd (none-some t is)
fields_at (s ∷ types) zero t is = subst (λ u. shape_in s ≡ shape_in u) (same_Some s t is) refl
fields_at (s ∷ types) (suc i) t is = fields_at types i t is

each_at : (P : List FieldShape → Type 0) (types : List MessageType) (i : ℕ) (t : MessageType) → AllByRecursion P (map shape_in types) → slice_get types i ≡ Some t → P (shape_in t)
each_at P [] i t all is = absurd (none-some t is)
each_at P (s ∷ types) zero t all is = subst (λ u. P (shape_in u)) (same_Some s t is) all.0
each_at P (s ∷ types) (suc i) t all is = each_at P types i t all.1 is

pub rising_at : (types : List MessageType) (i : ℕ) (t : MessageType) → IsShape (map shape_in types) → slice_get types i ≡ Some t → Rising (shape_in t)
rising_at types i t is at_place = (each_at (IsType _) types i t is.each at_place).rising

-- what is said of a type's fields, from the type at its index
pub field_along : (types : List MessageType) (i n : ℕ) (t : MessageType) (fs : List Field) → slice_get types i ≡ Some t → fs ≡ t.fields.items
    → find (has_number n) fs ≡ option_and_then (λ (s : MessageType). find (has_number n) s.fields.items) (slice_get types i)
field_along types i n t fs is same =
    subst (λ r. find (has_number n) fs ≡ option_and_then (λ (s : MessageType). find (has_number n) s.fields.items) r) (sym is) (ap (find (has_number n)) same)

pub shape_along : (types : List MessageType) (i n : ℕ) (t : MessageType) (fs : List Field) → slice_get types i ≡ Some t → fs ≡ t.fields.items
    → option_map field_shape (find (has_number n) fs) ≡ field_at (get_or (map shape_in types) i []) n
shape_along types i n t fs is same =
    shape_found n fs ∙ (ap (λ gs. field_at (map field_shape gs) n) same ∙ ap (λ ss. field_at ss n) (sym (fields_at types i t is)))

pub no_field : (types : List MessageType) (i n : ℕ) → slice_get types i ≡ None
    → ◌≡◌ {A = Option Field} None (option_and_then (λ (s : MessageType). find (has_number n) s.fields.items) (slice_get types i))
no_field types i n is = subst (λ r. ◌≡◌ {A = Option Field} None (option_and_then (λ (s : MessageType). find (has_number n) s.fields.items) r)) (sym is) refl

-- what `get` answers of a slice of the types
pub type_found : (types xs : List MessageType) (i : ℕ) (t : MessageType) → xs ≡ types → true ≡ nat_lt i (length xs) → t ≡ get_or xs i t → slice_get types i ≡ Some t
type_found types xs i t same within is = subst (λ ys. slice_get ys i ≡ Some t) same (slice_get_read xs (length xs) i t refl (ltb-true i (length xs) (sym within)) is)

pub no_type_found : (types xs : List MessageType) (i : ℕ) → xs ≡ types → false ≡ nat_lt i (length xs) → slice_get types i ≡ None
no_type_found types xs i same past = subst (λ ys. slice_get ys i ≡ None) same (slice_get_past xs i (grind (arith, nat_tests)))
