-- The shape of the written schema is one of a schema: each of its fields keeps to a test, which is computed.
use Rattle.std.proofs.Common.{◌≡◌, ℕ, ◌<◌, Bool, true, false, ◌&&◌, nat_lt, List, [], ◌∷◌, Option, Some, None, refl, arith, rules}
use Rattle.std.specs.List.{AllByRecursion, list_all}
use Rattle.pg_schema.specs.declared.parts.field.Element.{Element}
use Rattle.pg_schema.specs.declared.parts.field.Element.TheVariants as elements
use Rattle.pg_schema.specs.declared.parts.field.Presence.{Presence}
use Rattle.pg_schema.specs.declared.parts.field.Presence.TheVariants as presences
use Rattle.pg_schema.specs.ShapeRules.{ElementFits, IsField, IsShape, IsType, PresenceFits, Rising}
use Rattle.pg_schema.specs.Shape.{FieldShape, Shape}
use Rattle.pg_schema.proofs.lemmas.rules.PairLemmas.{and_left, and_right}
use Rattle.pg_set.specs.descriptor.Descriptor.{descriptor_shape, written_shape}
use Rattle.pg_set.proofs.lemmas.lists.Tests.{below}

-- one item, or a list that isn't packed, outside a oneof
abbrev stands_alone : Presence → Option ℕ → Bool
stands_alone presences.Explicit oneof = true
stands_alone (presences.Repeated false) None = true
stands_alone presence oneof = false

abbrev is_among : ℕ → Element → Bool
is_among types (elements.Message t) = nat_lt t.index types
is_among types (elements.Scalar s) = true
is_among types (elements.Enum e) = true

abbrev is_field : ℕ → FieldShape → Bool
is_field types f = nat_lt 0 f.number && (nat_lt f.number 19000 && (stands_alone f.presence f.oneof && is_among types f.element))

abbrev are_rising : List FieldShape → Bool
are_rising [] = true
are_rising (f ∷ fs) = list_all (λ (g : FieldShape). nat_lt f.number g.number) fs && are_rising fs

abbrev is_type : ℕ → List FieldShape → Bool
is_type types fs = list_all (is_field types) fs && are_rising fs

presence_fits : (p : Presence) (e : Element) (oneof : Option ℕ) → stands_alone p oneof ≡ true → PresenceFits p e oneof
presence_fits presences.Explicit e oneof h = tt
presence_fits (presences.Repeated false) e None h = (refl, λ k. absurd (cc))
presence_fits (presences.Repeated false) e (Some n) h = absurd (cc)
presence_fits (presences.Repeated true) e oneof h = absurd (cc)
presence_fits presences.Implicit e oneof h = absurd (cc)
presence_fits (presences.Map key) e oneof h = absurd (cc)

element_fits : (types : ℕ) (e : Element) → is_among types e ≡ true → ElementFits types e
element_fits types (elements.Message t) h = below t.index types h
element_fits types (elements.Scalar s) h = tt
element_fits types (elements.Enum e) h = tt

field_is : (types : ℕ) (f : FieldShape) → is_field types f ≡ true → IsField types f
field_is types f h = search (rules, below, and_left, and_right, presence_fits, element_fits)

each_field : (types : ℕ) (fs : List FieldShape) → list_all (is_field types) fs ≡ true → AllByRecursion (IsField types) fs
each_field types [] h = tt
each_field types (f ∷ fs) h = (field_is types f (and_left _ _ h), each_field types fs (and_right (is_field types f) _ h))

all_above : (n : ℕ) (fs : List FieldShape) → list_all (λ (g : FieldShape). nat_lt n g.number) fs ≡ true → AllByRecursion (λ (g : FieldShape). n < g.number) fs
all_above n [] h = tt
all_above n (f ∷ fs) h = (below n f.number (and_left _ _ h), all_above n fs (and_right (nat_lt n f.number) _ h))

rising : (fs : List FieldShape) → are_rising fs ≡ true → Rising fs
rising [] h = tt
rising (f ∷ fs) h = (all_above f.number fs (and_left _ _ h), rising fs (and_right (list_all (λ (g : FieldShape). nat_lt f.number g.number) fs) _ h))

each_type : (types : ℕ) (shape : Shape) → list_all (is_type types) shape ≡ true → AllByRecursion (IsType types) shape
each_type types [] h = tt
each_type types (fs ∷ shape) h =
    let here = and_left (is_type types fs) _ h in (
      record { each = each_field types fs (and_left _ _ here); rising = rising fs (and_right (list_all (is_field types) fs) _ here) },
      each_type types shape (and_right (is_type types fs) _ h),
    )

pub written_is_shape : IsShape written_shape
unfolding written_shape
written_is_shape = record { few = omega arith; each = each_type 18 descriptor_shape refl }
