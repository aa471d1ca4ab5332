-- Where the choices of a field are: those round an item in a field that is no map, those of an entry in a map.
use Rattle.std.proofs.Common.{◌≡◌, ℕ, true, false, Option, Some, None, refl, rules}
use Rattle.std.specs.List.{AllByRecursion}
use Rattle.pg_schema.specs.declared.parts.field.Presence.{Presence}
use Rattle.pg_schema.specs.declared.parts.field.Presence.TheVariants as presences
use Rattle.pg_schema.specs.declared.parts.field.Scalar.{Scalar}
use Rattle.pg_schema.specs.Shape.{FieldShape, is_map}
use Rattle.pg_pairs.specs.declared.choices.case.Case.{Case}
use Rattle.pg_pairs.specs.declared.choices.choice.Choice.{Choice}
use Rattle.pg_pairs.specs.inner.CarriedItems.{IsPlacedBy}
use Rattle.pg_pairs.specs.views.EnumView.{EnumView}
use Rattle.pg_pairs.specs.choices.Choices.{Table, choice_of, field_choices, map_key}
use Rattle.pg_pairs.proofs.lemmas.choices.Offers.{each_own}

abbrev pub IsPlaced : Presence → Choice → Type 0
IsPlaced p c = IsPlacedBy p c.case

unmapped : (p : Presence) → map_key p ≡ None → is_map p ≡ false
unmapped presences.Implicit h = refl
unmapped presences.Explicit h = refl
unmapped (presences.Repeated packed) h = refl
unmapped (presences.Map k) h = absurd (cc)

mapped : (p : Presence) (k : Scalar) → map_key p ≡ Some k → is_map p ≡ true
mapped presences.Implicit k h = absurd (cc)
mapped presences.Explicit k h = absurd (cc)
mapped (presences.Repeated packed) k h = absurd (cc)
mapped (presences.Map l) k h = refl

each_offered : (p : Presence) (number : ℕ) (case : Case) (part : ℕ) (o : Option ℕ) → IsPlacedBy p case → AllByRecursion (IsPlaced p) (choice_of number case part o)
each_offered p number case part None h = tt
each_offered p number case part (Some cost) h = (h, tt)

pub placed : (enum_view : EnumView) (table : Table) (f g : FieldShape) → AllByRecursion (IsPlaced f.presence) (field_choices enum_view table f g)
placed enum_view table f g = search (rules, each_own, each_offered, unmapped, mapped)
