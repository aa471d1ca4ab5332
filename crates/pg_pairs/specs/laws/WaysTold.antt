-- Each way in which a message breaks by itself is told, each once, by a message that is no longer.
use Rattle.std.specs.Prelude.{◌≡◌, ℕ, ◌≤◌, ⊤, List, [], ◌∷◌, length, true, false, ◌⊎◌, Some}
use Rattle.std.specs.List.{AllByRecursion}
use Rattle.pg_schema.specs.Shape.{Shape, FieldShape, field_at, fields}
use Rattle.pg_schema.specs.ShapeRules.{IsShape}
use Rattle.pg_dyn.specs.reading.Content.{same_oneof}
use Rattle.pg_dyn.specs.message.Message.{Message}
use Rattle.pg_dyn.specs.encoding.Encoding.{enc}
use Rattle.pg_dyn.specs.views.Breaking.{Breaks}
use Rattle.pg_pairs.specs.declared.choices.case.Case.{Case}
use Rattle.pg_pairs.specs.declared.choices.case.Case.TheVariants as cases
use Rattle.pg_pairs.specs.declared.choices.choice.Choice.{Choice}
use Rattle.pg_pairs.specs.declared.choices.choice.Pair.{Pair}
use Rattle.pg_pairs.specs.views.EnumView.{EnumView}
use Rattle.pg_pairs.specs.views.ViewLaws.{IsEnumView}
use Rattle.pg_pairs.specs.bounds.Covering.{IsAmong}
use Rattle.pg_pairs.specs.choices.Choices.{is_oneof}
use Rattle.pg_pairs.specs.choices.Told.{Told, told_causes}
use Rattle.pg_pairs.specs.choices.Ways.{BreaksInOne, HoldsBoth, HoldsMisreadItem, HoldsMisreadKey, HoldsMisreadValue, HoldsUnlike, HoldsUnlikeEntry}
use Rattle.pg_pairs.specs.laws.FieldCosts.{IsShared}

-- a cause of just this field is told, by that case and part of a map's entry, that costs at most so many bytes
pub record IsToldAt (told : List Told) (number : ℕ) (case : Case) (part bytes : ℕ) : Type 0 where
  pub cause : Told
  pub among : IsAmong cause told
  pub field : cause.numbers ≡ number ∷ []
  pub by_number : cause.choice.number ≡ number
  pub by_case : cause.choice.case ≡ case
  pub by_part : cause.choice.part ≡ part
  pub least : cause.choice.cost ≤ bytes

-- both fields are told by one cause, that costs at most so many bytes
pub record AreToldAt (told : List Told) (first second bytes : ℕ) : Type 0 where
  pub cause : Told
  pub among : IsAmong cause told
  pub oneof : is_oneof cause.choice.case ≡ true
  pub first_among : IsAmong first cause.numbers
  pub second_among : IsAmong second cause.numbers
  pub least : cause.choice.cost ≤ bytes

-- Of a message that breaks: what it holds of a field that the new type reads otherwise is told, way by way.
pub record WaysOf (enum_view : EnumView) (old new : Shape) (pair : Pair) (v : Message) (told : List Told) : Type 0 where
  pub unlike : (f g : FieldShape) → IsShared old new pair f g → HoldsUnlike f g v →
      IsToldAt told f.number cases.Unlike 0 (length (enc old pair.old v))
  pub item : (f g : FieldShape) → IsShared old new pair f g → HoldsMisreadItem enum_view.alike f g v →
      IsToldAt told f.number cases.Gap 0 (length (enc old pair.old v))
  pub list : (f g : FieldShape) → IsShared old new pair f g → BreaksInOne enum_view.alike old new pair f g v →
      IsToldAt told f.number cases.List 0 (length (enc old pair.old v))
  pub entry : (f g : FieldShape) → IsShared old new pair f g → HoldsUnlikeEntry f g v →
      IsToldAt told f.number cases.Map 0 (length (enc old pair.old v))
  pub key : (f g : FieldShape) → IsShared old new pair f g → HoldsMisreadKey enum_view.alike f g v →
      IsToldAt told f.number cases.Map 1 (length (enc old pair.old v))
  pub value : (f g : FieldShape) → IsShared old new pair f g → HoldsMisreadValue enum_view.alike f g v →
      IsToldAt told f.number cases.Map 2 (length (enc old pair.old v))
  pub both : (first second : ℕ) → HoldsBoth new pair first second v →
      AreToldAt told first second (length (enc old pair.old v))

abbrev pub WaysAreTold : Type 0
WaysAreTold =
    (enum_view : EnumView) (old new : Shape) → IsEnumView enum_view → IsShape old → IsShape new →
    (pair : Pair) (v : Message) → Breaks enum_view.alike old new pair.old pair.new v →
    WaysOf enum_view old new pair v (told_causes enum_view old new pair)

-- each is so beside each later one
abbrev pub Pairwise : {A : Type 0} → (A → A → Type 0) → List A → Type 0
Pairwise R [] = ⊤
Pairwise R (x ∷ xs) = AllByRecursion (R x) xs × Pairwise R xs

-- of two causes of one field: an item and then the list, or an entry's key and then its value
abbrev pub IsAnother : Choice → Choice → Type 0
IsAnother c d =
    ((c.case ≡ cases.Gap) × (d.case ≡ cases.List))
    ⊎ ((c.case ≡ cases.Map) × (d.case ≡ cases.Map) × (c.part ≡ 1) × (d.part ≡ 2))

-- of other fields, or another cause of one
abbrev pub AreApart : Told → Told → Type 0
AreApart t u = (t.numbers ≡ u.numbers → ⊥) ⊎ IsAnother t.choice u.choice

-- Each cause of a pair is told once, wherever it stands.
abbrev pub CausesAreApart : Type 0
CausesAreApart =
    (enum_view : EnumView) (old new : Shape) → IsShape old → (pair : Pair) →
    Pairwise AreApart (told_causes enum_view old new pair)

-- a field of both types, which comes into that oneof of the new one
pub record ComesInto (old new : Shape) (pair : Pair) (oneof number : ℕ) : Type 0 where
  pub old_field : FieldShape
  pub new_field : FieldShape
  pub old_found : field_at (fields old pair.old) number ≡ Some old_field
  pub new_found : field_at (fields new pair.new) number ≡ Some new_field
  pub into : new_field.oneof ≡ Some oneof

-- The numbers are those of all fields that come into one oneof of the new type. The two by which they break are fields
-- of the old type, and not in one oneof of it.
pub record ComeIntoOne (old new : Shape) (pair : Pair) (numbers : List ℕ) (choice : Choice) : Type 0 where
  pub oneof : ℕ
  pub each : AllByRecursion (ComesInto old new pair oneof) numbers
  pub all : (number : ℕ) → ComesInto old new pair oneof number → IsAmong number numbers
  pub first : FieldShape
  pub second : FieldShape
  pub first_found : field_at (fields old pair.old) choice.number ≡ Some first
  pub second_found : field_at (fields old pair.old) choice.part ≡ Some second
  pub apart : same_oneof first.oneof second.oneof ≡ false

-- A cause of one field has just its number; of fields that meet it has those of all that come into their new oneof.
pub record HasItsFields (old new : Shape) (pair : Pair) (numbers : List ℕ) (choice : Choice) : Type 0 where
  pub alone : is_oneof choice.case ≡ false → numbers ≡ choice.number ∷ []
  pub together : is_oneof choice.case ≡ true → ComeIntoOne old new pair numbers choice

abbrev pub CausesHaveTheirFields : Type 0
CausesHaveTheirFields =
    (enum_view : EnumView) (old new : Shape) → IsShape old → (pair : Pair) →
    AllByRecursion (λ (t : Told). HasItsFields old new pair t.numbers t.choice) (told_causes enum_view old new pair)
