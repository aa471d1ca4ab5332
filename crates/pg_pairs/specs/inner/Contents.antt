-- The content of one old field beside the new field of its number: its parts as the old type writes them, what is
-- known of them, and how long they are.
use Rattle.std.specs.Prelude.{◌≡◌, ℕ, ◌^◌, ◌<◌, ◌≤◌, List, [], ◌∷◌, map, length, ⊤, Bool, true, false, Option, Some, None}
use Rattle.std.specs.List.{AllByRecursion}
use Rattle.std.specs.declared.cmp.Ordering.TheVariants.{Less}
use Rattle.pg_schema.specs.declared.parts.field.TypeId.{TypeId}
use Rattle.pg_schema.specs.declared.parts.field.Scalar.{Scalar}
use Rattle.pg_schema.specs.declared.parts.field.Element.{Element}
use Rattle.pg_schema.specs.declared.parts.field.Element.TheVariants as elements
use Rattle.pg_schema.specs.declared.parts.field.Presence.{Presence}
use Rattle.pg_schema.specs.declared.parts.field.Presence.TheVariants as presences
use Rattle.pg_schema.specs.Shape.{FieldShape}
use Rattle.pg_schema.specs.ShapeRules.{PresenceFits}
use Rattle.pg_dyn.specs.message.Message.{Bytes, Message, key_cmp}
use Rattle.pg_dyn.specs.word.Coding.{form, InRange}
use Rattle.pg_dyn.specs.encoding.Writing.{key_of, field_records, bytes_of}
use Rattle.pg_dyn.specs.reading.Decoding.{Reader}
use Rattle.pg_dyn.specs.fitting.Belonging.{KeyFits, MayBeZero}
use Rattle.pg_dyn.specs.views.Comparison.{Alike, Kept, Comparand, writes}
use Rattle.pg_pairs.specs.declared.choices.choice.Choice.{Choice}
use Rattle.pg_pairs.specs.views.EnumView.{EnumView}
use Rattle.pg_pairs.specs.views.ViewLaws.{IsEnumView}
use Rattle.pg_pairs.specs.choices.Choices.{Table, number_for, field_choices}
use Rattle.pg_dyn.specs.laws.ByComparands.{is_field_kept}
use Rattle.pg_pairs.specs.bounds.Covering.{IsAmong, has_children}

-- the bytes of the content's records
abbrev pub total : FieldShape → List Comparand → ℕ
total f cs = length (bytes_of (field_records f (map writes cs)))

-- a child's bytes and the test of what it is read as; or a leaf in range, expected as it is written
abbrev pub HoldsItem : Element → Comparand → Type 0
HoldsItem (elements.Message t) c =
    (bytes : List ℕ) × (test : Message → Bool) × (c.written ≡ Bytes bytes) × (c.expected ≡ Kept test)
HoldsItem e c = InRange (form e) c.written × (c.expected ≡ Alike c.written)

-- a part of that field's content
pub record Holds (f : FieldShape) (c : Comparand) : Type 0 where
  pub number_is : c.number ≡ f.number
  pub key_fits : KeyFits f.presence c.key
  pub may_be_zero : MayBeZero f.presence c.written
  pub item : HoldsItem f.element c

abbrev pub IsAtMostOne : List Comparand → Type 0
IsAtMostOne [] = ⊤
IsAtMostOne (c ∷ []) = ⊤
IsAtMostOne (c ∷ d ∷ cs) = ⊥

-- entries by rising key
abbrev pub RisingKeys : Scalar → List Comparand → Type 0
RisingKeys k [] = ⊤
RisingKeys k (c ∷ cs) =
    AllByRecursion (λ d. key_cmp (key_of k (writes c)) (key_of k (writes d)) ≡ Less) cs × RisingKeys k cs

-- a singular field has one part at most, a map's keys rise
abbrev pub IsInOrder : Presence → List Comparand → Type 0
IsInOrder (presences.Repeated packed) cs = ⊤
IsInOrder (presences.Map k) cs = RisingKeys k cs
IsInOrder p cs = IsAtMostOne cs

abbrev pub passes : (Message → Bool) → Option Message → Bool
passes test (Some m) = test m
passes test None = false

-- the new type's reader keeps the child
abbrev pub is_child_kept : Reader → TypeId → (Message → Bool) → List ℕ → Bool
is_child_kept child t test bytes = passes test (child t bytes)

-- a child that isn't kept has at least as many bytes as the bound of its pair
abbrev pub ChildBound : Table → Reader → Element → Element → Comparand → Type 0
ChildBound table child (elements.Message s) (elements.Message t) c =
    (bytes : List ℕ) (test : Message → Bool) → c.written ≡ Bytes bytes → c.expected ≡ Kept test →
    is_child_kept child t test bytes ≡ false →
    (x : ℕ) × (number_for table (record { old = s; new = t }) ≡ Some x) × (x ≤ length bytes)
ChildBound table child e d c = ⊤

-- what is known of the content of an old field beside the new one of its number: both fields keep to the rules of
-- presence, the parts are of the old field and in order, and children that break are no shorter than the table says
pub record IsContent (table : Table) (child : Reader) (f g : FieldShape) (cs : List Comparand) : Type 0 where
  pub numbers : g.number ≡ f.number
  pub fits_old : PresenceFits f.presence f.element f.oneof
  pub fits_new : PresenceFits g.presence g.element g.oneof
  pub holds : AllByRecursion (Holds f) cs
  pub in_order : IsInOrder f.presence cs
  pub bounds : has_children f.presence g.presence ≡ true →
      AllByRecursion (ChildBound table child f.element g.element) cs
  pub short : total f cs < 2 ^ 64

-- A content that breaks alone has at least the bytes of one of its field's choices.
abbrev pub ContentsCost : Type 0
ContentsCost =
    (enum_view : EnumView) → IsEnumView enum_view →
    (table : Table) (child : Reader) (f g : FieldShape) (cs : List Comparand) → IsContent table child f g cs →
    is_field_kept enum_view.alike child f g cs ≡ false →
    (c : Choice) × IsAmong c (field_choices enum_view table f g) × (c.cost ≤ total f cs)
