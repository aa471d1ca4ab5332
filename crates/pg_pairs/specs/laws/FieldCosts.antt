-- A message that breaks with the content of one field alone has at least the bytes of the field's cheapest choice: a
-- law for each kind of field.
use Rattle.std.specs.Prelude.{◌≡◌, ℕ, ◌≤◌, List, [], ◌∷◌, length, true, Option, Some, None}
use Rattle.pg_schema.specs.Shape.{Shape, FieldShape, fields, field_at, is_singular, is_repeated, is_map}
use Rattle.pg_schema.specs.ShapeRules.{IsShape}
use Rattle.pg_dyn.specs.message.Message.{Leaf, Item, Plain, Msg, Message, ends, with_part}
use Rattle.pg_dyn.specs.encoding.Encoding.{enc}
use Rattle.pg_dyn.specs.views.Breaking.{Breaks}
use Rattle.pg_pairs.specs.declared.choices.choice.Choice.{Choice}
use Rattle.pg_pairs.specs.declared.choices.choice.Pair.{Pair}
use Rattle.pg_pairs.specs.views.EnumView.{EnumView}
use Rattle.pg_pairs.specs.views.ViewLaws.{IsEnumView}
use Rattle.pg_pairs.specs.choices.Choices.{Table, field_choices, cheapest}
use Rattle.pg_pairs.specs.bounds.Covering.{Covers}
use Rattle.pg_pairs.specs.witness.Carried.{alone}

-- a message of these items in one list, and of these entries, each with its key, in one map
abbrev pub list_alone : ℕ → List Item → Message
list_alone number [] = ends []
list_alone number (item ∷ items) = with_part number None item (list_alone number items)

abbrev pub map_alone : ℕ → List (Leaf × Item) → Message
map_alone number [] = ends []
map_alone number (entry ∷ entries) = with_part number (Some entry.0) entry.1 (map_alone number entries)

-- a field of the pair's old type, and the new type's field of its number
pub record IsShared (old new : Shape) (pair : Pair) (f g : FieldShape) : Type 0 where
  pub old_field : field_at (fields old pair.old) f.number ≡ Some f
  pub new_field : field_at (fields new pair.new) f.number ≡ Some g

-- if the message breaks, the field has choices, and the cheapest costs no more than the message has bytes
abbrev pub CostsCheapest : EnumView → Shape → Shape → Table → Pair → FieldShape → FieldShape → Message → Type 0
CostsCheapest enum_view old new table pair f g v =
    Breaks enum_view.alike old new pair.old pair.new v →
    (c : Choice) × (cheapest (field_choices enum_view table f g) ≡ Some c) × (c.cost ≤ length (enc old pair.old v))

-- One scalar or enum in a singular field, under whatever table: the bounds of children say nothing of it.
abbrev pub SingleScalarsCost : Type 0
SingleScalarsCost =
    (enum_view : EnumView) (old new : Shape) (table : Table) → IsEnumView enum_view → IsShape old → IsShape new →
    (pair : Pair) (f g : FieldShape) → IsShared old new pair f g → is_singular f.presence ≡ true →
    (item : Leaf) → CostsCheapest enum_view old new table pair f g (alone f.number None (Plain item))

-- The items of a list, scalars or children, under a table that covers the pair.
abbrev pub ListsCost : Type 0
ListsCost =
    (enum_view : EnumView) (old new : Shape) (table : Table) (root : Pair) → IsEnumView enum_view → IsShape old →
    IsShape new → Covers enum_view old new table root →
    (pair : Pair) (bound : Option ℕ) → table pair ≡ Some bound → (f g : FieldShape) → IsShared old new pair f g →
    is_repeated f.presence ≡ true →
    (items : List Item) → CostsCheapest enum_view old new table pair f g (list_alone f.number items)

-- The entries of a map, under a table that covers the pair.
abbrev pub MapsCost : Type 0
MapsCost =
    (enum_view : EnumView) (old new : Shape) (table : Table) (root : Pair) → IsEnumView enum_view → IsShape old →
    IsShape new → Covers enum_view old new table root →
    (pair : Pair) (bound : Option ℕ) → table pair ≡ Some bound → (f g : FieldShape) → IsShared old new pair f g →
    is_map f.presence ≡ true →
    (entries : List (Leaf × Item)) → CostsCheapest enum_view old new table pair f g (map_alone f.number entries)

-- One child in a singular field, under a table that covers the pair.
abbrev pub ChildrenCost : Type 0
ChildrenCost =
    (enum_view : EnumView) (old new : Shape) (table : Table) (root : Pair) → IsEnumView enum_view → IsShape old →
    IsShape new → Covers enum_view old new table root →
    (pair : Pair) (bound : Option ℕ) → table pair ≡ Some bound → (f g : FieldShape) → IsShared old new pair f g →
    is_singular f.presence ≡ true →
    (child : Message) → CostsCheapest enum_view old new table pair f g (alone f.number None (Msg child))
