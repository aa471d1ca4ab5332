-- Items and entries of a message that borrows.
use Rattle.std.specs.Prelude.{List, Bool, false}
use Rattle.std.specs.List.{AllByRecursion}
use Rattle.std.specs.Ordering.{is_lt}
use Rattle.pg_schema.specs.declared.parts.field.Element.{Element}
use Rattle.pg_schema.specs.declared.parts.field.Scalar.{Scalar}
use Rattle.pg_schema.specs.Shape.{Shape}
use Rattle.pg_dyn.specs.declared.message_ref.EntryRef.{EntryRef}
use Rattle.pg_dyn.specs.declared.message_ref.ValueRef.{ValueRef}
use Rattle.pg_dyn.specs.message_ref.Borrowed.{item_seen, leaf_of}
use Rattle.pg_dyn.specs.message.KeyOrder.{IsOfKind, Rise, rank_cmp}
use Rattle.pg_dyn.specs.message.Message.{Leaf}
use Rattle.pg_dyn.specs.fitting.PartsFit.{IsElementItem, IsElementKept, IsScalarItem, IsScalarKept}
use Rattle.pg_dyn.specs.setting.Setting.{is_zero_kept}

abbrev pub IsItemOf : Scalar → ValueRef → Type 0
IsItemOf s value = IsScalarItem s (item_seen false value)

abbrev pub ItemFits : Shape → Element → ValueRef → Type 0
ItemFits shape element value = IsElementItem shape element (item_seen false value)

-- so are they, and strings where the scalar or element is string
abbrev pub IsItemKept : Scalar → ValueRef → Type 0
IsItemKept s value = IsScalarKept s (item_seen false value)

abbrev pub ItemKept : Shape → Element → ValueRef → Type 0
ItemKept shape element value = IsElementKept shape element (item_seen false value)

abbrev pub is_zero_value : ValueRef → Bool
is_zero_value value = is_zero_kept (item_seen false value)

abbrev pub key_of : EntryRef → Leaf
key_of e = leaf_of e.key

-- each key is below all later ones
abbrev pub KeysRise : List EntryRef → Type 0
KeysRise es = Rise key_of es

abbrev pub ranks_below : EntryRef → EntryRef → Bool
ranks_below a b = is_lt (rank_cmp (key_of a) (key_of b))

-- the keys are all numbers, or all strings
abbrev pub AreAlike : List EntryRef → Type 0
AreAlike es = (kind : Bool) × AllByRecursion (λ (e : EntryRef). IsOfKind kind (key_of e)) es

-- so are they with this one
abbrev pub IsAlike : Leaf → List EntryRef → Type 0
IsAlike key es = (kind : Bool) × IsOfKind kind key × AllByRecursion (λ (e : EntryRef). IsOfKind kind (key_of e)) es
