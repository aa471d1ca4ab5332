-- Gaps: items that a reader of another type doesn't read as the same item.
use Rattle.std.specs.Prelude.{ℕ, ◌^◌, ℤ, pos, negsuc, Bool, [], ◌∷◌, ◌++◌, length, Option, Some, None, option_map}
use Rattle.pg_schema.specs.declared.parts.field.Scalar.{Scalar}
use Rattle.pg_schema.specs.declared.parts.field.Scalar.TheVariants as scalars
use Rattle.pg_schema.specs.declared.parts.field.Element.{Element}
use Rattle.pg_schema.specs.declared.parts.field.Element.TheVariants as elements
use Rattle.pg_wire.specs.Records.{length_before}
use Rattle.pg_dyn.specs.message.Message.{Leaf, Int, Bytes}
use Rattle.pg_dyn.specs.word.Coding.{Form, Text, Raw, form, form_wire, scalar_form, body}
use Rattle.pg_pairs.specs.declared.gaps.gap_kind.Gap.{Gap}
use Rattle.pg_pairs.specs.declared.gaps.gap_kind.Gap.TheVariants as gaps
use Rattle.pg_pairs.specs.views.EnumView.{EnumView}

-- the length of an item's body, and of the length before it where it has one
abbrev pub body_length : Form → Leaf → ℕ
body_length f item = length (length_before (form_wire f) (body f item) ++ body f item)

-- The gaps of an old scalar type: by the readers' types, if the old one is a varint.
abbrev pub varint_readers : Gap → Gap → Gap → Gap → Gap → Gap → Scalar → Gap
varint_readers int32 int64 uint32 uint64 bool sint scalars.Int32 = int32
varint_readers int32 int64 uint32 uint64 bool sint scalars.Int64 = int64
varint_readers int32 int64 uint32 uint64 bool sint scalars.Uint32 = uint32
varint_readers int32 int64 uint32 uint64 bool sint scalars.Uint64 = uint64
varint_readers int32 int64 uint32 uint64 bool sint scalars.Bool = bool
varint_readers int32 int64 uint32 uint64 bool sint scalars.Sint32 = sint
varint_readers int32 int64 uint32 uint64 bool sint scalars.Sint64 = sint
varint_readers int32 int64 uint32 uint64 bool sint reader = gaps.Unlike

abbrev pub least_gap : ℕ → ℤ → Gap
least_gap body value = gaps.Least body value

-- The table of gaps.
abbrev pub gap : Scalar → Scalar → Gap
gap scalars.Int32 t =
    varint_readers gaps.None gaps.None (least_gap 10 (negsuc 0)) (least_gap 10 (negsuc 0)) (least_gap 1 (pos 2))
    (least_gap 1 (pos 1)) t
gap scalars.Int64 t =
    varint_readers (least_gap 5 (pos (2 ^ 31))) gaps.None (least_gap 5 (pos (2 ^ 32))) (least_gap 10 (negsuc 0))
    (least_gap 1 (pos 2)) (least_gap 1 (pos 1)) t
gap scalars.Uint32 t =
    varint_readers (least_gap 5 (pos (2 ^ 31))) gaps.None gaps.None gaps.None (least_gap 1 (pos 2))
    (least_gap 1 (pos 1)) t
gap scalars.Uint64 t =
    varint_readers (least_gap 5 (pos (2 ^ 31))) (least_gap 10 (pos (2 ^ 63))) (least_gap 5 (pos (2 ^ 32))) gaps.None
    (least_gap 1 (pos 2)) (least_gap 1 (pos 1)) t
gap scalars.Bool t = varint_readers gaps.None gaps.None gaps.None gaps.None gaps.None (least_gap 1 (pos 1)) t
gap scalars.Sint32 scalars.Sint32 = gaps.None
gap scalars.Sint32 scalars.Sint64 = gaps.None
gap scalars.Sint32 t =
    varint_readers (least_gap 1 (negsuc 0)) (least_gap 1 (negsuc 0)) (least_gap 1 (negsuc 0)) (least_gap 1 (negsuc 0))
    (least_gap 1 (negsuc 0)) gaps.None t
gap scalars.Sint64 scalars.Sint32 = least_gap 5 (pos (2 ^ 31))
gap scalars.Sint64 t =
    varint_readers (least_gap 1 (negsuc 0)) (least_gap 1 (negsuc 0)) (least_gap 1 (negsuc 0)) (least_gap 1 (negsuc 0))
    (least_gap 1 (negsuc 0)) gaps.None t
gap scalars.Fixed32 scalars.Fixed32 = gaps.None
gap scalars.Fixed32 scalars.Sfixed32 = least_gap 4 (pos (2 ^ 31))
gap scalars.Fixed32 t = gaps.Unlike
gap scalars.Fixed64 scalars.Fixed64 = gaps.None
gap scalars.Fixed64 scalars.Sfixed64 = least_gap 8 (pos (2 ^ 63))
gap scalars.Fixed64 t = gaps.Unlike
gap scalars.Sfixed32 scalars.Sfixed32 = gaps.None
gap scalars.Sfixed32 scalars.Fixed32 = least_gap 4 (negsuc 0)
gap scalars.Sfixed32 t = gaps.Unlike
gap scalars.Sfixed64 scalars.Sfixed64 = gaps.None
gap scalars.Sfixed64 scalars.Fixed64 = least_gap 8 (negsuc 0)
gap scalars.Sfixed64 t = gaps.Unlike
gap scalars.Float scalars.Float = gaps.None
gap scalars.Float t = gaps.Unlike
gap scalars.Double scalars.Double = gaps.None
gap scalars.Double t = gaps.Unlike
gap scalars.String scalars.String = gaps.None
gap scalars.String scalars.Bytes = gaps.None
gap scalars.String t = gaps.Unlike
gap scalars.Bytes scalars.Bytes = gaps.None
gap scalars.Bytes scalars.String = least_gap 2 (pos 128)
gap scalars.Bytes t = gaps.Unlike

-- the item that a value of the table names
abbrev pub item_named : Form → ℤ → Leaf
item_named Text (pos n) = Bytes (n ∷ [])
item_named Text (negsuc n) = Bytes []
item_named Raw (pos n) = Bytes (n ∷ [])
item_named Raw (negsuc n) = Bytes []
item_named f value = Int value

abbrev pub item_of : Form → Gap → Option Leaf
item_of f gaps.Unlike = None
item_of f gaps.None = None
item_of f (gaps.Least body value) = Some (item_named f value)

-- The item of the gap between two elements, none where there is no gap. A scalar beside an enum goes by int32.
abbrev pub gap_item : EnumView → Bool → Element → Element → Option Leaf
gap_item enum_view zero (elements.Scalar s) (elements.Scalar t) = item_of (scalar_form s) (gap s t)
gap_item enum_view zero (elements.Scalar s) (elements.Enum t) = item_of (scalar_form s) (gap s scalars.Int32)
gap_item enum_view zero (elements.Enum s) (elements.Scalar t) = item_of (form (elements.Enum s)) (gap scalars.Int32 t)
gap_item enum_view zero (elements.Enum s) (elements.Enum t) = option_map Int (enum_view.least s t zero)
gap_item enum_view zero old new = None
