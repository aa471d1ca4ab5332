-- What a message of a descriptor set says, by the numbers of its fields. A field that is missing says its default.
-- Unknown records, and fields that no fact of a set asks for, say nothing.
use Rattle.std.specs.Prelude.{ℕ, ◌^◌, nat_lt, ℤ, pos, negsuc, Bool, false, not, List, [], map, filter, filter_map, Option, Some, None, option_map, slice_get, if◌then◌else◌}
use Rattle.std.specs.Option.{unwrap_or}
use Rattle.std.specs.Ordering.{int_eq}
use Rattle.pg_dyn.specs.message.Message.{Int, F32, F64, Bytes, Item, Plain, Msg, Message, ends, Part, parts, is_of}

-- the items of a field
abbrev pub items_at : ℕ → Message → List Item
items_at number m = map (λ (p : Part Item). p.item) (filter (is_of number) (parts m))

-- the item of a singular field
abbrev pub item_at : ℕ → Message → Option Item
item_at number m = slice_get (items_at number m) 0

-- ---- what an item is

-- the message that it is
abbrev pub child_in : Item → Option Message
child_in (Plain leaf) = None
child_in (Msg m) = Some m

-- the same, empty where it is none
abbrev pub child_of : Item → Message
child_of (Plain leaf) = ends []
child_of (Msg m) = m

abbrev pub text_of : Item → List ℕ
text_of (Plain (Int n)) = []
text_of (Plain (F32 bits)) = []
text_of (Plain (F64 bits)) = []
text_of (Plain (Bytes bytes)) = bytes
text_of (Msg m) = []

abbrev pub number_of : Item → ℤ
number_of (Plain (Int n)) = n
number_of (Plain (F32 bits)) = pos 0
number_of (Plain (F64 bits)) = pos 0
number_of (Plain (Bytes bytes)) = pos 0
number_of (Msg m) = pos 0

abbrev pub flag_of : Item → Bool
flag_of item = not (int_eq (number_of item) (pos 0))

-- ---- what a field says

-- the messages among the items
abbrev pub children_at : ℕ → Message → List Message
children_at number m = filter_map child_in (items_at number m)

abbrev pub texts_at : ℕ → Message → List (List ℕ)
texts_at number m = map text_of (items_at number m)

abbrev pub numbers_at : ℕ → Message → List ℤ
numbers_at number m = map number_of (items_at number m)

abbrev pub maybe_text_at : ℕ → Message → Option (List ℕ)
maybe_text_at number m = option_map text_of (item_at number m)

abbrev pub text_at : ℕ → Message → List ℕ
text_at number m = unwrap_or (maybe_text_at number m) []

abbrev pub maybe_number_at : ℕ → Message → Option ℤ
maybe_number_at number m = option_map number_of (item_at number m)

abbrev pub number_at : ℕ → Message → ℤ
number_at number m = unwrap_or (maybe_number_at number m) (pos 0)

abbrev pub maybe_flag_at : ℕ → Message → Option Bool
maybe_flag_at number m = option_map flag_of (item_at number m)

abbrev pub flag_at : ℕ → Message → Bool
flag_at number m = unwrap_or (maybe_flag_at number m) false

-- options, which are none where they are missing
abbrev pub options_at : ℕ → Message → Message
options_at number m = unwrap_or (option_map child_of (item_at number m)) (ends [])

-- The number of a field or of an end of a range. One that isn't above 0, or that 32 bits don't hold, comes to 0, which
-- no rule takes.
abbrev pub natural : ℤ → ℕ
natural (pos n) = if nat_lt n (2 ^ 32) then n else 0
natural (negsuc n) = 0
