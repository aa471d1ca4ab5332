-- The lines of a message as the program reads it, content by content.
use Rattle.std.specs.Prelude.{ℕ, ◌++◌, flat_map, codes, Option, Some, None}
use Rattle.pg_schema.specs.declared.parts.field.Element.{Element}
use Rattle.pg_schema.specs.declared.parts.field.TypeId.{TypeId}
use Rattle.pg_schema.specs.declared.parts.Parts.{Parts}
use Rattle.pg_schema.specs.Parts.{shape_of}
use Rattle.pg_schema.specs.Shape.{fields}
use Rattle.pg_wire.specs.declared.record.Record.{Record}
use Rattle.pg_wire.specs.Reads.{seen_record}
use Rattle.pg_dyn.specs.declared.message_ref.ContentRef.{ContentRef}
use Rattle.pg_dyn.specs.declared.message_ref.ContentRef.TheVariants as contents
use Rattle.pg_dyn.specs.declared.message_ref.EntryRef.{EntryRef}
use Rattle.pg_dyn.specs.declared.message_ref.ValueRef.{ValueRef}
use Rattle.pg_dyn.specs.declared.message_ref.ValueRef.TheVariants as values
use Rattle.pg_dyn.specs.message.Message.{Leaf}
use Rattle.pg_dyn.specs.message.Kept.{Kept, message_of}
use Rattle.pg_dyn.specs.encoding.Encoding.{element_type}
use Rattle.pg_dyn.specs.message_ref.Borrowed.{leaf_of}
use Rattle.pg_dyn.specs.word.NumberLists.{numbers_in}
use Rattle.pg_show.specs.Lines.{Text, element_of, inner, item, line, lines, unknown_line}
use Rattle.pg_show.specs.Shown.{names_of}

-- the lines of a message of the type
abbrev pub message_lines : Parts → TypeId → Text → Kept → Text
message_lines parts type indent m = lines (names_of parts) (shape_of parts) type indent (message_of m)

-- the lines of an item, of a field of that name and element
abbrev pub value_lines : Parts → Text → ℕ → Text → Element → Option Leaf → ValueRef → Text
value_lines parts indent number name element key (values.Msg child) =
    line indent number name key (codes "msg") ++ message_lines parts (element_type element) (inner indent) child.value
value_lines parts indent number name element key value = line indent number name key (item element (leaf_of value))

abbrev pub entry_lines : Parts → Text → ℕ → Text → Element → EntryRef → Text
entry_lines parts indent number name element e =
    value_lines parts indent number name element (Some (leaf_of e.key)) e.value

abbrev pub items_lines : Parts → Text → ℕ → Text → Element → ContentRef → Text
items_lines parts indent number name element (contents.One v) = value_lines parts indent number name element None v
items_lines parts indent number name element (contents.Many vs) =
    flat_map (value_lines parts indent number name element None) vs.items
items_lines parts indent number name element (contents.Numbers ns) =
    flat_map (value_lines parts indent number name element None) (numbers_in ns)
items_lines parts indent number name element (contents.Map es) =
    flat_map (entry_lines parts indent number name element) es.items

-- the lines of a content of a field of the type
abbrev pub content_lines : Parts → TypeId → Text → ℕ × ContentRef → Text
content_lines parts type indent c =
    items_lines parts indent c.0 (names_of parts type c.0) (element_of (fields (shape_of parts) type) c.0) c.1

abbrev pub record_line : Text → Record → Text
record_line indent r = unknown_line indent (seen_record r)
