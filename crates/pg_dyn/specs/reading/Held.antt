-- What a field holds, as the program takes it apart and puts it together.
use Rattle.std.specs.Prelude.{◌≡◌, ⊤, List, [], ◌∷◌, ◌&&◌, if◌then◌else◌, Option, Some, None}
use Rattle.pg_schema.specs.declared.parts.field.Presence.{Presence}
use Rattle.pg_schema.specs.declared.parts.field.Element.{Element}
use Rattle.pg_schema.specs.declared.parts.field.Element.TheVariants as elements
use Rattle.pg_schema.specs.declared.parts.field.Scalar.{Scalar}
use Rattle.pg_schema.specs.declared.parts.field.Scalar.TheVariants.{Int32, Bytes}
use Rattle.pg_schema.specs.Shape.{is_implicit}
use Rattle.pg_dyn.specs.declared.message_ref.EntryRef.{EntryRef}
use Rattle.pg_dyn.specs.declared.message_ref.ContentRef.{ContentRef}
use Rattle.pg_dyn.specs.declared.message_ref.ContentRef.TheVariants as contents
use Rattle.pg_dyn.specs.declared.message_ref.ValueRef.{ValueRef}
use Rattle.pg_dyn.specs.message_ref.BorrowedItems.{is_zero_value}
use Rattle.pg_dyn.specs.word.NumberLists.{numbers_in}

-- what a singular field holds after an item: no zero where it is implicit
abbrev pub item_left : Presence → ValueRef → Option ContentRef
item_left presence value = if is_implicit presence && is_zero_value value then None else Some (contents.One value)

abbrev pub IsListOf : List ValueRef → ContentRef → Type 0
IsListOf values (contents.One value) = ⊥
IsListOf values (contents.Many vs) = vs.items ≡ values
IsListOf values (contents.Map es) = ⊥
IsListOf values (contents.Numbers ns) = numbers_in ns ≡ values

abbrev pub IsMapOf : List EntryRef → ContentRef → Type 0
IsMapOf entries (contents.One value) = ⊥
IsMapOf entries (contents.Many vs) = ⊥
IsMapOf entries (contents.Map es) = es.items ≡ entries
IsMapOf entries (contents.Numbers ns) = ⊥

-- what a list leaves in its field: nothing where it is empty
abbrev pub IsHeldList : List ValueRef → Option ContentRef → Type 0
IsHeldList [] None = ⊤
IsHeldList (value ∷ values) None = ⊥
IsHeldList [] (Some content) = ⊥
IsHeldList (value ∷ values) (Some content) = IsListOf (value ∷ values) content

-- the scalar as which an element's bodies are read; a message's are bytes
abbrev pub read_as : Element → Scalar
read_as (elements.Scalar s) = s
read_as (elements.Enum e) = Int32
read_as (elements.Message t) = Bytes
