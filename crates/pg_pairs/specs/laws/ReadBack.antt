-- What is written again of an item that is read across two types.
use Rattle.std.specs.Prelude.{◌≡◌, Bool, true, false, Some}
use Rattle.pg_schema.specs.declared.parts.field.Scalar.{Scalar}
use Rattle.pg_schema.specs.declared.parts.field.Scalar.TheVariants as scalars
use Rattle.pg_schema.specs.declared.parts.field.Element.{Element}
use Rattle.pg_schema.specs.declared.parts.field.Element.TheVariants as elements
use Rattle.pg_dyn.specs.message.Message.{Leaf}
use Rattle.pg_dyn.specs.word.Coding.{InRange, body, form, leaf_in}
use Rattle.pg_pairs.specs.gaps.Likeness.{like}

abbrev pub is_zigzag : Scalar → Bool
is_zigzag scalars.Sint32 = true
is_zigzag scalars.Sint64 = true
is_zigzag s = false

-- Zigzag writes 1 as 2, which a bool reads as true and writes as 1, and zigzag reads that as -1.
abbrev pub is_bool_of_zigzag : Element → Element → Bool
is_bool_of_zigzag (elements.Scalar s) (elements.Scalar scalars.Bool) = is_zigzag s
is_bool_of_zigzag e d = false

-- An item that the new element's reader reads as itself has the same body in both, but for a zigzag number that is
-- read as a bool.
abbrev pub SeenItemsHaveOneBody : Type 0
SeenItemsHaveOneBody =
    (old new : Element) (item : Leaf) → like old new ≡ true → is_bool_of_zigzag old new ≡ false →
    InRange (form old) item →
    leaf_in (form new) (body (form old) item) ≡ Some item → body (form new) item ≡ body (form old) item
