-- The children of two fields, and the tests of them in their comparands.
use Rattle.std.proofs.Common.{option_to_list, ◌≡◌, ◌++◌, true, refl}
use Rattle.pg_schema.specs.declared.parts.field.TypeId.{TypeId}
use Rattle.pg_schema.specs.Shape.{Shape, FieldShape, fields}
use Rattle.pg_dyn.specs.message.Message.{Message, unknown_of}
use Rattle.pg_dyn.specs.encoding.Writing.{records_in, bytes_of}
use Rattle.pg_dyn.specs.encoding.Encoding.{encoded_parts, enc}
use Rattle.pg_dyn.specs.reading.Decoding.{dec}
use Rattle.pg_dyn.specs.views.Comparison.{View, same_message, unshared_bytes, expected, same}
use Rattle.pg_dyn.specs.views.Breaking.{is_kept}
use Rattle.pg_pairs.specs.choices.Choices.{child_pair}
use Rattle.pg_pairs.specs.bounds.Covering.{field_children, has_children}
use Rattle.pg_pairs.specs.inner.Contents.{is_child_kept}

-- messages in both fields are children of the pair
pub children_are : (f g : FieldShape) → has_children f.presence g.presence ≡ true → field_children f g ≡ option_to_list (child_pair f.element g.element)
children_are f g h = rw h refl

-- the test of a child in its comparand is whether it is kept
pub kept_is : (view : View) (old new : Shape) (s t : TypeId) (child : Message) → is_child_kept (dec new) t (same_message view (fields old s) (fields new t) (expected view old new s t child) (unshared_bytes old s (fields new t) child)) (bytes_of (records_in (fields old s) (encoded_parts old s child)) ++ bytes_of (unknown_of child)) ≡ is_kept view old new s t child
unfolding is_kept same enc
kept_is view old new s t child = refl

-- and its bytes are its encoding
pub bytes_are : (old : Shape) (s : TypeId) (child : Message) → bytes_of (records_in (fields old s) (encoded_parts old s child)) ++ bytes_of (unknown_of child) ≡ enc old s child
unfolding enc
bytes_are old s child = refl
