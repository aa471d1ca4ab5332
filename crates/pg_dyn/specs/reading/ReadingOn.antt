-- What one more record at the end makes of a field's content (Encoding guide, "Last One Wins"). Child messages are still
-- their bytes here.
use Rattle.std.specs.Prelude.{⊤, List, [], ◌∷◌, filter, Bool, not, ◌&&◌, if◌then◌else◌}
use Rattle.std.specs.List.{list_any}
use Rattle.pg_schema.specs.declared.parts.field.Element.{Element}
use Rattle.pg_schema.specs.declared.parts.field.Element.TheVariants as elements
use Rattle.pg_schema.specs.declared.parts.field.Presence.{Presence}
use Rattle.pg_schema.specs.Shape.{FieldShape, is_implicit}
use Rattle.pg_wire.specs.Records.{WireRecord}
use Rattle.pg_dyn.specs.message.Message.{Leaf, is_zero}
use Rattle.pg_dyn.specs.reading.Content.{takes, is_sibling}

-- an accepted record of another member of the field's oneof
abbrev pub clears : List FieldShape → FieldShape → WireRecord → Bool
clears fs f r = list_any (λ g. is_sibling f g && takes g r) fs

abbrev pub IsNoMessage : Element → Type 0
IsNoMessage (elements.Message t) = ⊥
IsNoMessage (elements.Scalar s) = ⊤
IsNoMessage (elements.Enum e) = ⊤

-- what a singular field holds after this item: the item, unless it is zero and the field implicit
abbrev pub replaced : Presence → Leaf → List Leaf
replaced presence leaf = if is_implicit presence then filter (λ x. not (is_zero x)) (leaf ∷ []) else leaf ∷ []
