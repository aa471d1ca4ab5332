-- Types that a message may go through and return from (Encoding guide, "Packed Repeated Fields"): what was
-- singular isn't packed.
use Rattle.std.specs.Prelude.{◌≡◌, Bool, false, ◌&&◌, Option, Some, None}
use Rattle.std.specs.List.{list_any}
use Rattle.pg_schema.specs.Shape.{Shape, FieldShape, fields, field_at, is_singular}
use Rattle.pg_dyn.specs.encoding.Writing.{is_packed}
use Rattle.pg_pairs.specs.declared.choices.choice.Pair.{Pair}
use Rattle.pg_pairs.specs.bounds.Covering.{children}
use Rattle.pg_pairs.specs.graph.Reached.{LeadsTo}

-- singular in the old type and packed in the new one
abbrev pub becomes_packed : FieldShape → Option FieldShape → Bool
becomes_packed f (Some g) = is_singular f.presence && is_packed g.presence
becomes_packed f None = false

-- a field of the pair is
abbrev pub packs : Shape → Shape → Pair → Bool
packs old new pair = list_any (λ f. becomes_packed f (field_at (fields new pair.new) f.number)) (fields old pair.old)

-- Neither in this pair nor in one that it leads to by children is a field singular in the old type and packed in the
-- new one.
abbrev pub Returns : Shape → Shape → Pair → Type 0
Returns old new root = (pair : Pair) → LeadsTo (children old new) root pair → packs old new pair ≡ false
