-- What calls that set contents make of a message.
use Rattle.std.specs.Prelude.{◌≡◌, ℕ, List, [], ◌∷◌, map, filter, flat_map, nat_eq, not, Bool, false, if◌then◌else◌, Option, Some, None}
use Rattle.std.specs.Ordering.{is_lt}
use Rattle.pg_schema.specs.declared.parts.field.TypeId.{TypeId}
use Rattle.pg_schema.specs.declared.parts.field.Presence.{Presence}
use Rattle.pg_schema.specs.declared.parts.field.Presence.TheVariants as presences
use Rattle.pg_schema.specs.Shape.{Shape, FieldShape, fields, field_at}
use Rattle.pg_dyn.specs.declared.message.Content.{Content}
use Rattle.pg_dyn.specs.message.Message.{Leaf, Part, is_zero, key_cmp}
use Rattle.pg_dyn.specs.message.Kept.{Kept, type_of}
use Rattle.pg_dyn.specs.message.KeptParts.{KeptItem, Plain, Msg, of_number, unknown_of}
use Rattle.pg_dyn.specs.message.Seen.{content_seen}
use Rattle.pg_dyn.specs.message.Replacing.{with_content}
use Rattle.pg_dyn.specs.fitting.Texts.{kept_in}

abbrev pub is_zero_kept : KeptItem → Bool
is_zero_kept (Plain listed leaf) = is_zero leaf
is_zero_kept (Msg listed m) = false

-- entries by rising key
abbrev pub is_key_below : Option Leaf → Option Leaf → Bool
is_key_below (Some k) (Some l) = is_lt (key_cmp k l)
is_key_below (Some k) None = false
is_key_below None l = false

abbrev pub put_entry : Part KeptItem → List (Part KeptItem) → List (Part KeptItem)
put_entry p [] = p ∷ []
put_entry p (q ∷ qs) = if is_key_below q.key p.key then q ∷ put_entry p qs else p ∷ q ∷ qs

abbrev pub by_rising_key : List (Part KeptItem) → List (Part KeptItem)
by_rising_key [] = []
by_rising_key (p ∷ ps) = put_entry p (by_rising_key ps)

-- what of a content a field holds: a zero in an implicit field is none, a map's entries are by rising key, and the items of a
-- string field are `Text`, those of a bytes field `Bytes`
abbrev pub normalized_by : Presence → List (Part KeptItem) → List (Part KeptItem)
normalized_by presences.Implicit ps = filter (λ p. not (is_zero_kept p.item)) ps
normalized_by presences.Explicit ps = ps
normalized_by (presences.Repeated packed) ps = ps
normalized_by (presences.Map key) ps = by_rising_key ps

abbrev pub normalized : FieldShape → List (Part KeptItem) → List (Part KeptItem)
normalized f ps = map (kept_in f.element) (normalized_by f.presence ps)

-- The new message has the content in the field of the number, nothing in the other members of its oneof, and all else as before.
abbrev pub IsSetTo : Shape → ℕ → Content → Kept → Kept → Type 0
IsSetTo shape number content old new =
    (f : FieldShape) × (field_at (fields shape (type_of old)) number ≡ Some f)
    × (new ≡ with_content (fields shape (type_of old)) f (normalized f (content_seen number content)) old)

-- what a content leaves in the field of its number
abbrev pub normalized_parts : List FieldShape → ℕ × Content → List (Part KeptItem)
normalized_parts fs c = of (field_at fs c.0)
  where
    of : Option FieldShape → List (Part KeptItem)
    of (Some f) = normalized f (content_seen c.0 c.1)
    of None = []

-- The message of the type without unknown records that has under each number just what is given there.
pub record IsWhole (shape : Shape) (type : TypeId) (given : List (ℕ × Content)) (m : Kept) : Type 0 where
  pub of_type : type_of m ≡ type
  pub contents : (number : ℕ) → of_number number m ≡ flat_map (normalized_parts (fields shape type)) (filter (λ (c : ℕ × Content). nat_eq c.0 number) given)
  pub no_unknown : unknown_of m ≡ []
