-- What a writer makes of a message part by part, and the lengths that it counts ahead (Encoding guide, "Message Structure",
-- "Packed Repeated Fields", "Maps").
use Rattle.std.specs.Prelude.{◌≡◌, ◌⊎◌, ◌<◌, ⊤, ℕ, min, nat_eq, List, [], ◌∷◌, ◌++◌, map, flat_map, length, Bool, true, false, if◌then◌else◌, Option, Some, None}
use Rattle.std.specs.List.{AllByRecursion}
use Rattle.pg_schema.specs.declared.parts.field.Scalar.{Scalar}
use Rattle.pg_schema.specs.declared.parts.field.Element.{Element}
use Rattle.pg_schema.specs.declared.parts.field.Element.TheVariants as elements
use Rattle.pg_schema.specs.declared.parts.field.TypeId.{TypeId}
use Rattle.pg_schema.specs.declared.parts.field.Presence.{Presence}
use Rattle.pg_schema.specs.declared.parts.field.Presence.TheVariants as presences
use Rattle.pg_schema.specs.Shape.{Shape, FieldShape, fields, field_at, is_packable}
use Rattle.pg_wire.specs.declared.record.WireType.TheVariants.{Len}
use Rattle.pg_wire.specs.Records.{WireRecord, written}
use Rattle.pg_dyn.specs.declared.error.DynError.{DynError}
use Rattle.pg_dyn.specs.declared.error.DynError.TheVariants as errors
use Rattle.pg_dyn.specs.declared.number_list.NumberList.{NumberList}
use Rattle.pg_dyn.specs.message.Message.{Leaf, Bytes, Part}
use Rattle.pg_dyn.specs.word.Coding.{InRange, body, form}
use Rattle.pg_dyn.specs.fitting.Fits.{Fits}
use Rattle.pg_dyn.specs.word.NumberLists.{numbers_in}
use Rattle.pg_dyn.specs.message.Kept.{Kept, ends, holds, nests, type_of, message_of}
use Rattle.pg_dyn.specs.message.KeptParts.{KeptItem}
use Rattle.pg_dyn.specs.encoding.Lending.{Bare, Lone, Child, bare, bare_leaf, lent_item}
use Rattle.pg_dyn.specs.encoding.Writing.{bytes_of, entry_bytes, field_records, is_packed, item_record}
use Rattle.pg_dyn.specs.encoding.Encoding.{cap, enc}

-- the encoding of a message by the type that it says
abbrev pub own_bytes : Shape → Kept → List ℕ
own_bytes shape m = enc shape (type_of m) (message_of m)

-- an item with its bytes in the place of a message
abbrev pub item_leaf : Shape → Bare → Leaf
item_leaf shape (Lone text leaf) = leaf
item_leaf shape (Child m) = Bytes (own_bytes shape m)

abbrev pub item_body : Shape → Element → Bare → List ℕ
item_body shape e x = body (form e) (item_leaf shape x)

abbrev pub item_bytes : Shape → ℕ → Element → Bare → List ℕ
item_bytes shape number e x = (item_record number e (item_leaf shape x)).bytes

-- the body of the entry with that key and value, and its record
abbrev pub entry_body : Shape → Scalar → Element → Leaf → Bare → List ℕ
entry_body shape key e k x = entry_bytes key e k (item_leaf shape x)

abbrev pub entry_record : Shape → ℕ → Scalar → Element → Leaf → Bare → List ℕ
entry_record shape number key e k x = (written number Len (entry_body shape key e k x)).bytes

-- items one after the other, in one record
abbrev pub packed_body : {V : Type 0} → (V → Bare) → Element → List V → List ℕ
packed_body item e vs = flat_map (λ v. body (form e) (bare_leaf (item v))) vs

abbrev pub packed_bytes : {V : Type 0} → (V → Bare) → ℕ → Element → List V → List ℕ
packed_bytes item number e [] = []
packed_bytes item number e (v ∷ vs) = (written number Len (packed_body item e (v ∷ vs))).bytes

-- items in a record each
abbrev pub single_bytes : {V : Type 0} → (V → Bare) → ℕ → Element → List V → List ℕ
single_bytes item number e vs = flat_map (λ v. (item_record number e (bare_leaf (item v))).bytes) vs

-- a list of numbers, packed or not
abbrev pub number_bytes : Bool → ℕ → Element → NumberList → List ℕ
number_bytes true number e ns = packed_bytes lent_item number e (numbers_in ns)
number_bytes false number e ns = single_bytes lent_item number e (numbers_in ns)

-- a part with its bytes in the place of a message, and the records of a field's parts
abbrev pub written_part : Shape → Part KeptItem → Part Leaf
written_part shape p = record { number = p.number; key = p.key; item = item_leaf shape (bare p.item) }

abbrev pub records_by : Option FieldShape → List (Part Leaf) → List WireRecord
records_by (Some f) ps = field_records f ps
records_by None ps = []

abbrev pub field_written : Shape → FieldShape → List (Part KeptItem) → List ℕ
field_written shape f ps = bytes_of (field_records f (map (written_part shape) ps))

-- the bytes of the parts of the field with that number
abbrev pub parts_written : Shape → TypeId → ℕ → List (Part KeptItem) → List ℕ
parts_written shape type number ps = bytes_of (records_by (field_at (fields shape type) number) (map (written_part shape) ps))

-- only what can be packed is
abbrev pub CanBePacked : Presence → Element → Type 0
CanBePacked (presences.Repeated true) e = is_packable e ≡ true
CanBePacked (presences.Repeated false) e = ⊤
CanBePacked presences.Implicit e = ⊤
CanBePacked presences.Explicit e = ⊤
CanBePacked (presences.Map key) e = ⊤

-- a leaf of an element that is no message, and an item of any
abbrev pub IsLeafOf : Element → Leaf → Type 0
IsLeafOf (elements.Scalar s) leaf = InRange (form (elements.Scalar s)) leaf
IsLeafOf (elements.Enum e) leaf = InRange (form (elements.Enum e)) leaf
IsLeafOf (elements.Message t) leaf = ⊥

abbrev pub BareFits : Shape → Element → Bare → Type 0
BareFits shape e (Lone text leaf) = IsLeafOf e leaf
BareFits shape e (Child m) = Fits shape m × (e ≡ elements.Message (type_of m))

abbrev pub LeavesFit : {V : Type 0} → (V → Bare) → Element → List V → Type 0
LeavesFit item e vs = AllByRecursion (λ v. IsLeafOf e (bare_leaf (item v))) vs

-- A length as it is counted: all that is too long is one.
abbrev pub capped : ℕ → ℕ
capped n = min n 2147483648

-- the bodies of the items at the front that are of the number, one after the other
abbrev pub front_bodies : Element → ℕ → Kept → List ℕ
front_bodies e n (ends type unknown) = []
front_bodies e n (holds number key listed leaf later) = if nat_eq number n then body (form e) leaf ++ front_bodies e n later else []
front_bodies e n (nests number key listed child later) = []

-- the length of the body of the packed list at the front, where the field of its number is packed
abbrev pub row_by : Option FieldShape → ℕ → Kept → List ℕ
row_by (Some f) number m = if is_packed f.presence then capped (length (front_bodies f.element number m)) ∷ [] else []
row_by None number m = []

-- the same, where the part before isn't of that number, so that a list is noted once
abbrev pub row_behind : List FieldShape → ℕ → ℕ → Kept → List ℕ
row_behind fs before number m = if nat_eq number before then [] else row_by (field_at fs number) number m

-- The lengths that are noted when a message is counted, in the order of the walk: of each packed list that of its body, of each message
-- inside its own and then those inside it. The part before is of the number that is given first.
abbrev pub lengths_behind : Shape → List FieldShape → ℕ → Kept → List ℕ
lengths_behind shape fs before (ends type unknown) = []
lengths_behind shape fs before (holds number key listed leaf later) =
    row_behind fs before number (holds number key listed leaf later) ++ lengths_behind shape fs number later
lengths_behind shape fs before (nests number key listed child later) =
    (capped (length (own_bytes shape child)) ∷ lengths_behind shape (fields shape (type_of child)) 0 child) ++ lengths_behind shape fs number later

-- no field has the number 0
abbrev pub inner_lengths : Shape → Kept → List ℕ
inner_lengths shape m = lengths_behind shape (fields shape (type_of m)) 0 m

abbrev pub item_lengths : Shape → Bare → List ℕ
item_lengths shape (Lone text leaf) = []
item_lengths shape (Child m) = capped (length (own_bytes shape m)) ∷ inner_lengths shape m

abbrev pub packed_lengths : {V : Type 0} → (V → Bare) → Element → List V → List ℕ
packed_lengths item e [] = []
packed_lengths item e (v ∷ vs) = capped (length (packed_body item e (v ∷ vs))) ∷ []

abbrev pub number_lengths : Bool → Element → NumberList → List ℕ
number_lengths true e ns = packed_lengths lent_item e (numbers_in ns)
number_lengths false e ns = []

-- the lengths that are noted of a field's parts
abbrev pub lengths_by : Shape → Option FieldShape → List (Part KeptItem) → List ℕ
lengths_by shape (Some f) ps =
    if is_packed f.presence then packed_lengths (λ (p : Part KeptItem). bare p.item) f.element ps else flat_map (λ (p : Part KeptItem). item_lengths shape (bare p.item)) ps
lengths_by shape None ps = []

abbrev pub field_lengths : Shape → FieldShape → List (Part KeptItem) → List ℕ
field_lengths shape f ps = lengths_by shape (Some f) ps

abbrev pub parts_lengths : Shape → TypeId → ℕ → List (Part KeptItem) → List ℕ
parts_lengths shape type number ps = lengths_by shape (field_at (fields shape type) number) ps

-- Where the lengths begin with those that were noted, the bytes are added after those before, and the other lengths are left.
abbrev pub Adds : List ℕ → List ℕ → List ℕ → List ℕ → List ℕ → List ℕ → Type 0
Adds lengths noted before bytes after left = (rest : List ℕ) → lengths ≡ noted ++ rest → (after ≡ before ++ bytes) × (left ≡ rest)

-- Why that many bytes may not be written: memory was refused, or they are more than an encoding may have.
abbrev pub MayNotWrite : ℕ → DynError → Type 0
MayNotWrite len e = (e ≡ errors.Memory) ⊎ ((e ≡ errors.TooLong) × (cap < len))

abbrev pub MayNotAdd : List ℕ → List ℕ → List ℕ → DynError → Type 0
MayNotAdd lengths noted bytes e = (rest : List ℕ) → lengths ≡ noted ++ rest → MayNotWrite (length bytes) e
