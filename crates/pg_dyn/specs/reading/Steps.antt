-- What a field holds as parts of a message, why bytes are refused, and where no message is too deep (Encoding guide, "Message
-- Structure"). Offsets are counted from the first byte of what is gone over.
use Rattle.std.specs.Prelude.{◌≡◌, ℕ, ◌+◌, ⊤, true, false, List, [], ◌++◌, map, Option, Some, None, IsSomeAnd, Ok, Err}
use Rattle.std.specs.List.{AllByRecursion}
use Rattle.pg_schema.specs.declared.parts.field.Scalar.{Scalar}
use Rattle.pg_schema.specs.declared.parts.field.Element.{Element}
use Rattle.pg_schema.specs.Shape.{Shape, FieldShape, field_at, is_map}
use Rattle.pg_wire.specs.declared.record.WireType.{WireType}
use Rattle.pg_wire.specs.Errors.{error_at}
use Rattle.pg_wire.specs.Reading.{Fault, row}
use Rattle.pg_wire.specs.Records.{WireRecord}
use Rattle.pg_dyn.specs.declared.error.DynError.{DynError}
use Rattle.pg_dyn.specs.declared.error.DynError.TheVariants as errors
use Rattle.pg_dyn.specs.declared.message_ref.ContentRef.{ContentRef}
use Rattle.pg_dyn.specs.message.Message.{Item, Part}
use Rattle.pg_dyn.specs.message.Message as model
use Rattle.pg_dyn.specs.word.Coding.{element_at, form_wire, scalar_form, word_in}
use Rattle.pg_dyn.specs.word.NumberLists.{number_item}
use Rattle.pg_dyn.specs.word.WordOf.{IsWord}
use Rattle.pg_dyn.specs.reading.Content.{packed_leaves, takes}
use Rattle.pg_dyn.specs.message_ref.BorrowedItems.{IsItemKept}
use Rattle.pg_dyn.specs.reading.Decoding.{is_readable, dec}
use Rattle.pg_dyn.specs.message.KeptParts.{KeptItem, Plain, Msg}
use Rattle.pg_dyn.specs.message.Kept.{message_of}
use Rattle.pg_dyn.specs.message_ref.Borrowed.{HasKeys, IsFilled, content_seen, leaf_of}
use Rattle.pg_dyn.specs.fitting.PartsFit.{FieldHolds}
use Rattle.pg_dyn.specs.reading.Faults.{Code, FirstFault, FirstFaultOf, TooDeepIn, TooDeepOf}
use Rattle.pg_dyn.specs.reading.Refusals.{fault_named}

-- what a field holds, as parts of a message
abbrev pub item_of : KeptItem → Item
item_of (Plain listed leaf) = model.Plain leaf
item_of (Msg listed m) = model.Msg (message_of m)

abbrev pub part_of : Part KeptItem → Part Item
part_of p = record { number = p.number; key = p.key; item = item_of p.item }

abbrev pub parts_held : ℕ → Option ContentRef → List (Part KeptItem)
parts_held number None = []
parts_held number (Some content) = content_seen number content

-- the field holds nothing, or a content of such parts that isn't empty, whose keys are numbers or strings
abbrev pub HeldFits : Shape → FieldShape → Option ContentRef → Type 0
HeldFits shape f None = ⊤
HeldFits shape f (Some content) = FieldHolds shape f (content_seen f.number content) × IsFilled content × HasKeys content

-- Why bytes are refused: what the error names is that many bytes after an offset.
abbrev pub RefusedBy : (Code → ℕ → Type 0) → ℕ → DynError → Type 0
RefusedBy IsFirst at e =
    IsSomeAnd (fault_named e) (λ (fault : Code × ℕ). (place : ℕ) × (fault.1 ≡ at + place) × IsFirst fault.0 place)

-- Of a record that the field takes, of one that some field takes, and of bytes: refused, and no message is too deep. Below the
-- message there may be as many levels.

abbrev pub RefusedOf : Shape → ℕ → FieldShape → WireRecord → ℕ → DynError → Type 0
RefusedOf shape levels f r at e = RefusedBy (FirstFaultOf shape levels f r) at e

abbrev pub IsShallow : Shape → ℕ → FieldShape → WireRecord → Type 0
IsShallow shape levels f r = (place : ℕ) → TooDeepOf shape levels f r place → ⊥

-- a field of these that takes the record
pub record Taken (fs : List FieldShape) (r : WireRecord) (f : FieldShape) : Type 0 where
  pub found : field_at fs r.number ≡ Some f
  pub taken : takes f r ≡ true

abbrev pub RefusedRecord : Shape → ℕ → List FieldShape → WireRecord → ℕ → DynError → Type 0
RefusedRecord shape levels fs r at e =
    RefusedBy (λ code place. (f : FieldShape) × Taken fs r f × FirstFaultOf shape levels f r code place) at e

abbrev pub IsShallowRecord : Shape → ℕ → List FieldShape → WireRecord → Type 0
IsShallowRecord shape levels fs r = (f : FieldShape) → Taken fs r f → IsShallow shape levels f r

abbrev pub RefusedIn : Shape → ℕ → List FieldShape → List ℕ → ℕ → DynError → Type 0
RefusedIn shape limit fs bytes at e = RefusedBy (FirstFault shape limit fs bytes) at e

abbrev pub IsShallowIn : Shape → ℕ → List FieldShape → List ℕ → Type 0
IsShallowIn shape limit fs bytes = (place : ℕ) → TooDeepIn shape limit fs bytes place → ⊥

-- of a record of an element's own wire type, whichever field that is no map has the element
abbrev pub RefusedItem : Shape → ℕ → Element → WireRecord → ℕ → DynError → Type 0
RefusedItem shape levels element r at e = (f : FieldShape) → is_map f.presence ≡ false → f.element ≡ element → RefusedOf shape levels f r at e

abbrev pub IsShallowItem : Shape → ℕ → Element → WireRecord → Type 0
IsShallowItem shape levels element r = (f : FieldShape) → is_map f.presence ≡ false → f.element ≡ element → IsShallow shape levels f r

abbrev pub FieldReads : Shape → FieldShape → WireRecord → Type 0
FieldReads shape f r = is_readable (dec shape) f r ≡ true

-- a packed list of words of the wire type
abbrev pub IsRow : WireType → List ℕ → Type 0
IsRow wire body = (bodies : List (List ℕ)) × (row (element_at wire) body ≡ Ok bodies)

-- the words of a packed list are read after others
abbrev pub WordsRead : WireType → List ℕ → List ℕ → List ℕ → Type 0
WordsRead wire body old new =
    (bodies : List (List ℕ)) × (row (element_at wire) body ≡ Ok bodies) × (new ≡ old ++ map (word_in wire) bodies) × AllByRecursion (λ b. IsWord wire (word_in wire b)) bodies

-- A packed list of numbers is read after words, and why it isn't.
abbrev pub RowReads : Scalar → List ℕ → List ℕ → List ℕ → Type 0
RowReads s body old new =
    (words : List ℕ) × (new ≡ old ++ words) × (packed_leaves (scalar_form s) body ≡ Some (map leaf_of (map (number_item (scalar_form s)) words)))
    × AllByRecursion (IsItemKept s) (map (number_item (scalar_form s)) words)

abbrev pub RowRefused : Scalar → List ℕ → ℕ → DynError → Type 0
RowRefused s body at e =
    (fault : Fault) × (e ≡ errors.Wire (error_at fault at))
    × (row (element_at (form_wire (scalar_form s))) body ≡ Err fault)
