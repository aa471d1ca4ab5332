-- Why the bytes of a set may state no parts of a schema.
use Rattle.std.specs.Prelude.{◌≡◌, ◌≢◌, ℕ, ⊤, Bool, true, false, List, IsSomeAnd}
use Rattle.std.specs.List.{list_all}
use Rattle.pg_schema.specs.declared.parts.Parts.{Parts}
use Rattle.pg_dyn.specs.reading.Decoding.{dec}
use Rattle.pg_dyn.specs.message.Message.{Message}
use Rattle.pg_dyn.specs.declared.error.DynError.TheVariants as messages
use Rattle.pg_dyn.specs.reading.Refusals.{MayRefuse}
use Rattle.pg_schema.specs.standing.Places.{most_deep}
use Rattle.pg_set.specs.declared.error.SetError.{SetError}
use Rattle.pg_set.specs.declared.error.SetError.TheVariants as errors
use Rattle.pg_set.specs.stated.Reads.{IsNotTooDeep, fds_reads}
use Rattle.pg_set.specs.refusals.BadReferences.{IsBadReference}
use Rattle.pg_set.specs.descriptor.Descriptor.{written_shape, file_set}
use Rattle.pg_set.specs.stated.Codes.{file_has_types}
use Rattle.pg_set.specs.stated.FileMessages.{is_proto3, kept_files, skips}
use Rattle.pg_set.specs.stated.Stated.{are_taken}

-- What holds of the files of a set, without those that are skipped, the codec aside. A type is reported only where all
-- files are proto3, a bad reference only where their types and labels are all taken too, and where it has a cause,
-- which is just where they state nothing (`bad_references`).
abbrev pub MayRefuseFiles : (skips : Bool) → List Message → SetError → Type 0
MayRefuseFiles skips files errors.Memory = ⊤
MayRefuseFiles skips files (errors.Bytes e) = ⊥
MayRefuseFiles skips files errors.NotProto3 = list_all is_proto3 files ≡ false
MayRefuseFiles skips files errors.BadType = (list_all is_proto3 files ≡ true) × (list_all file_has_types files ≡ false)
MayRefuseFiles skips files errors.BadReference = (are_taken files ≡ true) × IsBadReference skips files

-- that of the message that the bytes are, if they are one, and none in it is too deep
abbrev pub MayRefuseRead : List ℕ → SetError → Type 0
MayRefuseRead bytes e =
    IsNotTooDeep bytes
    × IsSomeAnd (dec written_shape file_set bytes) (λ set. MayRefuseFiles (skips set) (kept_files set) e)

-- What the codec refuses is a fault of the bytes, with messages nested at most 100 deep, and never a lack of memory.
-- Otherwise the bytes are a message that isn't nested deeper, and what is said above holds of its files.
abbrev pub MayRefuseParts : List ℕ → SetError → Type 0
MayRefuseParts bytes errors.Memory = ⊤
MayRefuseParts bytes (errors.Bytes e) = (e ≢ messages.Memory) × MayRefuse written_shape file_set most_deep bytes e
MayRefuseParts bytes errors.NotProto3 = MayRefuseRead bytes errors.NotProto3
MayRefuseParts bytes errors.BadType = MayRefuseRead bytes errors.BadType
MayRefuseParts bytes errors.BadReference = MayRefuseRead bytes errors.BadReference

-- the bytes state no parts of a schema
abbrev pub StatesNoParts : List ℕ → Type 0
StatesNoParts bytes = (parts : Parts) → fds_reads bytes parts → ⊥

-- Any fault is reported only where no parts are stated. A lack of memory and messages nested too deep aren't said to
-- be.
abbrev pub NoPartsAreStated : List ℕ → SetError → Type 0
NoPartsAreStated bytes errors.Memory = ⊤
NoPartsAreStated bytes (errors.Bytes messages.Memory) = ⊤
NoPartsAreStated bytes (errors.Bytes (messages.TooDeep at)) = ⊤
NoPartsAreStated bytes (errors.Bytes e) = StatesNoParts bytes
NoPartsAreStated bytes errors.NotProto3 = StatesNoParts bytes
NoPartsAreStated bytes errors.BadType = StatesNoParts bytes
NoPartsAreStated bytes errors.BadReference = StatesNoParts bytes
