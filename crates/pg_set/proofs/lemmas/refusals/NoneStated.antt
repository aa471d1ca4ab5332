-- What is refused only where no schema is stated.
use Rattle.std.proofs.Common.{◌≡◌, ◌≢◌, ℕ, true, false, ◌&&◌, List, Option, Some, None, ap, ap₂, sym, subst, ◌∙◌, rules}
use Rattle.std.proofs.lemmas.Option.{none-some}
use Rattle.std.specs.Prelude.{IsSomeAnd}
use Rattle.std.specs.List.{list_all}
use Rattle.pg_schema.specs.declared.parts.Parts.{Parts}
use Rattle.pg_schema.specs.Shape.{fields}
use Rattle.pg_wire.specs.Errors.{fault_of, place_of}
use Rattle.pg_dyn.specs.declared.error.DynError.{DynError}
use Rattle.pg_dyn.specs.declared.error.DynError.TheVariants as messages
use Rattle.pg_dyn.specs.reading.Decoding.{dec}
use Rattle.pg_dyn.specs.reading.Faults.{Code, FirstFault, NotUtf8, TooDeep, Wire}
use Rattle.pg_dyn.specs.laws.Laws.{FaultsAreReal}
use Rattle.pg_dyn.specs.reading.Refusals.{MayRefuse}
use Rattle.pg_dyn.specs.message.Message.{Message}
use Rattle.pg_dyn.proofs.lemmas.reading.faults.Faulty.{text_not_deep, wire_not_deep}
use Rattle.pg_schema.specs.standing.Places.{most_deep}
use Rattle.pg_set.specs.declared.error.SetError.{SetError}
use Rattle.pg_set.specs.declared.error.SetError.TheVariants as errors
use Rattle.pg_set.specs.refusals.BadReferences.{IsBadReference}
use Rattle.pg_set.specs.descriptor.Descriptor.{written_shape, file_set}
use Rattle.pg_set.specs.stated.Codes.{file_has_types}
use Rattle.pg_set.specs.stated.FileMessages.{is_proto3, kept_files, skips}
use Rattle.pg_set.specs.refusals.Refused.{MayRefuseParts, NoPartsAreStated, StatesNoParts}
use Rattle.pg_set.specs.stated.Stated.{are_taken, stated, stated_of}
use Rattle.pg_set.specs.stated.StatedNames.{only_if}
use Rattle.pg_set.specs.stated.Views.{PartsView, parts_view}
use Rattle.pg_set.proofs.lemmas.refusals.BadReferences.{states_none}

both_said : {A : Type 0} (o : Option A) (P Q : A → Type 0) → ((x : A) → P x → Q x → ⊥) → IsSomeAnd o P → IsSomeAnd o Q → ⊥
both_said None P Q apart h k = h
both_said (Some x) P Q apart h k = apart x h k

-- ---- the bytes

unread : (real : FaultsAreReal) (bytes : List ℕ) (code : Code) (place : ℕ) → code ≢ TooDeep
    → FirstFault written_shape most_deep (fields written_shape file_set) bytes code place → StatesNoParts bytes
unread real bytes code place other fault parts reads =
    subst (λ o. IsSomeAnd o (λ set. stated set ≡ Some (parts_view parts))) (real written_shape file_set most_deep bytes code place fault other) reads

bytes_unread : (real : FaultsAreReal) (bytes : List ℕ) (e : DynError) → MayRefuse written_shape file_set most_deep bytes e → NoPartsAreStated bytes (errors.Bytes e)
bytes_unread real bytes messages.Memory fault = tt
bytes_unread real bytes messages.NoSuchField fault = absurd fault
bytes_unread real bytes messages.WrongKind fault = absurd fault
bytes_unread real bytes messages.OutOfRange fault = absurd fault
bytes_unread real bytes (messages.NotUtf8 at) fault = unread real bytes NotUtf8 at text_not_deep fault
bytes_unread real bytes messages.OneofTwice fault = absurd fault
bytes_unread real bytes messages.DuplicateKey fault = absurd fault
bytes_unread real bytes messages.TooLong fault = absurd fault
bytes_unread real bytes (messages.TooDeep at) fault = tt
bytes_unread real bytes (messages.Wire e) fault = unread real bytes (Wire (fault_of e)) (place_of e) (wire_not_deep (fault_of e)) fault

-- ---- the message

-- nothing is some schema
none_is_some : {A : Type 0} (x : A) (o : Option A) → o ≡ None → o ≡ Some x → ⊥
none_is_some x o none is = none-some x (sym none ∙ is)

module _ (set : Message) (parts : Parts) (states : stated set ≡ Some (parts_view parts)) where
  abbrev files : List Message
  files = kept_files set

  abbrev found : Option PartsView
  found = stated_of (skips set) files

  not_proto3 : list_all is_proto3 files ≡ false → ⊥
  not_proto3 other = none_is_some (parts_view parts) (stated set) (ap (λ b. only_if (b && list_all file_has_types files) found) other) states

  not_typed : list_all is_proto3 files ≡ true → list_all file_has_types files ≡ false → ⊥
  not_typed proto3 other = none_is_some (parts_view parts) (stated set) (ap₂ (λ a b. only_if (a && b) found) proto3 other) states

  taken_found : are_taken files ≡ true → found ≡ Some (parts_view parts)
  taken_found taken = sym (ap (λ b. only_if b found) taken) ∙ states

  not_found : are_taken files ≡ true → found ≡ None → ⊥
  not_found taken none = none_is_some (parts_view parts) found none (taken_found taken)

pub none_stated : (real : FaultsAreReal) (bytes : List ℕ) (e : SetError) → MayRefuseParts bytes e → NoPartsAreStated bytes e
none_stated real bytes errors.Memory may = tt
none_stated real bytes (errors.Bytes e) may = bytes_unread real bytes e may.1
none_stated real bytes errors.NotProto3 may = search (rules, both_said, not_proto3)
none_stated real bytes errors.BadType may = search (rules, both_said, not_typed)
none_stated real bytes errors.BadReference may =
    λ parts reads.
    both_said (dec written_shape file_set bytes) (λ set. (are_taken (kept_files set) ≡ true) × IsBadReference (skips set) (kept_files set)) (λ set. stated set ≡ Some (parts_view parts))
    (λ set other states. not_found set parts states other.0 (states_none (skips set) (kept_files set) other.1)) may.1 reads
