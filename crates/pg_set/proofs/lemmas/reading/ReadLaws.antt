-- What a set that was read says of its files, and why it may be refused.
use Rattle.std.proofs.Common.{◌≡◌, ℕ, Bool, true, false, List, map, flat_map, filter, not, Option, Some, None, Result, Ok, Err, IfOk, IfErr, OnOk, ◌⊎◌, inl, inr, ap, sym, subst, ◌∙◌, rules}
use Rattle.std.proofs.lemmas.Option.{same_Some}
use Rattle.std.proofs.lemmas.Result.{IfErr-weaker, IfOk-weaker, err_from_is_err_and}
use Rattle.std.specs.Prelude.{IsErrAnd, IsSomeAnd}
use Rattle.std.specs.List.{list_all, list_any}
use Rattle.std.specs.Option.{option_and_then}
use Rattle.pg_schema.specs.declared.parts.Parts.{Parts}
use Rattle.pg_schema.proofs.lemmas.rules.PairLemmas.{and_both}
use Rattle.pg_dyn.specs.reading.Decoding.{dec}
use Rattle.pg_dyn.specs.message.Kept.{Kept, message_of}
use Rattle.pg_dyn.specs.message.Message.{Message}
use Rattle.pg_schema.specs.standing.Places.{most_deep}
use Rattle.pg_set.specs.declared.error.SetError.{SetError}
use Rattle.pg_set.specs.declared.error.SetError.TheVariants as errors
use Rattle.pg_set.specs.declared.error.Unstated.{Unstated}
use Rattle.pg_set.specs.declared.error.Unstated.TheVariants as unstated
use Rattle.pg_set.specs.declared.reading.outline.Outline.{Outline}
use Rattle.pg_set.specs.descriptor.Descriptor.{written_shape, file_set}
use Rattle.pg_set.specs.stated.Codes.{file_has_types}
use Rattle.pg_set.specs.stated.Numbering.{PlacedFile, PlacedType, no_counts, placed_files, types_of_files}
use Rattle.pg_set.specs.inner.reading.OutlinedPlaces.{placed_file, placed_type}
use Rattle.pg_set.specs.inner.reading.OutlinedScopes.{OutlinesFiles}
use Rattle.pg_set.specs.stated.Outlines.{Row, file_enums, file_services, file_types}
use Rattle.pg_set.specs.inner.reading.OutlinedRows.{files_at, row}
use Rattle.pg_set.specs.inner.reading.Owners.{means_of}
use Rattle.pg_set.specs.stated.Reads.{fds_reads, IsNotTooDeep}
use Rattle.pg_set.specs.refusals.Refused.{MayRefuseFiles, MayRefuseParts}
use Rattle.pg_set.specs.inner.reading.RefusedParts.{IsOfParts}
use Rattle.pg_set.specs.stated.SetMessages.{children_at}
use Rattle.pg_set.specs.stated.FileMessages.{is_proto3, is_skipped, kept_files, skips}
use Rattle.pg_set.specs.stated.Stated.{are_taken, declared_by, parts_by, stated, stated_files, stated_of}
use Rattle.pg_set.specs.stated.StatedNames.{NameLookup, only_if}
use Rattle.pg_set.specs.stated.StatedOrder.{in_post_order}
use Rattle.pg_set.specs.stated.StatedTable.{may_declare, meaning}
use Rattle.pg_set.specs.stated.Views.{PartsView, parts_view}
use Rattle.pg_set.proofs.lemmas.refusals.BadReferences.{has_cause}

-- ---- what files declare

-- parts are the same where what they are made by is
parts_same : (skips : Bool) (m n : NameLookup) (fs gs : List PlacedFile) (ts us : List PlacedType) (es ds ss rs : List Row) → m ≡ n → fs ≡ gs → ts ≡ us → es ≡ ds → ss ≡ rs
    → parts_by m skips fs ts es ss ≡ parts_by n skips gs us ds rs
parts_same skips m n fs gs ts us es ds ss rs means files types enums services = search rules

module _ (skips : Bool) (files : List Message) where
  abbrev types : List Row
  types = flat_map (file_types most_deep) files

  abbrev enums : List Row
  enums = flat_map (file_enums most_deep) files

  abbrev services : List Row
  services = flat_map file_services files

  abbrev made_parts : Option PartsView
  made_parts = parts_by (meaning types enums) skips (placed_files most_deep no_counts files) (types_of_files most_deep no_counts files) enums services

  -- what is made of what was outlined of them is what they declare
  pub outline_declares : (outline : Outline) → OutlinesFiles most_deep files outline → may_declare most_deep files ≡ true → means_of outline.names ≡ meaning types enums
      → declared_by skips files ≡ parts_by (means_of outline.names) skips (map placed_file outline.files.items) (map placed_type outline.types.items) (map row outline.enums.items) (map row outline.services.items)
  outline_declares outline told may means = search (rules, parts_same)

  pub none_declared : (e : Unstated) → (e ≡ unstated.Memory) ⊎ (may_declare most_deep files ≡ false) → (e ≡ unstated.Memory) ⊎ (declared_by skips files ≡ None)
  none_declared e (inl memory) = inl memory
  none_declared e (inr none) = inr (ap (λ b. only_if b made_parts) none)

  -- ---- in order

  -- what they state is what they declare in their order
  pub stated_ordered : (order : List ℕ) → in_post_order skips files ≡ Some (files_at files order) → stated_of skips files ≡ declared_by skips (files_at files order)
  stated_ordered order ordered = ap (option_and_then (declared_by skips)) ordered

  pub none_ordered : (e : Unstated) → (e ≡ unstated.Memory) ⊎ (in_post_order skips files ≡ None) → (e ≡ unstated.Memory) ⊎ (stated_of skips files ≡ None)
  none_ordered e (inl memory) = inl memory
  none_ordered e (inr none) = inr (ap (option_and_then (declared_by skips)) none)

  pub none_in_order : (order : List ℕ) (e : Unstated) → in_post_order skips files ≡ Some (files_at files order) → (e ≡ unstated.Memory) ⊎ (declared_by skips (files_at files order) ≡ None)
      → (e ≡ unstated.Memory) ⊎ (stated_of skips files ≡ None)
  none_in_order order e ordered (inl memory) = inl memory
  none_in_order order e ordered (inr none) = inr (stated_ordered order ordered ∙ none)

  -- ---- refusals

  -- want of memory and a bad reference
  abbrev IsReported : Unstated → SetError → Type 0
  IsReported u e = ((u ≡ unstated.Memory) × (e ≡ errors.Memory)) ⊎ ((u ≡ unstated.Reference) × (e ≡ errors.BadReference))

  of_reported : (u : Unstated) (e : SetError) → IsReported u e → (u ≡ unstated.Memory) ⊎ (stated_of skips files ≡ None) → IsOfParts skips files e
  of_reported u e (inl memory) none = subst (IsOfParts skips files) (sym memory.1) tt
  of_reported u e (inr reference) (inl memory) = search rules
  of_reported u e (inr reference) (inr none) = subst (IsOfParts skips files) (sym reference.1) none

  -- what is reported before there are parts
  pub parts_refused : {T : Type 0} (r : Result T SetError) (u : Unstated) → IsErrAnd r (IsReported u) → (u ≡ unstated.Memory) ⊎ (stated_of skips files ≡ None) → IfErr r (IsOfParts skips files)
  parts_refused r u told none = search (rules, err_from_is_err_and, of_reported)

  -- ---- types and labels

  module _ (proto3 : list_all is_proto3 files ≡ true) (typed : list_all file_has_types files ≡ true) where
    taken : are_taken files ≡ true
    taken = and_both (list_all is_proto3 files) (list_all file_has_types files) proto3 typed

    pub taken_stated : (r : Result Parts SetError) → IfOk r (λ schema. stated_of skips files ≡ Some (parts_view schema)) → IfOk r (λ schema. stated_files skips files ≡ Some (parts_view schema))
    taken_stated r h = search (rules, IfOk-weaker, taken)

    of_parts : (e : SetError) → IsOfParts skips files e → MayRefuseFiles skips files e
    of_parts errors.Memory h = tt
    of_parts (errors.Bytes e) h = h
    of_parts errors.NotProto3 h = absurd h
    of_parts errors.BadType h = absurd h
    of_parts errors.BadReference h = (taken, has_cause skips files h)

    -- what is reported once files and types were looked at
    pub refused_later : (r : Result Parts SetError) → IfErr r (IsOfParts skips files) → IfErr r (MayRefuseFiles skips files)
    refused_later r h = IfErr-weaker r (IsOfParts skips files) (MayRefuseFiles skips files) of_parts h

-- ---- the set

module _ (set : Message) (skip : Bool) (all files : List Kept) (seen : map message_of all ≡ children_at 1 set) (skipped : skip ≡ list_any is_skipped (map message_of all))
    (kept : map message_of files ≡ filter (λ m. not (is_skipped m)) (map message_of all)) where
  set_skips : skip ≡ skips set
  set_skips = skipped ∙ ap (list_any is_skipped) seen

  set_kept : map message_of files ≡ kept_files set
  set_kept = kept ∙ ap (filter (λ m. not (is_skipped m))) seen

  pub set_stated : (r : Result Parts SetError) → IfOk r (λ schema. stated_files skip (map message_of files) ≡ Some (parts_view schema)) → IfOk r (λ schema. stated set ≡ Some (parts_view schema))
  set_stated r h = search (rules, IfOk-weaker, set_skips, set_kept)

  pub set_refused : (r : Result Parts SetError) → IfErr r (MayRefuseFiles skip (map message_of files)) → IfErr r (MayRefuseFiles (skips set) (kept_files set))
  set_refused r h = subst (λ b. IfErr r (MayRefuseFiles b (kept_files set))) set_skips (subst (λ ms. IfErr r (MayRefuseFiles skip ms)) set_kept h)

-- what holds of whatever is answered holds of an answer
pub always : {A E P : Type 0} (r : Result A E) → P → OnOk r P
always (Ok x) holds = holds
always (Err e) holds = tt

-- ---- the bytes

module _ (bytes : List ℕ) (set : Message) (is : dec written_shape file_set bytes ≡ Some set) where
  pub bytes_read : (parts : Parts) → stated set ≡ Some (parts_view parts) → fds_reads bytes parts
  bytes_read parts states = subst (λ d. IsSomeAnd d (λ s. stated s ≡ Some (parts_view parts))) (sym is) states

  pub bytes_stated : (r : Result Parts SetError) → IfOk r (λ schema. stated set ≡ Some (parts_view schema)) → IfOk r (λ schema. fds_reads bytes schema)
  bytes_stated r h = IfOk-weaker r (λ schema. stated set ≡ Some (parts_view schema)) (λ schema. fds_reads bytes schema) bytes_read h

  module _ (level : IsNotTooDeep bytes) where
    refused_set : (e : SetError) → MayRefuseFiles (skips set) (kept_files set) e → MayRefuseParts bytes e
    refused_set errors.Memory h = tt
    refused_set (errors.Bytes e) h = absurd h
    refused_set errors.NotProto3 h = (level, subst (λ r. IsSomeAnd r (λ s. MayRefuseFiles (skips s) (kept_files s) errors.NotProto3)) (sym is) h)
    refused_set errors.BadType h = (level, subst (λ r. IsSomeAnd r (λ s. MayRefuseFiles (skips s) (kept_files s) errors.BadType)) (sym is) h)
    refused_set errors.BadReference h = (level, subst (λ r. IsSomeAnd r (λ s. MayRefuseFiles (skips s) (kept_files s) errors.BadReference)) (sym is) h)

    pub bytes_refused : (r : Result Parts SetError) → IfErr r (MayRefuseFiles (skips set) (kept_files set)) → IfErr r (MayRefuseParts bytes)
    bytes_refused r h = IfErr-weaker r (MayRefuseFiles (skips set) (kept_files set)) (MayRefuseParts bytes) refused_set h

-- of a set one schema
said_once : {A B : Type 0} (o : Option A) (f : A → Option B) (x y : B) → IsSomeAnd o (λ a. f a ≡ Some x) → IsSomeAnd o (λ a. f a ≡ Some y) → x ≡ y
said_once None f x y h k = absurd h
said_once (Some a) f x y h k = same_Some x y (sym h ∙ k)

pub read_once : (bytes : List ℕ) (a b : Parts) → fds_reads bytes a → fds_reads bytes b → parts_view a ≡ parts_view b
read_once bytes a b = said_once (dec written_shape file_set bytes) stated (parts_view a) (parts_view b)
