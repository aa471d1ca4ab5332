-- What is written of a schema states it.
use Rattle.std.proofs.Common.{◌≡◌, ℕ, ◌≤◌, Bool, true, false, not, ◌||◌, List, [], ◌∷◌, map, filter, length, Some, option_and_then, refl, ap, ap₂, subst, ◌∙◌, arith, rules}
use Rattle.std.specs.List.{list_all, list_any}
use Rattle.pg_schema.specs.declared.parts.file.File.{File}
use Rattle.pg_schema.specs.declared.parts.Parts.{Parts}
use Rattle.pg_schema.specs.Shape.{fields}
use Rattle.pg_schema.specs.rules.Sound.{IsSound}
use Rattle.pg_schema.proofs.lemmas.rules.PairLemmas.{and_both, and_false_right}
use Rattle.pg_dyn.specs.fitting.Belonging.{IsMessage}
use Rattle.pg_dyn.specs.reading.Decoding.{dec}
use Rattle.pg_dyn.specs.encoding.Encoding.{cap}
use Rattle.pg_dyn.specs.laws.Laws.{EncodingSpells, ReadsAgain, WritingSplits}
use Rattle.pg_dyn.specs.message.Message.{Message}
use Rattle.pg_dyn.specs.reading.Faults.{TooDeepIn}
use Rattle.pg_schema.specs.standing.Nesting.{are_shallow}
use Rattle.pg_schema.specs.standing.Places.{most_deep}
use Rattle.pg_set.specs.round_trip.Readable.{IsReadable}
use Rattle.pg_set.specs.stated.Reads.{IsNotTooDeep, fds_reads}
use Rattle.pg_set.specs.descriptor.Descriptor.{written_shape, descriptor_shape, file_set}
use Rattle.pg_set.specs.stated.Codes.{file_has_types}
use Rattle.pg_set.specs.writing.Places.{Declared, declared_in}
use Rattle.pg_set.specs.stated.SetMessages.{children_at}
use Rattle.pg_set.specs.stated.FileMessages.{is_proto3, is_skipped, kept_files, skips}
use Rattle.pg_set.specs.writing.Set.{fds, file_items, set_message}
use Rattle.pg_set.specs.stated.Stated.{are_taken, declared_by, stated, stated_files, stated_of}
use Rattle.pg_set.specs.stated.StatedNames.{only_if}
use Rattle.pg_set.specs.stated.Views.{parts_view}
use Rattle.pg_set.proofs.lemmas.descriptor.WrittenShape.{written_is_shape}
use Rattle.pg_set.proofs.lemmas.written.levels.Levels.{AreFlat, none_too_deep}
use Rattle.pg_set.proofs.lemmas.written.Slots.{Slot, children_said, children_slot, made, says}
use Rattle.pg_set.proofs.lemmas.written.WrittenEntries.{all_pass}
use Rattle.pg_set.proofs.lemmas.written.WrittenFiles.{file_is_proto3, file_written}
use Rattle.pg_set.proofs.lemmas.written.levels.WrittenLevels.{set_levels}
use Rattle.pg_set.proofs.lemmas.written.WrittenOrder.{written_in_order}
use Rattle.pg_set.proofs.lemmas.written.WrittenParts.{declared_are}
use Rattle.pg_set.proofs.lemmas.written.WrittenTaken.{file_typed}

files_made : (all : Declared) (fs : List File) → map made (map (file_items all) fs) ≡ map (file_written all) fs
files_made all [] = refl
files_made all (f ∷ fs) = ap (λ ms. file_written all f ∷ ms) (files_made all fs)

-- ---- no file is skipped

kept_one : (all : Declared) (f : File) → is_skipped (made (file_items all f)) ≡ false
kept_one all f = search (rules, made, file_is_proto3, and_false_right)

none_skipped : (all : Declared) (fs : List File) → list_any is_skipped (map (file_written all) fs) ≡ false
none_skipped all [] = refl
none_skipped all (f ∷ fs) = ap (λ b. b || list_any is_skipped (map (file_written all) fs)) (kept_one all f) ∙ none_skipped all fs

-- ---- the set

files_passed : (test : Message → Bool) (all : Declared) → ((f : File) → test (made (file_items all f)) ≡ true) → (fs : List File) → list_all test (map (file_written all) fs) ≡ true
files_passed test all each [] = refl
files_passed test all each (f ∷ fs) = and_both (test (file_written all f)) (list_all test (map (file_written all) fs)) (each f) (files_passed test all each fs)

-- the set's message states the schema
set_states : (parts : Parts) → IsSound parts → IsReadable parts → stated (set_message parts) ≡ Some (parts_view parts)
set_states parts sound readable =
    let all : Declared = declared_in parts in
    let fs : List File = parts.files.items in
    let ms : List Message = map (file_written all) fs in
    let slots : List Slot = children_slot 1 (map (file_items all) fs) ∷ [] in
    let are : children_at 1 (set_message parts) ≡ ms = children_said 1 (set_message parts) (map (file_items all) fs) (says 1 slots refl) ∙ files_made all fs in
    let skipped : skips (set_message parts) ≡ false = ap (list_any is_skipped) are ∙ none_skipped all fs in
    let kept : kept_files (set_message parts) ≡ ms = ap (filter (λ m. not (is_skipped m))) are ∙ all_pass (λ m. not (is_skipped m)) ms (files_passed (λ m. not (is_skipped m)) all (λ f. ap not (kept_one all f)) fs) in
    let taken : are_taken ms ≡ true = and_both (list_all is_proto3 ms) (list_all file_has_types ms) (files_passed is_proto3 all (file_is_proto3 all) fs) (files_passed file_has_types all (file_typed all) fs) in
    ap₂ stated_files skipped kept
    ∙ (ap (λ b. only_if b (stated_of false ms)) taken
    ∙ (ap (option_and_then (declared_by false)) (written_in_order all fs readable.behind readable.imports_once)
    ∙ declared_are parts sound readable.places readable.shallow))

-- ---- the bytes

set_read : (again : ReadsAgain) (parts : Parts) (bytes : List ℕ) → IsMessage written_shape file_set (set_message parts) → fds parts bytes → dec written_shape file_set bytes ≡ Some (set_message parts)
unfolding written_shape
set_read again parts bytes is written = search (rules, written_is_shape)

pub written_states : (again : ReadsAgain) (parts : Parts) (bytes : List ℕ) → IsMessage written_shape file_set (set_message parts) → fds parts bytes → IsSound parts → IsReadable parts → fds_reads bytes parts
written_states again parts bytes is written sound readable = search (rules, set_read, set_states)

-- ---- its depth

flat_shape : AreFlat descriptor_shape
flat_shape = refl

pub written_shallow : (spells : EncodingSpells) (splits : WritingSplits) (parts : Parts) (bytes : List ℕ) → IsMessage written_shape file_set (set_message parts) → fds parts bytes
    → are_shallow parts ≡ true → IsNotTooDeep bytes
unfolding written_shape
written_shallow spells splits parts bytes is written shallow place deep =
    let low = set_levels 64 parts shallow in
    none_too_deep spells splits written_shape file_set (set_message parts) most_deep place written_is_shape flat_shape is (subst (λ bs. length bs ≤ cap) written.0 written.1) (omega (arith, low))
    (subst (λ bs. TooDeepIn written_shape most_deep (fields written_shape file_set) bs place) written.0 deep)
