-- Files, as they are made.
use Rattle.std.proofs.Common.{◌≡◌, ◌⊎◌, ℕ, ℤ, Bool, true, List, length, map, None, ap, sym, ◌∙◌, rules}
use Rattle.std.proofs.lemmas.List.{length-map}
use Rattle.std.proofs.lemmas.Simd.{map-map}
use Rattle.std.specs.List.{list_all}
use denote.Ref.{Bor}
use Rattle.pg_schema.specs.declared.parts.file.Import.{Import}
use Rattle.pg_dyn.specs.message.Kept.{message_of}
use Rattle.pg_set.specs.declared.reading.outline.OutlinedFile.{OutlinedFile}
use Rattle.pg_set.specs.inner.Lent.{lent}
use Rattle.pg_set.specs.inner.reading.OutlinedPlaces.{placed_file}
use Rattle.pg_set.specs.stated.StatedFiles.{file, has_public_places, import_seen}
use Rattle.pg_set.specs.inner.reading.MadeImports.{import_of}
use Rattle.pg_set.specs.stated.FileMessages.{is_place}
use Rattle.pg_set.specs.stated.Views.{import_view}

-- ---- imports

pub imports_made : (is : List Import) (kept : List (List ℕ × Bool)) → map import_of is ≡ kept → map import_view is ≡ map import_seen kept
imports_made is kept same = sym (map-map import_seen import_of is) ∙ ap (map import_seen) same

-- the indices that were marked are those that the message says
pub places_told : (count : ℕ) (paths : List (Bor (List ℕ))) (ts : List (List ℕ)) (a b ns : List ℤ)
    → count ≡ length paths → lent paths ≡ ts → a ≡ b → b ≡ ns → list_all (is_place count) a ≡ true → list_all (is_place (length ts)) ns ≡ true
places_told count paths ts a b ns many texts same numbers h = search (rules, length-map)

-- ---- files

-- what is refused where public indices are those of imports is refused for memory
pub file_refused : (skips : Bool) (o : OutlinedFile) (E : Type 0) → (has_public_places (message_of o.message) ≡ true → E) → E ⊎ (file skips (placed_file o) ≡ None)
file_refused skips o E refused = search rules
