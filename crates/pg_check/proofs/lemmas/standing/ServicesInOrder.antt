-- The services of source files come in order of declaration, file after file.
use Rattle.std.proofs.Common.{◌≡◌, ◌∙◌, ℕ, suc, ◌+◌, List, [], ◌∷◌, ◌++◌, flat_map, length, refl, ap, ap₂, arith, rules}
use Rattle.std.proofs.lemmas.Grind.{flat_map-append}
use Rattle.std.proofs.lemmas.List.{append-nil, length-map}
use Rattle.pg_schema.specs.declared.parts.file.File.{File}
use Rattle.pg_schema.specs.declared.parts.Parts.{Parts}
use Rattle.pg_schema.specs.rules.Scopes.{declared_services, service_places}
use Rattle.pg_check.specs.parts.MadeParts.{ArePartsOf, Declared, EachIs, FileShape, IsFileOf, Source, with_file, with_files}
use Rattle.pg_check.specs.parts.MadeServices.{MadeService, service_ids}
use Rattle.pg_schema.specs.standing.Places.{places_from}

-- ---- indexes of services

-- those of so many services that come after others
abbrev numbered : ℕ → List MadeService → List ℕ
numbered before ss = service_places (service_ids before ss)

numbered_joined : (before : ℕ) (xs ys : List MadeService) → numbered before (xs ++ ys) ≡ numbered before xs ++ numbered (before + length xs) ys
numbered_joined before [] ys = let none : before ≡ before + 0 = omega arith in ap (λ n. numbered n ys) none
numbered_joined before (x ∷ xs) ys =
    let next : (before + 1) + length xs ≡ before + length (x ∷ xs) = omega arith in
    ap (λ ns. before ∷ ns) (numbered_joined (before + 1) xs ys ∙ ap (λ n. numbered (before + 1) xs ++ numbered n ys) next)

in_order : (before : ℕ) (ss : List MadeService) → numbered before ss ≡ places_from before (length ss)
in_order before [] = refl
in_order before (s ∷ ss) =
    let next : before + 1 ≡ suc before = omega arith in
    ap (λ ns. before ∷ ns) (ap (λ n. numbered n ss) next ∙ in_order (suc before) ss)

-- ---- file after file

abbrev shape_places : FileShape → List ℕ
shape_places w = service_places w.services

-- what is declared so far is in order
abbrev AreNumbered : Declared → Type 0
AreNumbered d = flat_map shape_places d.files ≡ numbered 0 d.services

file_numbered : (d : Declared) (s : Source) → AreNumbered d → AreNumbered (with_file d s)
file_numbered d s so_far = search (rules, flat_map-append, append-nil, numbered_joined)

all_numbered : (d : Declared) (ss : List Source) → AreNumbered d → AreNumbered (with_files d ss)
all_numbered d [] so_far = so_far
all_numbered d (s ∷ ss) so_far = all_numbered (with_file d s) ss (file_numbered d s so_far)

files_places : (ws : List FileShape) (fs : List File) → EachIs IsFileOf ws fs → declared_services fs ≡ flat_map shape_places ws
files_places [] [] each = refl
files_places [] (f ∷ fs) each = absurd each
files_places (w ∷ ws) [] each = absurd each
files_places (w ∷ ws) (f ∷ fs) each = ap₂ (λ xs ys. xs ++ ys) (ap service_places each.0.services) (files_places ws fs each.1)

-- services of linked files are in order
pub services_in_order : (sources : List Source) (parts : Parts) → ArePartsOf sources parts
    → declared_services parts.files.items ≡ places_from 0 (length parts.services.items)
services_in_order sources parts are = search (rules, files_places, all_numbered, length-map, in_order)
