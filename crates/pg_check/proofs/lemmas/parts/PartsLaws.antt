-- What files declare, file after file.
use Rattle.std.proofs.Common.{◌≡◌, ◌∙◌, ℕ, ◌+◌, ◌<◌, List, [], ◌∷◌, ◌++◌, map, take, get_or, length, sym, ap, refl, Option, rules}
use Rattle.std.proofs.lemmas.List.{map-append, length-map}
use Rattle.pg_schema.specs.declared.parts.service.ServiceId.{ServiceId}
use Rattle.pg_schema.specs.declared.parts.Parts.{Parts}
use Rattle.pg_link.specs.declared.uses.target.Target.{Target}
use Rattle.pg_check.specs.declared.parts.made_parts.Made.{Made}
use Rattle.pg_check.specs.parts.ByScope.{Placed, places_in}
use Rattle.pg_check.specs.parts.MadeParts.{Declared, Source, States, file_shape, placed_enums, placed_messages, type_tree, with_file, with_files}
use Rattle.pg_check.specs.inner.Grouped.{grouped_shape, grouped_tree}
use Rattle.pg_check.specs.rules.Outline.{Message}
use Rattle.pg_check.specs.inner.Sources.{IsMadeBy}
use Rattle.pg_check.proofs.lemmas.parts.Eachs.{each-append, each-length}
use Rattle.pg_check.proofs.lemmas.rules.FirstLaws.{take_item}

-- indexes that are kept for scopes are those of the scopes
pub tree_is : (targets : ℕ → Option Target) (types enums : List ℕ → List ℕ) (in_types in_enums : List Placed) → ((scope : List ℕ) → types scope ≡ places_in scope in_types) → ((scope : List ℕ) → enums scope ≡ places_in scope in_enums)
    → (m : Message) → grouped_tree targets types enums m ≡ type_tree targets in_types in_enums m
tree_is targets types enums in_types in_enums h k m = search rules

pub trees_are : (targets : ℕ → Option Target) (types enums : List ℕ → List ℕ) (in_types in_enums : List Placed) → ((scope : List ℕ) → types scope ≡ places_in scope in_types) → ((scope : List ℕ) → enums scope ≡ places_in scope in_enums)
    → (ms : List Message) → map (grouped_tree targets types enums) ms ≡ map (type_tree targets in_types in_enums) ms
trees_are targets types enums in_types in_enums h k [] = refl
trees_are targets types enums in_types in_enums h k (m ∷ ms) = search (rules, tree_is, trees_are targets types enums in_types in_enums h k ms)

pub shape_is : (types enums : List ℕ → List ℕ) (t e n : ℕ) (ids ids' : List ServiceId) (s : Source) → ((scope : List ℕ) → types scope ≡ places_in scope (placed_messages t s.tree)) → ((scope : List ℕ) → enums scope ≡ places_in scope (placed_enums e s.tree))
    → ids ≡ (file_shape t e n s).services → grouped_shape types enums ids s ≡ file_shape t e n s
shape_is types enums t e n ids ids' s h k is = search rules

-- one more file
pub one_more_file : (d : Declared) (s : Source) (old new : Parts) (made : Made) → States d old
    → IsMadeBy (length old.types.items) (length old.enums.items) (length old.services.items) s made
    → new.types.items ≡ old.types.items ++ made.types.items → new.enums.items ≡ old.enums.items ++ made.enums.items
    → new.services.items ≡ old.services.items ++ made.services.items → new.files.items ≡ old.files.items ++ made.file ∷ []
    → States (with_file d s) new
one_more_file d s old new made before is types enums services files = search (rules, each-length, length-map, each-append, map-append)

with-append : (d : Declared) (xs : List Source) (x : Source) → with_files d (xs ++ x ∷ []) ≡ with_file (with_files d xs) x
with-append d [] x = refl
with-append d (y ∷ ys) x = with-append (with_file d y) ys x

-- one more file of a list
pub with_more : {A : Type 0} (view : A → Source) (d : Declared) (xs : List A) (i : ℕ) (x : A) → i < length xs → x ≡ get_or xs i x
    → with_files d (map view (take (i + 1) xs)) ≡ with_file (with_files d (map view (take i xs))) (view x)
with_more view d xs i x h is =
    ap (λ ys. with_files d (map view ys)) (take_item xs i x h ∙ ap (λ y. take i xs ++ y ∷ []) (sym is))
    ∙ (ap (with_files d) (map-append view (take i xs) (x ∷ [])) ∙ with-append d (map view (take i xs)) (view x))
