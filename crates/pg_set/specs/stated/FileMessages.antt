-- What messages of files say, and which files of a set are left out of the schema (descriptor.proto). That
-- descriptor.proto is left out is this profile's choice.
use Rattle.std.specs.Prelude.{ℕ, suc, ℤ, pos, negsuc, Bool, false, nat_lt, not, ◌&&◌, List, [], ◌∷◌, codes, filter, if◌then◌else◌}
use Rattle.std.specs.List.{list_any}
use Rattle.std.specs.Str.{bytes_eq}
use Rattle.pg_dyn.specs.message.Message.{Message}
use Rattle.pg_set.specs.declared.descriptor.proto.TheConstants as proto
use Rattle.pg_set.specs.stated.SetMessages.{children_at, text_at}
use Rattle.pg_set.specs.stated.TypeMessages.{is_marked}

-- the number is that of one of so many indices
abbrev pub is_place : ℕ → ℤ → Bool
is_place count (pos place) = nat_lt place count
is_place count (negsuc n) = false

-- ---- options of files

abbrev pub option_places : List ℕ
option_places =
    proto.FILE_JAVA_PACKAGE ∷ proto.FILE_JAVA_OUTER_CLASSNAME ∷ proto.FILE_OPTIMIZE_FOR ∷ proto.FILE_JAVA_MULTIPLE_FILES
    ∷ proto.FILE_GO_PACKAGE
    ∷ proto.FILE_DEPRECATED ∷ proto.FILE_CC_ENABLE_ARENAS ∷ proto.FILE_OBJC_CLASS_PREFIX ∷ proto.FILE_CSHARP_NAMESPACE
    ∷ proto.FILE_SWIFT_PREFIX
    ∷ proto.FILE_PHP_CLASS_PREFIX ∷ proto.FILE_PHP_NAMESPACE ∷ proto.FILE_RUBY_PACKAGE ∷ []

-- ---- files

-- `google/protobuf/descriptor.proto`
abbrev pub is_descriptor : List ℕ → Bool
is_descriptor path = bytes_eq path (codes "google/protobuf/descriptor.proto")

abbrev pub is_proto3 : Message → Bool
is_proto3 m = bytes_eq (text_at proto.FILE_SYNTAX m) (codes "proto3")

-- a file that is left out of the schema, as imports of it are: descriptor.proto, where it isn't proto3
abbrev pub is_skipped : Message → Bool
is_skipped m = is_descriptor (text_at proto.FILE_NAME m) && not (is_proto3 m)

-- The paths of imports from an index on, and whether each is among the public ones, which are numbers of indices;
-- without those of descriptor.proto where it is skipped.
abbrev pub kept_imports : (skips : Bool) → (public : List ℤ) → (place : ℕ) → List (List ℕ) → List (List ℕ × Bool)
kept_imports skips public place [] = []
kept_imports skips public place (path ∷ paths) =
    if skips && is_descriptor path then kept_imports skips public (suc place) paths
    else (path, is_marked public place) ∷ kept_imports skips public (suc place) paths

-- ---- sets

-- whether the set has a file that is skipped
abbrev pub skips : Message → Bool
skips set = list_any is_skipped (children_at proto.SET_FILE set)

-- the others, in the order of the set
abbrev pub kept_files : Message → List Message
kept_files set = filter (λ m. not (is_skipped m)) (children_at proto.SET_FILE set)
