-- The order of files, by small examples.
use Rattle.std.specs.Prelude.{◌≡◌, ℕ, zero, suc, true, false, List, [], ◌∷◌, codes, Some, None}
use Rattle.pg_dyn.specs.message.Message.{Bytes, Message, ends, holds}
use Rattle.pg_set.specs.stated.PostOrder.{Importer}
use Rattle.pg_set.specs.declared.descriptor.proto.TheConstants as proto
use Rattle.pg_set.specs.stated.StatedOrder.{in_post_order, paths_in_post_order}

abbrev a : List ℕ
a = codes "a"

abbrev b : List ℕ
b = codes "b"

abbrev c : List ℕ
c = codes "c"

abbrev descriptor : List ℕ
descriptor = codes "google/protobuf/descriptor.proto"

-- a file with what it imports
abbrev importing : List ℕ → List (List ℕ) → Importer
importing path imports = record { path = path; imports = imports }

-- a file's message with one import, and without
abbrev first_file : Message
first_file = holds proto.FILE_NAME None (Bytes a) (holds proto.FILE_DEPENDENCY None (Bytes b) (ends []))

abbrev second_file : Message
second_file = holds proto.FILE_NAME None (Bytes b) (ends [])

-- so many imports of descriptor.proto
abbrev descriptors : ℕ → Message
descriptors zero = ends []
descriptors (suc count) = holds proto.FILE_DEPENDENCY None (Bytes descriptor) (descriptors count)

-- a file's message with these imports
abbrev of_descriptor : ℕ → Message
of_descriptor count = holds proto.FILE_NAME None (Bytes a) (descriptors count)

pub record WorkedOrders : Type 0 where
  pub no_files : paths_in_post_order [] ≡ Some []
  pub no_imports : paths_in_post_order (importing a [] ∷ importing b [] ∷ []) ≡ Some (a ∷ b ∷ [])
  pub imports_first : paths_in_post_order (importing a (b ∷ []) ∷ importing b (c ∷ []) ∷ importing c [] ∷ [])
      ≡ Some (c ∷ b ∷ a ∷ [])
  pub in_order_of_imports : paths_in_post_order (importing a (c ∷ b ∷ []) ∷ importing b [] ∷ importing c [] ∷ [])
      ≡ Some (c ∷ b ∷ a ∷ [])
  pub imported_twice : paths_in_post_order (importing a (c ∷ []) ∷ importing b (c ∷ []) ∷ importing c [] ∷ [])
      ≡ Some (c ∷ a ∷ b ∷ [])
  pub not_there : paths_in_post_order (importing a (b ∷ []) ∷ []) ≡ None
  pub path_twice : paths_in_post_order (importing a [] ∷ importing a [] ∷ []) ≡ None
  pub import_twice : paths_in_post_order (importing a (b ∷ b ∷ []) ∷ importing b [] ∷ []) ≡ None
  pub its_own_import : paths_in_post_order (importing a (a ∷ []) ∷ []) ≡ None
  pub go_round : paths_in_post_order (importing a (b ∷ []) ∷ importing b (c ∷ []) ∷ importing c (a ∷ []) ∷ []) ≡ None
  pub files : in_post_order false (first_file ∷ second_file ∷ []) ≡ Some (second_file ∷ first_file ∷ [])
  pub skipped : in_post_order true (of_descriptor 1 ∷ []) ≡ Some (of_descriptor 1 ∷ [])
  pub skipped_twice : in_post_order true (of_descriptor 2 ∷ []) ≡ Some (of_descriptor 2 ∷ [])
  pub kept : in_post_order false (of_descriptor 1 ∷ []) ≡ None
