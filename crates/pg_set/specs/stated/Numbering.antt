-- How what files declare is numbered: the indices that each message type and each file keeps, of the message types,
-- enums and services declared in it, which are counted in the order of their rows.
use Rattle.std.specs.Prelude.{ℕ, ◌+◌, List, [], ◌∷◌, ◌++◌, length, zero, suc, filter}
use Rattle.pg_dyn.specs.message.Message.{Message}
use Rattle.pg_set.specs.stated.Outlines.{enum_rows, rows_of_enums, rows_of_type, type_rows, Row, row_in, file_enums, file_services, file_types}
use Rattle.pg_set.specs.stated.SetMessages.{children_at}
use Rattle.pg_set.specs.stated.TypeMessages.{is_no_entry}
use Rattle.pg_schema.specs.standing.Places.{places_from}
use Rattle.pg_set.specs.stated.SetNames.{qualified, file_scope}
use Rattle.pg_set.specs.declared.descriptor.proto.TheConstants as proto

-- how many message types, enums and services come before
pub record Counts : Type 0 where
  pub types : ℕ
  pub enums : ℕ
  pub services : ℕ

abbrev pub no_counts : Counts
no_counts = record { types = 0; enums = 0; services = 0 }

-- what each message gives, where each moves the counts on
abbrev pub each_from : {X : Type 0} → (on : Counts → Message → Counts) → (Counts → Message → List X) → Counts
    → List Message → List X
each_from on give counts [] = []
each_from on give counts (m ∷ ms) = give counts m ++ each_from on give (on counts m) ms

-- ---- message types

-- after a message type, with those inside it, which are nested less deep than that
abbrev pub behind_type : (depth : ℕ) → (scope : List ℕ) → Counts → Message → Counts
behind_type depth scope counts m = record {
  types = counts.types + length (rows_of_type (type_rows depth) scope m);
  enums = counts.enums + length (rows_of_enums (enum_rows depth) scope m);
  services = counts.services;
}

-- where the first of what is inside a message type, after its enums
abbrev pub inside_type : Counts → Message → Counts
inside_type counts m = record { types = counts.types + 1; enums = counts.enums + length (children_at proto.MESSAGE_ENUM_TYPE m); services = counts.services }

-- the indices of message types, nested less deep than that, without those inside them
abbrev pub places_of_types : (depth : ℕ) → (scope : List ℕ) → Counts → List Message → List ℕ
places_of_types zero scope counts ms = []
places_of_types (suc depth) scope counts ms = each_from (behind_type depth scope) (λ c m. c.types ∷ []) counts ms

-- a message type, with the indices of the message types and enums in it
pub record PlacedType : Type 0 where
  pub named : Row
  pub types : List ℕ
  pub enums : List ℕ

-- the message types inside one, without entry types
abbrev pub inner_types : Message → List Message
inner_types m = filter is_no_entry (children_at proto.MESSAGE_NESTED_TYPE m)

-- a message type and those inside it, with what is in them
abbrev pub placed_with : (depth : ℕ) → (inside : List ℕ → Counts → List Message → List PlacedType) → (scope : List ℕ)
    → Counts → Message → List PlacedType
placed_with depth inside scope counts m =
    record {
      named = row_in scope m;
      types = places_of_types depth (qualified scope m) (inside_type counts m) (inner_types m);
      enums = places_from counts.enums (length (children_at proto.MESSAGE_ENUM_TYPE m));
    } ∷ inside (qualified scope m) (inside_type counts m) (inner_types m)

abbrev pub placed_types : (depth : ℕ) → (scope : List ℕ) → Counts → List Message → List PlacedType
placed_types zero scope counts ms = []
placed_types (suc depth) scope counts ms =
    each_from (behind_type depth scope) (placed_with depth (placed_types depth) scope) counts ms

-- ---- files

abbrev pub behind_file : (depth : ℕ) → Counts → Message → Counts
behind_file depth counts m = record {
  types = counts.types + length (file_types depth m);
  enums = counts.enums + length (file_enums depth m);
  services = counts.services + length (file_services m);
}

-- a file, with the indices of what it declares by itself
pub record PlacedFile : Type 0 where
  pub message : Message
  pub types : List ℕ
  pub enums : List ℕ
  pub services : List ℕ

-- where the first of its message types is, after its enums
abbrev pub inside_file : Counts → Message → Counts
inside_file counts m = record { types = counts.types; enums = counts.enums + length (children_at proto.FILE_ENUM_TYPE m); services = counts.services }

abbrev pub file_places : (depth : ℕ) → Counts → Message → PlacedFile
file_places depth counts m = record {
  message = m;
  types = places_of_types depth (file_scope m) (inside_file counts m) (children_at proto.FILE_MESSAGE_TYPE m);
  enums = places_from counts.enums (length (children_at proto.FILE_ENUM_TYPE m));
  services = places_from counts.services (length (children_at proto.FILE_SERVICE m));
}

abbrev pub placed_files : (depth : ℕ) → Counts → List Message → List PlacedFile
placed_files depth counts ms = each_from (behind_file depth) (λ c m. file_places depth c m ∷ []) counts ms

-- the message types of the files
abbrev pub types_of_files : (depth : ℕ) → Counts → List Message → List PlacedType
types_of_files depth counts ms = each_from (behind_file depth) (λ c m. placed_types depth (file_scope m) (inside_file c m) (children_at proto.FILE_MESSAGE_TYPE m)) counts ms
