-- Placed parts are those of the rows.
use Rattle.std.proofs.Common.{◌≡◌, ℕ, zero, suc, List, [], ◌∷◌, map, refl, ap, rules}
use Rattle.std.proofs.lemmas.List.{map-append}
use Rattle.std.specs.List.{flat_map}
use Rattle.pg_dyn.specs.message.Message.{Message}
use Rattle.pg_set.specs.stated.Numbering.{Counts, PlacedFile, PlacedType, behind_file, behind_type, each_from, inner_types, inside_type, placed_files, placed_types, placed_with, types_of_files}
use Rattle.pg_set.specs.stated.Outlines.{Row, file_types, row_in, rows_of_type, type_rows}
use Rattle.pg_set.specs.stated.SetNames.{qualified}

rows_from : {X Y : Type 0} (see : X → Y) (on : Counts → Message → Counts) (give : Counts → Message → List X) (rows : Message → List Y) → ((c : Counts) (m : Message) → map see (give c m) ≡ rows m)
    → (counts : Counts) (ms : List Message) → map see (each_from on give counts ms) ≡ flat_map rows ms
rows_from see on give rows one counts [] = refl
rows_from see on give rows one counts (m ∷ ms) = search (rules, rows_from see on give rows one (on counts m) ms, map-append)

abbrev pub named_row : PlacedType → Row
named_row p = p.named

pub types_named : (depth : ℕ) (scope : List ℕ) (counts : Counts) (ms : List Message) → map named_row (placed_types depth scope counts ms) ≡ type_rows depth scope ms
types_named zero scope counts ms = refl
types_named (suc depth) scope counts ms =
    rows_from named_row (behind_type depth scope) (placed_with depth (placed_types depth) scope) (rows_of_type (type_rows depth) scope)
    (λ c m. ap (λ rs. row_in scope m ∷ rs) (types_named depth (qualified scope m) (inside_type c m) (inner_types m))) counts ms

pub files_named : (depth : ℕ) (counts : Counts) (ms : List Message) → map named_row (types_of_files depth counts ms) ≡ flat_map (file_types depth) ms
files_named depth counts ms = search (rules, rows_from, types_named)

abbrev pub message_in : PlacedFile → Message
message_in p = p.message

pub messages_placed : (depth : ℕ) (counts : Counts) (ms : List Message) → map message_in (placed_files depth counts ms) ≡ ms
messages_placed depth counts [] = refl
messages_placed depth counts (m ∷ ms) = ap (λ xs. m ∷ xs) (messages_placed depth (behind_file depth counts m) ms)
