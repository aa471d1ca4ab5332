-- The parts of an old message as they are written and as they must be read back.
use Rattle.std.proofs.Common.{◌≡◌, ℕ, map, filter, refl, ap, sym, ◌∙◌, List, [], ◌∷◌, ◌++◌, if◌then◌else◌, is_some}
use Rattle.pg_schema.specs.declared.parts.field.TypeId.{TypeId}
use Rattle.pg_schema.specs.Shape.{Shape, fields, field_at}
use Rattle.pg_dyn.specs.message.Message.{Message, ends, holds, nests, is_of, Bytes, unknown_of}
use Rattle.pg_dyn.specs.encoding.Encoding.{encoded_parts, child_type}
use Rattle.pg_dyn.specs.views.Comparison.{numbers, comparands, expects, writes, Alike, Kept, Comparand}
use Rattle.pg_dyn.specs.laws.ByComparands.{comparands_at}
use Rattle.pg_dyn.proofs.Lists.{filter-map}
use Rattle.pg_pairs.specs.home.Home.{homeward, home_message, message_eq}
use Rattle.pg_dyn.proofs.PublicLaws.{comparands_are_written}
use Rattle.pg_dyn.specs.encoding.Writing.{bytes_of, records_in}

abbrev pub home_comparands : Shape → Shape → TypeId → TypeId → Message → List Comparand
home_comparands old new a b (ends unknown) = []
home_comparands old new a b (holds number key leaf later) =
    record { number = number; key = key; written = leaf; expected = Alike leaf } ∷ home_comparands old new a b later
home_comparands old new a b (nests number key child later) =
    let of_old = child_type (fields old a) number in
    let of_new = child_type (fields new b) number in
    let is_home = home_message (fields old of_old) (fields new of_new) (homeward old new of_old of_new child) in
    record {
      number = number;
      key = key;
      written = Bytes (bytes_of (records_in (fields old of_old) (encoded_parts old of_old child)) ++ bytes_of (unknown_of child));
      expected = Kept (λ x. if is_some (field_at (fields new b) number) then is_home x else message_eq child x);
    } ∷ home_comparands old new a b later

pub home_expects : (old new : Shape) (a b : TypeId) (v : Message) → map expects (home_comparands old new a b v) ≡ homeward old new a b v
home_expects old new a b (ends unknown) = refl
home_expects old new a b (holds number key leaf later) = rw (home_expects old new a b later)
home_expects old new a b (nests number key child later) = rw (home_expects old new a b later)

pub home_writes : (old new : Shape) (a b : TypeId) (v : Message) → map writes (home_comparands old new a b v) ≡ encoded_parts old a v
home_writes old new a b (ends unknown) = refl
home_writes old new a b (holds number key leaf later) = rw (home_writes old new a b later)
home_writes old new a b (nests number key child later) = rw (home_writes old new a b later)

-- the comparands of a number are written alike
pub same_writes : (old new : Shape) (a b : TypeId) (v : Message) (n : ℕ) → map writes (comparands_at n (home_comparands old new a b v)) ≡ map writes (comparands_at n (comparands numbers old new a b v))
same_writes old new a b v n =
    sym (filter-map (is_of n) writes (home_comparands old new a b v))
    ∙ ap (filter (is_of n)) (home_writes old new a b v ∙ sym (comparands_are_written numbers old new a b v))
    ∙ filter-map (is_of n) writes (comparands numbers old new a b v)

-- and expected as they must be read back
pub home_expected : (old new : Shape) (a b : TypeId) (v : Message) (n : ℕ) → map expects (comparands_at n (home_comparands old new a b v)) ≡ filter (is_of n) (homeward old new a b v)
home_expected old new a b v n = sym (filter-map (is_of n) expects (home_comparands old new a b v)) ∙ ap (filter (is_of n)) (home_expects old new a b v)
