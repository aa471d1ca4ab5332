use Rattle.std.proofs.Common.{refl}
use Rattle.pg_notes.proofs.laws.worked_notes.Goals as goal

pub returns : goal.returns
returns c = record {
  equal = λ types a is. simp is;
  renamed = λ types a b is_a is_b. simp (is_a, is_b);
  exchanged = λ types a b is_a is_b. simp (is_a, is_b);
  moved = λ types a is. simp is;
  unreserved = λ types a. refl;
  unreserved_above = λ types a. refl;
  first_reserved = λ types a. refl;
  last_reserved = λ types a. refl;
  presence_dropped = λ types a is. simp is;
  presence_gained = λ types a is. simp is;
  packed_list = λ types a is. simp is;
  unpacked_list = λ types a is. simp is;
  list_of_texts = λ types a is. simp is;
  list_before = λ types a is. simp is;
  same_value = λ enums a b is_a is_b. simp (is_a, is_b);
  value_renamed = λ enums a b is_a is_b. simp (is_a, is_b);
  value_gone = λ enums a is. simp is;
  method_gone = λ old new services m. refl;
  service_gone = λ services m. refl;
  streams = (refl, refl);
}
