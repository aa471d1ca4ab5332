-- What the witness of a written certificate is read as.
use Rattle.std.specs.Prelude.{codes}
use Rattle.std.proofs.Common.{◌≡◌, ℕ, ◌<◌, ◌^◌, ◌/◌, ◌%◌, zero, suc, nat_eq, not, true, List, [], ◌∷◌, ◌++◌, slice_index, Option, Some, None, Ok, refl, ap, sym, ◌∙◌, append_assoc, lit<}
use Rattle.std.specs.List.{AllByRecursion}
use Rattle.std.proofs.lemmas.Bool.{and_parts}
use Rattle.hex.specs.Hex.{IsBytes, decode_of, encode_lower, encode_with, lower_digits}
use Rattle.hex.proofs.HexLemmas.{decode_of-encode_lower}
use Rattle.hex.proofs.OnLiterals.{hex_on_literals}
use Rattle.pg_cert.specs.Witness.{AreBytes}
use Rattle.pg_cert.specs.inner.Reading.{lacks}
use Rattle.pg_cert.specs.Text.{witness_word}
use Rattle.pg_cert.specs.inner.Lines.{last_text}

is_bytes : (xs : List ℕ) → AllByRecursion (λ x. x < 2 ^ 8) xs → IsBytes xs
is_bytes [] h i = lit< tt
is_bytes (x ∷ xs) h zero = h.0
is_bytes (x ∷ xs) h (suc i) = is_bytes xs h.1 i

pub decoded : (bytes : List ℕ) → AreBytes (Some bytes) → decode_of (encode_lower bytes) ≡ Ok bytes
decoded bytes h = decode_of-encode_lower bytes (is_bytes bytes h)

none_decodes : (bytes : List ℕ) → decode_of (codes "none") ≡ Ok bytes → ⊥
unfolding hex_on_literals
none_decodes bytes h = cc

pub none_said : (witness : Option (List ℕ)) → AreBytes witness → witness_word witness ≡ codes "none" → witness ≡ None
none_said None h is = refl
none_said (Some bytes) h is = absurd (none_decodes bytes (sym (ap decode_of is) ∙ decoded bytes h))

pub bytes_said : (witness : Option (List ℕ)) (word : List ℕ) → AreBytes witness → word ≡ witness_word witness → (word ≡ codes "none" → ⊥) → (bytes : List ℕ) × (witness ≡ Some bytes) × (decode_of word ≡ Ok bytes)
bytes_said None word h is other = absurd (other is)
bytes_said (Some bytes) word h is other = (bytes, refl, ap decode_of is ∙ decoded bytes h)

digit_lacks : (byte : ℕ) → not (nat_eq 0 byte) ≡ true → (table : List ℕ) → lacks byte table ≡ true → (i : ℕ) → not (nat_eq (slice_index table i) byte) ≡ true
digit_lacks byte none [] h i = none
digit_lacks byte none (x ∷ table) h zero = (and_parts (not (nat_eq x byte)) (lacks byte table) h).0
digit_lacks byte none (x ∷ table) h (suc i) = digit_lacks byte none table (and_parts (not (nat_eq x byte)) (lacks byte table) h).1 i

hex_lacks : (bytes : List ℕ) → lacks 10 (encode_lower bytes) ≡ true
unfolding encode_with
hex_lacks [] = refl
hex_lacks (b ∷ bytes) =
    let high = digit_lacks 10 refl lower_digits refl (b / 16) in
    let low = digit_lacks 10 refl lower_digits refl (b % 16) in
    rw (high, low) (hex_lacks bytes)

pub witness_lacks : (witness : Option (List ℕ)) → lacks 10 (witness_word witness) ≡ true
witness_lacks None = refl
witness_lacks (Some bytes) = hex_lacks bytes

-- the last lines in one row
pub last-row : (witness : Option (List ℕ)) → last_text witness ≡ codes "witness " ++ (witness_word witness ++ 10 ∷ codes "end\n")
last-row witness = ap (λ text. codes "witness " ++ text) (append_assoc (witness_word witness) (10 ∷ []) (codes "end\n"))
