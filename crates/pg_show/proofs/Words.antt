-- What is written of bytes is read again.
use Rattle.std.proofs.Common.{◌≡◌, ◌∙◌, ℕ, ◌/◌, ◌%◌, List, [], ◌∷◌, true, false, cond, ◌&&◌, nat_eq, Some, refl, ap}
use Rattle.std.specs.Prelude.{codes, slice_index}
use Rattle.std.specs.Result.{result_ok}
use Rattle.std.specs.Str.{bytes_eq}
use Rattle.hex.specs.Hex.{decode_of, encode_lower, encode_with, lower_digits}
use Rattle.hex.proofs.HexLemmas.{decode_of-encode_lower}
use Rattle.pg_show.specs.Hex.{WordsReadAgain}

no_hyphen : (high low : ℕ) (digits : List ℕ) → bytes_eq (high ∷ low ∷ digits) (codes "-") ≡ false
no_hyphen high low digits = elim (nat_eq high 45) as (λ b. (b && false) ≡ false) [ true ↦ refl | false ↦ refl ]

some_digits : (byte : ℕ) (bytes : List ℕ) → bytes_eq (encode_lower (byte ∷ bytes)) (codes "-") ≡ false
unfolding encode_with
some_digits byte bytes = no_hyphen (slice_index lower_digits (byte / 16)) (slice_index lower_digits (byte % 16)) (encode_with lower_digits bytes)

pub words_read_again : WordsReadAgain
words_read_again [] bytes_are = refl
words_read_again (byte ∷ bytes) bytes_are =
    ap (λ b. cond b (Some []) (result_ok (decode_of (encode_lower (byte ∷ bytes))))) (some_digits byte bytes) ∙ ap result_ok (decode_of-encode_lower (byte ∷ bytes) bytes_are)
