-- Bytes as hexadecimal digits (this profile's choice).
use Rattle.std.specs.Prelude.{◌≡◌, ℕ, List, [], ◌∷◌, codes, if◌then◌else◌, Option, Some}
use Rattle.std.specs.Str.{bytes_eq}
use Rattle.std.specs.Result.{result_ok}
use Rattle.hex.specs.Hex.{encode_lower, decode_of, IsBytes}

-- Two digits a byte, in lower case; no bytes are `-`.
abbrev pub hex_of : List ℕ → List ℕ
hex_of [] = codes "-"
hex_of (byte ∷ bytes) = encode_lower (byte ∷ bytes)

-- The bytes of an argument, which is `-` or two digits a byte, in either case.
abbrev pub bytes_in : List ℕ → Option (List ℕ)
bytes_in word = if bytes_eq word (codes "-") then Some [] else result_ok (decode_of word)

-- what is written of bytes is read again as these bytes
abbrev pub WordsReadAgain : Type 0
WordsReadAgain = (bytes : List ℕ) → IsBytes bytes → bytes_in (hex_of bytes) ≡ Some bytes
