-- Names that are reserved, and names that are there twice (proto3 language guide, "Reserved Fields", "JSON Mapping").
-- Names are lists of bytes, and are compared byte by byte.
use Rattle.std.specs.Prelude.{ℕ, Bool, List}
use Rattle.std.specs.Str.{bytes_eq}

-- a name or a JSON name, and where it is declared
pub record Named : Type 0 where
  pub text : List ℕ
  pub at : ℕ

abbrev pub is_same : Named → Named → Bool
is_same a b = bytes_eq a.text b.text
