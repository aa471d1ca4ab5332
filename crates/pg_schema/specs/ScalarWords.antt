-- The words of the scalar types (proto3 language guide, "Scalar Value Types").
use Rattle.std.specs.Prelude.{ℕ, Bool, true, false, List, [], ◌∷◌, codes, Option, Some, None}
use Rattle.std.specs.Str.{bytes_eq}
use Rattle.pg_schema.specs.declared.parts.field.Scalar.{Scalar}
use Rattle.pg_schema.specs.declared.parts.field.Scalar.TheVariants as scalars

pub record ScalarWord : Type 0 where
  pub word : List ℕ
  pub scalar : Scalar

abbrev pub called : List ℕ → Scalar → ScalarWord
called word scalar = record { word = word; scalar = scalar }

abbrev pub scalar_words : List ScalarWord
scalar_words = called (codes "double") scalars.Double ∷ called (codes "float") scalars.Float
    ∷ called (codes "int32") scalars.Int32 ∷ called (codes "int64") scalars.Int64
    ∷ called (codes "uint32") scalars.Uint32 ∷ called (codes "uint64") scalars.Uint64
    ∷ called (codes "sint32") scalars.Sint32 ∷ called (codes "sint64") scalars.Sint64
    ∷ called (codes "fixed32") scalars.Fixed32 ∷ called (codes "fixed64") scalars.Fixed64
    ∷ called (codes "sfixed32") scalars.Sfixed32 ∷ called (codes "sfixed64") scalars.Sfixed64
    ∷ called (codes "bool") scalars.Bool ∷ called (codes "string") scalars.String
    ∷ called (codes "bytes") scalars.Bytes ∷ []

abbrev pub found_scalar : Bool → Scalar → Option Scalar → Option Scalar
found_scalar true scalar others = Some scalar
found_scalar false scalar others = others

abbrev pub scalar_among : List ScalarWord → List ℕ → Option Scalar
scalar_among [] word = None
scalar_among (s ∷ ss) word = found_scalar (bytes_eq word s.word) s.scalar (scalar_among ss word)

unfoldable pub scalar_of : List ℕ → Option Scalar
scalar_of word = scalar_among scalar_words word
