-- What a reader finds at the front of a written certificate.
use Rattle.std.specs.Prelude.{◌≡◌, ℕ, ◌⊎◌, nat_eq, Bool, not, true, List, ◌∷◌, ◌++◌, codes, slice_index}
use Rattle.std.specs.List.{AllByRecursion, list_all}
use Rattle.pg_schema.specs.declared.parts.Parts.{Parts}
use Rattle.pg_cert.specs.declared.bounds.PairBound.{PairBound}
use Rattle.pg_cert.specs.declared.heading.Heading.{Heading}
use Rattle.pg_cert.specs.Certificate.{are_bounds, Claim}
use Rattle.pg_cert.specs.Text.{IsPairOf, Names, names_of}
use Rattle.pg_cert.specs.inner.Lines.{heading_text, last_text, lines_text}

-- the byte isn't in the word
abbrev pub lacks : ℕ → List ℕ → Bool
lacks byte word = list_all (λ b. not (nat_eq b byte)) word

-- a space, or the end of a line
abbrev pub IsBlank : ℕ → Type 0
IsBlank byte = (byte ≡ 32) ⊎ (byte ≡ 10)

-- the first lines of a certificate and the first word of the next, and what follows these
abbrev pub front : Heading → List ℕ
front heading = heading_text heading ++ codes "root "

abbrev pub after_heading : Names → Names → Claim → List ℕ
after_heading old new claim =
    old claim.root.old ++ 32 ∷ (new claim.root.new ++ 10 ∷ (lines_text old new claim.bounds ++ last_text claim.witness))

-- the lines of these bounds of the schemas' pairs come before what is left
pub record IsRest (old new : Parts) (text : List ℕ) (bounds : List PairBound) (later : List ℕ) : Type 0 where
  pub of_schemas : AllByRecursion (λ (b : PairBound). IsPairOf old new b.pair) bounds
  pub are : are_bounds bounds ≡ true
  pub spelled : text ≡ lines_text (names_of old) (names_of new) bounds ++ later
  pub ends : slice_index later 0 ≡ 119

-- of those bounds these are read, and these are left
pub record IsLeft (old new : Parts) (bounds : List PairBound) (later : List ℕ) (read : List PairBound)
    (text : List ℕ) : Type 0 where
  pub left : List PairBound
  pub bounds_are : bounds ≡ read ++ left
  pub spelled : text ≡ lines_text (names_of old) (names_of new) left ++ later
