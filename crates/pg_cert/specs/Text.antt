-- How a certificate is written, by lines (this project's choice). Strings are lists of bytes.
use Rattle.std.specs.Prelude.{◌≡◌, ℕ, ◌<◌, true, List, [], ◌∷◌, ◌++◌, map, flat_map, length, codes, decimal, Option, Some, None, unwrap_or}
use Rattle.std.specs.List.{AllByRecursion}
use Rattle.hex.specs.Hex.{encode_lower}
use Rattle.pg_schema.specs.declared.parts.field.TypeId.{TypeId}
use Rattle.pg_schema.specs.declared.parts.Parts.{Parts}
use Rattle.pg_schema.specs.Parts.{name_at}
use Rattle.pg_dyn.specs.declared.view_name.ViewName.{ViewName}
use Rattle.pg_dyn.specs.declared.view_name.ViewName.TheVariants as views
use Rattle.pg_pairs.specs.declared.choices.choice.Pair.{Pair}
use Rattle.pg_cert.specs.declared.bounds.PairBound.{PairBound}
use Rattle.pg_cert.specs.declared.heading.Heading.{Heading}
use Rattle.pg_cert.specs.declared.heading.Heading.TheVariants as headings
use Rattle.pg_cert.specs.Certificate.{are_bounds, Claim}
use Rattle.pg_cert.specs.Witness.{AreBytes, is_witness}

-- a word with one space before it
abbrev pub spaced_word : List ℕ → List ℕ
spaced_word word = 32 ∷ word

-- words after the first, each with one space before it, and the line's end
abbrev pub spaced : List (List ℕ) → List ℕ
spaced [] = 10 ∷ []
spaced (word ∷ words) = spaced_word word ++ spaced words

abbrev pub line_of : List (List ℕ) → List ℕ
line_of [] = 10 ∷ []
line_of (word ∷ words) = word ++ spaced words

-- how the types of one side are called
abbrev pub Names : Type 0
Names = TypeId → List ℕ

abbrev pub bound_word : Option ℕ → List ℕ
bound_word (Some bound) = decimal bound
bound_word None = codes "none"

abbrev pub witness_word : Option (List ℕ) → List ℕ
witness_word (Some bytes) = encode_lower bytes
witness_word None = codes "none"

abbrev pub root_words : Names → Names → Pair → List (List ℕ)
root_words old new root = codes "root" ∷ old root.old ∷ new root.new ∷ []

abbrev pub bound_words : Names → Names → PairBound → List (List ℕ)
bound_words old new b = codes "pair" ∷ old b.pair.old ∷ new b.pair.new ∷ bound_word b.bound ∷ []

abbrev pub view_word : ViewName → List ℕ
view_word views.Numbers = codes "numbers"
view_word views.Names = codes "names"

-- Of two versions the first means the view by numbers, and the second names its view in a line of its own.
abbrev pub view_of : Heading → ViewName
view_of headings.First = views.Numbers
view_of (headings.Second view) = view

abbrev pub version_words : List ℕ → List (List ℕ)
version_words version = codes "protogate-certificate" ∷ version ∷ []

abbrev pub heading_lines : Heading → List (List (List ℕ))
heading_lines headings.First = version_words (codes "1") ∷ []
heading_lines (headings.Second view) = version_words (codes "2") ∷ (codes "view" ∷ view_word view ∷ []) ∷ []

abbrev pub last_words : Option (List ℕ) → List (List (List ℕ))
last_words witness = (codes "witness" ∷ witness_word witness ∷ []) ∷ (codes "end" ∷ []) ∷ []

-- the lines of a certificate after its heading
abbrev pub claim_lines : Names → Names → Claim → List (List (List ℕ))
claim_lines old new claim =
    root_words old new claim.root ∷ map (bound_words old new) claim.bounds ++ last_words claim.witness

-- the whole certificate under a heading
abbrev pub text_of : Heading → Names → Names → Claim → List ℕ
text_of heading old new claim = flat_map line_of (heading_lines heading ++ claim_lines old new claim)

-- the full names of a schema's message types
abbrev pub names_of : Parts → Names
names_of parts id = unwrap_or (name_at parts.types.items id) []

-- each type is there, on its side
abbrev pub IsPairOf : Parts → Parts → Pair → Type 0
IsPairOf old new pair = (pair.old.index < length old.types.items) × (pair.new.index < length new.types.items)

-- all pairs of a claim are pairs of the two schemas' types
pub record IsClaimOf (old new : Parts) (claim : Claim) : Type 0 where
  pub root : IsPairOf old new claim.root
  pub bounds : AllByRecursion (λ (b : PairBound). IsPairOf old new b.pair) claim.bounds

-- a claim of these schemas that can be written: what it holds is in range
pub record HasTexts (old new : Parts) (claim : Claim) : Type 0 where
  pub of_schemas : IsClaimOf old new claim
  pub bounds : are_bounds claim.bounds ≡ true
  pub witness : is_witness claim.witness ≡ true
  pub bytes : AreBytes claim.witness

-- The string is the one spelling of the claim in its version: in version 1 only where the claim's view is that by
-- numbers.
pub record Certifies (old new : Parts) (text : List ℕ) (claim : Claim) : Type 0 where
  pub has_texts : HasTexts old new claim
  pub heading : Heading
  pub viewed : view_of heading ≡ claim.view
  pub spelled : text ≡ text_of heading (names_of old) (names_of new) claim

-- the string spells the claim in version 2
abbrev pub IsSecondText : Parts → Parts → List ℕ → Claim → Type 0
IsSecondText old new text claim = text ≡ text_of (headings.Second claim.view) (names_of old) (names_of new) claim
