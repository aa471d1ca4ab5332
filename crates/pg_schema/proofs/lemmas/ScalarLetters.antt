-- Scalar words by their first letters.
use Rattle.std.proofs.Common.{◌≡◌, ◌∷◌, [], ℕ, List, false, Some, None, codes, nat_eq, slice_get, arith, sym, ap, refl, ◌∙◌}
use Rattle.std.proofs.lemmas.Bool.Decides.{nat_tests}
use Rattle.std.proofs.lemmas.Option.{same_Some}
use Rattle.std.specs.Str.{bytes_eq}
use Rattle.pg_schema.specs.ScalarWords.{scalar_of}
use Rattle.pg_schema.proofs.lemmas.Texts.{bytes_eq-other}

-- a word and its first letter
abbrev pub letters_behind : List ℕ → List ℕ
letters_behind [] = []
letters_behind (c ∷ cs) = cs

none_some : (b : ℕ) → None ≡ Some b → ⊥
none_some b is = absurd (cc (is))

pub begins : (word : List ℕ) (b : ℕ) → slice_get word 0 ≡ Some b → word ≡ b ∷ letters_behind word
begins [] b is = absurd (none_some b is)
begins (c ∷ cs) b is = ap (λ d. d ∷ cs) (same_Some c b is)

pub empty : (word : List ℕ) → None ≡ slice_get word 0 → None ≡ scalar_of word
unfolding scalar_of
empty [] is = refl
empty (c ∷ cs) is = absurd (none_some c is)

pub differs : (b n : ℕ) → (b ≡ n → ⊥) → nat_eq b n ≡ false
differs b n other = grind (arith, nat_tests)

-- another word of that letter
pub off : (word code rest : List ℕ) (b : ℕ) → word ≡ b ∷ rest → (word ≡ code → ⊥) → bytes_eq (b ∷ rest) code ≡ false
off word code rest b is other = ap (λ w. bytes_eq w code) (sym is) ∙ bytes_eq-other word code other

pub none_by_b : (rest : List ℕ) → bytes_eq (98 ∷ rest) (codes "bool") ≡ false → bytes_eq (98 ∷ rest) (codes "bytes") ≡ false → None ≡ scalar_of (98 ∷ rest)
unfolding scalar_of
none_by_b rest bool bytes = simp (bool, bytes) refl

pub none_by_d : (rest : List ℕ) → bytes_eq (100 ∷ rest) (codes "double") ≡ false → None ≡ scalar_of (100 ∷ rest)
unfolding scalar_of
none_by_d rest double = simp (double) refl

pub none_by_f : (rest : List ℕ) → bytes_eq (102 ∷ rest) (codes "float") ≡ false → bytes_eq (102 ∷ rest) (codes "fixed32") ≡ false → bytes_eq (102 ∷ rest) (codes "fixed64") ≡ false → None ≡ scalar_of (102 ∷ rest)
unfolding scalar_of
none_by_f rest float fixed32 fixed64 = simp (float, fixed32, fixed64) refl

pub none_by_i : (rest : List ℕ) → bytes_eq (105 ∷ rest) (codes "int32") ≡ false → bytes_eq (105 ∷ rest) (codes "int64") ≡ false → None ≡ scalar_of (105 ∷ rest)
unfolding scalar_of
none_by_i rest int32 int64 = simp (int32, int64) refl

pub none_by_s : (rest : List ℕ) → bytes_eq (115 ∷ rest) (codes "sint32") ≡ false → bytes_eq (115 ∷ rest) (codes "sint64") ≡ false → bytes_eq (115 ∷ rest) (codes "sfixed32") ≡ false → bytes_eq (115 ∷ rest) (codes "sfixed64") ≡ false → bytes_eq (115 ∷ rest) (codes "string") ≡ false → None ≡ scalar_of (115 ∷ rest)
unfolding scalar_of
none_by_s rest sint32 sint64 sfixed32 sfixed64 string = simp (sint32, sint64, sfixed32, sfixed64, string) refl

pub none_by_u : (rest : List ℕ) → bytes_eq (117 ∷ rest) (codes "uint32") ≡ false → bytes_eq (117 ∷ rest) (codes "uint64") ≡ false → None ≡ scalar_of (117 ∷ rest)
unfolding scalar_of
none_by_u rest uint32 uint64 = simp (uint32, uint64) refl

-- another letter
pub none_by_other : (b : ℕ) (rest : List ℕ) → nat_eq b 98 ≡ false → nat_eq b 100 ≡ false → nat_eq b 102 ≡ false → nat_eq b 105 ≡ false → nat_eq b 115 ≡ false → nat_eq b 117 ≡ false → None ≡ scalar_of (b ∷ rest)
unfolding scalar_of
none_by_other b rest not_b not_d not_f not_i not_s not_u = simp (not_b, not_d, not_f, not_i, not_s, not_u) refl
