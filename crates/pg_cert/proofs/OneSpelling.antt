-- Two certificates that one string spells are equal.
use Rattle.std.specs.Prelude.{codes}
use Rattle.std.proofs.Common.{◌≡◌, ℕ, ◌+◌, ◌<◌, inl, inr, true, List, [], ◌∷◌, ◌++◌, take, drop, length, slice_index, Option, Some, None, Ok, Result, refl, ap, sym, ◌∙◌, arith}
use Rattle.std.specs.List.{AllByRecursion}
use Rattle.std.proofs.lemmas.Fmt.{decimal_injective}
use Rattle.hex.specs.Hex.{decode_of}
use Rattle.hex.specs.declared.error.FromHexError.{FromHexError}
use Rattle.pg_schema.specs.declared.parts.field.TypeId.{TypeId}
use Rattle.pg_schema.specs.declared.parts.Parts.{Parts}
use Rattle.pg_schema.specs.Invariant.{IsSchema}
use Rattle.pg_pairs.specs.declared.choices.choice.Pair.{Pair}
use Rattle.pg_cert.specs.declared.bounds.PairBound.{PairBound}
use Rattle.pg_cert.specs.Certificate.{is_bound, are_bounds}
use Rattle.pg_cert.specs.Witness.{AreBytes}
use Rattle.pg_cert.specs.inner.Reading.{lacks, IsBlank}
use Rattle.pg_cert.specs.Text.{IsPairOf, names_of, bound_word, view_of, witness_word}
use Rattle.pg_cert.specs.inner.Lines.{lines_text, last_text}
use Rattle.pg_cert.specs.laws.CertificateLaws.{OneSpelling}
use Rattle.pg_cert.proofs.Cuts.{position-found, front-found, back-found}
use Rattle.pg_cert.proofs.Fronts.{same_after}
use Rattle.pg_cert.proofs.HeadingsRead.{same_heading}
use Rattle.pg_cert.proofs.LinesRead.{words_of, row}
use Rattle.pg_cert.proofs.Plain.{name_there, name_lacks}
use Rattle.pg_cert.proofs.Tables.{first_of_bounds}
use Rattle.pg_cert.proofs.WholeRead.{head-row}
use Rattle.pg_cert.proofs.WitnessRead.{decoded, none_said, witness_lacks, last-row}
use Rattle.pg_cert.proofs.WordsRead.{bound_small, bound_lacks, decimal-not_none}

-- a word before the first such byte
module _ (byte : ℕ) (v w r s : List ℕ) (v_lacks : lacks byte v ≡ true) (w_lacks : lacks byte w ≡ true) (same : v ++ byte ∷ r ≡ w ++ byte ∷ s) where
  as_long : length v ≡ length w
  as_long =
      let here = position-found byte (v ++ byte ∷ r) v r v_lacks refl in
      let there = position-found byte (v ++ byte ∷ r) w s w_lacks same in
      cc

  same_word : v ≡ w
  same_word = sym (front-found byte (v ++ byte ∷ r) v r refl) ∙ ap (λ n. take n (v ++ byte ∷ r)) as_long ∙ front-found byte (v ++ byte ∷ r) w s same

  same_rest : r ≡ s
  same_rest = sym (back-found byte (v ++ byte ∷ r) v r refl) ∙ ap (λ n. drop (n + 1) (v ++ byte ∷ r)) as_long ∙ back-found byte (v ++ byte ∷ r) w s same

same_bound : (a b : Option ℕ) → is_bound a ≡ true → is_bound b ≡ true → bound_word a ≡ bound_word b → a ≡ b
same_bound None None h k is = refl
same_bound None (Some n) h k is = let small = bound_small n k in absurd (decimal-not_none n (omega arith) (sym is))
same_bound (Some m) None h k is = let small = bound_small m h in absurd (decimal-not_none m (omega arith) is)
same_bound (Some m) (Some n) h k is =
    let low = bound_small m h in let small = bound_small n k in
    ap (λ x. Some x) (decimal_injective m n (omega arith) (omega arith) is)

same_witness : (a b : Option (List ℕ)) → AreBytes a → AreBytes b → witness_word a ≡ witness_word b → a ≡ b
same_witness None b h k is = sym (none_said b k (sym is))
same_witness (Some a) None h k is = none_said (Some a) h is
same_witness (Some a) (Some b) h k is =
    let both : ◌≡◌ {A = Result (List ℕ) FromHexError} (Ok a) (Ok b) = sym (decoded a h) ∙ ap decode_of is ∙ decoded b k in
    cc

space : IsBlank 32
space = inl refl

end : IsBlank 10
end = inr refl

module _ (old new : Parts) (is_old : IsSchema old) (is_new : IsSchema new) where
  same_type : (parts : Parts) → IsSchema parts → (a b : TypeId) → a.index < length parts.types.items → b.index < length parts.types.items → names_of parts a ≡ names_of parts b → a ≡ b
  same_type parts is a b a_there b_there h = is.names a b (names_of parts a) (name_there parts a a_there) (name_there parts b b_there ∙ ap (λ n. Some n) (sym h))

  -- the names of a pair, and what follows them
  same_pair : (a b : Pair) (blank : ℕ) (r s : List ℕ) → IsBlank blank → IsPairOf old new a → IsPairOf old new b →
      names_of old a.old ++ 32 ∷ (names_of new a.new ++ blank ∷ r) ≡ names_of old b.old ++ 32 ∷ (names_of new b.new ++ blank ∷ s) → (a ≡ b) × (r ≡ s)
  same_pair a b blank r s is_blank a_there b_there is =
      let a_lacks = name_lacks old a.old 32 is_old a_there.0 space in
      let b_lacks = name_lacks old b.old 32 is_old b_there.0 space in
      let first = same_word 32 (names_of old a.old) (names_of old b.old) (names_of new a.new ++ blank ∷ r) (names_of new b.new ++ blank ∷ s) a_lacks b_lacks is in
      let later = same_rest 32 (names_of old a.old) (names_of old b.old) (names_of new a.new ++ blank ∷ r) (names_of new b.new ++ blank ∷ s) a_lacks b_lacks is in
      let a_new = name_lacks new a.new blank is_new a_there.1 is_blank in
      let b_new = name_lacks new b.new blank is_new b_there.1 is_blank in
      let second = same_word blank (names_of new a.new) (names_of new b.new) r s a_new b_new later in
      let old_is = same_type old is_old a.old b.old a_there.0 b_there.0 first in
      let new_is = same_type new is_new a.new b.new a_there.1 b_there.1 second in
      (λ j. record { old = old_is j; new = new_is j }, same_rest blank (names_of new a.new) (names_of new b.new) r s a_new b_new later)

  same_last : (a b : Option (List ℕ)) → AreBytes a → AreBytes b → last_text a ≡ last_text b → a ≡ b
  same_last a b h k is =
      let words : witness_word a ++ 10 ∷ codes "end\n" ≡ witness_word b ++ 10 ∷ codes "end\n" = same_after (codes "witness ") (witness_word a ++ 10 ∷ codes "end\n") (witness_word b ++ 10 ∷ codes "end\n") (sym (last-row a) ∙ is ∙ last-row b) in
      same_witness a b h k (same_word 10 (witness_word a) (witness_word b) (codes "end\n") (codes "end\n") (witness_lacks a) (witness_lacks b) words)

  line_row : (b : PairBound) (bounds : List PairBound) (later : List ℕ) → lines_text (names_of old) (names_of new) (b ∷ bounds) ++ later ≡ codes "pair " ++ words_of old new b (lines_text (names_of old) (names_of new) bounds ++ later)
  line_row b bounds later = row (names_of old b.pair.old) (names_of new b.pair.new) (bound_word b.bound) (lines_text (names_of old) (names_of new) bounds) later

  pair_begins : (witness : Option (List ℕ)) (words : List ℕ) → last_text witness ≡ codes "pair " ++ words → ⊥
  pair_begins witness words is =
      let first : ◌≡◌ {A = ℕ} 119 112 = sym (ap (λ t. slice_index t 0) (last-row witness)) ∙ ap (λ t. slice_index t 0) is in omega arith

  same_lines : (front others : List PairBound) (v w : Option (List ℕ)) → AllByRecursion (λ (b : PairBound). IsPairOf old new b.pair) front → AllByRecursion (λ (b : PairBound). IsPairOf old new b.pair) others → are_bounds front ≡ true → are_bounds others ≡ true → AreBytes v → AreBytes w →
      lines_text (names_of old) (names_of new) front ++ last_text v ≡ lines_text (names_of old) (names_of new) others ++ last_text w → (front ≡ others) × (v ≡ w)
  same_lines [] [] v w as_there bs_there h k v_bytes w_bytes is = (refl, same_last v w v_bytes w_bytes is)
  same_lines [] (b ∷ others) v w as_there bs_there h k v_bytes w_bytes is = absurd (pair_begins v (words_of old new b (lines_text (names_of old) (names_of new) others ++ last_text w)) (is ∙ line_row b others (last_text w)))
  same_lines (a ∷ front) [] v w as_there bs_there h k v_bytes w_bytes is = absurd (pair_begins w (words_of old new a (lines_text (names_of old) (names_of new) front ++ last_text v)) (sym is ∙ line_row a front (last_text v)))
  same_lines (a ∷ front) (b ∷ others) v w as_there bs_there h k v_bytes w_bytes is =
      let x = lines_text (names_of old) (names_of new) front ++ last_text v in
      let y = lines_text (names_of old) (names_of new) others ++ last_text w in
      let words = same_after (codes "pair ") (words_of old new a x) (words_of old new b y) (sym (line_row a front (last_text v)) ∙ is ∙ line_row b others (last_text w)) in
      let pair = same_pair a.pair b.pair 32 (bound_word a.bound ++ 10 ∷ x) (bound_word b.bound ++ 10 ∷ y) space as_there.0 bs_there.0 words in
      let one = first_of_bounds a front h in
      let other = first_of_bounds b others k in
      let bound = same_bound a.bound b.bound one.0 other.0 (same_word 10 (bound_word a.bound) (bound_word b.bound) x y (bound_lacks a.bound one.0) (bound_lacks b.bound other.0) pair.1) in
      let later = same_lines front others v w as_there.1 bs_there.1 one.1 other.1 v_bytes w_bytes (same_rest 10 (bound_word a.bound) (bound_word b.bound) x y (bound_lacks a.bound one.0) (bound_lacks b.bound other.0) pair.1) in
      let pair_is = pair.0 in let later_is = later.0 in
      (λ j. record { pair = pair_is j; bound = bound j } ∷ later_is j, later.1)

pub one_spelling : OneSpelling
one_spelling old new text a b is_old is_new a_is b_is =
    let one = a_is.has_texts in
    let other = b_is.has_texts in
    let fronts = same_heading a_is.heading b_is.heading _ _ (sym (head-row a_is.heading (names_of old) (names_of new) a) ∙ sym a_is.spelled ∙ b_is.spelled ∙ head-row b_is.heading (names_of old) (names_of new) b) in
    let view_is : a.view ≡ b.view = sym a_is.viewed ∙ ap view_of fronts.0 ∙ b_is.viewed in
    let root = same_pair old new is_old is_new a.root b.root 10 _ _ end one.of_schemas.root other.of_schemas.root fronts.1 in
    let lines = same_lines old new is_old is_new a.bounds b.bounds a.witness b.witness one.of_schemas.bounds other.of_schemas.bounds one.bounds other.bounds one.bytes other.bytes root.1 in
    let root_is = root.0 in let bounds_are = lines.0 in let witness_is = lines.1 in
    λ j. record { view = view_is j; root = root_is j; bounds = bounds_are j; witness = witness_is j }
