-- Packed lists whose bodies are all of one length.
use Rattle.std.proofs.Common.{◌≡◌, ◌*◌, ℕ, List, [], ◌∷◌, length, refl, ap, arith, length-append, rules}
use Rattle.std.specs.List.{AllByRecursion}
use Rattle.pg_schema.specs.declared.parts.field.Element.{Element}
use Rattle.pg_wire.specs.declared.record.WireType.TheVariants.{I64, I32}
use Rattle.pg_dyn.specs.message.Message.{Leaf, Int, F32, F64, Bytes}
use Rattle.pg_dyn.specs.word.Coding.{Form, Integer, Single, Double, Text, Raw, InRange, body, form, form_wire, word_bytes}
use Rattle.pg_dyn.specs.encoding.Lending.{Bare, bare_leaf}
use Rattle.pg_dyn.specs.encoding.Written.{IsLeafOf, LeavesFit, packed_body}
use Rattle.pg_dyn.proofs.Lists.{each_weaker}

eight_bytes : (f : Form) (l : Leaf) → form_wire f ≡ I64 → InRange f l → length (body f l) ≡ 8
unfolding word_bytes
eight_bytes (Integer whole) (Int n) is fits = ap (λ w. length (word_bytes w (whole.word n))) is
eight_bytes Double (F64 bits) is fits = refl
eight_bytes Single (F32 bits) is fits = absurd (cc)
eight_bytes Text (Bytes bytes) is fits = absurd (cc)
eight_bytes Raw (Bytes bytes) is fits = absurd (cc)
eight_bytes f l is fits = absurd fits

four_bytes : (f : Form) (l : Leaf) → form_wire f ≡ I32 → InRange f l → length (body f l) ≡ 4
unfolding word_bytes
four_bytes (Integer whole) (Int n) is fits = ap (λ w. length (word_bytes w (whole.word n))) is
four_bytes Single (F32 bits) is fits = refl
four_bytes Double (F64 bits) is fits = absurd (cc)
four_bytes Text (Bytes bytes) is fits = absurd (cc)
four_bytes Raw (Bytes bytes) is fits = absurd (cc)
four_bytes f l is fits = absurd fits

in_range : (e : Element) (leaf : Leaf) → IsLeafOf e leaf → InRange (form e) leaf
in_range e leaf fits = grind arith

module _ {V : Type 0} (item : V → Bare) where
  all_of : (k : ℕ) (e : Element) (vs : List V) → AllByRecursion (λ v. length (body (form e) (bare_leaf (item v))) ≡ k) vs → length (packed_body item e vs) ≡ length vs * k
  all_of k e [] h = omega arith
  all_of k e (v ∷ vs) h = search (rules, arith, length-append, all_of k e vs h.1)

  pub packed_eights : (e : Element) (vs : List V) → form_wire (form e) ≡ I64 → LeavesFit item e vs → length (packed_body item e vs) ≡ length vs * 8
  packed_eights e vs is fits =
      all_of 8 e vs (each_weaker (λ v. IsLeafOf e (bare_leaf (item v))) (λ v. length (body (form e) (bare_leaf (item v))) ≡ 8) (λ v h. eight_bytes (form e) (bare_leaf (item v)) is (in_range e (bare_leaf (item v)) h)) vs fits)

  pub packed_fours : (e : Element) (vs : List V) → form_wire (form e) ≡ I32 → LeavesFit item e vs → length (packed_body item e vs) ≡ length vs * 4
  packed_fours e vs is fits =
      all_of 4 e vs (each_weaker (λ v. IsLeafOf e (bare_leaf (item v))) (λ v. length (body (form e) (bare_leaf (item v))) ≡ 4) (λ v h. four_bytes (form e) (bare_leaf (item v)) is (in_range e (bare_leaf (item v)) h)) vs fits)
