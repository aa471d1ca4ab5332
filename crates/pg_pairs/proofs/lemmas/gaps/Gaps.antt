-- The table of gaps is true.
use Rattle.std.proofs.Common.{◌≡◌, ℕ, pos, negsuc, suc, ◌+◌, ◌-◌, ◌*◌, ◌^◌, ◌<◌, ◌≤◌, Bool, true, false, [], ◌∷◌, length, Some, None, refl, ap, ◌∙◌, arith, length-append, rules}
use Rattle.std.specs.Str.{is_utf8, chars}
use Rattle.pg_schema.specs.declared.parts.field.Scalar.{Scalar}
use Rattle.pg_schema.specs.declared.parts.field.Scalar.TheVariants as scalars
use Rattle.pg_schema.specs.declared.parts.field.Element.TheVariants as elements
use Rattle.pg_wire.specs.Varint.{varint}
use Rattle.pg_wire.specs.Words.{signed, unzigzag}
use Rattle.pg_dyn.specs.message.Message.{Leaf, Int, F32, F64, Bytes, is_zero}
use Rattle.pg_dyn.specs.word.Coding.{Whole, Form, Integer, int32, scalar_form, body, leaf_in, word_bytes, word_in, InRange}
use Rattle.pg_dyn.specs.views.Comparison.{numbers}
use Rattle.pg_pairs.specs.declared.gaps.gap_kind.Gap.{Gap}
use Rattle.pg_pairs.specs.declared.gaps.gap_kind.Gap.TheVariants as gaps
use Rattle.pg_pairs.specs.gaps.Likeness.{like}
use Rattle.pg_pairs.specs.gaps.Gaps.{body_length, item_named, gap}
use Rattle.pg_pairs.specs.gaps.TrueGaps.{is_seen, ItemCounts, IsGapItem, IsTrueOf, GapTable}
use Rattle.pg_pairs.proofs.lemmas.gaps.Leaves.{seen_from}
use Rattle.pg_dyn.proofs.PublicLaws.{bodies_read_again, equal_leaves}
use Rattle.pg_wire.proofs.PublicLaws.{lengths_grow}

-- an item in the range of an integer type is a number in this range
only_ints : (P : Leaf → Type 0) (w : Whole) → ((n : ℕ) → n < w.above → P (Int (pos n))) → ((n : ℕ) → n < w.below → P (Int (negsuc n))) → (item : Leaf) → InRange (Integer w) item → P item
only_ints P w above below (Int (pos n)) h = above n h
only_ints P w above below (Int (negsuc n)) h = below n h
only_ints P w above below (F32 bits) h = absurd h
only_ints P w above below (F64 bits) h = absurd h
only_ints P w above below (Bytes bytes) h = absurd h

-- An item that is in both ranges and has one body for both types is seen.
seen_in_both : (s t : Scalar) (item : Leaf) → InRange (scalar_form t) item → body (scalar_form s) item ≡ body (scalar_form t) item → is_seen numbers (elements.Scalar s) (elements.Scalar t) item ≡ true
seen_in_both s t item h same =
    seen_from numbers (elements.Scalar s) (elements.Scalar t) item (ap (leaf_in (scalar_form t)) same ∙ (bodies_read_again (elements.Scalar t) item h).read)
    ((equal_leaves item item).1 refl)

no_gap : (s t : Scalar) → ((item : Leaf) → InRange (scalar_form s) item → InRange (scalar_form t) item × (body (scalar_form s) item ≡ body (scalar_form t) item)) → IsGapItem numbers true (elements.Scalar s) (elements.Scalar t) None
no_gap s t same item h counts = seen_in_both s t item (same item h).0 (same item h).1

no_gap_same : (s : Scalar) → IsGapItem numbers true (elements.Scalar s) (elements.Scalar s) None
no_gap_same s = no_gap s s (λ item h. (h, refl))

-- what isn't seen, of one body for both types, is out of range
out_of_range : (s t : Scalar) (item : Leaf) → is_seen numbers (elements.Scalar s) (elements.Scalar t) item ≡ false → body (scalar_form s) item ≡ body (scalar_form t) item → InRange (scalar_form t) item → ⊥
out_of_range s t item unseen same h = let seen = seen_in_both s t item h same in cc

a_gap : (s t : Scalar) (item : Leaf) → InRange (scalar_form s) item → is_seen numbers (elements.Scalar s) (elements.Scalar t) item ≡ false → ((other : Leaf) → InRange (scalar_form s) other → is_seen numbers (elements.Scalar s) (elements.Scalar t) other ≡ false → body_length (scalar_form s) item ≤ body_length (scalar_form s) other) → IsGapItem numbers true (elements.Scalar s) (elements.Scalar t) (Some item)
a_gap s t item range unseen least = search rules

abbrev whole_in : Form → Whole
whole_in (Integer w) = w
whole_in f = int32

-- the integer types
abbrev whole_int32 : Whole
whole_int32 = whole_in (scalar_form scalars.Int32)

abbrev whole_int64 : Whole
whole_int64 = whole_in (scalar_form scalars.Int64)

abbrev whole_uint32 : Whole
whole_uint32 = whole_in (scalar_form scalars.Uint32)

abbrev whole_uint64 : Whole
whole_uint64 = whole_in (scalar_form scalars.Uint64)

abbrev whole_bool : Whole
whole_bool = whole_in (scalar_form scalars.Bool)

abbrev whole_sint32 : Whole
whole_sint32 = whole_in (scalar_form scalars.Sint32)

abbrev whole_sint64 : Whole
whole_sint64 = whole_in (scalar_form scalars.Sint64)

abbrev whole_fixed32 : Whole
whole_fixed32 = whole_in (scalar_form scalars.Fixed32)

abbrev whole_fixed64 : Whole
whole_fixed64 = whole_in (scalar_form scalars.Fixed64)

abbrev whole_sfixed32 : Whole
whole_sfixed32 = whole_in (scalar_form scalars.Sfixed32)

abbrev whole_sfixed64 : Whole
whole_sfixed64 = whole_in (scalar_form scalars.Sfixed64)

text_seen : IsGapItem numbers true (elements.Scalar scalars.String) (elements.Scalar scalars.Bytes) None
text_seen (Bytes bytes) h counts = (equal_leaves (Bytes bytes) (Bytes bytes)).1 refl
text_seen (Int n) h counts = absurd h
text_seen (F32 bits) h counts = absurd h
text_seen (F64 bits) h counts = absurd h

-- the shortest bytes that aren't UTF-8 are one byte
no_text : (other : Leaf) → InRange (scalar_form scalars.Bytes) other → is_seen numbers (elements.Scalar scalars.Bytes) (elements.Scalar scalars.String) other ≡ false → 2 ≤ body_length (scalar_form scalars.Bytes) other
unfolding is_utf8 chars
no_text (Bytes []) h unseen = absurd (cc)
no_text (Bytes (b ∷ bytes)) h unseen = search (rules, lengths_grow, length-append)
no_text (Int n) h unseen = absurd h
no_text (F32 bits) h unseen = absurd h
no_text (F64 bits) h unseen = absurd h

-- With zero among the items, the least is that over all of them, and it isn't zero.
abbrev IsTrueOfAll : Scalar → Scalar → Gap → Type 0
IsTrueOfAll s t gaps.Unlike = like (elements.Scalar s) (elements.Scalar t) ≡ false
IsTrueOfAll s t gaps.None = (like (elements.Scalar s) (elements.Scalar t) ≡ true)
    × IsGapItem numbers true (elements.Scalar s) (elements.Scalar t) None
IsTrueOfAll s t (gaps.Least length value) =
    (like (elements.Scalar s) (elements.Scalar t) ≡ true) × (body_length (scalar_form s) (item_named (scalar_form s) value) ≡ length)
    × IsGapItem numbers true (elements.Scalar s) (elements.Scalar t) (Some (item_named (scalar_form s) value))
    × (is_zero (item_named (scalar_form s) value) ≡ false)

all_gaps : (s t : Scalar) → IsTrueOfAll s t (gap s t)
unfolding varint word_bytes word_in signed unzigzag is_utf8 chars
all_gaps scalars.Int32 scalars.Int32 = (refl, no_gap_same scalars.Int32)
all_gaps scalars.Int32 scalars.Int64 = (refl, no_gap scalars.Int32 scalars.Int64 (only_ints _ whole_int32 (λ n r. (omega arith, refl)) (λ n r. (omega arith, refl))))
all_gaps scalars.Int32 scalars.Uint32 = (
  refl,
  refl,
  a_gap scalars.Int32 scalars.Uint32 (Int (negsuc 0)) (omega arith) refl
      (only_ints _ whole_int32 (λ n r u. absurd (out_of_range scalars.Int32 scalars.Uint32 (Int (pos n)) u refl (omega arith)))
      (λ n r u. lengths_grow.0 (2 ^ 63) (2 ^ 64 - suc n) (omega arith))),
  refl,
)
all_gaps scalars.Int32 scalars.Uint64 = (
  refl,
  refl,
  a_gap scalars.Int32 scalars.Uint64 (Int (negsuc 0)) (omega arith) refl
      (only_ints _ whole_int32 (λ n r u. absurd (out_of_range scalars.Int32 scalars.Uint64 (Int (pos n)) u refl (omega arith)))
      (λ n r u. lengths_grow.0 (2 ^ 63) (2 ^ 64 - suc n) (omega arith))),
  refl,
)
all_gaps scalars.Int32 scalars.Bool = (refl, refl, a_gap scalars.Int32 scalars.Bool (Int (pos 2)) (omega arith) refl (only_ints _ whole_int32 (λ n r u. lengths_grow.3 _) (λ n r u. lengths_grow.3 _)), refl)
all_gaps scalars.Int32 scalars.Sint32 = (refl, refl, a_gap scalars.Int32 scalars.Sint32 (Int (pos 1)) (omega arith) refl (only_ints _ whole_int32 (λ n r u. lengths_grow.3 _) (λ n r u. lengths_grow.3 _)), refl)
all_gaps scalars.Int32 scalars.Sint64 = (refl, refl, a_gap scalars.Int32 scalars.Sint64 (Int (pos 1)) (omega arith) refl (only_ints _ whole_int32 (λ n r u. lengths_grow.3 _) (λ n r u. lengths_grow.3 _)), refl)
all_gaps scalars.Int32 t = refl
all_gaps scalars.Int64 scalars.Int32 = (
  refl,
  refl,
  a_gap scalars.Int64 scalars.Int32 (Int (pos (2 ^ 31))) (omega arith) refl
      (only_ints _ whole_int64 (λ n r u. let out : n < (2 ^ 31) → ⊥ = λ k. out_of_range scalars.Int64 scalars.Int32 (Int (pos n)) u refl k in lengths_grow.0 (2 ^ 31) n (omega arith))
      (λ n r u. lengths_grow.0 (2 ^ 31) (2 ^ 64 - suc n) (omega arith))),
  refl,
)
all_gaps scalars.Int64 scalars.Int64 = (refl, no_gap_same scalars.Int64)
all_gaps scalars.Int64 scalars.Uint32 = (
  refl,
  refl,
  a_gap scalars.Int64 scalars.Uint32 (Int (pos (2 ^ 32))) (omega arith) refl
      (only_ints _ whole_int64 (λ n r u. let out : n < (2 ^ 32) → ⊥ = λ k. out_of_range scalars.Int64 scalars.Uint32 (Int (pos n)) u refl k in lengths_grow.0 (2 ^ 32) n (omega arith))
      (λ n r u. lengths_grow.0 (2 ^ 32) (2 ^ 64 - suc n) (omega arith))),
  refl,
)
all_gaps scalars.Int64 scalars.Uint64 = (
  refl,
  refl,
  a_gap scalars.Int64 scalars.Uint64 (Int (negsuc 0)) (omega arith) refl
      (only_ints _ whole_int64 (λ n r u. absurd (out_of_range scalars.Int64 scalars.Uint64 (Int (pos n)) u refl (omega arith)))
      (λ n r u. lengths_grow.0 (2 ^ 63) (2 ^ 64 - suc n) (omega arith))),
  refl,
)
all_gaps scalars.Int64 scalars.Bool = (refl, refl, a_gap scalars.Int64 scalars.Bool (Int (pos 2)) (omega arith) refl (only_ints _ whole_int64 (λ n r u. lengths_grow.3 _) (λ n r u. lengths_grow.3 _)), refl)
all_gaps scalars.Int64 scalars.Sint32 = (refl, refl, a_gap scalars.Int64 scalars.Sint32 (Int (pos 1)) (omega arith) refl (only_ints _ whole_int64 (λ n r u. lengths_grow.3 _) (λ n r u. lengths_grow.3 _)), refl)
all_gaps scalars.Int64 scalars.Sint64 = (refl, refl, a_gap scalars.Int64 scalars.Sint64 (Int (pos 1)) (omega arith) refl (only_ints _ whole_int64 (λ n r u. lengths_grow.3 _) (λ n r u. lengths_grow.3 _)), refl)
all_gaps scalars.Int64 t = refl
all_gaps scalars.Uint32 scalars.Int32 =
    search (rules, a_gap, pos, only_ints, out_of_range, lengths_grow)
all_gaps scalars.Uint32 scalars.Int64 = (refl, no_gap scalars.Uint32 scalars.Int64 (only_ints _ whole_uint32 (λ n r. (omega arith, refl)) (λ n r. (omega arith, refl))))
all_gaps scalars.Uint32 scalars.Uint32 = (refl, no_gap_same scalars.Uint32)
all_gaps scalars.Uint32 scalars.Uint64 = (refl, no_gap scalars.Uint32 scalars.Uint64 (only_ints _ whole_uint32 (λ n r. (omega arith, refl)) (λ n r. (omega arith, refl))))
all_gaps scalars.Uint32 scalars.Bool = (refl, refl, a_gap scalars.Uint32 scalars.Bool (Int (pos 2)) (omega arith) refl (only_ints _ whole_uint32 (λ n r u. lengths_grow.3 _) (λ n r u. lengths_grow.3 _)), refl)
all_gaps scalars.Uint32 scalars.Sint32 = (refl, refl, a_gap scalars.Uint32 scalars.Sint32 (Int (pos 1)) (omega arith) refl (only_ints _ whole_uint32 (λ n r u. lengths_grow.3 _) (λ n r u. lengths_grow.3 _)), refl)
all_gaps scalars.Uint32 scalars.Sint64 = (refl, refl, a_gap scalars.Uint32 scalars.Sint64 (Int (pos 1)) (omega arith) refl (only_ints _ whole_uint32 (λ n r u. lengths_grow.3 _) (λ n r u. lengths_grow.3 _)), refl)
all_gaps scalars.Uint32 t = refl
all_gaps scalars.Uint64 scalars.Int32 = (
  refl,
  refl,
  a_gap scalars.Uint64 scalars.Int32 (Int (pos (2 ^ 31))) (omega arith) refl
      (only_ints _ whole_uint64 (λ n r u. let out : n < (2 ^ 31) → ⊥ = λ k. out_of_range scalars.Uint64 scalars.Int32 (Int (pos n)) u refl k in lengths_grow.0 (2 ^ 31) n (omega arith))
      (λ n r u. lengths_grow.0 (2 ^ 31) (2 ^ 64 - suc n) (omega arith))),
  refl,
)
all_gaps scalars.Uint64 scalars.Int64 = (
  refl,
  refl,
  a_gap scalars.Uint64 scalars.Int64 (Int (pos (2 ^ 63))) (omega arith) refl
      (only_ints _ whole_uint64 (λ n r u. let out : n < (2 ^ 63) → ⊥ = λ k. out_of_range scalars.Uint64 scalars.Int64 (Int (pos n)) u refl k in lengths_grow.0 (2 ^ 63) n (omega arith))
      (λ n r u. lengths_grow.0 (2 ^ 63) (2 ^ 64 - suc n) (omega arith))),
  refl,
)
all_gaps scalars.Uint64 scalars.Uint32 = (
  refl,
  refl,
  a_gap scalars.Uint64 scalars.Uint32 (Int (pos (2 ^ 32))) (omega arith) refl
      (only_ints _ whole_uint64 (λ n r u. let out : n < (2 ^ 32) → ⊥ = λ k. out_of_range scalars.Uint64 scalars.Uint32 (Int (pos n)) u refl k in lengths_grow.0 (2 ^ 32) n (omega arith))
      (λ n r u. lengths_grow.0 (2 ^ 32) (2 ^ 64 - suc n) (omega arith))),
  refl,
)
all_gaps scalars.Uint64 scalars.Uint64 = (refl, no_gap_same scalars.Uint64)
all_gaps scalars.Uint64 scalars.Bool = (refl, refl, a_gap scalars.Uint64 scalars.Bool (Int (pos 2)) (omega arith) refl (only_ints _ whole_uint64 (λ n r u. lengths_grow.3 _) (λ n r u. lengths_grow.3 _)), refl)
all_gaps scalars.Uint64 scalars.Sint32 = (refl, refl, a_gap scalars.Uint64 scalars.Sint32 (Int (pos 1)) (omega arith) refl (only_ints _ whole_uint64 (λ n r u. lengths_grow.3 _) (λ n r u. lengths_grow.3 _)), refl)
all_gaps scalars.Uint64 scalars.Sint64 = (refl, refl, a_gap scalars.Uint64 scalars.Sint64 (Int (pos 1)) (omega arith) refl (only_ints _ whole_uint64 (λ n r u. lengths_grow.3 _) (λ n r u. lengths_grow.3 _)), refl)
all_gaps scalars.Uint64 t = refl
all_gaps scalars.Bool scalars.Int32 = (refl, no_gap scalars.Bool scalars.Int32 (only_ints _ whole_bool (λ n r. (omega arith, refl)) (λ n r. (omega arith, refl))))
all_gaps scalars.Bool scalars.Int64 = (refl, no_gap scalars.Bool scalars.Int64 (only_ints _ whole_bool (λ n r. (omega arith, refl)) (λ n r. (omega arith, refl))))
all_gaps scalars.Bool scalars.Uint32 = (refl, no_gap scalars.Bool scalars.Uint32 (only_ints _ whole_bool (λ n r. (omega arith, refl)) (λ n r. (omega arith, refl))))
all_gaps scalars.Bool scalars.Uint64 = (refl, no_gap scalars.Bool scalars.Uint64 (only_ints _ whole_bool (λ n r. (omega arith, refl)) (λ n r. (omega arith, refl))))
all_gaps scalars.Bool scalars.Bool = (refl, no_gap_same scalars.Bool)
all_gaps scalars.Bool scalars.Sint32 = (refl, refl, a_gap scalars.Bool scalars.Sint32 (Int (pos 1)) (omega arith) refl (only_ints _ whole_bool (λ n r u. lengths_grow.3 _) (λ n r u. lengths_grow.3 _)), refl)
all_gaps scalars.Bool scalars.Sint64 = (refl, refl, a_gap scalars.Bool scalars.Sint64 (Int (pos 1)) (omega arith) refl (only_ints _ whole_bool (λ n r u. lengths_grow.3 _) (λ n r u. lengths_grow.3 _)), refl)
all_gaps scalars.Bool t = refl
all_gaps scalars.Sint32 scalars.Int32 = (refl, refl, a_gap scalars.Sint32 scalars.Int32 (Int (negsuc 0)) (omega arith) refl (only_ints _ whole_sint32 (λ n r u. lengths_grow.3 _) (λ n r u. lengths_grow.3 _)), refl)
all_gaps scalars.Sint32 scalars.Int64 = (refl, refl, a_gap scalars.Sint32 scalars.Int64 (Int (negsuc 0)) (omega arith) refl (only_ints _ whole_sint32 (λ n r u. lengths_grow.3 _) (λ n r u. lengths_grow.3 _)), refl)
all_gaps scalars.Sint32 scalars.Uint32 = (refl, refl, a_gap scalars.Sint32 scalars.Uint32 (Int (negsuc 0)) (omega arith) refl (only_ints _ whole_sint32 (λ n r u. lengths_grow.3 _) (λ n r u. lengths_grow.3 _)), refl)
all_gaps scalars.Sint32 scalars.Uint64 = (refl, refl, a_gap scalars.Sint32 scalars.Uint64 (Int (negsuc 0)) (omega arith) refl (only_ints _ whole_sint32 (λ n r u. lengths_grow.3 _) (λ n r u. lengths_grow.3 _)), refl)
all_gaps scalars.Sint32 scalars.Bool = (refl, refl, a_gap scalars.Sint32 scalars.Bool (Int (negsuc 0)) (omega arith) refl (only_ints _ whole_sint32 (λ n r u. lengths_grow.3 _) (λ n r u. lengths_grow.3 _)), refl)
all_gaps scalars.Sint32 scalars.Sint32 = (refl, no_gap_same scalars.Sint32)
all_gaps scalars.Sint32 scalars.Sint64 = (refl, no_gap scalars.Sint32 scalars.Sint64 (only_ints _ whole_sint32 (λ n r. (omega arith, refl)) (λ n r. (omega arith, refl))))
all_gaps scalars.Sint32 t = refl
all_gaps scalars.Sint64 scalars.Int32 = (refl, refl, a_gap scalars.Sint64 scalars.Int32 (Int (negsuc 0)) (omega arith) refl (only_ints _ whole_sint64 (λ n r u. lengths_grow.3 _) (λ n r u. lengths_grow.3 _)), refl)
all_gaps scalars.Sint64 scalars.Int64 = (refl, refl, a_gap scalars.Sint64 scalars.Int64 (Int (negsuc 0)) (omega arith) refl (only_ints _ whole_sint64 (λ n r u. lengths_grow.3 _) (λ n r u. lengths_grow.3 _)), refl)
all_gaps scalars.Sint64 scalars.Uint32 = (refl, refl, a_gap scalars.Sint64 scalars.Uint32 (Int (negsuc 0)) (omega arith) refl (only_ints _ whole_sint64 (λ n r u. lengths_grow.3 _) (λ n r u. lengths_grow.3 _)), refl)
all_gaps scalars.Sint64 scalars.Uint64 = (refl, refl, a_gap scalars.Sint64 scalars.Uint64 (Int (negsuc 0)) (omega arith) refl (only_ints _ whole_sint64 (λ n r u. lengths_grow.3 _) (λ n r u. lengths_grow.3 _)), refl)
all_gaps scalars.Sint64 scalars.Bool = (refl, refl, a_gap scalars.Sint64 scalars.Bool (Int (negsuc 0)) (omega arith) refl (only_ints _ whole_sint64 (λ n r u. lengths_grow.3 _) (λ n r u. lengths_grow.3 _)), refl)
all_gaps scalars.Sint64 scalars.Sint32 = (
  refl,
  refl,
  a_gap scalars.Sint64 scalars.Sint32 (Int (pos (2 ^ 31))) (omega arith) refl
      (only_ints _ whole_sint64 (λ n r u. let out : n < 2 ^ 31 → ⊥ = λ k. out_of_range scalars.Sint64 scalars.Sint32 (Int (pos n)) u refl k in lengths_grow.0 (2 ^ 32) (2 * n) (omega arith))
      (λ n r u. let out : n < 2 ^ 31 → ⊥ = λ k. out_of_range scalars.Sint64 scalars.Sint32 (Int (negsuc n)) u refl k in lengths_grow.0 (2 ^ 32) (2 * n + 1) (omega arith))),
  refl,
)
all_gaps scalars.Sint64 scalars.Sint64 = (refl, no_gap_same scalars.Sint64)
all_gaps scalars.Sint64 t = refl
all_gaps scalars.Fixed32 scalars.Fixed32 = (refl, no_gap_same scalars.Fixed32)
all_gaps scalars.Fixed32 scalars.Sfixed32 = (refl, refl, a_gap scalars.Fixed32 scalars.Sfixed32 (Int (pos (2 ^ 31))) (omega arith) refl (only_ints _ whole_fixed32 (λ n r u. omega arith) (λ n r u. omega arith)), refl)
all_gaps scalars.Fixed32 t = refl
all_gaps scalars.Fixed64 scalars.Fixed64 = (refl, no_gap_same scalars.Fixed64)
all_gaps scalars.Fixed64 scalars.Sfixed64 = (refl, refl, a_gap scalars.Fixed64 scalars.Sfixed64 (Int (pos (2 ^ 63))) (omega arith) refl (only_ints _ whole_fixed64 (λ n r u. omega arith) (λ n r u. omega arith)), refl)
all_gaps scalars.Fixed64 t = refl
all_gaps scalars.Sfixed32 scalars.Sfixed32 = (refl, no_gap_same scalars.Sfixed32)
all_gaps scalars.Sfixed32 scalars.Fixed32 = (refl, refl, a_gap scalars.Sfixed32 scalars.Fixed32 (Int (negsuc 0)) (omega arith) refl (only_ints _ whole_sfixed32 (λ n r u. omega arith) (λ n r u. omega arith)), refl)
all_gaps scalars.Sfixed32 t = refl
all_gaps scalars.Sfixed64 scalars.Sfixed64 = (refl, no_gap_same scalars.Sfixed64)
all_gaps scalars.Sfixed64 scalars.Fixed64 = (refl, refl, a_gap scalars.Sfixed64 scalars.Fixed64 (Int (negsuc 0)) (omega arith) refl (only_ints _ whole_sfixed64 (λ n r u. omega arith) (λ n r u. omega arith)), refl)
all_gaps scalars.Sfixed64 t = refl
all_gaps scalars.Float scalars.Float = (refl, no_gap_same scalars.Float)
all_gaps scalars.Float t = refl
all_gaps scalars.Double scalars.Double = (refl, no_gap_same scalars.Double)
all_gaps scalars.Double t = refl
all_gaps scalars.String scalars.String = (refl, no_gap_same scalars.String)
all_gaps scalars.String scalars.Bytes = (refl, text_seen)
all_gaps scalars.String t = refl
all_gaps scalars.Bytes scalars.Bytes = (refl, no_gap_same scalars.Bytes)
all_gaps scalars.Bytes scalars.String = (refl, refl, a_gap scalars.Bytes scalars.String (Bytes (128 ∷ [])) (omega arith, tt) refl no_text, refl)
all_gaps scalars.Bytes t = refl

-- So it is the least also of those that aren't zero.

counts_too : (zero : Bool) (item : Leaf) → is_zero item ≡ false → ItemCounts zero item
counts_too true item h = tt
counts_too false item h = h

either_way : (s t : Scalar) (g : Gap) → IsTrueOfAll s t g → IsTrueOf s t g
either_way s t gaps.Unlike h = h
either_way s t gaps.None h = (h.0, λ zero item range counts. h.1 item range tt)
either_way s t (gaps.Least length value) h = search (rules, counts_too)

pub gap_table : GapTable
gap_table s t = either_way s t (gap s t) (all_gaps s t)
