-- An item that is read across two types as itself has the same body in both.
use Rattle.std.proofs.Common.{◌≡◌, ℕ, ℤ, pos, negsuc, ◌*◌, ◌%◌, ◌^◌, ◌<◌, ◌≤◌, true, false, [], Option, Some, refl, ap, sym, ◌∙◌, subst, arith, lt-ltb, le-ltb, eq-eqb, ne_eqb, rules}
use Rattle.std.proofs.lemmas.Bool.{cases_eq, cases_lt}
use Rattle.pg_schema.specs.declared.parts.field.Scalar.{Scalar}
use Rattle.pg_schema.specs.declared.parts.field.Scalar.TheVariants as scalars
use Rattle.pg_schema.specs.declared.parts.field.Element.TheVariants as elements
use Rattle.pg_wire.specs.Varint.{varint, varint_value}
use Rattle.pg_wire.specs.Words.{IsBetween, signed, twos_complement, unzigzag, zigzag}
use Rattle.pg_wire.specs.declared.record.WireType.TheVariants.{Varint}
use Rattle.pg_dyn.specs.message.Message.{Leaf, Int, F32, F64, Bytes}
use Rattle.pg_dyn.specs.word.Coding.{Whole, Form, Integer, int32, Text, Raw, InRange, body, leaf_in, scalar_form, word_bytes, word_in}
use Rattle.pg_pairs.specs.gaps.Likeness.{like}
use Rattle.pg_pairs.specs.laws.ReadBack.{SeenItemsHaveOneBody, is_bool_of_zigzag}
use Rattle.pg_wire.proofs.PublicLaws.{varint_read_again}

-- Words.

zigzag_back : (n : ℕ) → zigzag (unzigzag n) ≡ n
unfolding unzigzag
zigzag_back n = search (rules, eq-eqb, ne_eqb, cases_eq)

zigzag_of : (w : ℕ) (z : ℤ) → unzigzag w ≡ z → w ≡ zigzag z
zigzag_of w z is = sym (zigzag_back w) ∙ ap zigzag is

-- the word of the signed number of a word, which is in range
twos_of : (half w : ℕ) → w < 2 * half → (twos_complement (2 * half) (signed (2 * half) w) ≡ w) × IsBetween half half (signed (2 * half) w)
unfolding signed
twos_of half w short = search (rules, lt-ltb, le-ltb, cases_lt)

signed_of : (half w : ℕ) (z : ℤ) → w < 2 * half → signed (2 * half) w ≡ z → (w ≡ twos_complement (2 * half) z) × IsBetween half half z
signed_of half w z short is = (sym (twos_of half w short).0 ∙ ap (twos_complement (2 * half)) is, subst (IsBetween half half) is (twos_of half w short).1)

wider : (b a below above : ℕ) (z : ℤ) → b ≤ below → a ≤ above → IsBetween b a z → IsBetween below above z
wider b a below above (pos n) low high range = omega arith
wider b a below above (negsuc n) low high range = omega arith

-- Between a plain word and a zigzag one zero alone is read as itself.

plain_is_zigzag : (z : ℤ) → IsBetween (2 ^ 63) (2 ^ 64) z → twos_complement (2 ^ 64) z ≡ zigzag z → z ≡ pos 0
plain_is_zigzag (pos n) range same = let none : n ≡ 0 = omega arith in ap pos none
plain_is_zigzag (negsuc n) range same = absurd (omega arith)

plain_is_zigzag_32 : (z : ℤ) → IsBetween (2 ^ 63) (2 ^ 64) z → twos_complement (2 ^ 64) z % 2 ^ 32 ≡ zigzag z → z ≡ pos 0
plain_is_zigzag_32 (pos n) range same = let none : n ≡ 0 = omega arith in ap pos none
plain_is_zigzag_32 (negsuc n) range same = absurd (omega arith)

zigzag_is_plain_32 : (z : ℤ) → IsBetween (2 ^ 31) (2 ^ 31) z → zigzag z % 2 ^ 32 ≡ twos_complement (2 ^ 32) z → z ≡ pos 0
zigzag_is_plain_32 (pos n) range same = let none : n ≡ 0 = omega arith in ap pos none
zigzag_is_plain_32 (negsuc n) range same = absurd (omega arith)

as_zigzag_64 : (z : ℤ) → IsBetween (2 ^ 63) (2 ^ 64) z → unzigzag (twos_complement (2 ^ 64) z) ≡ z → z ≡ pos 0
as_zigzag_64 z range is = plain_is_zigzag z range (zigzag_of (twos_complement (2 ^ 64) z) z is)

as_zigzag_32 : (z : ℤ) → IsBetween (2 ^ 63) (2 ^ 64) z → unzigzag (twos_complement (2 ^ 64) z % 2 ^ 32) ≡ z → z ≡ pos 0
as_zigzag_32 z range is = plain_is_zigzag_32 z range (zigzag_of (twos_complement (2 ^ 64) z % 2 ^ 32) z is)

zigzag_short : (z : ℤ) → IsBetween (2 ^ 63) (2 ^ 63) z → zigzag z < 2 ^ 64
zigzag_short (pos n) range = omega arith
zigzag_short (negsuc n) range = omega arith

twos_short : (z : ℤ) → IsBetween (2 ^ 63) (2 ^ 64) z → twos_complement (2 ^ 64) z < 2 ^ 64
twos_short (pos n) range = omega arith
twos_short (negsuc n) range = omega arith

as_signed_64 : (z : ℤ) → IsBetween (2 ^ 63) (2 ^ 63) z → signed (2 ^ 64) (zigzag z) ≡ z → z ≡ pos 0
as_signed_64 z range is = plain_is_zigzag z (wider (2 ^ 63) (2 ^ 63) (2 ^ 63) (2 ^ 64) z (omega arith) (omega arith) range) (sym (signed_of (2 ^ 63) (zigzag z) z (zigzag_short z range) is).0)

as_signed_32 : (z : ℤ) → signed (2 ^ 32) (zigzag z % 2 ^ 32) ≡ z → z ≡ pos 0
as_signed_32 z is =
    let both = signed_of (2 ^ 31) (zigzag z % 2 ^ 32) z (omega arith) is in
    zigzag_is_plain_32 z both.1 both.0

as_unsigned_32 : (z : ℤ) → pos (zigzag z % 2 ^ 32) ≡ z → z ≡ pos 0
as_unsigned_32 (pos n) is = let same : 2 * n % 2 ^ 32 ≡ n = cc in let none : n ≡ 0 = omega arith in ap pos none
as_unsigned_32 (negsuc n) is = absurd (cc)

as_unsigned_64 : (z : ℤ) → pos (zigzag z) ≡ z → z ≡ pos 0
as_unsigned_64 (pos n) is = let same : 2 * n ≡ n = cc in let none : n ≡ 0 = omega arith in ap pos none
as_unsigned_64 (negsuc n) is = absurd (cc)

-- Bodies.

int_of : (m n : ℤ) → ◌≡◌ {A = Option Leaf} (Some (Int m)) (Some (Int n)) → m ≡ n
int_of m n h = cc

-- one word, one body
same_word : (ws wt : Whole) → ((z : ℤ) → word_bytes wt.wire (wt.word z) ≡ word_bytes ws.wire (ws.word z)) → (item : Leaf) → body (Integer wt) item ≡ body (Integer ws) item
same_word ws wt same (Int z) = same z
same_word ws wt same (F32 bits) = refl
same_word ws wt same (F64 bits) = refl
same_word ws wt same (Bytes bytes) = refl

abbrev whole_of : Scalar → Whole
whole_of s = of (scalar_form s)
  where
    of : Form → Whole
    of (Integer w) = w
    of f = int32

abbrev as_varint : Whole → Form
as_varint w = Integer (record { wire = Varint; word = w.word; number = w.number; below = w.below; above = w.above })

-- where zero alone is read as itself
at_zero : (ws wt : Whole) → ((z : ℤ) → IsBetween ws.below ws.above z → ws.word z < 2 ^ 64) → ((z : ℤ) → IsBetween ws.below ws.above z → wt.number (ws.word z) ≡ z → z ≡ pos 0) →
    wt.word (pos 0) ≡ ws.word (pos 0) → (item : Leaf) → InRange (as_varint ws) item → leaf_in (as_varint wt) (body (as_varint ws) item) ≡ Some item →
    body (as_varint wt) item ≡ body (as_varint ws) item
unfolding word_bytes word_in
at_zero ws wt short only same (Int z) range read =
    let back : varint_value (varint (ws.word z)) ≡ ws.word z = (varint_read_again (ws.word z) [] (short z range)).1 in
    let is : wt.number (ws.word z) ≡ z = ap wt.number (sym back) ∙ int_of (wt.number (varint_value (varint (ws.word z)))) z read in
    subst (λ y. varint (wt.word y) ≡ varint (ws.word y)) (sym (only z range is)) (ap varint same)
at_zero ws wt short only same (F32 bits) range read = absurd range
at_zero ws wt short only same (F64 bits) range read = absurd range
at_zero ws wt short only same (Bytes bytes) range read = absurd range

text_raw : (item : Leaf) → body Raw item ≡ body Text item
text_raw (Int n) = refl
text_raw (F32 bits) = refl
text_raw (F64 bits) = refl
text_raw (Bytes bytes) = refl

abbrev OneBody : Scalar → Scalar → Type 0
OneBody s t =
    (item : Leaf) → like (elements.Scalar s) (elements.Scalar t) ≡ true → is_bool_of_zigzag (elements.Scalar s) (elements.Scalar t)
    ≡ false → InRange (scalar_form s) item →
    leaf_in (scalar_form t) (body (scalar_form s) item) ≡ Some item → body (scalar_form t) item ≡ body (scalar_form s) item

one_body : (s t : Scalar) → OneBody s t
one_body scalars.Int32 scalars.Int32 item alike other range read = same_word (whole_of scalars.Int32) (whole_of scalars.Int32) (λ z. refl) item
one_body scalars.Int32 scalars.Int64 item alike other range read = same_word (whole_of scalars.Int32) (whole_of scalars.Int64) (λ z. refl) item
one_body scalars.Int32 scalars.Uint32 item alike other range read = same_word (whole_of scalars.Int32) (whole_of scalars.Uint32) (λ z. refl) item
one_body scalars.Int32 scalars.Uint64 item alike other range read = same_word (whole_of scalars.Int32) (whole_of scalars.Uint64) (λ z. refl) item
one_body scalars.Int32 scalars.Bool item alike other range read = same_word (whole_of scalars.Int32) (whole_of scalars.Bool) (λ z. refl) item
one_body scalars.Int32 scalars.Sint32 item alike other range read =
    at_zero (whole_of scalars.Int32) (whole_of scalars.Sint32) (λ z range. twos_short z (wider (2 ^ 31) (2 ^ 31) (2 ^ 63) (2 ^ 64) z (omega arith) (omega arith) range)) (λ z range is. as_zigzag_32 z (wider (2 ^ 31) (2 ^ 31) (2 ^ 63) (2 ^ 64) z (omega arith) (omega arith) range) is) refl item range read
one_body scalars.Int32 scalars.Sint64 item alike other range read =
    at_zero (whole_of scalars.Int32) (whole_of scalars.Sint64) (λ z range. twos_short z (wider (2 ^ 31) (2 ^ 31) (2 ^ 63) (2 ^ 64) z (omega arith) (omega arith) range)) (λ z range is. as_zigzag_64 z (wider (2 ^ 31) (2 ^ 31) (2 ^ 63) (2 ^ 64) z (omega arith) (omega arith) range) is) refl item range read
one_body scalars.Int32 t item alike other range read = absurd (cc)
one_body scalars.Int64 scalars.Int32 item alike other range read = same_word (whole_of scalars.Int64) (whole_of scalars.Int32) (λ z. refl) item
one_body scalars.Int64 scalars.Int64 item alike other range read = same_word (whole_of scalars.Int64) (whole_of scalars.Int64) (λ z. refl) item
one_body scalars.Int64 scalars.Uint32 item alike other range read = same_word (whole_of scalars.Int64) (whole_of scalars.Uint32) (λ z. refl) item
one_body scalars.Int64 scalars.Uint64 item alike other range read = same_word (whole_of scalars.Int64) (whole_of scalars.Uint64) (λ z. refl) item
one_body scalars.Int64 scalars.Bool item alike other range read = same_word (whole_of scalars.Int64) (whole_of scalars.Bool) (λ z. refl) item
one_body scalars.Int64 scalars.Sint32 item alike other range read =
    at_zero (whole_of scalars.Int64) (whole_of scalars.Sint32) (λ z range. twos_short z (wider (2 ^ 63) (2 ^ 63) (2 ^ 63) (2 ^ 64) z (omega arith) (omega arith) range)) (λ z range is. as_zigzag_32 z (wider (2 ^ 63) (2 ^ 63) (2 ^ 63) (2 ^ 64) z (omega arith) (omega arith) range) is) refl item range read
one_body scalars.Int64 scalars.Sint64 item alike other range read =
    at_zero (whole_of scalars.Int64) (whole_of scalars.Sint64) (λ z range. twos_short z (wider (2 ^ 63) (2 ^ 63) (2 ^ 63) (2 ^ 64) z (omega arith) (omega arith) range)) (λ z range is. as_zigzag_64 z (wider (2 ^ 63) (2 ^ 63) (2 ^ 63) (2 ^ 64) z (omega arith) (omega arith) range) is) refl item range read
one_body scalars.Int64 t item alike other range read = absurd (cc)
one_body scalars.Uint32 scalars.Int32 item alike other range read = same_word (whole_of scalars.Uint32) (whole_of scalars.Int32) (λ z. refl) item
one_body scalars.Uint32 scalars.Int64 item alike other range read = same_word (whole_of scalars.Uint32) (whole_of scalars.Int64) (λ z. refl) item
one_body scalars.Uint32 scalars.Uint32 item alike other range read = same_word (whole_of scalars.Uint32) (whole_of scalars.Uint32) (λ z. refl) item
one_body scalars.Uint32 scalars.Uint64 item alike other range read = same_word (whole_of scalars.Uint32) (whole_of scalars.Uint64) (λ z. refl) item
one_body scalars.Uint32 scalars.Bool item alike other range read = same_word (whole_of scalars.Uint32) (whole_of scalars.Bool) (λ z. refl) item
one_body scalars.Uint32 scalars.Sint32 item alike other range read =
    at_zero (whole_of scalars.Uint32) (whole_of scalars.Sint32) (λ z range. twos_short z (wider 0 (2 ^ 32) (2 ^ 63) (2 ^ 64) z (omega arith) (omega arith) range)) (λ z range is. as_zigzag_32 z (wider 0 (2 ^ 32) (2 ^ 63) (2 ^ 64) z (omega arith) (omega arith) range) is) refl item range read
one_body scalars.Uint32 scalars.Sint64 item alike other range read =
    at_zero (whole_of scalars.Uint32) (whole_of scalars.Sint64) (λ z range. twos_short z (wider 0 (2 ^ 32) (2 ^ 63) (2 ^ 64) z (omega arith) (omega arith) range)) (λ z range is. as_zigzag_64 z (wider 0 (2 ^ 32) (2 ^ 63) (2 ^ 64) z (omega arith) (omega arith) range) is) refl item range read
one_body scalars.Uint32 t item alike other range read = absurd (cc)
one_body scalars.Uint64 scalars.Int32 item alike other range read = same_word (whole_of scalars.Uint64) (whole_of scalars.Int32) (λ z. refl) item
one_body scalars.Uint64 scalars.Int64 item alike other range read = same_word (whole_of scalars.Uint64) (whole_of scalars.Int64) (λ z. refl) item
one_body scalars.Uint64 scalars.Uint32 item alike other range read = same_word (whole_of scalars.Uint64) (whole_of scalars.Uint32) (λ z. refl) item
one_body scalars.Uint64 scalars.Uint64 item alike other range read = same_word (whole_of scalars.Uint64) (whole_of scalars.Uint64) (λ z. refl) item
one_body scalars.Uint64 scalars.Bool item alike other range read = same_word (whole_of scalars.Uint64) (whole_of scalars.Bool) (λ z. refl) item
one_body scalars.Uint64 scalars.Sint32 item alike other range read =
    at_zero (whole_of scalars.Uint64) (whole_of scalars.Sint32) (λ z range. twos_short z (wider 0 (2 ^ 64) (2 ^ 63) (2 ^ 64) z (omega arith) (omega arith) range)) (λ z range is. as_zigzag_32 z (wider 0 (2 ^ 64) (2 ^ 63) (2 ^ 64) z (omega arith) (omega arith) range) is) refl item range read
one_body scalars.Uint64 scalars.Sint64 item alike other range read =
    at_zero (whole_of scalars.Uint64) (whole_of scalars.Sint64) (λ z range. twos_short z (wider 0 (2 ^ 64) (2 ^ 63) (2 ^ 64) z (omega arith) (omega arith) range)) (λ z range is. as_zigzag_64 z (wider 0 (2 ^ 64) (2 ^ 63) (2 ^ 64) z (omega arith) (omega arith) range) is) refl item range read
one_body scalars.Uint64 t item alike other range read = absurd (cc)
one_body scalars.Bool scalars.Int32 item alike other range read = same_word (whole_of scalars.Bool) (whole_of scalars.Int32) (λ z. refl) item
one_body scalars.Bool scalars.Int64 item alike other range read = same_word (whole_of scalars.Bool) (whole_of scalars.Int64) (λ z. refl) item
one_body scalars.Bool scalars.Uint32 item alike other range read = same_word (whole_of scalars.Bool) (whole_of scalars.Uint32) (λ z. refl) item
one_body scalars.Bool scalars.Uint64 item alike other range read = same_word (whole_of scalars.Bool) (whole_of scalars.Uint64) (λ z. refl) item
one_body scalars.Bool scalars.Bool item alike other range read = same_word (whole_of scalars.Bool) (whole_of scalars.Bool) (λ z. refl) item
one_body scalars.Bool scalars.Sint32 item alike other range read =
    at_zero (whole_of scalars.Bool) (whole_of scalars.Sint32) (λ z range. twos_short z (wider 0 2 (2 ^ 63) (2 ^ 64) z (omega arith) (omega arith) range)) (λ z range is. as_zigzag_32 z (wider 0 2 (2 ^ 63) (2 ^ 64) z (omega arith) (omega arith) range) is) refl item range read
one_body scalars.Bool scalars.Sint64 item alike other range read =
    at_zero (whole_of scalars.Bool) (whole_of scalars.Sint64) (λ z range. twos_short z (wider 0 2 (2 ^ 63) (2 ^ 64) z (omega arith) (omega arith) range)) (λ z range is. as_zigzag_64 z (wider 0 2 (2 ^ 63) (2 ^ 64) z (omega arith) (omega arith) range) is) refl item range read
one_body scalars.Bool t item alike other range read = absurd (cc)
one_body scalars.Sint32 scalars.Int32 item alike other range read =
    at_zero (whole_of scalars.Sint32) (whole_of scalars.Int32) (λ z range. zigzag_short z (wider (2 ^ 31) (2 ^ 31) (2 ^ 63) (2 ^ 63) z (omega arith) (omega arith) range)) (λ z range is. as_signed_32 z is) refl item range read
one_body scalars.Sint32 scalars.Int64 item alike other range read =
    at_zero (whole_of scalars.Sint32) (whole_of scalars.Int64) (λ z range. zigzag_short z (wider (2 ^ 31) (2 ^ 31) (2 ^ 63) (2 ^ 63) z (omega arith) (omega arith) range)) (λ z range is. as_signed_64 z (wider (2 ^ 31) (2 ^ 31) (2 ^ 63) (2 ^ 63) z (omega arith) (omega arith) range) is) refl item range read
one_body scalars.Sint32 scalars.Uint32 item alike other range read =
    at_zero (whole_of scalars.Sint32) (whole_of scalars.Uint32) (λ z range. zigzag_short z (wider (2 ^ 31) (2 ^ 31) (2 ^ 63) (2 ^ 63) z (omega arith) (omega arith) range)) (λ z range is. as_unsigned_32 z is) refl item range read
one_body scalars.Sint32 scalars.Uint64 item alike other range read =
    at_zero (whole_of scalars.Sint32) (whole_of scalars.Uint64) (λ z range. zigzag_short z (wider (2 ^ 31) (2 ^ 31) (2 ^ 63) (2 ^ 63) z (omega arith) (omega arith) range)) (λ z range is. as_unsigned_64 z is) refl item range read
one_body scalars.Sint32 scalars.Bool item alike other range read = absurd (cc)
one_body scalars.Sint32 scalars.Sint32 item alike other range read = same_word (whole_of scalars.Sint32) (whole_of scalars.Sint32) (λ z. refl) item
one_body scalars.Sint32 scalars.Sint64 item alike other range read = same_word (whole_of scalars.Sint32) (whole_of scalars.Sint64) (λ z. refl) item
one_body scalars.Sint32 t item alike other range read = absurd (cc)
one_body scalars.Sint64 scalars.Int32 item alike other range read =
    at_zero (whole_of scalars.Sint64) (whole_of scalars.Int32) (λ z range. zigzag_short z (wider (2 ^ 63) (2 ^ 63) (2 ^ 63) (2 ^ 63) z (omega arith) (omega arith) range)) (λ z range is. as_signed_32 z is) refl item range read
one_body scalars.Sint64 scalars.Int64 item alike other range read =
    at_zero (whole_of scalars.Sint64) (whole_of scalars.Int64) (λ z range. zigzag_short z (wider (2 ^ 63) (2 ^ 63) (2 ^ 63) (2 ^ 63) z (omega arith) (omega arith) range)) (λ z range is. as_signed_64 z (wider (2 ^ 63) (2 ^ 63) (2 ^ 63) (2 ^ 63) z (omega arith) (omega arith) range) is) refl item range read
one_body scalars.Sint64 scalars.Uint32 item alike other range read =
    at_zero (whole_of scalars.Sint64) (whole_of scalars.Uint32) (λ z range. zigzag_short z (wider (2 ^ 63) (2 ^ 63) (2 ^ 63) (2 ^ 63) z (omega arith) (omega arith) range)) (λ z range is. as_unsigned_32 z is) refl item range read
one_body scalars.Sint64 scalars.Uint64 item alike other range read =
    at_zero (whole_of scalars.Sint64) (whole_of scalars.Uint64) (λ z range. zigzag_short z (wider (2 ^ 63) (2 ^ 63) (2 ^ 63) (2 ^ 63) z (omega arith) (omega arith) range)) (λ z range is. as_unsigned_64 z is) refl item range read
one_body scalars.Sint64 scalars.Bool item alike other range read = absurd (cc)
one_body scalars.Sint64 scalars.Sint32 item alike other range read = same_word (whole_of scalars.Sint64) (whole_of scalars.Sint32) (λ z. refl) item
one_body scalars.Sint64 scalars.Sint64 item alike other range read = same_word (whole_of scalars.Sint64) (whole_of scalars.Sint64) (λ z. refl) item
one_body scalars.Sint64 t item alike other range read = absurd (cc)
one_body scalars.Fixed32 scalars.Fixed32 item alike other range read = same_word (whole_of scalars.Fixed32) (whole_of scalars.Fixed32) (λ z. refl) item
one_body scalars.Fixed32 scalars.Sfixed32 item alike other range read = same_word (whole_of scalars.Fixed32) (whole_of scalars.Sfixed32) (λ z. refl) item
one_body scalars.Fixed32 t item alike other range read = absurd (cc)
one_body scalars.Sfixed32 scalars.Fixed32 item alike other range read = same_word (whole_of scalars.Sfixed32) (whole_of scalars.Fixed32) (λ z. refl) item
one_body scalars.Sfixed32 scalars.Sfixed32 item alike other range read = same_word (whole_of scalars.Sfixed32) (whole_of scalars.Sfixed32) (λ z. refl) item
one_body scalars.Sfixed32 t item alike other range read = absurd (cc)
one_body scalars.Fixed64 scalars.Fixed64 item alike other range read = same_word (whole_of scalars.Fixed64) (whole_of scalars.Fixed64) (λ z. refl) item
one_body scalars.Fixed64 scalars.Sfixed64 item alike other range read = same_word (whole_of scalars.Fixed64) (whole_of scalars.Sfixed64) (λ z. refl) item
one_body scalars.Fixed64 t item alike other range read = absurd (cc)
one_body scalars.Sfixed64 scalars.Fixed64 item alike other range read = same_word (whole_of scalars.Sfixed64) (whole_of scalars.Fixed64) (λ z. refl) item
one_body scalars.Sfixed64 scalars.Sfixed64 item alike other range read = same_word (whole_of scalars.Sfixed64) (whole_of scalars.Sfixed64) (λ z. refl) item
one_body scalars.Sfixed64 t item alike other range read = absurd (cc)
one_body scalars.Float scalars.Float item alike other range read = refl
one_body scalars.Float t item alike other range read = absurd (cc)
one_body scalars.Double scalars.Double item alike other range read = refl
one_body scalars.Double t item alike other range read = absurd (cc)
one_body scalars.String scalars.String item alike other range read = refl
one_body scalars.String scalars.Bytes item alike other range read = text_raw item
one_body scalars.String t item alike other range read = absurd (cc)
one_body scalars.Bytes scalars.Bytes item alike other range read = refl
one_body scalars.Bytes scalars.String item alike other range read = sym (text_raw item)
one_body scalars.Bytes t item alike other range read = absurd (cc)

-- an enum is written as int32 is
of_int32 : (t : Scalar) → is_bool_of_zigzag (elements.Scalar scalars.Int32) (elements.Scalar t) ≡ false
of_int32 scalars.Bool = refl
of_int32 t = refl

to_int32 : (s : Scalar) → is_bool_of_zigzag (elements.Scalar s) (elements.Scalar scalars.Int32) ≡ false
to_int32 s = refl

pub seen_items_have_one_body : SeenItemsHaveOneBody
seen_items_have_one_body (elements.Scalar s) (elements.Scalar t) item alike other range read = one_body s t item alike other range read
seen_items_have_one_body (elements.Scalar s) (elements.Enum t) item alike other range read = one_body s scalars.Int32 item alike (to_int32 s) range read
seen_items_have_one_body (elements.Enum s) (elements.Scalar t) item alike other range read = one_body scalars.Int32 t item alike (of_int32 t) range read
seen_items_have_one_body (elements.Enum s) (elements.Enum t) item alike other range read = refl
seen_items_have_one_body (elements.Message s) (elements.Message t) item alike other range read = refl
seen_items_have_one_body (elements.Message s) d item alike other range read = absurd (cc)
seen_items_have_one_body e (elements.Message t) item alike other range read = absurd (cc)
