-- Words as numbers.
use Rattle.std.proofs.Common.{◌≡◌, ℕ, ◌^◌, ◌%◌, ◌<◌, List, map, nat_eq, Bool, true, false, cond, Some, refl, arith}
use Rattle.std.specs.Prelude.{⊤}
use Rattle.std.specs.List.{AllByRecursion}
use Rattle.pg_schema.specs.declared.parts.field.Scalar.{Scalar}
use Rattle.pg_schema.specs.declared.parts.field.Scalar.TheVariants as scalars
use Rattle.pg_schema.specs.declared.parts.field.Element.TheVariants as elements
use Rattle.pg_schema.specs.Shape.{is_packable}
use Rattle.pg_wire.specs.declared.record.WireType.{WireType}
use Rattle.pg_wire.specs.Words.{IsBetween, signed}
use Rattle.pg_wire.proofs.Words.{IsBetween-signed, IsBetween-unzigzag}
use Rattle.pg_dyn.specs.declared.number_list.NumberList.{NumberList}
use Rattle.pg_dyn.specs.message_ref.Borrowed.{leaf_of}
use Rattle.pg_dyn.specs.message_ref.BorrowedItems.{IsItemKept}
use Rattle.pg_dyn.specs.word.Coding.{Form, Integer, Single, Double, Text, Raw, form_wire, leaf_in, scalar_form, word_in}
use Rattle.pg_dyn.specs.word.NumberLists.{IsNumber, low_bits, number_item, numbers_in}
use Rattle.pg_dyn.specs.word.WordOf.{HasBits, IsWord}
use Rattle.pg_dyn.proofs.Lists.{each-map, each_of_all}

-- each item of a list of numbers is a number
pub number_is : (f : Form) (word : ℕ) → IsNumber (number_item f word)
number_is f word = grind arith

pub numbers_are : (ns : NumberList) → AllByRecursion IsNumber (numbers_in ns)
numbers_are ns = each-map IsNumber (number_item (scalar_form ns.scalar)) ns.words.items (each_of_all (λ w. IsNumber (number_item (scalar_form ns.scalar) w)) (number_is (scalar_form ns.scalar)) ns.words.items)

-- a word of the wire type's bits is all kept
low_same : (wire : WireType) (word : ℕ) → HasBits wire word → low_bits wire word ≡ word
low_same wire word h = grind arith

-- forms of numbers
abbrev IsNumeric : Form → Type 0
IsNumeric (Integer whole) = ⊤
IsNumeric Single = ⊤
IsNumeric Double = ⊤
IsNumeric Text = ⊥
IsNumeric Raw = ⊥

numeric : (s : Scalar) → is_packable (elements.Scalar s) ≡ true → IsNumeric (scalar_form s)
numeric s h = grind arith

leaf_read : (f : Form) (body : List ℕ) → IsNumeric f → HasBits (form_wire f) (word_in (form_wire f) body)
    → leaf_in f body ≡ Some (leaf_of (number_item f (word_in (form_wire f) body)))
leaf_read f body numeric h = grind (arith, low_same, numeric)

-- the item of the word of a body is the body's
pub number_read : (s : Scalar) (body : List ℕ) → is_packable (elements.Scalar s) ≡ true → HasBits (form_wire (scalar_form s)) (word_in (form_wire (scalar_form s)) body)
    → leaf_in (scalar_form s) body ≡ Some (leaf_of (number_item (scalar_form s) (word_in (form_wire (scalar_form s)) body)))
number_read s body packable h = leaf_read (scalar_form s) body (numeric s packable) h

one_or_none : (b : Bool) → cond b 0 1 < 2
one_or_none true = omega arith
one_or_none false = omega arith

-- the item of a word is one of the scalar
pub number_kept : (s : Scalar) (word : ℕ) → is_packable (elements.Scalar s) ≡ true → IsWord (form_wire (scalar_form s)) word → IsItemKept s (number_item (scalar_form s) word)
number_kept scalars.Double word packable h = (h.1, refl)
number_kept scalars.Float word packable h = (omega arith, refl)
number_kept scalars.Int32 word packable h = (IsBetween-signed (2 ^ 31) (word % 2 ^ 32) (omega arith), refl)
number_kept scalars.Int64 word packable h = (IsBetween-signed (2 ^ 63) word (omega (arith, h.1)), refl)
number_kept scalars.Uint32 word packable h = (omega arith, refl)
number_kept scalars.Uint64 word packable h = (h.1, refl)
number_kept scalars.Sint32 word packable h = (IsBetween-unzigzag (2 ^ 31) (word % 2 ^ 32) (omega arith), refl)
number_kept scalars.Sint64 word packable h = (IsBetween-unzigzag (2 ^ 63) word (omega (arith, h.1)), refl)
number_kept scalars.Fixed32 word packable h = (omega arith, refl)
number_kept scalars.Fixed64 word packable h = (h.1, refl)
number_kept scalars.Sfixed32 word packable h = (IsBetween-signed (2 ^ 31) (word % 2 ^ 32) (omega arith), refl)
number_kept scalars.Sfixed64 word packable h = (IsBetween-signed (2 ^ 63) word (omega (arith, h.1)), refl)
number_kept scalars.Bool word packable h = (one_or_none (nat_eq word 0), refl)
number_kept scalars.String word packable h = absurd (cc)
number_kept scalars.Bytes word packable h = absurd (cc)
