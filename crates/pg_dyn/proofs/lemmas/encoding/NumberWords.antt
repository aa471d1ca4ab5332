-- Lists of numbers are written by their words.
use Rattle.std.proofs.Common.{◌≡◌, ℕ, List, [], ◌∷◌, map, flat_map, true, false, Bool, refl, ap, sym, ◌∙◌, arith}
use Rattle.std.specs.List.{AllByRecursion}
use Rattle.pg_schema.specs.declared.parts.field.Element.{Element}
use Rattle.pg_schema.specs.declared.parts.field.Element.TheVariants as elements
use Rattle.pg_schema.specs.Shape.{FieldShape, Shape, is_map}
use Rattle.pg_dyn.specs.declared.message_ref.ValueRef.{ValueRef}
use Rattle.pg_dyn.specs.declared.message_ref.ValueRef.TheVariants as values
use Rattle.pg_dyn.specs.declared.number_list.NumberList.{NumberList}
use Rattle.pg_dyn.specs.word.Coding.{body, form, scalar_form}
use Rattle.pg_dyn.specs.encoding.Lending.{IsLone, bare_leaf, item_part, lent_item, word_item}
use Rattle.pg_dyn.specs.encoding.Written.{BareFits, CanBePacked, IsLeafOf, LeavesFit, field_lengths, field_written, item_bytes, number_bytes, number_lengths, packed_body, packed_bytes, packed_lengths, single_bytes}
use Rattle.pg_dyn.specs.encoding.Writing.{is_packed, item_record}
use Rattle.pg_dyn.specs.word.NumberLists.{IsNumber, number_item, numbers_in}
use Rattle.pg_dyn.specs.reading.Held.{read_as}
use Rattle.pg_dyn.proofs.lemmas.encoding.EncodeSteps.{items_noted, items_written, lone_fits, packable, packed_no_lengths, packed_noted, packed_written}
use Rattle.pg_dyn.proofs.lemmas.word.NumberLaws.{numbers_are}
use Rattle.pg_dyn.proofs.Lists.{each_unmapped, each_weaker, flat_map-map}

-- the bytes of the words of a list are those of its numbers
module _ (ns : NumberList) (e : Element) where
  pub words_fit : LeavesFit lent_item e (numbers_in ns) → LeavesFit (word_item ns.scalar) e ns.words.items
  words_fit h = each_unmapped (λ v. IsLeafOf e (bare_leaf (lent_item v))) (number_item (scalar_form ns.scalar)) ns.words.items h

  pub words_packed : packed_body (word_item ns.scalar) e ns.words.items ≡ packed_body lent_item e (numbers_in ns)
  words_packed = sym (flat_map-map (λ v. body (form e) (bare_leaf (lent_item v))) (number_item (scalar_form ns.scalar)) ns.words.items)

  pub words_single : (n : ℕ) → single_bytes (word_item ns.scalar) n e ns.words.items ≡ single_bytes lent_item n e (numbers_in ns)
  words_single n = sym (flat_map-map (λ v. (item_record n e (bare_leaf (lent_item v))).bytes) (number_item (scalar_form ns.scalar)) ns.words.items)

number_lone : (v : ValueRef) → IsNumber v → IsLone (lent_item v)
number_lone v h = grind arith

number_bytes_are : (shape : Shape) (n : ℕ) (e : Element) (vs : List ValueRef) → AllByRecursion IsNumber vs
    → flat_map (λ v. item_bytes shape n e (lent_item v)) vs ≡ single_bytes lent_item n e vs
number_bytes_are shape n e [] h = refl
number_bytes_are shape n e (values.Int k ∷ vs) h = rw (number_bytes_are shape n e vs h.1)
number_bytes_are shape n e (values.F32 k ∷ vs) h = rw (number_bytes_are shape n e vs h.1)
number_bytes_are shape n e (values.F64 k ∷ vs) h = rw (number_bytes_are shape n e vs h.1)
number_bytes_are shape n e (values.Text k ∷ vs) h = absurd h.0
number_bytes_are shape n e (values.Bytes k ∷ vs) h = absurd h.0
number_bytes_are shape n e (values.Msg k ∷ vs) h = absurd h.0

-- an element is written as the scalar as which it is read
module _ (n : ℕ) (ns : NumberList) where
  packed_as : (e : Element) (vs : List ValueRef) → packed_bytes lent_item n e vs ≡ packed_bytes lent_item n (elements.Scalar (read_as e)) vs
  packed_as e vs = grind arith

  noted_as : (e : Element) (vs : List ValueRef) → packed_lengths lent_item e vs ≡ packed_lengths lent_item (elements.Scalar (read_as e)) vs
  noted_as e [] = refl
  noted_as (elements.Scalar s) (v ∷ vs) = refl
  noted_as (elements.Enum x) (v ∷ vs) = refl
  noted_as (elements.Message t) (v ∷ vs) = refl

  single_as : (e : Element) → single_bytes lent_item n e (numbers_in ns) ≡ single_bytes lent_item n (elements.Scalar (read_as e)) (numbers_in ns)
  single_as e = grind arith

  bytes_as : (packed : Bool) (e : Element) → number_bytes packed n e ns ≡ number_bytes packed n (elements.Scalar (read_as e)) ns
  bytes_as true e = packed_as e (numbers_in ns)
  bytes_as false e = single_as e

  lengths_as : (packed : Bool) (e : Element) → number_lengths packed e ns ≡ number_lengths packed (elements.Scalar (read_as e)) ns
  lengths_as true e = noted_as e (numbers_in ns)
  lengths_as false e = refl

-- What is written of a field's list of numbers, and the lengths that are noted of it.
module _ (shape : Shape) (f : FieldShape) (ns : NumberList) where
  leaf_as : (e : Element) (v : ValueRef) → IsNumber v → BareFits shape e (lent_item v) → IsLeafOf (elements.Scalar (read_as e)) (bare_leaf (lent_item v))
  leaf_as e v h fits = grind (arith, lone_fits, number_lone)

  leaves_as : (vs : List ValueRef) → AllByRecursion IsNumber vs → AllByRecursion (λ v. BareFits shape f.element (lent_item v)) vs → LeavesFit lent_item (elements.Scalar (read_as f.element)) vs
  leaves_as [] h fits = tt
  leaves_as (v ∷ vs) h fits = (leaf_as f.element v h.0 fits.0, leaves_as vs h.1 fits.1)

  pub numbers_fit : AllByRecursion (λ v. BareFits shape f.element (lent_item v)) (numbers_in ns) → LeavesFit lent_item (elements.Scalar (read_as f.element)) (numbers_in ns)
  numbers_fit fits = leaves_as (numbers_in ns) (numbers_are ns) fits

  pub numbers_written : is_map f.presence ≡ false → CanBePacked f.presence f.element → AllByRecursion (λ v. BareFits shape f.element (lent_item v)) (numbers_in ns)
      → field_written shape f (map (item_part lent_item f.number true) (numbers_in ns)) ≡ number_bytes (is_packed f.presence) f.number (elements.Scalar (read_as f.element)) ns
  numbers_written single can fits = of (is_packed f.presence) refl ∙ bytes_as f.number ns (is_packed f.presence) f.element
    where
      of : (packed : Bool) → is_packed f.presence ≡ packed → field_written shape f (map (item_part lent_item f.number true) (numbers_in ns)) ≡ number_bytes (is_packed f.presence) f.number f.element ns
      of true is =
          packed_written lent_item shape f true (numbers_in ns) is (packable f.presence f.element is can) fits
          ∙ ap (λ b. number_bytes b f.number f.element ns) (sym is)
      of false is =
          items_written lent_item shape f true (numbers_in ns) is single
          ∙ number_bytes_are shape f.number f.element (numbers_in ns) (numbers_are ns)
          ∙ ap (λ b. number_bytes b f.number f.element ns) (sym is)

  pub numbers_noted : field_lengths shape f (map (item_part lent_item f.number true) (numbers_in ns)) ≡ number_lengths (is_packed f.presence) (elements.Scalar (read_as f.element)) ns
  numbers_noted = of (is_packed f.presence) refl ∙ lengths_as f.number ns (is_packed f.presence) f.element
    where
      of : (packed : Bool) → is_packed f.presence ≡ packed → field_lengths shape f (map (item_part lent_item f.number true) (numbers_in ns)) ≡ number_lengths (is_packed f.presence) f.element ns
      of true is = packed_noted lent_item shape f true (numbers_in ns) is ∙ ap (λ b. number_lengths b f.element ns) (sym is)
      of false is =
          items_noted lent_item shape f true (numbers_in ns) is
          ∙ packed_no_lengths lent_item shape (numbers_in ns) (each_weaker IsNumber (λ v. IsLone (lent_item v)) number_lone (numbers_in ns) (numbers_are ns))
          ∙ ap (λ b. number_lengths b f.element ns) (sym is)
