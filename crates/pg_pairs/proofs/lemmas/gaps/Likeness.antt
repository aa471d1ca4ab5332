-- Like elements have one wire type.
use Rattle.std.proofs.Common.{◌≡◌, true, false, refl}
use Rattle.pg_schema.specs.declared.parts.field.Element.{Element}
use Rattle.pg_schema.specs.declared.parts.field.Scalar.TheVariants as scalars
use Rattle.pg_schema.specs.declared.parts.field.Element.TheVariants as elements
use Rattle.pg_schema.specs.Shape.{is_packable}
use Rattle.pg_wire.specs.declared.record.WireType.{WireType}
use Rattle.pg_wire.specs.declared.record.WireType.TheVariants.{Varint, I64, Len, I32}
use Rattle.pg_dyn.specs.word.Coding.{Form, Integer, Single, Double, Text, Raw, form, form_wire}
use Rattle.pg_dyn.specs.reading.Content.{same_wire}
use Rattle.pg_pairs.specs.gaps.Likeness.{like_forms, like}

like_forms_wire : (a b : Form) → like_forms a b ≡ true → same_wire (form_wire a) (form_wire b) ≡ true
like_forms_wire (Integer a) (Integer b) h = h
like_forms_wire Single Single h = refl
like_forms_wire Double Double h = refl
like_forms_wire Text Text h = refl
like_forms_wire Text Raw h = refl
like_forms_wire Raw Text h = refl
like_forms_wire Raw Raw h = refl
like_forms_wire a b h = absurd (cc)

pub like_wire : (e g : Element) → like e g ≡ true → same_wire (form_wire (form e)) (form_wire (form g)) ≡ true
like_wire (elements.Message s) (elements.Message t) h = refl
like_wire (elements.Message s) (elements.Scalar t) h = absurd (cc)
like_wire (elements.Message s) (elements.Enum t) h = absurd (cc)
like_wire (elements.Scalar s) (elements.Message t) h = absurd (cc)
like_wire (elements.Enum s) (elements.Message t) h = absurd (cc)
like_wire (elements.Scalar s) (elements.Scalar t) h = like_forms_wire (form (elements.Scalar s)) (form (elements.Scalar t)) h
like_wire (elements.Scalar s) (elements.Enum t) h = like_forms_wire (form (elements.Scalar s)) (form (elements.Enum t)) h
like_wire (elements.Enum s) (elements.Scalar t) h = like_forms_wire (form (elements.Enum s)) (form (elements.Scalar t)) h
like_wire (elements.Enum s) (elements.Enum t) h = like_forms_wire (form (elements.Enum s)) (form (elements.Enum t)) h

pub same_wire-true : (a b : WireType) → same_wire a b ≡ true → a ≡ b
same_wire-true Varint Varint h = refl
same_wire-true I64 I64 h = refl
same_wire-true Len Len h = refl
same_wire-true I32 I32 h = refl
same_wire-true a b h = absurd (cc)

pub packable-from_wire : (e : Element) → same_wire Len (form_wire (form e)) ≡ false → is_packable e ≡ true
packable-from_wire (elements.Scalar scalars.String) h = absurd (cc)
packable-from_wire (elements.Scalar scalars.Bytes) h = absurd (cc)
packable-from_wire (elements.Scalar s) h = refl
packable-from_wire (elements.Enum e) h = refl
packable-from_wire (elements.Message t) h = absurd (cc)
