-- Like elements, either way round.
use Rattle.std.proofs.Common.{◌≡◌, true, refl, subst, eq-eqb}
use Rattle.pg_schema.specs.declared.parts.field.Element.{Element}
use Rattle.pg_schema.specs.declared.parts.field.Element.TheVariants as elements
use Rattle.pg_wire.specs.declared.record.WireType.{WireType}
use Rattle.pg_wire.specs.Records.{wire_code}
use Rattle.pg_dyn.specs.word.Coding.{Form, Integer, Single, Double, Text, Raw, form}
use Rattle.pg_dyn.specs.reading.Content.{same_wire}
use Rattle.pg_pairs.specs.gaps.Likeness.{like, like_forms}
use Rattle.pg_pairs.proofs.lemmas.gaps.Likeness.{same_wire-true}

same_wire_self : (wire : WireType) → same_wire wire wire ≡ true
same_wire_self wire = eq-eqb (wire_code wire) (wire_code wire) refl

forms_self : (f : Form) → like_forms f f ≡ true
forms_self (Integer w) = same_wire_self w.wire
forms_self Single = refl
forms_self Double = refl
forms_self Text = refl
forms_self Raw = refl

pub like_self : (e : Element) → like e e ≡ true
like_self (elements.Scalar s) = forms_self (form (elements.Scalar s))
like_self (elements.Enum s) = forms_self (form (elements.Enum s))
like_self (elements.Message s) = refl

forms_back : (f g : Form) → like_forms f g ≡ true → like_forms g f ≡ true
forms_back (Integer a) (Integer b) h = subst (λ w. same_wire w a.wire ≡ true) (same_wire-true a.wire b.wire h) (same_wire_self a.wire)
forms_back Single Single h = refl
forms_back Double Double h = refl
forms_back Text Text h = refl
forms_back Text Raw h = refl
forms_back Raw Text h = refl
forms_back Raw Raw h = refl
forms_back a b h = absurd (cc)

pub like_back : (e d : Element) → like e d ≡ true → like d e ≡ true
like_back (elements.Message s) (elements.Message t) h = refl
like_back (elements.Message s) (elements.Scalar t) h = absurd (cc)
like_back (elements.Message s) (elements.Enum t) h = absurd (cc)
like_back (elements.Scalar s) (elements.Message t) h = absurd (cc)
like_back (elements.Enum s) (elements.Message t) h = absurd (cc)
like_back (elements.Scalar s) (elements.Scalar t) h = forms_back (form (elements.Scalar s)) (form (elements.Scalar t)) h
like_back (elements.Scalar s) (elements.Enum t) h = forms_back (form (elements.Scalar s)) (form (elements.Enum t)) h
like_back (elements.Enum s) (elements.Scalar t) h = forms_back (form (elements.Enum s)) (form (elements.Scalar t)) h
like_back (elements.Enum s) (elements.Enum t) h = forms_back (form (elements.Enum s)) (form (elements.Enum t)) h
