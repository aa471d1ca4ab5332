-- The empty string is UTF-8.
use Rattle.std.proofs.Common.{◌≡◌, [], true, refl, sym, subst}
use Rattle.std.proofs.lemmas.Str.{IsUtf8-nil, is_utf8-from_IsUtf8}
use Rattle.pg_schema.specs.declared.parts.field.Element.TheVariants as elements
use Rattle.pg_dyn.specs.word.Coding.{InRange, scalar_form}
use Rattle.pg_dyn.specs.message.Message.{Bytes}
use Rattle.pg_dyn.specs.fitting.Fits.{is_string}
use Rattle.pg_dyn.proofs.reading.items.zero_of.Goals as goal

pub returns-in-String-clause-item : goal.returns-in-String-clause-item
returns-in-String-clause-item c =
    subst (λ s. InRange (scalar_form s) (Bytes []) × (true ≡ is_string (elements.Scalar s))) (sym c.in-String.is) (is_utf8-from_IsUtf8 [] IsUtf8-nil, refl)
