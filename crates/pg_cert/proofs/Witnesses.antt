-- Faults of witnesses.
use Rattle.std.proofs.Common.{◌≡◌, ℕ, List, length, Some, Option, refl, ap, sym, ◌∙◌, inl, negsuc, lit≤, lit<, arith}
use Rattle.std.specs.Str.{is_utf8, chars}
use Rattle.pg_wire.specs.Reading.{exactly, row}
use Rattle.pg_wire.specs.Varint.{varint_at, varint}
use Rattle.pg_wire.specs.Words.{signed, unzigzag}
use Rattle.pg_wire.specs.Records.{tag_parts, record_at, records_of, tag, written}
use Rattle.pg_schema.specs.ShapeRules.{IsShape}
use Rattle.pg_dyn.specs.word.Coding.{word_bytes, word_in}
use Rattle.pg_dyn.specs.encoding.Encoding.{enc}
use Rattle.pg_dyn.specs.reading.Decoding.{dec}
use Rattle.pg_dyn.specs.laws.Examples.{first, one, SameType}
use Rattle.pg_dyn.specs.laws.Laws.{ReadsAgain, SelfCompatible}
use Rattle.pg_dyn.specs.message.Message.{Int}
use Rattle.pg_pairs.specs.views.EnumView.{by_numbers}
use Rattle.pg_cert.specs.declared.error.CertError.TheVariants.{Memory, BadText, RootMissing, PairMissing, BoundTooHigh, WitnessNotWritten, WitnessLength, WitnessKeeps}
use Rattle.pg_cert.specs.Certificate.{IsWitnessed}
use Rattle.pg_cert.specs.Witness.{IsWritten}
use Rattle.pg_cert.specs.laws.CertificateLaws.{WitnessFaultsAreReal}
use Rattle.pg_cert.specs.laws.Worked as worked

pub witness_faults_are_real : WitnessFaultsAreReal
witness_faults_are_real enum_view old new root bound bytes WitnessNotWritten fault is =
    fault (record { message = is.message; is_message = is.breaks.is_message; is_plain = is.breaks.is_plain; has_encoding = is.breaks.has_encoding; written = is.written })
witness_faults_are_real enum_view old new root bound bytes WitnessLength fault is = fault.1 is.length_is
witness_faults_are_real enum_view old new root bound bytes WitnessKeeps fault is = fault.2 is
witness_faults_are_real enum_view old new root bound bytes Memory fault is = fault
witness_faults_are_real enum_view old new root bound bytes BadText fault is = fault
witness_faults_are_real enum_view old new root bound bytes RootMissing fault is = fault
witness_faults_are_real enum_view old new root bound bytes (PairMissing pair) fault is = fault
witness_faults_are_real enum_view old new root bound bytes (BoundTooHigh pair number case) fault is = fault

zero_read : dec worked.signed first worked.after_zero ≡ Some (one (Int (negsuc 0)))
unfolding is_utf8 chars exactly row varint_at varint signed unzigzag tag_parts record_at records_of tag written word_bytes word_in enc dec
zero_read = refl

pub signed_is_shape : IsShape worked.signed
signed_is_shape = record {
  few = lit≤ tt;
  each = (record { each = (record { number_above = lit≤ tt; number_below = lit< tt; not_reserved = inl (lit< tt); presence_fits = refl; element_fits = tt }, tt); rising = (tt, tt) }, tt);
}

pub zero_not_written : ReadsAgain → SameType → IsWritten worked.signed worked.root worked.after_zero → ⊥
zero_not_written again same is =
    let read = sym (ap (dec worked.signed first) is.written) ∙ again worked.signed first is.message signed_is_shape is.is_message is.has_encoding in
    let message : is.message ≡ one (Int (negsuc 0)) = let found = sym zero_read ∙ read in cc in
    let bytes : length worked.after_zero ≡ length worked.minus_one = ap length (sym is.written ∙ ap (enc worked.signed first) message ∙ same.written_as) in
    omega (arith, bytes)

pub same_is_kept : SelfCompatible → (bound : Option (Option ℕ)) (bytes : List ℕ) → IsWitnessed by_numbers worked.signed worked.signed worked.root bound bytes → ⊥
same_is_kept compatible bound bytes is = compatible worked.signed first signed_is_shape is.message is.breaks
