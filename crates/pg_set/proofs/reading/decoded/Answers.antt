use Rattle.std.proofs.Common.{◌≡◌, ◌<◌, length, Some, sym, subst, rules}
use Rattle.pg_schema.specs.Shape.{fields}
use Rattle.pg_dyn.specs.reading.Decoding.{dec}
use Rattle.pg_dyn.specs.fitting.Fits.{Fits}
use Rattle.pg_dyn.specs.message.Kept.{message_of}
use Rattle.pg_dyn.specs.reading.Refusals.{MayRefuse}
use Rattle.pg_dyn.specs.reading.Faults.{TooDeepIn}
use Rattle.pg_set.specs.descriptor.Descriptor.{written_shape, file_set}
use Rattle.pg_set.proofs.lemmas.descriptor.HeldFits.{set_held}
use Rattle.pg_set.proofs.reading.decoded.Goals as goal

pub decode_ref-requires : goal.decode_ref-requires
decode_ref-requires c = record { type_id = subst (λ s. 0 < length s) (sym c.in_ok-table.ensures.shape) (search rules) }

pub returns-in-Ok-clause-message : goal.returns-in-Ok-clause-message
unfolding written_shape
returns-in-Ok-clause-message c = subst (λ s. dec s file_set c.args.bytes.now ≡ Some (message_of c.in-Ok.set)) c.in_ok-table.ensures.shape c.in-Ok.ensures.message

pub returns-in-Ok-clause-texts : goal.returns-in-Ok-clause-texts
unfolding written_shape
returns-in-Ok-clause-texts c =
    set_held c.in-Ok.set (subst (λ s. Fits s c.in-Ok.set) c.in_ok-table.ensures.shape c.in-Ok.ensures.fits.0)

pub returns-in-Ok-clause-level : goal.returns-in-Ok-clause-level
unfolding written_shape
returns-in-Ok-clause-level c = λ place deep. c.in-Ok.ensures.within place (subst (λ s. TooDeepIn s 100 (fields s file_set) c.args.bytes.now place) (sym c.in_ok-table.ensures.shape) deep)

pub returns : goal.returns
unfolding written_shape
returns c = record {
  message = tt;
  texts = tt;
  level = tt;
  refused = c.undecoded.ensures c.args.bytes.now (subst (λ s. MayRefuse s file_set 100 c.args.bytes.now c.in-Err.error) c.in_ok-table.ensures.shape c.in-Err.ensures.refused);
}
