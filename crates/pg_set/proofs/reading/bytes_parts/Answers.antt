use Rattle.std.proofs.Common.{◌≡◌, Some, subst, sym}
use Rattle.pg_dyn.specs.reading.Decoding.{dec}
use Rattle.pg_dyn.specs.message.Kept.{message_of}
use Rattle.pg_set.specs.descriptor.Descriptor.{written_shape, file_set}
use Rattle.pg_set.proofs.lemmas.reading.ReadLaws.{always, bytes_refused, bytes_stated}
use Rattle.pg_set.proofs.reading.bytes_parts.Goals as goal

pub returns : goal.returns
returns c =
    let bytes = c.args.bytes.now in
    let set = message_of c.new-message.result in
    let is : dec written_shape file_set bytes ≡ Some set =
    subst (λ m. dec written_shape file_set bytes ≡ Some (message_of m)) (sym c.new-message.ensures) c.in_ok-set.ensures.message in
    record {
      ok = bytes_stated bytes set is c.set_parts.result c.set_parts.ensures.ok;
      level = always c.set_parts.result c.in_ok-set.ensures.level;
      refused = bytes_refused bytes set is c.in_ok-set.ensures.level c.set_parts.result c.set_parts.ensures.refused;
    }
