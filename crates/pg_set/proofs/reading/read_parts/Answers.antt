use Rattle.std.proofs.Common.{◌≡◌}
use Rattle.std.proofs.lemmas.Result.{IfErr-weaker, IfOk-weaker}
use Rattle.pg_schema.specs.declared.parts.Parts.{Parts}
use Rattle.pg_set.specs.round_trip.Readable.{IsReadable}
use Rattle.pg_set.specs.stated.Reads.{fds_reads}
use Rattle.pg_set.specs.refusals.Refused.{MayRefuseParts, NoPartsAreStated}
use Rattle.pg_set.specs.stated.Views.{parts_view}
use Rattle.pg_set.proofs.lemmas.round_trip.StatedSets.{reads_readable}
use Rattle.pg_set.proofs.lemmas.refusals.NoneStated.{none_stated}
use Rattle.pg_set.proofs.lemmas.reading.ReadLaws.{read_once}
use Rattle.pg_set.proofs.reading.read_parts.Goals as goal

pub returns : goal.returns
returns c =
    let bytes = c.args.bytes.now in
    let r = c.bytes_parts.result in
    record {
      ok = c.bytes_parts.ensures.ok;
      level = c.bytes_parts.ensures.level;
      refused = c.bytes_parts.ensures.refused;
      same = IfOk-weaker r (λ made. fds_reads bytes made) (λ made. (parts : Parts) → fds_reads bytes parts → parts_view made ≡ parts_view parts)
          (λ made reads parts theirs. read_once bytes made parts reads theirs) c.bytes_parts.ensures.ok;
      readable = IfOk-weaker r (λ made. fds_reads bytes made) IsReadable (λ made reads. reads_readable bytes made reads) c.bytes_parts.ensures.ok;
      none_stated = IfErr-weaker r (MayRefuseParts bytes) (NoPartsAreStated bytes) (none_stated c.faults_are_real.ensures bytes) c.bytes_parts.ensures.refused;
    }
