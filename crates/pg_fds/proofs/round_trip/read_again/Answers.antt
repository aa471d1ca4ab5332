use Rattle.pg_fds.proofs.lemmas.ReadAgain.{read_refused, read_same, read_stated, read_reported}
use Rattle.pg_fds.proofs.round_trip.read_again.Goals as goal

pub returns-clause-stated : goal.returns-clause-stated
returns-clause-stated c =
    read_stated c.args.schema.now c.in_ok-bytes.bytes.items c.as_slice.result.now c.as_slice.ensures.value c.in_ok-bytes.ensures.ok c.read.result c.read.ensures.ok

pub returns-clause-same : goal.returns-clause-same
returns-clause-same c =
    read_same c.read_again_are_readable.ensures c.args.schema.now c.in_ok-bytes.bytes.items c.as_slice.result.now c.as_slice.ensures.value c.read.result c.in_ok-bytes.ensures.stated c.read.ensures.same

pub returns-clause-refused : goal.returns-clause-refused
returns-clause-refused c =
    read_refused c.read_again_are_readable.ensures c.args.schema.now c.in_ok-bytes.bytes.items c.as_slice.result.now c.as_slice.ensures.value c.read.result c.in_ok-bytes.ensures.stated c.parts.ensures.checked.sound
    c.in_ok-bytes.ensures.shallow c.read.ensures.refused c.read.ensures.none_stated

pub returns-clause-reported : goal.returns-clause-reported
returns-clause-reported c =
    read_reported c.args.schema.now c.in_ok-bytes.bytes.items c.as_slice.result.now c.as_slice.ensures.value c.in_ok-bytes.ensures.ok c.read.result c.read.ensures.refused c.read.ensures.none_stated
