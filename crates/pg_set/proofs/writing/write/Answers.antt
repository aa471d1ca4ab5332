use Rattle.std.proofs.Common.{◌<◌, ◌≤◌, length, inr, refl, arith}
use Rattle.pg_dyn.specs.encoding.Encoding.{cap}
use Rattle.pg_set.specs.writing.Set.{fds}
use Rattle.pg_set.proofs.lemmas.writing.SmallLaws.{set_long, set_written}
use Rattle.pg_set.proofs.lemmas.written.WrittenSets.{written_shallow, written_states}
use Rattle.pg_set.proofs.writing.write.Goals as goal

pub returns-then-len-gt-MAX_ENCODING_LEN-clause-err : goal.returns-then-len-gt-MAX_ENCODING_LEN-clause-err
returns-then-len-gt-MAX_ENCODING_LEN-clause-err c =
    let bytes = c.in_ok-bytes.bytes in
    let long : cap < length bytes.items = omega (arith, c.if-len-gt-MAX_ENCODING_LEN.true, c.len.ensures, bytes.ok.0) in
    inr (refl, set_long c.args.schema.now bytes.items c.in_ok-bytes.ensures long)

pub returns-clause-ok : goal.returns-clause-ok
returns-clause-ok c =
    let bytes = c.in_ok-bytes.bytes in
    let short : length bytes.items ≤ cap = omega (arith, c.if-len-gt-MAX_ENCODING_LEN.false, c.len.ensures, bytes.ok.0) in
    set_written c.args.schema.now bytes.items c.in_ok-bytes.ensures short

pub returns-clause-stated : goal.returns-clause-stated
returns-clause-stated c readable =
    let bytes = c.in_ok-bytes.bytes in
    let short : length bytes.items ≤ cap = omega (arith, c.if-len-gt-MAX_ENCODING_LEN.false, c.len.ensures, bytes.ok.0) in
    let written : fds c.args.schema.now bytes.items = set_written c.args.schema.now bytes.items c.in_ok-bytes.ensures short in
    written_states c.reads_again.ensures c.args.schema.now bytes.items c.in_ok-bytes.ensures.belongs written c.parts-parts.ensures.checked.sound readable

pub returns-clause-shallow : goal.returns-clause-shallow
returns-clause-shallow c shallow =
    let bytes = c.in_ok-bytes.bytes in
    let short : length bytes.items ≤ cap = omega (arith, c.if-len-gt-MAX_ENCODING_LEN.false, c.len.ensures, bytes.ok.0) in
    let written : fds c.args.schema.now bytes.items = set_written c.args.schema.now bytes.items c.in_ok-bytes.ensures short in
    written_shallow c.encoding_spells.ensures c.writing_splits.ensures c.args.schema.now bytes.items c.in_ok-bytes.ensures.belongs written shallow
