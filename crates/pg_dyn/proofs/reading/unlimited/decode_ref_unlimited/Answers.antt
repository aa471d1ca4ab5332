-- No message is deeper than the bytes are many, and what is refused, memory aside, has no reading.
use Rattle.std.proofs.Common.{◌+◌, length, sym, arith}
use Rattle.pg_schema.specs.Parts.{shape_of}
use Rattle.pg_dyn.proofs.lemmas.reading.faults.TooDeepLaws.{of_error, refused_unlimited, refused_unread}
use Rattle.pg_dyn.proofs.reading.unlimited.decode_ref_unlimited.Goals as goal

pub returns-clause-refused : goal.returns-clause-refused
returns-clause-refused c =
    of_error c.decode_ref.result (λ e h. refused_unlimited (shape_of c.args.schema.now) c.args.type_id c.args.bytes.now e h) c.decode_ref.ensures.refused

pub returns-clause-unread : goal.returns-clause-unread
returns-clause-unread c =
    of_error c.decode_ref.result (λ e h other. sym (refused_unread (shape_of c.args.schema.now) c.args.type_id (length c.args.bytes.now + 1) c.args.bytes.now e (omega arith) other h)) c.decode_ref.ensures.refused
