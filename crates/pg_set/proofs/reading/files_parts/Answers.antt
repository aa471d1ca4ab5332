use Rattle.std.proofs.Common.{map, sym, ◌∙◌}
use Rattle.pg_dyn.specs.message.Kept.{message_of}
use Rattle.pg_set.proofs.lemmas.reading.ReadLaws.{refused_later, taken_stated}
use Rattle.pg_set.proofs.reading.files_parts.Goals as goal

pub returns-then-not-proto3-clause-refused : goal.returns-then-not-proto3-clause-refused
returns-then-not-proto3-clause-refused c = sym c.are_proto3-proto3.ensures ∙ c.if-not-proto3.true

pub returns-then-not-typed-clause-refused : goal.returns-then-not-typed-clause-refused
returns-then-not-typed-clause-refused c = (sym c.are_proto3-proto3.ensures ∙ c.if-not-proto3.false, sym c.in_ok-typed.ensures ∙ c.if-not-typed.true)

pub returns : goal.returns
returns c =
    let files = map message_of c.args.files.now in
    let proto3 = sym c.are_proto3-proto3.ensures ∙ c.if-not-proto3.false in
    let typed = sym c.in_ok-typed.ensures ∙ c.if-not-typed.false in
    record {
      ok = taken_stated c.args.skips files proto3 typed c.kept_parts.result c.kept_parts.ensures.ok;
      refused = refused_later c.args.skips files proto3 typed c.kept_parts.result c.kept_parts.ensures.refused;
    }
