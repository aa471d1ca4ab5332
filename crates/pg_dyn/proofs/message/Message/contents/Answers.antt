use Rattle.std.proofs.Common.{map, ap, sym, ◌∙◌}
use Rattle.pg_dyn.specs.message.Kept.{ends, type_of}
use Rattle.pg_dyn.specs.message.KeptParts.{unknown_of}
use Rattle.pg_dyn.specs.message.Seen.{content_seen, fields_onto, record_seen}
use Rattle.pg_dyn.proofs.lemmas.message.ReplacingLaws.{shown_whole}
use Rattle.pg_dyn.proofs.message.Message.contents.Goals as goal

pub returns-clause-whole : goal.returns-clause-whole
returns-clause-whole c =
    let a = c.self.inside in
    shown_whole content_seen a.fields.items a.type_id (map record_seen a.unknown.items) c.args.self.now c.self.view_is
    ∙ ap (λ fs. fields_onto fs (ends (type_of c.args.self.now) (unknown_of c.args.self.now))) (sym c.as_slice.ensures.value)
