use Rattle.std.proofs.Common.{map, ap, sym, ◌∙◌}
use Rattle.pg_wire.specs.Reads.{seen_record}
use Rattle.pg_dyn.specs.message.Kept.{ends, type_of}
use Rattle.pg_dyn.specs.message_ref.Borrowed.{all_seen}
use Rattle.pg_dyn.proofs.lemmas.message.ReplacingLaws.{type_of-kept_onto}
use Rattle.pg_dyn.proofs.message_ref.MessageRef.type_id.Goals as goal

pub returns : goal.returns
returns c =
    let a = c.self.inside in
    sym (type_of-kept_onto (all_seen a.fields.items) (ends a.type_id (map seen_record a.unknown.items))) ∙ ap type_of c.self.view_is
