use Rattle.std.proofs.Common.{◌≢◌, [], map, sym, ap, subst, ◌∙◌}
use Rattle.std.specs.List.{AllByRecursion}
use Rattle.pg_wire.specs.Reads.{seen_record}
use Rattle.pg_dyn.specs.message_ref.Borrowed.{IsFilled, content_seen}
use Rattle.pg_dyn.specs.message.Kept.{ends, type_of}
use Rattle.pg_dyn.specs.message.KeptParts.{AreOf, unknown_of}
use Rattle.pg_dyn.specs.message.Replacing.{all_parts, kept_onto}
use Rattle.pg_dyn.proofs.lemmas.message_ref.BorrowedParts.{content_number}
use Rattle.pg_dyn.proofs.lemmas.encoding.LentParts.{lent_filled}
use Rattle.pg_dyn.proofs.lemmas.message.ReplacingLaws.{shown_whole}
use Rattle.pg_dyn.proofs.Lists.{each_of_all, each_weaker}
use Rattle.pg_dyn.proofs.encoding.lending.MessageRefLends.fields.Goals as goal

pub returns-clause-whole : goal.returns-clause-whole
returns-clause-whole c =
    let a = c.self.inside in
    shown_whole content_seen a.fields.items a.type_id (map seen_record a.unknown.items) c.args.self.now c.self.view_is
    ∙ ap (λ ms. kept_onto (all_parts content_seen ms) (ends (type_of c.args.self.now) (unknown_of c.args.self.now))) (sym c.deref.ensures.value)

pub returns-clause-filled : goal.returns-clause-filled
returns-clause-filled c =
    subst (AllByRecursion (λ f. content_seen f.0 f.1 ≢ [])) (sym c.deref.ensures.value)
    (each_weaker (λ f. IsFilled f.1) (λ f. content_seen f.0 f.1 ≢ []) (λ f. lent_filled f.0 f.1) c.self.inside.fields.items c.self.invariant.filled)

pub returns-clause-numbered : goal.returns-clause-numbered
returns-clause-numbered c = each_of_all (λ f. AreOf f.0 (content_seen f.0 f.1)) (λ f. content_number f.0 f.1) c.deref.result.now
