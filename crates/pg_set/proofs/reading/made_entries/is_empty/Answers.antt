use Rattle.std.proofs.Common.{[], ◌≡◌, ap, map, ℕ}
use Rattle.std.proofs.lemmas.Result.{MatchResult-from_err}
use Rattle.pg_dyn.specs.declared.message_ref.ContentRef.{ContentRef}
use Rattle.pg_dyn.specs.message.Kept.{message_of, type_of}
use Rattle.pg_dyn.specs.message.KeptParts.{unknown_of}
use Rattle.pg_dyn.specs.message.Message.{Item, Part, is_of}
use Rattle.std.specs.Prelude.{filter}
use Rattle.pg_set.specs.stated.SetMessages.{items_at}
use Rattle.pg_set.proofs.lemmas.descriptor.MessageLaws.{all_more, all_taken, no_parts}
use Rattle.pg_set.proofs.reading.made_entries.is_empty.Goals as goal

pub loop-content-preserved : goal.loop-content-preserved
loop-content-preserved c =
    all_more (λ (f : ℕ × ContentRef). items_at f.0 (message_of c.args.message.now) ≡ []) c.contents-contents.result.now c.loop-content.content-index c.content-item.result c.loop-content-test.true c.content-item.is
    c.loop-content.invariant c.in_ok-lacks_all.ensures.ok

pub returns-in_err-lacks_all-clause-refused : goal.returns-in_err-lacks_all-clause-refused
returns-in_err-lacks_all-clause-refused c =
    MatchResult-from_err c.from_residual.result _ _ c.from_residual.ensures.0
    (λ r none. c.in_err-lacks_all.ensures.refused (ap (λ ps. map (λ (p : Part Item). p.item) (filter (is_of c.content-item.result.0) ps)) none))

pub returns-clause-ok : goal.returns-clause-ok
returns-clause-ok c =
    let m = c.args.message.now in
    no_parts m c.contents-contents.result.now (type_of m) (unknown_of m) c.contents-contents.ensures
    (all_taken (λ (f : ℕ × ContentRef). items_at f.0 (message_of m) ≡ []) c.contents-contents.result.now c.loop-content.content-index c.loop-content-test.false c.loop-content.invariant)
