use Rattle.std.proofs.Common.{[], Some, ap, ap₂, ◌∙◌}
use Rattle.pg_dyn.specs.word.Coding.{scalar_form}
use Rattle.pg_dyn.specs.message.Message.{ends, with_part}
use Rattle.pg_pairs.specs.witness.Carried.{item_by}
use Rattle.pg_pairs.specs.inner.CarriedItems.{leaf_by}
use Rattle.pg_pairs.proofs.lemmas.witness.carried.CarriedParts.{apart_made}
use Rattle.pg_pairs.proofs.lemmas.witness.TakenItems.{if_ok_map}
use Rattle.pg_pairs.proofs.witness.content.apart_content.Goals as goal

pub returns-clause-seen : goal.returns-clause-seen
returns-clause-seen c =
    let number = c.args.fields.now.old.now.number in
    if_ok_map c.entry_content.result (λ content h.
    h number (ends [])
    ∙ ap₂ (λ key item. with_part number (Some key) item (ends [])) (c.in_ok-key.ensures.leaf ∙ ap (λ small. leaf_by small (scalar_form c.args.keys.0)) c.apart_small-far_key.ensures) (c.in_ok-value.ensures.seen ∙ ap (λ small. item_by (leaf_by small) c.args.fields.now.old.now.element) c.apart_small-far_value.ensures)
    ∙ apart_made number c.args.keys.0 c.args.keys.1 c.args.fields.now.old.now.element c.args.fields.now.new.now.element)
    c.entry_content.ensures.seen

pub returns-clause-taken : goal.returns-clause-taken
returns-clause-taken c =
    if_ok_map c.entry_content.result (λ content h. λ shape element. h shape c.args.keys.0 c.args.fields.now.old.now.element c.in_ok-key.ensures.item (c.in_ok-value.ensures.fits shape element))
    c.entry_content.ensures.taken
