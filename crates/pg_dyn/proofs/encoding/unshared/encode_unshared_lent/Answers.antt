use Rattle.std.proofs.Common.{◌≤◌, length, flat_map, take_all, refl, inl, inr, ⊎_elim, ap, sym, subst, ◌∙◌, arith}
use Rattle.std.proofs.lemmas.Result.{err_from_is_err_and}
use Rattle.pg_schema.specs.Parts.{shape_of}
use Rattle.pg_schema.specs.Shape.{fields}
use Rattle.pg_dyn.specs.message.Kept.{type_of}
use Rattle.pg_dyn.specs.encoding.Unshared.{outside_written}
use Rattle.pg_dyn.specs.encoding.Lending.{HoldsParts}
use Rattle.pg_dyn.proofs.lemmas.encoding.EncodeSteps.{contents_held}
use Rattle.pg_dyn.proofs.lemmas.encoding.UnsharedFields.{lent_outside}
use Rattle.pg_dyn.proofs.encoding.unshared.encode_unshared_lent.Goals as goal
use Rattle.pg_dyn.proofs.Lists.{each_at_index, each_within}

pub push_outside-requires-clause-holds : goal.push_outside-requires-clause-holds
push_outside-requires-clause-holds g c =
    let m = g.M.Lends.kept c.args.message.now in
    let ms = c.fields-held-items.result.now in
    let held = contents_held g.M.Lends.parts (shape_of c.args.schemas.now.own.now) m ms c.parts.ensures.checked.shape c.requires c.fields-held-items.ensures.whole c.fields-held-items.ensures.filled c.fields-held-items.ensures.numbered in
    let one = each_at_index (λ x. HoldsParts (shape_of c.args.schemas.now.own.now) (type_of (g.M.Lends.kept c.args.message.now)) x.0 (g.M.Lends.parts x.0 x.1)) ms ms c.loop-held.held-index c.held-item.result refl c.loop-held-test.true c.held-item.is held in
    subst (λ t. HoldsParts (shape_of c.args.schemas.now.own.now) t c.held-item.result.0 (g.M.Lends.parts c.held-item.result.0 c.held-item.result.1)) (sym c.message_type-type_id.ensures) one

pub returns-clause-ok : goal.returns-clause-ok
returns-clause-ok g c =
    let shape = shape_of c.args.schemas.now.own.now in
    let gs = fields (shape_of c.args.schemas.now.other.now) c.args.schemas.now.other_type in
    let m = g.M.Lends.kept c.args.message.now in
    let ms = c.fields-held-items.result.now in
    let held = contents_held g.M.Lends.parts (shape_of c.args.schemas.now.own.now) m ms c.parts.ensures.checked.shape c.requires c.fields-held-items.ensures.whole c.fields-held-items.ensures.filled c.fields-held-items.ensures.numbered in
    c.loop-held.invariant
    ∙ ap (flat_map (outside_written g.M.Lends.parts shape c.message_type-type_id.result gs)) (take_all c.loop-held.held-index ms c.loop-held-test.false)
    ∙ ap (λ t. flat_map (outside_written g.M.Lends.parts shape t gs) ms) c.message_type-type_id.ensures
    ∙ lent_outside g.M.Lends.parts shape gs m ms c.parts.ensures.checked.shape c.fields-held-items.ensures.whole c.fields-held-items.ensures.rises held

pub returns-in_err-push_outside-clause-err : goal.returns-in_err-push_outside-clause-err
returns-in_err-push_outside-clause-err g c =
    let shape = shape_of c.args.schemas.now.own.now in
    let gs = fields (shape_of c.args.schemas.now.other.now) c.args.schemas.now.other_type in
    let m = g.M.Lends.kept c.args.message.now in
    let ms = c.fields-held-items.result.now in
    let held = contents_held g.M.Lends.parts (shape_of c.args.schemas.now.own.now) m ms c.parts.ensures.checked.shape c.requires c.fields-held-items.ensures.whole c.fields-held-items.ensures.filled c.fields-held-items.ensures.numbered in
    let own = outside_written g.M.Lends.parts shape c.message_type-type_id.result gs in
    let all = ap (λ t. flat_map (outside_written g.M.Lends.parts shape t gs) ms) c.message_type-type_id.ensures
    ∙ lent_outside g.M.Lends.parts shape gs m ms c.parts.ensures.checked.shape c.fields-held-items.ensures.whole c.fields-held-items.ensures.rises held in
    let within : length (own c.held-item.result) ≤ length (flat_map own ms) =
    each_at_index (λ x. length (own x) ≤ length (flat_map own ms)) ms ms c.loop-held.held-index c.held-item.result refl c.loop-held-test.true c.held-item.is (each_within own ms) in
    let p = err_from_is_err_and c.from_residual.result c.from_residual.ensures.1 in
    rw (p.1, p.2)
    (⊎_elim inl (λ told. inr (told.0, omega (arith, told.1, within, ap length all))) c.in_err-push_outside.ensures.err)
