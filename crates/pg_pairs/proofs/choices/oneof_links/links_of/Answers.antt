use Rattle.std.proofs.Common.{arith, ◌≡◌, ◌<◌, ◌-◌, ◌∙◌, suc, length, if◌then◌else◌, ap, sym, subst, refl}
use Rattle.pg_schema.specs.Parts.{field_shape, shape_of}
use Rattle.pg_schema.specs.Shape.{fields}
use Rattle.pg_dyn.specs.reading.Content.{same_oneof}
use Rattle.pg_pairs.specs.choices.NewOneof.{new_oneof}
use Rattle.pg_pairs.specs.inner.OneofLinks.{AreFirst, AreLinks, IsAny, Passes, first_in}
use Rattle.pg_pairs.proofs.lemmas.choices.OneofLinks.{first_before, links_before, linked}
use Rattle.pg_pairs.proofs.choices.oneof_links.links_of.Goals as goal

pub other_from-other-requires : goal.other_from-other-requires
other_from-other-requires c = ap length c.deref.ensures.value ∙ c.loop-at.invariant.links.long

pub index_mut-requires : goal.index_mut-requires
index_mut-requires c =
    let long = c.loop-at.invariant.links.long in
    let counted = ap length c.deref.ensures.value in
    let items = c.deref.ensures.len in
    let small = c.loop-at.invariant.place in
    let positive = c.loop-at-test.true in
    omega arith

pub loop-at-preserved : goal.loop-at-preserved
loop-at-preserved c =
    let list = c.args.list.now in
    let gs = fields (shape_of c.args.new.now) c.args.type_id in
    let f = c.index-list-at.result in
    let n = c.loop-at.at - 1 in
    let small = c.loop-at.invariant.place in
    let positive = c.loop-at-test.true in
    let inside : n < length list = omega arith in
    let next : c.loop-at.at ≡ suc n = omega arith in
    record {
      none = refl;
      place = omega arith;
      first =
          first_before gs list n f inside c.index-list-at.is (λ o. first_in c.loop-at.first o (length list)) (λ o. first_in c.next_of.new.first o (length list))
          (λ o. c.in_ok-next.ensures.kept o ∙ ap (λ q. if same_oneof q o then n else first_in c.loop-at.first o (length list)) c.new_oneof.ensures)
          (subst (λ m. AreFirst gs list m c.loop-at.first) next c.loop-at.invariant.first);
      links =
          let are = subst (λ m. AreLinks gs list m c.loop-at.links.items) next c.loop-at.invariant.links in
          let p : Passes gs list (new_oneof gs (field_shape f)) IsAny (suc n) c.in_ok-next.next =
          subst (Passes gs list (new_oneof gs (field_shape f)) IsAny (suc n)) (sym (c.in_ok-next.ensures.former ∙ ap (λ q. first_in c.loop-at.first q (length list)) c.new_oneof.ensures))
          (subst (λ m. AreFirst gs list m c.loop-at.first) next c.loop-at.invariant.first (new_oneof gs (field_shape f))) in
          links_before gs list n c.loop-at.links.items _ inside are
          (linked gs list n f inside c.index-list-at.is c.in_ok-next.next c.other_from-other.result p
          (c.other_from-other.ensures.passes gs (suc n) (subst (AreLinks gs list (suc n)) (sym c.deref.ensures.value) are) p.later p)
          (c.other_from-other.ensures.outside gs (suc n) (subst (AreLinks gs list (suc n)) (sym c.deref.ensures.value) are) p.later));
    }

pub returns : goal.returns
returns c = let start : c.loop-at.at ≡ 0 = (let done = c.loop-at-test.false in omega arith) in subst (λ n. AreLinks (fields (shape_of c.args.new.now) c.args.type_id) c.args.list.now n c.loop-at.links.items) start c.loop-at.invariant.links
