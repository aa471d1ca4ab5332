use Rattle.std.proofs.Common.{◌≡◌, ap, length, map, subst, sym, ◌∙◌}
use Rattle.pg_dyn.specs.message.Kept.{message_of}
use Rattle.pg_set.specs.stated.SetMessages.{children_at, text_at}
use Rattle.pg_set.specs.inner.reading.Made.{AreMarked}
use Rattle.pg_set.specs.stated.TypeMessages.{real_oneofs, synthetic_places}
use Rattle.pg_set.proofs.lemmas.lists.Zips.{seen_length}
use Rattle.pg_set.proofs.reading.made_types.marked_members.Goals as goal

pub declared_fields-requires-clause-marked : goal.declared_fields-requires-clause-marked
declared_fields-requires-clause-marked c =
    let many : length c.args.inside.now ≡ length (children_at 8 (message_of c.args.outlined.now.message)) = sym (seen_length c.args.inside.now) ∙ ap length c.requires.inside in
    subst (λ k. AreMarked (synthetic_places (map message_of c.args.own.now)) k c.args.synthetic.items) many
    (subst (λ ns. AreMarked ns (length c.args.inside.now) c.args.synthetic.items) c.requires.places c.requires.marked)

pub returns-clause-made : goal.returns-clause-made
returns-clause-made c = record {
  fields = c.in_ok-fields.ensures.made;
  oneofs = c.in_ok-oneofs.ensures
      ∙ (ap (λ ns. map (text_at 1) (real_oneofs ns 0 (map message_of c.args.inside.now))) (c.requires.places ∙ ap synthetic_places c.requires.own)
      ∙ ap (λ ms. map (text_at 1) (real_oneofs (synthetic_places (children_at 2 (message_of c.args.outlined.now.message))) 0 ms)) c.requires.inside);
}
