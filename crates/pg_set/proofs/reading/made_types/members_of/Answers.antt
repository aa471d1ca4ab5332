use Rattle.std.proofs.Common.{◌≡◌, ap, length, subst, sym, true, ◌∙◌}
use Rattle.std.proofs.lemmas.Result.{err_from_is_err_and}
use Rattle.std.specs.List.{list_all}
use Rattle.pg_dyn.specs.message.Kept.{message_of}
use Rattle.pg_set.specs.inner.reading.OutlinedRows.{type_row}
use Rattle.pg_set.specs.inner.reading.Owners.{means_of}
use Rattle.pg_set.specs.stated.SetMessages.{children_at}
use Rattle.pg_set.specs.stated.StatedTypes.{own_entries, owner}
use Rattle.pg_set.specs.stated.FileMessages.{is_place}
use Rattle.pg_set.specs.stated.TypeMessages.{is_marked, synthetic_places}
use Rattle.pg_set.proofs.lemmas.reading.OwnerLaws.{length_places, placed_or_none, synthetic_placed}
use Rattle.pg_set.proofs.lemmas.lists.Zips.{seen_length}
use Rattle.pg_set.proofs.reading.made_types.members_of.Goals as goal

pub returns-in_err-synthetic-clause-refused : goal.returns-in_err-synthetic-clause-refused
returns-in_err-synthetic-clause-refused c =
    let o = c.args.outlined.now in
    let m = message_of o.message in
    let many : length c.args.inside.now ≡ length (children_at 8 m) = sym (seen_length c.args.inside.now) ∙ ap length c.requires.inside in
    let p = err_from_is_err_and c.from_residual-in_err-synthetic.result c.from_residual-in_err-synthetic.ensures.1 in
    rw (p.1, p.2)
    (placed_or_none _ (means_of c.args.names.now) (owner (type_row o)) (own_entries m) (length (children_at 8 m)) (children_at 2 m) (length_places (is_marked (synthetic_places (children_at 2 m))) 0 (length (children_at 8 m)))
    (λ placed.
    c.in_err-synthetic.ensures.refused
    (subst (λ k. list_all (is_place k) c.deref.result.now ≡ true) (sym many)
    (ap (λ ns. list_all (is_place (length (children_at 8 m))) ns) (c.deref.ensures.value ∙ (c.in_ok-places.ensures ∙ ap synthetic_places c.requires.own)) ∙ synthetic_placed (length (children_at 8 m)) (children_at 2 m) placed))))
