use Rattle.std.proofs.Common.{◌≡◌, ap, arith, filter, length, map, subst, sym, ◌∙◌}
use Rattle.std.proofs.lemmas.Result.{IfErr-weaker, IfOk-weaker, err_from_is_err_and}
use Rattle.pg_dyn.specs.message.Kept.{message_of}
use Rattle.std.specs.List.{list_all}
use Rattle.pg_set.specs.inner.reading.Made.{AreCounted, has_place, AreMarked}
use Rattle.pg_set.specs.inner.reading.OutlinedRows.{type_row}
use Rattle.pg_set.specs.inner.reading.Owners.{means_of}
use Rattle.pg_set.specs.stated.SetMessages.{children_at}
use Rattle.pg_set.specs.stated.StatedTypes.{last_named, own_entries, owner}
use Rattle.pg_set.specs.stated.TypeMessages.{is_entry, is_marked, synthetic_places}
use Rattle.pg_set.proofs.lemmas.lists.Each.{passed}
use Rattle.pg_set.proofs.lemmas.reading.OwnerLaws.{fields_moved, length_places, owner_is, placed_or_none}
use Rattle.pg_set.proofs.reading.made_types.declared_fields.Goals as goal

pub returns-in_err-members-clause-refused : goal.returns-in_err-members-clause-refused
returns-in_err-members-clause-refused c =
    let o = c.args.outlined.now in
    let m = message_of o.message in
    let many : c.len.result ≡ length (children_at 8 m) = omega (arith, c.len.ensures, c.args.synthetic.ok.0, c.requires.marked.all) in
    let p = err_from_is_err_and c.from_residual-in_err-members.result c.from_residual-in_err-members.ensures.1 in
    rw (p.1, p.2)
    (placed_or_none _ (means_of c.args.names.now) (owner (type_row o)) (own_entries m) c.len.result (children_at 2 m) (length_places (is_marked (synthetic_places (children_at 2 m))) 0 (length (children_at 8 m)) ∙ sym many)
    (λ placed. c.in_err-members.ensures.refused (ap (λ ms. list_all (has_place c.len.result) ms) c.requires.own ∙ placed)))

pub returns : goal.returns
returns c =
    let o = c.args.outlined.now in
    let m = message_of o.message in
    let inside : map message_of c.deref.result.now ≡ children_at 3 m = ap (λ xs. map message_of xs) c.deref.ensures.value ∙ c.in_ok-inside.ensures in
    let messages : map message_of c.in_ok-messages.messages.items ≡ own_entries m = c.in_ok-messages.ensures ∙ ap (filter is_entry) inside in
    let listed : map message_of c.deref-2.result.now ≡ own_entries m = ap (λ xs. map message_of xs) c.deref-2.ensures.value ∙ messages in
    let many : c.len.result ≡ length (children_at 8 m) = omega (arith, c.len.ensures, c.args.synthetic.ok.0, c.requires.marked.all) in
    let entries : map message_of c.deref-3.result.now ≡ own_entries m = ap (λ xs. map message_of xs) c.deref-3.ensures.value ∙ messages in
    let moved =
    fields_moved (means_of c.args.names.now) _ (owner (type_row o)) _ (own_entries m) _ (children_at 2 m)
    (owner_is o c.as_str.result.now c.in_ok-marks.marks c.in_ok-members.members.items c.in_ok-entries.entries c.as_str.ensures.value
    (subst (λ marks. AreMarked (synthetic_places (children_at 2 m)) (length (children_at 8 m)) marks) (sym c.in_ok-marks.ensures)
    (subst (λ ms. AreMarked (synthetic_places ms) (length (children_at 8 m)) c.args.synthetic.items) c.requires.own c.requires.marked))
    (subst (λ ms. AreCounted ms (length (children_at 8 m)) c.in_ok-members.members.items) c.requires.own (subst (λ k. AreCounted (map message_of c.args.own.now) k c.in_ok-members.members.items) many c.in_ok-members.ensures.counted))
    (λ name. c.in_ok-entries.ensures name ∙ ap (λ ms. last_named ms name) listed))
    entries c.requires.own in
    record {
      made = IfOk-weaker c.fields.result _ _ (λ made is. sym moved ∙ is) c.fields.ensures.made;
      refused = IfErr-weaker c.fields.result _ _ (λ e refused. passed _ _ (λ none. sym moved ∙ none) refused) c.fields.ensures.refused;
    }
