use Rattle.std.proofs.Common.{◌≡◌, Some, ap, map, option_map, rules, sym, ◌∙◌}
use Rattle.std.proofs.lemmas.List.Elements.{same_from_all_zip}
use Rattle.std.proofs.lemmas.Result.{err_from_is_err_and}
use Rattle.pg_dyn.specs.message.Kept.{message_of}
use Rattle.pg_set.specs.inner.Lent.{lent}
use Rattle.pg_set.specs.inner.reading.OutlinedPlaces.{placed_type}
use Rattle.pg_set.specs.stated.SetMessages.{children_at}
use Rattle.pg_set.specs.stated.StatedNames.{undotted}
use Rattle.pg_set.specs.stated.StatedTypes.{field_range, type_of}
use Rattle.pg_set.proofs.lemmas.lists.Each.{passed}
use Rattle.pg_set.proofs.lemmas.rows.PlaceIds.{enums_of_places, types_of_places}
use Rattle.pg_set.proofs.lemmas.written.DeclaredViews.{view_numbers}
use Rattle.pg_set.proofs.lemmas.lists.ViewLaws.{same_type}
use Rattle.pg_set.proofs.reading.made_types.made_type.Goals as goal

pub returns-in_err-members-clause-refused : goal.returns-in_err-members-clause-refused
returns-in_err-members-clause-refused c =
    let p = err_from_is_err_and c.from_residual.result c.from_residual.ensures.1 in
    rw (p.1, p.2) (passed _ _ (λ none. ap (option_map (type_of (placed_type c.args.outlined.now))) none) c.in_err-members.ensures.refused)

pub returns-clause-made : goal.returns-clause-made
returns-clause-made c =
    let o = c.args.outlined.now in
    let has = c.in_ok-members.ensures.made in
    let ranges : map message_of c.deref.result.now ≡ children_at 9 (message_of o.message) = ap (λ xs. map message_of xs) c.deref.ensures.value ∙ c.in_ok-children.ensures in
    let types : c.in_ok-nested_types.nested_types.items ≡ o.types.items = search (rules, same_from_all_zip) in
    let enums : c.in_ok-nested_enums.nested_enums.items ≡ o.enums.items = search (rules, same_from_all_zip) in
    ap (option_map (type_of (placed_type o))) has.fields
    ∙ ap Some (sym (same_type (c.in_ok-name.ensures.ok ∙ (c.undotted.ensures ∙ ap undotted c.as_str.ensures.value)) c.in_ok-sorted.ensures
    (c.in_ok-declared.ensures ∙ (ap (map (λ f. f.number)) c.deref-3.ensures.value ∙ sym (view_numbers c.in_ok-members.members.fields.items))) has.oneofs
    (types ∙ sym (types_of_places o.types.items)) (enums ∙ sym (enums_of_places o.enums.items)) (c.in_ok-reserved_numbers.ensures ∙ ap (map field_range) ranges)
    (c.in_ok-reserved_names.ensures ∙ (ap lent c.deref-2.ensures.value ∙ c.in_ok-texts.ensures)) c.option.ensures))
