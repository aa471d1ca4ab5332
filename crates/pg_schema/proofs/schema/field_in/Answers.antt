use Rattle.std.proofs.Common.{sym, rules}
use Rattle.std.proofs.lemmas.List.Sorted.{answers_always}
use Rattle.pg_schema.specs.declared.parts.field.Field.{Field}
use Rattle.pg_schema.proofs.lemmas.schema.FieldSearch.{searchable, found_at, none_found, equal_number, apart}
use Rattle.pg_schema.proofs.schema.field_in.Goals as goal

pub returns-then-field-number : goal.returns-then-field-number
returns-then-field-number c =
    sym (found_at c.args.number c.saturating_sub-counted.result c.args.fields.now c.index-fields-counted.result c.requires c.if-counted-fields.true c.index-fields-counted.is
    c.if-field-number.true)

pub returns-in-Ok : goal.returns-in-Ok
returns-in-Ok c =
    let equal = c.in-Ok.ensures.position (λ (f : Field). f.number) (answers_always _ _ _ (λ f a r g called. search rules)) in
    sym (found_at c.args.number c.in-Ok.place c.args.fields.now c.index-fields-place.result c.requires c.in-Ok.ensures.bound c.index-fields-place.is
    (equal_number c.index-fields-place.result.number c.args.number (rw (c.index-fields-place.is) (equal c.index-fields-place.result))))

pub returns-in-Err : goal.returns-in-Err
returns-in-Err c =
    let split = c.in-Err.ensures.position (λ (f : Field). f.number) (answers_always _ _ _ (λ f a r g called. search rules)) (searchable c.args.fields.now c.args.number c.requires) in
    sym (none_found c.args.number c.args.fields.now (apart c.args.number c.in-Err.field-0 c.args.fields.now split.0 split.1))
