use Rattle.std.proofs.Common.{length, ap, sym, subst, arith}
use Rattle.std.proofs.lemmas.List.{length-map}
use Rattle.std.specs.List.{AllByRecursion}
use Rattle.pg_set.specs.inner.writing.Small.{HasSmallNumbers}
use Rattle.pg_set.proofs.lemmas.writing.FieldLaws.{each_found_holds, as_many_found}
use Rattle.pg_set.proofs.writing.messages.fields_of.Goals as goal

pub returns-clause-small : goal.returns-clause-small
returns-clause-small c =
    let t = c.args.message_type.now in
    subst (AllByRecursion HasSmallNumbers) (sym c.in_ok-fields.ensures) (each_found_holds HasSmallNumbers t.fields.items t.declared.items c.requires.small)

pub returns-clause-few : goal.returns-clause-few
returns-clause-few c =
    let t = c.args.message_type.now in
    omega (arith, ap length c.in_ok-fields.ensures, as_many_found t.fields.items t.declared.items, length-map c.in_ok-fields.fields.items (λ x. x.now))
