use Rattle.std.proofs.Common.{ap, sym, ◌∙◌}
use Rattle.pg_schema.specs.Parts.{field_shape}
use Rattle.pg_pairs.specs.inner.LeastMembers.{beside, least_member}
use Rattle.pg_pairs.proofs.lemmas.choices.LeastMembers.{in_none, none_more, put}
use Rattle.pg_pairs.proofs.choices.least_member.met_by.Goals as goal

pub returns-in_default : goal.returns-in_default
returns-in_default c gs fs oneof_is kept =
    (sym (ap (λ o. least_member gs o c.args.field.now.oneof fs) c.in_default.is ∙ in_none gs c.args.field.now.oneof fs), none_more gs (field_shape c.args.field.now) fs c.args.kept.now kept (sym oneof_is ∙ c.in_default.is))

pub returns : goal.returns
returns c gs fs oneof_is kept =
    let later_is = c.copied-later.ensures ∙ c.get.ensures.value in (
      c.beside.ensures ∙ ap (λ l. beside l c.args.field.now.oneof) later_is ∙ kept.least c.in-Some.oneof c.args.field.now.oneof ∙ ap (λ n. least_member gs n c.args.field.now.oneof fs) (sym c.in-Some.is),
      put gs (field_shape c.args.field.now) fs c.args.kept.now kept c.in-Some.oneof c.member_of.result c.copied-later.result c.with_member.result c.insert.new.self (sym oneof_is ∙ c.in-Some.is) c.member_of.ensures later_is c.in_ok-insert.ensures.updates c.with_member.ensures.met
          c.with_member.ensures.ordered,
    )
