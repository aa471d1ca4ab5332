use Rattle.std.proofs.Common.{◌≡◌, SFits, Some, ap, cond, not, of_z, pos, rules, sym, to_z, ◌∙◌}
use Rattle.std.proofs.lemmas.Int.{to_z-of_z}
use Rattle.std.specs.Int.{w128}
use Rattle.std.specs.Ordering.{int_eq}
use Rattle.pg_dyn.specs.message.Kept.{message_of}
use Rattle.pg_set.specs.stated.StatedFields.{packed_at, repeated, singular}
use Rattle.pg_set.specs.stated.StatedNames.{only_if}
use Rattle.pg_set.specs.stated.TypeMessages.{is_optional, label_at}
use Rattle.pg_set.proofs.lemmas.written.PresenceLaws.{not_three}
use Rattle.pg_set.proofs.reading.made_fields.presence.Goals as goal

pub returns-then-label_of-ne-REPEATED : goal.returns-then-label_of-ne-REPEATED
returns-then-label_of-ne-REPEATED c =
    let m = message_of c.args.message.now in
    let e = c.args.element in
    ap Some (c.singular.ensures ∙ ap (singular e c.args.member) c.flag-optional.ensures)
    ∙ sym (ap (λ b. cond b (only_if (not (is_optional m)) (Some (repeated e (packed_at m)))) (Some (singular e c.args.member (is_optional m))))
    (not_three (label_at m) (λ three. c.if-label_of-ne-REPEATED.true (ap (of_z w128) (c.label_of.ensures ∙ three)))))

pub returns-then-optional : goal.returns-then-optional
returns-then-optional c =
    let m = message_of c.args.message.now in
    let e = c.args.element in
    let fits : SFits w128 c.label_of.result = search rules in
    let three : label_at m ≡ pos 3 = sym c.label_of.ensures ∙ (sym (to_z-of_z w128 c.label_of.result fits) ∙ ap (to_z w128) c.if-label_of-ne-REPEATED.false) in
    sym (ap (λ n. cond (int_eq n (pos 3)) (only_if (not (is_optional m)) (Some (repeated e (packed_at m)))) (Some (singular e c.args.member (is_optional m)))) three
    ∙ ap (λ b. only_if (not b) (Some (repeated e (packed_at m)))) (sym c.flag-optional.ensures ∙ c.if-optional.true))

pub returns : goal.returns
returns c =
    let m = message_of c.args.message.now in
    let e = c.args.element in
    let fits : SFits w128 c.label_of.result = search rules in
    let three : label_at m ≡ pos 3 = sym c.label_of.ensures ∙ (sym (to_z-of_z w128 c.label_of.result fits) ∙ ap (to_z w128) c.if-label_of-ne-REPEATED.false) in
    ap Some (c.repeated.ensures ∙ ap (repeated e) c.option-packed.ensures)
    ∙ sym (ap (λ n. cond (int_eq n (pos 3)) (only_if (not (is_optional m)) (Some (repeated e (packed_at m)))) (Some (singular e c.args.member (is_optional m)))) three
    ∙ ap (λ b. only_if (not b) (Some (repeated e (packed_at m)))) (sym c.flag-optional.ensures ∙ c.if-optional.false))
