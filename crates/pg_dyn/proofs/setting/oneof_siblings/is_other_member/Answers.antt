use Rattle.std.proofs.Common.{not, nat_eq, ◌&&◌, ap, sym, ◌∙◌}
use Rattle.pg_schema.specs.Parts.{field_shape}
use Rattle.pg_dyn.proofs.setting.oneof_siblings.is_other_member.Goals as goal

pub returns-then-is_same_oneof : goal.returns-then-is_same_oneof
returns-then-is_same_oneof c =
    let f = field_shape c.args.field.now in
    let g = field_shape c.args.other.now in
    ap (λ b. b && not (nat_eq f.number g.number)) (sym c.if-is_same_oneof.true ∙ c.is_same_oneof.ensures)

pub returns-else-is_same_oneof : goal.returns-else-is_same_oneof
returns-else-is_same_oneof c =
    let f = field_shape c.args.field.now in
    let g = field_shape c.args.other.now in
    c.if-is_same_oneof.false ∙ ap (λ b. b && not (nat_eq f.number g.number)) (sym c.if-is_same_oneof.false ∙ c.is_same_oneof.ensures)
