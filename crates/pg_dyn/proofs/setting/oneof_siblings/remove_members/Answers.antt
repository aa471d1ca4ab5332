use Rattle.std.proofs.Common.{sym, ◌∙◌}
use Rattle.pg_schema.specs.Parts.{field_shape}
use Rattle.pg_dyn.proofs.lemmas.setting.MembersOut.{all_stay, member_out, so_far, still_rises}
use Rattle.pg_dyn.proofs.setting.oneof_siblings.remove_members.Goals as goal

pub loop-other-init : goal.loop-other-init
loop-other-init c = all_stay (field_shape c.args.field.now) c.args.contents.now.items

pub remove-requires : goal.remove-requires
remove-requires c = still_rises (field_shape c.args.field.now) (so_far (field_shape c.args.field.now) c.args.members.now c.loop-other.other-index) c.args.contents.now.items c.loop-other.contents.items c.requires c.loop-other.invariant

pub loop-other-preserved : goal.loop-other-preserved
loop-other-preserved c =
    c.remove.ensures
    ∙ member_out (field_shape c.args.field.now) c.args.members.now c.loop-other.other-index c.other-item.result c.args.contents.now.items c.loop-other.contents.items c.loop-other-test.true c.other-item.is (sym c.is_other_member.ensures ∙ c.if-not-is_other_member.false) c.requires c.loop-other.invariant
