use Rattle.std.proofs.Common.{◌∙◌, ◌++◌, map, sym, ap}
use Rattle.pg_syntax.specs.declared.tree.Part.{Part}
use Rattle.pg_link.specs.names.Declares.{Declarations, Done, names_in}
use Rattle.pg_link.specs.inner.Made.{declared_of}
use Rattle.pg_link.specs.names.Outline.{of_part}
use Rattle.pg_link.proofs.lemmas.names.DeclareLaws.{one_more, part_message, part_rest}
use Rattle.pg_link.proofs.names.declares.NameList.+messages.Goals as goal

pub add_parts-loop-part-preserved : goal.add_parts-loop-part-preserved
add_parts-loop-part-preserved t c =
    one_more c.args.scope.now of_part (part_rest c.args.scope.now) c.args.parts.now c.loop-part.part-index c.part-item.result _ _ _ c.loop-part-test.true c.part-item.is
    c.in_ok-add_part.ensures c.loop-part.invariant

pub add_part-returns-in_ok-add_message-in-Message : goal.add_part-returns-in_ok-add_message-in-Message
add_part-returns-in_ok-add_message-in-Message t c =
    c.in_ok-add_message-in-Message.ensures ∙ ap (λ (d : Declarations). map declared_of c.args.self.now.names.items ++ names_in c.args.scope.now d)
    (sym (part_message c.in-Message.message) ∙ ap (λ (p : Part). of_part p Done) (sym c.in-Message.is))
