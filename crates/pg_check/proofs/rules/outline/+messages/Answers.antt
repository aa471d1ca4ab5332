use Rattle.std.proofs.Common.{◌∙◌, ◌++◌, map, sym, ap}
use Rattle.pg_check.specs.inner.CodeViews.{message}
use Rattle.pg_check.specs.rules.Outline.{messages_in}
use Rattle.pg_check.proofs.lemmas.rules.Outlines.{part_messages}
use Rattle.pg_check.proofs.rules.outline.+messages.Goals as goal

pub push_part-returns-in_ok-push_message-in-Message : goal.push_part-returns-in_ok-push_message-in-Message
push_part-returns-in_ok-push_message-in-Message t c =
    c.in_ok-push_message-in-Message.ensures ∙ ap (λ ms. map message c.args.found.now.items ++ ms)
    (sym (part_messages c.args.scope.now c.in-Message.message) ∙ ap (messages_in c.args.scope.now) (sym c.in-Message.is))
