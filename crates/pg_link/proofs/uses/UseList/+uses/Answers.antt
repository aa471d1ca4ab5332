use Rattle.std.proofs.Common.{◌∙◌, ◌++◌, List, map, sym, ap}
use Rattle.pg_syntax.specs.declared.tree.Part.{Part}
use Rattle.pg_link.specs.names.Names.{texts}
use Rattle.pg_link.specs.inner.Made.{use_of}
use Rattle.pg_link.specs.uses.Uses.{Use, part_uses}
use Rattle.pg_link.proofs.lemmas.uses.UseLaws.{part_message}
use Rattle.pg_link.proofs.uses.UseList.+uses.Goals as goal

pub add_part-returns-in_ok-add_message-in-Message : goal.add_part-returns-in_ok-add_message-in-Message
add_part-returns-in_ok-add_message-in-Message t c =
    c.in_ok-add_message-in-Message.ensures ∙ ap (λ (us : List Use). map use_of c.args.self.now.uses.items ++ us)
    (sym (part_message (texts c.args.scope.now.value.items) c.in-Message.message) ∙ ap (λ (p : Part). part_uses (texts c.args.scope.now.value.items) p) (sym c.in-Message.is))
