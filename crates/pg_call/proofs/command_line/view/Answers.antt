use Rattle.std.proofs.Common.{◌∙◌, ap, codes}
use Rattle.std.specs.Str.{bytes_eq}
use Rattle.pg_call.specs.Call.{view_if}
use Rattle.pg_call.proofs.command_line.view.Goals as goal

pub returns : goal.returns
returns c = c.view_if.ensures ∙ ap view_if (c.eq.ensures ∙ ap (λ t. bytes_eq t (codes "names")) c.text.ensures)
