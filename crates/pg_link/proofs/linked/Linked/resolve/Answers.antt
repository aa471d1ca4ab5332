use Rattle.std.proofs.Common.{◌∙◌, ◌∷◌, sym, ap, subst}
use Rattle.pg_link.specs.names.Files.{visible_names}
use Rattle.pg_link.specs.names.Names.{texts, Text, without_dot}
use Rattle.pg_link.specs.names.Resolves.{Resolves, reference}
use Rattle.pg_link.specs.walk.Walk.{outlines, path_of}
use Rattle.pg_link.proofs.lemmas.names.FullNames.{has_dot}
use Rattle.pg_link.proofs.linked.Linked.resolve.Goals as goal

pub returns-in-Ok-clause-resolves : goal.returns-in-Ok-clause-resolves
returns-in-Ok-clause-resolves c = λ e at.
    let visible = visible_names (outlines c.args.self.now.files) (path_of e) in
    let r : Resolves visible (texts c.args.scope.now) (reference c.args.name.now) c.in-Ok.full.now = c.in-Ok.ensures.resolves e at in
    let d = has_dot visible (texts c.args.scope.now) (reference c.args.name.now) c.in-Ok.full.now r in
    subst (λ (full : Text). Resolves visible (texts c.args.scope.now) (reference c.args.name.now) full)
    (d.1 ∙ ap (λ (t : Text). 46 ∷ t) (sym (c.behind_dot.ensures ∙ ap without_dot d.1))) r
