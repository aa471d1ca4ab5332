use Rattle.std.proofs.Common.{rules, ◌≡◌, length, subst}
use Rattle.std.specs.Prelude.{IfErr, IfOk}
use Rattle.pg_call.specs.Paths.{paths_of}
use Rattle.pg_link.specs.uses.UseFaults.{LinkRefuses}
use Rattle.pg_link.specs.walk.Walk.{IsLinked, World}
use Rattle.pg_gate.proofs.lemmas.answer.FolderLemmas.{including_some}
use Rattle.pg_gate.proofs.answer.folders.link_including.Goals as goal

pub returns-else-is_empty-clause-linked : goal.returns-else-is_empty-clause-linked
returns-else-is_empty-clause-linked g c =
    let some : length c.args.includes.now ≡ 0 → ⊥ = search rules in
    let same = including_some (g.S.Sources.may_give c.args.source.now) (g.S.Sources.may_lack c.args.source.now) c.args.folder.now c.args.includes.now (paths_of c.args.paths.now) some in
    subst (λ (w : World). IfOk c.link_through.result (λ linked. IsLinked w linked.files)) same c.link_through.ensures.linked

pub returns-else-is_empty-clause-refused : goal.returns-else-is_empty-clause-refused
returns-else-is_empty-clause-refused g c =
    let some : length c.args.includes.now ≡ 0 → ⊥ = search rules in
    let same = including_some (g.S.Sources.may_give c.args.source.now) (g.S.Sources.may_lack c.args.source.now) c.args.folder.now c.args.includes.now (paths_of c.args.paths.now) some in
    subst (λ (w : World). IfErr c.link_through.result (LinkRefuses w)) same c.link_through.ensures.refused
