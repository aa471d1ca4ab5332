use Rattle.std.proofs.lemmas.Result.{IfErr-weaker, IfOk-weaker}
use Rattle.pg_call.specs.Paths.{paths_of}
use Rattle.pg_gate.specs.inner.Folders.{names_in}
use Rattle.pg_gate.proofs.lemmas.answer.FolderLemmas.{linked_through, refused_through, same_give, same_lack, same_source}
use Rattle.pg_gate.proofs.answer.folders.link_in.Goals as goal

pub returns-clause-linked : goal.returns-clause-linked
returns-clause-linked g c =
    let it = c.args.folders.now in
    IfOk-weaker c.link_below.result _ _
    (λ linked is. linked_through (g.S.Sources.may_give it.source.now) (g.S.Sources.may_lack it.source.now) (names_in it) (paths_of c.args.paths.now) linked.files is)
    c.link_below.ensures.linked

pub returns-clause-refused : goal.returns-clause-refused
returns-clause-refused g c =
    let it = c.args.folders.now in
    IfErr-weaker c.link_below.result _ _
    (λ error is. refused_through (g.S.Sources.may_give it.source.now) (g.S.Sources.may_lack it.source.now) (names_in it) (paths_of c.args.paths.now) error is)
    c.link_below.ensures.refused

pub returns-clause-same_source : goal.returns-clause-same_source
returns-clause-same_source g c = same_source _ _ _ _ c.link_below.ensures.reads_apart

pub returns-clause-reads : goal.returns-clause-reads
returns-clause-reads g c = record {
  counted = c.link_below.ensures.counted;
  same_given = same_give g.S.Sources c.args.folders.now c.link_below.new.source c.link_below.ensures.same_given;
  same_lacked = same_lack g.S.Sources c.args.folders.now c.link_below.new.source c.link_below.ensures.same_given;
}
