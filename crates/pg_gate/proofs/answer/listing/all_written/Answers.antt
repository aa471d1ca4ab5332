use Rattle.std.proofs.Common.{◌∙◌, inr, ap, option_map, string_bytes}
use Rattle.std.proofs.lemmas.Result.{IfErr-weaker, IfOk-weaker}
use Rattle.pg_call.specs.Paths.{paths_in, paths_of}
use Rattle.pg_gate.specs.answer.Files.{IsFaultOfSet, IsSetOf}
use Rattle.pg_gate.specs.answer.Grants.{IsListedFault}
use Rattle.pg_gate.specs.inner.Sources.{world_of}
use Rattle.pg_lines.specs.declared.side.Side.TheVariants as sides
use Rattle.pg_gate.proofs.lemmas.answer.ListLemmas.{after_reads, as_listed, error_of-weaker}
use Rattle.pg_gate.proofs.answer.listing.all_written.Goals as goal

pub returns-clause-written : goal.returns-clause-written
returns-clause-written g c =
    let files = paths_in c.args.files.now in
    let all = paths_in c.at_paths.result in
    let list = option_map string_bytes c.in_ok-list.list in
    let same = as_listed files all list _ _ c.at_paths.ensures (ap paths_of c.deref.ensures.value ∙ c.in_ok-includes.ensures) (ap paths_of c.deref-2.ensures.value ∙ c.in_ok-paths.ensures.all) in
    IfOk-weaker c.written.result _ _
    (λ bytes is. after_reads g.S.Sources c.args.source.now files list c.in_ok-list.ensures.given c.in_ok-paths.ensures.some c.list_of.new.source all (λ w. IsSetOf w bytes.items) c.in_ok-list.ensures.reads same is)
    c.written.ensures.written

pub returns-clause-refused : goal.returns-clause-refused
returns-clause-refused g c =
    let files = paths_in c.args.files.now in
    let all = paths_in c.at_paths.result in
    let list = option_map string_bytes c.in_ok-list.list in
    let same = as_listed files all list _ _ c.at_paths.ensures (ap paths_of c.deref.ensures.value ∙ c.in_ok-includes.ensures) (ap paths_of c.deref-2.ensures.value ∙ c.in_ok-paths.ensures.all) in
    let give = g.S.Sources.may_give c.args.source.now in
    let lack = g.S.Sources.may_lack c.args.source.now in
    IfErr-weaker c.written.result _ _
    (λ error is. error_of-weaker (IsFaultOfSet (world_of g.S.Sources c.list_of.new.source all)) (IsListedFault give lack files IsFaultOfSet) sides.Old
    (λ fault of. inr (after_reads g.S.Sources c.args.source.now files list c.in_ok-list.ensures.given c.in_ok-paths.ensures.some c.list_of.new.source all (λ w. IsFaultOfSet w fault) c.in_ok-list.ensures.reads same of)) error is)
    c.written.ensures.refused
