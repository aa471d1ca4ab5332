use Rattle.std.proofs.lemmas.Result.{IfErr-weaker, IfOk-weaker}
use Rattle.pg_gate.specs.Errors.{IsMemory}
use Rattle.pg_gate.specs.Failures.{failures_at}
use Rattle.pg_call.specs.Paths.{paths_in}
use Rattle.pg_gate.specs.answer.Grants.{IsSidesFault}
use Rattle.pg_gate.specs.inner.Sources.{world_of}
use Rattle.pg_lines.specs.declared.side.Side.TheVariants as sides
use Rattle.pg_gate.proofs.lemmas.ErrorLemmas.{memory_is, none_counted, of_memory}
use Rattle.pg_gate.proofs.lemmas.answer.SourceLemmas.{no_more}
use Rattle.pg_gate.proofs.answer.dispatch.find_all.Goals as goal

pub returns-in-Ok-clause-found : goal.returns-in-Ok-clause-found
returns-in-Ok-clause-found g c =
    let both = c.in-Ok.both in
    IfOk-weaker c.all_between.result _ _ (λ all is. record {
      old_schema = both.old.schema;
      new_schema = both.new.schema;
      of_old = c.in-Ok.ensures.old_compiled;
      of_new = c.in-Ok.ensures.new_compiled;
      so = is;
    }) c.all_between.ensures.found

pub returns-in-Ok-clause-refused : goal.returns-in-Ok-clause-refused
returns-in-Ok-clause-refused g c =
    let old = world_of g.S.Sources c.args.old.now (paths_in c.args.asked.now.files.old) in
    let new = world_of g.T.Sources c.args.new.now (paths_in c.args.asked.now.files.new) in
    IfErr-weaker c.all_between.result _ _ (λ error is. memory_is ⊥ ⊥ ⊥ (IsSidesFault old new) error is) c.all_between.ensures.refused

pub returns-in-Ok-clause-old_reads : goal.returns-in-Ok-clause-old_reads
returns-in-Ok-clause-old_reads g c =
    let none = none_counted c.all_between.result (λ e. IsMemory e) (failures_at sides.Old) (λ e is. of_memory sides.Old e is) c.all_between.ensures.refused in
    no_more g.S.Sources c.args.old.now _ _ none c.in-Ok.ensures.old_reads

pub returns-in-Ok-clause-new_reads : goal.returns-in-Ok-clause-new_reads
returns-in-Ok-clause-new_reads g c =
    let none = none_counted c.all_between.result (λ e. IsMemory e) (failures_at sides.New) (λ e is. of_memory sides.New e is) c.all_between.ensures.refused in
    no_more g.T.Sources c.args.new.now _ _ none c.in-Ok.ensures.new_reads

pub returns-in-Err-clause-refused : goal.returns-in-Err-clause-refused
returns-in-Err-clause-refused g c = c.in-Err.ensures.refused

pub returns-in-Err-clause-old_reads : goal.returns-in-Err-clause-old_reads
returns-in-Err-clause-old_reads g c = c.in-Err.ensures.old_reads

pub returns-in-Err-clause-new_reads : goal.returns-in-Err-clause-new_reads
returns-in-Err-clause-new_reads g c = c.in-Err.ensures.new_reads
