use Rattle.std.proofs.Common.{◌∙◌, ◌++◌, List, ℕ, flat_map, map, take, subst, arith}
use Rattle.std.proofs.lemmas.List.{take_all}
use Rattle.pg_link.specs.declared.walk.imports.ImportLine as made
use Rattle.pg_link.specs.names.Files.{handed_on}
use Rattle.pg_link.specs.inner.Made.{line_of}
use Rattle.pg_link.specs.inner.VisibleFiles.{Marks, taken}
use Rattle.pg_link.specs.walk.Walk.{outlines}
use Rattle.pg_link.proofs.lemmas.names.FileMarks.{one_more_line}
use Rattle.pg_link.proofs.names.visible_files.add_imports.Goals as goal

pub loop-line-preserved : goal.loop-line-preserved
loop-line-preserved c =
    let es = c.args.files.now.entries in
    let h = handed_on (outlines es) in
    let lines : List made.ImportLine = c.args.lines.now in
    let i : ℕ = c.loop-line.line-index in
    let all = c.args.all in record {
      same_length = c.add_line.ensures.same_length ∙ c.loop-line.invariant.same_length;
      marked = λ paths marked.
          let so_far : List (List ℕ) = paths ++ flat_map h (taken all (map line_of (take i lines))) in
          subst (λ (qs : List (List ℕ)). Marks es qs c.add_line.new.marks.items)
          (one_more_line h all paths lines i c.line-item.result c.loop-line-test.true c.line-item.is)
          (c.add_line.ensures.marked so_far (c.loop-line.invariant.marked paths marked));
    }

pub returns-clause-marked : goal.returns-clause-marked
returns-clause-marked c = λ paths marked.
    let es = c.args.files.now.entries in
    let h = handed_on (outlines es) in
    let lines : List made.ImportLine = c.args.lines.now in
    subst (λ (ls : List made.ImportLine). Marks es (paths ++ flat_map h (taken c.args.all (map line_of ls))) c.loop-line.marks.items)
    (take_all c.loop-line.line-index lines (omega (arith, c.loop-line-test.false))) (c.loop-line.invariant.marked paths marked)
