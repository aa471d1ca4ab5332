use Rattle.pg_link.specs.inner.Made.{line_of}
use Rattle.pg_link.proofs.lemmas.names.FileMarks.{taken_line, untaken}
use Rattle.pg_link.proofs.names.visible_files.add_line.Goals as goal

pub returns-then-not-is_taken-clause-marked : goal.returns-then-not-is_taken-clause-marked
returns-then-not-is_taken-clause-marked c = λ paths marked.
    untaken c.args.files.now.entries paths c.args.marks.now.items c.args.all (line_of c.args.line.now) c.if-not-is_taken.ensures marked

pub returns-clause-marked : goal.returns-clause-marked
returns-clause-marked c = λ paths marked.
    taken_line c.args.files.now.entries paths c.add_import.new.marks.items c.args.all (line_of c.args.line.now) c.as_str.result.now c.if-not-is_taken.ensures c.as_str.ensures.value
    (c.add_import.ensures.marked paths marked)
