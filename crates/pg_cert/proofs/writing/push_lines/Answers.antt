use Rattle.std.proofs.Common.{sym, ◌∙◌, ap}
use Rattle.std.specs.String.{string_bytes}
use Rattle.pg_cert.specs.Text.{names_of}
use Rattle.pg_cert.proofs.Checks.{none_is}
use Rattle.pg_cert.proofs.Spelling.{line_more, no_line_more}
use Rattle.pg_cert.proofs.writing.push_lines.Goals as goal
use Rattle.pg_cert.proofs.writing.push_lines.Goals.{in-Some+in_ok-push_line, in_default}

pub loop-at-preserved : goal.loop-at-preserved
loop-at-preserved c =
    elim c.match-get.branch [
      | in-Some+in_ok-push_line w ↦
          line_more (names_of c.args.old.now) (names_of c.args.new.now) c.args.bounds.now c.loop-at.at (string_bytes c.loop-at.text) (string_bytes c.match-get.text) w.in-Some.line (sym c.get.ensures ∙ w.in-Some.is)
          (ap string_bytes w.text-is ∙ w.in_ok-push_line.ensures)
          ∙ c.loop-at.invariant
      | in_default w ↦
          no_line_more (names_of c.args.old.now) (names_of c.args.new.now) c.args.bounds.now c.loop-at.at (string_bytes c.loop-at.text) (string_bytes c.match-get.text) (sym c.get.ensures ∙ none_is c.get.result w.in_default.not-Some)
          (ap string_bytes w.text-is)
          ∙ c.loop-at.invariant
    ]
