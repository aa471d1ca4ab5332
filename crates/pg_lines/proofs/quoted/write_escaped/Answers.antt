use Rattle.std.proofs.Common.{◌≡◌, ◌-◌, ◌<◌, true, false, [], ◌++◌, length, get_or, take, drop, refl, rules, arith, append_assoc}
use Rattle.std.proofs.lemmas.Grind.{common_steps}
use Rattle.std.proofs.lemmas.Str.{IsCharBoundary-start, IsCharBoundary-after_ascii}
use Rattle.std.proofs.Output.{has_written_append, has_written_of_eq}
use Rattle.pg_lines.specs.Json.{needs_escape, escape_of}
use Rattle.pg_lines.proofs.lemmas.Escapes.{needs_ascii, keep_byte, escape_byte}
use Rattle.pg_lines.proofs.quoted.write_escaped.Goals as goal
use Rattle.pg_lines.proofs.quoted.write_escaped.Goals.{then-needs_escape+in_ok-write_str+in_ok-write_escape, else-needs_escape}

pub loop-at-init : goal.loop-at-init
loop-at-init g c = (omega arith, IsCharBoundary-start c.args.text.now c.utf8.text, [], refl, search rules)

pub loop-at-preserved : goal.loop-at-preserved
loop-at-preserved g c =
    let l = c.loop-at in
    let s = c.args.text.now in
    let (low, bound, done, whole, wrote) = l.invariant in
    let within : l.at < length s = omega (arith, c.as_bytes-bytes.ensures.len) in
    elim c.if-needs_escape.branch [
      | then-needs_escape+in_ok-write_str+in_ok-write_escape w ↦
          let needed : needs_escape (get_or s l.at 0) ≡ true = grind (arith, common_steps) in
          let run = take (l.at - l.start) (drop l.start s) in
          rw (w.start-is, w.f-is) (
            omega arith,
            IsCharBoundary-after_ascii s l.at c.utf8.text within (needs_ascii _ needed),
            done ++ (run ++ escape_of (get_or s l.at 0)),
            escape_byte s done _ l.start l.at within needed whole,
            λ plain.
                let sofar = wrote plain in
                let one = w.write_str.ensures.writes sofar.plain (search rules) in
                let two = w.write_escape.ensures one.plain (search rules) in
                has_written_of_eq _ _ _ _ _ (grind (arith, common_steps, append_assoc)) (has_written_append _ _ _ _ _ _ (has_written_append _ _ _ _ _ _ sofar one) two),
          )
      | else-needs_escape w ↦
          let plain : needs_escape (get_or s l.at 0) ≡ false = grind (arith, common_steps) in
          rw (w.start-is, w.f-is) (omega arith, bound, done, keep_byte s done _ l.start l.at low within plain whole, wrote)
    ]
