use Rattle.std.proofs.Common.{◌≡◌, drop}
use Rattle.std.specs.String.{string_bytes}
use Rattle.pg_check.specs.rules.Outline.{dotted, dotted_more}
use Rattle.pg_check.proofs.rules.outline.dotted.Given as goal

abbrev pub invariant-loop-word : goal.invariant-loop-word
invariant-loop-word l = dotted_more (string_bytes l.text) (drop l.word-index l.name.more.items) ≡ dotted l.name
