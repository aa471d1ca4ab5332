use Rattle.std.proofs.Common.{◌≡◌, ◌∷◌, map, take, string_bytes}
use Rattle.pg_link.specs.names.Declares.{package_scope}
use Rattle.pg_link.specs.names.Outline.{word}
use Rattle.pg_link.proofs.names.declares.package_scope.Given as goal

abbrev pub invariant-loop-word : goal.invariant-loop-word
invariant-loop-word l = string_bytes l.scope ≡ package_scope (word l.dotted.first ∷ map word (take l.word-index l.word-items))
