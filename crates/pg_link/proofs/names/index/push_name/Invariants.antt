use Rattle.std.proofs.Common.{◌≡◌, ◌∷◌, ◌++◌, take, string_bytes}
use Rattle.pg_link.specs.names.Names.{called}
use Rattle.pg_link.specs.names.Resolves.{part_words}
use Rattle.pg_link.proofs.names.index.push_name.Given as goal

abbrev pub invariant-loop-part : goal.invariant-loop-part
invariant-loop-part l = string_bytes l.text ≡ string_bytes l.fn.text ++ called (string_bytes l.name.path.first.text ∷ part_words (take l.part-index l.part-items))
