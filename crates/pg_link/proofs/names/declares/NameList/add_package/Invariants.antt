use Rattle.std.proofs.Common.{◌≡◌, ◌++◌, [], map, drop, string_bytes}
use Rattle.pg_link.specs.names.Declares.{package_names}
use Rattle.pg_link.specs.inner.Made.{declared_of}
use Rattle.pg_link.specs.names.Outline.{dotted_words, word}
use Rattle.pg_link.proofs.names.declares.NameList.add_package.Given as goal

-- the names so far, and those of the parts that are left, are those of all
abbrev pub invariant-loop-word : goal.invariant-loop-word
invariant-loop-word l = map declared_of l.self.names.items ++ package_names (string_bytes l.scope) (map word (drop l.word-index l.word-items)) ≡ map declared_of l.fn.self.names.items ++ package_names [] (dotted_words l.dotted)
