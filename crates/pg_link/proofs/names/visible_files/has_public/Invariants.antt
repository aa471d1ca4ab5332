use Rattle.std.proofs.Common.{◌≡◌, drop, map}
use Rattle.pg_link.specs.names.Files.{public_paths}
use Rattle.pg_link.specs.inner.Made.{line_of}
use Rattle.pg_link.proofs.names.visible_files.has_public.Given as goal

-- what is handed on by those that come after is handed on by all
abbrev pub invariant-loop-line : goal.invariant-loop-line
invariant-loop-line l = public_paths (map line_of (drop l.line-index l.lines)) ≡ public_paths (map line_of l.lines)
