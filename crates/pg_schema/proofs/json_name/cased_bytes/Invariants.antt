use Rattle.std.proofs.Common.{◌≡◌, ◌++◌, drop}
use Rattle.pg_schema.specs.JsonName.{in_camel_case}
use Rattle.pg_schema.proofs.json_name.cased_bytes.Given as goal

-- what is written, and what is left to write
abbrev pub invariant-loop-byte : goal.invariant-loop-byte
invariant-loop-byte l = l.bytes.items ++ in_camel_case l.behind (drop l.byte-index l.name) ≡ in_camel_case l.is_behind l.name
