use Rattle.std.proofs.Common.{◌≡◌, drop}
use Rattle.pg_schema.specs.JsonName.{default_json_name, in_camel_case}
use Rattle.pg_check.specs.inner.TextKeys.{key_from, text_key}
use Rattle.pg_check.proofs.rules.text_keys.default_json_key.Given as goal

abbrev pub invariant-loop-byte : goal.invariant-loop-byte
invariant-loop-byte l = key_from l.key (in_camel_case l.behind (drop l.byte-index l.name)) ≡ text_key (default_json_name l.name)
