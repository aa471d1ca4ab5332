use Rattle.std.proofs.Common.{◌≡◌, drop}
use Rattle.pg_check.specs.inner.TextKeys.{key_from, text_key}
use Rattle.pg_check.proofs.rules.text_keys.text_key.Given as goal

abbrev pub invariant-loop-byte : goal.invariant-loop-byte
invariant-loop-byte l = key_from l.key (drop l.byte-index l.text) ≡ text_key l.text
