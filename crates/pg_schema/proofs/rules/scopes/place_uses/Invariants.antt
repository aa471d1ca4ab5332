use Rattle.std.proofs.Common.{◌≡◌, map, take}
use Rattle.pg_schema.specs.inner.Steps.{place_use}
use Rattle.pg_schema.proofs.rules.scopes.place_uses.Given as goal

abbrev pub invariant-loop-place : goal.invariant-loop-place
invariant-loop-place l = l.uses.items ≡ map place_use (take l.place-index l.places)
