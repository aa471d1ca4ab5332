use Rattle.std.proofs.Common.{◌≡◌, map, take}
use Rattle.pg_check.specs.inner.CodeViews.{member}
use Rattle.pg_check.specs.parts.MadeFields.{field, made_field}
use Rattle.pg_check.proofs.parts.made_field.made_fields.Given as goal
use Rattle.pg_check.specs.inner.Sources.{target_in}

abbrev pub invariant-loop-one : goal.invariant-loop-one
invariant-loop-one l = map field l.fields.items ≡ map (made_field (target_in l.targets)) (map member (take l.one-index l.list))
