-- A field in no oneof has no siblings, and is none of another's.
use Rattle.std.proofs.Common.{◌≡◌, ℕ, false, Option, Some, None, refl, arith}
use Rattle.pg_schema.specs.Shape.{FieldShape}
use Rattle.pg_dyn.specs.reading.Content.{same_oneof, is_sibling}

pub no_oneof : (a b : Option ℕ) → a ≡ None → same_oneof a b ≡ false
no_oneof None b h = refl
no_oneof (Some x) b h = absurd (cc)

pub no_sibling : (f g : FieldShape) → f.oneof ≡ None → is_sibling f g ≡ false
no_sibling f g h = rw (no_oneof f.oneof g.oneof h)

pub no_oneof_behind : (a b : Option ℕ) → b ≡ None → same_oneof a b ≡ false
no_oneof_behind a b h = grind arith

pub no_sibling_behind : (f g : FieldShape) → g.oneof ≡ None → is_sibling f g ≡ false
no_sibling_behind f g h = rw (no_oneof_behind f.oneof g.oneof h)
