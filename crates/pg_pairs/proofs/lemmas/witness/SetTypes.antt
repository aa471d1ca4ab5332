-- Setting a content leaves the type.
use Rattle.std.proofs.Common.{◌≡◌, ℕ, rules}
use Rattle.pg_schema.specs.Shape.{Shape}
use Rattle.pg_dyn.specs.declared.message.Content.{Content}
use Rattle.pg_dyn.specs.message.Kept.{Kept, type_of}
use Rattle.pg_dyn.specs.setting.Setting.{IsSetTo}
use Rattle.pg_dyn.proofs.PublicLaws.{parts_keep_types}

pub type_set : (shape : Shape) (number : ℕ) (content : Content) (old new : Kept) → IsSetTo shape number content old new → type_of new ≡ type_of old
type_set shape number content old new (f, at, is) = search (rules, parts_keep_types)
