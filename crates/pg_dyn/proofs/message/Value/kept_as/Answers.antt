-- The bytes of an item of a string field are UTF-8.
use Rattle.std.proofs.Common.{◌≡◌, true, true≢false, IsOk, subst, sym}
use Rattle.std.proofs.lemmas.Str.{IsUtf8-from_is_utf8}
use Rattle.std.specs.Str.{is_utf8}
use Rattle.pg_schema.specs.declared.parts.field.Scalar.{Scalar}
use Rattle.pg_schema.specs.declared.parts.field.Scalar.TheVariants as scalars
use Rattle.pg_dyn.specs.declared.message.Value.{Value}
use Rattle.pg_dyn.specs.fitting.ScalarItems.{IsItemOf}
use Rattle.pg_dyn.proofs.message.Value.kept_as.Goals as goal

pub unreachable-requires : goal.unreachable-requires
unreachable-requires c =
    let text : is_utf8 c.in-String-Bytes.bytes.items ≡ true = subst (λ (v : Value). IsItemOf scalars.String v) c.in-String-Bytes.is-1 (subst (λ (s : Scalar). IsItemOf s c.args.self) c.in-String-Bytes.is-0 c.requires) in
    let ok = c.from_utf8.ensures.succeeds (IsUtf8-from_is_utf8 c.in-String-Bytes.bytes.items text) in
    true≢false (sym (subst IsOk c.in-Err.is ok))
