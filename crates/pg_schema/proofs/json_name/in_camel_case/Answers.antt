use Rattle.std.proofs.Common.{◌≡◌, subst, sym}
use Rattle.std.specs.Str.{IsUtf8}
use Rattle.pg_schema.specs.JsonName.{in_camel_case}
use Rattle.pg_schema.proofs.lemmas.JsonNames.{cased_text}
use Rattle.pg_schema.proofs.json_name.in_camel_case.Goals as goal

pub unreachable-requires : goal.unreachable-requires
unreachable-requires c =
    let made : c.in_ok-bytes.bytes.items ≡ in_camel_case c.args.is_behind c.as_bytes.result.now = c.in_ok-bytes.ensures in
    let text : IsUtf8 c.in_ok-bytes.bytes.items = subst IsUtf8 (sym made) (cased_text c.args.is_behind c.as_bytes.result.now c.as_bytes.ensures.utf8) in
    let wrong = c.in-Err.ensures.succeeds text in cc
