use Rattle.std.proofs.Common.{◌≡◌, ◌∙◌, String, true, sym, ap, string_bytes}
use Rattle.std.proofs.lemmas.Map.Made.{lookup_key_passes}
use Rattle.std.specs.Global.{Global}
use Rattle.std.specs.HashMap.{get_by_text}
use Rattle.std.specs.Str.{bytes_eq}
use Rattle.pg_link.specs.inner.Index as spec
use Rattle.pg_link.proofs.lemmas.names.ResolvesLaws.{is_borne}
use Rattle.pg_link.proofs.lemmas.names.SameBytes.{same_text}
use Rattle.pg_link.proofs.names.index.Index.ended.Goals as goal

pub returns-then-is_seen-clause-borne : goal.returns-then-is_seen-clause-borne
returns-then-is_seen-clause-borne c =
    let full = c.args.full.now in
    let name = c.in_ok-name.name.now in
    let passes : bytes_eq full (string_bytes name) ≡ true =
    lookup_key_passes (λ (k : String Global). bytes_eq full (string_bytes k)) c.args.self.now.names.entries name (sym c.in_ok-name.ensures.key) in
    is_borne c.args.self.now.names (spec.visible_of c.args.visible) full c.as_str.result.now c.in_ok-name.named.now
    (sym c.in_ok-name.ensures.value) (sym c.is_seen.ensures ∙ c.if-is_seen.true)
    (same_text full (string_bytes name) passes ∙ sym c.as_str.ensures.value)

pub returns-then-is_seen-clause-held : goal.returns-then-is_seen-clause-held
returns-then-is_seen-clause-held c =
    let full = c.args.full.now in
    let name = c.in_ok-name.name.now in
    let passes : bytes_eq full (string_bytes name) ≡ true =
    lookup_key_passes (λ (k : String Global). bytes_eq full (string_bytes k)) c.args.self.now.names.entries name (sym c.in_ok-name.ensures.key) in
    ap (get_by_text c.args.self.now.names) (c.as_str.ensures.value ∙ sym (same_text full (string_bytes name) passes)) ∙ sym c.in_ok-name.ensures.value
