use Rattle.std.proofs.Common.{◌∙◌, map, ap, String, ℕ, string_bytes, arith}
use Rattle.std.specs.List.{filter}
use Rattle.std.specs.Str.{bytes_eq}
use Rattle.std.specs.declared.alloc.Global.{Global}
use Rattle.std.proofs.lemmas.Grind.{text_groups}
use Rattle.std.proofs.lemmas.List.{take_all}
use Rattle.pg_check.proofs.lemmas.parts.places.Placing.{places_are}
use Rattle.pg_check.proofs.parts.by_scope.grouped.Goals as goal

pub returns : goal.returns
returns c = λ scope.
    c.loop-scope.invariant scope
    ∙ (ap (λ ps. map (λ (p : String Global × ℕ). p.1) (filter (λ (p : String Global × ℕ). bytes_eq scope (string_bytes p.0)) ps)) (take_all c.loop-scope.scope-index c.args.list.now (omega arith))
    ∙ places_are scope c.args.list.now)

pub loop-scope-preserved : goal.loop-scope-preserved
loop-scope-preserved c = grind (arith, text_groups)
