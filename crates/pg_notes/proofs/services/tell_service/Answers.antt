use Rattle.std.proofs.Common.{◌≡◌, ◌∙◌, ℕ, List, ◌++◌, Option, Some, flat_map, slice_get, ap, sym}
use Rattle.std.specs.List.{enumerate_from}
use Rattle.std.specs.Option.{option_copied}
use Rattle.pg_schema.specs.declared.parts.Parts.{Parts}
use Rattle.pg_schema.specs.declared.parts.service.Method.{Method}
use Rattle.pg_schema.specs.declared.parts.service.Service.{Service}
use Rattle.pg_notes.specs.ServiceNotes.{method_notes, service_notes}
use Rattle.pg_notes.proofs.Going.{told_all, told_more}
use Rattle.pg_notes.proofs.services.tell_service.Goals as goal

pub loop-index-preserved : goal.loop-index-preserved
loop-index-preserved c =
    told_more (λ (at : ℕ × Method). method_notes c.args.schemas.old.now c.args.schemas.new.now c.args.services c.as_slice-new_methods.result.now at.0 at.1) c.args.methods.now
    c.loop-index.index c.args.told.now.items c.loop-index.told.items
    c.index-methods-index.result c.tell_method.new.told.items c.loop-index-test.true c.index-methods-index.is c.loop-index.invariant c.in_ok-tell_method.ensures

pub returns : goal.returns
returns c =
    let told = c.args.told.now.items in
    let methods = c.args.methods.now in
    let old = c.args.schemas.old.now in
    let new = c.args.schemas.new.now in
    let services = c.args.services in
    let there : Some c.in-Some.service.now ≡ slice_get new.services.items services.new.index =
    ap option_copied (sym c.in-Some.is) ∙ (c.item_at.ensures
    ∙ ap (λ (ss : List Service). slice_get ss services.new.index) (c.as_slice-new_services.ensures.value ∙ ap (λ (p : Parts). p.services.items) c.parts.ensures.parts)) in
    told_all (λ (at : ℕ × Method). method_notes old new services c.as_slice-new_methods.result.now at.0 at.1) methods c.loop-index.index told c.loop-index.told.items
    c.loop-index-test.false c.loop-index.invariant
    ∙ (ap (λ (ms : List Method). told ++ flat_map (λ (at : ℕ × Method). method_notes old new services ms at.0 at.1) (enumerate_from 0 methods)) c.as_slice-new_methods.ensures.value
    ∙ ap (λ (o : Option Service). told ++ service_notes old new services methods o) there)
