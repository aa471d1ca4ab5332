use Rattle.std.proofs.Common.{◌≡◌, ◌∙◌, ℕ, List, ◌++◌, Option, flat_map, slice_get, ap, ap₂, sym}
use Rattle.std.specs.List.{enumerate_from}
use Rattle.pg_schema.specs.declared.parts.Parts.{Parts}
use Rattle.pg_schema.specs.declared.parts.service.Method.{Method}
use Rattle.pg_schema.specs.declared.parts.service.Service.{Service}
use Rattle.pg_notes.specs.Named.{place_of}
use Rattle.pg_notes.specs.Notes.{service_beside, service_name}
use Rattle.pg_notes.specs.ServiceNotes.{gone_notes, service_notes}
use Rattle.pg_notes.specs.declared.note.ServicePair.{ServicePair}
use Rattle.pg_notes.proofs.Going.{told_all, told_more}
use Rattle.pg_notes.proofs.telling.tell_services.Goals.{in-Some+in_ok-tell_service-in-Some, in-None+in_ok-tell_gone-in-None}
use Rattle.pg_notes.proofs.telling.tell_services.Goals as goal

pub loop-index-preserved : goal.loop-index-preserved
loop-index-preserved c =
    let old = c.args.old.now in
    let new = c.args.new.now in
    let s : Service = c.index-old_services-index.result in
    let i : ℕ = c.loop-index.index in
    let before = c.loop-index.told.items in
    let after = c.match-place_in.told.items in
    let beside = λ (at : ℕ × Service). service_beside old new at.0 at.1 (place_of service_name new.services.items (service_name at.1)) in
    let services_are : c.as_slice.result.now ≡ new.services.items = c.as_slice.ensures.value ∙ ap (λ (p : Parts). p.services.items) c.parts.ensures.parts in
    let placed : place_of service_name new.services.items (service_name s) ≡ c.place_in.result =
    ap₂ (λ (ss : List Service) (n : List ℕ). place_of service_name ss n) (sym services_are) (sym c.as_str.ensures.value)
    ∙ (sym (c.in_ok-names.ensures c.as_str.result.now) ∙ sym c.place_in.ensures) in
    let more : after ≡ before ++ beside (i, s) =
    elim c.match-place_in.branch [
      | in-Some+in_ok-tell_service-in-Some w ↦
          let place : ℕ = w.in-Some.place in
          let pair : ServicePair = record { old = record { index = i }; new = record { index = place } } in
          ap (λ (v : _). v.items) w.told-is ∙ (w.in_ok-tell_service-in-Some.ensures
          ∙ (ap (λ (ms : List Method). before ++ service_notes old new pair ms (slice_get new.services.items place)) w.deref.ensures.value
          ∙ ap (λ (p : Option ℕ). before ++ service_beside old new i s p) (sym (placed ∙ w.in-Some.is))))
      | in-None+in_ok-tell_gone-in-None w ↦
          ap (λ (v : _). v.items) w.told-is ∙ (w.in_ok-tell_gone-in-None.ensures
          ∙ (ap (λ (ms : List Method). before ++ gone_notes (record { index = i }) ms) w.deref-in-None.ensures.value
          ∙ ap (λ (p : Option ℕ). before ++ service_beside old new i s p) (sym (placed ∙ w.in-None.is))))
    ] in
    told_more beside c.as_slice-old_services.result.now i c.args.told.now.items before s after c.loop-index-test.true c.index-old_services-index.is c.loop-index.invariant more

pub returns : goal.returns
returns c =
    let old = c.args.old.now in
    let new = c.args.new.now in
    let told = c.args.told.now.items in
    let beside = λ (at : ℕ × Service). service_beside old new at.0 at.1 (place_of service_name new.services.items (service_name at.1)) in
    told_all beside c.as_slice-old_services.result.now c.loop-index.index told c.loop-index.told.items c.loop-index-test.false c.loop-index.invariant
    ∙ ap (λ (ss : List Service). told ++ flat_map beside (enumerate_from 0 ss)) (c.as_slice-old_services.ensures.value ∙ ap (λ (p : Parts). p.services.items) c.parts-2.ensures.parts)
