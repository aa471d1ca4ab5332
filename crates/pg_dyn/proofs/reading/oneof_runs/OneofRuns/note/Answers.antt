-- A record goes on a run, or begins one where another member's was.
use Rattle.std.proofs.Common.{◌≡◌, Option, Some, None, true≢false, refl, sym, ap, ◌∙◌}
use Rattle.std.specs.BTreeMap.{get}
use Rattle.std.specs.Ordering.{nat_cmp}
use Rattle.pg_schema.specs.Parts.{field_shape}
use Rattle.pg_dyn.specs.declared.reading.oneof_runs.OneofRun.{OneofRun}
use Rattle.pg_dyn.specs.declared.reading.oneof_runs.OneofRuns.{OneofRuns}
use Rattle.pg_dyn.proofs.lemmas.reading.runs.OneofRunLaws.{begins, goes_on, in_none, not_at, noted}
use Rattle.pg_dyn.proofs.reading.oneof_runs.OneofRuns.note.Goals.{in-Some-get+else-oneof_run-field, in_default-get}
use Rattle.pg_dyn.proofs.reading.oneof_runs.OneofRuns.note.Goals as goal

pub returns-in_default-clause-ok : goal.returns-in_default-clause-ok
returns-in_default-clause-ok c =
    λ fs rs r rising found taken there h.
    let f = field_shape c.args.field.now in
    noted fs rising f found r taken rs _ _ h (in_none f _ _ h.begun c.in_default.is)

pub returns-then-oneof_run-field-clause-ok : goal.returns-then-oneof_run-field-clause-ok
returns-then-oneof_run-field-clause-ok c =
    λ fs rs r rising found taken there h.
    let f = field_shape c.args.field.now in
    noted fs rising f found r taken rs _ _ h
    (goes_on f _ _ h.begun c.in-Some.oneof c.in-Some.is c.in-Some-get.oneof_run.now (sym c.in-Some-get.ensures.value) c.if-oneof_run-field.true)

same_run : (s t : OneofRun) → ◌≡◌ {A = Option OneofRun} (Some s) (Some t) → s ≡ t
same_run s t e = cc

none_there : (t : OneofRun) → ◌≡◌ {A = Option OneofRun} None (Some t) → ⊥
none_there t e = cc

pub returns-clause-ok : goal.returns-clause-ok
returns-clause-ok c =
    λ fs rs r rising found taken there h.
    let f = field_shape c.args.field.now in
    let old = c.args.self.now in
    let new : OneofRuns = record { by_oneof = c.insert.new.self; all_count = c.match-get.self.all_count } in
    let o = c.in-Some.oneof in
    let s : OneofRun = record { number = c.args.field.now.number; start = c.args.place } in
    let updates = c.in_ok-insert.ensures.updates in
    noted fs rising f found r taken rs old new h (elim c.match-get.branch [
      | in-Some-get+else-oneof_run-field w ↦
          begins f _ old h.begun o c.in-Some.is new s refl (sym there) updates.1
          (λ q apart. updates.2 q (not_at o q apart) ∙ ap (λ (x : OneofRuns). get nat_cmp x.by_oneof q) w.self-is)
          (λ t at e. w.if-oneof_run-field.false (ap (λ (x : OneofRun). x.number) (same_run w.in-Some-get.oneof_run.now t (w.in-Some-get.ensures.value ∙ at)) ∙ e))
          (λ every. absurd (true≢false (sym every ∙ ap (λ (x : OneofRuns). x.all_count) w.self-is)))
      | in_default-get w ↦
          begins f _ old h.begun o c.in-Some.is new s refl (sym there) updates.1
          (λ q apart. updates.2 q (not_at o q apart) ∙ ap (λ (x : OneofRuns). get nat_cmp x.by_oneof q) w.self-is)
          (λ t at. absurd (none_there t (w.in_default-get.ensures.value ∙ at)))
          (λ every. (sym (ap (λ (x : OneofRuns). x.all_count) w.self-is) ∙ every, sym w.in_default-get.ensures.value))
    ])
