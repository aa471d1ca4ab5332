use Rattle.std.proofs.Common.{◌≡◌, ◌⊎◌, ℕ, Some, length, slice_get, slice_index_or, inl, inr, arith, refl}
use Rattle.std.proofs.lemmas.Option.{slice_get-get_or}
use Rattle.std.proofs.lemmas.Result.{IfErr-weaker, on_ok_weaker}
use Rattle.pg_set.specs.declared.error.Unstated.TheVariants as errors
use Rattle.pg_set.specs.declared.reading.walk.Seen.TheVariants as seen
use Rattle.pg_set.specs.inner.reading.Walks.{Falls, lists_of}
use Rattle.pg_set.proofs.lemmas.order.Walking.{circle, ended, import_within, lists_long, own_there, stepped}
use Rattle.pg_set.proofs.reading.walk.Walk.step.Goals as goal

pub returns-then-top-own-clause-step : goal.returns-then-top-own-clause-step
returns-then-top-own-clause-step c =
    let old = c.args.self.now in
    let own = c.as_slice-own.result.now in
    let there : slice_get (lists_of c.args.imported.now) c.args.top.place ≡ Some own =
    own_there c.args.imported.now old.seen.items old.opened.items c.args.top old.done.items c.index-imported-top.result own c.requires.walk c.index-imported-top.is c.as_slice-own.ensures.value in
    ended (lists_of c.args.imported.now) old.opened.items c.args.top own old _ there (omega arith) refl c.requires.walk refl refl c.in_ok-push.ensures.items

pub enter-requires : goal.enter-requires
enter-requires c =
    let old = c.args.self.now in
    let all = lists_of c.args.imported.now in
    let own = c.as_slice-own.result.now in
    let there : slice_get all c.args.top.place ≡ Some own =
    own_there c.args.imported.now old.seen.items old.opened.items c.args.top old.done.items c.index-imported-top.result own c.requires.walk c.index-imported-top.is c.as_slice-own.ensures.value in
    let within = import_within all (length c.args.imported.now) c.args.top.place c.args.top.next own (slice_index_or own c.args.top.next 0) c.requires.within there (slice_get-get_or own c.args.top.next 0 (omega arith)) in
    let long : length all ≡ length c.args.imported.now = lists_long c.args.imported.now in
    omega (arith, within, c.requires.walk.marked, long)

pub returns : goal.returns
returns c =
    let old = c.args.self.now in
    let all = lists_of c.args.imported.now in
    let own = c.as_slice-own.result.now in
    let there : slice_get all c.args.top.place ≡ Some own =
    own_there c.args.imported.now old.seen.items old.opened.items c.args.top old.done.items c.index-imported-top.result own c.requires.walk c.index-imported-top.is c.as_slice-own.ensures.value in
    let place = slice_index_or own c.args.top.next 0 in
    let here : slice_get own c.args.top.next ≡ Some place = slice_get-get_or own c.args.top.next 0 (omega arith) in
    record {
      step = on_ok_weaker c.enter.result (stepped all old.opened.items c.args.top _ own place _ c.enter.new.self refl refl there here c.in_ok-push-2.ensures.items c.requires.walk) c.enter.ensures.entered;
      refused = IfErr-weaker c.enter.result (λ e. (e ≡ errors.Memory) ⊎ (slice_get old.seen.items place ≡ Some seen.Open)) (λ e. (e ≡ errors.Memory) ⊎ ((rank : ℕ → ℕ) → Falls rank all → ⊥))
          (λ e h. elim h [ inl memory ↦ inl memory | inr met ↦ inr (circle all old.seen.items old.opened.items c.args.top own old.done.items place there here c.requires.walk met) ])
          c.enter.ensures.refused;
    }
