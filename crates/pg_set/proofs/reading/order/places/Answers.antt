use Rattle.std.proofs.Common.{◌≡◌, ◌+◌, [], ◌∷◌, ◌++◌, inr, true, not, take, Some, None, sym, ap, ◌∙◌, subst, arith}
use Rattle.std.proofs.lemmas.Map.Text.{btree_map_updates_text}
use Rattle.std.specs.BTreeMap.{get_by_text}
use Rattle.std.specs.String.{string_bytes}
use Rattle.pg_schema.specs.rules.Pairs.{are_distinct}
use Rattle.pg_schema.specs.rules.TextSets.{is_among}
use Rattle.pg_schema.proofs.lemmas.rules.TextSetLemmas.{distinct_more}
use Rattle.pg_set.specs.inner.reading.FilePlaces.{IsIndex, importers}
use Rattle.pg_set.specs.stated.PostOrder.{paths_of}
use Rattle.pg_set.proofs.lemmas.order.Ordering.{index_has, index_lacks, index_more}
use Rattle.pg_set.proofs.lemmas.order.OrderSteps.{name_twice, paths_long, paths_step}
use Rattle.pg_set.proofs.reading.order.places.Goals as goal

pub returns-in-Some-clause-refused : goal.returns-in-Some-clause-refused
returns-in-Some-clause-refused c =
    let files = c.args.files.now in
    let i = c.loop-place.place in
    let done = paths_of (importers (take i files)) in
    let key = string_bytes c.in_ok-name.name in
    let there : is_among done key ≡ true = index_has done c.loop-place.places key c.in-Some.field-0 c.loop-place.invariant.index (sym c.in_ok-insert.ensures.old ∙ c.in-Some.is) in
    inr (name_twice files i c.index-files-place.result c.loop-place-test.true c.index-files-place.is (subst (λ k. is_among done k ≡ true) c.in_ok-name.ensures.ok there))

pub loop-place-preserved : goal.loop-place-preserved
loop-place-preserved c =
    let files = c.args.files.now in
    let i = c.loop-place.place in
    let done = paths_of (importers (take i files)) in
    let key = string_bytes c.in_ok-name.name in
    let none : get_by_text c.loop-place.places key ≡ None = sym c.in_ok-insert.ensures.old ∙ c.in-None.is in
    let step : paths_of (importers (take (i + 1) files)) ≡ done ++ key ∷ [] =
    paths_step files i c.index-files-place.result c.loop-place-test.true c.index-files-place.is ∙ ap (λ k. done ++ k ∷ []) (sym c.in_ok-name.ensures.ok) in
    record {
      once = subst (λ ts. are_distinct ts ≡ true) (sym step) (distinct_more done key c.loop-place.invariant.once (ap not (index_lacks done c.loop-place.places key c.loop-place.invariant.index none)));
      index = subst (λ ts. IsIndex ts c.insert.new.self) (sym step)
          (index_more done key i c.loop-place.places c.insert.new.self (paths_long files i (omega arith)) none
          (btree_map_updates_text key c.loop-place.places c.insert.new.self (Some i) c.in_ok-insert.ensures.updates) c.loop-place.invariant.index);
    }
