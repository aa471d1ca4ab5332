use Rattle.std.proofs.Common.{◌≡◌, ◌∙◌, ℕ, List, Some, slice_get, option_map, sym, ap, refl}
use Rattle.pg_link.specs.names.Files.{visible_names}
use Rattle.pg_link.specs.uses.Targets.{Resolution, all_declared, target_in}
use Rattle.pg_link.specs.uses.Uses.{file_uses}
use Rattle.pg_link.specs.walk.Walk.{Entry, outlines, path_of}
use Rattle.pg_check.specs.parts.EnumPlaces.{by_scope, enum_places}
use Rattle.pg_schema.specs.rules.Pairs.{is_rising}
use Rattle.pg_check.specs.inner.ByPlace.{named_at}
use Rattle.pg_check.proofs.lemmas.parts.Linking.{one_more_source, scoped}
use Rattle.pg_check.proofs.lemmas.parts.uses.UsesRise.{places_rise}
use Rattle.pg_check.proofs.lemmas.rules.PlaceLaws.{resolved_places}
use Rattle.pg_check.proofs.building.sources_of.Goals as goal

pub invariant_of-found : goal.invariant_of-found
invariant_of-found c =
    let linked = c.args.linked.now in
    let e : Entry = (c.in-Some.path.now, c.in-Some.file.now) in
    let at : slice_get linked.files c.loop-number.number ≡ Some e = ap (λ es. slice_get es c.loop-number.number) (sym c.files-files.ensures.files) ∙ sym c.in-Some.ensures.entry in
    record { rising = ap is_rising (c.places.ensures e at) ∙ places_rise linked c.files-files.ensures.linked c.loop-number.number e at }

pub loop-number-preserved : goal.loop-number-preserved
loop-number-preserved c =
    let files : List Entry = c.args.linked.now.files in
    let e : Entry = (c.in-Some.path.now, c.in-Some.file.now) in
    let at : slice_get files c.loop-number.number ≡ Some e = ap (λ es. slice_get es c.loop-number.number) (sym c.files-files.ensures.files) ∙ sym c.in-Some.ensures.entry in
    let resolve : Resolution = target_in (all_declared files) (visible_names (outlines files) (path_of e)) in
    let named : (place : ℕ) → option_map (by_scope c.args.places.now) (named_at c.places.result.now c.targets.result.now place) ≡ scoped files e place =
    λ place.
    ap (λ ps. option_map (by_scope ps) (named_at c.places.result.now c.targets.result.now place)) c.requires.places
    ∙ ap (option_map (by_scope (enum_places files)))
    (resolved_places resolve (file_uses e.1.tree) c.places.result.now c.targets.result.now (c.targets.ensures.resolved e at) (c.places.ensures e at) place) in
    one_more_source files c.loop-number.number e c.loop-number.sources.items c.push.new.self.items _ at c.in_ok-push.ensures.items
    c.deref.ensures c.deref-in-loop-number.ensures.value refl named c.loop-number.invariant
