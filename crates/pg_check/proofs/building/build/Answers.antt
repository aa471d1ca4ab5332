use Rattle.std.proofs.Common.{◌≡◌, ◌∙◌, List, map, ap, subst}
use Rattle.std.proofs.lemmas.Result.{IfOk-weaker}
use Rattle.pg_check.specs.Declares.{Declares}
use Rattle.pg_check.specs.parts.MadeParts.{Source}
use Rattle.pg_check.specs.parts.ResolvedTypes.{AreResolved}
use Rattle.pg_check.specs.parts.Sources.{linked_sources}
use Rattle.pg_check.specs.inner.Sources.{source}
use Rattle.pg_schema.specs.standing.StandingParts.{StandingParts}
use Rattle.pg_check.proofs.lemmas.parts.uses.ResolvedTypes.{resolved_types}
use Rattle.pg_check.proofs.lemmas.parts.SoundParts.{linked_sound}
use Rattle.pg_check.proofs.lemmas.standing.StandingParts.{standing_parts}
use Rattle.pg_check.proofs.building.build.Goals as goal

pub schema_of-requires : goal.schema_of-requires
schema_of-requires c =
    let same : map source c.deref-2.result.now ≡ linked_sources c.args.linked.now.files = ap (map source) c.deref-2.ensures.value ∙ c.in_ok-sources.ensures.sources in
    record { sound = λ parts h. linked_sound c.args.linked.now parts c.in_ok-sources.ensures.linked (subst (λ (ss : List Source). Declares ss parts) same h) }

pub returns-clause-stands : goal.returns-clause-stands
returns-clause-stands c =
    let linked = c.args.linked.now in
    let same : map source c.deref-2.result.now ≡ linked_sources linked.files = ap (map source) c.deref-2.ensures.value ∙ c.in_ok-sources.ensures.sources in
    IfOk-weaker c.schema_of.result (Declares (map source c.deref-2.result.now)) StandingParts
    (λ made h. standing_parts linked made c.in_ok-sources.ensures.linked (subst (λ (ss : List Source). Declares ss made) same h)) c.schema_of.ensures.built

pub returns-clause-resolved : goal.returns-clause-resolved
returns-clause-resolved c =
    let linked = c.args.linked.now in
    let same : map source c.deref-2.result.now ≡ linked_sources linked.files = ap (map source) c.deref-2.ensures.value ∙ c.in_ok-sources.ensures.sources in
    IfOk-weaker c.schema_of.result (Declares (map source c.deref-2.result.now)) (AreResolved linked.files)
    (λ made h. resolved_types linked made c.in_ok-sources.ensures.linked (subst (λ (ss : List Source). Declares ss made) same h)) c.schema_of.ensures.built
