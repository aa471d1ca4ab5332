use Rattle.std.proofs.Common.{◌≡◌, ◌∙◌, ◌++◌, ◌∷◌, ℕ, List, [], map, string_bytes, take, ap, ap₂, sym}
use Rattle.std.specs.List.{position_from}
use Rattle.std.specs.Option.{unwrap_or}
use Rattle.std.specs.Str.{bytes_eq}
use Rattle.std.proofs.lemmas.List.{map-append}
use Rattle.pg_check.specs.parts.EnumPlaces.{place_among, scoped_names}
use Rattle.pg_check.proofs.lemmas.rules.TextSets.{texts_step}
use Rattle.pg_check.proofs.parts.enum_places.enum_places.Goals as goal

pub loop-name-preserved : goal.loop-name-preserved
loop-name-preserved c =
    let names : List (List ℕ) = scoped_names c.args.linked.now.files in
    let all = c.enum_names-declared.result.now in
    let i = c.loop-name.name-index in
    let key : List ℕ = c.as_str.result.now in
    let found : c.unwrap_or.result ≡ place_among names key =
    c.unwrap_or.ensures ∙ ap (λ o. unwrap_or o 0) (c.copied.ensures ∙ (c.get.ensures.value ∙ (c.in_ok-scoped.ensures key
    ∙ ap (position_from (bytes_eq key) 0) (c.in_ok-scoped_names.ensures ∙ ap scoped_names c.files.ensures.files)))) in
    c.in_ok-push.ensures.items
    ∙ (ap₂ (λ a b. a ++ b ∷ []) c.loop-name.invariant found
    ∙ (sym (map-append (place_among names) (map string_bytes (take i all)) (key ∷ []))
    ∙ ap (map (place_among names)) (sym (texts_step all i c.name-item.result key c.loop-name-test.true c.name-item.is c.as_str.ensures.value))))
