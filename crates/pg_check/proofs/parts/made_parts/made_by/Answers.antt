use Rattle.std.proofs.Common.{◌∙◌, length, map, ap, subst}
use Rattle.pg_check.specs.declared.parts.made_parts.Made.{Made}
use Rattle.pg_check.specs.inner.Grouped.{in_scope, grouped_tree}
use Rattle.pg_check.specs.parts.MadeEnums.{made_enum}
use Rattle.pg_check.specs.parts.MadeParts.{EachIs, IsFileOf, IsTypeOf, placed_enums, placed_messages}
use Rattle.pg_check.specs.parts.MadeServices.{service, service_ids}
use Rattle.pg_check.specs.rules.Outline as outline
use Rattle.pg_check.specs.inner.CodeViews as views
use Rattle.pg_check.specs.inner.Sources.{IsMadeBy, source}
use Rattle.pg_check.proofs.lemmas.parts.PartsLaws.{shape_is, trees_are}
use Rattle.pg_check.proofs.parts.made_parts.made_by.Goals as goal

pub returns : goal.returns
returns c =
    let s = source c.args.file.now in
    let before = c.args.before.now in
    let t = length c.deref-2.result.now in
    let e = length c.deref-4.result.now in
    let n = length c.deref-8.result.now in
    let made : Made = record { types = c.in_ok-types.types; enums = c.in_ok-enums.enums; services = c.in_ok-made.made; file = c.in_ok-file.file } in
    let in_types = placed_messages t s.tree in
    let in_enums = placed_enums e s.tree in
    let types = in_scope c.in_ok-in_types.in_types in
    let enums = in_scope c.in_ok-in_enums.in_enums in
    let trees = ap (map (grouped_tree s.targets types enums)) (ap (map views.message) c.deref-6.ensures.value ∙ c.in_ok-messages.ensures)
    ∙ trees_are s.targets types enums in_types in_enums c.in_ok-in_types.ensures c.in_ok-in_enums.ensures (outline.file_messages s.tree) in
    subst (λ ts. IsMadeBy (length ts) (length before.enums.items) (length before.services.items) s made) c.deref-2.ensures.value
    (subst (λ es. IsMadeBy t (length es) (length before.services.items) s made) c.deref-4.ensures.value
    (subst (λ ss. IsMadeBy t e (length ss) s made) c.deref-8.ensures.value (record {
      of_types = subst (λ ts. EachIs IsTypeOf ts c.in_ok-types.types.items) trees c.in_ok-types.ensures;
      of_enums = c.in_ok-enums.ensures ∙ ap (map made_enum) (ap (map views.enumeration) c.deref-7.ensures.value ∙ c.in_ok-found.ensures);
      of_services = c.in_ok-made.ensures;
      of_file = subst (λ w. IsFileOf w c.in_ok-file.file) (shape_is types enums t e n c.in_ok-ids.ids.items c.in_ok-ids.ids.items s
          c.in_ok-in_types.ensures c.in_ok-in_enums.ensures
          (c.in_ok-ids.ensures ∙ ap (service_ids n) (ap (map service) c.deref-9.ensures.value ∙ c.in_ok-made.ensures))) c.in_ok-file.ensures;
    })))
