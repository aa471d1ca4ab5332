-- The content is put into the field that takes it, and the siblings are taken out.
use Rattle.std.proofs.Common.{◌≡◌, IfSome, map, ap, sym, subst, ◌∙◌}
use Rattle.pg_schema.specs.declared.parts.field.TypeId.{TypeId}
use Rattle.pg_schema.specs.Parts.{field_shape, shape_of}
use Rattle.pg_schema.specs.Shape.{FieldShape, fields, field_at}
use Rattle.pg_dyn.specs.fitting.Fits.{Fits}
use Rattle.pg_dyn.specs.message.Kept.{type_of}
use Rattle.pg_dyn.specs.message.Replacing.{without_siblings}
use Rattle.pg_dyn.specs.message.Seen.{record_seen}
use Rattle.pg_dyn.specs.fitting.ContentFits.{ItemsFit}
use Rattle.pg_dyn.proofs.lemmas.fitting.FitsChecks.{none_found, same_field}
use Rattle.pg_dyn.proofs.lemmas.setting.PutLaws.{cleared_fits, normalized_number}
use Rattle.pg_dyn.proofs.lemmas.message.ReplacingLaws.{type_of-with_parts}
use Rattle.pg_dyn.proofs.lemmas.setting.SetSteps.{by_own_number, members_after, own_field, own_type, set_to}
use Rattle.pg_dyn.proofs.message.Message.put.Goals as goal

pub held_siblings-members-requires-clause-found : goal.held_siblings-members-requires-clause-found
held_siblings-members-requires-clause-found c =
    let f = field_shape c.in-Some.field.now in
    let found = own_field (shape_of c.args.schema.now) c.self.inside c.args.self.now c.self.view_is c.args.number f (sym c.in-Some.ensures.shape) in
    by_own_number (fields (shape_of c.args.schema.now) (type_of c.args.self.now)) c.args.number f found

pub replace_siblings-requires : goal.replace_siblings-requires
replace_siblings-requires c =
    let f = field_shape c.in-Some.field.now in
    let put = c.put_content.new.self in
    let put_type : type_of put ≡ type_of c.args.self.now = ap type_of c.in_ok-put_content.ensures.ok ∙ type_of-with_parts f.number _ c.args.self.now in
    subst (λ (t : TypeId). IfSome c.held_siblings-members.result (λ members. without_siblings (map field_shape members.now) f c.put_content.new.self ≡ without_siblings (fields (shape_of c.args.schema.now) t) f c.put_content.new.self)) (sym put_type)
    (members_after (λ members. map field_shape members.now) (fields (shape_of c.args.schema.now) (type_of c.args.self.now)) f _ c.args.self.now put c.in_ok-put_content.ensures.ok
    (normalized_number f f.number c.args.content) c.held_siblings-members.result c.held_siblings-members.ensures)

pub put_content-requires-clause-found : goal.put_content-requires-clause-found
put_content-requires-clause-found c =
    let f = field_shape c.in-Some.field.now in
    let found = own_field (shape_of c.args.schema.now) c.self.inside c.args.self.now c.self.view_is c.args.number f (sym c.in-Some.ensures.shape) in
    by_own_number (fields (shape_of c.args.schema.now) (type_of c.args.self.now)) c.args.number f found

pub put_content-requires-clause-items : goal.put_content-requires-clause-items
put_content-requires-clause-items c =
    let f = field_shape c.in-Some.field.now in
    let found = own_field (shape_of c.args.schema.now) c.self.inside c.args.self.now c.self.view_is c.args.number f (sym c.in-Some.ensures.shape) in
    let given = c.requires.content in
    let is = same_field given.field f (sym given.found ∙ found) in
    subst (λ (g : FieldShape). ItemsFit (shape_of c.args.schema.now) g.presence g.element c.args.content) is given.items

pub put_content-requires-clause-once : goal.put_content-requires-clause-once
put_content-requires-clause-once c = c.requires.content.once

pub unreachable-requires : goal.unreachable-requires
unreachable-requires c =
    let same = own_type c.self.inside c.args.self.now c.self.view_is in
    let given = c.requires.content in
    none_found given.field (c.in_default.ensures.shape ∙ ap (λ (t : TypeId). field_at (fields (shape_of c.args.schema.now) t) c.args.number) (sym same) ∙ given.found)

pub returns-clause-ok : goal.returns-clause-ok
returns-clause-ok c =
    let f = field_shape c.in-Some.field.now in
    let found = own_field (shape_of c.args.schema.now) c.self.inside c.args.self.now c.self.view_is c.args.number f (sym c.in-Some.ensures.shape) in
    let put = c.put_content.new.self in
    let put_type : type_of put ≡ type_of c.args.self.now = ap type_of c.in_ok-put_content.ensures.ok ∙ type_of-with_parts f.number _ c.args.self.now in
    let new = c.replace_siblings.ensures ∙ ap (λ (t : TypeId). without_siblings (fields (shape_of c.args.schema.now) t) (field_shape c.in-Some.field.now) c.put_content.new.self) put_type in
    set_to c.args.schema.now c.parts.ensures.checked c.args.number c.args.content f c.args.self.now put c.replace_siblings.new.self found c.in_ok-put_content.ensures.ok new

pub returns-clause-fits : goal.returns-clause-fits
returns-clause-fits c =
    let a = c.self.inside in
    let us = map record_seen a.unknown.items in
    let f = field_shape c.in-Some.field.now in
    let shape = shape_of c.args.schema.now in
    let same = own_type a c.args.self.now c.self.view_is in
    let put = c.put_content.new.self in
    let put_type : type_of put ≡ type_of c.args.self.now = ap type_of c.in_ok-put_content.ensures.ok ∙ type_of-with_parts f.number _ c.args.self.now in
    let new = c.replace_siblings.ensures ∙ ap (λ (t : TypeId). without_siblings (fields (shape_of c.args.schema.now) t) (field_shape c.in-Some.field.now) c.put_content.new.self) put_type in
    let cleared = cleared_fits c.args.schema.now c.parts.ensures.checked a.type_id f c.args.number (sym c.in-Some.ensures.shape) a.fields.items us c.args.self.now c.self.view_is c.self.invariant.rises c.self.invariant.filled c.self.invariant.keys c.requires.fits in
    let here = subst (λ (t : TypeId). Fits (shape_of c.args.schema.now) (without_siblings (fields (shape_of c.args.schema.now) t) (field_shape c.in-Some.field.now) c.args.self.now)) (sym same) cleared in
    subst (Fits shape) (sym new) (c.in_ok-put_content.ensures.fits here)
