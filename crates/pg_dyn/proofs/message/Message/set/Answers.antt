-- A content that passes the tests is put in and the siblings taken out; one that doesn't comes back.
use Rattle.std.proofs.Common.{◌≡◌, IfSome, map, ⊎_elim, refl, ap, sym, subst, ◌∙◌}
use Rattle.pg_schema.specs.declared.parts.field.TypeId.{TypeId}
use Rattle.pg_schema.specs.Parts.{field_shape, shape_of}
use Rattle.pg_schema.specs.Shape.{fields}
use Rattle.pg_dyn.specs.declared.error.DynError.{DynError}
use Rattle.pg_dyn.specs.setting.ContentFaults.{ContentFault, IsLowest, MayRefuseFor}
use Rattle.pg_dyn.specs.fitting.Fits.{Fits}
use Rattle.pg_dyn.specs.message.Kept.{type_of}
use Rattle.pg_dyn.specs.message.Replacing.{without_siblings}
use Rattle.pg_dyn.specs.message.Seen.{record_seen}
use Rattle.pg_dyn.proofs.lemmas.setting.ContentChecks.{taken_early, taken_twice}
use Rattle.pg_dyn.proofs.lemmas.setting.PutLaws.{cleared_fits, content_alike, normalized_number}
use Rattle.pg_dyn.proofs.lemmas.message.ReplacingLaws.{type_of-with_parts}
use Rattle.pg_dyn.proofs.lemmas.setting.SetSteps.{by_own_number, may_refuse, members_after, no_memory, own_field, own_type, set_to}
use Rattle.pg_dyn.proofs.message.Message.set.Goals as goal

pub returns-in-Err-clause-refused : goal.returns-in-Err-clause-refused
returns-in-Err-clause-refused c =
    let same = own_type c.self.inside c.args.self.now c.self.view_is in (
      refl,
      refl,
      may_refuse (ContentFault (shape_of c.args.schema.now) (type_of c.args.self.now) c.args.number c.args.content) c.in-Err.error
          (subst (λ (t : TypeId). IsLowest (ContentFault (shape_of c.args.schema.now) t c.args.number c.args.content) c.in-Err.error) (sym same) c.in-Err.ensures.err),
    )

pub check_keys-requires : goal.check_keys-requires
check_keys-requires c =
    content_alike c.args.schema.now c.parts.ensures.checked c.self.inside.type_id c.args.number (field_shape c.in-Ok.field.now) c.args.content c.in-Ok.ensures.ok.found c.in-Ok.ensures.ok.items

pub returns-in-Err-check_keys-clause-refused : goal.returns-in-Err-check_keys-clause-refused
returns-in-Err-check_keys-clause-refused c =
    let f = field_shape c.in-Ok.field.now in
    let found = own_field (shape_of c.args.schema.now) c.self.inside c.args.self.now c.self.view_is c.args.number f c.in-Ok.ensures.ok.found in
    let may = λ (e : DynError). MayRefuseFor (ContentFault (shape_of c.args.schema.now) (type_of c.args.self.now) c.args.number c.args.content) e in (
      refl,
      refl,
      ⊎_elim (λ is. subst may (sym is) tt)
          (λ twice. subst may (sym twice.0) (taken_twice (shape_of c.args.schema.now) (type_of c.args.self.now) c.args.number c.args.content f found c.in-Ok.ensures.ok.items twice.1)) c.in-Err-check_keys.ensures.err,
    )

pub put_content-requires-clause-found : goal.put_content-requires-clause-found
put_content-requires-clause-found c =
    let f = field_shape c.in-Ok.field.now in
    let found = own_field (shape_of c.args.schema.now) c.self.inside c.args.self.now c.self.view_is c.args.number f c.in-Ok.ensures.ok.found in
    by_own_number (fields (shape_of c.args.schema.now) (type_of c.args.self.now)) c.args.number f found

pub held_siblings-members-requires-clause-found : goal.held_siblings-members-requires-clause-found
held_siblings-members-requires-clause-found c =
    let f = field_shape c.in-Ok.field.now in
    let found = own_field (shape_of c.args.schema.now) c.self.inside c.args.self.now c.self.view_is c.args.number f c.in-Ok.ensures.ok.found in
    by_own_number (fields (shape_of c.args.schema.now) (type_of c.args.self.now)) c.args.number f found

pub replace_siblings-requires : goal.replace_siblings-requires
replace_siblings-requires c =
    let f = field_shape c.in-Ok.field.now in
    let put = c.put_content.new.self in
    let put_type : type_of put ≡ type_of c.args.self.now = ap type_of c.in-Ok-put_content.ensures.ok ∙ type_of-with_parts f.number _ c.args.self.now in
    subst (λ (t : TypeId). IfSome c.held_siblings-members.result (λ members. without_siblings (map field_shape members.now) f c.put_content.new.self ≡ without_siblings (fields (shape_of c.args.schema.now) t) f c.put_content.new.self)) (sym put_type)
    (members_after (λ members. map field_shape members.now) (fields (shape_of c.args.schema.now) (type_of c.args.self.now)) f _ c.args.self.now put c.in-Ok-put_content.ensures.ok
    (normalized_number f f.number c.args.content) c.held_siblings-members.result c.held_siblings-members.ensures)

pub returns-in-Ok-put_content-clause-ok : goal.returns-in-Ok-put_content-clause-ok
returns-in-Ok-put_content-clause-ok c =
    let f = field_shape c.in-Ok.field.now in
    let found = own_field (shape_of c.args.schema.now) c.self.inside c.args.self.now c.self.view_is c.args.number f c.in-Ok.ensures.ok.found in
    let put = c.put_content.new.self in
    let put_type : type_of put ≡ type_of c.args.self.now = ap type_of c.in-Ok-put_content.ensures.ok ∙ type_of-with_parts f.number _ c.args.self.now in
    let new = c.replace_siblings.ensures ∙ ap (λ (t : TypeId). without_siblings (fields (shape_of c.args.schema.now) t) (field_shape c.in-Ok.field.now) c.put_content.new.self) put_type in
    set_to c.args.schema.now c.parts.ensures.checked c.args.number c.args.content f c.args.self.now put c.replace_siblings.new.self found c.in-Ok-put_content.ensures.ok new

pub returns-in-Ok-put_content-clause-fits : goal.returns-in-Ok-put_content-clause-fits
returns-in-Ok-put_content-clause-fits c =
    let a = c.self.inside in
    let us = map record_seen a.unknown.items in
    let f = field_shape c.in-Ok.field.now in
    let shape = shape_of c.args.schema.now in
    let same = own_type a c.args.self.now c.self.view_is in
    let put = c.put_content.new.self in
    let put_type : type_of put ≡ type_of c.args.self.now = ap type_of c.in-Ok-put_content.ensures.ok ∙ type_of-with_parts f.number _ c.args.self.now in
    let new = c.replace_siblings.ensures ∙ ap (λ (t : TypeId). without_siblings (fields (shape_of c.args.schema.now) t) (field_shape c.in-Ok.field.now) c.put_content.new.self) put_type in
    let cleared = cleared_fits c.args.schema.now c.parts.ensures.checked a.type_id f c.args.number c.in-Ok.ensures.ok.found a.fields.items us c.args.self.now c.self.view_is c.self.invariant.rises c.self.invariant.filled c.self.invariant.keys c.requires.fits in
    let here = subst (λ (t : TypeId). Fits (shape_of c.args.schema.now) (without_siblings (fields (shape_of c.args.schema.now) t) (field_shape c.in-Ok.field.now) c.args.self.now)) (sym same) cleared in
    subst (Fits shape) (sym new) (c.in-Ok-put_content.ensures.fits here)

pub returns-in-Ok-put_content-clause-content : goal.returns-in-Ok-put_content-clause-content
returns-in-Ok-put_content-clause-content c =
    let f = field_shape c.in-Ok.field.now in
    let found = own_field (shape_of c.args.schema.now) c.self.inside c.args.self.now c.self.view_is c.args.number f c.in-Ok.ensures.ok.found in
    record { field = f; found = found; items = c.in-Ok.ensures.ok.items; once = c.in_default.ensures.ok }

pub returns-in-Err-clause-lacking : goal.returns-in-Err-clause-lacking
returns-in-Err-clause-lacking c = λ is. absurd (no_memory c.args.schema.now c.self.inside.type_id c.args.number c.args.content c.in-Err.error is c.in-Err.ensures.err)

pub returns-in-Err-check_keys-clause-lacking : goal.returns-in-Err-check_keys-clause-lacking
returns-in-Err-check_keys-clause-lacking c =
    let f = field_shape c.in-Ok.field.now in
    let found = own_field (shape_of c.args.schema.now) c.self.inside c.args.self.now c.self.view_is c.args.number f c.in-Ok.ensures.ok.found in
    λ is. taken_early (shape_of c.args.schema.now) (type_of c.args.self.now) c.args.number c.args.content f found c.in-Ok.ensures.ok.items

pub returns-in-Err-put_content-clause-lacking : goal.returns-in-Err-put_content-clause-lacking
returns-in-Err-put_content-clause-lacking c =
    let f = field_shape c.in-Ok.field.now in
    let found = own_field (shape_of c.args.schema.now) c.self.inside c.args.self.now c.self.view_is c.args.number f c.in-Ok.ensures.ok.found in
    λ is. taken_early (shape_of c.args.schema.now) (type_of c.args.self.now) c.args.number c.args.content f found c.in-Ok.ensures.ok.items
