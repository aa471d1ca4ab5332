-- The field that takes the content is the one that is found.
use Rattle.std.proofs.Common.{◌≡◌, ℕ, Some, Result, OnOk, ap, sym, subst, ◌∙◌}
use Rattle.pg_schema.specs.declared.parts.field.TypeId.{TypeId}
use Rattle.pg_schema.specs.Parts.{field_shape, shape_of}
use Rattle.pg_schema.specs.Shape.{FieldShape, fields, field_at}
use Rattle.pg_dyn.specs.declared.error.DynError.{DynError}
use Rattle.pg_dyn.specs.fitting.Fits.{Fits}
use Rattle.pg_dyn.specs.message.Kept.{type_of}
use Rattle.pg_dyn.specs.message.Replacing.{with_parts, without_siblings}
use Rattle.pg_dyn.specs.message.Seen.{content_seen}
use Rattle.pg_dyn.specs.setting.Setting.{normalized}
use Rattle.pg_dyn.specs.fitting.ContentFits.{ItemsFit}
use Rattle.pg_dyn.proofs.lemmas.fitting.FitsChecks.{none_found, same_field}
use Rattle.pg_dyn.proofs.lemmas.setting.SetSteps.{by_own_number, own_field, own_type}
use Rattle.pg_dyn.proofs.lemmas.reading.records.Splitting.{found_number}
use Rattle.pg_dyn.proofs.message.Message.add.Goals.{in-Ok, in-Err}
use Rattle.pg_dyn.proofs.message.Message.add.Goals as goal

pub put_content-requires-clause-found : goal.put_content-requires-clause-found
put_content-requires-clause-found c =
    let f = field_shape c.in-Some.field.now in
    let found = own_field (shape_of c.args.schema.now) c.self.inside c.args.self.now c.self.view_is c.args.number f (sym c.in-Some.ensures.shape) in
    by_own_number (fields (shape_of c.args.schema.now) (type_of c.args.self.now)) c.args.number f found

pub put_content-requires-clause-items : goal.put_content-requires-clause-items
put_content-requires-clause-items c =
    let f = field_shape c.in-Some.field.now in
    let found = own_field (shape_of c.args.schema.now) c.self.inside c.args.self.now c.self.view_is c.args.number f (sym c.in-Some.ensures.shape) in
    let (g, taken) = c.requires.taken in
    let is = same_field g f (sym taken.found ∙ found) in
    subst (λ (x : FieldShape). ItemsFit (shape_of c.args.schema.now) x.presence x.element c.args.content) is taken.items

pub unreachable-requires : goal.unreachable-requires
unreachable-requires c =
    let same = own_type c.self.inside c.args.self.now c.self.view_is in
    let (g, taken) = c.requires.taken in
    none_found g (c.in_default.ensures.shape ∙ ap (λ (t : TypeId). field_at (fields (shape_of c.args.schema.now) t) c.args.number) (sym same) ∙ taken.found)

pub returns-clause-ok : goal.returns-clause-ok
returns-clause-ok c =
    let f = field_shape c.in-Some.field.now in
    let found = own_field (shape_of c.args.schema.now) c.self.inside c.args.self.now c.self.view_is c.args.number f (sym c.in-Some.ensures.shape) in
    let number = found_number (fields (shape_of c.args.schema.now) (type_of c.args.self.now)) c.args.number f found in
    elim c.match-put_content.branch as (λ b. OnOk c.match-put_content.result ((g : FieldShape) → field_at (fields (shape_of c.args.schema.now) (type_of c.args.self.now)) c.args.number ≡ Some g → c.put_content.new.self ≡ with_parts c.args.number (normalized g (content_seen c.args.number c.args.content)) c.args.self.now)) [
      | in-Ok w ↦
          subst (λ (r : Result (Unit {0}) DynError). OnOk r ((g : FieldShape) → field_at (fields (shape_of c.args.schema.now) (type_of c.args.self.now)) c.args.number ≡ Some g → c.put_content.new.self ≡ with_parts c.args.number (normalized g (content_seen c.args.number c.args.content)) c.args.self.now))
          (sym w.result-is)
          (λ g there.
          w.in-Ok.ensures.ok ∙ ap (λ (k : ℕ). with_parts k (normalized (field_shape c.in-Some.field.now) (content_seen k c.args.content)) c.args.self.now) number
          ∙ ap (λ (x : FieldShape). with_parts c.args.number (normalized x (content_seen c.args.number c.args.content)) c.args.self.now) (same_field f g (sym found ∙ there)))
      | in-Err w ↦
          subst (λ (r : Result (Unit {0}) DynError). OnOk r ((g : FieldShape) → field_at (fields (shape_of c.args.schema.now) (type_of c.args.self.now)) c.args.number ≡ Some g → c.put_content.new.self ≡ with_parts c.args.number (normalized g (content_seen c.args.number c.args.content)) c.args.self.now))
          (sym w.result-is) tt
    ]

pub returns-clause-fits : goal.returns-clause-fits
returns-clause-fits c =
    let f = field_shape c.in-Some.field.now in
    let found = own_field (shape_of c.args.schema.now) c.self.inside c.args.self.now c.self.view_is c.args.number f (sym c.in-Some.ensures.shape) in
    elim c.match-put_content.branch as (λ b. OnOk c.match-put_content.result ((g : FieldShape) → field_at (fields (shape_of c.args.schema.now) (type_of c.args.self.now)) c.args.number ≡ Some g
    → Fits (shape_of c.args.schema.now) (without_siblings (fields (shape_of c.args.schema.now) (type_of c.args.self.now)) g c.args.self.now) → Fits (shape_of c.args.schema.now) (without_siblings (fields (shape_of c.args.schema.now) (type_of c.args.self.now)) g c.put_content.new.self))) [
      | in-Ok w ↦
          subst (λ (r : Result (Unit {0}) DynError). OnOk r ((g : FieldShape) → field_at (fields (shape_of c.args.schema.now) (type_of c.args.self.now)) c.args.number ≡ Some g
          → Fits (shape_of c.args.schema.now) (without_siblings (fields (shape_of c.args.schema.now) (type_of c.args.self.now)) g c.args.self.now) → Fits (shape_of c.args.schema.now) (without_siblings (fields (shape_of c.args.schema.now) (type_of c.args.self.now)) g c.put_content.new.self)))
          (sym w.result-is)
          (λ g there.
          subst (λ (x : FieldShape). Fits (shape_of c.args.schema.now) (without_siblings (fields (shape_of c.args.schema.now) (type_of c.args.self.now)) x c.args.self.now) → Fits (shape_of c.args.schema.now) (without_siblings (fields (shape_of c.args.schema.now) (type_of c.args.self.now)) x c.put_content.new.self))
          (same_field f g (sym found ∙ there)) w.in-Ok.ensures.fits)
      | in-Err w ↦
          subst (λ (r : Result (Unit {0}) DynError). OnOk r ((g : FieldShape) → field_at (fields (shape_of c.args.schema.now) (type_of c.args.self.now)) c.args.number ≡ Some g
          → Fits (shape_of c.args.schema.now) (without_siblings (fields (shape_of c.args.schema.now) (type_of c.args.self.now)) g c.args.self.now) → Fits (shape_of c.args.schema.now) (without_siblings (fields (shape_of c.args.schema.now) (type_of c.args.self.now)) g c.put_content.new.self)))
          (sym w.result-is) tt
    ]
