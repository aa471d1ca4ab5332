-- The fields round the number stay, and still rise.
use Rattle.std.proofs.Common.{◌≡◌, ℕ, [], Some, map, refl, ap, ap₂, sym, subst, ◌∙◌}
use Rattle.std.specs.List.{AllByRecursion}
use Rattle.pg_schema.specs.declared.parts.field.TypeId.{TypeId}
use Rattle.pg_schema.specs.Parts.{field_shape, shape_of}
use Rattle.pg_schema.specs.Shape.{fields, field_at}
use Rattle.pg_dyn.specs.declared.message.Content.{Content}
use Rattle.pg_dyn.specs.message.FieldList.{put_field}
use Rattle.pg_dyn.specs.fitting.Fits.{Fits}
use Rattle.pg_dyn.specs.message.Kept.{type_of}
use Rattle.pg_dyn.specs.message.Replacing.{with_parts, without_siblings}
use Rattle.pg_dyn.specs.message.Seen.{IsFilled, HasKeys, Rises, record_seen}
use Rattle.pg_dyn.proofs.lemmas.message.FieldListLaws.{rises_put, rises_remove, each_put, each_removed}
use Rattle.pg_dyn.proofs.lemmas.setting.PutLaws.{content_alike, may_hold_keys, nothing_normalized, put_fits, removed_fits}
use Rattle.pg_dyn.proofs.lemmas.message.ReplacingLaws.{shown, put_shows, remove_shows, type_shown}
use Rattle.pg_dyn.proofs.message.Message.put_content.Goals as goal

pub invariant_of-self : goal.invariant_of-self
invariant_of-self c =
    let is = sym c.remove.ensures in
    let a = c.self.inside in
    let n = c.args.field.now.number in
    record {
      rises = subst Rises is (rises_remove n a.fields.items c.self.invariant.rises);
      filled = subst (AllByRecursion (λ (f : ℕ × Content). IsFilled f.1)) is (each_removed (λ (f : ℕ × Content). IsFilled f.1) n a.fields.items c.self.invariant.filled);
      keys = subst (AllByRecursion (λ (f : ℕ × Content). HasKeys f.1)) is (each_removed (λ (f : ℕ × Content). HasKeys f.1) n a.fields.items c.self.invariant.keys);
      records = c.self.invariant.records;
      bodies = c.self.invariant.bodies;
    }

pub returns-then-is_nothing-clause-ok : goal.returns-then-is_nothing-clause-ok
returns-then-is_nothing-clause-ok c =
    let a = c.self.inside in
    let us = map record_seen a.unknown.items in
    let n = c.args.field.now.number in
    let none = nothing_normalized (field_shape c.args.field.now) c.args.content n (sym c.is_nothing.ensures ∙ c.if-is_nothing.true) in
    ap (λ ms. shown a.type_id ms us) c.remove.ensures ∙ remove_shows a.type_id n a.fields.items us ∙ ap (with_parts n []) c.self.view_is ∙ ap (λ ps. with_parts c.args.field.now.number ps c.args.self.now) (sym none)

pub returns-then-is_nothing-clause-fits : goal.returns-then-is_nothing-clause-fits
returns-then-is_nothing-clause-fits c =
    let a = c.self.inside in
    let us = map record_seen a.unknown.items in
    let f = field_shape c.args.field.now in
    let same : type_of c.args.self.now ≡ a.type_id = sym (ap type_of c.self.view_is) ∙ type_shown a.type_id a.fields.items us in
    let found = subst (λ (t : TypeId). field_at (fields (shape_of c.args.schema.now) t) c.args.field.now.number ≡ Some (field_shape c.args.field.now)) same c.requires.found in
    subst (λ (t : TypeId). Fits (shape_of c.args.schema.now) (without_siblings (fields (shape_of c.args.schema.now) t) (field_shape c.args.field.now) c.args.self.now)
    → Fits (shape_of c.args.schema.now) (without_siblings (fields (shape_of c.args.schema.now) t) (field_shape c.args.field.now) (shown c.self.inside.type_id c.remove.new.fields.items (map record_seen c.self.inside.unknown.items)))) (sym same)
    (removed_fits c.args.schema.now c.requires.is_schema a.type_id f f.number found a.fields.items us c.args.self.now c.self.view_is c.self.invariant.rises c.self.invariant.filled c.self.invariant.keys (shown a.type_id c.remove.new.fields.items us) c.remove.new.fields.items
    c.remove.ensures refl)

pub normalized-requires-clause-alike : goal.normalized-requires-clause-alike
normalized-requires-clause-alike c =
    content_alike c.args.schema.now c.requires.is_schema (type_of c.args.self.now) c.args.field.now.number (field_shape c.args.field.now) c.args.content c.requires.found c.requires.items

pub normalized-requires-clause-keyed : goal.normalized-requires-clause-keyed
normalized-requires-clause-keyed c =
    may_hold_keys c.args.schema.now c.requires.is_schema (type_of c.args.self.now) c.args.field.now.number (field_shape c.args.field.now) c.requires.found

pub invariant_of-self-2 : goal.invariant_of-self-2
invariant_of-self-2 c =
    let a = c.self.inside in
    let n = c.args.field.now.number in
    let is = sym (c.put.ensures ∙ ap (put_field n c.normalized.result) c.reserve.ensures.items) in
    record {
      rises = subst Rises is (rises_put n c.normalized.result a.fields.items c.self.invariant.rises);
      filled = subst (AllByRecursion (λ (f : ℕ × Content). IsFilled f.1)) is (each_put (λ (f : ℕ × Content). IsFilled f.1) n c.normalized.result a.fields.items c.normalized.ensures.filled c.self.invariant.filled);
      keys = subst (AllByRecursion (λ (f : ℕ × Content). HasKeys f.1)) is (each_put (λ (f : ℕ × Content). HasKeys f.1) n c.normalized.result a.fields.items c.normalized.ensures.keys c.self.invariant.keys);
      records = c.self.invariant.records;
      bodies = c.self.invariant.bodies;
    }

pub returns-clause-ok : goal.returns-clause-ok
returns-clause-ok c =
    let a = c.self.inside in
    let us = map record_seen a.unknown.items in
    let n = c.args.field.now.number in
    let is = c.put.ensures ∙ ap (put_field n c.normalized.result) c.reserve.ensures.items in
    ap (λ ms. shown a.type_id ms us) is ∙ put_shows a.type_id n c.normalized.result a.fields.items us ∙ ap₂ (with_parts n) (c.normalized.ensures.seen n) c.self.view_is

pub returns-clause-fits : goal.returns-clause-fits
returns-clause-fits c =
    let a = c.self.inside in
    let us = map record_seen a.unknown.items in
    let f = field_shape c.args.field.now in
    let is = c.put.ensures ∙ ap (put_field c.args.field.now.number c.normalized.result) c.reserve.ensures.items in
    let same : type_of c.args.self.now ≡ a.type_id = sym (ap type_of c.self.view_is) ∙ type_shown a.type_id a.fields.items us in
    let found = subst (λ (t : TypeId). field_at (fields (shape_of c.args.schema.now) t) c.args.field.now.number ≡ Some (field_shape c.args.field.now)) same c.requires.found in
    subst (λ (t : TypeId). Fits (shape_of c.args.schema.now) (without_siblings (fields (shape_of c.args.schema.now) t) (field_shape c.args.field.now) c.args.self.now)
    → Fits (shape_of c.args.schema.now) (without_siblings (fields (shape_of c.args.schema.now) t) (field_shape c.args.field.now) (shown c.self.inside.type_id c.put.new.fields.items (map record_seen c.self.inside.unknown.items)))) (sym same)
    (put_fits c.args.schema.now c.requires.is_schema a.type_id f f.number found a.fields.items us c.args.self.now c.self.view_is c.self.invariant.rises c.self.invariant.filled c.self.invariant.keys c.normalized.result (shown a.type_id c.put.new.fields.items us) c.put.new.fields.items
    c.normalized.ensures.fits is refl)
