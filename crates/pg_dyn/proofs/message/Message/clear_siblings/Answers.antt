-- The contents that are left still rise, and are those of the message without the others.
use Rattle.std.proofs.Common.{ℕ, map, not, ap, sym, subst, ◌∙◌}
use Rattle.std.specs.List.{AllByRecursion}
use Rattle.pg_schema.specs.declared.parts.field.TypeId.{TypeId}
use Rattle.pg_schema.specs.Parts.{field_shape, shape_of}
use Rattle.pg_schema.specs.Shape.{fields}
use Rattle.pg_dyn.specs.declared.message.Content.{Content}
use Rattle.pg_dyn.specs.message.Kept.{type_of}
use Rattle.pg_dyn.specs.message.Replacing.{is_sibling_number, without_siblings}
use Rattle.pg_dyn.specs.message.Seen.{IsFilled, HasKeys, Rises, record_seen}
use Rattle.pg_dyn.proofs.lemmas.message.FieldListLaws.{rises-filter}
use Rattle.pg_dyn.proofs.lemmas.message.ReplacingLaws.{no_siblings, type_shown}
use Rattle.pg_dyn.proofs.lemmas.setting.WithoutSiblings.{cleared_shown, each_left}
use Rattle.pg_dyn.proofs.message.Message.clear_siblings.Goals as goal

pub invariant_of-self : goal.invariant_of-self
invariant_of-self c =
    let a = c.self.inside in
    let fs = fields (shape_of c.args.schema.now) a.type_id in
    let f = field_shape c.args.field.now in
    let is = sym c.remove_siblings.ensures in
    record {
      rises = subst Rises is (rises-filter (λ (x : ℕ × Content). not (is_sibling_number (fields (shape_of c.args.schema.now) a.type_id) (field_shape c.args.field.now) x.0)) a.fields.items c.self.invariant.rises);
      filled = subst (AllByRecursion (λ (x : ℕ × Content). IsFilled x.1)) is (each_left (λ (x : ℕ × Content). IsFilled x.1) fs f a.fields.items c.self.invariant.filled);
      keys = subst (AllByRecursion (λ (x : ℕ × Content). HasKeys x.1)) is (each_left (λ (x : ℕ × Content). HasKeys x.1) fs f a.fields.items c.self.invariant.keys);
      records = c.self.invariant.records;
      bodies = c.self.invariant.bodies;
    }

pub returns-in-Some : goal.returns-in-Some
returns-in-Some c =
    let a = c.self.inside in
    let us = map record_seen a.unknown.items in
    let f = field_shape c.args.field.now in
    let same = sym (ap type_of c.self.view_is) ∙ type_shown a.type_id a.fields.items us in
    cleared_shown (fields (shape_of c.args.schema.now) a.type_id) f a.type_id a.fields.items _ us c.args.self.now c.remove_siblings.ensures c.self.view_is
    ∙ ap (λ (t : TypeId). without_siblings (fields (shape_of c.args.schema.now) t) (field_shape c.args.field.now) c.args.self.now) (sym same)

pub returns-in-None : goal.returns-in-None
returns-in-None c = sym (no_siblings (fields (shape_of c.args.schema.now) (type_of c.args.self.now)) (field_shape c.args.field.now) c.args.self.now c.in-None.is)
