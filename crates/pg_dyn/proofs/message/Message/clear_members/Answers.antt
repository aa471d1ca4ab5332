-- The contents that are left still rise, and are those of the message without these members.
use Rattle.std.proofs.Common.{ℕ, map, not, sym, subst}
use Rattle.std.specs.List.{AllByRecursion}
use Rattle.pg_schema.specs.Parts.{field_shape}
use Rattle.pg_dyn.specs.declared.message.Content.{Content}
use Rattle.pg_dyn.specs.message.Replacing.{is_sibling_number}
use Rattle.pg_dyn.specs.message.Seen.{IsFilled, HasKeys, Rises, record_seen}
use Rattle.pg_dyn.proofs.lemmas.message.FieldListLaws.{rises-filter}
use Rattle.pg_dyn.proofs.lemmas.setting.WithoutSiblings.{cleared_shown, each_left}
use Rattle.pg_dyn.proofs.message.Message.clear_members.Goals as goal

pub invariant_of-self : goal.invariant_of-self
invariant_of-self c =
    let a = c.self.inside in
    let fs = map field_shape c.args.members.now in
    let f = field_shape c.args.field.now in
    let is = sym c.remove_members.ensures in
    record {
      rises = subst Rises is (rises-filter (λ (x : ℕ × Content). not (is_sibling_number (map field_shape c.args.members.now) (field_shape c.args.field.now) x.0)) a.fields.items c.self.invariant.rises);
      filled = subst (AllByRecursion (λ (x : ℕ × Content). IsFilled x.1)) is (each_left (λ (x : ℕ × Content). IsFilled x.1) fs f a.fields.items c.self.invariant.filled);
      keys = subst (AllByRecursion (λ (x : ℕ × Content). HasKeys x.1)) is (each_left (λ (x : ℕ × Content). HasKeys x.1) fs f a.fields.items c.self.invariant.keys);
      records = c.self.invariant.records;
      bodies = c.self.invariant.bodies;
    }

pub returns : goal.returns
returns c =
    let a = c.self.inside in
    cleared_shown (map field_shape c.args.members.now) (field_shape c.args.field.now) a.type_id a.fields.items _ (map record_seen a.unknown.items) c.args.self.now c.remove_members.ensures c.self.view_is
