-- A content of the shape that the presence asks, item by item.
use Rattle.std.proofs.Common.{List, sym, subst}
use Rattle.std.specs.List.{AllByRecursion}
use Rattle.pg_schema.specs.declared.parts.field.Presence.{Presence}
use Rattle.pg_schema.specs.declared.parts.field.Presence.TheVariants as presences
use Rattle.pg_schema.specs.Parts.{field_shape, shape_of}
use Rattle.pg_dyn.specs.declared.message.Content.{Content}
use Rattle.pg_dyn.specs.declared.message.Value.{Value}
use Rattle.pg_dyn.specs.setting.ContentFaults.{ElementFault, FieldFault, FirstOf}
use Rattle.pg_dyn.specs.fitting.ContentFits.{ItemFits, EntryFits, ItemsFit}
use Rattle.pg_dyn.specs.inner.Reported.{EntryFault, Reports}
use Rattle.pg_dyn.proofs.lemmas.setting.ContentChecks.{reported_list, reported_map}
use Rattle.pg_dyn.proofs.setting.check.check_field.Goals as goal

pub returns-in-Repeated-Many : goal.returns-in-Repeated-Many
returns-in-Repeated-Many c =
    let shape = shape_of c.args.schema.now in
    let f = field_shape c.args.field.now in
    let vs = c.in-Repeated-Many.values in
    let r = c.check_values.result in
    let reported = subst (λ (xs : List Value). Reports (AllByRecursion (ItemFits (shape_of c.args.schema.now) c.args.field.now.element) xs) (FirstOf (ElementFault (shape_of c.args.schema.now) c.args.field.now.element) xs) c.check_values.result) c.deref.ensures.value c.check_values.ensures in
    let here = reported_list shape f.number f.element f.oneof r c.in-Repeated-Many.packed-0 vs reported in
    let at_content = subst (λ (x : Content). Reports (ItemsFit (shape_of c.args.schema.now) (presences.Repeated c.in-Repeated-Many.packed-0) c.args.field.now.element x) (FieldFault (shape_of c.args.schema.now) (record { number = c.args.field.now.number; presence = presences.Repeated c.in-Repeated-Many.packed-0; element = c.args.field.now.element; oneof = c.args.field.now.oneof }) x) c.check_values.result) (sym c.in-Repeated-Many.is-1) here in
    subst (λ (p : Presence). Reports (ItemsFit (shape_of c.args.schema.now) p c.args.field.now.element c.args.content.now) (FieldFault (shape_of c.args.schema.now) (record { number = c.args.field.now.number; presence = p; element = c.args.field.now.element; oneof = c.args.field.now.oneof }) c.args.content.now) c.check_values.result) (sym c.in-Repeated-Many.is-0) at_content

pub returns-in-Map-Map : goal.returns-in-Map-Map
returns-in-Map-Map c =
    let shape = shape_of c.args.schema.now in
    let f = field_shape c.args.field.now in
    let key = c.in-Map-Map.key in
    let es = c.in-Map-Map.entries in
    let r = c.check_entries.result in
    let reported = subst (λ (xs : List (Value × Value)). Reports (AllByRecursion (EntryFits (shape_of c.args.schema.now) c.in-Map-Map.key c.args.field.now.element) xs) (FirstOf (EntryFault (shape_of c.args.schema.now) c.in-Map-Map.key c.args.field.now.element) xs) c.check_entries.result) c.deref-in-Map-Map.ensures.value c.check_entries.ensures in
    let here = reported_map shape f.number f.element f.oneof r key es reported in
    let at_content = subst (λ (x : Content). Reports (ItemsFit (shape_of c.args.schema.now) (presences.Map c.in-Map-Map.key) c.args.field.now.element x) (FieldFault (shape_of c.args.schema.now) (record { number = c.args.field.now.number; presence = presences.Map c.in-Map-Map.key; element = c.args.field.now.element; oneof = c.args.field.now.oneof }) x) c.check_entries.result) (sym c.in-Map-Map.is-1) here in
    subst (λ (p : Presence). Reports (ItemsFit (shape_of c.args.schema.now) p c.args.field.now.element c.args.content.now) (FieldFault (shape_of c.args.schema.now) (record { number = c.args.field.now.number; presence = p; element = c.args.field.now.element; oneof = c.args.field.now.oneof }) c.args.content.now) c.check_entries.result) (sym c.in-Map-Map.is-0) at_content
