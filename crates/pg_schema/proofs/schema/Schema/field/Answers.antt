use Rattle.std.proofs.Common.{◌≡◌, Option, None, map, sym, ◌∙◌, ap, subst}
use Rattle.std.specs.Option.{option_copied, option_map}
use Rattle.pg_schema.specs.declared.parts.field.Field.{Field}
use Rattle.pg_schema.specs.declared.parts.Parts.{Parts}
use Rattle.pg_schema.specs.Lookups.{field_of}
use Rattle.pg_schema.specs.Parts.{field_shape, shape_of}
use Rattle.pg_schema.specs.Shape.{fields, field_at}
use Rattle.pg_schema.specs.ShapeRules.{Rising}
use Rattle.pg_schema.proofs.lemmas.schema.TypeSearch.{rising_at, field_along, shape_along, no_field, type_found, no_type_found}
use Rattle.pg_schema.proofs.schema.Schema.field.Goals as goal

pub field_in-requires : goal.field_in-requires
field_in-requires c =
    let is = type_found c.self.inside.parts.types.items c.deref.result.now c.args.id.index c.in-Some.message_type.now c.deref.ensures.value c.in-Some.ensures.lookup.0 c.in-Some.ensures.lookup.1 in
    subst (λ fs. Rising (map field_shape fs)) (sym c.deref-in-Some.ensures.value) (rising_at c.self.inside.parts.types.items c.args.id.index c.in-Some.message_type.now c.self.invariant.0.shape is)

pub returns-in-Some-clause-exact : goal.returns-in-Some-clause-exact
returns-in-Some-clause-exact c =
    let is = type_found c.self.inside.parts.types.items c.deref.result.now c.args.id.index c.in-Some.message_type.now c.deref.ensures.value c.in-Some.ensures.lookup.0 c.in-Some.ensures.lookup.1 in
    subst (λ (parts : Parts). option_copied c.field_in.result ≡ field_of parts c.args.id c.args.number) c.self.view_is
    (c.field_in.ensures ∙ field_along c.self.inside.parts.types.items c.args.id.index c.args.number c.in-Some.message_type.now c.deref-in-Some.result.now is c.deref-in-Some.ensures.value)

pub returns-in-Some-clause-shape : goal.returns-in-Some-clause-shape
returns-in-Some-clause-shape c =
    let is = type_found c.self.inside.parts.types.items c.deref.result.now c.args.id.index c.in-Some.message_type.now c.deref.ensures.value c.in-Some.ensures.lookup.0 c.in-Some.ensures.lookup.1 in
    subst (λ (parts : Parts). option_map field_shape (option_copied c.field_in.result) ≡ field_at (fields (shape_of parts) c.args.id) c.args.number) c.self.view_is
    (ap (option_map field_shape) c.field_in.ensures ∙ shape_along c.self.inside.parts.types.items c.args.id.index c.args.number c.in-Some.message_type.now c.deref-in-Some.result.now is c.deref-in-Some.ensures.value)

pub returns-in-None-clause-exact : goal.returns-in-None-clause-exact
returns-in-None-clause-exact c =
    subst (λ (parts : Parts). ◌≡◌ {A = Option Field} None (field_of parts c.args.id c.args.number)) c.self.view_is
    (no_field c.self.inside.parts.types.items c.args.id.index c.args.number (no_type_found c.self.inside.parts.types.items c.deref.result.now c.args.id.index c.deref.ensures.value c.in-None.ensures.lookup.0))
