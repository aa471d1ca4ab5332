-- The sibling of a number is the field that is found there.
use Rattle.std.proofs.Common.{sym, ◌∙◌}
use Rattle.pg_schema.specs.Parts.{field_shape, shape_of}
use Rattle.pg_schema.specs.Shape.{fields}
use Rattle.pg_dyn.proofs.lemmas.reading.TypeFields.{rising}
use Rattle.pg_dyn.proofs.lemmas.setting.WithoutSiblings.{sibling_found, sibling_nowhere}
use Rattle.pg_dyn.proofs.setting.oneof_siblings.is_sibling.Goals as goal

pub returns-in-Some : goal.returns-in-Some
returns-in-Some c =
    let f = field_shape c.args.field.now in
    let g = field_shape c.in-Some.other.now in
    c.is_other_member.ensures ∙ sym (sibling_found (fields (shape_of c.args.schema.now) c.args.type_id) f g c.args.number (rising c.args.schema.now c.parts.ensures.checked c.args.type_id) (sym c.in-Some.ensures.shape))

pub returns-in-None : goal.returns-in-None
returns-in-None c = sym (sibling_nowhere (fields (shape_of c.args.schema.now) c.args.type_id) (field_shape c.args.field.now) c.args.number (sym c.in-None.ensures.shape))
