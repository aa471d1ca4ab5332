use Rattle.std.proofs.Common.{not, ℕ, rules}
use Rattle.std.proofs.lemmas.Fn.{filter_same}
use Rattle.pg_schema.specs.Parts.{field_shape, shape_of}
use Rattle.pg_schema.specs.Shape.{fields}
use Rattle.pg_dyn.specs.declared.message.Content.{Content}
use Rattle.pg_dyn.specs.message.Replacing.{is_sibling_number}
use Rattle.pg_dyn.proofs.setting.oneof_siblings.clear_other_members.Goals as goal

pub returns : goal.returns
returns c =
    filter_same _ (λ (x : ℕ × Content). not (is_sibling_number (fields (shape_of c.args.schema.now) c.args.type_id) (field_shape c.args.field.now) x.0)) _ (λ x b q k. search rules) _ _ c.retain.ensures.filtered
