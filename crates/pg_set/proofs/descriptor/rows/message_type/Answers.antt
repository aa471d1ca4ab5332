use Rattle.std.proofs.Common.{map, refl, ap, ◌∙◌}
use Rattle.std.specs.String.{string_bytes}
use Rattle.pg_schema.specs.declared.parts.field.Field.{Field}
use Rattle.pg_set.proofs.lemmas.lists.ViewLaws.{same_type}
use Rattle.pg_set.proofs.lemmas.descriptor.SeenRules.{numbers_seen}
use Rattle.pg_set.proofs.descriptor.rows.message_type.Goals as goal

pub returns : goal.returns
returns c =
    let declared = c.in_ok-numbers.ensures ∙ ap (map (λ (f : Field). f.number)) c.deref.ensures.value in
    same_type c.in_ok-from_str.ensures.ok c.in_ok-fields.ensures (numbers_seen _ _ _ declared c.in_ok-fields.ensures)
    (ap (map string_bytes) c.new.ensures.items)
    c.in_ok-from_slice.ensures.items c.in_ok-from_slice-2.ensures.items c.new-2.ensures.items (ap (map string_bytes) c.new-3.ensures.items) refl
