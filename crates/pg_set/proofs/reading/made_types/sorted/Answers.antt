use Rattle.std.proofs.Common.{rules}
use Rattle.std.proofs.lemmas.List.Sorted.{IsNonDecreasingBy-from_sort_by_key, answers_always, length_permutation}
use Rattle.pg_schema.specs.declared.parts.field.Field.{Field}
use Rattle.pg_set.proofs.lemmas.reading.SortedFields.{sorted_fields}
use Rattle.pg_set.proofs.reading.made_types.sorted.Goals as goal

pub returns : goal.returns
returns c =
    sorted_fields c.args.fields.items c.sort_by_key.new.self.items (length_permutation _ _ c.in_ok-sort_by_key.ensures.permutation)
    (IsNonDecreasingBy-from_sort_by_key (λ (f : Field). f.number) c.sort_by_key.new.self.items c.in_ok-sort_by_key.ensures.sorted (λ a r q k. search rules))
    (c.in_ok-sort_by_key.ensures.stable (λ (f : Field). f.number) (answers_always _ _ _ (λ f a r g h. search rules)))
