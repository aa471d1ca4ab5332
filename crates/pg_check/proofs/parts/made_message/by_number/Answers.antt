use Rattle.std.proofs.Common.{rules}
use Rattle.std.proofs.lemmas.List.Sorted.{IsNonDecreasingBy-from_sort_by_key, IsPermutation-map}
use Rattle.pg_schema.specs.declared.parts.field.Field.{Field}
use Rattle.pg_check.specs.parts.MadeFields.{field}
use Rattle.pg_check.proofs.parts.made_message.by_number.Goals as goal

pub returns : goal.returns
returns c =
    let sorted = c.sort_by_key.new.self.items in
    record {
      same = IsPermutation-map field c.args.fields.items sorted c.sort_by_key.ensures.permutation;
      by_number = IsNonDecreasingBy-from_sort_by_key (λ (f : Field). f.number) sorted (c.in_ok-sort_by_key.ensures.sorted) (λ a r q k. search rules);
    }
