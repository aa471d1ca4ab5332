use Rattle.std.proofs.Common.{rules}
use Rattle.std.proofs.lemmas.List.Sorted.{IsNonDecreasingBy-from_sort_by_key, IsPermutation-map}
use Rattle.pg_schema.specs.declared.parts.options.FileOption.{FileOption}
use Rattle.pg_check.specs.parts.MadeFiles.{file_option}
use Rattle.pg_check.proofs.parts.made_file.by_number.Goals as goal

pub returns : goal.returns
returns c =
    let sorted = c.sort_by_key.new.self.items in
    record {
      same = IsPermutation-map file_option c.args.options.items sorted c.sort_by_key.ensures.permutation;
      by_number = IsNonDecreasingBy-from_sort_by_key (λ (o : FileOption). o.number) sorted c.in_ok-sort_by_key.ensures.sorted (λ a r q k. search rules);
    }
