use Rattle.std.proofs.Common.{sym, rules}
use Rattle.std.proofs.lemmas.Bool.{MatchBool-at_true}
use Rattle.std.proofs.lemmas.Fn.{always_returns_same}
use Rattle.std.proofs.lemmas.List.Sorted.{IsNonDecreasingBy-from_all_adjacent}
use Rattle.std.proofs.lemmas.Map.Keys.{le_from_is_le}
use Rattle.pg_schema.specs.declared.parts.enum_type.EnumValue.{EnumValue}
use Rattle.pg_pairs.specs.views.LeastNumbers.{number_word}
use Rattle.pg_pairs.proofs.views.names.rise_by_word.Goals as goal

pub returns : goal.returns
returns c rise =
    let word = λ (y : EnumValue). number_word y.number in
    let told = c.is_sorted_by_key.ensures.cases word (always_returns_same _ _ _ (λ a r f h. search rules)) in
    IsNonDecreasingBy-from_all_adjacent word c.args.values.now
    (λ k d h. le_from_is_le _ _ (sym (MatchBool-at_true _ _ rise told k d h)))
