use Rattle.std.proofs.Common.{◌≡◌, true, sym, ◌∙◌, ap}
use Rattle.std.specs.List.{list_all}
use Rattle.pg_schema.specs.rules.Uses.{is_value_range}
use Rattle.pg_schema.specs.inner.Steps.{is_whole}
use Rattle.pg_schema.proofs.lemmas.rules.UseLemmas.{enum_whole}
use Rattle.pg_schema.proofs.rules.enums.is_enum.Goals as goal

pub is_used_once-requires : goal.is_used_once-requires
is_used_once-requires c =
    let same = c.deref-6.ensures.value ∙ sym c.deref-else-not-are_values.ensures.value in
    let ranges : list_all is_value_range c.deref-6.result.now ≡ true = ap (list_all is_value_range) same ∙ (sym c.are_value_ranges.ensures ∙ c.if-not-are_value_ranges.false) in
    ap (list_all is_whole) c.in_ok-uses.ensures ∙ enum_whole c.deref-5.result.now c.deref-6.result.now ranges
