use Rattle.std.proofs.Common.{◌≡◌, true, sym, ◌∙◌, ap}
use Rattle.std.specs.List.{list_all}
use Rattle.pg_schema.specs.rules.Uses.{is_reserved_range}
use Rattle.pg_schema.specs.inner.Steps.{is_whole}
use Rattle.pg_schema.proofs.lemmas.rules.UseLemmas.{message_whole}
use Rattle.pg_schema.proofs.rules.messages.has_reserved.Goals as goal

pub is_used_once-requires : goal.is_used_once-requires
is_used_once-requires c =
    let same = c.deref-3.ensures.value ∙ sym c.deref.ensures.value in
    let ranges : list_all is_reserved_range c.deref-3.result.now ≡ true = ap (list_all is_reserved_range) same ∙ (sym c.are_reserved_ranges.ensures ∙ c.if-not-are_reserved_ranges.false) in
    ap (list_all is_whole) c.in_ok-uses.ensures ∙ message_whole c.deref-2.result.now c.deref-3.result.now ranges
