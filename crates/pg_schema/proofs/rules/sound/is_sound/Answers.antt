use Rattle.std.proofs.Common.{◌≡◌, true, sym, ◌∙◌}
use Rattle.pg_schema.specs.inner.Checks.{keep_rules}
use Rattle.pg_schema.proofs.lemmas.rules.PairLemmas.{and_left}
use Rattle.pg_schema.proofs.rules.sound.is_sound.Goals as goal

pub are_named_apart-requires : goal.are_named_apart-requires
are_named_apart-requires c =
    let rules : keep_rules c.args.parts.now ≡ true = sym c.in_ok-keep_rules.ensures ∙ c.if-not-branch.false in
    and_left _ _ (and_left _ _ (and_left _ _ rules))
