use Rattle.std.proofs.Common.{◌++◌, not, sym, ap, ◌∙◌}
use Rattle.std.specs.List.{list_all}
use Rattle.std.specs.String.{string_bytes}
use Rattle.pg_set.specs.stated.SetNames.{is_dot_or_backslash}
use Rattle.pg_set.proofs.lemmas.outline.Escaped.{plain_escaped}
use Rattle.pg_set.proofs.reading.set_names.push_quoted.Goals as goal

pub returns-then-are_plain : goal.returns-then-are_plain
returns-then-are_plain c =
    let plain = ap (list_all (λ b. not (is_dot_or_backslash b))) (sym c.as_bytes.ensures.value) ∙ (sym c.are_plain.ensures ∙ c.if-are_plain.true) in
    c.in_ok-push_str.ensures.bytes ∙ ap (λ bs. string_bytes c.args.full.now ++ bs) (sym (plain_escaped is_dot_or_backslash c.args.name.now plain))
