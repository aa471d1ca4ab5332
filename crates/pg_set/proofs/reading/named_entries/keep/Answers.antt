use Rattle.std.proofs.Common.{◌≡◌, Some, cond, is_some, not, ap, sym, ◌∙◌}
use Rattle.std.proofs.lemmas.Map.Text.{btree_map_updates_text}
use Rattle.std.specs.BTreeMap.{get_by_text}
use Rattle.std.specs.Str.{bytes_eq}
use Rattle.std.specs.String.{string_bytes}
use Rattle.pg_set.proofs.lemmas.reading.KeptOnce.{some_copied, twice_not}
use Rattle.pg_set.proofs.reading.named_entries.keep.Goals as goal

pub returns : goal.returns
returns c = λ name.
    let key = string_bytes c.args.entry in
    let old = c.args.once.now in
    let there : is_some (get_by_text old key) ≡ not c.is_none-is_first.result =
    ap (λ k. is_some (get_by_text old k)) (sym c.as_str.ensures.value) ∙ (ap is_some (sym c.get.ensures.value) ∙ (some_copied c.get.result ∙ c.is_none-is_first.ensures)) in
    btree_map_updates_text key old c.insert.new.self (Some c.is_none-is_first.result) c.in_ok-insert.ensures.updates name
    ∙ ap (λ b. cond (bytes_eq key name) (Some b) (get_by_text old name)) (twice_not c.is_none-is_first.result ∙ ap not (sym there))
