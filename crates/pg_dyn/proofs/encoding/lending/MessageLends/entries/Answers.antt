use Rattle.std.proofs.Common.{◌≡◌, [], map, sym, ap, ⊎_elim, ◌∙◌}
use Rattle.pg_dyn.specs.declared.message.Value.{Value}
use Rattle.pg_dyn.specs.encoding.Lending.{entry_part, owned_item}
use Rattle.pg_dyn.proofs.lemmas.encoding.LentParts.{owned_entries, owned_entries_are}
use Rattle.pg_dyn.proofs.encoding.lending.MessageLends.entries.Goals as goal

pub returns-in-One : goal.returns-in-One
returns-in-One c = λ n keyed.
    let none : owned_entries c.args.content.now ≡ [] = ⊎_elim (λ k. ap owned_entries k.1) (λ k. ap owned_entries k.1) c.in-One.is in
    owned_entries_are n c.args.content.now keyed ∙ ap (map (entry_part owned_item (λ (x : Value × Value). x.0) (λ (x : Value × Value). x.1) n)) none

pub returns-in-Map : goal.returns-in-Map
returns-in-Map c = λ n keyed. owned_entries_are n c.args.content.now keyed ∙ ap (map (entry_part owned_item (λ (x : Value × Value). x.0) (λ (x : Value × Value). x.1) n)) (ap owned_entries c.in-Map.is ∙ sym c.deref.ensures.value)
