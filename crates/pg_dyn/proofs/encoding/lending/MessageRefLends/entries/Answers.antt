use Rattle.std.proofs.Common.{◌≡◌, [], map, sym, ap, ⊎_elim, ◌∙◌}
use Rattle.pg_dyn.specs.declared.message_ref.EntryRef.{EntryRef}
use Rattle.pg_dyn.specs.encoding.Lending.{entry_part, lent_item}
use Rattle.pg_dyn.proofs.lemmas.encoding.LentParts.{lent_entries, lent_entries_are}
use Rattle.pg_dyn.proofs.encoding.lending.MessageRefLends.entries.Goals as goal

pub returns-in-One : goal.returns-in-One
returns-in-One c = λ n keyed.
    let none : lent_entries c.args.content.now ≡ [] = ⊎_elim (λ k. ap lent_entries k.1) (λ more. ⊎_elim (λ k. ap lent_entries k.1) (λ k. ap lent_entries k.1) more) c.in-One.is in
    lent_entries_are n c.args.content.now keyed ∙ ap (map (entry_part lent_item (λ (x : EntryRef). x.key) (λ (x : EntryRef). x.value) n)) none

pub returns-in-Map : goal.returns-in-Map
returns-in-Map c = λ n keyed. lent_entries_are n c.args.content.now keyed ∙ ap (map (entry_part lent_item (λ (x : EntryRef). x.key) (λ (x : EntryRef). x.value) n)) (ap lent_entries c.in-Map.is ∙ sym c.deref.ensures.value)
