use Rattle.std.proofs.Common.{◌∙◌, slice_get, ap, sym}
use Rattle.std.specs.Option.{option_and_then}
use Rattle.std.specs.Str.{bytes_eq}
use Rattle.pg_notes.proofs.Places.{found_at}
use Rattle.pg_notes.proofs.tables.item_named.Goals as goal

pub returns-in-Some : goal.returns-in-Some
returns-in-Some g c =
    let name = c.args.name.now in
    let items = c.args.items.now in
    c.item_at.ensures ∙ (ap (option_and_then (slice_get items)) (sym c.in-Some.is ∙ (c.place_in.ensures ∙ c.requires name))
    ∙ sym (found_at (λ (item : _). bytes_eq name (g.T.Named.name_of item)) items))

pub returns-in-None : goal.returns-in-None
returns-in-None g c =
    let name = c.args.name.now in
    let items = c.args.items.now in
    ap (option_and_then (slice_get items)) (sym c.in-None.is ∙ (c.place_in.ensures ∙ c.requires name))
    ∙ sym (found_at (λ (item : _). bytes_eq name (g.T.Named.name_of item)) items)
