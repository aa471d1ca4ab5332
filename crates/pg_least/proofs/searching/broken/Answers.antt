use Rattle.std.proofs.Common.{◌≤◌, subst, sym}
use Rattle.pg_schema.specs.Parts.{shape_of}
use Rattle.pg_pairs.specs.graph.GraphView.{seen}
use Rattle.pg_cert.specs.Certificate.{bound_in}
use Rattle.pg_least.specs.Searched.{IsSearched, CarriesWitness}
use Rattle.pg_least.proofs.Claims.{bytes_length, carried_some, never_empty, one_at_least, searched_some}
use Rattle.pg_least.proofs.Descents.{number_there}
use Rattle.pg_least.proofs.searching.broken.Goals as goal

pub unreachable-requires : goal.unreachable-requires
unreachable-requires c =
    let enum_view = seen c.args.graph.now in
    let old = shape_of c.args.graph.now.old.now in
    let new = shape_of c.args.graph.now.new.now in
    let (n, number) = number_there (bound_in c.args.bounds) c.args.root c.requires.number in
    let long =
    bytes_length enum_view old new c.sees.ensures c.parts.ensures.checked.shape c.parts-2.ensures.checked.shape c.exact_is_least.ensures c.none_is_compatible.ensures c.args.graph.now.view c.args.root c.args.bounds c.requires.table
    c.in_ok-message.message c.in_ok-message.ensures.type_is n number (c.in_ok-message.ensures.reached n number) c.in_ok-bytes.bytes.items c.in_ok-bytes.ensures in
    never_empty c.in_ok-bytes.bytes.items (subst (λ k. 1 ≤ k) (sym long) (one_at_least c.args.bounds c.args.root n c.len.ensures.checked number)) c.in-Err.ensures.empty

pub returns-clause-searched : goal.returns-clause-searched
returns-clause-searched c =
    let enum_view = seen c.args.graph.now in
    let old = shape_of c.args.graph.now.old.now in
    let new = shape_of c.args.graph.now.new.now in
    let (n, number) = number_there (bound_in c.args.bounds) c.args.root c.requires.number in
    subst (IsSearched enum_view old new c.args.root) (sym c.in-Ok.ensures.claim)
    (searched_some enum_view old new c.sees.ensures c.parts.ensures.checked.shape c.parts-2.ensures.checked.shape c.exact_is_least.ensures c.none_is_compatible.ensures _ c.args.root c.args.bounds c.requires.table
    c.in_ok-message.message c.in_ok-message.ensures.type_is n number (c.in_ok-message.ensures.reached n number) c.in_ok-bytes.bytes.items c.in_ok-bytes.ensures)

pub returns-clause-carried : goal.returns-clause-carried
returns-clause-carried c =
    let enum_view = seen c.args.graph.now in
    let old = shape_of c.args.graph.now.old.now in
    let new = shape_of c.args.graph.now.new.now in
    let (n, number) = number_there (bound_in c.args.bounds) c.args.root c.requires.number in
    subst (CarriesWitness enum_view old new) (sym c.in-Ok.ensures.claim)
    (carried_some enum_view old new c.sees.ensures c.parts.ensures.checked.shape c.parts-2.ensures.checked.shape c.exact_is_least.ensures c.none_is_compatible.ensures c.args.graph.now.view c.args.root c.args.bounds c.requires.table
    c.in_ok-message.message c.in_ok-message.ensures.type_is n number (c.in_ok-message.ensures.reached n number) c.in_ok-bytes.bytes.items c.in_ok-bytes.ensures c.in_ok-message.ensures.along)
