use Rattle.std.proofs.Common.{◌≡◌, filter, map, rules, refl, ap, ◌∙◌}
use Rattle.std.proofs.lemmas.Result.{err_from_is_err_and}
use Rattle.std.specs.String.{string_bytes}
use Rattle.pg_dyn.specs.message.Kept.{message_of}
use Rattle.pg_set.specs.stated.SetMessages.{children_at}
use Rattle.pg_set.specs.stated.TypeMessages.{is_entry}
use Rattle.pg_set.proofs.lemmas.outline.OutlinedNames.{entries_fail, members_fail, own_added, own_fails}
use Rattle.pg_set.proofs.reading.outline.declare_type.Goals as goal

pub returns-in_err-declare-clause-refused : goal.returns-in_err-declare-clause-refused
returns-in_err-declare-clause-refused c =
    let m = message_of c.args.message.now in
    let full = c.args.full.now in
    let named : string_bytes c.in_ok-name.name ≡ full = search rules in
    let p = err_from_is_err_and c.from_residual-in_err-declare.result c.from_residual-in_err-declare.ensures.1 in
    rw (p.1, p.2) (λ oneofs. own_fails full c.args.id.index m (string_bytes c.in_ok-name.name) named c.args.names.now _ (c.in_err-declare.ensures.refused refl))

pub returns-in_err-declare_members-clause-refused : goal.returns-in_err-declare_members-clause-refused
returns-in_err-declare_members-clause-refused c =
    let m = message_of c.args.message.now in
    let full = c.args.full.now in
    let named : string_bytes c.in_ok-name.name ≡ full = search rules in
    let p = err_from_is_err_and c.from_residual-in_err-declare_members.result c.from_residual-in_err-declare_members.ensures.1 in
    rw (p.1, p.2) (λ oneofs. members_fail full c.args.id.index m (string_bytes c.in_ok-name.name) named c.args.names.now c.declare.new.names c.in_ok-declare.ensures.adds _ (c.in_err-declare_members.ensures.refused oneofs))

pub returns-in_err-declare_each-clause-refused : goal.returns-in_err-declare_each-clause-refused
returns-in_err-declare_each-clause-refused c =
    let m = message_of c.args.message.now in
    let full = c.args.full.now in
    let named : string_bytes c.in_ok-name.name ≡ full = search rules in
    let found = map message_of c.as_slice-entries.result.now in
    let all : found ≡ filter is_entry (children_at 3 m) =
    ap (λ ms. map message_of ms) c.as_slice-entries.ensures.value ∙ (c.in_ok-found.ensures ∙ ap (filter is_entry) (ap (λ ms. map message_of ms) c.as_slice.ensures.value ∙ c.in_ok-inside.ensures)) in
    let p = err_from_is_err_and c.from_residual-in_err-declare_each.result c.from_residual-in_err-declare_each.ensures.1 in
    rw (p.1, p.2) (λ oneofs. entries_fail full c.args.id.index m (string_bytes c.in_ok-name.name) named c.args.names.now c.declare.new.names c.in_ok-declare.ensures.adds
    c.declare_members.new.names c.in_ok-declare_members.ensures.adds found all _ (c.in_err-declare_each.ensures.refused refl))

pub returns-clause-adds : goal.returns-clause-adds
returns-clause-adds c =
    let m = message_of c.args.message.now in
    let full = c.args.full.now in
    let named : string_bytes c.in_ok-name.name ≡ full = search rules in
    let found = map message_of c.as_slice-entries.result.now in
    let all : found ≡ filter is_entry (children_at 3 m) =
    ap (λ ms. map message_of ms) c.as_slice-entries.ensures.value ∙ (c.in_ok-found.ensures ∙ ap (filter is_entry) (ap (λ ms. map message_of ms) c.as_slice.ensures.value ∙ c.in_ok-inside.ensures)) in
    own_added full c.args.id.index m (string_bytes c.in_ok-name.name) named c.args.names.now c.declare.new.names c.in_ok-declare.ensures.adds c.declare_members.new.names
    c.in_ok-declare_members.ensures.adds found all c.declare_each.new.names c.in_ok-declare_each.ensures.adds
