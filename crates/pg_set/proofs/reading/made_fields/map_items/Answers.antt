use Rattle.std.proofs.Common.{◌≡◌, None, Some, true, ap, inr, option_map, sym, ◌∙◌}
use Rattle.std.specs.Option.{option_copied}
use Rattle.pg_schema.specs.rules.DeclaredNames.{entry_name}
use Rattle.pg_dyn.specs.message.Kept.{message_of}
use Rattle.pg_set.specs.inner.reading.Owners.{means_of, message_in, owner_of}
use Rattle.pg_set.specs.stated.SetMessages.{text_at}
use Rattle.pg_set.specs.stated.StatedFields.{names_its_entry}
use Rattle.pg_set.proofs.lemmas.reading.FieldSteps.{map_there, no_entry_type, no_form}
use Rattle.pg_set.proofs.reading.made_fields.map_items.Goals as goal

pub returns-in_default-clause-refused : goal.returns-in_default-clause-refused
returns-in_default-clause-refused c =
    let s = c.args.scope.now in
    let m = message_of c.args.message.now in
    let name : c.as_str.result.now ≡ entry_name (text_at 1 m) = c.as_str.ensures.value ∙ (c.in_ok-own.ensures ∙ ap entry_name c.text.ensures) in
    let names : names_its_entry (owner_of s) m ≡ true = sym c.in_ok-names_its_entry.ensures ∙ c.in_ok-ensure.ensures.ok in
    let none : message_in s.entries (entry_name (text_at 1 m)) ≡ None =
    ap (message_in s.entries) (sym name) ∙ ap (option_map message_of) (sym c.get.ensures.value ∙ ap option_copied c.in_default.is) in
    inr (no_entry_type (means_of s.names.now) (owner_of s) m names none)

pub returns-in_default-2-clause-refused : goal.returns-in_default-2-clause-refused
returns-in_default-2-clause-refused c =
    let s = c.args.scope.now in
    let m = message_of c.args.message.now in
    let e = message_of c.in-Some.entry_type.now in
    let name : c.as_str.result.now ≡ entry_name (text_at 1 m) = c.as_str.ensures.value ∙ (c.in_ok-own.ensures ∙ ap entry_name c.text.ensures) in
    let names : names_its_entry (owner_of s) m ≡ true = sym c.in_ok-names_its_entry.ensures ∙ c.in_ok-ensure.ensures.ok in
    let found : message_in s.entries (entry_name (text_at 1 m)) ≡ Some e =
    ap (message_in s.entries) (sym name) ∙ ap (option_map message_of) (sym c.get.ensures.value ∙ ap option_copied c.in-Some.is) in
    inr (no_form (means_of s.names.now) (owner_of s) m e names found (sym c.in_ok-key.ensures ∙ c.in_default-2.is))

pub returns-clause-made : goal.returns-clause-made
returns-clause-made c =
    let s = c.args.scope.now in
    let m = message_of c.args.message.now in
    let e = message_of c.in-Some.entry_type.now in
    let name : c.as_str.result.now ≡ entry_name (text_at 1 m) = c.as_str.ensures.value ∙ (c.in_ok-own.ensures ∙ ap entry_name c.text.ensures) in
    let names : names_its_entry (owner_of s) m ≡ true = sym c.in_ok-names_its_entry.ensures ∙ c.in_ok-ensure.ensures.ok in
    let found : message_in s.entries (entry_name (text_at 1 m)) ≡ Some e =
    ap (message_in s.entries) (sym name) ∙ ap (option_map message_of) (sym c.get.ensures.value ∙ ap option_copied c.in-Some.is) in
    map_there (means_of s.names.now) (owner_of s) m e (c.in-Some-2.key, c.in-Some-2.value) names found (sym c.in_ok-key.ensures ∙ c.in-Some-2.is)
