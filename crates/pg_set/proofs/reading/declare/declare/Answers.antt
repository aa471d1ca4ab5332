use Rattle.std.proofs.Common.{◌≡◌, Some, None, sym, ap, ◌∙◌}
use Rattle.std.proofs.lemmas.Map.Text.{hash_map_updates_text}
use Rattle.std.specs.HashMap.{get_by_text}
use Rattle.std.specs.String.{string_bytes}
use Rattle.pg_set.specs.inner.Declarations.{is_package, may_be}
use Rattle.pg_set.proofs.lemmas.outline.Declaring.{adds_one, no_package_behind, one_fails}
use Rattle.pg_set.proofs.reading.declare.declare.Goals as goal

pub returns-in-None : goal.returns-in-None
returns-in-None c =
    let key = string_bytes c.args.name in
    let none : get_by_text c.args.names.now key ≡ None = sym c.in_ok-insert.ensures.old ∙ c.in-None.is in
    let step = hash_map_updates_text key c.args.names.now c.insert.new.self (Some c.args.named) c.in_ok-insert.ensures.updates in
    record {
      adds = adds_one key c.args.named c.args.names.now c.insert.new.self step (ap (λ o. may_be o c.args.named) none);
      refused = tt;
    }

pub returns-in-Some-clause-refused : goal.returns-in-Some-clause-refused
returns-in-Some-clause-refused c = λ other.
    one_fails (string_bytes c.args.name) c.in-Some.field-0 c.args.named c.args.names.now _ (sym c.in_ok-insert.ensures.old ∙ c.in-Some.is)
    (no_package_behind (is_package c.in-Some.field-0) (is_package c.args.named) other)
