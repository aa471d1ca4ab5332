use Rattle.std.proofs.Common.{◌≡◌, ◌++◌, None, map, slice_get, arith, sym, subst}
use Rattle.std.specs.String.{string_bytes}
use Rattle.std.proofs.lemmas.Bool.Decides.{nat_tests}
use Rattle.std.proofs.lemmas.List.{append-nil}
use Rattle.std.proofs.lemmas.Option.{slice_get_past}
use Rattle.pg_schema.specs.rules.DeclaredNames.{values_of, within}
use Rattle.pg_schema.proofs.rules.declared_names.push_values_of.Goals as goal

pub returns-in-None : goal.returns-in-None
returns-in-None c =
    let none : slice_get c.args.enums.now c.args.id.index ≡ None = slice_get_past c.args.enums.now c.args.id.index (let past = c.in-None.ensures.lookup.0 in grind (arith, nat_tests)) in
    subst (λ o. map string_bytes c.args.names.now.items ≡ map string_bytes c.args.names.now.items ++ map (within c.args.scope.now) (values_of o)) (sym none)
    (sym (append-nil (map string_bytes c.args.names.now.items)))
