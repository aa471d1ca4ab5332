use Rattle.std.proofs.Common.{◌&&◌, SFits, length, to_z, of_z, w32, ap, sym, ◌∙◌, rules}
use Rattle.std.specs.Ordering.{int_eq}
use Rattle.std.specs.Str.{bytes_eq}
use Rattle.std.specs.String.{string_bytes}
use Rattle.std.proofs.lemmas.Bool.{ltb-true}
use Rattle.std.proofs.lemmas.Int.{to_z-of_z}
use Rattle.pg_pairs.proofs.lemmas.views.FoundValues.{not_missing}
use Rattle.pg_pairs.proofs.views.names.is_at.Goals as goal

pub returns-in-Some : goal.returns-in-Some
returns-in-Some c told =
    let o = c.in-Some.other.now in
    let v = c.args.value.now in
    let fits : SFits w32 v.number = search rules in
    not_missing c.args.others.now c.args.index o v (ltb-true c.args.index (length c.args.others.now) (sym c.in-Some.ensures.lookup.0)) c.in-Some.ensures.lookup.1
    (ap (λ n. int_eq o.number n && bytes_eq (string_bytes o.name) (string_bytes v.name)) (sym (to_z-of_z w32 v.number fits))
    ∙ ap (λ name. int_eq o.number (to_z w32 (of_z w32 v.number)) && bytes_eq (string_bytes o.name) name) (sym c.deref.ensures) ∙ sym c.is_named.ensures ∙ told)
