use Rattle.std.proofs.Common.{IfSome, subst}
use Rattle.pg_schema.specs.declared.parts.field.Presence.TheVariants as presences
use Rattle.pg_dyn.specs.fitting.ScalarItems.{IsItemOf}
use Rattle.pg_pairs.specs.witness.Carried.{key_of}
use Rattle.pg_pairs.specs.inner.CarriedItems.{IsTakenBy}
use Rattle.pg_pairs.proofs.lemmas.witness.TakenItems.{if_ok_map}
use Rattle.pg_pairs.proofs.witness.content.broken_entry.Goals as goal

pub returns-in_ok-gap_item-in-1-clause-taken : goal.returns-in_ok-gap_item-in-1-clause-taken
returns-in_ok-gap_item-in-1-clause-taken c =
    if_ok_map c.key_content.result (λ found h. λ shape element child.
    h shape (key_of c.args.fields.now.old.now.presence) element (subst (λ s. IfSome c.in_ok-gap_item-in-1.field-0 (IsItemOf s)) c.key_of.ensures (c.in_ok-gap_item-in-1.ensures.fits shape)))
    c.key_content.ensures.taken

pub returns-in_ok-apart_content-in_default-clause-taken : goal.returns-in_ok-apart_content-in_default-clause-taken
returns-in_ok-apart_content-in_default-clause-taken c = λ shape element child.
    subst (λ s. IsTakenBy shape (presences.Map s) c.args.fields.now.old.now.element c.in_ok-apart_content-in_default.field-0) c.key_of.ensures (c.in_ok-apart_content-in_default.ensures.taken shape element)
