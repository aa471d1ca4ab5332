use Rattle.std.proofs.Common.{◌≡◌, ◌∷◌, [], map, false, is_some, inl, inr, refl, ap, sym, subst, ◌∙◌}
use Rattle.std.proofs.lemmas.List.{map-append}
use Rattle.std.proofs.lemmas.Result.{err_from_is_err_and}
use Rattle.pg_schema.specs.declared.parts.field.Element.TheVariants as elements
use Rattle.pg_schema.specs.declared.parts.field.Scalar.{Scalar}
use Rattle.pg_wire.specs.Reads.{seen_record}
use Rattle.pg_dyn.specs.reading.ByFields.{StopsFor}
use Rattle.pg_dyn.specs.word.Coding.{leaf_in, scalar_form}
use Rattle.pg_dyn.specs.reading.Content.{key_field, takes, value_field}
use Rattle.pg_dyn.specs.reading.EntryParts.{ScalarsGood}
use Rattle.pg_dyn.specs.reading.EntrySteps.{IsMessageOf}
use Rattle.pg_dyn.specs.message_ref.BorrowedItems.{IsItemKept}
use Rattle.pg_dyn.proofs.lemmas.reading.by_fields.EntryByParts.{child_added, key_added, none_added, not_explicit, unreadable, value_added}
use Rattle.pg_dyn.proofs.lemmas.reading.FieldKinds.{no_message}
use Rattle.pg_dyn.proofs.lemmas.reading.faults.StopSteps.{handed_on, none_of_err, stops_for}
use Rattle.pg_dyn.proofs.reading.parts.Parts.add.Goals.{else-found-eq1-via-then-found-eq1+else-is_own, else-found-eq1-via-else-found-eq1, else-found-eq2-via-then-found-eq2+else-is_own-2, else-found-eq2-via-else-found-eq2}
use Rattle.pg_dyn.proofs.reading.parts.Parts.add.Goals as goal

pub returns-in_err-item_in-clause-err : goal.returns-in_err-item_in-clause-err
returns-in_err-item_in-clause-err c =
    let r = seen_record c.args.found in
    let (y, is, from) = err_from_is_err_and c.from_residual.result c.from_residual.ensures.1 in
    handed_on (StopsFor (ScalarsGood c.args.key c.args.element (r ∷ []))) c.from_residual.result _ y is from
    (stops_for _ (ScalarsGood c.args.key c.args.element (r ∷ []))
    (λ good. unreadable 1 (elements.Scalar c.args.key) r c.if-found-eq1.true
    (sym c.is_own.ensures ∙ c.if-is_own.true) good.key_good) c.in_err-item_in.field-0.0 c.in_err-item_in.ensures.err)

pub returns-in_err-item_in-2 : goal.returns-in_err-item_in-2
returns-in_err-item_in-2 c =
    let r = seen_record c.args.found in
    let none = no_message c.args.element c.in_default.not-Message in
    let (y, is, from) = err_from_is_err_and c.from_residual-in_err-item_in-2.result c.from_residual-in_err-item_in-2.ensures.1 in
    record {
      ok = none_of_err _ c.from_residual-in_err-item_in-2.result y is;
      err = handed_on (StopsFor (ScalarsGood c.args.key c.args.element (r ∷ []))) c.from_residual-in_err-item_in-2.result _ y is from
          (stops_for _ (ScalarsGood c.args.key c.args.element (r ∷ []))
          (λ good. ap (λ (s : Scalar). is_some (leaf_in (scalar_form s) r.body)) c.scalar_of.ensures
          ∙ unreadable 2 c.args.element r c.if-found-eq2.true (sym c.is_own-then-found-eq2.ensures ∙ c.if-is_own-2.true)
          (good.value_good none)) c.in_err-item_in-2.field-0.0 c.in_err-item_in-2.ensures.err);
    }

pub returns-in_ok-item_in-clause-ok : goal.returns-in_ok-item_in-clause-ok
returns-in_ok-item_in-clause-ok c =
    λ rs h. key_added c.args.key c.args.element rs (seen_record c.args.found) c.args.self.now _ h c.in_ok-item_in.field-0 c.if-found-eq1.true
    (sym c.is_own.ensures ∙ c.if-is_own.true) c.in_ok-item_in.ensures.ok.0 c.in_ok-item_in.ensures.ok.1 refl refl refl

pub returns-in_ok-push-clause-ok : goal.returns-in_ok-push-clause-ok
returns-in_ok-push-clause-ok c =
    λ rs h. child_added c.args.key c.args.element rs (seen_record c.args.found) c.args.self.now _ h
    (subst IsMessageOf (sym c.in-Message.is) tt) c.if-found-eq2.true (sym c.is_own-then-found-eq2.ensures ∙ c.if-is_own-2.true) refl
    (ap (map seen_record) c.in_ok-push.ensures.items ∙ map-append seen_record c.args.self.now.child.items (c.args.found ∷ []))

pub returns-in_ok-item_in-2 : goal.returns-in_ok-item_in-2
returns-in_ok-item_in-2 c = record {
  ok =
      λ rs h. value_added c.args.key c.args.element rs (seen_record c.args.found) c.args.self.now _ h c.in_ok-item_in-2.field-0
      (no_message c.args.element c.in_default.not-Message) c.if-found-eq2.true (sym c.is_own-then-found-eq2.ensures ∙ c.if-is_own-2.true)
      (ap (λ (s : Scalar). leaf_in (scalar_form s) (seen_record c.args.found).body) (sym c.scalar_of.ensures) ∙ c.in_ok-item_in-2.ensures.ok.0)
      (subst (λ (s : Scalar). IsItemKept s c.in_ok-item_in-2.field-0) c.scalar_of.ensures c.in_ok-item_in-2.ensures.ok.1) refl refl;
  err = tt;
}

pub returns-else-found-eq2-clause-ok : goal.returns-else-found-eq2-clause-ok
returns-else-found-eq2-clause-ok c =
    let r = seen_record c.args.found in
    let no_key : takes (key_field c.args.key) r ≡ false =
    elim c.else-found-eq1.branch as (λ b. takes (key_field c.args.key) r ≡ false) [
      | else-found-eq1-via-then-found-eq1+else-is_own w ↦ not_explicit 1 (elements.Scalar c.args.key) r (inr (sym w.is_own.ensures ∙ w.if-is_own.false))
      | else-found-eq1-via-else-found-eq1 w ↦ not_explicit 1 (elements.Scalar c.args.key) r (inl w.if-found-eq1.false)
    ] in
    let no_value : takes (value_field c.args.element) r ≡ false =
    elim c.else-found-eq2.branch as (λ b. takes (value_field c.args.element) r ≡ false) [
      | else-found-eq2-via-then-found-eq2+else-is_own-2 w ↦ not_explicit 2 c.args.element r (inr (sym w.is_own-then-found-eq2.ensures ∙ w.if-is_own-2.false))
      | else-found-eq2-via-else-found-eq2 w ↦ not_explicit 2 c.args.element r (inl w.if-found-eq2.false)
    ] in
    λ rs h. none_added c.args.key c.args.element rs r c.args.self.now c.args.self.now h no_key no_value
