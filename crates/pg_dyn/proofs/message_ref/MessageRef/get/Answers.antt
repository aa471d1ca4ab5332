-- The index of the number is that of its field, or one where there is none of it.
use Rattle.std.proofs.Common.{◌≡◌, ◌<◌, ◌≢◌, ℕ, List, ◌∷◌, take, drop, length, map, sym, ap, subst, ◌∙◌, arith}
use Rattle.std.specs.List.{AllByRecursion}
use Rattle.pg_wire.specs.Reads.{seen_record}
use Rattle.pg_dyn.specs.declared.message_ref.ContentRef.{ContentRef}
use Rattle.pg_dyn.specs.message_ref.Borrowed.{HasKeys, IsFilled, content_seen}
use Rattle.pg_dyn.specs.message.KeptParts.{of_number, parts_of}
use Rattle.pg_dyn.specs.message.Kept.{type_of}
use Rattle.pg_dyn.specs.message.Message.{is_of}
use Rattle.pg_dyn.specs.fitting.PartsFit.{HoldsPart}
use Rattle.pg_dyn.proofs.lemmas.message_ref.BorrowedParts.{content_number}
use Rattle.pg_dyn.proofs.lemmas.message.FieldListLaws.{AllBelow, AllFrom, apart_past_end, apart_there, none_there}
use Rattle.pg_dyn.proofs.lemmas.message.KeptParts.{found_fact, found_field, of_number_none}
use Rattle.pg_dyn.proofs.Lists.{each_filtered}
use Rattle.pg_dyn.proofs.lemmas.fitting.PartsFit.{parts_hold}
use Rattle.pg_dyn.proofs.message_ref.MessageRef.get.Goals.{else-place-len-via-then-place-len+else-index-number, else-place-len-via-else-place-len}
use Rattle.pg_dyn.proofs.message_ref.MessageRef.get.Goals as goal
use Rattle.pg_dyn.proofs.lemmas.fitting.FitsSteps.{same_default}

pub returns-then-index-number-clause-content : goal.returns-then-index-number-clause-content
returns-then-index-number-clause-content c =
    let a = c.self.inside in
    let place = c.place_of-place.result in
    let inside : place < length a.fields.items = omega (arith, c.if-place-len.true, c.len.ensures, a.fields.ok.0) in
    ap (of_number c.args.number) (sym c.self.view_is)
    ∙ found_field content_seen content_number c.args.number a.fields.items place c.index-then-index-number.result.now a.type_id (map seen_record a.unknown.items) inside c.self.invariant.rises c.index-then-index-number.ensures
    (ap (λ (f : ℕ × ContentRef). f.0) (c.index-then-index-number.ensures ∙ same_default a.fields.items place c.index-then-index-number.result.now c.index.result.now inside ∙ sym c.index.ensures) ∙ c.if-index-number.true)

pub returns-then-index-number-clause-filled : goal.returns-then-index-number-clause-filled
returns-then-index-number-clause-filled c =
    let a = c.self.inside in
    let place = c.place_of-place.result in
    found_fact (λ f. IsFilled f.1) a.fields.items place c.index-then-index-number.result.now (omega (arith, c.if-place-len.true, c.len.ensures, a.fields.ok.0)) c.self.invariant.filled c.index-then-index-number.ensures

pub returns-then-index-number-clause-keys : goal.returns-then-index-number-clause-keys
returns-then-index-number-clause-keys c =
    let a = c.self.inside in
    let place = c.place_of-place.result in
    found_fact (λ f. HasKeys f.1) a.fields.items place c.index-then-index-number.result.now (omega (arith, c.if-place-len.true, c.len.ensures, a.fields.ok.0)) c.self.invariant.keys c.index-then-index-number.ensures

pub returns-then-index-number-clause-fits : goal.returns-then-index-number-clause-fits
returns-then-index-number-clause-fits c shape is_shape fits =
    let m = c.args.self.now in
    subst (AllByRecursion (HoldsPart shape (type_of c.args.self.now))) (returns-then-index-number-clause-content c)
    (each_filtered (HoldsPart shape (type_of m)) (is_of c.args.number) (parts_of m) (parts_hold shape m is_shape fits))

pub returns-clause-content : goal.returns-clause-content
returns-clause-content c =
    let a = c.self.inside in
    let fs = a.fields.items in
    let place = c.place_of-place.result in
    let low = subst (λ (xs : List (ℕ × ContentRef)). AllBelow c.args.number (take place xs)) c.deref.ensures.value c.place_of-place.ensures.below in
    let high = subst (λ (xs : List (ℕ × ContentRef)). AllFrom c.args.number (drop place xs)) c.deref.ensures.value c.place_of-place.ensures.from_there in
    let apart : (y : ℕ × ContentRef) (zs : List (ℕ × ContentRef)) → drop place fs ≡ y ∷ zs → y.0 ≢ c.args.number =
    elim c.else-place-len.branch as (λ b. (y : ℕ × ContentRef) (zs : List (ℕ × ContentRef)) → drop place fs ≡ y ∷ zs → y.0 ≢ c.args.number) [
      | else-place-len-via-then-place-len+else-index-number w ↦
          let inside : place < length fs = omega (arith, w.if-place-len.true, c.len.ensures, a.fields.ok.0) in
          apart_there fs place c.args.number w.index.result.now inside (λ e. w.if-index-number.false (ap (λ (f : ℕ × ContentRef). f.0) w.index.ensures ∙ e))
      | else-place-len-via-else-place-len w ↦
          apart_past_end fs place c.args.number (omega (arith, w.if-place-len.false, c.len.ensures, a.fields.ok.0))
    ] in
    ap (of_number c.args.number) (sym c.self.view_is)
    ∙ of_number_none content_seen content_number c.args.number fs a.type_id (map seen_record a.unknown.items) (none_there fs place c.args.number c.self.invariant.rises low high apart)
