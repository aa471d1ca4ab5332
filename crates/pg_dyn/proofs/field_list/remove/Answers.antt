-- The index of the number is that of its field, or one where there is none of it.
use Rattle.std.proofs.Common.{◌≡◌, ◌<◌, ◌≢◌, ℕ, List, ◌∷◌, take, drop, length, ap, ◌∙◌, subst, arith}
use Rattle.pg_dyn.specs.declared.message.Content.{Content}
use Rattle.pg_dyn.proofs.lemmas.message.FieldListLaws.{AllBelow, AllFrom, removed_there, nothing_removed, apart_past_end, apart_there, number_at}
use Rattle.pg_dyn.proofs.field_list.remove.Goals.{else-place-len-via-then-place-len+else-index-number, else-place-len-via-else-place-len}
use Rattle.pg_dyn.proofs.field_list.remove.Goals as goal

pub returns-then-index-number : goal.returns-then-index-number
returns-then-index-number c =
    let fs = c.args.fields.now.items in
    let place = c.place_of-place.result in
    let low = subst (λ (xs : List (ℕ × Content)). AllBelow c.args.number (take place xs)) c.deref.ensures.value c.place_of-place.ensures.below in
    let high = subst (λ (xs : List (ℕ × Content)). AllFrom c.args.number (drop place xs)) c.deref.ensures.value c.place_of-place.ensures.from_there in
    let inside : place < length fs = omega (arith, c.if-place-len.true, c.len.ensures, c.args.fields.now.ok.0) in
    let d = c.index.result.now in
    let here = number_at fs place c.args.number d d inside c.index.ensures c.if-index-number.true in
    c.remove.ensures.items ∙ removed_there fs place c.args.number c.requires low high inside d here

pub returns-else-place-len : goal.returns-else-place-len
returns-else-place-len c =
    let fs = c.args.fields.now.items in
    let place = c.place_of-place.result in
    let low = subst (λ (xs : List (ℕ × Content)). AllBelow c.args.number (take place xs)) c.deref.ensures.value c.place_of-place.ensures.below in
    let high = subst (λ (xs : List (ℕ × Content)). AllFrom c.args.number (drop place xs)) c.deref.ensures.value c.place_of-place.ensures.from_there in
    let apart : (y : ℕ × Content) (zs : List (ℕ × Content)) → drop place fs ≡ y ∷ zs → y.0 ≢ c.args.number =
    elim c.else-place-len.branch as (λ b. (y : ℕ × Content) (zs : List (ℕ × Content)) → drop place fs ≡ y ∷ zs → y.0 ≢ c.args.number) [
      | else-place-len-via-then-place-len+else-index-number w ↦
          let inside : place < length fs = omega (arith, w.if-place-len.true, c.len.ensures, c.args.fields.now.ok.0) in
          apart_there fs place c.args.number w.index.result.now inside (λ e. w.if-index-number.false (ap (λ (f : ℕ × Content). f.0) w.index.ensures ∙ e))
      | else-place-len-via-else-place-len w ↦
          apart_past_end fs place c.args.number (omega (arith, w.if-place-len.false, c.len.ensures, c.args.fields.now.ok.0))
    ] in
    nothing_removed fs place c.args.number c.requires low high apart
