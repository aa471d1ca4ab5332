use Rattle.std.proofs.Common.{Global, None, Some, Vec, ap, arith, map, option_map, pos, sym, subst, take, ◌+◌, ◌<◌, ◌≡◌, ◌∙◌}
use Rattle.std.proofs.lemmas.Bool.{false≢true}
use Rattle.std.proofs.lemmas.Result.{MatchResult-from_err}
use Rattle.std.specs.Prelude.{IfSome}
use Rattle.pg_dyn.specs.message.Kept.{message_of}
use Rattle.pg_set.specs.inner.reading.Made.{AreCounted, has_place}
use Rattle.pg_set.specs.stated.SetMessages.{maybe_number_at}
use Rattle.pg_set.proofs.lemmas.reading.Counted.{counted_more, uncounted_more}
use Rattle.pg_set.proofs.lemmas.order.SetLaws.{all_lost}
use Rattle.pg_set.proofs.reading.made_types.member_counts.Goals as goal
use Rattle.pg_set.proofs.reading.made_types.member_counts.Goals.{in-Some, in_default}

pub returns-in_err-named-clause-refused : goal.returns-in_err-named-clause-refused
returns-in_err-named-clause-refused c =
    MatchResult-from_err c.from_residual-in_err-named.result _ _ c.from_residual-in_err-named.ensures.0
    (λ e placed.
    absurd (false≢true (sym (all_lost (has_place c.args.count) c.args.fields.now c.loop-field.field-index c.field-item.result c.loop-field-test.true c.field-item.is c.in_err-named.ensures.refused) ∙ placed)))

pub loop-field-preserved : goal.loop-field-preserved
loop-field-preserved c =
    let fields = c.args.fields.now in
    let i = c.loop-field.field-index in
    let m = c.field-item.result in
    elim c.match-named.branch [
      | in-Some w ↦ (
          let place = w.in-Some.place in
          let named : maybe_number_at 9 (message_of m) ≡ Some (pos place) = c.in_ok-named.ensures.ok ∙ ap (option_map (λ x. pos x)) w.in-Some.is in
          let below : place < c.args.count = subst (λ o. IfSome o (λ x. x < c.args.count)) w.in-Some.is c.in_ok-named.ensures.within in
          let fits : i < 18446744073709551615 = omega arith in
          subst (λ (v : Vec _ Global). AreCounted (map message_of (take (i + 1) fields)) c.args.count v.items) (sym w.counts-is)
          (counted_more fields i m place c.args.count w.index.result.now w.saturating_add.result c.loop-field.counts.items c.loop-field-test.true fits c.field-item.is named below w.index.ensures w.saturating_add.ensures
          c.loop-field.invariant)
          )
      | in_default w ↦ (
          let named : maybe_number_at 9 (message_of m) ≡ None = c.in_ok-named.ensures.ok ∙ ap (option_map (λ x. pos x)) w.in_default.is in
          subst (λ (v : Vec _ Global). AreCounted (map message_of (take (i + 1) fields)) c.args.count v.items) (sym w.counts-is)
          (uncounted_more fields i m c.args.count c.loop-field.counts.items c.loop-field-test.true c.field-item.is named c.loop-field.invariant)
          )
    ]
