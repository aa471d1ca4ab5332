-- What the new reader reads of the old writer's messages, and what breaks.
use Rattle.std.proofs.Common.{◌≡◌, Bool, true, false, ◌&&◌, Option, Some, None, refl}
use Rattle.std.proofs.lemmas.Slice.Eq.{bytes_eq-Decides}
use Rattle.pg_schema.specs.Shape.{Shape, fields}
use Rattle.pg_dyn.specs.views.Breaking.{Breaks, is_kept}
use Rattle.pg_dyn.specs.views.Comparison.{View, records_outside, same, unshared_bytes}
use Rattle.pg_dyn.specs.encoding.Encoding.{enc}
use Rattle.pg_dyn.specs.encoding.Writing.{bytes_of}
use Rattle.pg_dyn.specs.message.Message.{Message, unknown_of}
use Rattle.pg_dyn.specs.reading.Decoding.{dec}
use Rattle.pg_pairs.specs.declared.choices.choice.Pair.{Pair}
use Rattle.pg_least.specs.Loss.{IsLost, NewSees}
use Rattle.pg_least.specs.laws.LossLaws.{CompatibleIsSeen, LostMessagesBreak}

-- of two tests that both hold the second
both_right : (a b : Bool) → (a && b) ≡ true → b ≡ true
both_right true b is = is
both_right false b is = absurd (cc)

-- what a message that shows the same says of the records that the reader doesn't know
given_back : (view : View) (old new : Shape) (pair : Pair) (v w : Message) → same view old new pair.old pair.new v w ≡ true
    → bytes_of (records_outside (fields new pair.new) (unknown_of w)) ≡ unshared_bytes old pair.old (fields new pair.new) v
unfolding same
given_back view old new pair v w is =
    (bytes_eq-Decides (bytes_of (records_outside (fields new pair.new) (unknown_of w))) (unshared_bytes old pair.old (fields new pair.new) v)).0 (both_right _ _ is)

-- a message that is kept is seen whole
seen_whole : (view : View) (old new : Shape) (pair : Pair) (v : Message) → is_kept view old new pair.old pair.new v ≡ true → NewSees view old new pair v
unfolding is_kept
seen_whole view old new pair v kept = of (dec new pair.new (enc old pair.old v)) refl
  where
    seen : (w : Message) → dec new pair.new (enc old pair.old v) ≡ Some w → same view old new pair.old pair.new v w ≡ true → NewSees view old new pair v
    seen w is shows = record { read = w; reads = is; same = shows; gives_back = given_back view old new pair v w shows }

    of : (o : Option Message) → dec new pair.new (enc old pair.old v) ≡ o → NewSees view old new pair v
    of (Some w) is = seen w is (rw is at kept)
    of None is = absurd (let no = rw is at kept in cc)

-- and one that is seen whole is kept
seen_is_kept : (view : View) (old new : Shape) (pair : Pair) (v : Message) → NewSees view old new pair v → is_kept view old new pair.old pair.new v ≡ true
unfolding is_kept
seen_is_kept view old new pair v seen = rw seen.reads seen.same

-- what the old writer encodes is seen, where no message breaks
pub each_seen : CompatibleIsSeen
each_seen view old new pair compatible v writes = seen_whole view old new pair v (of (is_kept view old new pair.old pair.new v) refl)
  where
    of : (b : Bool) → is_kept view old new pair.old pair.new v ≡ b → is_kept view old new pair.old pair.new v ≡ true
    of true is = is
    of false is = absurd (compatible v (record { is_message = writes.is_message; is_plain = writes.is_plain; has_encoding = writes.has_encoding; not_kept = is }))

-- what breaks the old writer encodes, and the new reader doesn't see it
lost_where_it_breaks : (view : View) (old new : Shape) (pair : Pair) (v : Message) → Breaks view old new pair.old pair.new v → IsLost view old new pair v
lost_where_it_breaks view old new pair v breaks = record {
  written = record { is_message = breaks.is_message; is_plain = breaks.is_plain; has_encoding = breaks.has_encoding };
  not_seen = λ seen. let kept = seen_is_kept view old new pair v seen in let not_kept = breaks.not_kept in cc;
}

-- and the other way round
breaks_where_it_is_lost : (view : View) (old new : Shape) (pair : Pair) (v : Message) → IsLost view old new pair v → Breaks view old new pair.old pair.new v
breaks_where_it_is_lost view old new pair v lost = of (is_kept view old new pair.old pair.new v) refl
  where
    of : (b : Bool) → is_kept view old new pair.old pair.new v ≡ b → Breaks view old new pair.old pair.new v
    of true is = absurd (lost.not_seen (seen_whole view old new pair v is))
    of false is = record { is_message = lost.written.is_message; is_plain = lost.written.is_plain; has_encoding = lost.written.has_encoding; not_kept = is }

pub lost_breaks : LostMessagesBreak
lost_breaks view old new pair v = (breaks_where_it_is_lost view old new pair v, lost_where_it_breaks view old new pair v)
