-- The worked examples of what a new type reads.
use Rattle.std.proofs.Common.{◌≡◌, ◌≤◌, inl, ℕ, pos, List, [], ◌∷◌, filter, length, Bool, true, false, cond, nat_eq, Option, Some, None, refl, sym, subst, arith, lit≤, true≢false}
use Rattle.std.specs.Str.{is_utf8, chars}
use Rattle.std.proofs.lemmas.Bool.{eqb-true}
use Rattle.pg_schema.specs.declared.parts.field.Element.TheVariants as elements
use Rattle.pg_schema.specs.declared.parts.field.Scalar.TheVariants as scalars
use Rattle.pg_schema.specs.declared.parts.field.Presence.TheVariants.{Implicit, Explicit}
use Rattle.pg_schema.specs.Shape.{fields}
use Rattle.pg_schema.specs.ShapeRules.{IsShape}
use Rattle.pg_wire.specs.Reading.{exactly, row}
use Rattle.pg_wire.specs.Varint.{varint_at, varint}
use Rattle.pg_wire.specs.Words.{signed, unzigzag}
use Rattle.pg_wire.specs.Records.{WireRecord, tag_parts, record_at, records_of, tag, written}
use Rattle.pg_dyn.specs.message.Message.{Bytes, Int, Message, Part, ends, holds}
use Rattle.pg_dyn.specs.word.Coding.{word_bytes, word_in}
use Rattle.pg_dyn.specs.encoding.Writing.{item_record}
use Rattle.pg_dyn.specs.encoding.Encoding.{cap, enc}
use Rattle.pg_dyn.specs.reading.Decoding.{dec}
use Rattle.pg_dyn.specs.fitting.Belonging.{IsMessage}
use Rattle.pg_dyn.specs.views.Comparison.{Alike, Expected, numbers}
use Rattle.pg_dyn.specs.laws.Examples.{first, scalar, field}
use Rattle.pg_dyn.specs.laws.Laws.{of_number}
use Rattle.pg_order.specs.Examples as examples
use Rattle.pg_order.specs.Examples.{WorkedSights, bool_and_number, pair, two_numbers}
use Rattle.pg_order.specs.Sees.{sees}
use Rattle.pg_order.proofs.lemmas.Examples.{entries_in_order, entry_of, fields_exchanged, record_of}
use Rattle.pg_order.proofs.lemmas.Lengths.{same_order}
use Rattle.pg_order.proofs.lemmas.SeenAgain.{compatible_in_any_order, none_unseen_is_shorter}

-- the last of three records comes first
last_first : (p q r : WireRecord) (s t u : Bool) → (s ≡ true → u ≡ true → ⊥) → (t ≡ true → u ≡ true → ⊥)
    → cond u (r ∷ cond s (p ∷ cond t (q ∷ []) []) (cond t (q ∷ []) [])) (cond s (p ∷ cond t (q ∷ []) []) (cond t (q ∷ []) []))
    ≡ cond s (p ∷ cond t (q ∷ cond u (r ∷ []) []) (cond u (r ∷ []) [])) (cond t (q ∷ cond u (r ∷ []) []) (cond u (r ∷ []) []))
last_first p q r s t false apart other = refl
last_first p q r true t true apart other = absurd (apart refl refl)
last_first p q r false true true apart other = absurd (other refl refl)
last_first p q r false false true apart other = refl

one_or_three : (n : ℕ) → nat_eq 1 n ≡ true → nat_eq 3 n ≡ true → ⊥
one_or_three n h k = let a = eqb-true 1 n h in let b = eqb-true 3 n k in omega arith

two_or_three : (n : ℕ) → nat_eq 2 n ≡ true → nat_eq 3 n ≡ true → ⊥
two_or_three n h k = let a = eqb-true 2 n h in let b = eqb-true 3 n k in omega arith

three_exchanged : (n : ℕ) → filter (of_number n) (record_of 3 5 ∷ record_of 1 3 ∷ record_of 2 4 ∷ []) ≡ filter (of_number n) (record_of 1 3 ∷ record_of 2 4 ∷ record_of 3 5 ∷ [])
unfolding record_of written
three_exchanged n = last_first (record_of 1 3) (record_of 2 4) (record_of 3 5) (nat_eq 1 n) (nat_eq 2 n) (nat_eq 3 n) (one_or_three n) (two_or_three n)

rest_in_order : examples.RestInOrder
unfolding record_of is_utf8 chars exactly row varint_at varint signed unzigzag tag_parts record_at records_of tag written word_bytes word_in dec
rest_in_order = record {
  may_write = record {
    parts = record { number = 1; key = None; item = Int (pos 3) } ∷ record { number = 2; key = None; item = Int (pos 4) } ∷ record { number = 3; key = None; item = Int (pos 5) } ∷ [];
    are_parts = (_, refl, (_, refl, (_, refl, refl)));
    records = record_of 3 5 ∷ record_of 1 3 ∷ record_of 2 4 ∷ [];
    reordered = record {
      same = record { moves = (1, 2) ∷ (0, 2) ∷ []; below = (omega arith, omega arith, (omega arith, omega arith, tt)); is = refl };
      in_order = λ n is. three_exchanged n;
      unknown = refl;
    };
    bytes_are = refl;
  };
  is_read = refl;
  seen = record { message = _; is_read = refl; is_seen = refl };
}

other_rest_is_none : examples.OtherRestIsNone
unfolding exactly row varint_at varint tag_parts record_at records_of tag written
other_rest_is_none = (λ h. true≢false (sym h), λ h. true≢false (sym h))

entries_seen : examples.EntriesSeen
unfolding entry_of is_utf8 chars exactly row varint_at varint signed unzigzag tag_parts record_at records_of tag written word_bytes word_in dec
entries_seen = record {
  may_write = record {
    parts = record { number = 1; key = Some (Int (pos 1)); item = Int (pos 3) } ∷ record { number = 1; key = Some (Int (pos 2)); item = Int (pos 4) } ∷ [];
    are_parts = (_, refl, (_, refl, refl));
    records = entry_of 2 4 ∷ entry_of 1 3 ∷ [];
    reordered = record {
      same = record { moves = (0, 1) ∷ []; below = (omega arith, omega arith, tt); is = refl };
      in_order = λ n is. entries_in_order n is;
      unknown = refl;
    };
    bytes_are = refl;
  };
  is_read = refl;
  seen = record { message = _; is_read = refl; is_seen = refl };
}

rest_inside : examples.RestInside
unfolding record_of is_utf8 chars exactly row varint_at varint signed unzigzag tag_parts record_at records_of tag written word_bytes word_in dec
rest_inside = record {
  may_write = record {
    parts = record { number = 1; key = None; item = Bytes (16 ∷ 4 ∷ 8 ∷ 3 ∷ []) } ∷ [];
    are_parts = (
      _,
      16 ∷ 4 ∷ 8 ∷ 3 ∷ [],
      refl,
      record {
        parts = record { number = 1; key = None; item = Int (pos 3) } ∷ record { number = 2; key = None; item = Int (pos 4) } ∷ [];
        are_parts = (_, refl, (_, refl, refl));
        records = record_of 2 4 ∷ record_of 1 3 ∷ [];
        reordered = record {
          same = record { moves = (0, 1) ∷ []; below = (omega arith, omega arith, tt); is = refl };
          in_order = λ n is. fields_exchanged n;
          unknown = refl;
        };
        bytes_are = refl;
      },
      refl,
    );
    records = item_record 1 (elements.Message first) (Bytes (16 ∷ 4 ∷ 8 ∷ 3 ∷ [])) ∷ [];
    reordered = same_order [] (field 1 Explicit (elements.Message first) ∷ []) (item_record 1 (elements.Message first) (Bytes (16 ∷ 4 ∷ 8 ∷ 3 ∷ [])) ∷ []);
    bytes_are = refl;
  };
  is_read = refl;
  seen = record { message = _; is_read = refl; is_seen = refl };
}

loses_inside : examples.LosesInside
unfolding record_of is_utf8 chars exactly row varint_at varint signed unzigzag tag_parts record_at records_of tag written word_bytes word_in dec
loses_inside = record {
  may_write = record {
    parts = record { number = 1; key = None; item = Bytes (16 ∷ 4 ∷ 8 ∷ 3 ∷ []) } ∷ [];
    are_parts = (
      _,
      16 ∷ 4 ∷ 8 ∷ 3 ∷ [],
      refl,
      record {
        parts = record { number = 1; key = None; item = Int (pos 3) } ∷ record { number = 2; key = None; item = Int (pos 4) } ∷ [];
        are_parts = (_, refl, (_, refl, refl));
        records = record_of 2 4 ∷ record_of 1 3 ∷ [];
        reordered = record {
          same = record { moves = (0, 1) ∷ []; below = (omega arith, omega arith, tt); is = refl };
          in_order = λ n is. fields_exchanged n;
          unknown = refl;
        };
        bytes_are = refl;
      },
      refl,
    );
    records = item_record 1 (elements.Message first) (Bytes (16 ∷ 4 ∷ 8 ∷ 3 ∷ [])) ∷ [];
    reordered = same_order [] (field 1 Explicit (elements.Message first) ∷ []) (item_record 1 (elements.Message first) (Bytes (16 ∷ 4 ∷ 8 ∷ 3 ∷ [])) ∷ []);
    bytes_are = refl;
  };
  lost = refl;
}

-- A number that is read as a bool.

abbrev alike_parts : List (Part Expected)
alike_parts = record { number = 1; key = None; item = Alike (Int (pos 3)) } ∷ record { number = 2; key = None; item = Alike (Int (pos 4)) } ∷ []

abbrev as_read : Message
as_read = holds 1 None (Int (pos 1)) (holds 2 None (Int (pos 4)) (ends []))

number_to_bool : examples.NumberToBool
unfolding record_of is_utf8 chars exactly row varint_at varint signed unzigzag tag_parts record_at records_of tag written word_bytes word_in dec
number_to_bool = record {
  may_write = record {
    parts = record { number = 1; key = None; item = Int (pos 3) } ∷ record { number = 2; key = None; item = Int (pos 4) } ∷ [];
    are_parts = (_, refl, (_, refl, refl));
    records = record_of 2 4 ∷ record_of 1 3 ∷ [];
    reordered = record {
      same = record { moves = (0, 1) ∷ []; below = (omega arith, omega arith, tt); is = refl };
      in_order = λ n is. fields_exchanged n;
      unknown = refl;
    };
    bytes_are = refl;
  };
  not_seen = λ seen.
      let read : ◌≡◌ {A = Option Message} (Some as_read) (Some seen.message) = seen.is_read in
      let same : seen.message ≡ as_read = cc in
      let shown : sees numbers (fields two_numbers first) (fields bool_and_number first) alike_parts (16 ∷ 4 ∷ 8 ∷ 3 ∷ []) as_read ≡ true =
      subst (λ m. sees numbers (fields two_numbers first) (fields bool_and_number first) alike_parts (16 ∷ 4 ∷ 8 ∷ 3 ∷ []) m ≡ true) same seen.is_seen in
      true≢false (sym shown);
}

two_numbers_are : IsShape two_numbers
two_numbers_are = record {
  few = lit≤ tt;
  each = (
    record {
      each = (record { number_above = lit≤ tt; number_below = lit≤ tt; not_reserved = inl (lit≤ tt); presence_fits = refl; element_fits = tt }, (record { number_above = lit≤ tt; number_below = lit≤ tt; not_reserved = inl (lit≤ tt); presence_fits = refl; element_fits = tt }, tt));
      rising = ((lit≤ tt, tt), (tt, tt));
    },
    tt,
  );
}

bool_and_number_are : IsShape bool_and_number
bool_and_number_are = record {
  few = lit≤ tt;
  each = (
    record {
      each = (record { number_above = lit≤ tt; number_below = lit≤ tt; not_reserved = inl (lit≤ tt); presence_fits = refl; element_fits = tt }, (record { number_above = lit≤ tt; number_below = lit≤ tt; not_reserved = inl (lit≤ tt); presence_fits = refl; element_fits = tt }, tt));
      rising = ((lit≤ tt, tt), (tt, tt));
    },
    tt,
  );
}

pair_is : IsMessage two_numbers first pair
pair_is = (
  record { field = scalar 1 Implicit scalars.Int32; found = refl; key_fits = refl; before = (inl (lit≤ tt), tt); alone = (λ g at. refl, tt) },
  (omega arith, refl),
  (record { field = scalar 2 Implicit scalars.Int32; found = refl; key_fits = refl; before = tt; alone = tt }, (omega arith, refl), tt),
)

pair_short : length (enc two_numbers first pair) ≤ cap
unfolding enc written varint tag word_bytes
pair_short = lit≤ tt

number_to_bool_breaks : examples.NumberToBoolBreaks
number_to_bool_breaks compatible =
    number_to_bool.not_seen
    (compatible_in_any_order numbers two_numbers bool_and_number two_numbers_are bool_and_number_are first first pair (16 ∷ 4 ∷ 8 ∷ 3 ∷ []) compatible pair_is tt pair_short number_to_bool.may_write)

number_to_bool_bound : examples.NumberToBoolBound
number_to_bool_bound n least =
    none_unseen_is_shorter numbers two_numbers bool_and_number two_numbers_are bool_and_number_are first first n pair (16 ∷ 4 ∷ 8 ∷ 3 ∷ []) least pair_is tt pair_short number_to_bool.may_write number_to_bool.not_seen

pub worked_sights : WorkedSights
worked_sights = (rest_in_order, other_rest_is_none, entries_seen, rest_inside, loses_inside, number_to_bool, number_to_bool_breaks, number_to_bool_bound)
