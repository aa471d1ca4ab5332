-- The worked examples.
use Rattle.std.proofs.Common.{◌≡◌, ℕ, pos, List, [], ◌∷◌, ◌++◌, filter, Bool, true, false, cond, nat_eq, Some, None, refl, ap, sym, subst, ◌∙◌, arith}
use Rattle.std.specs.List.{AllByRecursion}
use Rattle.std.proofs.lemmas.Bool.{eqb-true}
use Rattle.std.specs.Str.{is_utf8, chars}
use Rattle.pg_schema.specs.declared.parts.field.Element.TheVariants as elements
use Rattle.pg_schema.specs.declared.parts.field.Scalar.TheVariants.{Int32}
use Rattle.pg_schema.specs.declared.parts.field.Presence.TheVariants.{Explicit, Repeated, Map}
use Rattle.pg_wire.specs.Reading.{exactly, row}
use Rattle.pg_wire.specs.Varint.{varint_at, varint}
use Rattle.pg_wire.specs.Words.{signed, unzigzag}
use Rattle.pg_wire.specs.declared.record.WireType.TheVariants.{Len}
use Rattle.pg_wire.specs.Records.{WireRecord, tag_parts, record_at, records_of, tag, written}
use Rattle.pg_dyn.specs.message.Message.{Bytes, Int, Leaf, Part}
use Rattle.pg_dyn.specs.word.Coding.{word_bytes, word_in}
use Rattle.pg_dyn.specs.encoding.Writing.{bytes_of, entry_bytes, item_record, records_in}
use Rattle.pg_dyn.specs.reading.Content.{is_unknown}
use Rattle.pg_dyn.specs.reading.Decoding.{dec}
use Rattle.pg_dyn.specs.laws.Examples.{first, scalar, field}
use Rattle.pg_dyn.specs.laws.Laws.{of_number}
use Rattle.pg_dyn.proofs.Lists.{each_of_all, filter_all}
use Rattle.pg_dyn.proofs.lemmas.message.KeyLaws.{each_moved}
use Rattle.pg_order.specs.Examples as examples
use Rattle.pg_order.specs.Examples.{WorkedOrders, rest}
use Rattle.pg_order.specs.MayWrite.{is_map_at}
use Rattle.pg_order.proofs.lemmas.Lengths.{same_order}

-- two records of different numbers
two_exchanged : (p q : WireRecord) (s t : Bool) → (s ≡ true → t ≡ true → ⊥) → cond t (q ∷ cond s (p ∷ []) []) (cond s (p ∷ []) []) ≡ cond s (p ∷ cond t (q ∷ []) []) (cond t (q ∷ []) [])
two_exchanged p q true true apart = absurd (apart refl refl)
two_exchanged p q true false apart = refl
two_exchanged p q false true apart = refl
two_exchanged p q false false apart = refl

pub one_or_two : (n : ℕ) → nat_eq 1 n ≡ true → nat_eq 2 n ≡ true → ⊥
one_or_two n h k = let a = eqb-true 1 n h in let b = eqb-true 2 n k in omega arith

unfoldable pub record_of : ℕ → ℕ → WireRecord
record_of number n = item_record number (elements.Scalar Int32) (Int (pos n))

unfoldable pub entry_of : ℕ → ℕ → WireRecord
entry_of k n = written 1 Len (entry_bytes Int32 (elements.Scalar Int32) (Int (pos k)) (Int (pos n)))

pub entries_in_order : (n : ℕ) → is_map_at (scalar 1 (Map Int32) Int32 ∷ []) n ≡ false → filter (of_number n) (entry_of 2 4 ∷ entry_of 1 3 ∷ []) ≡ filter (of_number n) (entry_of 1 3 ∷ entry_of 2 4 ∷ [])
unfolding entry_of written
entries_in_order n is = of (nat_eq 1 n) refl
  where
    of : (b : Bool) → nat_eq 1 n ≡ b → filter (of_number n) (entry_of 2 4 ∷ entry_of 1 3 ∷ []) ≡ filter (of_number n) (entry_of 1 3 ∷ entry_of 2 4 ∷ [])
    of true e = absurd (let k : true ≡ false = rw e at is in cc)
    of false e = rw e refl

entries_exchanged : examples.EntriesExchanged
unfolding entry_of is_utf8 chars exactly row varint_at varint signed unzigzag tag_parts record_at records_of tag written word_bytes word_in dec
entries_exchanged = record {
  may_write = record {
    parts = record { number = 1; key = Some (Int (pos 1)); item = Int (pos 3) } ∷ record { number = 1; key = Some (Int (pos 2)); item = Int (pos 4) } ∷ [];
    are_parts = (_, refl, (_, refl, refl));
    records = entry_of 2 4 ∷ entry_of 1 3 ∷ [];
    reordered = record {
      same = record { moves = (0, 1) ∷ []; below = (omega arith, omega arith, tt); is = refl };
      in_order = λ n is. entries_in_order n is;
      unknown = refl;
    };
    bytes_are = refl;
  };
  is_read = refl;
}

pub fields_exchanged : (n : ℕ) → filter (of_number n) (record_of 2 4 ∷ record_of 1 3 ∷ []) ≡ filter (of_number n) (record_of 1 3 ∷ record_of 2 4 ∷ [])
unfolding record_of written
fields_exchanged n = two_exchanged (record_of 1 3) (record_of 2 4) (nat_eq 1 n) (nat_eq 2 n) (one_or_two n)

fields_are_exchanged : examples.FieldsExchanged
unfolding record_of is_utf8 chars exactly row varint_at varint signed unzigzag tag_parts record_at records_of tag written word_bytes word_in dec
fields_are_exchanged = record {
  may_write = record {
    parts = record { number = 1; key = None; item = Int (pos 3) } ∷ record { number = 2; key = None; item = Int (pos 4) } ∷ [];
    are_parts = (_, refl, (_, refl, refl));
    records = record_of 2 4 ∷ record_of 1 3 ∷ [];
    reordered = record {
      same = record { moves = (0, 1) ∷ []; below = (omega arith, omega arith, tt); is = refl };
      in_order = λ n is. fields_exchanged n;
      unknown = refl;
    };
    bytes_are = refl;
  };
  is_read = refl;
}

fields_inside_exchanged : examples.FieldsInsideExchanged
unfolding record_of is_utf8 chars exactly row varint_at varint signed unzigzag tag_parts record_at records_of tag written word_bytes word_in dec
fields_inside_exchanged = record {
  may_write = record {
    parts = record { number = 1; key = None; item = Bytes (16 ∷ 4 ∷ 8 ∷ 3 ∷ []) } ∷ [];
    are_parts = (
      _,
      16 ∷ 4 ∷ 8 ∷ 3 ∷ [],
      refl,
      record {
        parts = record { number = 1; key = None; item = Int (pos 3) } ∷ record { number = 2; key = None; item = Int (pos 4) } ∷ [];
        are_parts = (_, refl, (_, refl, refl));
        records = record_of 2 4 ∷ record_of 1 3 ∷ [];
        reordered = record {
          same = record { moves = (0, 1) ∷ []; below = (omega arith, omega arith, tt); is = refl };
          in_order = λ n is. fields_exchanged n;
          unknown = refl;
        };
        bytes_are = refl;
      },
      refl,
    );
    records = item_record 1 (elements.Message first) (Bytes (16 ∷ 4 ∷ 8 ∷ 3 ∷ [])) ∷ [];
    reordered = same_order [] (field 1 Explicit (elements.Message first) ∷ []) (item_record 1 (elements.Message first) (Bytes (16 ∷ 4 ∷ 8 ∷ 3 ∷ [])) ∷ []);
    bytes_are = refl;
  };
  is_read = refl;
}

list_parted : examples.ListParted
unfolding record_of is_utf8 chars exactly row varint_at varint signed unzigzag tag_parts record_at records_of tag written word_bytes word_in dec
list_parted = record {
  may_write = record {
    parts = record { number = 1; key = None; item = Int (pos 3) } ∷ record { number = 1; key = None; item = Int (pos 4) } ∷ record { number = 2; key = None; item = Int (pos 5) } ∷ [];
    are_parts = (_, refl, (_, refl, (_, refl, refl)));
    records = record_of 1 3 ∷ record_of 2 5 ∷ record_of 1 4 ∷ [];
    reordered = record {
      same = record { moves = (1, 2) ∷ []; below = (omega arith, omega arith, tt); is = refl };
      in_order = λ n is. ap (λ xs. cond (nat_eq 1 n) (record_of 1 3 ∷ xs) xs) (two_exchanged (record_of 1 4) (record_of 2 5) (nat_eq 1 n) (nat_eq 2 n) (one_or_two n));
      unknown = refl;
    };
    bytes_are = refl;
  };
  is_read = refl;
}

list_not_exchanged : examples.ListNotExchanged
unfolding record_of varint tag written word_bytes
list_not_exchanged w =
    let (qs, first_is, (rs, second_is, none)) = w.are_parts in
    let list = scalar 1 (Repeated false) Int32 ∷ [] in
    let written_parts : List (Part Leaf) = record { number = 1; key = None; item = Int (pos 3) } ∷ record { number = 1; key = None; item = Int (pos 4) } ∷ [] in
    let parts_are : w.parts ≡ written_parts = first_is ∙ ap (λ xs. record { number = 1; key = None; item = Int (pos 3) } ∷ xs) (second_is ∙ ap (λ xs. record { number = 1; key = None; item = Int (pos 4) } ∷ xs) none) in
    let old_are : records_in list w.parts ++ [] ≡ record_of 1 3 ∷ record_of 1 4 ∷ [] = ap (λ ps. records_in list ps ++ []) parts_are in
    let each : AllByRecursion (λ r. of_number 1 r ≡ true) w.records =
    each_moved (λ r. of_number 1 r ≡ true) (records_in list w.parts ++ []) w.records w.reordered.same (subst (AllByRecursion (λ r. of_number 1 r ≡ true)) (sym old_are) (refl, (refl, tt))) in
    let records_are : w.records ≡ record_of 1 3 ∷ record_of 1 4 ∷ [] =
    sym (filter_all (of_number 1) w.records each) ∙ w.reordered.in_order 1 refl ∙ ap (filter (of_number 1)) old_are in
    let bytes_are : ◌≡◌ {A = List ℕ} (8 ∷ 4 ∷ 8 ∷ 3 ∷ []) (8 ∷ 3 ∷ 8 ∷ 4 ∷ []) = w.bytes_are ∙ ap bytes_of records_are in
    cc

unknown_not_exchanged : examples.UnknownNotExchanged
unfolding varint tag written
unknown_not_exchanged w =
    let all : (rs : List WireRecord) → filter (is_unknown []) rs ≡ rs = λ rs. filter_all (is_unknown []) rs (each_of_all (λ r. is_unknown [] r ≡ true) (λ r. refl) rs) in
    let records_are : w.records ≡ rest 1 3 ∷ rest 2 4 ∷ [] = sym (all w.records) ∙ w.reordered.unknown ∙ all (rest 1 3 ∷ rest 2 4 ∷ []) in
    let bytes_are : ◌≡◌ {A = List ℕ} (16 ∷ 4 ∷ 8 ∷ 3 ∷ []) (8 ∷ 3 ∷ 16 ∷ 4 ∷ []) = w.bytes_are ∙ ap bytes_of records_are in
    cc

pub worked_orders : WorkedOrders
worked_orders = (entries_exchanged, fields_are_exchanged, fields_inside_exchanged, list_parted, list_not_exchanged, unknown_not_exchanged)
