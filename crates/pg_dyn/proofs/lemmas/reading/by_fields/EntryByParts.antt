-- What is read of an entry's records, one by one.
use Rattle.std.proofs.Common.{◌≡◌, ◌≢◌, ℕ, List, [], ◌∷◌, ◌++◌, map, filter, true, false, true≢false, cond, Option, Some, None, Result, is_some, ◌⊎◌, inl, refl, ap, sym, subst, ◌∙◌, arith, eq-eqb, ne_eqb, rules}
use Rattle.std.specs.List.{AllByRecursion}
use Rattle.std.proofs.Math.Bool.{and-false}
use Rattle.std.proofs.lemmas.Bool.{and_parts}
use Rattle.std.proofs.lemmas.List.{append-nil}
use Rattle.pg_schema.specs.declared.parts.field.Element.{Element}
use Rattle.pg_schema.specs.declared.parts.field.Element.TheVariants as elements
use Rattle.pg_schema.specs.declared.parts.field.Presence.TheVariants as presences
use Rattle.pg_schema.specs.declared.parts.field.Scalar.{Scalar}
use Rattle.pg_schema.specs.Shape.{FieldShape, Shape}
use Rattle.pg_wire.specs.declared.error.WireError.{WireError}
use Rattle.pg_wire.specs.declared.record.Record.{Record}
use Rattle.pg_wire.specs.declared.record.WireType.TheVariants.{Len}
use Rattle.pg_wire.specs.Reads.{seen_record}
use Rattle.pg_wire.specs.Records.{WireRecord}
use Rattle.pg_dyn.specs.declared.message_ref.ValueRef.{ValueRef}
use Rattle.pg_dyn.specs.declared.reading.parts.Parts.{Parts}
use Rattle.pg_dyn.specs.word.Coding.{form, form_wire, leaf_in, scalar_form}
use Rattle.pg_dyn.specs.reading.Content.{is_accepted, key_field, leaves_in, plain_content, same_wire, takes, value_field}
use Rattle.pg_dyn.specs.message_ref.BorrowedItems.{ItemKept}
use Rattle.pg_dyn.specs.reading.Decoding.{dec, is_child, is_plain_readable}
use Rattle.pg_dyn.specs.reading.EntryParts.{AreParts, AreReadable, ScalarsGood}
use Rattle.pg_dyn.specs.reading.EntrySteps.{IsMessageOf, IsReadFrom, PartIs, PartFits, PartRead}
use Rattle.pg_dyn.specs.reading.Held.{read_as}
use Rattle.pg_dyn.specs.message.Message.{Leaf}
use Rattle.pg_dyn.specs.reading.ReadingOn.{IsNoMessage}
use Rattle.pg_dyn.specs.message_ref.BorrowedItems.{IsItemKept}
use Rattle.pg_dyn.specs.message_ref.Borrowed.{leaf_of}
use Rattle.pg_dyn.proofs.lemmas.reading.FieldKinds.{form_as, no_both}
use Rattle.pg_dyn.proofs.lemmas.reading.records.FieldRecords.{own_leaves, reads_scalar}
use Rattle.pg_dyn.proofs.lemmas.message_ref.BorrowedItems.{item_is_key, key_seen}
use Rattle.pg_dyn.proofs.Lists.{each-append, filter-append'}
use Rattle.pg_dyn.proofs.lemmas.reading.records.ReadsOn.{singular_on}
use Rattle.pg_dyn.proofs.lemmas.reading.records.RecordFronts.{Front}

pub item_as : (shape : Shape) (e : Element) (v : ValueRef) → IsNoMessage e → IsItemKept (read_as e) v → ItemKept shape e v
item_as shape e v h item = grind arith

-- an explicit field of an entry
abbrev explicit : ℕ → Element → FieldShape
explicit n e = record { number = n; presence = presences.Explicit; element = e; oneof = None }

one_taken : (f : FieldShape) (rs : List WireRecord) (r : WireRecord) → takes f r ≡ true → filter (takes f) (rs ++ r ∷ []) ≡ filter (takes f) rs ++ r ∷ []
one_taken f rs r taken = filter-append' (takes f) rs (r ∷ []) ∙ ap (λ b. filter (takes f) rs ++ cond b (r ∷ []) []) taken

none_taken : (f : FieldShape) (rs : List WireRecord) (r : WireRecord) → takes f r ≡ false → filter (takes f) (rs ++ r ∷ []) ≡ filter (takes f) rs
none_taken f rs r other = filter-append' (takes f) rs (r ∷ []) ∙ ap (λ b. filter (takes f) rs ++ cond b (r ∷ []) []) other ∙ append-nil (filter (takes f) rs)

-- Which field takes a record.

explicit_takes : (n : ℕ) (e : Element) (r : WireRecord) → r.number ≡ n → same_wire r.wire (form_wire (form e)) ≡ true → takes (explicit n e) r ≡ true
explicit_takes n e r is own = rw (eq-eqb r.number n is, own)

not_accepted : (n : ℕ) (e : Element) (r : WireRecord) → same_wire r.wire (form_wire (form e)) ≡ false → is_accepted (explicit n e) r ≡ false
not_accepted n e r other = rw (other, and-false (same_wire r.wire Len))

pub not_explicit : (n : ℕ) (e : Element) (r : WireRecord) → (r.number ≢ n) ⊎ (same_wire r.wire (form_wire (form e)) ≡ false) → takes (explicit n e) r ≡ false
not_explicit n e r h = search (rules, ne_eqb, not_accepted, and-false)

other_number : (m n : ℕ) (e : Element) (r : WireRecord) → r.number ≡ m → m ≢ n → takes (explicit n e) r ≡ false
other_number m n e r is apart = not_explicit n e r (inl (λ k. apart (sym is ∙ k)))

-- One record more, for a field of the entry.

module _ (f : FieldShape) (rs : List WireRecord) (r : WireRecord) where
  same_read : (shape : Shape) (held : Option ValueRef) → takes f r ≡ false → PartRead shape f rs held → PartRead shape f (rs ++ r ∷ []) held
  same_read shape held other h = subst (λ xs. PartIs shape f.element (plain_content f xs) held) (sym (none_taken f rs r other)) h

  more_readable : AreReadable f rs → ((shape : Shape) → takes f r ≡ true → is_plain_readable (dec shape) f r ≡ true) → AreReadable f (rs ++ r ∷ [])
  more_readable h one = λ shape. each-append (λ x. takes f x ≡ true → is_plain_readable (dec shape) f x ≡ true) rs (r ∷ []) (h shape) (one shape, tt)

  same_readable : AreReadable f rs → takes f r ≡ false → AreReadable f (rs ++ r ∷ [])
  same_readable h other = more_readable h (λ shape taken. absurd (true≢false (sym taken ∙ other)))

some_leaves : (shape : Shape) (e : Element) (o : Option (List Leaf)) (held : Option ValueRef) → PartIs shape e o held → (old : List Leaf) × (o ≡ Some old)
some_leaves shape e o None h = ([], h)
some_leaves shape e o (Some v) h = (h.0 ∷ [], h.1)

plain_read : (shape : Shape) (e : Element) (v : ValueRef) → IsNoMessage e → ItemKept shape e v → IsReadFrom shape e (leaf_of v) v
plain_read shape e v h fits = grind (arith, key_seen, item_is_key)

module _ (n : ℕ) (e : Element) (scalar : IsNoMessage e) (rs : List WireRecord) (r : WireRecord) (at : r.number ≡ n)
    (own : same_wire r.wire (form_wire (form e)) ≡ true) (v : ValueRef) (leaf : leaf_in (scalar_form (read_as e)) r.body ≡ Some (leaf_of v))
    (item : IsItemKept (read_as e) v) where
  leaves : leaves_in (explicit n e) r ≡ Some (leaf_of v ∷ [])
  leaves = own_leaves (explicit n e) r (leaf_of v) own (ap (λ x. leaf_in x r.body) (form_as e) ∙ leaf)

  one_read : (shape : Shape) (held : Option ValueRef) → PartRead shape (explicit n e) rs held → PartRead shape (explicit n e) (rs ++ r ∷ []) (Some v)
  one_read shape held h =
      let f = explicit n e in
      let (old, old_is) = some_leaves shape e (plain_content f (filter (takes f) rs)) held h in (
        leaf_of v,
        ap (plain_content f) (one_taken f rs r (explicit_takes n e r at own)) ∙ singular_on f (filter (takes f) rs) r old (leaf_of v) refl scalar old_is leaves,
        plain_read shape e v scalar (item_as shape e v scalar item),
      )

  one_readable : AreReadable (explicit n e) rs → AreReadable (explicit n e) (rs ++ r ∷ [])
  one_readable h = more_readable (explicit n e) rs r h (λ shape taken. reads_scalar shape (explicit n e) r (leaf_of v ∷ []) refl scalar leaves)

-- what can't be read isn't readable
pub unreadable : (n : ℕ) (e : Element) (r : WireRecord) → r.number ≡ n → same_wire r.wire (form_wire (form e)) ≡ true → AreReadable (explicit n e) (r ∷ [])
    → is_some (leaf_in (scalar_form (read_as e)) r.body) ≡ true
unreadable n e r at own h =
    let plain = (h []).0 (explicit_takes n e r at own) in
    let some = (and_parts (is_some (leaves_in (explicit n e) r)) (is_child (dec []) e r.body) plain).0 in
    of (leaf_in (form e) r.body) refl some
  where
    of : (o : Option Leaf) → leaf_in (form e) r.body ≡ o → is_some (leaves_in (explicit n e) r) ≡ true
        → is_some (leaf_in (scalar_form (read_as e)) r.body) ≡ true
    of None is some = absurd (true≢false (sym some ∙ rw (own, is)))
    of (Some leaf) is some = ap (λ x. is_some (leaf_in x r.body)) (sym (form_as e)) ∙ ap is_some is

-- One record more of an entry.

module _ (key : Scalar) (element : Element) (rs : List WireRecord) (r : WireRecord) (parts new : Parts) (h : AreParts key element rs parts) where
  pub key_added : (v : ValueRef) → r.number ≡ 1 → same_wire r.wire (form_wire (form (elements.Scalar key))) ≡ true
      → leaf_in (scalar_form key) r.body ≡ Some (leaf_of v) → IsItemKept key v
      → new.key ≡ Some v → new.value ≡ parts.value → new.child ≡ parts.child → AreParts key element (rs ++ r ∷ []) new
  key_added v at own leaf item key_is value_is child_is =
      let other : takes (value_field element) r ≡ false = other_number 1 2 element r at (omega arith) in
      record {
        good = record {
          key_good = one_readable 1 (elements.Scalar key) tt rs r at own v leaf item h.good.key_good;
          value_good = λ none. same_readable (value_field element) rs r (h.good.value_good none) other;
        };
        key_read = λ shape. subst (PartRead shape (key_field key) (rs ++ r ∷ [])) (sym key_is)
            (one_read 1 (elements.Scalar key) tt rs r at own v leaf item shape parts.key (h.key_read shape));
        key_fits = λ shape. subst (PartFits shape (elements.Scalar key)) (sym key_is) item;
        value_read = λ none shape. subst (PartRead shape (value_field element) (rs ++ r ∷ [])) (sym value_is)
            (same_read (value_field element) rs r shape parts.value other (h.value_read none shape));
        value_fits = λ none shape. subst (PartFits shape element) (sym value_is) (h.value_fits none shape);
        child = λ message. ap (λ (p : List Record). map seen_record p) (ap (λ x. x.items) child_is) ∙ h.child message
            ∙ sym (none_taken (value_field element) rs r other);
      }

  pub value_added : (v : ValueRef) → IsNoMessage element → r.number ≡ 2 → same_wire r.wire (form_wire (form element)) ≡ true
      → leaf_in (scalar_form (read_as element)) r.body ≡ Some (leaf_of v) → IsItemKept (read_as element) v
      → new.key ≡ parts.key → new.value ≡ Some v → AreParts key element (rs ++ r ∷ []) new
  value_added v scalar at own leaf item key_is value_is =
      let other : takes (key_field key) r ≡ false = other_number 2 1 (elements.Scalar key) r at (omega arith) in
      record {
        good = record {
          key_good = same_readable (key_field key) rs r h.good.key_good other;
          value_good = λ none. one_readable 2 element scalar rs r at own v leaf item (h.good.value_good none);
        };
        key_read = λ shape. subst (PartRead shape (key_field key) (rs ++ r ∷ [])) (sym key_is)
            (same_read (key_field key) rs r shape parts.key other (h.key_read shape));
        key_fits = λ shape. subst (PartFits shape (elements.Scalar key)) (sym key_is) (h.key_fits shape);
        value_read = λ none shape. subst (PartRead shape (value_field element) (rs ++ r ∷ [])) (sym value_is)
            (one_read 2 element scalar rs r at own v leaf item shape parts.value (h.value_read none shape));
        value_fits = λ none shape. subst (PartFits shape element) (sym value_is) (item_as shape element v scalar item);
        child = λ message. absurd (no_both element scalar message);
      }

  pub child_added : IsMessageOf element → r.number ≡ 2 → same_wire r.wire (form_wire (form element)) ≡ true → new.key ≡ parts.key
      → map seen_record new.child.items ≡ map seen_record parts.child.items ++ r ∷ [] → AreParts key element (rs ++ r ∷ []) new
  child_added message at own key_is child_is =
      let other : takes (key_field key) r ≡ false = other_number 2 1 (elements.Scalar key) r at (omega arith) in
      record {
        good = record {
          key_good = same_readable (key_field key) rs r h.good.key_good other;
          value_good = λ none. absurd (no_both element none message);
        };
        key_read = λ shape. subst (PartRead shape (key_field key) (rs ++ r ∷ [])) (sym key_is)
            (same_read (key_field key) rs r shape parts.key other (h.key_read shape));
        key_fits = λ shape. subst (PartFits shape (elements.Scalar key)) (sym key_is) (h.key_fits shape);
        value_read = λ none. absurd (no_both element none message);
        value_fits = λ none. absurd (no_both element none message);
        child = λ m. child_is ∙ ap (λ xs. xs ++ r ∷ []) (h.child m) ∙ sym (one_taken (value_field element) rs r (explicit_takes 2 element r at own));
      }

  pub none_added : takes (key_field key) r ≡ false → takes (value_field element) r ≡ false → AreParts key element (rs ++ r ∷ []) parts
  none_added no_key no_value = record {
    good = record {
      key_good = same_readable (key_field key) rs r h.good.key_good no_key;
      value_good = λ none. same_readable (value_field element) rs r (h.good.value_good none) no_value;
    };
    key_read = λ shape. same_read (key_field key) rs r shape parts.key no_key (h.key_read shape);
    key_fits = h.key_fits;
    value_read = λ none shape. same_read (value_field element) rs r shape parts.value no_value (h.value_read none shape);
    value_fits = h.value_fits;
    child = λ message. h.child message ∙ sym (none_taken (value_field element) rs r no_value);
  }

-- What is read of the records so far.
pub record PartsAhead (key : Scalar) (element : Element) (bytes : List ℕ) (left : List (Result WireRecord WireError)) (parts : Parts) : Type 0 where
  pub records : List WireRecord
  pub front : Front bytes left records
  pub read : AreParts key element records parts

-- Of good records each is.
pub good_one : (key : Scalar) (element : Element) (before : List WireRecord) (r : WireRecord) (others : List WireRecord)
    → ScalarsGood key element (before ++ r ∷ others) → ScalarsGood key element (r ∷ [])
good_one key element before r others h = record {
  key_good = one (key_field key) h.key_good;
  value_good = λ none. one (value_field element) (h.value_good none);
}
  where
    middle : (P : WireRecord → Type 0) (xs : List WireRecord) → AllByRecursion P (xs ++ r ∷ others) → P r
    middle P [] k = k.0
    middle P (x ∷ xs) k = middle P xs k.1

    one : (f : FieldShape) → AreReadable f (before ++ r ∷ others) → AreReadable f (r ∷ [])
    one f k = λ shape. (middle (λ x. takes f x ≡ true → is_plain_readable (dec shape) f x ≡ true) before (k shape), tt)
