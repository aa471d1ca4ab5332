-- Packed lists, element by element, and their words.
use Rattle.std.proofs.Common.{◌≡◌, ℕ, zero, suc, ◌+◌, ◌-◌, ◌<◌, ◌≤◌, List, [], ◌∷◌, ◌++◌, length, map, take, drop, true, true≢false, Some, is_some, option_and_then, Result, Ok, Err, IfOk, refl, ap, ap₂, sym, subst, ◌∙◌, arith, lt-ltb, le-ltb, length-append, length-drop, drop-drop, drop_at, append_assoc, rules}
use Rattle.std.specs.List.{AllByRecursion}
use Rattle.std.proofs.lemmas.List.{append-nil, map-append, drop_all, take_at, take_all}
use Rattle.pg_schema.specs.declared.parts.field.Element.TheVariants as elements
use Rattle.pg_schema.specs.declared.parts.field.Scalar.{Scalar}
use Rattle.pg_schema.specs.Shape.{is_packable}
use Rattle.pg_wire.specs.declared.error.WireError.{WireError}
use Rattle.pg_wire.specs.declared.record.WireType.{WireType}
use Rattle.pg_wire.specs.declared.record.WireType.TheVariants.{Varint, I64, Len, I32}
use Rattle.pg_wire.specs.Reading.{Fault, Front, ◌>>=◌, exactly, row, row_within, Truncated}
use Rattle.pg_wire.specs.Errors.{error_at, fault_of, place_of, placed}
use Rattle.pg_wire.proofs.Results.{fault_of-error_at}
use Rattle.pg_wire.specs.Reads.{value_at}
use Rattle.pg_wire.specs.Varint.{varint_at, varint_value}
use Rattle.pg_wire.proofs.RecordLaws.{exactly_takes}
use Rattle.pg_wire.proofs.Varints.{varint_at_takes, length-IsVarint}
use Rattle.pg_dyn.specs.declared.message_ref.ValueRef.{ValueRef}
use Rattle.pg_dyn.specs.word.NumberLists.{number_item}
use Rattle.pg_dyn.specs.word.WordOf.{HasBits, IsWord}
use Rattle.pg_dyn.specs.word.Coding.{form_wire, leaf_in, element_at, scalar_form, word_in}
use Rattle.pg_dyn.specs.reading.Content.{packed_leaves, option_from}
use Rattle.pg_dyn.specs.reading.Optional.{all_some}
use Rattle.pg_dyn.specs.reading.Steps.{IsRow, RowReads, WordsRead}
use Rattle.pg_dyn.specs.message_ref.BorrowedItems.{IsItemKept}
use Rattle.pg_dyn.specs.message_ref.Borrowed.{leaf_of}
use Rattle.pg_dyn.proofs.Lists.{each-append}
use Rattle.pg_dyn.proofs.lemmas.word.NumberLaws.{number_kept, number_read}

-- One element at the front.

pub exact_ok : (n : ℕ) (bytes : List ℕ) → n ≤ length bytes → exactly n bytes ≡ Ok (take n bytes, drop n bytes)
unfolding exactly
exact_ok n bytes h = rw (le-ltb (length bytes) n h)

pub exact_err : (n : ℕ) (bytes : List ℕ) → length bytes < n → exactly n bytes ≡ Err Truncated
unfolding exactly
exact_err n bytes h = rw (lt-ltb (length bytes) n h)

abbrev pub IsOne : WireType → List ℕ → ℕ → Type 0
IsOne wire bytes n = (element_at wire bytes ≡ Ok (take n bytes, drop n bytes)) × (1 ≤ n) × (n ≤ length bytes)

ok_pair_is : (a b : ℕ) (x y : ℕ) → ◌≡◌ {A = Result (ℕ × ℕ) WireError} (Ok (a, b)) (Ok (x, y)) → b ≡ y
ok_pair_is a b x y h = let e : ◌≡◌ {A = ℕ × ℕ} (a, b) (x, y) = cc in ap (λ p. p.1) e

ok_pair_first : (a b : ℕ) (x y : ℕ) → ◌≡◌ {A = Result (ℕ × ℕ) WireError} (Ok (a, b)) (Ok (x, y)) → a ≡ x
ok_pair_first a b x y h = let e : ◌≡◌ {A = ℕ × ℕ} (a, b) (x, y) = cc in ap (λ p. p.0) e

pub varint_one : (bytes : List ℕ) (word n : ℕ) → ◌≡◌ {A = Result (ℕ × ℕ) WireError} (Ok (word, n)) (value_at bytes) → IsOne Varint bytes n
varint_one bytes word n h = of (varint_at bytes) refl h
  where
    of : (read : Front (List ℕ)) → varint_at bytes ≡ read → ◌≡◌ {A = Result (ℕ × ℕ) WireError} (Ok (word, n)) (placed 0 (read >>= λ r. Ok (varint_value r.0, length r.0))) → IsOne Varint bytes n
    of (Err f) is e = absurd (cc)
    of (Ok r) is e =
        let taken = varint_at_takes bytes r.0 r.1 is in
        let len : n ≡ length r.0 = ok_pair_is word n (varint_value r.0) (length r.0) e in
        let size = length-append r.0 r.1 in
        let front : take n bytes ≡ r.0 = ap₂ take len taken.1 ∙ take_at r.0 r.1 (length r.0) refl in
        let back : drop n bytes ≡ r.1 = ap₂ drop len taken.1 ∙ drop_at r.0 r.1 (length r.0) refl in
        (is ∙ ap₂ (λ x y. Ok (x, y)) (sym front) (sym back), omega (arith, length-IsVarint r.0 taken.0), omega (arith, ap length taken.1))

-- Rows, step by step.

abbrev Shortens : {A : Type 0} → (List ℕ → Front A) → Type 0
Shortens {A} read = (bytes : List ℕ) (a : A) (rest : List ℕ) → read bytes ≡ Ok (a, rest) → length rest < length bytes

module _ {A : Type 0} (read : List ℕ → Front A) (shortens : Shortens read) where
  enough : (n m : ℕ) (bytes : List ℕ) → length bytes ≤ n → length bytes ≤ m → row_within n read bytes ≡ row_within m read bytes
  enough zero zero bytes h k = refl
  enough zero (suc m) [] h k = refl
  enough zero (suc m) (b ∷ bytes) h k = absurd (omega arith)
  enough (suc n) zero [] h k = refl
  enough (suc n) zero (b ∷ bytes) h k = absurd (omega arith)
  enough (suc n) (suc m) [] h k = refl
  enough (suc n) (suc m) (b ∷ bytes) h k = of (λ rest shorter. enough n m rest (omega arith) (omega arith)) (read (b ∷ bytes)) refl
    where
      of : ((rest : List ℕ) → length rest < length (b ∷ bytes) → row_within n read rest ≡ row_within m read rest) → (front : Front A) → read (b ∷ bytes) ≡ front
          → (front >>= λ first. row_within n read first.1 >>= λ others. Ok (first.0 ∷ others)) ≡ (front >>= λ first. row_within m read first.1 >>= λ others. Ok (first.0 ∷ others))
      of below (Err f) is = refl
      of below (Ok first) is = ap (λ r. r >>= λ others. Ok (first.0 ∷ others)) (below first.1 (shortens (b ∷ bytes) first.0 first.1 is))

  pub row-step : (bytes : List ℕ) (a : A) (rest : List ℕ) → read bytes ≡ Ok (a, rest) → row read bytes ≡ (row read rest >>= λ others. Ok (a ∷ others))
  unfolding row
  row-step [] a rest is = absurd (let shorter = shortens [] a rest is in omega arith)
  row-step (b ∷ bytes) a rest is =
      let shorter = shortens (b ∷ bytes) a rest is in
      enough (length (b ∷ bytes)) (suc (length (b ∷ bytes))) (b ∷ bytes) (omega arith) (omega arith)
      ∙ ap (λ front. front >>= λ first. row_within (length (b ∷ bytes)) read first.1 >>= λ others. Ok (first.0 ∷ others)) is
      ∙ ap (λ r. r >>= λ others. Ok (a ∷ others)) (enough (length (b ∷ bytes)) (length rest) rest (omega arith) (omega arith))

  pub row-stop : (bytes : List ℕ) (f : Fault) → 1 ≤ length bytes → read bytes ≡ Err f → row read bytes ≡ Err f
  unfolding row
  row-stop [] f some is = absurd (omega arith)
  row-stop (b ∷ bytes) f some is =
      enough (length (b ∷ bytes)) (suc (length (b ∷ bytes))) (b ∷ bytes) (omega arith) (omega arith)
      ∙ ap (λ front. front >>= λ first. row_within (length (b ∷ bytes)) read first.1 >>= λ others. Ok (first.0 ∷ others)) is

  pub row-end : row read [] ≡ Ok []
  unfolding row
  row-end = refl

pub element_shortens : (wire : WireType) → Shortens (element_at wire)
element_shortens Varint bytes a rest h = let taken = varint_at_takes bytes a rest h in omega (arith, ap length taken.1, length-append a rest, length-IsVarint a taken.0)
element_shortens I64 bytes a rest h = let taken = exactly_takes 8 bytes a rest h in omega (arith, ap length taken.1, length-append a rest, taken.0)
element_shortens I32 bytes a rest h = let taken = exactly_takes 4 bytes a rest h in omega (arith, ap length taken.1, length-append a rest, taken.0)
element_shortens Len bytes a rest h = absurd (cc)

-- the words that are read of a packed list up to an index
pub record RowSoFar (wire : WireType) (body : List ℕ) (start : ℕ) (old now : List ℕ) : Type 0 where
  pub inside : start ≤ length body
  pub done : List (List ℕ)
  pub now_is : now ≡ old ++ map (word_in wire) done
  pub words : AllByRecursion (λ b. IsWord wire (word_in wire b)) done
  pub row_ok : (others : List (List ℕ)) → row (element_at wire) (drop start body) ≡ Ok others → row (element_at wire) body ≡ Ok (done ++ others)
  pub row_err : (f : Fault) → row (element_at wire) (drop start body) ≡ Err f → row (element_at wire) body ≡ Err f

module _ (wire : WireType) (body : List ℕ) (old : List ℕ) where
  pub row_begin : RowSoFar wire body 0 old old
  row_begin = search (rules, arith, append-nil)

  module _ (start : ℕ) (now : List ℕ) (a : RowSoFar wire body start old now) where
    pub row_done : length body ≤ start → WordsRead wire body old now
    row_done end =
        let none : drop start body ≡ [] = drop_all start body end in
        let whole = a.row_ok [] (ap (row (element_at wire)) none ∙ row-end (element_at wire) (element_shortens wire)) in
        (a.done, whole ∙ ap (λ bs. Ok bs) (append-nil a.done), a.now_is, a.words)

    pub row_broken : start < length body → (f : Fault) → element_at wire (drop start body) ≡ Err f → row (element_at wire) body ≡ Err f
    row_broken inside f h = a.row_err f (row-stop (element_at wire) (element_shortens wire) (drop start body) f (omega (arith, length-drop start body)) h)

    pub row_onward : (n word : ℕ) → IsOne wire (drop start body) n → word_in wire (take n (drop start body)) ≡ word → IsWord wire word → RowSoFar wire body (start + n) old (now ++ word ∷ [])
    row_onward n word one read is_word =
        let rest_is : drop n (drop start body) ≡ drop (start + n) body = drop-drop n start body in
        let step = row-step (element_at wire) (element_shortens wire) (drop start body) (take n (drop start body)) (drop n (drop start body)) one.0
        ∙ ap (λ xs. row (element_at wire) xs >>= λ others. Ok (take n (drop start body) ∷ others)) rest_is in
        record {
          inside = omega (arith, one.2, length-drop start body);
          done = a.done ++ take n (drop start body) ∷ [];
          now_is = ap (λ xs. xs ++ word ∷ []) a.now_is ∙ append_assoc old (map (word_in wire) a.done) (word ∷ [])
              ∙ ap (λ w. old ++ (map (word_in wire) a.done ++ w ∷ [])) (sym read)
              ∙ ap (λ xs. old ++ xs) (sym (map-append (word_in wire) a.done (take n (drop start body) ∷ [])));
          words = each-append (λ b. IsWord wire (word_in wire b)) a.done (take n (drop start body) ∷ []) a.words (subst (IsWord wire) (sym read) is_word, tt);
          row_ok = λ others h.
              a.row_ok (take n (drop start body) ∷ others) (step ∙ ap (λ r. r >>= λ others. Ok (take n (drop start body) ∷ others)) h)
              ∙ ap (λ xs. Ok xs) (sym (append_assoc a.done (take n (drop start body) ∷ []) others));
          row_err = λ f h. a.row_err f (step ∙ ap (λ r. r >>= λ others. Ok (take n (drop start body) ∷ others)) h);
        }

-- a row that has a fault is none
pub row_fault : (wire : WireType) (body : List ℕ) (f : Fault) → row (element_at wire) body ≡ Err f → IsRow wire body → ⊥
row_fault wire body f is row_is = let clash : ◌≡◌ {A = Result (List (List ℕ)) Fault} (Err f) (Ok row_is.0) = sym is ∙ row_is.1 in cc

-- the numbers of a row are those of its words
module _ (s : Scalar) (packable : is_packable (elements.Scalar s) ≡ true) where
  abbrev own_wire : WireType
  own_wire = form_wire (scalar_form s)

  abbrev own_item : ℕ → ValueRef
  own_item word = number_item (scalar_form s) word

  row_leaves : (bodies : List (List ℕ)) → AllByRecursion (λ b. IsWord own_wire (word_in own_wire b)) bodies
      → all_some (map (leaf_in (scalar_form s)) bodies) ≡ Some (map leaf_of (map own_item (map (word_in own_wire) bodies)))
  row_leaves [] words = refl
  row_leaves (b ∷ bs) words = rw (number_read s b packable words.0.0, row_leaves bs words.1)

  row_kept : (bodies : List (List ℕ)) → AllByRecursion (λ b. IsWord own_wire (word_in own_wire b)) bodies → AllByRecursion (IsItemKept s) (map own_item (map (word_in own_wire) bodies))
  row_kept [] words = tt
  row_kept (b ∷ bs) words = (number_kept s (word_in own_wire b) packable words.0, row_kept bs words.1)

  pub row_numbers : (body old new : List ℕ) → WordsRead own_wire body old new → RowReads s body old new
  row_numbers body old new h = (
    map (word_in own_wire) h.0,
    h.2,
    ap (λ r. option_and_then (λ bodies. all_some (map (leaf_in (scalar_form s)) bodies)) (option_from r)) h.1 ∙ row_leaves h.0 h.3,
    row_kept h.0 h.3,
  )

-- a packed list that can be read is a row
pub row_there : (s : Scalar) (body : List ℕ) → is_some (packed_leaves (scalar_form s) body) ≡ true → IsRow (form_wire (scalar_form s)) body
row_there s body some = search (rules, true≢false)

-- a length that is there, or isn't
pub if_there : (wire : WireType) (len : ℕ) (bytes : List ℕ) → 1 ≤ len → element_at wire bytes ≡ exactly len bytes → len ≤ length bytes → IsOne wire bytes len
if_there wire len bytes some is h = (is ∙ exact_ok len bytes h, some, h)

pub if_short : (wire : WireType) (len : ℕ) (bytes : List ℕ) → element_at wire bytes ≡ exactly len bytes → length bytes < len
    → (fault : Fault) × (element_at wire bytes ≡ Err fault) × (error_at Truncated 0 ≡ error_at fault 0)
if_short wire len bytes is h = (Truncated, is ∙ exact_err len bytes h, refl)

-- an error of what is first, that many bytes further
pub error_after : (f : Fault) (e : WireError) (at : ℕ) → e ≡ error_at f 0 → error_at (fault_of e) (place_of e + at) ≡ error_at f at
error_after f e at is = search (rules, arith, fault_of-error_at)

pub to_end : (body : List ℕ) (start : ℕ) → take (length body - start) (drop start body) ≡ drop start body
to_end body start = take_all (length body - start) (drop start body) (omega (arith, length-drop start body))

-- Words at the front.

-- the word at the front is that of the first element
pub front_word : (bytes : List ℕ) (word n : ℕ) → ◌≡◌ {A = Result (ℕ × ℕ) WireError} (Ok (word, n)) (value_at bytes) → word_in Varint (take n bytes) ≡ word
unfolding word_in
front_word bytes word n h = of (varint_at bytes) refl h
  where
    of : (read : Front (List ℕ)) → varint_at bytes ≡ read → ◌≡◌ {A = Result (ℕ × ℕ) WireError} (Ok (word, n)) (placed 0 (read >>= λ r. Ok (varint_value r.0, length r.0))) → varint_value (take n bytes) ≡ word
    of (Err f) is e = absurd (cc)
    of (Ok r) is e =
        let taken = varint_at_takes bytes r.0 r.1 is in
        let len : n ≡ length r.0 = ok_pair_is word n (varint_value r.0) (length r.0) e in
        let front : take n bytes ≡ r.0 = ap₂ take len taken.1 ∙ take_at r.0 r.1 (length r.0) refl in
        ap varint_value front ∙ sym (ok_pair_first word n (varint_value r.0) (length r.0) e)

-- a varint that is read is the first element, and its word
pub varint_is_one : (bytes : List ℕ) (r : Result (ℕ × ℕ) WireError) → r ≡ value_at bytes → IfOk r (λ read. IsOne Varint bytes read.1)
varint_is_one bytes (Ok read) h = varint_one bytes read.0 read.1 h
varint_is_one bytes (Err e) h = tt

pub varint_is_word : (bytes : List ℕ) (r : Result (ℕ × ℕ) WireError) → r ≡ value_at bytes → IfOk r (λ read. (word_in Varint (take read.1 bytes) ≡ read.0) × HasBits Varint read.0)
varint_is_word bytes (Ok read) h = (front_word bytes read.0 read.1 h, tt)
varint_is_word bytes (Err e) h = tt
