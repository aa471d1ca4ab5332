-- What a message's encoding is read as decides whether it breaks.
use Rattle.std.proofs.Common.{◌≡◌, ◌<◌, ◌≤◌, ◌↔◌, ℕ, zero, suc, List, [], ◌∷◌, ◌++◌, length, get_or, filter, Bool, true, false, not, IsTrue, nat_eq, Some, None, refl, ap, ap₂, sym, ◌∙◌, subst, arith, eqb-true, eq-eqb, true≢false, rules}
use Rattle.std.specs.List.{list_all}
use Rattle.std.proofs.lemmas.Bool.{not-true}
use Rattle.pg_schema.specs.declared.parts.field.TypeId.{TypeId}
use Rattle.pg_schema.specs.Shape.{Shape, FieldShape, fields, field_at}
use Rattle.pg_schema.specs.ShapeRules.{IsShape}
use Rattle.pg_wire.specs.Records.{WireRecord}
use Rattle.pg_dyn.specs.fitting.Belonging.{IsMessage}
use Rattle.pg_dyn.specs.views.Breaking.{Breaks, is_kept}
use Rattle.pg_dyn.specs.views.Comparison.{View, same}
use Rattle.pg_dyn.specs.reading.Decoding.{Reader, dec, read_records}
use Rattle.pg_dyn.specs.encoding.Encoding.{cap, enc, encoded_parts}
use Rattle.pg_dyn.specs.fitting.Fits.{Fits}
use Rattle.pg_dyn.specs.message.Kept.{Kept, message_of, type_of}
use Rattle.pg_dyn.specs.message.KeptParts as kept_parts
use Rattle.pg_dyn.specs.laws.Laws.{ReadsAgain}
use Rattle.pg_dyn.specs.message.Message.{Message, unknown_of}
use Rattle.pg_dyn.specs.message.Message as model
use Rattle.pg_dyn.specs.encoding.Writing.{records_in}
use Rattle.pg_dyn.proofs.PublicLaws.{decoding_is, encoding_spells, kept_by_field, plain_is_kept}

-- ---- types

pub same_type : (s t : TypeId) (differ : Bool) → differ ≡ not (nat_eq s.index t.index) → differ ≡ false → s ≡ t
same_type s t differ is h = search (rules, eqb-true)

pub other_type : (s t : TypeId) (differ : Bool) → differ ≡ not (nat_eq s.index t.index) → differ ≡ true → s ≡ t → ⊥
other_type s t differ is h same = search (rules, eq-eqb, true≢false)

-- ---- a type that isn't there keeps everything

past_end : (s : Shape) (i : ℕ) → (i < length s → ⊥) → get_or s i [] ≡ []
past_end [] i h = refl
past_end (fs ∷ s) zero h = absurd (h (omega arith))
past_end (fs ∷ s) (suc i) h = past_end s i (λ k. h (omega arith))

all_true : (rs : List WireRecord) → list_all (λ (r : WireRecord). true) rs ≡ true
all_true [] = refl
all_true (r ∷ rs) = all_true rs

read_by_none : (child : Reader) (rs : List WireRecord) → (w : Message) × (read_records child [] rs ≡ Some w)
read_by_none child rs = (model.message_from [] (filter (λ (r : WireRecord). true) rs), rw (all_true rs) refl)

pub absent_keeps : (view : View) (old new : Shape) (a b : TypeId) (v : Message) → IsShape old → IsShape new → IsMessage old a v → model.IsPlain v → length (enc old a v) ≤ cap → (b.index < length new → ⊥) → is_kept view old new a b v ≡ true
absent_keeps view old new a b v is_old is_new is_message plain short absent =
    let none : fields new b ≡ [] = past_end new b.index absent in
    let all = read_by_none (dec new) (records_in (fields old a) (encoded_parts old a v) ++ unknown_of v) in
    let read : dec new b (enc old a v) ≡ Some all.0 =
    rw (decoding_is new b (enc old a v), encoding_spells old a v is_old is_message short) (ap (λ (gs : List FieldShape). read_records (dec new) gs (records_in (fields old a) (encoded_parts old a v) ++ unknown_of v)) none ∙ all.1) in
    (kept_by_field view old new a b v is_old is_new is_message plain short).1 (
      all.0,
      read,
      λ n f g found_f found_g.
          let clash : None ≡ Some g = ap (λ (gs : List FieldShape). field_at gs n) (sym none) ∙ found_g in absurd (cc),
    )

-- ---- what is read decides

pub kept_is : (view : View) (old new : Shape) (a b : TypeId) (v w : Message) → dec new b (enc old a v) ≡ Some w → is_kept view old new a b v ≡ same view old new a b v w
unfolding is_kept
kept_is view old new a b v w read = rw read refl

pub unread_is : (view : View) (old new : Shape) (a b : TypeId) (v : Message) → dec new b (enc old a v) ≡ None → is_kept view old new a b v ≡ false
unfolding is_kept
unread_is view old new a b v read = rw read refl

module _ (view : View) (old new : Shape) (m : Kept) (a b : TypeId) where
  -- just what breaks, of the type
  abbrev pub Answers : Bool → Type 0
  Answers so = IsTrue so ↔ ((type_of m ≡ a) × Breaks view old new a b (message_of m))

  pub answered : (x : Bool) → type_of m ≡ a → Fits old m → kept_parts.IsPlain m → length (enc old (type_of m) (message_of m)) ≤ cap → is_kept view old new (type_of m) b (message_of m) ≡ x → Answers (not x)
  answered x type_is fits plain short is = search (rules, plain_is_kept, not-true)

  pub of_read : (read : Kept) (x : Bool) → x ≡ same view old new (type_of m) (type_of read) (message_of m) (message_of read) → type_of read ≡ b → dec new b (enc old (type_of m) (message_of m)) ≡ Some (message_of read) → is_kept view old new (type_of m) b (message_of m) ≡ x
  of_read read x is type_is found = search (rules, kept_is)

-- ---- what is read of a message's own encoding is the message

module _ (again : ReadsAgain) (old : Shape) (is_shape : IsShape old) (m lent : Kept) (fits : Fits old m) (short : length (enc old (type_of m) (message_of m)) ≤ cap)
    (bytes : List ℕ) (written : bytes ≡ enc old (type_of m) (message_of m)) (t : TypeId) (of_type : t ≡ type_of m) (read : dec old t bytes ≡ Some (message_of lent)) (type_is : type_of lent ≡ t) where
  lent_message : message_of lent ≡ message_of m
  lent_message = search rules

  lent_bytes : enc old (type_of lent) (message_of lent) ≡ enc old (type_of m) (message_of m)
  lent_bytes = ap₂ (λ u x. enc old u x) (type_is ∙ of_type) lent_message

  pub lent_written : enc old (type_of lent) (message_of lent) ≡ bytes
  lent_written = lent_bytes ∙ sym written

  pub lent_within : length (enc old (type_of lent) (message_of lent)) ≤ cap
  lent_within = subst (λ (xs : List ℕ). length xs ≤ cap) (sym lent_bytes) short

  pub lent_answers : (view : View) (new : Shape) (a b : TypeId) (so : Bool) → Answers view old new lent a b so → Answers view old new m a b so
  lent_answers view new a b so h = search (rules, lent_message)

-- ---- an encoding is read

pub unread_never : (again : ReadsAgain) (old : Shape) → IsShape old → (m : Kept) → Fits old m → length (enc old (type_of m) (message_of m)) ≤ cap → (bytes : List ℕ) → bytes ≡ enc old (type_of m) (message_of m) → (t : TypeId) → t ≡ type_of m → dec old t bytes ≡ None → ⊥
unread_never again old is_shape m fits short bytes written t of_type none = search rules
