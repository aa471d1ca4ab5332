-- What is written of a message has no message deeper than the message's levels.
use Rattle.std.proofs.Common.{◌≡◌, ℕ, zero, suc, ◌≤◌, max, Bool, true, false, cond, not, nat_eq, ◌&&◌, ◌||◌, ◌⊎◌, inl, inr, List, [], ◌∷◌, ◌++◌, length, map, filter, get_or, Some, Ok, refl, ap, ap₂, sym, subst, ◌∙◌, arith, length-append, rules}
use Rattle.std.proofs.lemmas.Bool.{false≢true}
use Rattle.std.proofs.lemmas.Option.{none-some, same_Some}
use Rattle.std.specs.List.{AllByRecursion, list_all, list_any}
use Rattle.pg_schema.specs.declared.parts.field.Element.{Element}
use Rattle.pg_schema.specs.declared.parts.field.Element.TheVariants as elements
use Rattle.pg_schema.specs.declared.parts.field.Presence.{Presence}
use Rattle.pg_schema.specs.declared.parts.field.Presence.TheVariants as presences
use Rattle.pg_schema.specs.declared.parts.field.TypeId.{TypeId}
use Rattle.pg_schema.specs.Shape.{FieldShape, Shape, field_at, fields, is_map}
use Rattle.pg_schema.specs.ShapeRules.{IsShape}
use Rattle.pg_wire.specs.Records.{IsRecord, Spells, WireRecord, record_at, written}
use Rattle.pg_wire.proofs.Bind.{ok_pair}
use Rattle.pg_wire.proofs.RecordLaws.{record_at_takes}
use Rattle.pg_dyn.specs.fitting.Belonging.{IsMessage, IsUnknown, LeafFits}
use Rattle.pg_dyn.specs.word.Coding.{body, form}
use Rattle.pg_dyn.specs.reading.Content.{is_unknown, takes}
use Rattle.pg_dyn.specs.encoding.Encoding.{cap, child_type, enc, encoded_parts}
use Rattle.pg_dyn.specs.laws.Laws.{EncodingSpells, WritingSplits, of_number}
use Rattle.pg_dyn.specs.message.Message.{Bytes, Leaf, Message, Part, ends, holds, is_of, nests, unknown_of}
use Rattle.pg_dyn.specs.reading.Faults.{TooDeepIn, TooDeepOf, in_child, in_entry, in_record, missing_value, the_child, the_root}
use Rattle.pg_dyn.specs.encoding.Writing.{field_records, item_record, records_in}
use Rattle.pg_dyn.proofs.lemmas.fitting.Belonging.{child_type_is, fields-IsType}
use Rattle.pg_dyn.proofs.lemmas.reading.faults.Faulty.{first_of, nonempty, split_at}
use Rattle.pg_schema.proofs.lemmas.rules.PairLemmas.{and_left, and_right}
use Rattle.pg_set.proofs.lemmas.lists.Matched.{Has}
use Rattle.pg_set.proofs.lemmas.lists.Tests.{itself, or_right, same_number}

-- how many levels a message has: its own, and those of the deepest message in it
abbrev pub levels : Message → ℕ
levels (ends unknown) = 1
levels (holds number key leaf later) = levels later
levels (nests number key child later) = max (suc (levels child)) (levels later)

-- neither packed nor a map
abbrev is_flat : Presence → Bool
is_flat presences.Implicit = true
is_flat presences.Explicit = true
is_flat (presences.Repeated packed) = not packed
is_flat (presences.Map key) = false

abbrev is_flat_field : FieldShape → Bool
is_flat_field f = is_flat f.presence

abbrev pub AreFlat : Shape → Type 0
AreFlat shape = list_all (λ fs. list_all is_flat_field fs) shape ≡ true

-- What is written of a message, of types without maps and packed fields, has no message deeper than the message's levels.
abbrev pub NoneTooDeep : Type 0
NoneTooDeep =
    (shape : Shape) (type : TypeId) (m : Message) (limit place : ℕ) → IsShape shape → AreFlat shape → IsMessage shape type m → length (enc shape type m) ≤ cap →
    levels m ≤ limit → TooDeepIn shape limit (fields shape type) (enc shape type m) place → ⊥

-- ---- lists

has_mid : {A : Type 0} (xs : List A) (x : A) (ys : List A) → Has (λ y. y ≡ x) (xs ++ x ∷ ys)
has_mid [] x ys = inl refl
has_mid (z ∷ xs) x ys = inr (has_mid xs x ys)

has_filtered : {A : Type 0} (test : A → Bool) (xs : List A) (x : A) → test x ≡ true → Has (λ y. y ≡ x) xs → Has (λ y. y ≡ x) (filter test xs)
has_filtered test [] x passes has = has
has_filtered test (y ∷ xs) x passes (inl here) = search rules
has_filtered test (y ∷ xs) x passes (inr later) = search (rules, has_filtered test xs x passes later)

has_either : {A : Type 0} (P : A → Type 0) (xs ys : List A) → Has P (xs ++ ys) → Has P xs ⊎ Has P ys
has_either P [] ys has = inr has
has_either P (x ∷ xs) ys (inl here) = inl (inl here)
has_either P (x ∷ xs) ys (inr later) = elim (has_either P xs ys later) [ inl front ↦ inl (inr front) | inr back ↦ inr back ]

has_of_map : {A B : Type 0} (P : B → Type 0) (f : A → B) (xs : List A) → Has P (map f xs) → (x : A) × Has (λ y. y ≡ x) xs × P (f x)
has_of_map P f [] has = absurd has
has_of_map P f (x ∷ xs) (inl here) = (x, inl refl, here)
has_of_map P f (x ∷ xs) (inr later) = let (y, there, is) = has_of_map P f xs later in (y, inr there, is)

all_has : {A : Type 0} (P Q : A → Type 0) (xs : List A) → AllByRecursion P xs → Has Q xs → (x : A) × P x × Q x
all_has P Q [] all has = absurd has
all_has P Q (x ∷ xs) all (inl here) = (x, all.0, here)
all_has P Q (x ∷ xs) all (inr later) = all_has P Q xs all.1 later

one_level : (m : Message) → 1 ≤ levels m
one_level (ends unknown) = omega arith
one_level (holds number key leaf later) = one_level later
one_level (nests number key child later) = omega arith

-- ---- where a message is too deep

record InRecord (shape : Shape) (limit : ℕ) (fs : List FieldShape) (bytes : List ℕ) : Type 0 where
  front : List ℕ
  back : List ℕ
  rest : List ℕ
  before : List WireRecord
  first : WireRecord
  field : FieldShape
  place : ℕ
  spelled : Spells front before
  joined : bytes ≡ front ++ back
  read : record_at back ≡ Ok (first, rest)
  found : field_at fs first.number ≡ Some field
  taken : takes field first ≡ true
  deep : TooDeepOf shape limit field first place

in_of : (shape : Shape) (limit : ℕ) (fs : List FieldShape) (bytes : List ℕ) (place : ℕ) → TooDeepIn shape limit fs bytes place → (limit ≡ 0) ⊎ ((l : ℕ) × (limit ≡ suc l) × InRecord shape l fs bytes)
in_of shape _ fs bytes _ (the_root _ _) = inl refl
in_of shape _ fs bytes _ (in_record limit _ _ front back rest r f _ place joined spelled read found taken deep) =
    inr (limit, refl, record { front = front; back = back; rest = rest; before = spelled.0; first = r; field = f; place = place; spelled = spelled.1; joined = joined; read = read; found = found; taken = taken; deep = deep })

abbrev InChild : Shape → ℕ → FieldShape → WireRecord → Type 0
InChild shape limit f r = (t : TypeId) × (f.element ≡ elements.Message t) × ((limit ≡ 0) ⊎ ((place : ℕ) × TooDeepIn shape limit (fields shape t) r.body place))

of_of : (shape : Shape) (limit : ℕ) (f : FieldShape) (r : WireRecord) (place : ℕ) → TooDeepOf shape limit f r place → InChild shape limit f r ⊎ (is_map f.presence ≡ true)
of_of shape _ f r _ (the_child _ _ t no_map message) = inl (t, message, inl refl)
of_of shape _ f r _ (in_child limit _ _ t _ place no_map message deep) = inl (t, message, inr (place, deep))
of_of shape limit f r _ (in_entry _ _ _ key _ place is deep) = inr (ap is_map is)
of_of shape _ f r _ (missing_value _ _ key t rs is message spelled none before) = inr (ap is_map is)

-- ---- the record's message

flat_fields : (shape : Shape) (i : ℕ) → list_all (λ fs. list_all is_flat_field fs) shape ≡ true → list_all is_flat_field (get_or shape i []) ≡ true
flat_fields [] i flat = refl
flat_fields (fs ∷ shape) zero flat = and_left (list_all is_flat_field fs) (list_all (λ gs. list_all is_flat_field gs) shape) flat
flat_fields (fs ∷ shape) (suc i) flat = flat_fields shape i (and_right (list_all is_flat_field fs) (list_all (λ gs. list_all is_flat_field gs) shape) flat)

flat_found : (fs : List FieldShape) (n : ℕ) (f : FieldShape) → list_all is_flat_field fs ≡ true → field_at fs n ≡ Some f → is_flat f.presence ≡ true
flat_found [] n f flat is = absurd (none-some f is)
flat_found (g ∷ fs) n f flat is = of (nat_eq g.number n) (is_flat g.presence) refl flat is (flat_found fs n f)
  where
    of : (b c : Bool) → is_flat g.presence ≡ c → (c && list_all is_flat_field fs) ≡ true → cond b (Some g) (field_at fs n) ≡ Some f
        → (list_all is_flat_field fs ≡ true → field_at fs n ≡ Some f → is_flat f.presence ≡ true) → is_flat f.presence ≡ true
    of true true own all same later = ap (λ (x : FieldShape). is_flat x.presence) (sym (same_Some g f same)) ∙ own
    of false true own all same later = later all same
    of b false own all same later = absurd (false≢true all)

-- a flat field has a record for each item
flat_records : (f : FieldShape) (ps : List (Part Leaf)) → is_flat f.presence ≡ true → field_records f ps ≡ map (λ (p : Part Leaf). item_record f.number f.element p.item) ps
flat_records f ps flat = search (rules, false≢true)

flat_is_no_map : (p : Presence) → is_flat p ≡ true → is_map p ≡ true → ⊥
flat_is_no_map presences.Implicit flat map = false≢true map
flat_is_no_map presences.Explicit flat map = false≢true map
flat_is_no_map (presences.Repeated packed) flat map = false≢true map
flat_is_no_map (presences.Map key) flat map = false≢true flat

taken_known : (fs : List FieldShape) (r : WireRecord) (f : FieldShape) → field_at fs r.number ≡ Some f → takes f r ≡ true → is_unknown fs r ≡ true → ⊥
taken_known fs r f found taken unknown = no (list_any (λ g. takes g r) fs) (any fs found) unknown
  where
    no : (b : Bool) → b ≡ true → not b ≡ true → ⊥
    no b e h = false≢true (sym (ap not e) ∙ h)

    any : (gs : List FieldShape) → field_at gs r.number ≡ Some f → list_any (λ g. takes g r) gs ≡ true
    any [] is = absurd (none-some f is)
    any (g ∷ gs) is = of (nat_eq g.number r.number) is (any gs)
      where
        of : (b : Bool) → cond b (Some g) (field_at gs r.number) ≡ Some f → (field_at gs r.number ≡ Some f → list_any (λ h. takes h r) gs ≡ true) → (takes g r || list_any (λ h. takes h r) gs) ≡ true
        of true same later = ap (λ b. b || list_any (λ h. takes h r) gs) (ap (λ x. takes x r) (same_Some g f same) ∙ taken)
        of false same later = or_right (takes g r) (list_any (λ h. takes h r) gs) (later same)

unknown_each : (shape : Shape) (type : TypeId) (m : Message) → IsMessage shape type m → AllByRecursion (IsUnknown (fields shape type)) (unknown_of m)
unknown_each shape type (ends unknown) is = is
unknown_each shape type (holds number key leaf later) is = unknown_each shape type later is.2
unknown_each shape type (nests number key child later) is = unknown_each shape type later is.4

-- the child that is in a part
record IsChild (shape : Shape) (t : TypeId) (m : Message) (leaf : Leaf) : Type 0 where
  child : Message
  is : IsMessage shape t child
  bytes : leaf ≡ Bytes (enc shape t child)
  lower : suc (levels child) ≤ levels m

no_leaf : (f : FieldShape) (t : TypeId) (leaf : Leaf) → f.element ≡ elements.Message t → LeafFits f leaf → ⊥
no_leaf f t leaf is fits = search rules

same_type : (a b : TypeId) (e : Element) → e ≡ elements.Message a → e ≡ elements.Message b → a ≡ b
same_type a b e is_a is_b = let same : elements.Message a ≡ elements.Message b = sym is_a ∙ is_b in cc

child_there : (shape : Shape) (type : TypeId) (f : FieldShape) (t : TypeId) (n : ℕ) → field_at (fields shape type) n ≡ Some f → f.element ≡ elements.Message t → (m : Message) → IsMessage shape type m
    → (p : Part Leaf) → Has (λ q. q ≡ p) (filter (is_of n) (encoded_parts shape type m)) → IsChild shape t m p.item
unfolding enc
child_there shape type f t n found message (ends unknown) is p has = absurd has
child_there shape type f t n found message (holds number key leaf later) is p has = of (nat_eq number n) refl has (child_there shape type f t n found message later is.2 p)
  where
    of : (b : Bool) → nat_eq number n ≡ b → Has (λ q. q ≡ p) (cond b (record { number = number; key = key; item = leaf } ∷ filter (is_of n) (encoded_parts shape type later)) (filter (is_of n) (encoded_parts shape type later)))
        → (Has (λ q. q ≡ p) (filter (is_of n) (encoded_parts shape type later)) → IsChild shape t later p.item) → IsChild shape t (holds number key leaf later) p.item
    of true same (inl here) below =
        let e : is.0.field ≡ f = same_Some is.0.field f (sym is.0.found ∙ (ap (field_at (fields shape type)) (same_number number n same) ∙ found)) in
        absurd (no_leaf is.0.field t leaf (ap (λ (x : FieldShape). x.element) e ∙ message) is.1)
    of true same (inr further) below = let c = below further in record { child = c.child; is = c.is; bytes = c.bytes; lower = c.lower }
    of false other h below = let c = below h in record { child = c.child; is = c.is; bytes = c.bytes; lower = c.lower }
child_there shape type f t n found message (nests number key child later) is p has = of (nat_eq number n) refl has (child_there shape type f t n found message later is.4 p)
  where
    deeper : (a b c : ℕ) → a ≤ b → a ≤ max c b
    deeper a b c h = omega arith

    here_deep : (a b : ℕ) → a ≤ max a b
    here_deep a b = omega arith

    own : List ℕ
    own = enc shape (child_type (fields shape type) number) child

    of : (b : Bool) → nat_eq number n ≡ b
        → Has (λ q. q ≡ p) (cond b (record { number = number; key = key; item = Bytes (enc shape (child_type (fields shape type) number) child) } ∷ filter (is_of n) (encoded_parts shape type later)) (filter (is_of n) (encoded_parts shape type later)))
        → (Has (λ q. q ≡ p) (filter (is_of n) (encoded_parts shape type later)) → IsChild shape t later p.item) → IsChild shape t (nests number key child later) p.item
    of true same (inl here) below =
        let e : is.0.field ≡ f = same_Some is.0.field f (sym is.0.found ∙ (ap (field_at (fields shape type)) (same_number number n same) ∙ found)) in
        let kind : is.1 ≡ t = same_type is.1 t is.0.field.element is.2 (ap (λ (x : FieldShape). x.element) e ∙ message) in
        let at : child_type (fields shape type) number ≡ t = child_type_is (fields shape type) number is.0.field is.1 is.0.found is.2 ∙ kind in
        record {
          child = child;
          is = subst (λ s. IsMessage shape s child) kind is.3;
          bytes = sym (ap (λ (q : Part Leaf). q.item) here) ∙ ap (λ s. Bytes (enc shape s child)) at;
          lower = here_deep (suc (levels child)) (levels later);
        }
    of true same (inr further) below = let c = below further in record { child = c.child; is = c.is; bytes = c.bytes; lower = deeper (suc (levels c.child)) (levels later) (suc (levels child)) c.lower }
    of false other h below = let c = below h in record { child = c.child; is = c.is; bytes = c.bytes; lower = deeper (suc (levels c.child)) (levels later) (suc (levels child)) c.lower }

body_of_item : (n : ℕ) (e : Element) (t : TypeId) (leaf : Leaf) (bytes : List ℕ) → e ≡ elements.Message t → leaf ≡ Bytes bytes → (item_record n e leaf).body ≡ bytes
unfolding written
body_of_item n e t leaf bytes message is = ap₂ (λ x l. body (form x) l) message is

-- a record is longer than its body
body_within : (r : WireRecord) → IsRecord r → length r.body ≤ length r.bytes
body_within r h = rw (h.bytes_are) (omega (arith, length-append (h.tag ++ h.before) r.body, length-append h.tag h.before))

module _ (spells : EncodingSpells) (splits : WritingSplits) (shape : Shape) (is_shape : IsShape shape) (flat : AreFlat shape) where
  -- the record's message is one of the message's children
  inside : (type : TypeId) (m : Message) (l : ℕ) → IsMessage shape type m → length (enc shape type m) ≤ cap → (at : InRecord shape l (fields shape type) (enc shape type m)) → (t : TypeId) → at.field.element ≡ elements.Message t
      → (child : Message) × IsMessage shape t child × (at.first.body ≡ enc shape t child) × (suc (levels child) ≤ levels m) × (length at.first.body ≤ length (enc shape type m))
  inside type m l is short at t message =
      let fs = fields shape type in
      let r = at.first in
      let n = r.number in
      let rs = records_in fs (encoded_parts shape type m) in
      let rising = (fields-IsType shape type is_shape).rising in
      let (taken, whole) = record_at_takes at.back r at.rest at.read in
      let split = split_at (enc shape type m) at.front at.back at.before (rs ++ unknown_of m) at.joined at.spelled (spells shape type m is_shape is short) in
      let first = first_of at.back split.others split.spelled (nonempty at.back r at.rest at.read) in
      let same : first.first ≡ r = (ok_pair first.first r _ at.rest (sym first.read ∙ at.read)).0 in
      let among : Has (λ x. x ≡ r) (rs ++ unknown_of m) =
      subst (λ xs. Has (λ x. x ≡ r) xs) (sym (split.are ∙ (ap (λ xs. at.before ++ xs) first.are ∙ ap (λ x. at.before ++ x ∷ first.others) same))) (has_mid at.before r first.others) in
      let flat_field : is_flat at.field.presence ≡ true = flat_found fs n at.field (flat_fields shape type.index flat) at.found in
      elim (has_either (λ x. x ≡ r) rs (unknown_of m) among) [
        | inr unknown ↦
            let (x, not_known, e) = all_has (IsUnknown fs) (λ x. x ≡ r) (unknown_of m) (unknown_each shape type m is) unknown in
            absurd (taken_known fs r at.field at.found at.taken (subst (λ y. is_unknown fs y ≡ true) e not_known.not_accepted))
        | inl known ↦
            let own : Has (λ x. x ≡ r) (map (λ (p : Part Leaf). item_record at.field.number at.field.element p.item) (filter (is_of n) (encoded_parts shape type m))) =
            subst (λ xs. Has (λ x. x ≡ r) xs) ((splits fs (encoded_parts shape type m) n rising).0 at.field at.found ∙ flat_records at.field (filter (is_of n) (encoded_parts shape type m)) flat_field)
            (has_filtered (of_number n) rs r (itself n) known) in
            let (p, there, made) = has_of_map (λ x. x ≡ r) (λ (q : Part Leaf). item_record at.field.number at.field.element q.item) (filter (is_of n) (encoded_parts shape type m)) own in
            let c = child_there shape type at.field t n at.found message m is p there in
            let long : length r.body ≤ length (enc shape type m) =
            omega (arith, body_within r taken, ap length at.joined, length-append at.front at.back, ap length whole, length-append r.bytes at.rest) in
            (c.child, c.is, sym (ap (λ (x : WireRecord). x.body) made) ∙ body_of_item at.field.number at.field.element t p.item (enc shape t c.child) message c.bytes, c.lower, long)
      ]

  abbrev NoneDeep : ℕ → Type 0
  NoneDeep limit = (type : TypeId) (m : Message) (place : ℕ) → IsMessage shape type m → length (enc shape type m) ≤ cap → levels m ≤ limit → TooDeepIn shape limit (fields shape type) (enc shape type m) place → ⊥

  -- what is too deep is so in a child
  in_child_too : (limit : ℕ) → NoneDeep limit → (type : TypeId) (m : Message) → IsMessage shape type m → length (enc shape type m) ≤ cap → levels m ≤ suc limit
      → (l : ℕ) → l ≡ limit → InRecord shape l (fields shape type) (enc shape type m) → ⊥
  in_child_too limit lower type m is short low l same at =
      elim (of_of shape l at.field at.first at.place at.deep) [
        | inr map ↦ flat_is_no_map at.field.presence (flat_found (fields shape type) at.first.number at.field (flat_fields shape type.index flat) at.found) map
        | inl found ↦
            let (child, is_child, body_is, above, within) = inside type m l is short at found.0 found.1 in
            elim found.2 [
              | inl none ↦ let one = one_level child in absurd (omega (arith, one, above, low, same, none))
              | inr deep ↦
                  lower found.0 child deep.0 is_child (let e = ap length body_is in omega (arith, e, within, short)) (omega (arith, above, low))
                  (subst (λ bs. TooDeepIn shape limit (fields shape found.0) bs deep.0) body_is (subst (λ n. TooDeepIn shape n (fields shape found.0) at.first.body deep.0) same deep.1))
            ]
      ]

  none_deep : (limit : ℕ) → NoneDeep limit
  none_deep zero type m place is short low deep = let one = one_level m in absurd (omega (arith, one, low))
  none_deep (suc limit) type m place is short low deep =
      let found = in_of shape (suc limit) (fields shape type) (enc shape type m) place deep in
      of (λ l same at. in_child_too limit (none_deep limit) type m is short low l same at) found
    where
      of : ((l : ℕ) → l ≡ limit → InRecord shape l (fields shape type) (enc shape type m) → ⊥) → (suc limit ≡ 0) ⊎ ((l : ℕ) × (suc limit ≡ suc l) × InRecord shape l (fields shape type) (enc shape type m)) → ⊥
      of lower (inl none) = absurd (omega (arith, none))
      of lower (inr found) = lower found.0 (let e = found.1 in omega (arith, e)) found.2

pub none_too_deep : (spells : EncodingSpells) (splits : WritingSplits) → NoneTooDeep
none_too_deep spells splits shape type m limit place is_shape flat is short low deep = none_deep spells splits shape is_shape flat limit type m place is short low deep
