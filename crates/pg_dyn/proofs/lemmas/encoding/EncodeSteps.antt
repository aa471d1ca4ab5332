-- The bytes and the lengths of a message, content by content.
use Rattle.std.proofs.Common.{◌⊎◌, ⊎_elim, inl, inr, ◌≡◌, ◌≢◌, ℕ, zero, suc, ◌+◌, ◌-◌, ◌<◌, ◌≤◌, List, [], ◌∷◌, ◌++◌, length, take, drop, get_or, map, flat_map, Bool, true, false, Option, Some, None, Result, Ok, Err, IfOk, OnOk, refl, ap, ap₂, sym, subst, ◌∙◌, arith, add-one, append_assoc, length-append, rules}
use Rattle.std.proofs.lemmas.List.{append-nil}
use Rattle.std.proofs.Common.{take_all}
use Rattle.std.proofs.lemmas.Bool.{ltb-true, ltb-false}
use Rattle.std.specs.List.{AllByRecursion}
use Rattle.pg_schema.specs.declared.parts.field.Scalar.{Scalar}
use Rattle.pg_schema.specs.declared.parts.field.TypeId.{TypeId}
use Rattle.pg_schema.specs.declared.parts.field.Element.{Element}
use Rattle.pg_schema.specs.declared.parts.field.Element.TheVariants as elements
use Rattle.pg_schema.specs.declared.parts.field.Presence.{Presence}
use Rattle.pg_schema.specs.declared.parts.field.Presence.TheVariants as presences
use Rattle.pg_schema.specs.Shape.{Shape, FieldShape, fields, field_at, is_map, is_packable}
use Rattle.pg_schema.specs.ShapeRules.{IsField, IsShape, PresenceFits}
use Rattle.pg_wire.specs.declared.record.WireType.{WireType}
use Rattle.pg_wire.specs.declared.record.WireType.TheVariants.{Len}
use Rattle.pg_wire.specs.Records.{WireRecord, length_before, tag, written}
use Rattle.pg_dyn.specs.declared.error.DynError.{DynError}
use Rattle.pg_dyn.specs.message.Message.{Leaf, Part}
use Rattle.pg_dyn.specs.fitting.Belonging.{KeyFits}
use Rattle.pg_dyn.specs.fitting.Belonging as belonging
use Rattle.pg_dyn.specs.word.Coding.{InRange, body, form, scalar_form}
use Rattle.pg_dyn.specs.fitting.Fits.{Fits}
use Rattle.pg_dyn.specs.message.Kept.{Kept, ends, type_of}
use Rattle.pg_dyn.specs.message.KeptParts.{AreOf, KeptItem, Msg, parts_of, Plain, unknown_of}
use Rattle.pg_dyn.specs.encoding.Lending.{AreKeyed, AreKeyless, Bare, Child, HoldsParts, IsLone, Lone, bare, bare_leaf, entry_part, in_list, item_part}
use Rattle.pg_dyn.specs.message.Replacing.{all_parts, kept_onto}
use Rattle.pg_dyn.specs.fitting.PartsFit.{HoldsItem, HoldsPart, IsPartOf}
use Rattle.pg_dyn.specs.message.Seen.{Rises}
use Rattle.pg_dyn.specs.encoding.Writing.{bytes_of, field_records, is_packed, item_record}
use Rattle.pg_dyn.specs.encoding.Written.{BareFits, CanBePacked, IsLeafOf, LeavesFit, MayNotWrite, capped, entry_record, field_lengths, field_written, item_bytes, item_leaf, item_lengths, own_bytes, packed_body, packed_bytes, packed_lengths, parts_written, records_by, written_part}
use Rattle.pg_dyn.proofs.lemmas.fitting.Belonging.{fields-IsType}
use Rattle.pg_dyn.proofs.lemmas.encoding.EncodedFields.{by_fields, encodes_by_fields, written_row}
use Rattle.pg_dyn.proofs.lemmas.fitting.FitsChecks.{same_field}
use Rattle.pg_dyn.proofs.Lists.{each_after, each_at, each_at_index, each_before, each_weaker, each_within, flat_map-append', flat_map-map, flat_map_same, each_of_all}
use Rattle.pg_dyn.proofs.lemmas.fitting.PartsFit.{parts_hold}
use Rattle.pg_dyn.proofs.lemmas.message.ReplacingLaws.{parts_of-kept_onto}
use Rattle.pg_dyn.proofs.lemmas.reading.records.Splitting.{found_number}

-- a record's bytes are its tag, its length and its body
pub record_is : (n : ℕ) (w : WireType) (b : List ℕ) → (written n w b).bytes ≡ (tag n w ++ length_before w b) ++ b
unfolding written
record_is n w b = refl

pub record_size : (n : ℕ) (w : WireType) (b : List ℕ) → length (written n w b).bytes ≡ length (tag n w) + length (length_before w b) + length b
record_size n w b = let whole = ap length (record_is n w b) in omega (arith, whole, length-append (tag n w ++ length_before w b) b, length-append (tag n w) (length_before w b))

-- what is longer may not be written for the same reason
pub longer : (m n : ℕ) (e : DynError) → m ≤ n → MayNotWrite m e → MayNotWrite n e
longer m n e within why = ⊎_elim inl (λ told. inr (told.0, omega (arith, told.1, within))) why

pub small_or_big : (n m : ℕ) → (n ≤ m) ⊎ (m < n)
small_or_big n m = search (rules, ltb-true, ltb-false)

-- one more of a row, and what is left
module _ {X : Type 0} (b : X → List ℕ) where
  pub row_more : (xs : List X) (i : ℕ) (x : X) → i < length xs → x ≡ get_or xs i x → flat_map b (take (i + 1) xs) ≡ flat_map b (take i xs) ++ b x
  row_more xs i x inside is = ap (λ n. flat_map b (take n xs)) (add-one i) ∙ ap (flat_map b) (take_more xs i x inside is) ∙ flat_map-append' b (take i xs) (x ∷ []) ∙ ap (λ ys. flat_map b (take i xs) ++ ys) (append-nil (b x))
    where
      take_more : (ys : List X) (k : ℕ) (y : X) → k < length ys → y ≡ get_or ys k y → take (suc k) ys ≡ take k ys ++ y ∷ []
      take_more [] k y h e = absurd (omega arith)
      take_more (z ∷ ys) zero y h e = ap (λ w. w ∷ []) (sym e)
      take_more (z ∷ ys) (suc k) y h e = ap (λ ws. z ∷ ws) (take_more ys k y (omega arith) e)

  -- counted, and listed
  pub counted_more : (xs : List X) (i : ℕ) (x : X) (new : ℕ) → i < length xs → x ≡ get_or xs i x → new ≡ capped (length (flat_map b (take i xs)) + length (b x)) → new ≡ capped (length (flat_map b (take (i + 1) xs)))
  counted_more xs i x new inside is counted =
      counted ∙ ap capped (sym (ap length (row_more xs i x inside is) ∙ length-append (flat_map b (take i xs)) (b x)))

  pub counted_all : (xs ys : List X) (i total : ℕ) → xs ≡ ys → length xs ≤ i → total ≡ capped (length (flat_map b (take i xs))) → total ≡ capped (length (flat_map b ys))
  counted_all xs ys i total same past counted = counted ∙ ap (λ zs. capped (length (flat_map b zs))) (take_all i xs past ∙ same)

  pub listed_more : (xs : List X) (i : ℕ) (x : X) (before so_far new : List ℕ) → i < length xs → x ≡ get_or xs i x → so_far ≡ before ++ flat_map b (take i xs) → new ≡ so_far ++ b x → new ≡ before ++ flat_map b (take (i + 1) xs)
  listed_more xs i x before so_far new inside is was added = search (rules, append_assoc, row_more)

  pub listed_all : (xs ys : List X) (i : ℕ) (before so_far : List ℕ) → xs ≡ ys → length xs ≤ i → so_far ≡ before ++ flat_map b (take i xs) → so_far ≡ before ++ flat_map b ys
  listed_all xs ys i before so_far same past was = was ∙ ap (λ zs. before ++ flat_map b zs) (take_all i xs past ∙ same)

-- A row that is written up to an index: where the lengths begin with those of the whole row, those from the index on are left.
module _ {X : Type 0} (b k : X → List ℕ) where
  abbrev pub IsOnTheWay : List X → ℕ → List ℕ → List ℕ → List ℕ → List ℕ → Type 0
  IsOnTheWay xs i before out lengths left = (rest : List ℕ) → lengths ≡ flat_map k xs ++ rest → (out ≡ before ++ flat_map b (take i xs)) × (left ≡ flat_map k (drop i xs) ++ rest)

  row_ahead : (xs : List X) (i : ℕ) (x : X) → i < length xs → x ≡ get_or xs i x → flat_map k (drop i xs) ≡ k x ++ flat_map k (drop (i + 1) xs)
  row_ahead xs i x inside is = ap (flat_map k) (go xs i inside is) ∙ ap (λ j. k x ++ flat_map k (drop j xs)) (sym (add-one i))
    where
      go : (ys : List X) (j : ℕ) → j < length ys → x ≡ get_or ys j x → drop j ys ≡ x ∷ drop (suc j) ys
      go [] j below same = absurd (omega arith)
      go (y ∷ ys) zero below same = ap (λ z. z ∷ ys) (sym same)
      go (y ∷ ys) (suc j) below same = go ys j (omega arith) same

  pub on_the_way : (xs : List X) (i : ℕ) (x : X) (before out new lengths left further : List ℕ) → i < length xs → x ≡ get_or xs i x → IsOnTheWay xs i before out lengths left
      → ((rest : List ℕ) → left ≡ k x ++ rest → (new ≡ out ++ b x) × (further ≡ rest)) → IsOnTheWay xs (i + 1) before new lengths further
  on_the_way xs i x before out new lengths left further inside is so_far next = λ rest whole.
      let (written_is, left_is) = so_far rest whole in
      let ahead : left ≡ k x ++ (flat_map k (drop (i + 1) xs) ++ rest) = left_is ∙ ap (λ ys. ys ++ rest) (row_ahead xs i x inside is) ∙ append_assoc (k x) (flat_map k (drop (i + 1) xs)) rest in
      let (more, then) = next (flat_map k (drop (i + 1) xs) ++ rest) ahead in
      (more ∙ ap (λ ys. ys ++ b x) written_is ∙ append_assoc before (flat_map b (take i xs)) (b x) ∙ ap (λ ys. before ++ ys) (sym (row_more b xs i x inside is)), then)

  pub at_the_end : (xs ys : List X) (i : ℕ) (before out lengths left : List ℕ) → xs ≡ ys → length xs ≤ i → IsOnTheWay xs i before out lengths left
      → (rest : List ℕ) → lengths ≡ flat_map k ys ++ rest → (out ≡ before ++ flat_map b ys) × (left ≡ rest)
  at_the_end xs ys i before out lengths left same past so_far rest whole =
      let (written_is, left_is) = so_far rest (whole ∙ ap (λ zs. flat_map k zs ++ rest) (sym same)) in
      (written_is ∙ ap (λ zs. before ++ flat_map b zs) (take_all i xs past ∙ same), left_is ∙ ap (λ zs. flat_map k zs ++ rest) (none_left xs i past))
    where
      none_left : (zs : List X) (j : ℕ) → length zs ≤ j → drop j zs ≡ []
      none_left [] zero below = refl
      none_left [] (suc j) below = refl
      none_left (z ∷ zs) zero below = absurd (omega arith)
      none_left (z ∷ zs) (suc j) below = none_left zs j (omega arith)

  -- what may not be written of one may not be written of the row
  pub stopped_on_the_way : (xs ys : List X) (i : ℕ) (x : X) (before out lengths left : List ℕ) (e : DynError) → xs ≡ ys → i < length xs → x ≡ get_or xs i x → IsOnTheWay xs i before out lengths left
      → ((rest : List ℕ) → left ≡ k x ++ rest → MayNotWrite (length (b x)) e) → (rest : List ℕ) → lengths ≡ flat_map k ys ++ rest → MayNotWrite (length (flat_map b ys)) e
  stopped_on_the_way xs ys i x before out lengths left e same inside is so_far why rest whole =
      let left_is = (so_far rest (whole ∙ ap (λ zs. flat_map k zs ++ rest) (sym same))).1 in
      let ahead : left ≡ k x ++ (flat_map k (drop (i + 1) xs) ++ rest) = left_is ∙ ap (λ ys. ys ++ rest) (row_ahead xs i x inside is) ∙ append_assoc (k x) (flat_map k (drop (i + 1) xs)) rest in
      let within : length (b x) ≤ length (flat_map b ys) = each_at_index (λ y. length (b y) ≤ length (flat_map b ys)) xs ys i x same inside is (each_within b ys) in
      longer (length (b x)) (length (flat_map b ys)) e within (why (flat_map k (drop (i + 1) xs) ++ rest) ahead)

-- the first of the lengths, and those after it
pub first_is : (ls : List ℕ) (x : ℕ) (later : List ℕ) → ls ≡ x ∷ later → get_or ls 0 0 ≡ x
first_is ls x later e = ap (λ l. get_or l 0 0) e

pub later_is : (ls : List ℕ) (x : ℕ) (later : List ℕ) → ls ≡ x ∷ later → take (length ls - 1) (drop 1 ls) ≡ later
later_is ls x later e = search (rules, arith, take_all)

-- what a call that may fail says, said otherwise

pub if_on_ok : {A E : Type 0} {P Q : Type 0} (r : Result A E) → OnOk r P → (P → Q) → IfOk r (λ x. Q)
if_on_ok (Ok x) h f = f h
if_on_ok (Err e) h f = tt

-- what is asked of a call within a cycle: what is known of its lifetimes, and what it requires
pub under : {A B C D E F : Type 0} → A × (B × (C × (D × E))) → F → A × (B × (C × (D × (E × F))))
under w h = (w.0, (w.1.0, (w.1.1.0, (w.1.1.1.0, (w.1.1.1.1, h)))))

-- the bytes of records that are lent
pub records_are : {U : Type 0} (record_of : U → WireRecord) (us : List U) (rs : List WireRecord) → map record_of us ≡ rs → flat_map (λ u. (record_of u).bytes) us ≡ bytes_of rs
records_are record_of us rs same = sym (flat_map-map (λ (r : WireRecord). r.bytes) record_of us) ∙ ap bytes_of same

-- a record: its front and its body; and an entry: the front of its record, its key and its value
pub record_in_turn : (n : ℕ) (b out first second : List ℕ) → first ≡ out ++ (tag n Len ++ length_before Len b) → second ≡ first ++ b → second ≡ out ++ (written n Len b).bytes
record_in_turn n b out first second one two =
    two ∙ ap (λ xs. xs ++ b) one ∙ append_assoc out (tag n Len ++ length_before Len b) b ∙ ap (λ xs. out ++ xs) (sym (record_is n Len b))

pub entry_in_turn : (n : ℕ) (k v out first second third : List ℕ) → first ≡ out ++ (tag n Len ++ length_before Len (k ++ v)) → second ≡ first ++ k → third ≡ second ++ v → third ≡ out ++ (written n Len (k ++ v)).bytes
entry_in_turn n k v out first second third one two three =
    record_in_turn n (k ++ v) out first third one (three ∙ ap (λ xs. xs ++ v) two ∙ append_assoc first k v)

-- Items and entries as the parts of a field.

pub bare_seen : (l : Bool) (x : Bare) → bare (in_list l x) ≡ x
bare_seen l (Lone text leaf) = refl
bare_seen l (Child m) = refl

leaf_of_element : (n : ℕ) (p : Presence) (e : Element) (o : Option ℕ) (leaf : Leaf) → belonging.LeafFits (record { number = n; presence = p; element = e; oneof = o }) leaf → IsLeafOf e leaf
leaf_of_element n p e o leaf h = grind arith

bare_of : (shape : Shape) (f : FieldShape) (l : Bool) (x : Bare) → HoldsItem shape f (in_list l x) → BareFits shape f.element x
bare_of shape f l (Lone text leaf) h = leaf_of_element f.number f.presence f.element f.oneof leaf h.2
bare_of shape f l (Child m) h = (h.1, h.2)

bare_held : (shape : Shape) (f : FieldShape) (item : KeptItem) → HoldsItem shape f item → BareFits shape f.element (bare item)
bare_held shape f (Plain l leaf) h = leaf_of_element f.number f.presence f.element f.oneof leaf h.2
bare_held shape f (Msg l m) h = (h.1, h.2)

-- an item of what can be packed is no message
pub packed_lone : (shape : Shape) (e : Element) (x : Bare) → is_packable e ≡ true → BareFits shape e x → IsLone x
packed_lone shape e (Lone text leaf) can h = tt
packed_lone shape e (Child m) can h = absurd (let no : is_packable (elements.Message (type_of m)) ≡ true = ap is_packable (sym h.1) ∙ can in cc)

pub lone_fits : (shape : Shape) (e : Element) (x : Bare) → IsLone x → BareFits shape e x → IsLeafOf e (bare_leaf x)
lone_fits shape e (Lone text leaf) lone h = h
lone_fits shape e (Child m) lone h = absurd lone

lone_leaf : (shape : Shape) (x : Bare) → IsLone x → item_leaf shape x ≡ bare_leaf x
lone_leaf shape (Lone text leaf) lone = refl
lone_leaf shape (Child m) lone = absurd lone

lone_lengths : (shape : Shape) (x : Bare) → IsLone x → item_lengths shape x ≡ []
lone_lengths shape (Lone text leaf) lone = refl
lone_lengths shape (Child m) lone = absurd lone

pub packed_no_lengths : {V : Type 0} (item : V → Bare) (shape : Shape) (vs : List V) → AllByRecursion (λ v. IsLone (item v)) vs → flat_map (λ v. item_lengths shape (item v)) vs ≡ []
packed_no_lengths item shape [] h = refl
packed_no_lengths item shape (v ∷ vs) h = ap₂ (λ xs ys. xs ++ ys) (lone_lengths shape (item v) h.0) (packed_no_lengths item shape vs h.1)

-- only the parts of a map have keys
keyless_by : (p : Presence) (k : Option Leaf) → is_map p ≡ false → KeyFits p k → k ≡ None
keyless_by p k single h = grind arith

pub keyless : (shape : Shape) (f : FieldShape) (ps : List (Part KeptItem)) → is_map f.presence ≡ false → AllByRecursion (IsPartOf shape f) ps → AreKeyless ps
keyless shape f ps single h = each_weaker (IsPartOf shape f) (λ (p : Part KeptItem). p.key ≡ None) (λ p k. keyless_by f.presence p.key single k.key_fits) ps h

pub keyed : (shape : Shape) (f : FieldShape) (key : Scalar) (ps : List (Part KeptItem)) → f.presence ≡ presences.Map key → AllByRecursion (IsPartOf shape f) ps → AreKeyed ps
keyed shape f key ps is h = search (rules, each_weaker)

pub lone_of_part : (shape : Shape) (f : FieldShape) (ps : List (Part KeptItem)) → is_packable f.element ≡ true → AllByRecursion (IsPartOf shape f) ps → AllByRecursion (λ (p : Part KeptItem). IsLone (bare p.item)) ps
lone_of_part shape f ps can h = each_weaker (IsPartOf shape f) (λ (p : Part KeptItem). IsLone (bare p.item)) (λ p k. packed_lone shape f.element (bare p.item) can (bare_held shape f p.item k.item)) ps h

packed_is : (p : Presence) → is_packed p ≡ true → p ≡ presences.Repeated true
packed_is p h = grind arith

-- the records of a field, by its presence
module _ (n : ℕ) (e : Element) (o : Option ℕ) (ps : List (Part Leaf)) where
  abbrev each_record : List WireRecord
  each_record = map (λ (p : Part Leaf). item_record n e p.item) ps

  unpacked_records : (p : Presence) → is_packed p ≡ false → is_map p ≡ false → field_records (record { number = n; presence = p; element = e; oneof = o }) ps ≡ each_record
  unpacked_records p packed single = grind arith

module _ {V : Type 0} (item : V → Bare) (shape : Shape) where
  pub values_fit : (f : FieldShape) (n : ℕ) (l : Bool) (vs : List V) → AllByRecursion (IsPartOf shape f) (map (item_part item n l) vs) → AllByRecursion (λ v. BareFits shape f.element (item v)) vs
  values_fit f n l [] h = tt
  values_fit f n l (v ∷ vs) h = (bare_of shape f l (item v) h.0.item, values_fit f n l vs h.1)

  pub leaves_fit : (e : Element) (vs : List V) → is_packable e ≡ true → AllByRecursion (λ v. BareFits shape e (item v)) vs → LeavesFit item e vs
  leaves_fit e vs can h = search (rules, each_weaker, lone_fits, packed_lone)

  all_lone : (e : Element) (vs : List V) → is_packable e ≡ true → AllByRecursion (λ v. BareFits shape e (item v)) vs → AllByRecursion (λ v. IsLone (item v)) vs
  all_lone e vs can h = each_weaker (λ v. BareFits shape e (item v)) (λ v. IsLone (item v)) (λ v k. packed_lone shape e (item v) can k) vs h

  each_written : (n : ℕ) (e : Element) (l : Bool) (vs : List V) → bytes_of (map (λ (p : Part Leaf). item_record n e p.item) (map (written_part shape) (map (item_part item n l) vs))) ≡ flat_map (λ v. item_bytes shape n e (item v)) vs
  each_written n e l [] = refl
  each_written n e l (v ∷ vs) = ap₂ (λ x xs. (item_record n e (item_leaf shape x)).bytes ++ xs) (bare_seen l (item v)) (each_written n e l vs)

  pub items_written : (f : FieldShape) (l : Bool) (vs : List V) → is_packed f.presence ≡ false → is_map f.presence ≡ false → field_written shape f (map (item_part item f.number l) vs) ≡ flat_map (λ v. item_bytes shape f.number f.element (item v)) vs
  items_written f l vs packed single =
      ap bytes_of (unpacked_records f.number f.element f.oneof (map (written_part shape) (map (item_part item f.number l) vs)) f.presence packed single) ∙ each_written f.number f.element l vs

  pub items_noted : (f : FieldShape) (l : Bool) (vs : List V) → is_packed f.presence ≡ false → field_lengths shape f (map (item_part item f.number l) vs) ≡ flat_map (λ v. item_lengths shape (item v)) vs
  items_noted f l vs packed = search (rules, flat_map-map, flat_map_same, each_of_all, bare_seen)

  bodies_written : (n : ℕ) (e : Element) (l : Bool) (vs : List V) → AllByRecursion (λ v. IsLone (item v)) vs
      → flat_map (λ (q : Part Leaf). body (form e) q.item) (map (written_part shape) (map (item_part item n l) vs)) ≡ packed_body item e vs
  bodies_written n e l [] h = refl
  bodies_written n e l (v ∷ vs) h =
      ap₂ (λ leaf xs. body (form e) leaf ++ xs) (ap (item_leaf shape) (bare_seen l (item v)) ∙ lone_leaf shape (item v) h.0) (bodies_written n e l vs h.1)

  row_written : (n : ℕ) (e : Element) (o : Option ℕ) (l : Bool) (vs : List V) → AllByRecursion (λ v. IsLone (item v)) vs
      → field_written shape (record { number = n; presence = presences.Repeated true; element = e; oneof = o }) (map (item_part item n l) vs) ≡ packed_bytes item n e vs
  row_written n e o l [] h = refl
  row_written n e o l (v ∷ vs) h = append-nil _ ∙ ap (λ b. (written n Len b).bytes) (bodies_written n e l (v ∷ vs) h)

  pub packed_written : (f : FieldShape) (l : Bool) (vs : List V) → is_packed f.presence ≡ true → is_packable f.element ≡ true → AllByRecursion (λ v. BareFits shape f.element (item v)) vs
      → field_written shape f (map (item_part item f.number l) vs) ≡ packed_bytes item f.number f.element vs
  packed_written f l vs packed can h =
      ap (λ (p : Presence). field_written shape (record { number = f.number; presence = p; element = f.element; oneof = f.oneof }) (map (item_part item f.number l) vs)) (packed_is f.presence packed)
      ∙ row_written f.number f.element f.oneof l vs (all_lone f.element vs can h)

  bodies_noted : (n : ℕ) (e : Element) (l : Bool) (vs : List V) → packed_body (λ (p : Part KeptItem). bare p.item) e (map (item_part item n l) vs) ≡ packed_body item e vs
  bodies_noted n e l [] = refl
  bodies_noted n e l (v ∷ vs) = ap₂ (λ x xs. body (form e) (bare_leaf x) ++ xs) (bare_seen l (item v)) (bodies_noted n e l vs)

  row_noted : (n : ℕ) (e : Element) (l : Bool) (vs : List V) → packed_lengths (λ (p : Part KeptItem). bare p.item) e (map (item_part item n l) vs) ≡ packed_lengths item e vs
  row_noted n e l [] = refl
  row_noted n e l (v ∷ vs) = ap (λ b. capped (length b) ∷ []) (bodies_noted n e l (v ∷ vs))

  pub packed_noted : (f : FieldShape) (l : Bool) (vs : List V) → is_packed f.presence ≡ true → field_lengths shape f (map (item_part item f.number l) vs) ≡ packed_lengths item f.element vs
  packed_noted f l vs packed = search (rules, row_noted)

-- a map's entries
module _ {V E : Type 0} (item : V → Bare) (key_of value_of : E → V) (shape : Shape) where
  pub entries_fit : (f : FieldShape) (n : ℕ) (es : List E) → AllByRecursion (IsPartOf shape f) (map (entry_part item key_of value_of n) es) → AllByRecursion (λ e. BareFits shape f.element (item (value_of e))) es
  entries_fit f n [] h = tt
  entries_fit f n (e ∷ es) h = (bare_of shape f false (item (value_of e)) h.0.item, entries_fit f n es h.1)

  pub keys_fit : (f : FieldShape) (n : ℕ) (key : Scalar) (es : List E) → f.presence ≡ presences.Map key → AllByRecursion (IsPartOf shape f) (map (entry_part item key_of value_of n) es)
      → AllByRecursion (λ e. InRange (scalar_form key) (bare_leaf (item (key_of e)))) es
  keys_fit f n key [] is h = tt
  keys_fit f n key (e ∷ es) is h = (subst (λ p. KeyFits p (Some (bare_leaf (item (key_of e))))) is h.0.key_fits, keys_fit f n key es is h.1)

  map_written : (n : ℕ) (key : Scalar) (el : Element) (o : Option ℕ) (es : List E)
      → field_written shape (record { number = n; presence = presences.Map key; element = el; oneof = o }) (map (entry_part item key_of value_of n) es)
      ≡ flat_map (λ e. entry_record shape n key el (bare_leaf (item (key_of e))) (item (value_of e))) es
  map_written n key el o [] = refl
  map_written n key el o (e ∷ es) = ap₂ (λ x xs. entry_record shape n key el (bare_leaf (item (key_of e))) x ++ xs) (bare_seen false (item (value_of e))) (map_written n key el o es)

  pub entries_written : (f : FieldShape) (key : Scalar) (es : List E) → f.presence ≡ presences.Map key → field_written shape f (map (entry_part item key_of value_of f.number) es) ≡ flat_map (λ e. entry_record shape f.number key f.element (bare_leaf (item (key_of e))) (item (value_of e))) es
  entries_written f key es is =
      ap (λ (p : Presence). field_written shape (record { number = f.number; presence = p; element = f.element; oneof = f.oneof }) (map (entry_part item key_of value_of f.number) es)) is
      ∙ map_written f.number key f.element f.oneof es

  pub entries_noted : (f : FieldShape) (key : Scalar) (es : List E) → f.presence ≡ presences.Map key → field_lengths shape f (map (entry_part item key_of value_of f.number) es) ≡ flat_map (λ e. item_lengths shape (item (value_of e))) es
  entries_noted f key es is = search (rules, flat_map-map, flat_map_same, each_of_all, bare_seen)

-- only what can be packed is
pub can_be_packed : (p : Presence) (e : Element) (o : Option ℕ) → PresenceFits p e o → CanBePacked p e
can_be_packed p e o h = grind arith

pub packable : (p : Presence) (e : Element) → is_packed p ≡ true → CanBePacked p e → is_packable e ≡ true
packable p e packed h = grind arith

-- a field's number and what it may be packed
module _ (shape : Shape) (type : TypeId) where
  pub field_is : IsShape shape → (n : ℕ) (f : FieldShape) → field_at (fields shape type) n ≡ Some f → IsField (length shape) f
  field_is h n f found = each_at (IsField (length shape)) (fields shape type) n f found (fields-IsType shape type h).each

  pub packs : IsShape shape → (n : ℕ) (f : FieldShape) → field_at (fields shape type) n ≡ Some f → CanBePacked f.presence f.element
  packs h n f found = can_be_packed f.presence f.element f.oneof (field_is h n f found).presence_fits

  part_field : (f : FieldShape) (n : ℕ) (p : Part KeptItem) → field_at (fields shape type) n ≡ Some f → (h : HoldsPart shape type p) → p.number ≡ n → h.field ≡ f
  part_field f n p found h number = same_field h.field f (sym h.found ∙ ap (field_at (fields shape type)) number ∙ found)

  -- the parts of a number are held by its field
  parts_fit : (f : FieldShape) (n : ℕ) (ps : List (Part KeptItem)) → field_at (fields shape type) n ≡ Some f → AllByRecursion (HoldsPart shape type) ps → AreOf n ps → AllByRecursion (IsPartOf shape f) ps
  parts_fit f n [] found h numbered = tt
  parts_fit f n (p ∷ ps) found h numbered =
      search (rules, found_number, part_field, parts_fit f n ps found h.1 numbered.1)

  held_parts : (n : ℕ) (ps : List (Part KeptItem)) → AllByRecursion (HoldsPart shape type) ps → ps ≢ [] → AreOf n ps → HoldsParts shape type n ps
  held_parts n [] h filled numbered = absurd (filled refl)
  held_parts n (p ∷ ps) h filled numbered =
      let found : field_at (fields shape type) n ≡ Some h.0.field = ap (field_at (fields shape type)) (sym numbered.0) ∙ h.0.found in
      record { field = h.0.field; found = found; each = parts_fit h.0.field n (p ∷ ps) found h numbered }

  pub same_parts : (f : FieldShape) (n : ℕ) (ps : List (Part KeptItem)) → HoldsParts shape type n ps → field_at (fields shape type) n ≡ Some f → AllByRecursion (IsPartOf shape f) ps
  same_parts f n ps held found = subst (λ g. AllByRecursion (IsPartOf shape g) ps) (same_field held.field f (sym held.found ∙ found)) held.each

  pub flat_bytes : {C : Type 0} (row : ℕ × C → List (Part Leaf)) (xs : List (ℕ × C)) → bytes_of (by_fields row (fields shape type) xs) ≡ flat_map (λ (m : ℕ × C). bytes_of (records_by (field_at (fields shape type) m.0) (row m))) xs
  flat_bytes row [] = refl
  flat_bytes row (x ∷ xs) = search (rules, flat_map-append', by_fields, flat_bytes row xs)

-- The contents of a message, whatever a content is.
module _ {C : Type 0} (parts : ℕ → C → List (Part KeptItem)) (shape : Shape) (m : Kept) where
  abbrev pub HeldContents : List (ℕ × C) → Type 0
  HeldContents ms = AllByRecursion (λ (c : ℕ × C). HoldsParts shape (type_of m) c.0 (parts c.0 c.1)) ms

  each_held : (ms : List (ℕ × C)) → AllByRecursion (HoldsPart shape (type_of m)) (all_parts parts ms) → AllByRecursion (λ (c : ℕ × C). parts c.0 c.1 ≢ []) ms → AllByRecursion (λ (c : ℕ × C). AreOf c.0 (parts c.0 c.1)) ms → HeldContents ms
  each_held [] h filled numbered = tt
  each_held (c ∷ ms) h filled numbered = (
    held_parts shape (type_of m) c.0 (parts c.0 c.1) (each_before (HoldsPart shape (type_of m)) (parts c.0 c.1) (all_parts parts ms) h) filled.0 numbered.0,
    each_held ms (each_after (HoldsPart shape (type_of m)) (parts c.0 c.1) (all_parts parts ms) h) filled.1 numbered.1,
  )

  pub contents_held : (ms : List (ℕ × C)) → IsShape shape → Fits shape m → m ≡ kept_onto (all_parts parts ms) (ends (type_of m) (unknown_of m)) → AllByRecursion (λ (c : ℕ × C). parts c.0 c.1 ≢ []) ms
      → AllByRecursion (λ (c : ℕ × C). AreOf c.0 (parts c.0 c.1)) ms → HeldContents ms
  contents_held ms is_shape fits whole filled numbered =
      search (rules, parts_of-kept_onto, append-nil, each_held, parts_hold)

  abbrev pub content_bytes : ℕ × C → List ℕ
  content_bytes c = parts_written shape (type_of m) c.0 (parts c.0 c.1)

  pub field_bytes : (c : ℕ × C) (f : FieldShape) → field_at (fields shape (type_of m)) c.0 ≡ Some f → field_written shape f (parts f.number c.1) ≡ content_bytes c
  field_bytes c f found = search (rules, found_number)

  -- what its field's content asks, where it is found by its number
  pub field_fits : (c : ℕ × C) (f : FieldShape) → field_at (fields shape (type_of m)) c.0 ≡ Some f → HoldsParts shape (type_of m) c.0 (parts c.0 c.1) → AllByRecursion (IsPartOf shape f) (parts f.number c.1)
  field_fits c f found held = search (rules, found_number, same_parts)

  pub own_is : (ms : List (ℕ × C)) → IsShape shape → m ≡ kept_onto (all_parts parts ms) (ends (type_of m) (unknown_of m)) → Rises ms → HeldContents ms → flat_map content_bytes ms ++ bytes_of (unknown_of m) ≡ own_bytes shape m
  own_is ms is_shape whole rises held =
      search (rules, encodes_by_fields, fields-IsType, flat_bytes, written_row)
