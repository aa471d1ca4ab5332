-- Depth beyond the number of bytes changes nothing, since the bytes of a child are fewer than those around it.
use Rattle.std.proofs.Common.{fold, ◌≡◌, ℕ, zero, suc, ◌+◌, ◌<◌, ◌≤◌, List, [], ◌∷◌, map, filter, flat_map, length, Bool, true, false, not, ◌&&◌, ◌||◌, cond, Option, Some, None, is_some, option_map, option_and_then, Result, Ok, Err, refl, ap, ap₂, sym, subst, arith, length-append, rules}
use Rattle.std.specs.Bool.{⊤}
use Rattle.std.specs.List.{AllByRecursion, list_all}
use Rattle.pg_schema.specs.declared.parts.field.TypeId.{TypeId}
use Rattle.pg_schema.specs.declared.parts.field.Scalar.{Scalar}
use Rattle.pg_schema.specs.declared.parts.field.Element.{Element}
use Rattle.pg_schema.specs.declared.parts.field.Element.TheVariants as elements
use Rattle.pg_schema.specs.declared.parts.field.Presence.{Presence}
use Rattle.pg_schema.specs.declared.parts.field.Presence.TheVariants as presences
use Rattle.pg_schema.specs.Shape.{Shape, FieldShape, fields, is_repeated}
use Rattle.pg_wire.specs.declared.record.WireType.TheVariants.{Len}
use Rattle.pg_wire.specs.Reading.{Fault, row}
use Rattle.pg_wire.specs.Records.{WireRecord, IsRecord, records_of}
use Rattle.pg_wire.proofs.Varints.{length-IsVarint}
use Rattle.pg_wire.proofs.RecordLaws.{Spells_from_records_of}
use Rattle.pg_dyn.specs.reading.Optional.{all_some, after_last_of, first_or, joined}
use Rattle.pg_dyn.specs.message.Message.{Leaf, Bytes, Part}
use Rattle.pg_dyn.specs.word.Coding.{form, zero_leaf}
use Rattle.pg_dyn.specs.reading.Content.{same_wire, takes, counted, option_from, packed_leaves, leaves_in, leaf_bytes, last_item, plain_content, key_field, value_field, entry_part, entry_in, put, by_key, content}
use Rattle.pg_dyn.specs.reading.Decoding.{Reader, is_child, is_plain_readable, all_plain_readable, is_readable, all_readable, read_item, read_part, field_parts, read_records, dec_within, dec}
use Rattle.pg_dyn.proofs.Lists.{each-map, each_of_all, each_weaker, map_same, flat_map-append', option_map_some, and_then_some}
use Rattle.pg_dyn.proofs.lemmas.message.Plain.{last_item_none}
use Rattle.pg_dyn.proofs.lemmas.reading.Fields.{field_of}
use Rattle.pg_dyn.proofs.lemmas.reading.records.ReadSplits.{Gives, all_some_gives}

abbrev pub bodies : List WireRecord → List ℕ
bodies rs = flat_map (λ (r : WireRecord). r.body) rs

-- a record's body is shorter than the record
pub body_shorter : (r : WireRecord) → IsRecord r → length r.body < length r.bytes
body_shorter r h = search (rules, arith, length-IsVarint, length-append)

-- each body is shorter than all records, and all bodies together are, where there is a record
bodies_shorter : (rs : List WireRecord) → AllByRecursion IsRecord rs → length (bodies rs) + length rs ≤ length (flat_map (λ (r : WireRecord). r.bytes) rs)
bodies_shorter [] h = omega arith
bodies_shorter (r ∷ rs) h =
    omega (arith, body_shorter r h.0, bodies_shorter rs h.1, length-append r.body (bodies rs), length-append r.bytes (flat_map (λ (s : WireRecord). s.bytes) rs))

each_body_within : (rs : List WireRecord) → AllByRecursion (λ r. length r.body ≤ length (bodies rs)) rs
each_body_within [] = tt
each_body_within (r ∷ rs) = search (rules, arith, length-append, each_weaker, each_body_within rs)

-- the bytes of all bodies, and one more for each record
abbrev pub weight : List WireRecord → ℕ
weight rs = length (bodies rs) + length rs

-- fewer records have less weight
pub weight-filter : (test : WireRecord → Bool) (rs : List WireRecord) → weight (filter test rs) ≤ weight rs
weight-filter test [] = omega arith
weight-filter test (r ∷ rs) = search (rules, arith, weight-filter test rs, length-append)

weight-after_last_of : (test : WireRecord → Bool) (rs : List WireRecord) → weight (after_last_of test rs) ≤ weight rs
weight-after_last_of test [] = omega arith
weight-after_last_of test (r ∷ rs) =
    search (rules, arith, weight-after_last_of test rs, length-append)

pub weight-counted : (fs : List FieldShape) (f : FieldShape) (rs : List WireRecord) → weight (counted fs f rs) ≤ weight rs
weight-counted fs f rs = search (rules, arith, weight-filter, weight-after_last_of)

-- The bytes of the items of a field of messages are those of the records' bodies.

abbrev pub leaves_bytes : List Leaf → List ℕ
leaves_bytes leaves = flat_map leaf_bytes leaves

pub no_packed : (t : TypeId) (bytes : List ℕ) (leaves : List Leaf) → packed_leaves (form (elements.Message t)) bytes ≡ Some leaves → leaves ≡ []
unfolding row
no_packed t [] leaves h = cc
no_packed t (b ∷ bytes) leaves h = absurd (cc)

module _ (number : ℕ) (p : Presence) (t : TypeId) (oneof : Option ℕ) where
  abbrev pub messages : FieldShape
  messages = field_of number p (elements.Message t) oneof

  record_leaves : (r : WireRecord) (leaves : List Leaf) → leaves_in messages r ≡ Some leaves → length (leaves_bytes leaves) ≤ length r.body
  record_leaves r leaves h =
      elim (same_wire r.wire Len) as (λ b. cond b (Some (Bytes r.body ∷ [])) (packed_leaves (form (elements.Message t)) r.body) ≡ Some leaves → length (leaves_bytes leaves) ≤ length r.body) [
        | true ↦ λ k. let same : Bytes r.body ∷ [] ≡ leaves = cc in subst (λ ls. length (leaves_bytes ls) ≤ length r.body) same (omega (arith, length-append r.body []))
        | false ↦ λ k. subst (λ ls. length (leaves_bytes ls) ≤ length r.body) (sym (no_packed t r.body leaves k)) (omega arith)
      ] h

  pub rows_leaves : (rs : List WireRecord) (rows : List (List Leaf)) → Gives (leaves_in messages) rs rows → length (leaves_bytes (joined rows)) ≤ length (bodies rs)
  rows_leaves [] [] h = omega arith
  rows_leaves [] (ls ∷ rows) h = absurd h
  rows_leaves (r ∷ rs) [] h = absurd h
  rows_leaves (r ∷ rs) (ls ∷ rows) h =
      let both = ap length (flat_map-append' leaf_bytes ls (joined rows)) in
      omega (arith, record_leaves r ls h.0, rows_leaves rs rows h.1, length-append (leaves_bytes ls) (leaves_bytes (joined rows)), length-append r.body (bodies rs))

  each_leaf : (leaves : List Leaf) → AllByRecursion (λ l. length (leaf_bytes l) ≤ length (leaves_bytes leaves)) leaves
  each_leaf [] = tt
  each_leaf (l ∷ ls) = search (rules, arith, length-append, each_weaker, each_leaf ls)

  last_leaves : (leaves : List Leaf) → AllByRecursion (λ l. length (leaf_bytes l) ≤ length (leaves_bytes leaves)) (last_item p (elements.Message t) leaves)
  last_leaves [] = tt
  last_leaves (l ∷ ls) = (omega arith, tt)

  -- each item of the content has no more bytes than the bodies
  content_leaves : (rs : List WireRecord) (leaves : List Leaf) → plain_content messages rs ≡ Some leaves → AllByRecursion (λ l. length (leaf_bytes l) ≤ length (bodies rs)) leaves
  content_leaves rs leaves h =
      let (rows, read, made) = option_map_some (λ x. cond (is_repeated p) (joined x) (last_item p (elements.Message t) (joined x))) (all_some (map (leaves_in messages) rs)) leaves h in
      let total = rows_leaves rs rows (all_some_gives (leaves_in messages) rs rows read) in
      subst (AllByRecursion (λ l. length (leaf_bytes l) ≤ length (bodies rs))) made
      (elim (is_repeated p) as (λ b. AllByRecursion (λ l. length (leaf_bytes l) ≤ length (bodies rs)) (cond b (joined rows) (last_item p (elements.Message t) (joined rows)))) [
        | true ↦ each_weaker (λ l. length (leaf_bytes l) ≤ length (leaves_bytes (joined rows))) (λ l. length (leaf_bytes l) ≤ length (bodies rs)) (λ l k. omega arith) (joined rows) (each_leaf (joined rows))
        | false ↦ each_weaker (λ l. length (leaf_bytes l) ≤ length (leaves_bytes (joined rows))) (λ l. length (leaf_bytes l) ≤ length (bodies rs)) (λ l k. omega arith) (last_item p (elements.Message t) (joined rows)) (last_leaves (joined rows))
      ])

-- What a reader of children makes of a field depends only on what it makes of fewer bytes.

abbrev Below : ℕ → Element → Leaf → Type 0
Below n (elements.Message t) leaf = length (leaf_bytes leaf) < n
Below n (elements.Scalar s) leaf = ⊤
Below n (elements.Enum e) leaf = ⊤

plain_below : (number : ℕ) (p : Presence) (e : Element) (oneof : Option ℕ) (rs : List WireRecord) (leaves : List Leaf) → plain_content (field_of number p e oneof) rs ≡ Some leaves → AllByRecursion (Below (suc (length (bodies rs))) e) leaves
plain_below number p (elements.Message t) oneof rs leaves h =
    each_weaker (λ l. length (leaf_bytes l) ≤ length (bodies rs)) (Below (suc (length (bodies rs))) (elements.Message t)) (λ l k. omega arith) leaves (content_leaves number p t oneof rs leaves h)
plain_below number p (elements.Scalar s) oneof rs leaves h = each_of_all (Below (suc (length (bodies rs))) (elements.Scalar s)) (λ l. tt) leaves
plain_below number p (elements.Enum e) oneof rs leaves h = each_of_all (Below (suc (length (bodies rs))) (elements.Enum e)) (λ l. tt) leaves

-- no records give no items
plain_none : (number : ℕ) (p : Presence) (e : Element) (oneof : Option ℕ) (leaves : List Leaf) → plain_content (field_of number p e oneof) [] ≡ Some leaves → leaves ≡ []
plain_none number p e oneof leaves h = search (rules, last_item_none)

below_more : (m n : ℕ) (e : Element) (leaf : Leaf) → m ≤ n → Below m e leaf → Below n e leaf
below_more m n e leaf k h = grind arith

plain_content_below : (number : ℕ) (p : Presence) (e : Element) (oneof : Option ℕ) (n : ℕ) (rs : List WireRecord) (leaves : List Leaf) → weight rs ≤ n → plain_content (field_of number p e oneof) rs ≡ Some leaves → AllByRecursion (Below n e) leaves
plain_content_below number p e oneof n [] leaves w h = subst (AllByRecursion (Below n e)) (sym (plain_none number p e oneof leaves h)) tt
plain_content_below number p e oneof n (r ∷ rs) leaves w h =
    each_weaker (Below (suc (length (bodies (r ∷ rs)))) e) (Below n e) (λ l k. below_more (suc (length (bodies (r ∷ rs)))) n e l (omega arith) k) leaves (plain_below number p e oneof (r ∷ rs) leaves h)

-- the zero of a missing part has no bytes
zero_below : (n : ℕ) (e : Element) → 1 ≤ n → Below n e (zero_leaf (form e))
zero_below n e h = grind arith

first_below : (n : ℕ) (e : Element) (d : Leaf) (leaves : List Leaf) → Below n e d → AllByRecursion (Below n e) leaves → Below n e (first_or d leaves)
first_below n e d [] h each = h
first_below n e d (l ∷ ls) h each = each.0

-- the records of bytes weigh no more than the bytes
pub weight_of_bytes : (bytes : List ℕ) (rs : List WireRecord) → records_of bytes ≡ Ok rs → AllByRecursion IsRecord rs × (weight rs ≤ length bytes)
weight_of_bytes bytes rs h =
    let spells = Spells_from_records_of bytes rs h in
    let same = ap length spells.joined in
    (spells.each, omega (arith, bodies_shorter rs spells.each))

pub option_from_ok : {A : Type 0} (r : Result A Fault) (x : A) → option_from r ≡ Some x → r ≡ Ok x
option_from_ok (Ok y) x h = cc
option_from_ok (Err e) x h = absurd (cc)

entry_below : (key : Scalar) (e : Element) (n : ℕ) (r : WireRecord) (entry : Leaf × Leaf) → length r.body < n → entry_in key e r ≡ Some entry → Below n e entry.1
entry_below key e n r entry fits h =
    let (rs, read, after) = and_then_some (λ rs. option_and_then (λ k. option_map (λ v. (k, v)) (entry_part (value_field e) rs)) (entry_part (key_field key) rs)) (option_from (records_of r.body)) entry h in
    let (k, read_key, after_key) = and_then_some (λ x. option_map (λ v. (x, v)) (entry_part (value_field e) rs)) (entry_part (key_field key) rs) entry after in
    let (v, read_value, made) = option_map_some (λ x. (k, x)) (entry_part (value_field e) rs) entry after_key in
    let (leaves, read_leaves, first) = option_map_some (first_or (zero_leaf (form e))) (plain_content (value_field e) (filter (takes (value_field e)) rs)) v read_value in
    let known = weight_of_bytes r.body rs (option_from_ok (records_of r.body) rs read) in
    let within : weight (filter (takes (value_field e)) rs) ≤ n = omega (arith, weight-filter (takes (value_field e)) rs, known.1) in
    let below = plain_content_below 2 presences.Explicit e None n (filter (takes (value_field e)) rs) leaves within read_leaves in
    subst (λ (x : Leaf × Leaf). Below n e x.1) {x = (k, v)} {y = entry} made (subst (Below n e) {x = first_or (zero_leaf (form e)) leaves} {y = v} first (first_below n e (zero_leaf (form e)) leaves (zero_below n e (omega arith)) below))

-- the entries that stay are among those that are read
each-put : (P : Leaf × Leaf → Type 0) (entry : Leaf × Leaf) (es : List (Leaf × Leaf)) → P entry → AllByRecursion P es → AllByRecursion P (put entry es)
each-put P entry [] h each = (h, tt)
each-put P entry (e ∷ es) h each = search (rules, each-put P entry es h each.1)

each-put_all : (P : Leaf × Leaf → Type 0) (placed es : List (Leaf × Leaf)) → AllByRecursion P placed → AllByRecursion P es → AllByRecursion P (fold (λ qs entry. put entry qs) placed es)
each-put_all P placed [] before h = before
each-put_all P placed (e ∷ es) before h = each-put_all P (put e placed) es (each-put P e placed h.0 before) h.1

pub each-by_key : (P : Leaf × Leaf → Type 0) (es : List (Leaf × Leaf)) → AllByRecursion P es → AllByRecursion P (by_key es)
each-by_key P es h = each-put_all P [] es tt h

entries_below : (key : Scalar) (e : Element) (n : ℕ) (rs : List WireRecord) (entries : List (Leaf × Leaf)) → AllByRecursion (λ r. length r.body < n) rs → Gives (entry_in key e) rs entries → AllByRecursion (λ (x : Leaf × Leaf). Below n e x.1) entries
entries_below key e n [] [] short h = tt
entries_below key e n [] (x ∷ entries) short h = absurd h
entries_below key e n (r ∷ rs) [] short h = absurd h
entries_below key e n (r ∷ rs) (x ∷ entries) short h = (entry_below key e n r x short.0 h.0, entries_below key e n rs entries short.1 h.1)

pub body_below_weight : (n : ℕ) (rs : List WireRecord) → weight rs ≤ n → AllByRecursion (λ r. length r.body < n) rs
body_below_weight n [] h = tt
body_below_weight n (r ∷ rs) h =
    each_weaker (λ s. length s.body ≤ length (bodies (r ∷ rs))) (λ s. length s.body < n) (λ s k. omega arith) (r ∷ rs) (each_body_within (r ∷ rs))

content_below : (number : ℕ) (p : Presence) (e : Element) (oneof : Option ℕ) (n : ℕ) (rs : List WireRecord) (ps : List (Part Leaf)) → weight rs ≤ n → content (field_of number p e oneof) rs ≡ Some ps → AllByRecursion (λ (q : Part Leaf). Below n e q.item) ps
content_below number p e oneof n rs ps w h = of p h
  where
    plain : (x : Presence) → option_map (map (λ leaf. record { number = number; key = None; item = leaf })) (plain_content (field_of number x e oneof) rs) ≡ Some ps → AllByRecursion (λ (q : Part Leaf). Below n e q.item) ps
    plain x k =
        let (leaves, read, made) = option_map_some (map (λ leaf. record { number = number; key = None; item = leaf })) (plain_content (field_of number x e oneof) rs) ps k in
        subst (AllByRecursion (λ (q : Part Leaf). Below n e q.item)) made
        (each-map (λ (q : Part Leaf). Below n e q.item) (λ leaf. record { number = number; key = None; item = leaf }) leaves (plain_content_below number x e oneof n rs leaves w read))

    of : (x : Presence) → content (field_of number x e oneof) rs ≡ Some ps → AllByRecursion (λ (q : Part Leaf). Below n e q.item) ps
    of presences.Implicit k = plain presences.Implicit k
    of presences.Explicit k = plain presences.Explicit k
    of (presences.Repeated packed) k = plain (presences.Repeated packed) k
    of (presences.Map key) k =
        let (entries, read, made) = option_map_some (λ es. map (λ (x : Leaf × Leaf). record { number = number; key = Some x.0; item = x.1 }) (by_key es)) (all_some (map (entry_in key e) rs)) ps k in
        subst (AllByRecursion (λ (q : Part Leaf). Below n e q.item)) made
        (each-map (λ (q : Part Leaf). Below n e q.item) (λ (x : Leaf × Leaf). record { number = number; key = Some x.0; item = x.1 }) (by_key entries)
        (each-by_key (λ (x : Leaf × Leaf). Below n e x.1) entries (entries_below key e n rs entries (body_below_weight n rs w) (all_some_gives (entry_in key e) rs entries read))))

-- Two readers that agree on fewer bytes read the same.

abbrev pub AgreeBelow : ℕ → Reader → Reader → Type 0
AgreeBelow n child other = (t : TypeId) (bytes : List ℕ) → length bytes < n → child t bytes ≡ other t bytes

list_all_same : {A : Type 0} (p q : A → Bool) (xs : List A) → AllByRecursion (λ x. p x ≡ q x) xs → list_all p xs ≡ list_all q xs
list_all_same p q [] h = refl
list_all_same p q (x ∷ xs) h = ap₂ (λ a b. a && b) h.0 (list_all_same p q xs h.1)

module _ (n : ℕ) (child other : Reader) (agree : AgreeBelow n child other) where
  read_item_same : (e : Element) (leaf : Leaf) → Below n e leaf → read_item child e leaf ≡ read_item other e leaf
  read_item_same e leaf h = grind arith

  field_parts_same : (fs : List FieldShape) (rs : List WireRecord) (f : FieldShape) → weight rs ≤ n → field_parts child fs rs f ≡ field_parts other fs rs f
  field_parts_same fs rs f w = of (content f (counted fs f rs)) refl
    where
      within : weight (counted fs f rs) ≤ n
      within = omega (arith, weight-counted fs f rs)

      of : (o : Option (List (Part Leaf))) → content f (counted fs f rs) ≡ o → option_and_then (λ ps. all_some (map (read_part child f.element) ps)) o ≡ option_and_then (λ ps. all_some (map (read_part other f.element) ps)) o
      of None is = refl
      of (Some ps) is =
          ap all_some
          (map_same (read_part child f.element) (read_part other f.element) ps
          (each_weaker (λ (q : Part Leaf). Below n f.element q.item) (λ q. read_part child f.element q ≡ read_part other f.element q)
          (λ q h. ap (option_map (λ item. record { number = q.number; key = q.key; item = item })) (read_item_same f.element q.item h)) ps
          (content_below f.number f.presence f.element f.oneof n (counted fs f rs) ps within is)))

  is_child_same : (e : Element) (bytes : List ℕ) → length bytes < n → is_child child e bytes ≡ is_child other e bytes
  is_child_same e bytes h = grind arith

  plain_readable_same : (f : FieldShape) (r : WireRecord) → length r.body < n → is_plain_readable child f r ≡ is_plain_readable other f r
  plain_readable_same f r h = ap (λ b. is_some (leaves_in f r) && b) (is_child_same f.element r.body h)

  all_plain_readable_same : (fs : List FieldShape) (rs : List WireRecord) → AllByRecursion (λ r. length r.body < n) rs → all_plain_readable child fs rs ≡ all_plain_readable other fs rs
  all_plain_readable_same fs rs h =
      list_all_same (λ r. list_all (λ f. not (takes f r) || is_plain_readable child f r) fs) (λ r. list_all (λ f. not (takes f r) || is_plain_readable other f r) fs) rs
      (each_weaker (λ r. length r.body < n) (λ r. list_all (λ f. not (takes f r) || is_plain_readable child f r) fs ≡ list_all (λ f. not (takes f r) || is_plain_readable other f r) fs)
      (λ r short. list_all_same (λ f. not (takes f r) || is_plain_readable child f r) (λ f. not (takes f r) || is_plain_readable other f r) fs
      (each_of_all (λ f. (not (takes f r) || is_plain_readable child f r) ≡ (not (takes f r) || is_plain_readable other f r)) (λ f. ap (λ b. not (takes f r) || b) (plain_readable_same f r short)) fs)) rs h)

  entry_readable_same : (fs : List FieldShape) (bytes : List ℕ) → length bytes < n → (found : Result (List WireRecord) Fault) → records_of bytes ≡ found → is_some (option_and_then (λ rs. cond (all_plain_readable child fs rs) (Some rs) None) (option_from found)) ≡ is_some (option_and_then (λ rs. cond (all_plain_readable other fs rs) (Some rs) None) (option_from found))
  entry_readable_same fs bytes h (Err fault) is = refl
  entry_readable_same fs bytes h (Ok rs) is =
      let known = weight_of_bytes bytes rs is in
      ap (λ b. is_some (cond b (Some rs) None)) (all_plain_readable_same fs rs (body_below_weight n rs (omega (arith, known.1))))

  readable_same : (number : ℕ) (p : Presence) (e : Element) (oneof : Option ℕ) (r : WireRecord) → length r.body < n → is_readable child (field_of number p e oneof) r ≡ is_readable other (field_of number p e oneof) r
  readable_same number presences.Implicit e oneof r h = plain_readable_same (field_of number presences.Implicit e oneof) r h
  readable_same number presences.Explicit e oneof r h = plain_readable_same (field_of number presences.Explicit e oneof) r h
  readable_same number (presences.Repeated packed) e oneof r h = plain_readable_same (field_of number (presences.Repeated packed) e oneof) r h
  readable_same number (presences.Map key) e oneof r h = entry_readable_same (key_field key ∷ value_field e ∷ []) r.body h (records_of r.body) refl

  all_readable_same : (fs : List FieldShape) (rs : List WireRecord) → AllByRecursion (λ r. length r.body < n) rs → all_readable child fs rs ≡ all_readable other fs rs
  all_readable_same fs rs h =
      list_all_same (λ r. list_all (λ f. not (takes f r) || is_readable child f r) fs) (λ r. list_all (λ f. not (takes f r) || is_readable other f r) fs) rs
      (each_weaker (λ r. length r.body < n) (λ r. list_all (λ f. not (takes f r) || is_readable child f r) fs ≡ list_all (λ f. not (takes f r) || is_readable other f r) fs)
      (λ r short. list_all_same (λ f. not (takes f r) || is_readable child f r) (λ f. not (takes f r) || is_readable other f r) fs
      (each_of_all (λ f. (not (takes f r) || is_readable child f r) ≡ (not (takes f r) || is_readable other f r)) (λ f. ap (λ b. not (takes f r) || b) (readable_same f.number f.presence f.element f.oneof r short)) fs)) rs h)

  -- Records that weigh no more than that are read the same.
  pub read_records_same : (fs : List FieldShape) (rs : List WireRecord) → weight rs ≤ n → read_records child fs rs ≡ read_records other fs rs
  read_records_same fs rs w =
      search (rules, all_readable_same, body_below_weight, map_same, each_of_all, field_parts_same)

module _ (shape : Shape) where
  -- any two depths beyond the number of bytes
  depths_agree : (depth other : ℕ) (type : TypeId) (bytes : List ℕ) → length bytes < depth → length bytes < other → dec_within depth shape type bytes ≡ dec_within other shape type bytes
  depths_agree zero other type bytes h k = absurd (omega arith)
  depths_agree (suc depth) zero type bytes h k = absurd (omega arith)
  depths_agree (suc depth) (suc other) type bytes h k =
      of (λ t inner short. depths_agree depth other t inner (omega arith) (omega arith)) (records_of bytes) refl
    where
      of : AgreeBelow (length bytes) (dec_within depth shape) (dec_within other shape) → (found : Result (List WireRecord) Fault) → records_of bytes ≡ found → option_and_then (read_records (dec_within depth shape) (fields shape type)) (option_from found) ≡ option_and_then (read_records (dec_within other shape) (fields shape type)) (option_from found)
      of agree (Err fault) is = refl
      of agree (Ok rs) is = read_records_same (length bytes) (dec_within depth shape) (dec_within other shape) agree (fields shape type) rs (weight_of_bytes bytes rs is).1

  -- More depth than bytes changes nothing.
  pub dec_within_is : (depth : ℕ) (type : TypeId) (bytes : List ℕ) → length bytes < depth → dec_within depth shape type bytes ≡ dec shape type bytes
  unfolding dec
  dec_within_is depth type bytes h = depths_agree depth (suc (length bytes)) type bytes h (omega arith)

  -- The message of bytes is that of their records, with the bytes of each child read likewise.
  pub dec_is : (type : TypeId) (bytes : List ℕ) → dec shape type bytes ≡ option_and_then (read_records (dec shape) (fields shape type)) (option_from (records_of bytes))
  unfolding dec
  dec_is type bytes = of (records_of bytes) refl
    where
      of : (found : Result (List WireRecord) Fault) → records_of bytes ≡ found → option_and_then (read_records (dec_within (length bytes) shape) (fields shape type)) (option_from (records_of bytes)) ≡ option_and_then (read_records (dec shape) (fields shape type)) (option_from (records_of bytes))
      of (Err fault) is = rw is refl
      of (Ok rs) is =
          rw is
          (read_records_same (length bytes) (dec_within (length bytes) shape) (dec shape) (λ t inner short. dec_within_is (length bytes) t inner short)
          (fields shape type) rs (weight_of_bytes bytes rs is).1)
