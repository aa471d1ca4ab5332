-- The keys that a map's reader reads are all numbers or all strings; a map's entries are read the same in another order.
use Rattle.std.proofs.Common.{◌≡◌, ℕ, ℤ, pos, ◌≤◌, List, [], ◌∷◌, map, filter, length, Bool, true, false, cond, Option, Some, None, option_map, option_and_then, ap, sym, subst, ◌∙◌, arith}
use Rattle.std.specs.Prelude.{IsPermutation}
use Rattle.std.specs.List.{AllByRecursion}
use Rattle.std.proofs.lemmas.List.{length-map}
use Rattle.pg_schema.specs.declared.parts.field.Scalar.{Scalar}
use Rattle.pg_schema.specs.declared.parts.field.Scalar.TheVariants as scalars
use Rattle.pg_schema.specs.declared.parts.field.Element.{Element}
use Rattle.pg_schema.specs.declared.parts.field.Presence.TheVariants as presences
use Rattle.pg_schema.specs.rules.Fields.{is_key}
use Rattle.pg_wire.specs.Reading.{row}
use Rattle.pg_wire.specs.Records.{WireRecord, records_of}
use Rattle.pg_dyn.specs.message.Message.{Leaf, Int, Bytes, Part}
use Rattle.pg_dyn.specs.message.KeyOrder.{IsOfKind}
use Rattle.pg_dyn.specs.word.Coding.{form_wire, scalar_form, leaf_in, element_at, zero_leaf}
use Rattle.pg_dyn.specs.reading.Optional.{all_some, first_or, joined, last_of}
use Rattle.pg_dyn.specs.reading.Content.{same_wire, takes, option_from, packed_leaves, leaves_in, plain_content, key_field, value_field, entry_part, entry_in, by_key, content}
use Rattle.pg_dyn.proofs.Lists.{and_then_some, each-joined, each_some, option_map_some}
use Rattle.pg_dyn.proofs.lemmas.reading.Fields.{field_of}
use Rattle.pg_dyn.proofs.lemmas.reading.entries.LastOfKeys.{has_key}
use Rattle.pg_order.proofs.lemmas.Moved.{one_read, read_or, read_moved}
use Rattle.pg_order.proofs.lemmas.OnePerKey.{by_key_alike, entry_key, length-by_key}

-- whether a key's type is one of numbers
abbrev pub is_numeric : Scalar → Bool
is_numeric scalars.String = false
is_numeric s = true

number_kind : (n : ℤ) (leaf : Leaf) → ◌≡◌ {A = Option Leaf} (Some (Int n)) (Some leaf) → IsOfKind true leaf
number_kind n leaf h = let same : Int n ≡ leaf = cc in subst (IsOfKind true) same tt

text_kind : (t : Bool) (bytes : List ℕ) (leaf : Leaf) → ◌≡◌ {A = Option Leaf} (cond t (Some (Bytes bytes)) None) (Some leaf) → IsOfKind false leaf
text_kind true bytes leaf h = let same : Bytes bytes ≡ leaf = cc in subst (IsOfKind false) same tt
text_kind false bytes leaf h = absurd (cc)

leaf_kind : (key : Scalar) → is_key key ≡ true → (bytes : List ℕ) (leaf : Leaf) → leaf_in (scalar_form key) bytes ≡ Some leaf → IsOfKind (is_numeric key) leaf
leaf_kind scalars.Double is bytes leaf h = absurd (cc)
leaf_kind scalars.Float is bytes leaf h = absurd (cc)
leaf_kind scalars.Bytes is bytes leaf h = absurd (cc)
leaf_kind scalars.String is bytes leaf h = text_kind _ bytes leaf h
leaf_kind scalars.Int32 is bytes leaf h = number_kind _ leaf h
leaf_kind scalars.Int64 is bytes leaf h = number_kind _ leaf h
leaf_kind scalars.Uint32 is bytes leaf h = number_kind _ leaf h
leaf_kind scalars.Uint64 is bytes leaf h = number_kind _ leaf h
leaf_kind scalars.Sint32 is bytes leaf h = number_kind _ leaf h
leaf_kind scalars.Sint64 is bytes leaf h = number_kind _ leaf h
leaf_kind scalars.Fixed32 is bytes leaf h = number_kind _ leaf h
leaf_kind scalars.Fixed64 is bytes leaf h = number_kind _ leaf h
leaf_kind scalars.Sfixed32 is bytes leaf h = number_kind _ leaf h
leaf_kind scalars.Sfixed64 is bytes leaf h = number_kind _ leaf h
leaf_kind scalars.Bool is bytes leaf h = number_kind _ leaf h

zero_kind : (key : Scalar) → is_key key ≡ true → IsOfKind (is_numeric key) (zero_leaf (scalar_form key))
zero_kind key is = grind arith

module _ (key : Scalar) (is : is_key key ≡ true) where
  abbrev OfKey : Leaf → Type 0
  OfKey leaf = IsOfKind (is_numeric key) leaf

  packed_kind : (bytes : List ℕ) (ls : List Leaf) → packed_leaves (scalar_form key) bytes ≡ Some ls → AllByRecursion OfKey ls
  packed_kind bytes ls h =
      let (bodies, rows, made) = and_then_some (λ bodies. all_some (map (leaf_in (scalar_form key)) bodies)) (option_from (row (element_at (form_wire (scalar_form key))) bytes)) ls h in
      each_some OfKey (leaf_in (scalar_form key)) (leaf_kind key is) bodies ls made

  one_kind : (bytes : List ℕ) (ls : List Leaf) → option_map (λ leaf. leaf ∷ []) (leaf_in (scalar_form key) bytes) ≡ Some ls → AllByRecursion OfKey ls
  one_kind bytes ls h =
      let (leaf, read, made) = option_map_some (λ (leaf : Leaf). leaf ∷ []) (leaf_in (scalar_form key) bytes) ls h in
      subst (AllByRecursion OfKey) made (leaf_kind key is bytes leaf read, tt)

  leaves_kind : (r : WireRecord) (ls : List Leaf) → leaves_in (key_field key) r ≡ Some ls → AllByRecursion OfKey ls
  leaves_kind r ls h =
      elim (same_wire r.wire (form_wire (scalar_form key))) as (λ b. cond b (option_map (λ leaf. leaf ∷ []) (leaf_in (scalar_form key) r.body)) (packed_leaves (scalar_form key) r.body) ≡ Some ls → AllByRecursion OfKey ls)
      [ true ↦ one_kind r.body ls | false ↦ packed_kind r.body ls ] h

  last_kind : (ls : List Leaf) → AllByRecursion OfKey ls → AllByRecursion OfKey (last_of ls)
  last_kind [] h = tt
  last_kind (l ∷ []) h = h
  last_kind (l ∷ m ∷ ls) h = last_kind (m ∷ ls) h.1

  plain_kind : (rs : List WireRecord) (ls : List Leaf) → plain_content (key_field key) rs ≡ Some ls → AllByRecursion OfKey ls
  plain_kind rs ls h =
      let (rows, read, made) = option_map_some (λ (rows : List (List Leaf)). last_of (joined rows)) (all_some (map (leaves_in (key_field key)) rs)) ls h in
      subst (AllByRecursion OfKey) made (last_kind (joined rows) (each-joined OfKey rows (each_some (AllByRecursion OfKey) (leaves_in (key_field key)) leaves_kind rs rows read)))

  first_kind : (ls : List Leaf) → AllByRecursion OfKey ls → OfKey (first_or (zero_leaf (scalar_form key)) ls)
  first_kind [] h = zero_kind key is
  first_kind (l ∷ ls) h = h.0

  entry_kind : (e : Element) (r : WireRecord) (x : Leaf × Leaf) → entry_in key e r ≡ Some x → OfKey x.0
  entry_kind e r x h =
      let (rs, read, after) = and_then_some (λ rs. option_and_then (λ k. option_map (λ v. (k, v)) (entry_part (value_field e) rs)) (entry_part (key_field key) rs)) (option_from (records_of r.body)) x h in
      let (k, read_key, after_key) = and_then_some (λ y. option_map (λ v. (y, v)) (entry_part (value_field e) rs)) (entry_part (key_field key) rs) x after in
      let (v, read_value, made) = option_map_some (λ y. (k, y)) (entry_part (value_field e) rs) x after_key in
      let (ls, leaves, first) = option_map_some (first_or (zero_leaf (scalar_form key))) (plain_content (key_field key) (filter (takes (key_field key)) rs)) k read_key in
      subst (λ (y : Leaf × Leaf). OfKey y.0) {x = (k, v)} {y = x} made (subst OfKey {x = first_or (zero_leaf (scalar_form key)) ls} {y = k} first (first_kind ls (plain_kind (filter (takes (key_field key)) rs) ls leaves)))

pub all_some-length : {A B : Type 0} (g : A → Option B) (xs : List A) (ys : List B) → all_some (map g xs) ≡ Some ys → length ys ≡ length xs
all_some-length {A} {B} g [] ys h = let same : ◌≡◌ {A = List B} [] ys = cc in sym (ap length same)
all_some-length g (x ∷ xs) ys h =
    let (y, at, rest) = and_then_some (λ z. option_map (λ zs. z ∷ zs) (all_some (map g xs))) (g x) ys h in
    let (zs, later, made) = option_map_some (λ zs. y ∷ zs) (all_some (map g xs)) ys rest in
    let same = all_some-length g xs zs later in
    omega (arith, ap length made)

-- Entries of which none was written over are read the same in another order.
module _ (n : ℕ) (key : Scalar) (e : Element) (oneof : Option ℕ) (is : is_key key ≡ true) where
  entry_as_part : Leaf × Leaf → Part Leaf
  entry_as_part x = record { number = n; key = Some x.0; item = x.1 }

  default : Leaf × Leaf
  default = (Int (pos 0), Int (pos 0))

  pub map_content_moved : (test : WireRecord → Bool) (xs ys : List WireRecord) → IsPermutation xs ys → (ps : List (Part Leaf)) → content (field_of n (presences.Map key) e oneof) (filter test xs) ≡ Some ps → length (filter test xs) ≤ length ps
      → content (field_of n (presences.Map key) e oneof) (filter test ys) ≡ Some ps
  unfolding entry_as_part
  map_content_moved test xs ys moved ps h many =
      let (es, read, made) = option_map_some (λ entries. map entry_as_part (by_key entries)) (all_some (map (entry_in key e) (filter test xs))) ps h in
      let again = read_moved default (entry_in key e) test xs ys moved es read in
      let fs = map (read_or default (entry_in key e)) (filter test ys) in
      let kind : AllByRecursion (λ (x : Leaf × Leaf). IsOfKind (is_numeric key) x.0) es =
      each_some (λ (x : Leaf × Leaf). IsOfKind (is_numeric key) x.0) (entry_in key e) (entry_kind key is e) (filter test xs) es read in
      let other : AllByRecursion (λ (x : Leaf × Leaf). IsOfKind (is_numeric key) x.0) fs =
      each_some (λ (x : Leaf × Leaf). IsOfKind (is_numeric key) x.0) (entry_in key e) (entry_kind key is e) (filter test ys) fs again in
      let as_many : length (by_key es) ≡ length es =
      omega (arith, length-by_key es, all_some-length (entry_in key e) (filter test xs) es read, ap length made, length-map (by_key es) entry_as_part) in
      ap (option_map (λ entries. map entry_as_part (by_key entries))) again
      ∙ ap (λ qs. Some (map entry_as_part qs))
      (by_key_alike (is_numeric key) es fs kind other as_many (λ k few. one_read default (entry_in key e) test xs ys moved es read (has_key entry_key k) few))
      ∙ ap Some made
