-- The table of full names, one name after the other.
use Rattle.std.proofs.Common.{◌≡◌, ◌↔◌, ℕ, ◌+◌, ◌≤◌, ◌<◌, inl, inr, true, false, cond, List, length, Option, Some, None, String, arith, sym, ◌∙◌, ap, subst, refl}
use Rattle.std.proofs.Math.Nat.{eq-or-lt_of_le}
use Rattle.std.specs.BTreeMap.{BTreeMap, get_by_text}
use Rattle.std.specs.List.{slice_get}
use Rattle.std.specs.Map.{update}
use Rattle.std.specs.Option.{option_map}
use Rattle.std.specs.Str.{bytes_eq}
use Rattle.std.specs.String.{string_bytes}
use Rattle.std.proofs.lemmas.Option.{same_Some, none-some, slice_get_within}
use Rattle.std.proofs.lemmas.Slice.Eq.{bytes_eq-Decides}
use Rattle.pg_schema.specs.declared.parts.field.TypeId.{TypeId}
use Rattle.pg_schema.specs.declared.parts.message_type.MessageType.{MessageType}
use Rattle.pg_schema.specs.inner.Names.{IsTable}
use Rattle.pg_schema.specs.Parts.{name_at}
use Rattle.pg_schema.specs.Invariant.{HasDistinctNames}

-- the table has each name of the first n types, with its index, and no other
abbrev pub IsTableOfFirst : {Y : Type 0} → ℕ → List MessageType → BTreeMap (String Y) TypeId → Type 0
IsTableOfFirst n types table = (id : TypeId) (name : List ℕ) → (get_by_text table name ≡ Some id) ↔ ((id.index < n) × (name_at types id ≡ Some name))

abbrev pub place : ℕ → TypeId
place i = record { index = i }

-- the type at i has that name
pub named : (types : List MessageType) (i : ℕ) (t : MessageType) (key : List ℕ) → slice_get types i ≡ Some t → key ≡ string_bytes t.name → name_at types (place i) ≡ Some key
named types i t key is name = ap (option_map (λ (s : MessageType). string_bytes s.name)) is ∙ ap (λ (n : List ℕ). Some n) (sym name)

-- an index that has a name is within
pub within_case : (o : Option MessageType) (n : ℕ) (name : List ℕ) (P : Type 0) → ((t : MessageType) → o ≡ Some t → P) → option_map (λ (s : MessageType). string_bytes s.name) o ≡ Some name → P
within_case None n name P f h = absurd (none-some name h)
within_case (Some t) n name P f h = f t refl

named_within : (types : List MessageType) (id : TypeId) (name : List ℕ) → name_at types id ≡ Some name → id.index < length types
named_within types id name h = within_case (slice_get types id.index) id.index name (id.index < length types) (λ t is. slice_get_within types id.index t is) h

-- a name's index, given that the table of the first i hasn't this one
abbrev Has : ℕ → List MessageType → List ℕ → TypeId → Option TypeId → Type 0
Has n types name id found = (found ≡ Some id) ↔ ((id.index < n) × (name_at types id ≡ Some name))

is_place : (id : TypeId) (i : ℕ) → id.index ≡ i → place i ≡ id
is_place id i h = ap place (sym h)

same_key : (types : List MessageType) (i : ℕ) (id : TypeId) (key name : List ℕ) → key ≡ name → name_at types (place i) ≡ Some key → Has i types name id None → Has (i + 1) types name id (Some (place i))
same_key types i id key name same here old = (
  λ found. let is : place i ≡ id = same_Some (place i) id found in
      (subst (λ (x : TypeId). x.index < i + 1) is (omega arith), subst (λ x. name_at types x ≡ Some name) is (subst (λ n. name_at types (place i) ≡ Some n) same here)),
  λ has. elim (eq-or-lt_of_le (at_most id.index i has.0)) [
    | inl last ↦ ap (λ (x : TypeId). Some x) (is_place id i last)
    | inr below ↦ absurd (none-some id (old.1 (below, has.1)))
  ],
)
  where
    at_most : (a b : ℕ) → a < b + 1 → a ≤ b
    at_most a b h = omega arith

other_key : (types : List MessageType) (i : ℕ) (id : TypeId) (key name : List ℕ) (found : Option TypeId) → (key ≡ name → ⊥) → name_at types (place i) ≡ Some key → Has i types name id found → Has (i + 1) types name id found
other_key types i id key name found other here old = (
  λ is. let has = old.0 is in (let below = has.0 in omega (arith, below), has.1),
  λ has. elim (eq-or-lt_of_le (at_most id.index i has.0)) [
    | inl last ↦ absurd (other (same_Some key name (sym here ∙ (ap (name_at types) (is_place id i last) ∙ has.1))))
    | inr below ↦ old.1 (below, has.1)
  ],
)
  where
    at_most : (a b : ℕ) → a < b + 1 → a ≤ b
    at_most a b h = omega arith

-- one more name, which wasn't there
pub table_more : {Y : Type 0} (i : ℕ) (types : List MessageType) (key : List ℕ) (old new : BTreeMap (String Y) TypeId) → name_at types (place i) ≡ Some key
    → get_by_text old key ≡ None → ((cs : List ℕ) → get_by_text new cs ≡ update bytes_eq (get_by_text old) key (Some (place i)) cs)
    → IsTableOfFirst i types old → IsTableOfFirst (i + 1) types new
table_more i types key old new here fresh step table id name =
    subst (Has (i + 1) types name id) (sym (step name))
    (elim (bytes_eq key name) as (λ b. bytes_eq key name ≡ b → Has (i + 1) types name id (cond b (Some (place i)) (get_by_text old name))) [
      | true ↦ λ t. let same = (bytes_eq-Decides key name).0 t in
          same_key types i id key name same here (subst (Has i types name id) (subst (λ n. get_by_text old n ≡ None) same fresh) (table id name))
      | false ↦ λ f. other_key types i id key name (get_by_text old name)
          (λ same. absurd (cc (f, (bytes_eq-Decides key name).1 same))) here (table id name)
    ] refl)

-- a name that was there already is there twice
pub name_twice : {Y : Type 0} (i : ℕ) (types : List MessageType) (key : List ℕ) (old : BTreeMap (String Y) TypeId) (id : TypeId) → name_at types (place i) ≡ Some key
    → get_by_text old key ≡ Some id → IsTableOfFirst i types old → HasDistinctNames types → ⊥
name_twice i types key old id here found table distinct =
    let has = (table id key).0 found in
    let same : id.index ≡ i = ap (λ (x : TypeId). x.index) (distinct id (place i) key has.1 here) in
    let below = has.0 in
    absurd (omega (arith, same, below))

-- all names are there
pub table_all : {Y : Type 0} (i : ℕ) (types : List MessageType) (table : BTreeMap (String Y) TypeId) → length types ≤ i → IsTableOfFirst i types table → IsTable types table
table_all i types table all h id name =
    (λ found. ((h id name).0 found).1, λ is. (h id name).1 (let within = named_within types id name is in omega (arith, within, all), is))

pub distinct_from_table : {Y : Type 0} (types : List MessageType) (table : BTreeMap (String Y) TypeId) → IsTable types table → HasDistinctNames types
distinct_from_table types table h a b name is_a is_b = same_Some a b (sym ((h a name).1 is_a) ∙ (h b name).1 is_b)

pub table_along : {Y : Type 0} (types others : List MessageType) (table : BTreeMap (String Y) TypeId) → types ≡ others → IsTable types table → IsTable others table
table_along types others table same = subst (λ ts. IsTable ts table) same
