-- Names that a schema declares, and what a filter keeps as a list goes on.
use Rattle.std.proofs.Common.{◌≡◌, ◌∙◌, ℕ, zero, suc, ◌+◌, ◌<◌, List, [], ◌∷◌, ◌++◌, map, filter, take, length, get_or, Bool, true, false, not, ◌||◌, cond, Option, Some, None, is_some, option_map, slice_get, refl, ap, sym, subst, ◌↔◌}
use Rattle.std.specs.List.{list_any}
use Rattle.std.specs.Str.{bytes_eq}
use Rattle.std.proofs.lemmas.Slice.Eq.{bytes_eq-Decides}
use Rattle.std.proofs.lemmas.Option.{slice_get_read}
use Rattle.std.proofs.lemmas.List.{append-nil}
use Rattle.std.proofs.lemmas.List.Elements.{filter-append}
use Rattle.pg_schema.specs.declared.parts.field.TypeId.{TypeId}
use Rattle.pg_schema.specs.declared.parts.message_type.MessageType.{MessageType}
use Rattle.pg_schema.specs.declared.parts.Parts.{Parts}
use Rattle.pg_schema.specs.Parts.{name_at}
use Rattle.pg_causes.specs.Names.{is_declared, name_of}
use Rattle.pg_causes.proofs.Going.{map_more}

-- the name at an index is among the names
name_among : (types : List MessageType) (name : List ℕ) (at : ℕ) → option_map name_of (slice_get types at) ≡ Some name → list_any (bytes_eq name) (map name_of types) ≡ true
name_among [] name at named = absurd (cc)
name_among (t ∷ types) name zero named =
    let same : name ≡ name_of t = cc in
    rw ((bytes_eq-Decides name (name_of t)).1 same) refl
name_among (t ∷ types) name (suc at) named = of (bytes_eq name (name_of t)) (name_among types name at named)
  where
    of : (b : Bool) → list_any (bytes_eq name) (map name_of types) ≡ true → (b || list_any (bytes_eq name) (map name_of types)) ≡ true
    of true later = refl
    of false later = later

-- a name among the names is at an index
name_placed : (types : List MessageType) (name : List ℕ) → list_any (bytes_eq name) (map name_of types) ≡ true → (at : ℕ) × (option_map name_of (slice_get types at) ≡ Some name)
name_placed [] name among = absurd (cc)
name_placed (t ∷ types) name among = of (bytes_eq name (name_of t)) refl (name_placed types name) among
  where
    of : (b : Bool) → bytes_eq name (name_of t) ≡ b → (list_any (bytes_eq name) (map name_of types) ≡ true → (at : ℕ) × (option_map name_of (slice_get types at) ≡ Some name))
        → (b || list_any (bytes_eq name) (map name_of types)) ≡ true → (at : ℕ) × (option_map name_of (slice_get (t ∷ types) at) ≡ Some name)
    of true is later among = (zero, ap Some (sym ((bytes_eq-Decides name (name_of t)).0 is)))
    of false is later among = let found = later among in (suc found.0, found.1)

-- a name is declared just where a look-up finds it
pub declared_is : (parts : Parts) (name : List ℕ) (found : Option TypeId) → ((id : TypeId) → (found ≡ Some id) ↔ (name_at parts.types.items id ≡ Some name)) → is_declared parts name ≡ is_some found
declared_is parts name (Some id) finds = name_among parts.types.items name id.index ((finds id).0 refl)
declared_is parts name None finds = of (is_declared parts name) refl
  where
    of : (b : Bool) → is_declared parts name ≡ b → b ≡ false
    of false is = refl
    of true is =
        let placed = name_placed parts.types.items name is in
        absurd (let no = (finds (record { index = placed.0 })).1 placed.1 in cc)

-- the filter of one more
module _ {A B : Type 0} (test : B → Bool) (f : A → B) (xs : List A) (i : ℕ) (x : A) (within : i < length xs) (here : x ≡ get_or xs i x) where
  one_more : filter test (map f (take (i + 1) xs)) ≡ filter test (map f (take i xs)) ++ filter test (f x ∷ [])
  one_more = ap (filter test) (map_more f xs i x within here) ∙ filter-append test (map f (take i xs)) (f x ∷ [])

  pub kept_more : test (f x) ≡ true → filter test (map f (take (i + 1) xs)) ≡ filter test (map f (take i xs)) ++ f x ∷ []
  kept_more passes = one_more ∙ ap (λ b. filter test (map f (take i xs)) ++ cond b (f x ∷ []) []) passes

  pub dropped_more : test (f x) ≡ false → filter test (map f (take (i + 1) xs)) ≡ filter test (map f (take i xs))
  dropped_more fails = one_more ∙ (ap (λ b. filter test (map f (take i xs)) ++ cond b (f x ∷ []) []) fails ∙ append-nil (filter test (map f (take i xs))))

-- one type more, by what a look-up of its name finds on the other side
module _ (other : Parts) (types : List MessageType) (i : ℕ) (t : MessageType) (name : List ℕ) (found : Option TypeId) (within : i < length types) (here : t ≡ get_or types i t) (named : name ≡ name_of t) (finds : (id : TypeId) → (found ≡ Some id) ↔ (name_at other.types.items id ≡ Some name)) where
  declared : is_declared other (name_of t) ≡ is_some found
  declared = subst (λ n. is_declared other n ≡ is_some found) named (declared_is other name found finds)

  pub shared_more : is_some found ≡ true → filter (is_declared other) (map name_of (take (i + 1) types)) ≡ filter (is_declared other) (map name_of (take i types)) ++ name_of t ∷ []
  shared_more is = kept_more (is_declared other) name_of types i t within here (declared ∙ is)

  pub shared_same : is_some found ≡ false → filter (is_declared other) (map name_of (take (i + 1) types)) ≡ filter (is_declared other) (map name_of (take i types))
  shared_same is = dropped_more (is_declared other) name_of types i t within here (declared ∙ is)

  pub only_more : is_some found ≡ false → filter (λ n. not (is_declared other n)) (map name_of (take (i + 1) types)) ≡ filter (λ n. not (is_declared other n)) (map name_of (take i types)) ++ name_of t ∷ []
  only_more is = kept_more (λ n. not (is_declared other n)) name_of types i t within here (ap not (declared ∙ is))

  pub only_same : is_some found ≡ true → filter (λ n. not (is_declared other n)) (map name_of (take (i + 1) types)) ≡ filter (λ n. not (is_declared other n)) (map name_of (take i types))
  only_same is = dropped_more (λ n. not (is_declared other n)) name_of types i t within here (ap not (declared ∙ is))

-- nothing that is found is there
pub none_found : {A : Type 0} (found : Option A) → ((x : A) → found ≡ Some x → ⊥) → is_some found ≡ false
none_found None never = refl
none_found (Some x) never = absurd (never x refl)

-- the name of the type that is at the index
pub placed_name : (all types : List MessageType) (index : ℕ) (type : MessageType) (name : List ℕ) → types ≡ all → index < length types → type ≡ get_or types index type → name ≡ name_of type
    → name_at all (record { index = index }) ≡ Some name
placed_name all types index type name same within here named =
    ap (λ ts. option_map name_of (slice_get ts index)) (sym same) ∙ (ap (option_map name_of) (slice_get_read types (length types) index type refl within here) ∙ ap Some (sym named))
