-- Where each message type lists the indexes of those that its scope declares, a walk from a scope comes to one index after the other.
use Rattle.std.proofs.Common.{◌≡◌, ◌∙◌, inl, inr, ℕ, zero, suc, ◌+◌, ◌^◌, ◌≤◌, true, false, ◌&&◌, ◌||◌, List, [], ◌∷◌, ◌++◌, map, length, Some, slice_get, refl, sym, ap, ap₂, subst, arith, length-append, true≢false, rules}
use Rattle.std.specs.Bool.{⊤}
use Rattle.std.specs.List.{list_all}
use Rattle.std.proofs.lemmas.Bool.{false≢true}
use Rattle.std.proofs.lemmas.List.{map-append}
use Rattle.std.proofs.lemmas.List.Folds.{list_all-append, list_any-append}
use Rattle.std.proofs.lemmas.Slice.Eq.{bytes_eq-Decides}
use Rattle.pg_schema.specs.declared.parts.field.TypeId.{TypeId}
use Rattle.pg_schema.specs.declared.parts.message_type.MessageType.{MessageType}
use Rattle.pg_schema.specs.rules.Pairs.{are_distinct, differ}
use Rattle.pg_schema.specs.rules.TextSets.{is_among}
use Rattle.pg_schema.proofs.lemmas.rules.PairLemmas.{and_left, and_right}
use Rattle.pg_check.specs.parts.ByScope.{Placed, placed_from, places_in, type_id}
use Rattle.pg_check.specs.rules.Outline.{Message, message_scope}
use Rattle.pg_schema.specs.standing.InOrder.{inner_types, types_below}
use Rattle.pg_schema.specs.standing.Nesting.{holds_inside, nest_within}
use Rattle.pg_schema.specs.standing.Places.{places_from}
use Rattle.pg_check.proofs.lemmas.standing.UniqueNames.{distinct_left, distinct_right, not_among, not_in_both}
use Rattle.pg_check.proofs.lemmas.standing.TreePlaces.{HoldsOf, NamedApart, Names, index_is, places_held, places_of, roots, roots_held, size}
use Rattle.pg_check.proofs.lemmas.standing.MessageTrees.{Bare, Grown, HasTrees, IsIn, Trees, flat}

pub from_joined : (k a b : ℕ) → places_from k a ++ places_from (k + a) b ≡ places_from k (a + b)
from_joined k zero b = let none : k + 0 ≡ k = omega arith in let some : 0 + b ≡ b = omega arith in ap (λ n. places_from n b) none ∙ ap (places_from k) (sym some)
from_joined k (suc a) b =
    let next : k + suc a ≡ suc k + a = omega arith in
    let more : suc (a + b) ≡ suc a + b = omega arith in
    ap (λ ns. k ∷ ns) (ap (λ n. places_from (suc k) a ++ places_from n b) next ∙ from_joined (suc k) a b) ∙ ap (places_from k) more

-- ---- a walk over trees

abbrev root : ℕ → TypeId
root index = record { index = index }

roots_are : (k : ℕ) (f : Trees) → k + size f ≤ 2 ^ 32 → map type_id (roots k f) ≡ map root (roots k f)
roots_are k Bare few = refl
roots_are k (Grown m inside others) few =
    let long : length (flat inside ++ flat others) ≡ size inside + size others = length-append (flat inside) (flat others) in
    ap₂ (λ n ids. root n ∷ ids) (index_is k (omega (arith, few))) (roots_are (suc k + size inside) others (omega (arith, few, long)))

module _ (types : List MessageType) where
  -- the message type at this index lists these
  pub record ListsInside (k : ℕ) (places : List ℕ) : Type 0 where
    pub type : MessageType
    pub there : slice_get types k ≡ Some type
    pub nested : type.nested_types.items ≡ map type_id places

  -- each lists the roots that grow on it, by their indexes
  record ListsRoots (k : ℕ) (places : List ℕ) : Type 0 where
    type : MessageType
    there : slice_get types k ≡ Some type
    nested : type.nested_types.items ≡ map root places

  abbrev ListRoots : ℕ → Trees → Type 0
  ListRoots k Bare = ⊤
  ListRoots k (Grown m inside others) = ListsRoots k (roots (suc k) inside) × ListRoots (suc k) inside × ListRoots (suc k + size inside) others

  walk : (depth k : ℕ) (f : Trees) → ListRoots k f → nest_within depth types (map root (roots k f)) ≡ true → types_below depth types (map root (roots k f)) ≡ places_from k (size f)
  walk zero k Bare list shallow = refl
  walk zero k (Grown m inside others) list shallow = absurd (false≢true shallow)
  walk (suc depth) k Bare list shallow = refl
  walk (suc depth) k (Grown m inside others) list shallow =
      let own = list.0 in
      let behind : ℕ = suc k + size inside in
      let first : holds_inside (nest_within depth types) (slice_get types k) ≡ true =
      and_left (holds_inside (nest_within depth types) (slice_get types k)) (nest_within (suc depth) types (map root (roots behind others))) shallow in
      let low : nest_within depth types (map root (roots (suc k) inside)) ≡ true =
      ap (nest_within depth types) (sym own.nested) ∙ (ap (holds_inside (nest_within depth types)) (sym own.there) ∙ first) in
      let here : inner_types (types_below depth types) (slice_get types k) ≡ places_from (suc k) (size inside) =
      ap (inner_types (types_below depth types)) own.there ∙ (ap (types_below depth types) own.nested ∙ walk depth (suc k) inside list.1 low) in
      let later : types_below (suc depth) types (map root (roots behind others)) ≡ places_from behind (size others) =
      walk (suc depth) behind others list.2
      (and_right (holds_inside (nest_within depth types) (slice_get types k)) (nest_within (suc depth) types (map root (roots behind others))) shallow) in
      ap (λ ns. k ∷ ns) (ap₂ (λ xs ys. xs ++ ys) here later ∙ (from_joined (suc k) (size inside) (size others)
      ∙ ap (places_from (suc k)) (sym (length-append (flat inside) (flat others)))))

  -- ---- message types that list what their scopes declare

  -- those from this index on are these
  abbrev pub AreTyped : List Placed → ℕ → List Message → Type 0
  AreTyped all k [] = ⊤
  AreTyped all k (m ∷ ms) = ListsInside k (places_in m.full all) × AreTyped all (suc k) ms

  typed_parts : (all : List Placed) (k : ℕ) (xs ys : List Message) → AreTyped all k (xs ++ ys) → AreTyped all k xs × AreTyped all (k + length xs) ys
  typed_parts all k [] ys typed = let none : k ≡ k + 0 = omega arith in (tt, subst (λ n. AreTyped all n ys) none typed)
  typed_parts all k (x ∷ xs) ys typed =
      let next : suc k + length xs ≡ k + length (x ∷ xs) = omega arith in
      let parts = typed_parts all (suc k) xs ys typed.1 in
      ((typed.0, parts.0), subst (λ n. AreTyped all n ys) next parts.1)

  lists_roots : (k j : ℕ) (xs : List ℕ) (f : Trees) → xs ≡ roots j f → j + size f ≤ 2 ^ 32 → ListsInside k xs → ListsRoots k (roots j f)
  lists_roots k j xs f same few l = record { type = l.type; there = l.there; nested = l.nested ∙ (ap (map type_id) same ∙ roots_are j f few) }

  list_roots : (all : List Placed) (k : ℕ) (f : Trees) → k + size f ≤ 2 ^ 32 → AreTyped all k (flat f) → HoldsOf (λ name places. places_in name all ≡ places) k f → ListRoots k f
  list_roots all k Bare few typed held = tt
  list_roots all k (Grown m inside others) few typed held =
      let long : length (flat inside ++ flat others) ≡ size inside + size others = length-append (flat inside) (flat others) in
      let within : suc k + size inside ≤ 2 ^ 32 = omega (arith, few, long) in
      let parts = typed_parts all (suc k) (flat inside) (flat others) typed.1 in (
        lists_roots k (suc k) (places_in m.full all) inside held.0 within typed.0,
        list_roots all (suc k) inside within parts.0 held.1,
        list_roots all (suc k + size inside) others (omega (arith, few, long)) parts.1 held.2,
      )

-- ---- names that are there once

abbrev pub full_of : Message → List ℕ
full_of m = m.full

named : (name : List ℕ) (f : Trees) → Names name f → is_among (map full_of (flat f)) name ≡ true
named name Bare names = absurd names
named name (Grown m inside others) (inl same) = ap (λ b. b || is_among (map full_of (flat inside ++ flat others)) name) ((bytes_eq-Decides name m.full).1 same)
named name (Grown m inside others) (inr names) = search (rules, flat, map-append, list_any-append, named name inside, named name others)

named_apart : (f : Trees) → are_distinct (map full_of (flat f)) ≡ true → NamedApart f
named_apart Bare once = tt
named_apart (Grown m inside others) once = (
  λ names. not_among m.full ins (and_left (list_all (differ m.full) ins) (list_all (differ m.full) outs) firsts) (named m.full inside names),
  λ names. not_among m.full outs (and_right (list_all (differ m.full) ins) (list_all (differ m.full) outs) firsts) (named m.full others names),
  λ name here there. not_in_both name ins outs later (named name inside here) (named name others there),
  named_apart inside (distinct_left ins outs later),
  named_apart others (distinct_right ins outs later),
)
  where
    ins : List (List ℕ)
    ins = map full_of (flat inside)

    outs : List (List ℕ)
    outs = map full_of (flat others)

    joined : map full_of (flat inside ++ flat others) ≡ ins ++ outs
    joined = map-append full_of (flat inside) (flat others)

    all : List (List ℕ)
    all = map full_of (flat inside ++ flat others)

    firsts : (list_all (differ m.full) ins && list_all (differ m.full) outs) ≡ true
    firsts = sym (list_all-append (differ m.full) ins outs) ∙ (ap (list_all (differ m.full)) (sym joined) ∙ and_left (list_all (differ m.full) all) (are_distinct all) once)

    later : are_distinct (ins ++ outs) ≡ true
    later = ap are_distinct (sym joined) ∙ and_right (list_all (differ m.full) all) (are_distinct all) once

-- ---- the message types of a scope

-- they are here one after the other, and a walk that begins at the scope comes to them so
abbrev WalkInOrder : List MessageType → (depth : ℕ) → List ℕ → ℕ → List Message → Type 0
WalkInOrder types depth scope k ms =
    are_distinct (map full_of ms) ≡ true → is_among (map full_of ms) scope ≡ false → k + length ms ≤ 2 ^ 32
    → AreTyped types (placed_from k (map message_scope ms)) k ms → nest_within depth types (map type_id (places_of scope k ms)) ≡ true
    → types_below depth types (map type_id (places_of scope k ms)) ≡ places_from k (length ms)

trees_walk : (types : List MessageType) (depth : ℕ) (scope : List ℕ) (k : ℕ) (f : Trees) → IsIn scope f → WalkInOrder types depth scope k (flat f)
trees_walk types depth scope k f own once free few typed shallow =
    let none : Names scope f → ⊥ = λ names. true≢false (sym (named scope f names) ∙ free) in
    let apart : NamedApart f = named_apart f once in
    let are : map type_id (places_of scope k (flat f)) ≡ map root (roots k f) = ap (map type_id) (roots_held scope k f own none) ∙ roots_are k f few in
    ap (types_below depth types) are
    ∙ walk types depth k f (list_roots types (placed_from k (map message_scope (flat f))) k f few typed (places_held scope k f own none apart))
    (ap (nest_within depth types) (sym are) ∙ shallow)

pub walk_in_order : (types : List MessageType) (depth : ℕ) (scope : List ℕ) (k : ℕ) (ms : List Message) → HasTrees scope ms → WalkInOrder types depth scope k ms
walk_in_order types depth scope k ms has = subst (WalkInOrder types depth scope k) has.is_flat (trees_walk types depth scope k has.trees has.is_in)
