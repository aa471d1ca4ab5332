-- Indexes of message types as trees: those of a scope are the roots of its trees, and a walk from them comes to one after the other.
use Rattle.std.proofs.Common.{◌≡◌, ◌∙◌, ◌⊎◌, inl, inr, ℕ, suc, ◌+◌, ◌^◌, ◌<◌, Bool, true, false, cond, nat_lt, List, [], ◌∷◌, ◌++◌, map, length, refl, sym, ap, ap₂, subst, arith, rules}
use Rattle.std.specs.Bool.{⊤}
use Rattle.std.specs.Str.{bytes_eq}
use Rattle.std.proofs.lemmas.Bool.Decides.{nat_tests}
use Rattle.std.proofs.lemmas.List.{append-nil}
use Rattle.std.proofs.lemmas.Slice.Eq.{bytes_eq-Decides}
use Rattle.pg_check.specs.parts.ByScope.{Placed, placed_from, places_in}
use Rattle.pg_check.specs.parts.MadeNumbers.{index_of}
use Rattle.pg_check.specs.rules.Outline.{Message, message_scope}
use Rattle.pg_check.proofs.lemmas.standing.MessageTrees.{Trees, Bare, Grown, IsIn, flat}

abbrev pub size : Trees → ℕ
size f = length (flat f)

-- the indexes of the roots, where the first one is here
abbrev pub roots : ℕ → Trees → List ℕ
roots k Bare = []
roots k (Grown m inside others) = k ∷ roots (suc k + size inside) others

-- ---- the indexes of what a scope declares

abbrev pub places_of : List ℕ → ℕ → List Message → List ℕ
places_of scope k ms = places_in scope (placed_from k (map message_scope ms))

-- the same, tree by tree
abbrev found : List ℕ → ℕ → Trees → List ℕ
found scope k Bare = []
found scope k (Grown m inside others) =
    cond (bytes_eq scope m.scope) (k ∷ found scope (suc k) inside ++ found scope (suc k + size inside) others)
    (found scope (suc k) inside ++ found scope (suc k + size inside) others)

pub one_place : (b : Bool) (p : Placed) (ps : List Placed)
    → map (λ (q : Placed). q.index) (cond b (p ∷ ps) ps) ≡ cond b (p.index ∷ map (λ (q : Placed). q.index) ps) (map (λ (q : Placed). q.index) ps)
one_place b p ps = grind arith

cond_joined : (b : Bool) (k : ℕ) (xs ys : List ℕ) → cond b (k ∷ xs ++ ys) (xs ++ ys) ≡ cond b (k ∷ xs) xs ++ ys
cond_joined b k xs ys = grind arith

first_place : (scope : List ℕ) (k : ℕ) (m : Message) (ms : List Message)
    → places_of scope k (m ∷ ms) ≡ cond (bytes_eq scope m.scope) (k ∷ places_of scope (k + 1) ms) (places_of scope (k + 1) ms)
first_place scope k m ms = search (rules, one_place)

places_joined : (scope : List ℕ) (k : ℕ) (xs ys : List Message) → places_of scope k (xs ++ ys) ≡ places_of scope k xs ++ places_of scope (k + length xs) ys
places_joined scope k [] ys = let none : k ≡ k + 0 = omega arith in ap (λ n. places_of scope n ys) none
places_joined scope k (x ∷ xs) ys =
    let next : (k + 1) + length xs ≡ k + length (x ∷ xs) = omega arith in
    first_place scope k x (xs ++ ys)
    ∙ (ap (λ ns. cond (bytes_eq scope x.scope) (k ∷ ns) ns) (places_joined scope (k + 1) xs ys ∙ ap (λ n. places_of scope (k + 1) xs ++ places_of scope n ys) next)
    ∙ (cond_joined (bytes_eq scope x.scope) k (places_of scope (k + 1) xs) (places_of scope (k + length (x ∷ xs)) ys)
    ∙ ap (λ ns. ns ++ places_of scope (k + length (x ∷ xs)) ys) (sym (first_place scope k x xs))))

-- an index of 32 bits is itself
pub index_is : (n : ℕ) → n < 2 ^ 32 → index_of n ≡ n
index_is n less = search (rules, nat_lt, nat_tests)

found_is : (scope : List ℕ) (k : ℕ) (f : Trees) → places_of scope k (flat f) ≡ found scope k f
found_is scope k Bare = refl
found_is scope k (Grown m inside others) =
    let next : k + 1 ≡ suc k = omega arith in
    let later : places_of scope (k + 1) (flat inside ++ flat others) ≡ found scope (suc k) inside ++ found scope (suc k + size inside) others =
    ap (λ n. places_of scope n (flat inside ++ flat others)) next ∙ (places_joined scope (suc k) (flat inside) (flat others)
    ∙ ap₂ (λ xs ys. xs ++ ys) (found_is scope (suc k) inside) (found_is scope (suc k + size inside) others)) in
    first_place scope k m (flat inside ++ flat others) ∙ ap (λ ns. cond (bytes_eq scope m.scope) (k ∷ ns) ns) later

-- ---- of names that are there once, those of each scope are its roots

-- the name is one of these
abbrev pub Names : List ℕ → Trees → Type 0
Names name Bare = ⊥
Names name (Grown m inside others) = (name ≡ m.full) ⊎ (Names name inside ⊎ Names name others)

abbrev pub NamedApart : Trees → Type 0
NamedApart Bare = ⊤
NamedApart (Grown m inside others) =
    (Names m.full inside → ⊥) × (Names m.full others → ⊥) × ((name : List ℕ) → Names name inside → Names name others → ⊥)
    × NamedApart inside × NamedApart others

pub apart : (a b : List ℕ) → (a ≡ b → ⊥) → bytes_eq a b ≡ false
apart a b differ = search (rules, bytes_eq-Decides)

none_found : (name scope : List ℕ) (k : ℕ) (f : Trees) → IsIn scope f → (name ≡ scope → ⊥) → (Names name f → ⊥) → found name k f ≡ []
none_found name scope k Bare own other none = refl
none_found name scope k (Grown m inside others) own other none =
    let first : bytes_eq name m.scope ≡ false = apart name m.scope (λ same. other (same ∙ own.0)) in
    ap (λ b. cond b (k ∷ found name (suc k) inside ++ found name (suc k + size inside) others) (found name (suc k) inside ++ found name (suc k + size inside) others)) first
    ∙ ap₂ (λ xs ys. xs ++ ys) (none_found name m.full (suc k) inside own.1 (λ same. none (inl same)) (λ names. none (inr (inl names))))
    (none_found name scope (suc k + size inside) others own.2 other (λ names. none (inr (inr names))))

roots_found : (scope : List ℕ) (k : ℕ) (f : Trees) → IsIn scope f → (Names scope f → ⊥) → found scope k f ≡ roots k f
roots_found scope k Bare own none = refl
roots_found scope k (Grown m inside others) own none =
    let first : bytes_eq scope m.scope ≡ true = (bytes_eq-Decides scope m.scope).1 (sym own.0) in
    ap (λ b. cond b (k ∷ found scope (suc k) inside ++ found scope (suc k + size inside) others) (found scope (suc k) inside ++ found scope (suc k + size inside) others)) first
    ∙ ap (λ ns. k ∷ ns) (ap₂ (λ xs ys. xs ++ ys) (none_found scope m.full (suc k) inside own.1 (λ same. none (inl same)) (λ names. none (inr (inl names))))
    (roots_found scope (suc k + size inside) others own.2 (λ names. none (inr (inr names)))))

-- this holds of each name and the roots that grow on it
abbrev pub HoldsOf : (List ℕ → List ℕ → Type 0) → ℕ → Trees → Type 0
HoldsOf P k Bare = ⊤
HoldsOf P k (Grown m inside others) = P m.full (roots (suc k) inside) × HoldsOf P (suc k) inside × HoldsOf P (suc k + size inside) others

holds_too : (P Q : List ℕ → List ℕ → Type 0) (k : ℕ) (f : Trees) → ((name places : List ℕ) → Names name f → P name places → Q name places) → HoldsOf P k f → HoldsOf Q k f
holds_too P Q k Bare too holds = tt
holds_too P Q k (Grown m inside others) too holds = (
  too m.full (roots (suc k) inside) (inl refl) holds.0,
  holds_too P Q (suc k) inside (λ name places names. too name places (inr (inl names))) holds.1,
  holds_too P Q (suc k + size inside) others (λ name places names. too name places (inr (inr names))) holds.2,
)

each_found : (scope : List ℕ) (k : ℕ) (f : Trees) → IsIn scope f → (Names scope f → ⊥) → NamedApart f → HoldsOf (λ name places. found name k f ≡ places) k f
each_found scope k Bare own none once = tt
each_found scope k (Grown m inside others) own none once = (
  of_this,
  of_inside (each_found m.full (suc k) inside own.1 once.0 once.3),
  of_others (each_found scope (suc k + size inside) others own.2 (λ names. none (inr (inr names))) once.4),
)
  where
    behind : ℕ
    behind = suc k + size inside

    passed : (name : List ℕ) → (name ≡ scope → ⊥) → found name k (Grown m inside others) ≡ found name (suc k) inside ++ found name behind others
    passed name other = search (rules, behind, apart)

    of_this : found m.full k (Grown m inside others) ≡ roots (suc k) inside
    of_this = search (rules, passed, roots_found, none_found, behind, append-nil)

    not_scope : (name : List ℕ) → Names name inside ⊎ Names name others → name ≡ scope → ⊥
    not_scope name names same = none (inr (subst (λ n. Names n inside ⊎ Names n others) same names))

    of_inside : HoldsOf (λ name places. found name (suc k) inside ≡ places) (suc k) inside → HoldsOf (λ name places. found name k (Grown m inside others) ≡ places) (suc k) inside
    of_inside = search (rules, holds_too, passed, not_scope, none_found, behind, append-nil)

    of_others : HoldsOf (λ name places. found name behind others ≡ places) behind others → HoldsOf (λ name places. found name k (Grown m inside others) ≡ places) behind others
    of_others = search (rules, holds_too, behind, passed, not_scope, none_found)

-- ---- the indexes that are looked up by scope

pub roots_held : (scope : List ℕ) (k : ℕ) (f : Trees) → IsIn scope f → (Names scope f → ⊥) → places_of scope k (flat f) ≡ roots k f
roots_held scope k f own none = found_is scope k f ∙ roots_found scope k f own none

pub places_held : (scope : List ℕ) (k : ℕ) (f : Trees) → IsIn scope f → (Names scope f → ⊥) → NamedApart f → HoldsOf (λ name places. places_of name k (flat f) ≡ places) k f
places_held scope k f own none once = search (rules, holds_too, flat, found_is, each_found)
