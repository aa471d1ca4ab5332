-- Full names and scopes, word by word.
use Rattle.std.proofs.Common.{◌≡◌, ◌∙◌, ℕ, Bool, true, false, List, [], ◌∷◌, ◌++◌, map, Option, Some, None, refl, ap, append_assoc, true≢false, arith, rules}
use Rattle.std.proofs.Common.{zero, suc, ◌+◌, ◌-◌, ◌<◌, ◌≤◌, ◌≢◌, String, length, take, slice_index_or, subst, sym, add-one, arith}
use Rattle.std.proofs.lemmas.List.{map_more}
use Rattle.std.specs.Borrow.{Bor}
use Rattle.std.specs.Global.{Global}
use Rattle.std.specs.HashMap.{HashMap, get_by_text}
use Rattle.pg_link.specs.declared.names.Named as nameds
use Rattle.pg_link.specs.inner.Index.{files_of, is_seen, names_seen}
use Rattle.pg_link.specs.names.Names.{texts, Text, Names, called, bears}
use Rattle.std.specs.Option.{option_and_then, option_map}
use Rattle.pg_link.specs.declared.names.Kind.{Kind}
use Rattle.pg_link.specs.names.Resolves.{Reference, scopes, sought_among, innermost, borne, found, meant, written}

pub called-append : (words more : List Text) → called (words ++ more) ≡ called words ++ called more
called-append [] more = refl
called-append (word ∷ words) more = rw (called-append words more, append_assoc word (called words) (called more)) refl

-- the innermost scope, and those around it
pub scopes-around : (words : List Text) (word : Text) → scopes (words ++ word ∷ []) ≡ (words ++ word ∷ []) ∷ scopes words
scopes-around [] word = refl
scopes-around (w ∷ words) word = rw (scopes-around words word) refl

pub innermost-around : (names : Names) (test : Kind → Bool) (part : Text) (words : List Text) (word : Text)
    → bears names test (called (words ++ word ∷ []) ++ part) ≡ false → innermost names test part (words ++ word ∷ []) ≡ innermost names test part words
innermost-around names test part words word none = rw (scopes-around words word, none) refl

-- one more word
pub called-more : {X : Type 0} (f : X → Text) (xs : List X) (i : ℕ) (d : X) → i < length xs
    → called (map f (take (i + 1) xs)) ≡ called (map f (take i xs)) ++ called (f (slice_index_or xs i d) ∷ [])
called-more f xs i d within = rw (map_more f xs i d within) (called-append (map f (take i xs)) (f (slice_index_or xs i d) ∷ []))

-- the search begins with the innermost scope
pub scopes-first : (words : List Text) → (around : List (List Text)) × (scopes words ≡ words ∷ around)
scopes-first [] = ([], refl)
scopes-first (word ∷ words) = let h = scopes-first words in (map (λ (inner : List Text). word ∷ inner) h.0 ++ [] ∷ [], rw h.1 refl)

-- it ends there
pub ends_here : (names : Names) (test : Kind → Bool) (part : Text) (scope around : List Text) (outer : Text)
    → innermost names test part around ≡ innermost names test part scope → outer ≡ called around → bears names test (outer ++ part) ≡ true
    → Some outer ≡ option_map called (innermost names test part scope)
ends_here names test part scope around outer same is_called here =
    let first = scopes-first around in
    let at : bears names test (called around ++ part) ≡ true = subst (λ (t : Text). bears names test (t ++ part) ≡ true) is_called here in
    let found : innermost names test part around ≡ Some around = rw (first.1, at) refl in
    rw (← same, found, is_called) refl

-- or it goes on outwards
pub goes_outwards : (names : Names) (test : Kind → Bool) (part : Text) (scope : List (Bor Text)) (len : ℕ) → len ≤ length scope → len ≢ 0
    → bears names test (called (texts (take len scope)) ++ part) ≡ false
    → innermost names test part (texts (take (len - 1) scope)) ≡ innermost names test part (texts (take len scope))
goes_outwards names test part scope zero within some none = absurd (some refl)
goes_outwards names test part scope (suc n) within some none =
    let word : Bor Text = slice_index_or scope n (record { ref_ptr = (0, 0); now = [] }) in
    let less : suc n - 1 ≡ n = omega arith in
    let split : texts (take (suc n) scope) ≡ texts (take n scope) ++ word.now ∷ [] =
    rw (sym (add-one n)) (map_more (λ (w : Bor Text). w.now) scope n (record { ref_ptr = (0, 0); now = [] }) (omega arith)) in
    let none_there : bears names test (called (texts (take n scope) ++ word.now ∷ []) ++ part) ≡ false = rw split at none in
    rw (less, split) (sym (innermost-around names test part (texts (take n scope)) word.now none_there))

-- the full name of a scope ends in its last word
pub last_word : (scope : List (Bor Text)) (len : ℕ) (text : Text) → len ≤ length scope → len ≢ 0 → text ≡ called (texts (take len scope))
    → text ≡ called (texts (take (len - 1) scope)) ++ called ((slice_index_or scope (len - 1) (record { ref_ptr = (0, 0); now = [] })).now ∷ [])
last_word scope len text within some is =
    let next : (len - 1) + 1 ≡ len = omega arith in
    is ∙ (ap (λ (n : ℕ). called (texts (take n scope))) (sym next) ∙ called-more (λ (w : Bor Text). w.now) scope (len - 1) (record { ref_ptr = (0, 0); now = [] }) (omega arith))

-- what the index holds of a name that is seen
pub is_borne : {S : Type 0} (index : HashMap (String Global) nameds.Named S) (visible : Option (List Bool)) (full name : Text) (named : nameds.Named)
    → get_by_text index full ≡ Some named → is_seen visible (files_of named) ≡ true → full ≡ name → Some (name, named.kind) ≡ borne (names_seen index visible) full
is_borne index visible full name named held seen same = rw (held, seen, same) refl

-- one more word after a first one
pub called-behind : {X : Type 0} (first : Text) (f : X → Text) (xs : List X) (i : ℕ) (d : X) → i < length xs
    → called (first ∷ map f (take (i + 1) xs)) ≡ called (first ∷ map f (take i xs)) ++ called (f (slice_index_or xs i d) ∷ [])
called-behind first f xs i d within = rw (map_more f xs i d within) (called-append (first ∷ map f (take i xs)) (f (slice_index_or xs i d) ∷ []))

pub none_is : {X : Type 0} (o : Option X) → ((x : X) → o ≡ Some x → ⊥) → o ≡ None
none_is o other = grind arith

-- ---- what a name means

meant_is : (names : Names) (scope : List Text) (r : Reference) (o : Option Text) → r.is_full ≡ false
    → o ≡ option_map called (innermost names (sought_among r.more) (called (r.first ∷ [])) scope) → option_map (λ (outer : Text). outer ++ written r) o ≡ meant names scope r
meant_is names scope r o full is = search (rules, true≢false)

-- what is found of a name, by the full name of the scope that has its first part
pub found_by : (names : Names) (scope : List Text) (r : Reference) (o : Option Text) → r.is_full ≡ false
    → o ≡ option_map called (innermost names (sought_among r.more) (called (r.first ∷ [])) scope)
    → option_and_then (borne names) (option_map (λ (outer : Text). outer ++ written r) o) ≡ found names scope r
found_by names scope r o full is = ap (option_and_then (borne names)) (meant_is names scope r o full is)

-- of a name with a dot in front it is what bears that name
pub found_full : (names : Names) (scope : List Text) (r : Reference) → r.is_full ≡ true → borne names (written r) ≡ found names scope r
found_full names scope r full = rw full refl
