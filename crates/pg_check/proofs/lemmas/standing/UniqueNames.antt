-- Names that are there once: among the full names of a sound schema's message types none is there twice, and none is a file's package.
use Rattle.std.proofs.Common.{◌≡◌, ◌∙◌, ℕ, Bool, true, false, not, nat_eq, ◌||◌, List, [], ◌∷◌, ◌++◌, map, flat_map, refl, sym, arith, rules}
use Rattle.std.specs.List.{AllByRecursion, list_all}
use Rattle.std.specs.Str.{bytes_eq}
use Rattle.std.specs.String.{string_bytes}
use Rattle.std.proofs.lemmas.Bool.{false≢true}
use Rattle.std.proofs.lemmas.Bool.Decides.{nat_tests}
use Rattle.std.proofs.lemmas.List.Folds.{list_all-append, list_any-append}
use Rattle.std.proofs.lemmas.Slice.Eq.{bytes_eq-Decides}
use Rattle.pg_schema.specs.declared.parts.enum_type.EnumType.{EnumType}
use Rattle.pg_schema.specs.declared.parts.file.File.{File}
use Rattle.pg_schema.specs.declared.parts.message_type.MessageType.{MessageType}
use Rattle.pg_schema.specs.declared.parts.Parts.{Parts}
use Rattle.pg_schema.specs.rules.DeclaredNames.{declared_names, entry_names, type_names, values_at, within}
use Rattle.pg_schema.specs.rules.Messages.{field_names}
use Rattle.pg_schema.specs.rules.Packages.{are_free_of, is_free_of, is_front}
use Rattle.pg_schema.specs.rules.Pairs.{are_distinct, differ}
use Rattle.pg_schema.specs.rules.Sound.{IsSound}
use Rattle.pg_schema.specs.rules.TextSets.{is_among}
use Rattle.pg_schema.proofs.lemmas.rules.PairLemmas.{and_both, and_left, and_right}

-- ---- names of which none is there twice

pub not_among : (name : List ℕ) (xs : List (List ℕ)) → list_all (differ name) xs ≡ true → is_among xs name ≡ true → ⊥
not_among name [] all among = false≢true among
not_among name (x ∷ xs) all among = search (rules, false≢true, not_among name xs)

pub distinct_left : (xs ys : List (List ℕ)) → are_distinct (xs ++ ys) ≡ true → are_distinct xs ≡ true
distinct_left [] ys once = refl
distinct_left (x ∷ xs) ys once = search (rules, and_both, and_left, list_all-append, and_right, distinct_left xs ys (and_right (list_all (differ x) (xs ++ ys)) (are_distinct (xs ++ ys)) once))

pub distinct_right : (xs ys : List (List ℕ)) → are_distinct (xs ++ ys) ≡ true → are_distinct ys ≡ true
distinct_right [] ys once = once
distinct_right (x ∷ xs) ys once = distinct_right xs ys (and_right (list_all (differ x) (xs ++ ys)) (are_distinct (xs ++ ys)) once)

pub not_in_both : (name : List ℕ) (xs ys : List (List ℕ)) → are_distinct (xs ++ ys) ≡ true → is_among xs name ≡ true → is_among ys name ≡ true → ⊥
not_in_both name [] ys once first second = false≢true first
not_in_both name (x ∷ xs) ys once first second = search (rules, and_right, not_among, list_all-append, and_left, bytes_eq-Decides, not_in_both name xs ys (and_right (list_all (differ x) (xs ++ ys)) (are_distinct (xs ++ ys)) once))

all_left : {X : Type 0} (test : X → Bool) (xs ys : List X) → list_all test (xs ++ ys) ≡ true → list_all test xs ≡ true
all_left test xs ys all = and_left (list_all test xs) (list_all test ys) (sym (list_all-append test xs ys) ∙ all)

pub neither : (a b : Bool) → (a || b) ≡ false → (a ≡ false) × (b ≡ false)
neither a b none = grind (arith, false≢true)

pub not_between : (xs ys zs : List (List ℕ)) (name : List ℕ) → is_among (xs ++ (ys ++ zs)) name ≡ false → is_among ys name ≡ false
not_between xs ys zs name none = search (rules, neither, list_any-append)

-- ---- of message types

abbrev pub type_name : MessageType → List ℕ
type_name t = string_bytes t.name

-- the names of the values of a message type's enums, and of what it declares beside types
abbrev inner_names : List EnumType → MessageType → List (List ℕ)
inner_names enums t = map (within (type_name t))
    (field_names t.fields.items ++ map string_bytes t.oneofs.items ++ entry_names t.fields.items ++ values_at enums t.nested_enums.items)

firsts_pass : (enums : List EnumType) (test : List ℕ → Bool) (types : List MessageType) → list_all test (flat_map (type_names enums) types) ≡ true
    → list_all test (map type_name types) ≡ true
firsts_pass enums test [] all = refl
firsts_pass enums test (t ∷ types) all =
    let own = inner_names enums t in
    let others = flat_map (type_names enums) types in
    and_both (test (type_name t)) (list_all test (map type_name types)) (and_left (test (type_name t)) (list_all test (own ++ others)) all)
    (firsts_pass enums test types (and_right (list_all test own) (list_all test others)
    (sym (list_all-append test own others) ∙ and_right (test (type_name t)) (list_all test (own ++ others)) all)))

firsts_distinct : (enums : List EnumType) (types : List MessageType) → are_distinct (flat_map (type_names enums) types) ≡ true → are_distinct (map type_name types) ≡ true
firsts_distinct enums [] once = refl
firsts_distinct enums (t ∷ types) once =
    let own = inner_names enums t in
    let others = flat_map (type_names enums) types in
    let apart : list_all (differ (type_name t)) (own ++ others) ≡ true = and_left (list_all (differ (type_name t)) (own ++ others)) (are_distinct (own ++ others)) once in
    and_both (list_all (differ (type_name t)) (map type_name types)) (are_distinct (map type_name types))
    (firsts_pass enums (differ (type_name t)) types
    (and_right (list_all (differ (type_name t)) own) (list_all (differ (type_name t)) others) (sym (list_all-append (differ (type_name t)) own others) ∙ apart)))
    (firsts_distinct enums types (distinct_right own others (and_right (list_all (differ (type_name t)) (own ++ others)) (are_distinct (own ++ others)) once)))

pub types_distinct : (parts : Parts) → IsSound parts → are_distinct (map type_name parts.types.items) ≡ true
types_distinct parts sound = search (rules, flat_map, firsts_distinct, distinct_left)

same_byte : (b : ℕ) → nat_eq b b ≡ true
same_byte b = grind (arith, nat_tests)

-- a package is a part of itself
pub whole_front : (name : List ℕ) → is_front name name ≡ true
whole_front [] = refl
whole_front (b ∷ bs) = and_both (nat_eq b b) (is_front bs bs) (same_byte b) (whole_front bs)

not_named : (scope : List ℕ) (names : List (List ℕ)) → is_free_of names scope ≡ true → is_among names scope ≡ false
not_named scope [] free = refl
not_named scope (n ∷ names) free = by (bytes_eq scope n) refl (not_named scope names (and_right (not (is_front n scope)) (is_free_of names scope) free))
  where
    by : (b : Bool) → bytes_eq scope n ≡ b → is_among names scope ≡ false → (b || is_among names scope) ≡ false
    by false is later = later
    by true is later = search (rules, bytes_eq-Decides, whole_front, false≢true, and_left)

-- no message type is called as the package
abbrev pub IsUncalled : List (List ℕ) → File → Type 0
IsUncalled names f = is_among names (string_bytes f.package) ≡ false

pub uncalled : (parts : Parts) (files : List File) → are_free_of (declared_names parts) files ≡ true → AllByRecursion (IsUncalled (map type_name parts.types.items)) files
uncalled parts [] free = tt
uncalled parts (f ∷ files) free = search (rules, not_named, firsts_pass, and_right, all_left, and_left, uncalled parts files (and_right (is_free_of (declared_names parts) (string_bytes f.package)) (are_free_of (declared_names parts) files) free))
