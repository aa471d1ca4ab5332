-- The full name of a message type is words with dots between.
use Rattle.std.proofs.Common.{◌≡◌, ◌⊎◌, inl, inr, ℕ, ◌+◌, ◌<◌, zero, suc, Bool, true, false, ◌&&◌, ◌||◌, ◌==◌, nat_eq, List, [], ◌∷◌, ◌++◌, flat_map, take, drop, length, Option, Some, option_map, slice_get, refl, ap, sym, ◌∙◌, subst, arith, if◌then◌else◌, length-append}
use Rattle.std.specs.List.{list_all, list_any}
use Rattle.std.specs.String.{string_bytes}
use Rattle.std.specs.Str.{bytes_eq}
use Rattle.std.proofs.lemmas.Bool.{and_parts, eqb-true}
use Rattle.std.proofs.lemmas.List.{take-append-drop}
use Rattle.std.proofs.lemmas.List.Folds.{list_any-append}
use Rattle.pg_schema.specs.declared.parts.enum_type.EnumType.{EnumType}
use Rattle.pg_schema.specs.declared.parts.field.TypeId.{TypeId}
use Rattle.pg_schema.specs.declared.parts.file.File.{File}
use Rattle.pg_schema.specs.declared.parts.message_type.MessageType.{MessageType}
use Rattle.pg_schema.specs.declared.parts.Parts.{Parts}
use Rattle.pg_schema.specs.declared.parts.service.Service.{Service}
use Rattle.pg_schema.specs.rules.Files.{is_file, is_file_option, option_numbers}
use Rattle.pg_schema.specs.rules.Pairs.{is_rising}
use Rattle.pg_schema.specs.rules.Scopes.{is_dot_and_word, is_in, is_named_in, type_name, are_types_in, are_enums_in, are_services_in, is_type_scope, is_file_scope, are_each_once, type_places, declared_types, declared_enums, declared_services}
use Rattle.pg_schema.specs.rules.Sound.{IsSound}
use Rattle.pg_schema.specs.rules.Words.{is_letter, is_digit, is_word_byte, is_word, before_first, parts_at_dots, is_package}
use Rattle.pg_cert.proofs.Places.{each_place}
use Rattle.pg_cert.proofs.WordsRead.{same_bytes}

abbrev pub is_name_byte : ℕ → Bool
is_name_byte b = is_word_byte b || b == 46

abbrev pub is_clean : List ℕ → Bool
is_clean name = list_all is_name_byte name

or_left : (a b : Bool) → a ≡ true → (a || b) ≡ true
or_left true b h = refl
or_left false b h = absurd (cc)

or_right : (a b : Bool) → b ≡ true → (a || b) ≡ true
or_right true b h = refl
or_right false b h = h

clean_word_bytes : (word : List ℕ) → list_all is_word_byte word ≡ true → is_clean word ≡ true
clean_word_bytes [] h = refl
clean_word_bytes (b ∷ word) h =
    let parts = and_parts (is_word_byte b) (list_all is_word_byte word) h in
    rw (or_left (is_word_byte b) (b == 46) parts.0) (clean_word_bytes word parts.1)

word_bytes : (word : List ℕ) → is_word word ≡ true → list_all is_word_byte word ≡ true
word_bytes [] h = refl
word_bytes (b ∷ word) h =
    let parts = and_parts (is_letter b) (list_all is_word_byte word) h in
    rw (or_left (is_letter b) (is_digit b) parts.0) parts.1

clean_word : (word : List ℕ) → is_word word ≡ true → is_clean word ≡ true
clean_word word h = clean_word_bytes word (word_bytes word h)

clean-append : (xs ys : List ℕ) → is_clean xs ≡ true → is_clean ys ≡ true → is_clean (xs ++ ys) ≡ true
clean-append [] ys h k = k
clean-append (x ∷ xs) ys h k =
    let parts = and_parts (is_name_byte x) (is_clean xs) h in
    rw parts.0 (clean-append xs ys parts.1 k)

clean_dot_and_word : (bytes : List ℕ) → is_dot_and_word bytes ≡ true → is_clean bytes ≡ true
clean_dot_and_word [] h = refl
clean_dot_and_word (b ∷ bytes) h =
    let parts = and_parts (nat_eq b 46) (is_word bytes) h in
    rw (or_right (is_word_byte b) (b == 46) parts.0) (clean_word bytes parts.1)

-- a name in a scope
clean_in : (scope name : List ℕ) → is_clean scope ≡ true → is_in scope name ≡ true → is_clean name ≡ true
clean_in [] name clean h = clean_word name h
clean_in (b ∷ bytes) name clean h =
    let n = length (b ∷ bytes) in
    let parts = and_parts (bytes_eq (take n name) (b ∷ bytes)) (is_dot_and_word (drop n name)) h in
    let front : take n name ≡ b ∷ bytes = same_bytes (take n name) (b ∷ bytes) parts.0 in
    subst (λ t. is_clean t ≡ true) (take-append-drop n name)
    (clean-append (take n name) (drop n name) (subst (λ t. is_clean t ≡ true) (sym front) clean) (clean_dot_and_word (drop n name) parts.1))

dot_is_there : (bytes : List ℕ) → is_dot_and_word bytes ≡ true → 0 < length bytes
dot_is_there [] h = absurd (cc)
dot_is_there (b ∷ bytes) h = omega arith

-- is longer than the scope
longer : (scope name : List ℕ) → is_in scope name ≡ true → length scope < length name
longer [] [] h = absurd (cc)
longer [] (x ∷ name) h = omega arith
longer (b ∷ bytes) name h =
    let n = length (b ∷ bytes) in
    let parts = and_parts (bytes_eq (take n name) (b ∷ bytes)) (is_dot_and_word (drop n name)) h in
    let front : length (take n name) ≡ length (b ∷ bytes) = ap length (same_bytes (take n name) (b ∷ bytes) parts.0) in
    let after = dot_is_there (drop n name) parts.1 in
    let both : length name ≡ length (take n name) + length (drop n name) = sym (ap length (take-append-drop n name)) ∙ length-append (take n name) (drop n name) in
    omega (arith, front, after, both)

-- words with dots between
clean_parts : (bytes : List ℕ) → list_all (list_all is_word_byte) (parts_at_dots bytes) ≡ true → is_clean bytes ≡ true
clean_parts [] h = refl
clean_parts (b ∷ bytes) h = of (b == 46) refl h (λ k. clean_parts bytes k)
  where
    first : (parts : List (List ℕ)) → list_all (list_all is_word_byte) (before_first b parts) ≡ true → (is_word_byte b ≡ true) × (list_all (list_all is_word_byte) parts ≡ true)
    first [] k = ((and_parts (is_word_byte b) true (and_parts (is_word_byte b && true) true k).0).0, refl)
    first (part ∷ parts) k =
        let both = and_parts (is_word_byte b && list_all is_word_byte part) (list_all (list_all is_word_byte) parts) k in
        let head = and_parts (is_word_byte b) (list_all is_word_byte part) both.0 in
        (head.0, rw (head.1, both.1) refl)

    of : (t : Bool) → (b == 46) ≡ t → list_all (list_all is_word_byte) (if t then [] ∷ parts_at_dots bytes else before_first b (parts_at_dots bytes)) ≡ true → (list_all (list_all is_word_byte) (parts_at_dots bytes) ≡ true → is_clean bytes ≡ true) → is_clean (b ∷ bytes) ≡ true
    of true e k later = rw (or_right (is_word_byte b) (b == 46) e) (later k)
    of false e k later =
        let parts = first (parts_at_dots bytes) k in
        rw (or_left (is_word_byte b) (b == 46) parts.0) (later parts.1)

all_words : (parts : List (List ℕ)) → list_all is_word parts ≡ true → list_all (list_all is_word_byte) parts ≡ true
all_words [] h = refl
all_words (p ∷ parts) h =
    let both = and_parts (is_word p) (list_all is_word parts) h in
    rw (word_bytes p both.0) (all_words parts both.1)

clean_package : (bytes : List ℕ) → is_package bytes ≡ true → is_clean bytes ≡ true
clean_package [] h = refl
clean_package (b ∷ bytes) h = clean_parts (b ∷ bytes) (all_words (parts_at_dots (b ∷ bytes)) h)

-- what holds of the types of a list holds of the one at that index
among : (test : TypeId → Bool) (k : ℕ) (ids : List TypeId) → list_any (nat_eq k) (type_places ids) ≡ true → list_all test ids ≡ true → test (record { index = k }) ≡ true
among test k [] there h = absurd (cc)
among test k (id ∷ ids) there h = of (nat_eq k id.index) refl there (λ u. among test k ids u parts.1)
  where
    parts : (test id ≡ true) × (list_all test ids ≡ true)
    parts = and_parts (test id) (list_all test ids) h

    of : (b : Bool) → nat_eq k id.index ≡ b → (b || list_any (nat_eq k) (type_places ids)) ≡ true → (list_any (nat_eq k) (type_places ids) ≡ true → test (record { index = k }) ≡ true) → test (record { index = k }) ≡ true
    of true e u later = let same = eqb-true k id.index e in ap (λ n. test (record { index = n })) same ∙ parts.0
    of false e u later = later u

either : (a b : Bool) → (a || b) ≡ true → (a ≡ true) ⊎ (b ≡ true)
either true b h = inl refl
either false b h = inr h

module _ (types : List MessageType) (enums : List EnumType) (services : List Service) (k : ℕ) where
  in_files : (files : List File) → list_any (nat_eq k) (flat_map (λ (f : File). type_places f.types.items) files) ≡ true → list_all is_file files ≡ true → list_all (is_file_scope types enums services) files ≡ true →
      (scope : List ℕ) × (is_clean scope ≡ true) × (is_named_in scope (type_name types (record { index = k })) ≡ true)
  in_files [] there h s = absurd (cc)
  in_files (f ∷ files) there h s =
      let file = and_parts (is_file f) (list_all is_file files) h in
      let scopes = and_parts (is_file_scope types enums services f) (list_all (is_file_scope types enums services) files) s in
      let declared = and_parts (is_package (string_bytes f.package) && is_rising (0 ∷ option_numbers f.options.items)) (list_all is_file_option f.options.items) file.0 in
      let clean = clean_package (string_bytes f.package) (and_parts (is_package (string_bytes f.package)) (is_rising (0 ∷ option_numbers f.options.items)) declared.0).0 in
      let ins = and_parts (are_types_in types (string_bytes f.package) f.types.items && are_enums_in enums (string_bytes f.package) f.enums.items) (are_services_in services (string_bytes f.package) f.services.items) scopes.0 in
      let here = (and_parts (are_types_in types (string_bytes f.package) f.types.items) (are_enums_in enums (string_bytes f.package) f.enums.items) ins.0).0 in
      elim (either (list_any (nat_eq k) (type_places f.types.items)) (list_any (nat_eq k) (flat_map (λ (g : File). type_places g.types.items) files)) (sym (list_any-append (nat_eq k) (type_places f.types.items) (flat_map (λ (g : File). type_places g.types.items) files)) ∙ there)) [
        | inl own ↦ (string_bytes f.package, clean, among (λ id. is_named_in (string_bytes f.package) (type_name types id)) k f.types.items own here)
        | inr later ↦ in_files files later file.1 scopes.1
      ]

  in_types : (ts : List MessageType) → list_any (nat_eq k) (flat_map (λ (t : MessageType). type_places t.nested_types.items) ts) ≡ true → list_all (is_type_scope types enums) ts ≡ true →
      (j : ℕ) × (scope : List ℕ) × (option_map (λ (t : MessageType). string_bytes t.name) (slice_get ts j) ≡ Some scope) × (is_named_in scope (type_name types (record { index = k })) ≡ true)
  in_types [] there s = absurd (cc)
  in_types (t ∷ ts) there s =
      let scopes = and_parts (is_type_scope types enums t) (list_all (is_type_scope types enums) ts) s in
      let here = (and_parts (are_types_in types (string_bytes t.name) t.nested_types.items) (are_enums_in enums (string_bytes t.name) t.nested_enums.items) scopes.0).0 in
      elim (either (list_any (nat_eq k) (type_places t.nested_types.items)) (list_any (nat_eq k) (flat_map (λ (u : MessageType). type_places u.nested_types.items) ts)) (sym (list_any-append (nat_eq k) (type_places t.nested_types.items) (flat_map (λ (u : MessageType). type_places u.nested_types.items) ts)) ∙ there)) [
        | inl own ↦ (zero, string_bytes t.name, refl, among (λ id. is_named_in (string_bytes t.name) (type_name types id)) k t.nested_types.items own here)
        | inr later ↦ let found = in_types ts later scopes.1 in (suc found.0, found.1, found.2, found.3)
      ]

inside : (types : List MessageType) (i : ℕ) (name : List ℕ) → option_map (λ (t : MessageType). string_bytes t.name) (slice_get types i) ≡ Some name → i < length types
inside [] i name h = absurd (cc)
inside (t ∷ types) zero name h = omega arith
inside (t ∷ types) (suc i) name h = let later = inside types i name h in omega arith

in_scope : (scope name : List ℕ) (o : Option (List ℕ)) → o ≡ Some name → is_named_in scope o ≡ true → is_in scope name ≡ true
in_scope scope name o is h = subst (λ p. is_named_in scope p ≡ true) is h

module _ (parts : Parts) (is : IsSound parts) where
  once : are_each_once (length parts.types.items) (declared_types parts.files.items parts.types.items) ≡ true
  once =
      (and_parts (are_each_once (length parts.types.items) (declared_types parts.files.items parts.types.items)) (are_each_once (length parts.enums.items) (declared_enums parts.files.items parts.types.items))
      (and_parts (are_each_once (length parts.types.items) (declared_types parts.files.items parts.types.items) && are_each_once (length parts.enums.items) (declared_enums parts.files.items parts.types.items))
      (are_each_once (length parts.services.items) (declared_services parts.files.items)) is.declared_once).0).0

  clean_up_to : (n k : ℕ) (name : List ℕ) → option_map (λ (t : MessageType). string_bytes t.name) (slice_get parts.types.items k) ≡ Some name → length name < n → is_clean name ≡ true
  clean_up_to zero k name named short = absurd (omega arith)
  clean_up_to (suc n) k name named short =
      let there = each_place (length parts.types.items) (declared_types parts.files.items parts.types.items) once k (inside parts.types.items k name named) in
      elim (either (list_any (nat_eq k) (flat_map (λ (f : File). type_places f.types.items) parts.files.items)) (list_any (nat_eq k) (flat_map (λ (t : MessageType). type_places t.nested_types.items) parts.types.items))
      (sym (list_any-append (nat_eq k) (flat_map (λ (f : File). type_places f.types.items) parts.files.items) (flat_map (λ (t : MessageType). type_places t.nested_types.items) parts.types.items)) ∙ there)) [
        | inl file ↦
            let found = in_files parts.types.items parts.enums.items parts.services.items k parts.files.items file is.files is.file_scopes in
            clean_in found.0 name found.1 (in_scope found.0 name _ named found.2)
        | inr type ↦
            let found = in_types parts.types.items parts.enums.items parts.services.items k parts.types.items type is.type_scopes in
            let within = in_scope found.1 name _ named found.3 in
            let shorter = longer found.1 name within in
            clean_in found.1 name (clean_up_to n found.0 found.1 found.2 (omega (arith, shorter, short))) within
      ]

  pub name_is_clean : (k : ℕ) (name : List ℕ) → option_map (λ (t : MessageType). string_bytes t.name) (slice_get parts.types.items k) ≡ Some name → is_clean name ≡ true
  name_is_clean k name named = clean_up_to (suc (length name)) k name named (omega arith)
