-- Qualified names read back: the names on the way, part by part.
use Rattle.std.proofs.Common.{◌≡◌, ℕ, Bool, true, false, cond, nat_eq, List, [], ◌∷◌, ◌++◌, if◌then◌else◌, refl, ap, sym, ◌∙◌, append_assoc, rules}
use Rattle.std.proofs.lemmas.Bool.{false≢true}
use Rattle.std.proofs.lemmas.List.{append_cancel_right}
use Rattle.pg_set.specs.writing.Fields.{dotted}
use Rattle.pg_set.specs.stated.SetNames.{IsScope, NamesApart, escaped, is_backslash, is_dot_or_backslash, name_in, package_scope, quoted}
use Rattle.pg_set.specs.stated.SetNames as scopes

-- ---- parts at lone dots

abbrev put : ℕ → List (List ℕ) → List (List ℕ)
put byte [] = (byte ∷ []) ∷ []
put byte (part ∷ parts) = (byte ∷ part) ∷ parts

-- what is between dots that have no backslash in front; after a backslash any byte stands for itself
abbrev parted : (behind : Bool) → List ℕ → List (List ℕ)
parted behind [] = [] ∷ []
parted true (byte ∷ bytes) = put byte (parted false bytes)
parted false (byte ∷ bytes) = if nat_eq byte 92 then parted true bytes else (if nat_eq byte 46 then [] ∷ parted false bytes else put byte (parted false bytes))

module _ (byte : ℕ) (bytes : List ℕ) where
  at_backslash : nat_eq byte 92 ≡ true → parted false (byte ∷ bytes) ≡ parted true bytes
  at_backslash is = ap (λ r. cond r (parted true bytes) (cond (nat_eq byte 46) ([] ∷ parted false bytes) (put byte (parted false bytes)))) is

  at_dot : nat_eq byte 92 ≡ false → nat_eq byte 46 ≡ true → parted false (byte ∷ bytes) ≡ [] ∷ parted false bytes
  at_dot plain is = search rules

  at_other : nat_eq byte 92 ≡ false → nat_eq byte 46 ≡ false → parted false (byte ∷ bytes) ≡ put byte (parted false bytes)
  at_other plain is = search rules

abbrev HasPart : List (List ℕ) → Type 0
HasPart found = (part : List ℕ) × (parts : List (List ℕ)) × (found ≡ part ∷ parts)

put_part : (byte : ℕ) (found : List (List ℕ)) → HasPart (put byte found)
put_part byte [] = (byte ∷ [], [], refl)
put_part byte (part ∷ parts) = (byte ∷ part, parts, refl)

-- there is a part, which a byte goes to
first_part : (behind : Bool) (bytes : List ℕ) → HasPart (parted behind bytes)
first_part behind [] = ([], [], refl)
first_part true (byte ∷ bytes) = put_part byte (parted false bytes)
first_part false (byte ∷ bytes) = of (nat_eq byte 92) (first_part true bytes) (nat_eq byte 46)
  where
    of : (r : Bool) → HasPart (parted true bytes) → (s : Bool) → HasPart (cond r (parted true bytes) (cond s ([] ∷ parted false bytes) (put byte (parted false bytes))))
    of true later s = later
    of false later true = ([], parted false bytes, refl)
    of false later false = put_part byte (parted false bytes)

put_front : (byte : ℕ) (behind : Bool) (bytes : List ℕ) (later : List (List ℕ)) → put byte (parted behind bytes ++ later) ≡ put byte (parted behind bytes) ++ later
put_front byte behind bytes later =
    let (part, parts, is) = first_part behind bytes in
    ap (λ ps. put byte (ps ++ later)) is ∙ sym (ap (λ ps. put byte ps ++ later) is)

-- ---- names and scopes

-- names after these bytes and a dot are parts after theirs
abbrev IsWhole : List ℕ → Type 0
IsWhole bytes = (later : List ℕ) → parted false (bytes ++ 46 ∷ later) ≡ parted false bytes ++ parted false later

module _ (byte : ℕ) (bytes : List ℕ) (whole : IsWhole bytes) where
  whole_behind : IsWhole (92 ∷ byte ∷ bytes)
  whole_behind later = ap (put byte) (whole later) ∙ put_front byte false bytes (parted false later)

  whole_byte : nat_eq byte 92 ≡ false → IsWhole (byte ∷ bytes)
  whole_byte plain later = search (rules, at_dot, at_other, put_front)

module _ (kind : ℕ → Bool) (slash : (byte : ℕ) → kind byte ≡ false → nat_eq byte 92 ≡ false) where
  whole_escaped : (name : List ℕ) → IsWhole (escaped kind name)
  whole_escaped [] later = refl
  whole_escaped (b ∷ bs) later = search (rules, whole_escaped bs, whole_behind, whole_byte)

-- a byte that is quoted is none that parts
no_slash : (byte : ℕ) → is_dot_or_backslash byte ≡ false → nat_eq byte 92 ≡ false
no_slash byte is = search (rules, false≢true)

no_dot : (byte : ℕ) → is_dot_or_backslash byte ≡ false → nat_eq byte 46 ≡ false
no_dot byte is = search (rules, false≢true)

-- a quoted name is one part
parted_quoted : (name : List ℕ) → parted false (quoted name) ≡ name ∷ []
parted_quoted [] = refl
parted_quoted (b ∷ bs) = search (rules, parted_quoted bs, at_other, no_slash, no_dot)

whole_package : (name : List ℕ) → IsWhole (package_scope name)
whole_package [] later = refl
whole_package (b ∷ bs) later = ap (λ ps. [] ∷ ps) (whole_escaped is_backslash (λ byte is. is) (b ∷ bs) later)

parted_name : (scope name : List ℕ) → IsWhole scope → parted false (name_in scope name) ≡ parted false scope ++ name ∷ []
parted_name scope name whole = whole (quoted name) ∙ ap (λ ps. parted false scope ++ ps) (parted_quoted name)

whole_scope : (scope : List ℕ) → IsScope scope → IsWhole scope
whole_scope scope (scopes.of_package name) later = whole_package name later
whole_scope scope (scopes.of_name outer name is) later =
    let whole = whole_scope outer is in
    ap (parted false) (append_assoc outer (dotted (quoted name)) (46 ∷ later))
    ∙ (whole (quoted name ++ 46 ∷ later) ∙ (ap (λ ps. parted false outer ++ ps) (whole_escaped is_dot_or_backslash no_slash name later)
    ∙ (sym (append_assoc (parted false outer) (parted false (quoted name)) (parted false later)) ∙ ap (λ ps. ps ++ parted false later) (sym (whole (quoted name))))))

abbrev last_or : List ℕ → List (List ℕ) → List ℕ
last_or name [] = name
last_or name (part ∷ parts) = last_or part parts

last_is : (name other : List ℕ) (parts : List (List ℕ)) → last_or other (parts ++ name ∷ []) ≡ name
last_is name other [] = refl
last_is name other (part ∷ parts) = last_is name part parts

pub names_apart : NamesApart
names_apart scope other name another is is_too same =
    let parts = sym (parted_name scope name (whole_scope scope is)) ∙ (ap (parted false) same ∙ parted_name other another (whole_scope other is_too)) in
    let names = sym (last_is name [] (parted false scope)) ∙ (ap (last_or []) parts ∙ last_is another [] (parted false other)) in
    (append_cancel_right scope other (dotted (quoted name)) (same ∙ ap (λ n. other ++ dotted (quoted n)) (sym names)), names)
