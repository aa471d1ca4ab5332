-- Full names hold no spaces and line ends.
use Rattle.std.proofs.Common.{◌≡◌, ℕ, ◌<◌, zero, suc, nat_eq, Bool, not, length, true, false, inl, inr, ap, sym, ◌∙◌, subst, true≢false, Option, Some, None, IfSome, is_some, unwrap_or, option_map, slice_get, List, [], ◌∷◌, refl, arith}
use Rattle.std.specs.String.{string_bytes}
use Rattle.std.specs.Str.{IsUtf8}
use Rattle.std.proofs.lemmas.Bool.{and_parts, eqb-true}
use Rattle.std.proofs.lemmas.Str.{IsUtf8-string_bytes, IsUtf8-from_ascii}
use Rattle.std.proofs.lemmas.Str.Ascii.{IsAscii-nil}
use Rattle.pg_schema.specs.declared.parts.field.TypeId.{TypeId}
use Rattle.pg_schema.specs.declared.parts.message_type.MessageType.{MessageType}
use Rattle.pg_schema.specs.declared.parts.Parts.{Parts}
use Rattle.pg_schema.specs.Invariant.{IsSchema}
use Rattle.pg_schema.specs.Parts.{name_at}
use Rattle.pg_cert.specs.inner.Reading.{lacks, IsBlank}
use Rattle.pg_cert.specs.Text.{names_of}
use Rattle.pg_cert.proofs.FullNames.{is_name_byte, is_clean, name_is_clean}

some_name : (o : Option (List ℕ)) → is_some o ≡ true → o ≡ Some (unwrap_or o [])
some_name (Some name) h = refl
some_name None h = absurd (cc)

name_is_some : (types : List MessageType) (i : ℕ) → i < length types → is_some (option_map (λ (t : MessageType). string_bytes t.name) (slice_get types i)) ≡ true
name_is_some [] i h = absurd (omega arith)
name_is_some (t ∷ types) zero h = refl
name_is_some (t ∷ types) (suc i) h = name_is_some types i (omega arith)

pub name_there : (parts : Parts) (id : TypeId) → id.index < length parts.types.items → name_at parts.types.items id ≡ Some (names_of parts id)
name_there parts id h = some_name (name_at parts.types.items id) (name_is_some parts.types.items id.index h)

name_inside : (types : List MessageType) (i : ℕ) (name : List ℕ) → option_map (λ (t : MessageType). string_bytes t.name) (slice_get types i) ≡ Some name → i < length types
name_inside [] i name h = absurd (cc)
name_inside (t ∷ types) zero name h = omega arith
name_inside (t ∷ types) (suc i) name h = let later = name_inside types i name h in omega arith

pub named_there : (types : List MessageType) (found : Option TypeId) (name : List ℕ) → ((id : TypeId) → found ≡ Some id → name_at types id ≡ Some name) → IfSome found (λ id. id.index < length types)
named_there types None name h = tt
named_there types (Some id) name h = name_inside types id.index name (h id refl)

-- no byte of a name is a space or a line end
not_blank : (b blank : ℕ) → IsBlank blank → is_name_byte b ≡ true → not (nat_eq b blank) ≡ true
not_blank b blank is h = of (nat_eq b blank) refl
  where
    none : (c : ℕ) → IsBlank c → is_name_byte c ≡ true → ⊥
    none c (inl space) k = true≢false (sym k ∙ ap is_name_byte space)
    none c (inr end) k = true≢false (sym k ∙ ap is_name_byte end)

    of : (t : Bool) → nat_eq b blank ≡ t → not t ≡ true
    of false e = refl
    of true e = absurd (none blank is (subst (λ c. is_name_byte c ≡ true) (eqb-true b blank e) h))

clean_lacks : (name : List ℕ) (blank : ℕ) → IsBlank blank → is_clean name ≡ true → lacks blank name ≡ true
clean_lacks [] blank is h = refl
clean_lacks (b ∷ name) blank is h =
    let parts = and_parts (is_name_byte b) (is_clean name) h in
    rw (not_blank b blank is parts.0) (clean_lacks name blank is parts.1)

pub name_lacks : (parts : Parts) (id : TypeId) (blank : ℕ) → IsSchema parts → id.index < length parts.types.items → IsBlank blank → lacks blank (names_of parts id) ≡ true
name_lacks parts id blank is h b = clean_lacks (names_of parts id) blank b (name_is_clean parts is.sound id.index (names_of parts id) (name_there parts id h))

utf8_or_empty : (o : Option MessageType) → IsUtf8 (unwrap_or (option_map (λ (t : MessageType). string_bytes t.name) o) [])
utf8_or_empty (Some t) = IsUtf8-string_bytes t.name
utf8_or_empty None = IsUtf8-from_ascii [] IsAscii-nil

pub name_utf8 : (parts : Parts) (id : TypeId) → IsUtf8 (names_of parts id)
name_utf8 parts id = utf8_or_empty (slice_get parts.types.items id.index)
