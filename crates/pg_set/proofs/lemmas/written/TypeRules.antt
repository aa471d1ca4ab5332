-- What the rules of a message type say of each of its fields.
use Rattle.std.proofs.Common.{◌≡◌, ℕ, ◌<◌, ◌^◌, true, ◌&&◌, nat_lt, List, [], ◌∷◌, length, Option, IfSome, arith, rules}
use Rattle.std.specs.List.{AllByRecursion, list_all}
use Rattle.pg_schema.specs.declared.parts.field.Field.{Field}
use Rattle.pg_schema.specs.declared.parts.message_type.MessageType.{MessageType}
use Rattle.pg_schema.specs.rules.Fields.{is_oneof}
use Rattle.pg_schema.specs.rules.Messages.{has_fields, has_oneofs, has_reserved, have_members, is_declared, is_field, is_message_type, json_names, numbers}
use Rattle.pg_schema.specs.rules.Pairs.{are_distinct, is_rising}
use Rattle.pg_schema.specs.rules.Uses.{is_reserved_range}
use Rattle.pg_schema.proofs.lemmas.rules.PairLemmas.{and_left, and_right}
use Rattle.pg_set.proofs.lemmas.lists.Tests.{below}
use Rattle.pg_set.proofs.lemmas.writing.FewOneofs.{oneof_small}
use Rattle.pg_set.proofs.lemmas.written.names.PlainNames.{field_word}
use Rattle.pg_set.proofs.lemmas.written.names.QualifiedNames.{word_plain}
use Rattle.pg_set.proofs.lemmas.written.WrittenItems.{Keeps}

-- ---- the rules of a message type

module _ (types enums : ℕ) (t : MessageType) (rules : is_message_type types enums t ≡ true) where
  has_its_fields : has_fields types enums t ≡ true
  has_its_fields = and_left _ _ (and_left _ _ (and_left (has_fields types enums t && has_oneofs t && has_reserved t) (are_distinct (json_names t.fields.items)) rules))

  pub fields_kept : list_all (is_field (length t.oneofs.items) types enums) t.fields.items ≡ true
  fields_kept = and_left _ _ (and_left (list_all (is_field (length t.oneofs.items) types enums) t.fields.items && is_rising (0 ∷ numbers t.fields.items)) (is_declared t.declared.items t.fields.items) has_its_fields)

  pub rising_above : is_rising (0 ∷ numbers t.fields.items) ≡ true
  rising_above = and_right _ _ (and_left (list_all (is_field (length t.oneofs.items) types enums) t.fields.items && is_rising (0 ∷ numbers t.fields.items)) (is_declared t.declared.items t.fields.items) has_its_fields)

  pub rising : is_rising (numbers t.fields.items) ≡ true
  rising = and_right (list_all (nat_lt 0) (numbers t.fields.items)) (is_rising (numbers t.fields.items)) rising_above

  pub declared : is_declared t.declared.items t.fields.items ≡ true
  declared = and_right (list_all (is_field (length t.oneofs.items) types enums) t.fields.items && is_rising (0 ∷ numbers t.fields.items)) (is_declared t.declared.items t.fields.items) has_its_fields

  pub members_there : have_members (length t.oneofs.items) t.fields.items ≡ true
  members_there = and_right _ _ (and_right (has_fields types enums t) (has_oneofs t) (and_left _ _ (and_left (has_fields types enums t && has_oneofs t && has_reserved t) (are_distinct (json_names t.fields.items)) rules)))

  pub ranges_kept : list_all is_reserved_range t.reserved_numbers.items ≡ true
  ranges_kept = and_left _ _ (and_left _ _ (and_right (has_fields types enums t && has_oneofs t) (has_reserved t) (and_left (has_fields types enums t && has_oneofs t && has_reserved t) (are_distinct (json_names t.fields.items)) rules)))

raised : (n : ℕ) → n < 2 ^ 29 → n < 2 ^ 32
raised n h = omega (arith, h)

keeps_one : (oneofs types enums : ℕ) → ((o : Option ℕ) → is_oneof oneofs o ≡ true → IfSome o (λ place. place < 2 ^ 32)) → (f : Field) → is_field oneofs types enums f ≡ true → Keeps types enums f
keeps_one oneofs types enums small f h = search (rules, raised, below, and_right, and_left, word_plain, field_word)

keeps_each : (oneofs types enums : ℕ) → ((o : Option ℕ) → is_oneof oneofs o ≡ true → IfSome o (λ place. place < 2 ^ 32)) → (fs : List Field) → list_all (is_field oneofs types enums) fs ≡ true
    → AllByRecursion (Keeps types enums) fs
keeps_each oneofs types enums small [] h = tt
keeps_each oneofs types enums small (f ∷ fs) h =
    (keeps_one oneofs types enums small f (and_left (is_field oneofs types enums f) _ h), keeps_each oneofs types enums small fs (and_right (is_field oneofs types enums f) _ h))

pub fields_keep : (types enums : ℕ) (t : MessageType) → is_message_type types enums t ≡ true → AllByRecursion (Keeps types enums) t.fields.items
fields_keep types enums t rules = search (rules, keeps_each, oneof_small, fields_kept, rising_above, members_there)

fields_within : (oneofs types enums : ℕ) (fs : List Field) → list_all (is_field oneofs types enums) fs ≡ true → AllByRecursion (λ (f : Field). is_oneof oneofs f.oneof ≡ true) fs
fields_within oneofs types enums [] h = tt
fields_within oneofs types enums (f ∷ fs) h =
    (and_right _ _ (and_left (is_field oneofs types enums f) (list_all (is_field oneofs types enums) fs) h), fields_within oneofs types enums fs (and_right (is_field oneofs types enums f) (list_all (is_field oneofs types enums) fs) h))

-- each is in a oneof that is there, if in any
pub fields_in_oneofs : (types enums : ℕ) (t : MessageType) → is_message_type types enums t ≡ true → AllByRecursion (λ (f : Field). is_oneof (length t.oneofs.items) f.oneof ≡ true) t.fields.items
fields_in_oneofs types enums t rules = fields_within (length t.oneofs.items) types enums t.fields.items (fields_kept types enums t rules)
