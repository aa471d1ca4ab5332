-- An int32 holds all numbers of a schema; those of a file where it counts the imports.
use Rattle.std.proofs.Common.{◌≡◌, ℕ, ◌<◌, ◌≤◌, ◌^◌, true, List, [], ◌∷◌, length, Option, Some, None, IfSome, subst, arith, rules}
use Rattle.std.specs.List.{AllByRecursion, list_all}
use Rattle.pg_schema.specs.declared.parts.field.Field.{Field}
use Rattle.pg_schema.specs.declared.parts.file.File.{File}
use Rattle.pg_schema.specs.declared.parts.message_type.MessageType.{MessageType}
use Rattle.pg_schema.specs.declared.parts.message_type.ReservedFields.{ReservedFields}
use Rattle.pg_schema.specs.declared.parts.Parts.{Parts}
use Rattle.pg_schema.specs.rules.Fields.{is_oneof}
use Rattle.pg_schema.specs.rules.Files.{is_file}
use Rattle.pg_schema.specs.Invariant.{IsSchema}
use Rattle.pg_schema.specs.rules.Messages.{is_field, is_message_type}
use Rattle.pg_schema.specs.rules.Uses.{is_reserved_range}
use Rattle.pg_schema.proofs.lemmas.rules.PairLemmas.{and_left, and_right}
use Rattle.pg_dyn.specs.encoding.Encoding.{cap, enc}
use Rattle.pg_set.specs.descriptor.Descriptor.{written_shape, descriptor_shape, file_set}
use Rattle.pg_set.specs.inner.writing.Drafts.{IsEncodingOf}
use Rattle.pg_set.specs.writing.Set.{fds, set_message}
use Rattle.pg_set.specs.writing.Written.{HasNoSet}
use Rattle.pg_set.specs.inner.writing.PutParts.{set_items}
use Rattle.pg_set.proofs.lemmas.writing.FewOneofs.{few_places}
use Rattle.pg_set.specs.inner.writing.Small.{HasSmallNumbers, IsSmallRange, IsSmallType}
use Rattle.pg_set.specs.inner.writing.Writable.{IsWritable, has_counted_imports}
use Rattle.pg_set.proofs.lemmas.lists.Tests.{at_most, below}

place_small : (o : Option ℕ) (n : ℕ) → n < 2 ^ 31 → is_oneof n o ≡ true → IfSome o (λ place. place < 2 ^ 31)
place_small None n few h = tt
place_small (Some place) n few h = let at = below place n h in omega (arith, at, few)

field_small : (oneofs types enums : ℕ) (f : Field) → oneofs < 2 ^ 31 → is_field oneofs types enums f ≡ true → HasSmallNumbers f
field_small oneofs types enums f few h = search (rules, below, and_right, and_left, place_small)

fields_small : (oneofs types enums : ℕ) (fs : List Field) → oneofs < 2 ^ 31 → list_all (is_field oneofs types enums) fs ≡ true → AllByRecursion HasSmallNumbers fs
fields_small oneofs types enums [] few h = tt
fields_small oneofs types enums (f ∷ fs) few h = (field_small oneofs types enums f few (and_left _ _ h), fields_small oneofs types enums fs few (and_right (is_field oneofs types enums f) _ h))

range_small : (r : ReservedFields) → is_reserved_range r ≡ true → IsSmallRange r
range_small r h = search (rules, below, and_right, at_most, and_left)

ranges_small : (rs : List ReservedFields) → list_all is_reserved_range rs ≡ true → AllByRecursion IsSmallRange rs
ranges_small [] h = tt
ranges_small (r ∷ rs) h = (range_small r (and_left _ _ h), ranges_small rs (and_right (is_reserved_range r) _ h))

type_small : (types enums : ℕ) (t : MessageType) → is_message_type types enums t ≡ true → IsSmallType t
type_small types enums t h = search (rules, few_places, fields_small, and_left, ranges_small, and_right)

types_small : (types enums : ℕ) (ts : List MessageType) → list_all (is_message_type types enums) ts ≡ true → AllByRecursion IsSmallType ts
types_small types enums [] h = tt
types_small types enums (t ∷ ts) h = (type_small types enums t (and_left _ _ h), types_small types enums ts (and_right (is_message_type types enums t) _ h))

files_writable : (fs : List File) → list_all is_file fs ≡ true → list_all has_counted_imports fs ≡ true → AllByRecursion IsWritable fs
files_writable [] h counted = tt
files_writable (f ∷ fs) h counted =
    let here = and_left (is_file f) (list_all is_file fs) h in (
      record {
        imports = below (length f.imports.items) (2 ^ 31) (and_left _ _ counted);
        kinds = and_right _ _ here;
        rising = and_right _ _ (and_left _ _ here);
      },
      files_writable fs (and_right (is_file f) _ h) (and_right (has_counted_imports f) _ counted),
    )

pub all_small : (parts : Parts) → IsSchema parts → AllByRecursion IsSmallType parts.types.items
all_small parts is = types_small (length parts.types.items) (length parts.enums.items) parts.types.items is.sound.message_types

pub all_writable : (parts : Parts) → IsSchema parts → list_all has_counted_imports parts.files.items ≡ true → AllByRecursion IsWritable parts.files.items
all_writable parts is counted = files_writable parts.files.items is.sound.files counted

pub set_bytes : (parts : Parts) (bytes : List ℕ) → IsEncodingOf file_set (set_items parts) bytes → bytes ≡ enc descriptor_shape file_set (set_message parts)
unfolding written_shape
set_bytes parts bytes of = of.bytes_are

pub set_written : (parts : Parts) (bytes : List ℕ) → IsEncodingOf file_set (set_items parts) bytes → length bytes ≤ cap → fds parts bytes
set_written parts bytes of short = (set_bytes parts bytes of, short)

pub set_long : (parts : Parts) (bytes : List ℕ) → IsEncodingOf file_set (set_items parts) bytes → cap < length bytes → HasNoSet parts
set_long parts bytes of long = subst (λ bs. cap < length bs) (set_bytes parts bytes of) long
