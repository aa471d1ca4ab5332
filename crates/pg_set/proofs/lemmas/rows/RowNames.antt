-- The names of rows, and of what they are of, where they mean what the rows are.
use Rattle.std.proofs.Common.{◌≡◌, ℕ, List, Some, length, map, option_map, slice_get, refl, ap, subst, ◌∙◌, rules}
use Rattle.std.proofs.lemmas.Option.{none-some, same_Some, slice_get-map}
use Rattle.std.specs.List.{AllByRecursion}
use Rattle.std.specs.String.{string_bytes}
use Rattle.pg_schema.specs.declared.parts.enum_type.EnumType.{EnumType}
use Rattle.pg_schema.specs.declared.parts.message_type.MessageType.{MessageType}
use Rattle.pg_set.specs.declared.reading.outline.Named.{Named}
use Rattle.pg_set.specs.declared.reading.outline.Named.TheVariants as nameds
use Rattle.pg_set.specs.stated.Outlines.{Row}
use Rattle.pg_set.specs.writing.Fields.{dotted}
use Rattle.pg_set.specs.writing.Places.{Declared}
use Rattle.pg_set.specs.stated.SetNames.{qualified}
use Rattle.pg_set.specs.stated.StatedNames.{NameLookup}
use Rattle.pg_set.specs.stated.StatedTypes.{own_entries}
use Rattle.pg_set.proofs.lemmas.written.WrittenRows.{enum_row}
use Rattle.pg_set.proofs.lemmas.written.WrittenServices.{HasNames}
use Rattle.pg_set.proofs.lemmas.written.WrittenTypes.{EntriesMean, inside, none_entry, type_entries, type_row}

-- the names of the message type's entry types mean some
abbrev pub RowEntriesMean : NameLookup → Row → Type 0
RowEntriesMean means r = AllByRecursion (λ e. means (qualified r.0 e) ≡ Some nameds.Entry) (own_entries r.1)

-- the names of the message types and enums mean them, by their indices
pub record AreMeant (means : NameLookup) (type_rows enum_rows : List Row) : Type 0 where
  pub types : (place : ℕ) (r : Row) → slice_get type_rows place ≡ Some r → means r.0 ≡ Some (nameds.Type (record { index = place }))
  pub entries : (place : ℕ) (r : Row) → slice_get type_rows place ≡ Some r → RowEntriesMean means r
  pub enums : (place : ℕ) (r : Row) → slice_get enum_rows place ≡ Some r → means r.0 ≡ Some (nameds.Enum (record { index = place }))

module _ {T : Type 0} (row : T → Row) (ts : List T) (rows : List Row) (are : rows ≡ map row ts) where
  row_of : (place : ℕ) (t : T) → slice_get ts place ≡ Some t → slice_get rows place ≡ Some (row t)
  row_of place t at = ap (λ rs. slice_get rs place) are ∙ (slice_get-map row ts place ∙ ap (option_map row) at)

  -- where rows have full names with a dot in front
  named_at : (full : T → List ℕ) → ((t : T) → (row t).0 ≡ dotted (full t)) → (means : NameLookup) (named : ℕ → Named) → ((place : ℕ) (r : Row) → slice_get rows place ≡ Some r → means r.0 ≡ Some (named place))
      → (place : ℕ) (n : List ℕ) → option_map full (slice_get ts place) ≡ Some n → means (dotted n) ≡ Some (named place)
  named_at full dots means named known place n is = search (rules, option_map, none-some, same_Some, row_of)

module _ (means : NameLookup) (all : Declared) (types enums : List Row) (of_types : types ≡ map (type_row all) all.types) (of_enums : enums ≡ map enum_row all.enums) (meant : AreMeant means types enums) where
  pub has_names : HasNames all means
  has_names = record {
    types = λ id name is. named_at (type_row all) all.types types of_types (λ (t : MessageType). string_bytes t.name) (λ t. refl) means (λ k. nameds.Type (record { index = k })) meant.types id.index name is;
    enums = λ id name is. named_at enum_row all.enums enums of_enums (λ (e : EnumType). string_bytes e.name) (λ e. refl) means (λ k. nameds.Enum (record { index = k })) meant.enums id.index name is;
  }

  pub entries_mean : (place : ℕ) (t : MessageType) → slice_get all.types place ≡ Some t → EntriesMean means all t
  entries_mean place t at =
      subst (AllByRecursion (λ e. means (qualified (dotted (string_bytes t.name)) e) ≡ Some nameds.Entry)) (type_entries all (inside all t) t (none_entry all (length all.types) t.nested_types.items))
      (meant.entries place (type_row all t) (row_of (type_row all) all.types types of_types place t at))
