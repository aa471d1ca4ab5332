-- From a field to the later ones that come into its new oneof.
use Rattle.std.specs.Prelude.{◌≡◌, ℕ, suc, ◌≤◌, ◌<◌, nat_eq, ⊤, true, false, List, ◌++◌, map, length, drop, slice_index_or, Option, Some, None}
use Rattle.std.specs.Option.{unwrap_or}
use Rattle.std.specs.HashMap.{HashMap, get}
use Rattle.pg_schema.specs.declared.parts.field.Field.{Field}
use Rattle.pg_schema.specs.Parts.{field_shape}
use Rattle.pg_schema.specs.Shape.{FieldShape}
use Rattle.pg_dyn.specs.reading.Content.{same_oneof}
use Rattle.pg_pairs.specs.declared.choices.choice.Choice.{Choice}
use Rattle.pg_pairs.specs.declared.choices.oneof_links.Link.{Link}
use Rattle.pg_pairs.specs.choices.Choices.{affordable, joined_choices}
use Rattle.pg_pairs.specs.choices.NewOneof.{new_oneof}

-- the choices of a field with the later ones from that index on
abbrev pub joined_from : List FieldShape → FieldShape → List Field → ℕ → List Choice
joined_from gs a list n = joined_choices gs a (map field_shape (drop n list))

-- A field of that new oneof for which `Is` holds joins none from the one index up to the other, where there is a field
-- of the new oneof or none.
pub record Passes (gs : List FieldShape) (list : List Field) (oneof : Option ℕ) (Is : FieldShape → Type 0) (n to : ℕ)
    : Type 0 where
  pub later : n ≤ to
  pub same : (a : FieldShape) → new_oneof gs a ≡ oneof → Is a → joined_from gs a list n ≡ joined_from gs a list to
  pub member :
      (f : Field) → to < length list → f ≡ slice_index_or list to f →
      same_oneof oneof (new_oneof gs (field_shape f)) ≡ true

abbrev pub IsAny : FieldShape → Type 0
IsAny a = ⊤

-- it is in the old oneof of that field
abbrev pub IsBeside : Field → FieldShape → Type 0
IsBeside f a = same_oneof a.oneof f.oneof ≡ true

-- the field at the index, if there is one, isn't in the old oneof of `f`
abbrev pub IsOutside : List Field → Field → ℕ → Type 0
IsOutside list f to =
    (g : Field) → to < length list → g ≡ slice_index_or list to g → same_oneof f.oneof g.oneof ≡ false

-- A link leads from the field at the index to the next one of its new oneof, and to the next one there that isn't in
-- its old oneof.
pub record LeadsFrom (gs : List FieldShape) (list : List Field) (f : Field) (at : ℕ) (link : Link) : Type 0 where
  pub next : Passes gs list (new_oneof gs (field_shape f)) IsAny (suc at) link.next
  pub other : Passes gs list (new_oneof gs (field_shape f)) (IsBeside f) (suc at) link.other
  pub outside : IsOutside list f link.other

abbrev pub IsLink : List FieldShape → List Field → ℕ → Link → Type 0
IsLink gs list at link = (f : Field) → f ≡ slice_index_or list at f → LeadsFrom gs list f at link

-- the links of the fields from that index on
pub record AreLinks (gs : List FieldShape) (list : List Field) (n : ℕ) (links : List Link) : Type 0 where
  pub long : length links ≡ length list
  pub each : (i : ℕ) (d : Link) → n ≤ i → i < length list → IsLink gs list i (slice_index_or links i d)

-- the index that is kept of that new oneof
abbrev pub first_in : {S : Type 0} → HashMap ℕ ℕ S → Option ℕ → ℕ → ℕ
first_in first (Some oneof) none = unwrap_or (get nat_eq first oneof) none
first_in first None none = none

-- of each new oneof the first field from that index on is kept
abbrev pub AreFirst : {S : Type 0} → List FieldShape → List Field → ℕ → HashMap ℕ ℕ S → Type 0
AreFirst gs list n first = (oneof : Option ℕ) → Passes gs list oneof IsAny n (first_in first oneof (length list))

-- after the former choices come those of the field at that index with each later one
abbrev pub JoinsWith : List FieldShape → List Field → ℕ → List Choice → List Choice → Type 0
JoinsWith gs list at old new =
    (f : Field) → f ≡ slice_index_or list at f →
    new ≡ old ++ affordable (joined_from gs (field_shape f) list (suc at))
