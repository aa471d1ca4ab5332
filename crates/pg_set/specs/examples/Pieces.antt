-- Small pieces of sets: names, codes, ranges, options and marks.
use Rattle.std.specs.Prelude.{◌≡◌, negsuc, true, false, List, [], ◌∷◌, ◌++◌, map, codes, Some, None}
use Rattle.pg_schema.specs.declared.parts.field.Element.TheVariants as elements
use Rattle.pg_schema.specs.declared.parts.field.Presence.TheVariants.{Implicit, Explicit, Repeated, Map}
use Rattle.pg_schema.specs.declared.parts.field.Scalar.{Scalar}
use Rattle.pg_schema.specs.declared.parts.field.Scalar.TheVariants as scalars
use Rattle.pg_schema.specs.declared.parts.options.OptimizeMode.TheVariants as modes
use Rattle.pg_schema.specs.declared.parts.options.OptionValue.TheVariants as values
use Rattle.pg_set.specs.writing.Fields.{label, scalar_code, type_code, field_options}
use Rattle.pg_set.specs.writing.Items.{count, whole, mark, filled, options, child}
use Rattle.pg_set.specs.writing.Messages.{own_name, field_range, value_range, enum_options}
use Rattle.pg_set.specs.writing.Set.{file_options}
use Rattle.pg_set.specs.writing.Synthetic.{synthetic_names}

-- in the order of descriptor.proto's codes, where group, message and enum lack
abbrev pub all_scalars : List Scalar
all_scalars =
    scalars.Double ∷ scalars.Float ∷ scalars.Int64 ∷ scalars.Uint64 ∷ scalars.Int32 ∷ scalars.Fixed64 ∷ scalars.Fixed32
    ∷ scalars.Bool
    ∷ scalars.String ∷ scalars.Bytes ∷ scalars.Uint32 ∷ scalars.Sfixed32 ∷ scalars.Sfixed64 ∷ scalars.Sint32
    ∷ scalars.Sint64 ∷ []

pub record WorkedPieces : Type 0 where
  pub own_name_of_two : own_name (codes "p.q.M") ≡ codes "M"
  pub own_name_of_one : own_name (codes "M") ≡ codes "M"
  pub scalar_codes : map scalar_code all_scalars ≡ 1 ∷ 2 ∷ 3 ∷ 4 ∷ 5 ∷ 6 ∷ 7 ∷ 8 ∷ 9 ∷ 12 ∷ 13 ∷ 15 ∷ 16 ∷ 17 ∷ 18 ∷ []
  pub message_field : type_code Explicit (elements.Message (record { index = 0 })) ≡ 11
  pub enum_field : type_code (Repeated true) (elements.Enum (record { index = 0 })) ≡ 14
  pub map_field : type_code (Map scalars.String) (elements.Scalar scalars.Bytes) ≡ 11
  pub labels : map label (Implicit ∷ Explicit ∷ Repeated true ∷ Repeated false ∷ Map scalars.Int32 ∷ [])
      ≡ 1 ∷ 1 ∷ 3 ∷ 3 ∷ 3 ∷ []
  pub range_of_fields : field_range (record { first = 5; last = 7 }) ≡ count 1 5 ++ count 2 8
  pub range_of_values : value_range (record { first = negsuc 4; last = negsuc 2 }) ≡ whole 1 (negsuc 4) ++ whole 2 (negsuc 2)
  pub no_option : options 8 (field_options (record { packed = None; deprecated = None })) ≡ []
  pub false_option : options 8 (field_options (record { packed = Some false; deprecated = None })) ≡ child 8 (count 2 0)
  pub both_options : enum_options (record { allow_alias = Some true; deprecated = Some false }) ≡ count 2 1 ++ count 3 0
  pub mode_and_flag :
      file_options (record { number = 9; value = values.Mode modes.CodeSize } ∷ record { number = 23; value = values.Flag false } ∷ []) ≡ count 9 2 ++ count 23 0
  pub no_mark : mark 17 false ≡ []
  pub no_package : filled 2 [] ≡ []
  pub synthetic : synthetic_names (codes "o" ∷ codes "n" ∷ []) (codes "o" ∷ []) ≡ codes "_o" ∷ []
  pub synthetic_of_underscore : synthetic_names (codes "_w" ∷ []) (codes "_w" ∷ []) ≡ codes "X_w" ∷ []
  pub synthetic_beside_oneof : synthetic_names (codes "z" ∷ codes "_z" ∷ []) (codes "z" ∷ []) ≡ codes "X_z" ∷ []
  pub synthetic_after_another : synthetic_names (codes "a" ∷ codes "_a" ∷ []) (codes "a" ∷ codes "_a" ∷ [])
      ≡ codes "X_a" ∷ codes "XX_a" ∷ []
