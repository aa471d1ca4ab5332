-- Synthetic oneofs: an `optional` field is in a oneof of its own, after all real ones, in order of declaration
-- (descriptor.proto, `proto3_optional`). Their names are made as protoc makes them; that they avoid all names of the
-- message, and not those of fields and oneofs alone, is this profile's choice.
use Rattle.std.specs.Prelude.{ℕ, zero, suc, List, [], ◌∷◌, map, filter, length, nat_eq, if◌then◌else◌}
use Rattle.std.specs.String.{string_bytes}
use Rattle.pg_schema.specs.declared.parts.field.Field.{Field}
use Rattle.pg_schema.specs.JsonName.{underscore}
use Rattle.pg_schema.specs.rules.TextSets.{is_among}

-- `X`
abbrev pub sign : ℕ
sign = 88

-- a `_` before the name, unless it begins with one
abbrev pub with_underscore : List ℕ → List ℕ
with_underscore [] = underscore ∷ []
with_underscore (byte ∷ bytes) = if nat_eq byte underscore then byte ∷ bytes else underscore ∷ byte ∷ bytes

-- The name with as many `X` in front as free it of these names, tried so many times: as many names as there are can be
-- met at most, since each `X` makes it longer.
abbrev pub freed : (tries : ℕ) → List (List ℕ) → List ℕ → List ℕ
freed zero names name = name
freed (suc tries) names name = if is_among names name then freed tries names (sign ∷ name) else name

-- the name of the synthetic oneof of a field of that name, in a message that has these names
abbrev pub synthetic_name : List (List ℕ) → List ℕ → List ℕ
synthetic_name names field = freed (length names) names (with_underscore field)

-- of each of these fields in order; each name is one of the message for the later ones
abbrev pub synthetic_names : List (List ℕ) → List (List ℕ) → List (List ℕ)
synthetic_names names [] = []
synthetic_names names (field ∷ fields) =
    synthetic_name names field ∷ synthetic_names (synthetic_name names field ∷ names) fields

-- the names of the synthetic oneofs of these fields, in a message that has these names
abbrev pub synthetic_oneofs : List (List ℕ) → List Field → List (List ℕ)
synthetic_oneofs names fields =
    synthetic_names names (map (λ (f : Field). string_bytes f.name) (filter (λ (f : Field). f.states_optional) fields))
