-- The JSON name of a field that states none (proto3 language guide, "JSON Mapping"; `json_name` of descriptor.proto).
use Rattle.std.specs.Prelude.{ℕ, List, [], ◌∷◌, Bool, true, false, nat_eq, if◌then◌else◌}
use Rattle.std.specs.Char.{to_ascii_uppercase}

-- '_'
abbrev pub underscore : ℕ
underscore = 95

-- each `_` is dropped, and the letter after it is in upper case; the flag says whether a `_` came before
abbrev pub in_camel_case : Bool → List ℕ → List ℕ
in_camel_case behind [] = []
in_camel_case behind (b ∷ bs) =
    if nat_eq b underscore then in_camel_case true bs
    else (if behind then to_ascii_uppercase b else b) ∷ in_camel_case false bs

-- the default JSON name of a field of that name
abbrev pub default_json_name : List ℕ → List ℕ
default_json_name name = in_camel_case false name
