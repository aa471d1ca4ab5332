-- Package names: each beginning of a package that ends before a dot, and the whole, names a scope (proto3 language
-- specification, "Package").
use Rattle.std.specs.Prelude.{ℕ, Bool, true, false, not, nat_eq, ◌&&◌, List, [], ◌∷◌}
use Rattle.std.specs.List.{list_all}
use Rattle.std.specs.String.{string_bytes}
use Rattle.pg_schema.specs.declared.parts.file.File.{File}

-- the name is the package, or what comes before a dot of it
abbrev pub is_front : (name text : List ℕ) → Bool
is_front [] [] = true
is_front [] (byte ∷ bytes) = nat_eq byte 46
is_front (letter ∷ letters) [] = false
is_front (letter ∷ letters) (byte ∷ bytes) = nat_eq letter byte && is_front letters bytes

-- none of the names is a part of the package
abbrev pub is_free_of : (names : List (List ℕ)) → (text : List ℕ) → Bool
is_free_of names text = list_all (λ name. not (is_front name text)) names

-- no file's package has a part of such a name
abbrev pub are_free_of : (names : List (List ℕ)) → List File → Bool
are_free_of names files = list_all (λ (f : File). is_free_of names (string_bytes f.package)) files
