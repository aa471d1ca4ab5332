-- The scope in which the first part of a dotted name was last found.
use Rattle.std.specs.Global.{Global}
use Rattle.std.specs.Option.{option_map, option_and_then}
use Rattle.std.specs.Prelude.{◌≡◌, false, List, [], ◌∷◌, ◌++◌, Option, Some, None, String, string_bytes}
use Rattle.pg_syntax.specs.declared.tree as tree
use Rattle.pg_link.specs.declared.names.Kind.{Kind}
use Rattle.pg_link.specs.declared.uses.found_scope.FoundScope as found_scopes
use Rattle.pg_link.specs.names.Names.{texts, Text, Names, called, ends_part}
use Rattle.pg_link.specs.names.Resolves.{Reference, borne, innermost, part_words, sought_among, written}

-- the name has several parts, and no dot in front
pub record IsDotted (name : tree.TypeName.TypeName) : Type 0 where
  pub is_not_full : name.is_full ≡ false
  pub ends : sought_among (part_words name.path.more.items) ≡ ends_part

-- the full name is that of the innermost scope that has the word
abbrev pub IsFoundScope : Names → List Text → Text → Option (String Global) → Type 0
IsFoundScope names scope word full = option_map string_bytes full
    ≡ option_map called (innermost names ends_part (called (word ∷ [])) scope)

-- what was last found is so
abbrev pub Recalls : Names → Option found_scopes.FoundScope → Type 0
Recalls names None = Unit {0}
Recalls names (Some o) = IsFoundScope names (texts o.scope.value.items) o.word.now o.full

-- it was found for this word in this scope
pub record IsFor (last : Option found_scopes.FoundScope) (scope : List Text) (word : Text) : Type 0 where
  pub outer : found_scopes.FoundScope
  pub is_last : last ≡ Some outer
  pub same_scope : texts outer.scope.value.items ≡ scope
  pub same_word : outer.word.now ≡ word

pub record RecallsFor (names : Names) (scope : List Text) (word : Text)
    (last : Option found_scopes.FoundScope) : Type 0 where
  pub recalls : Recalls names last
  pub is_for : IsFor last scope word

abbrev pub full_of : Option found_scopes.FoundScope → Option Text
full_of None = None
full_of (Some o) = option_map string_bytes o.full

-- what the name names there
abbrev pub found_in : Names → Option found_scopes.FoundScope → Reference → Option (Text × Kind)
found_in names last name = option_and_then (borne names) (option_map (λ outer. outer ++ written name) (full_of last))
