-- The names that a file declares, in the order of the words that declare them.
use Rattle.std.specs.Prelude.{ℕ, List, [], ◌∷◌, ◌++◌, map}
use Rattle.pg_schema.specs.rules.DeclaredNames.{entry_name}
use Rattle.pg_link.specs.declared.names.Kind.{Kind}
use Rattle.pg_link.specs.declared.names.Kind.TheVariants as kinds
use Rattle.pg_link.specs.names.Files.{Declared}
use Rattle.pg_link.specs.names.Names.{Text, called}

-- a word of a source file, and its first byte
pub record Word : Type 0 where
  pub text : Text
  pub at : ℕ

-- what is declared one after the other
pub data Declarations : Type 0 where
  Done : Declarations
  Alone : Kind → Word → Declarations → Declarations
  -- a map field, which declares the type of its entries too
  MapField : Word → Declarations → Declarations
  -- a scope of its own: a message or a service, and what is in it
  Within : Kind → Word → Declarations → Declarations → Declarations
  -- no scope: an enum or a oneof; what is in it is declared next to it
  Beside : Kind → Word → Declarations → Declarations → Declarations

-- ---- names, in a scope that is given by its own full name; outside of all it is the empty one

abbrev pub within : Text → Text → Text
within scope word = scope ++ called (word ∷ [])

abbrev pub declared : Text → Kind → Word → Declared
declared scope kind word = record { name = within scope word.text; kind = kind; at = word.at }

-- the type of a map field's entries, which is where the field's name is
abbrev pub entry : Text → Word → Declared
entry scope word = record { name = within scope (entry_name word.text); kind = kinds.Entry; at = word.at }

abbrev pub names_in : Text → Declarations → List Declared
names_in scope Done = []
names_in scope (Alone kind word rest) = declared scope kind word ∷ names_in scope rest
names_in scope (MapField word rest) = declared scope kinds.Field word ∷ entry scope word ∷ names_in scope rest
names_in scope (Within kind word inner rest) =
    declared scope kind word ∷ (names_in (within scope word.text) inner ++ names_in scope rest)
names_in scope (Beside kind word inner rest) = declared scope kind word ∷ (names_in scope inner ++ names_in scope rest)

-- each part of a package is a name of the scope of those before it
abbrev pub package_names : Text → List Word → List Declared
package_names scope [] = []
package_names scope (word ∷ words) = declared scope kinds.Package word ∷ package_names (within scope word.text) words

-- the scope of a file's statements
abbrev pub package_scope : List Word → Text
package_scope words = called (map (λ word. word.text) words)

-- of a file with this package, what is before the package's statement and what comes after it
abbrev pub names_of_file : Declarations → List Word → Declarations → List Declared
names_of_file front package_words behind = names_in (package_scope package_words) front
    ++ (package_names [] package_words ++ names_in (package_scope package_words) behind)
