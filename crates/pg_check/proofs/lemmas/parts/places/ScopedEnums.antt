-- What holds of each enum of a file, scope by scope.
use Rattle.std.proofs.Common.{ℕ, List, [], ◌∷◌, flat_map}
use Rattle.std.specs.List.{AllByRecursion}
use Rattle.pg_check.specs.rules.Outline.{Enum, an_enum, enum_in, enum_stated}
use Rattle.pg_syntax.specs.declared.tree as tree
use Rattle.pg_syntax.specs.declared.tree.Part.{Part}
use Rattle.pg_syntax.specs.declared.tree.Part.TheVariants as parts
use Rattle.pg_syntax.specs.declared.tree.Statement.TheVariants as statements

-- those that a body itself declares
pub own_all : (P : Enum → Type 0) (Q : Part → Type 0) (scope : List ℕ) → ((e : tree.Enum.Enum) → Q (parts.Enum e) → AllByRecursion P (an_enum scope e)) → (ps : List Part) → AllByRecursion Q ps
    → AllByRecursion P (flat_map (enum_in scope) ps)
own_all P Q scope so [] h = tt
own_all P Q scope so (parts.Empty span ∷ ps) h = own_all P Q scope so ps h.1
own_all P Q scope so (parts.Message' name shape row span ∷ ps) h = own_all P Q scope so ps h.1
own_all P Q scope so (parts.Enum e ∷ ps) h = ((so e h.0).0, own_all P Q scope so ps h.1)
own_all P Q scope so (parts.Oneof o ∷ ps) h = own_all P Q scope so ps h.1
own_all P Q scope so (parts.Option o ∷ ps) h = own_all P Q scope so ps h.1
own_all P Q scope so (parts.Reserved r ∷ ps) h = own_all P Q scope so ps h.1
own_all P Q scope so (parts.Map m ∷ ps) h = own_all P Q scope so ps h.1
own_all P Q scope so (parts.Field d ∷ ps) h = own_all P Q scope so ps h.1

-- those that are statements
pub stated_all : (P : Enum → Type 0) (Q : tree.Statement.Statement → Type 0) (scope : List ℕ) → ((e : tree.Enum.Enum) → Q (statements.Enum e) → AllByRecursion P (an_enum scope e))
    → (ss : List tree.Statement.Statement) → AllByRecursion Q ss → AllByRecursion P (flat_map (enum_stated scope) ss)
stated_all P Q scope so [] h = tt
stated_all P Q scope so (statements.Empty span ∷ ss) h = stated_all P Q scope so ss h.1
stated_all P Q scope so (statements.Import i ∷ ss) h = stated_all P Q scope so ss h.1
stated_all P Q scope so (statements.Option o ∷ ss) h = stated_all P Q scope so ss h.1
stated_all P Q scope so (statements.Message m ∷ ss) h = stated_all P Q scope so ss h.1
stated_all P Q scope so (statements.Enum e ∷ ss) h = ((so e h.0).0, stated_all P Q scope so ss h.1)
stated_all P Q scope so (statements.Service s ∷ ss) h = stated_all P Q scope so ss h.1
