-- What was last found for the first part of a dotted name, and what the name then names.
use lib.Pointwise.{pointwise}
use Rattle.std.proofs.Common.{◌≡◌, Bool, true, false, not, List, [], ◌∷◌, Option, Some, refl, sym, true≢false, string_bytes, rules}
use Rattle.std.proofs.lemmas.Slice.Eq.{bytes_eq-Decides}
use Rattle.std.specs.Borrow.{Bor}
use Rattle.std.specs.Option.{option_map}
use Rattle.std.specs.Str.{bytes_eq}
use Rattle.pg_link.specs.declared.uses.found_scope.FoundScope as found_scopes
use Rattle.pg_link.specs.names.Names.{texts, Text, Names, called, ends_part}
use Rattle.pg_link.specs.inner.FoundScope.{IsDotted, RecallsFor, found_in}
use Rattle.pg_link.specs.names.Resolves.{found, innermost, part_words, reference, sought_among}
use Rattle.pg_link.proofs.lemmas.names.ResolvesLaws.{found_by}
use Rattle.pg_syntax.specs.declared.tree as tree

-- ---- the same words

pub same_words : (a b : List (Bor Text)) → pointwise (λ (x y : Bor Text). bytes_eq x.now y.now) a b ≡ true → texts a ≡ texts b
same_words [] [] same = refl
same_words [] (y ∷ b) same = absurd (true≢false (sym same))
same_words (x ∷ a) [] same = absurd (true≢false (sym same))
same_words (x ∷ a) (y ∷ b) same = search (rules, pointwise, bytes_eq-Decides, true≢false, same_words a b)

-- ---- what a name means

pub found_is : (names : Names) (scope : List Text) (n : tree.TypeName.TypeName) (last : Option found_scopes.FoundScope) → IsDotted n
    → RecallsFor names scope (string_bytes n.path.first.text) last → found_in names last (reference n) ≡ found names scope (reference n)
found_is names scope n last dotted for = search (rules, string_bytes, found_by)

-- ---- what was just found

pub not_other : (a b : Text) (r : Bool) → r ≡ not (bytes_eq a b) → r ≡ false → a ≡ b
not_other a b r is none = search (rules, bytes_eq-Decides, true≢false)

pub now_recalls : (names : Names) (more : List tree.Name.Name) (scope : List Text) (word : Text) (o : found_scopes.FoundScope) → sought_among (part_words more) ≡ ends_part
    → o.word.now ≡ word → texts o.scope.value.items ≡ scope
    → option_map string_bytes o.full ≡ option_map called (innermost names (sought_among (part_words more)) (called (o.word.now ∷ [])) scope)
    → RecallsFor names scope word (Some o)
now_recalls names more scope word o ends same_word same_scope is = search rules
