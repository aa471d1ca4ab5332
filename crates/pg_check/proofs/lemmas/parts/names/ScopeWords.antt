-- The words of a scope are the parts of its full name.
use Rattle.std.proofs.Common.{◌≡◌, ◌∙◌, ℕ, true, List, [], ◌∷◌, ◌++◌, map, Option, refl, sym, ap, ap₂, append_assoc, arith, rules}
use Rattle.std.specs.List.{AllByRecursion}
use Rattle.std.proofs.lemmas.List.{append-nil}
use Rattle.pg_schema.specs.rules.DeclaredNames.{within}
use Rattle.pg_schema.specs.rules.Words.{is_word, parts_at_dots}
use Rattle.pg_link.specs.names.Declares.{Word}
use Rattle.pg_link.specs.names.Names.{Text, called}
use Rattle.pg_link.specs.names.Outline.{package_words, word}
use Rattle.pg_link.specs.uses.Uses.{file_scope}
use Rattle.pg_check.specs.parts.ResolvedTypes.{words_of}
use Rattle.pg_check.specs.rules.Outline.{package_of}
use Rattle.pg_check.proofs.lemmas.parts.names.DeclaredTotals.{behind_dot, package_scope_is, scope_is}
use Rattle.pg_check.proofs.lemmas.parts.Eachs.{joined_all}
use Rattle.pg_check.proofs.lemmas.parts.names.WordTrees.{IsGood, rows_good}
use Rattle.pg_check.proofs.lemmas.parts.names.WordedFiles.{IsGoodDotted, IsGoodFile, bytes_alone, parted, word_bytes}
use Rattle.pg_syntax.specs.declared.tree as tree
use Rattle.pg_syntax.specs.Views as view

abbrev pub IsWord : Text → Type 0
IsWord w = is_word w ≡ true

-- a scope by its words and by its full name
pub record Fits (scope : List Text) (full : List ℕ) : Type 0 where
  pub is_called : called scope ≡ behind_dot full
  pub words : AllByRecursion IsWord scope

called_joined : (xs ys : List Text) → called (xs ++ ys) ≡ called xs ++ called ys
called_joined [] ys = refl
called_joined (x ∷ xs) ys = ap (λ t. 46 ∷ (x ++ t)) (called_joined xs ys) ∙ ap (λ t. 46 ∷ t) (sym (append_assoc x (called xs) (called ys)))

-- the scope of a word in it
pub fits_in : (scope : List Text) (full w : List ℕ) → Fits scope full → IsWord w → Fits (scope ++ w ∷ []) (within full w)
fits_in scope full w fits good = search (rules, called_joined, scope_is, joined_all)

at_dots : (w : List ℕ) (ws : List Text) → IsWord w → AllByRecursion IsWord ws → parts_at_dots (w ++ called ws) ≡ w ∷ ws
at_dots w [] good all = ap parts_at_dots (append-nil w) ∙ bytes_alone w (word_bytes w good)
at_dots w (v ∷ vs) good all = parted w (v ++ called vs) ∙ ap₂ (λ xs ys. xs ++ ys) (bytes_alone w (word_bytes w good)) (at_dots v vs all.0 all.1)

pub words_are : (scope : List Text) (full : List ℕ) → Fits scope full → words_of full ≡ scope
words_are [] [] fits = refl
words_are [] (b ∷ bs) fits = let is = fits.is_called in absurd (cc (is))
words_are (w ∷ ws) [] fits = let is = fits.is_called in absurd (cc (is))
words_are (w ∷ ws) (b ∷ bs) fits =
    let is = fits.is_called in
    let same : w ++ called ws ≡ b ∷ bs = cc (is) in
    ap parts_at_dots (sym same) ∙ at_dots w ws fits.words.0 fits.words.1

-- ---- the scope of a file

more_words : (ns : List tree.Name.Name) → AllByRecursion IsGoodDotted ns → AllByRecursion IsWord (map (λ (w : Word). w.text) (map word ns))
more_words [] h = tt
more_words (n ∷ ns) h = (h.0.1, more_words ns h.1)

package_is_words : (p : Option tree.Packaged.Packaged) → IsGood (view.perhaps view.packaged p) → AllByRecursion IsWord (map (λ (w : Word). w.text) (package_words p))
package_is_words p h = grind (arith, more_words, rows_good)

pub file_fits : (file : tree.FileTree.FileTree) → IsGoodFile file → Fits (file_scope file) (package_of file)
file_fits file good = record { is_called = package_scope_is file.packaged good.package_good; words = package_is_words file.packaged good.package_good }
