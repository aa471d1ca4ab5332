-- A set of names, one name after the other.
use Rattle.std.proofs.Common.{◌≡◌, ℕ, ◌+◌, ◌<◌, Bool, true, cond, ◌||◌, List, [], ◌∷◌, ◌++◌, String, length, map, take, get_or, sym, ◌∙◌, ap, refl, arith, rules}
use Rattle.std.specs.Borrow.{Bor}
use Rattle.std.specs.BTreeSet.{BTreeSet, contains_by, contains_text}
use Rattle.std.specs.Cmp.Lexicographic.{slice_cmp}
use Rattle.std.specs.List.{list_any}
use Rattle.std.specs.Ordering.{nat_cmp}
use Rattle.std.specs.Str.{bytes_eq}
use Rattle.std.specs.String.{string_bytes}
use Rattle.std.proofs.lemmas.List.{map_more}
use Rattle.pg_check.specs.rules.Names.{Named, is_same}
use Rattle.pg_check.specs.inner.NameFaults.{text_of}
use Rattle.pg_schema.specs.rules.TextSets.{is_among, IsSetOf}
use Rattle.pg_schema.proofs.lemmas.rules.PairLemmas.{bytes_eq-sym, among_push}

or_of : (a b : Bool) → cond b true a ≡ (a || b)
or_of a b = grind arith

-- one more name, however the names are held
more_held : (done : List (List ℕ)) (key : List ℕ) (old new : List ℕ → Bool) → ((cs : List ℕ) → new cs ≡ cond (bytes_eq key cs) true (old cs))
    → ((text : List ℕ) → old text ≡ is_among done text) → (text : List ℕ) → new text ≡ is_among (done ++ key ∷ []) text
more_held done key old new step held text = search (rules, or_of, bytes_eq-sym, among_push)

pub set_more : {Y : Type 0} (done : List (List ℕ)) (key : List ℕ) (old new : BTreeSet (String Y)) → ((cs : List ℕ) → contains_text new cs ≡ cond (bytes_eq key cs) true (contains_text old cs)) → IsSetOf done old → IsSetOf (done ++ key ∷ []) new
set_more done key old new step held = more_held done key (contains_text old) (contains_text new) step held

abbrev pub has_lent : BTreeSet (Bor (List ℕ)) → List ℕ → Bool
has_lent set text = contains_by (λ (k : Bor (List ℕ)). slice_cmp nat_cmp text k.now) set

-- the set of names that are lent has these and no other
abbrev pub IsLentSetOf : List (List ℕ) → BTreeSet (Bor (List ℕ)) → Type 0
IsLentSetOf texts set = (text : List ℕ) → has_lent set text ≡ is_among texts text

-- the names up to an index and the one that is there
pub texts_step : {Y : Type 0} (texts : List (String Y)) (i : ℕ) (x : String Y) (key : List ℕ) → i < length texts → x ≡ get_or texts i x → key ≡ string_bytes x
    → map string_bytes (take (i + 1) texts) ≡ map string_bytes (take i texts) ++ key ∷ []
texts_step texts i x key h is same =
    map_more string_bytes texts i x h ∙ (ap (λ y. map string_bytes (take i texts) ++ string_bytes y ∷ []) (sym is) ∙ ap (λ k. map string_bytes (take i texts) ++ k ∷ []) (sym same))

-- a name came before where it is among the names before
pub same_among : (x : Named) (names : List Named) → list_any (is_same x) names ≡ is_among (map text_of names) x.text
same_among x [] = refl
same_among x (n ∷ ns) = ap (λ b. bytes_eq x.text n.text || b) (same_among x ns)
