-- A set of strings that it owns, one string after the other.
use Rattle.std.proofs.Common.{◌≡◌, ℕ, ◌+◌, ◌<◌, Bool, true, false, cond, ◌||◌, List, [], ◌∷◌, ◌++◌, String, length, map, take, get_or, sym, ◌∙◌, ap, refl, rules}
use Rattle.std.specs.BTreeSet.{BTreeSet, contains_text}
use Rattle.std.specs.Str.{bytes_eq}
use Rattle.std.specs.String.{string_bytes}
use Rattle.std.proofs.lemmas.List.{map_more}
use Rattle.pg_schema.specs.rules.TextSets.{IsSetOf}
use Rattle.pg_schema.proofs.lemmas.rules.PairLemmas.{among_push, bytes_eq-sym}

or_of : (a b : Bool) → cond b true a ≡ (a || b)
or_of true true = refl
or_of true false = refl
or_of false true = refl
or_of false false = refl

-- one more string
pub set_more : {Y : Type 0} (done : List (List ℕ)) (key : List ℕ) (old new : BTreeSet (String Y)) → ((cs : List ℕ) → contains_text new cs ≡ cond (bytes_eq key cs) true (contains_text old cs)) → IsSetOf done old → IsSetOf (done ++ key ∷ []) new
set_more done key old new step held text = search (rules, or_of, bytes_eq-sym, among_push)

-- the strings up to an index and the one that is there
pub texts_step : {Y : Type 0} (texts : List (String Y)) (i : ℕ) (x : String Y) (key : List ℕ) → i < length texts → x ≡ get_or texts i x → key ≡ string_bytes x
    → map string_bytes (take (i + 1) texts) ≡ map string_bytes (take i texts) ++ key ∷ []
texts_step texts i x key h is same =
    map_more string_bytes texts i x h ∙ (ap (λ y. map string_bytes (take i texts) ++ string_bytes y ∷ []) (sym is) ∙ ap (λ k. map string_bytes (take i texts) ++ k ∷ []) (sym same))
