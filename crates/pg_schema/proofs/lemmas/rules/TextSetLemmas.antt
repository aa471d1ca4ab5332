-- A set of strings, one string after the other.
use Rattle.std.proofs.Common.{◌≡◌, ℕ, ◌+◌, ◌<◌, Bool, true, false, cond, not, ◌&&◌, ◌||◌, List, [], ◌∷◌, ◌++◌, String, length, map, take, drop, get_or, Option, Some, is_some, sym, ◌∙◌, ap, subst, refl}
use Rattle.std.specs.Borrow.{Bor}
use Rattle.std.specs.BTreeSet.{BTreeSet, Updates}
use Rattle.std.specs.Cmp.Lexicographic.{slice_cmp}
use Rattle.std.specs.List.{list_all}
use Rattle.std.specs.Ordering.{nat_cmp}
use Rattle.std.specs.Str.{bytes_eq}
use Rattle.std.specs.Option.{IfSome}
use Rattle.std.specs.String.{string_bytes}
use Rattle.std.proofs.lemmas.List.{map_more, map-append, take-append-drop}
use Rattle.std.proofs.lemmas.Map.Text.{is_eq-slice_cmp}
use Rattle.pg_schema.specs.rules.Pairs.{are_distinct}
use Rattle.pg_schema.specs.inner.LentTexts.{has_lent, IsLentSetOf, lent}
use Rattle.pg_schema.specs.rules.TextSets.{is_among, are_named_once}
use Rattle.pg_schema.proofs.lemmas.rules.PairLemmas.{all_pairs_front, bytes_eq-sym, distinct_push, among_push, and_both}

or_of : (a b : Bool) → cond b true a ≡ (a || b)
or_of true true = refl
or_of true false = refl
or_of false true = refl
or_of false false = refl

-- one more string
pub lent_more : (done : List (List ℕ)) (key : Bor (List ℕ)) (old new : BTreeSet (Bor (List ℕ))) → Updates (λ (x : Bor (List ℕ)) (y : Bor (List ℕ)). slice_cmp nat_cmp x.now y.now) old new key true
    → IsLentSetOf done old → IsLentSetOf (done ++ key.now ∷ []) new
lent_more done key old new h held text =
    (h.0 (record { ref_ptr = (0, 0); now = text }) ∙ ap (λ b. cond b true (has_lent old text)) (is_eq-slice_cmp key.now text))
    ∙ (ap (λ b. cond (bytes_eq key.now text) true b) (held text) ∙ (or_of (is_among done text) (bytes_eq key.now text)
    ∙ (ap (λ b. is_among done text || b) (bytes_eq-sym key.now text) ∙ sym (among_push done key.now text))))

pub distinct_more : (done : List (List ℕ)) (key : List ℕ) → are_distinct done ≡ true → not (is_among done key) ≡ true → are_distinct (done ++ key ∷ []) ≡ true
distinct_more done key h new = distinct_push done key ∙ and_both _ _ h new

-- a string that was there already is there twice
pub twice : (done later : List (List ℕ)) (key : List ℕ) → not (is_among done key) ≡ false → are_distinct ((done ++ key ∷ []) ++ later) ≡ false
twice done later key old = all_pairs_front _ (done ++ key ∷ []) later (distinct_push done key ∙ and_false (are_distinct done) _ old)
  where
    and_false : (a b : Bool) → b ≡ false → (a && b) ≡ false
    and_false true b h = h
    and_false false b h = refl

-- the strings below an index and the one at it
pub lent_step : (texts : List (Bor (List ℕ))) (i : ℕ) (d : Bor (List ℕ)) → i < length texts → lent (take (i + 1) texts) ≡ lent (take i texts) ++ (get_or texts i d).now ∷ []
lent_step texts i d h = map_more (λ (text : Bor (List ℕ)). text.now) texts i d h

pub lent_whole : (texts : List (Bor (List ℕ))) (i : ℕ) (d : Bor (List ℕ)) → i < length texts
    → (lent (take i texts) ++ (get_or texts i d).now ∷ []) ++ lent (drop (i + 1) texts) ≡ lent texts
lent_whole texts i d h =
    ap (λ ts. ts ++ lent (drop (i + 1) texts)) (sym (lent_step texts i d h))
    ∙ (sym (map-append (λ (text : Bor (List ℕ)). text.now) (take (i + 1) texts) (drop (i + 1) texts)) ∙ ap lent (take-append-drop (i + 1) texts))

-- none of the names is held, by the set or by the strings
pub free_of : {Y : Type 0} (names : List (List ℕ)) (set : BTreeSet (Bor (List ℕ))) (reserved : List (String Y)) → IsLentSetOf names set
    → list_all (λ t. not (has_lent set (string_bytes t))) reserved ≡ list_all (λ name. not (is_among names name)) (map string_bytes reserved)
free_of names set [] held = refl
free_of names set (t ∷ ts) held =
    ap (λ b. not b && list_all (λ u. not (has_lent set (string_bytes u))) ts) (held (string_bytes t))
    ∙ ap (λ b. not (is_among names (string_bytes t)) && b) (free_of names set ts held)

pub named_once : {Y : Type 0} (names : List (List ℕ)) (reserved : List (String Y)) (found : Option (BTreeSet (Bor (List ℕ)))) (set : BTreeSet (Bor (List ℕ))) (r : Bool) → found ≡ Some set
    → is_some found ≡ are_distinct names → IfSome found (IsLentSetOf names) → r ≡ list_all (λ t. not (has_lent set (string_bytes t))) reserved
    → r ≡ are_named_once names (map string_bytes reserved)
named_once names reserved found set r is distinct held free =
    (free ∙ free_of names set reserved (subst (λ o. IfSome o (IsLentSetOf names)) is held))
    ∙ ap (λ b. b && list_all (λ name. not (is_among names name)) (map string_bytes reserved)) (ap is_some (sym is) ∙ distinct)
