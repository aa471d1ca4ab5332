-- The names of enums, file by file.
use Rattle.std.proofs.Common.{◌≡◌, ◌∙◌, ◌+◌, ◌++◌, ◌∷◌, ℕ, cond, List, [], Some, drop, flat_map, length, map, slice_get, string_bytes, String, take, ap, ap₂, refl, sym, length-append}
use Rattle.std.specs.BTreeMap.{BTreeMap, UpdatesBy, get_by_text}
use Rattle.std.specs.List.{position_from}
use Rattle.std.specs.Ordering.{nat_cmp}
use Rattle.std.specs.Cmp.Lexicographic.{slice_cmp}
use Rattle.std.specs.Str.{bytes_eq}
use Rattle.std.specs.String.{string_cmp}
use Rattle.std.specs.declared.alloc.Global.{Global}
use Rattle.std.proofs.lemmas.Grind.{flat_map-append}
use Rattle.std.proofs.lemmas.List.{append-nil}
use Rattle.std.proofs.lemmas.Map.Text.{btree_map_updates_text}
use Rattle.pg_link.specs.walk.Walk.{Entry}
use Rattle.pg_schema.proofs.lemmas.rules.PairLemmas.{bytes_eq-sym}
use Rattle.pg_check.proofs.lemmas.parts.Linking.{take_next}

-- those of one file more
pub names_more : (names : Entry → List (List ℕ)) (files : List Entry) (i : ℕ) (e : Entry) (old new own : List (List ℕ)) → slice_get files i ≡ Some e
    → old ≡ flat_map names (take i files) → new ≡ old ++ own → own ≡ names e → new ≡ flat_map names (take (i + 1) files)
names_more names files i e old new own at so_far more is =
    more ∙ (ap₂ (λ xs ys. xs ++ ys) so_far (is ∙ sym (append-nil (names e)))
    ∙ (sym (flat_map-append names (take i files) (e ∷ [])) ∙ ap (flat_map names) (sym (take_next files i e at))))

-- ---- the last of some names, which is taken off

last_off : {X : Type 0} (new : List X) (x : X) (all : List X) → new ++ x ∷ [] ≡ take (length (new ++ x ∷ [])) all
    → (new ≡ take (length new) all) × (drop (length new) all ≡ x ∷ drop (length (new ++ x ∷ [])) all)
last_off [] x [] is = absurd (cc (is))
last_off [] x (y ∷ all) is = let same : x ≡ y = cc (is) in (refl, ap (λ z. z ∷ all) (sym same))
last_off (n ∷ new) x [] is = absurd (cc (is))
last_off (n ∷ new) x (y ∷ all) is =
    let same : n ≡ y = cc (is) in
    let others : new ++ x ∷ [] ≡ take (length (new ++ x ∷ [])) all = cc (is) in
    let rest = last_off new x all others in
    (ap₂ (λ z zs. z ∷ zs) same rest.0, rest.1)

-- the names from an index on have their indexes, each its first one
pub record HavePlaces (all left : List (String Global)) (places : BTreeMap (String Global) ℕ) : Type 0 where
  pub left_of : left ≡ take (length left) all
  pub there : (name : List ℕ) → get_by_text places name ≡ position_from (bytes_eq name) (length left) (map string_bytes (drop (length left) all))

pub one_placed : (all old new : List (String Global)) (x : String Global) (before after : BTreeMap (String Global) ℕ) (place : ℕ) → HavePlaces all old before → old ≡ new ++ x ∷ [] → place ≡ length new
    → UpdatesBy string_cmp (λ k. slice_cmp nat_cmp (string_bytes x) (string_bytes k)) before after (Some place) → HavePlaces all new after
one_placed all old new x before after place have last is updates =
    let off = last_off new x all (sym last ∙ (have.left_of ∙ ap (λ xs. take (length xs) all) last)) in
    let long : length (new ++ x ∷ []) ≡ length new + 1 = length-append new (x ∷ []) in
    record {
      left_of = off.0;
      there = λ name.
          btree_map_updates_text (string_bytes x) before after (Some place) updates name
          ∙ (ap (λ n. cond (bytes_eq (string_bytes x) name) (Some n) (get_by_text before name)) is
          ∙ (ap (λ b. cond b (Some (length new)) (get_by_text before name)) (bytes_eq-sym (string_bytes x) name)
          ∙ (ap (λ o. cond (bytes_eq name (string_bytes x)) (Some (length new)) o)
          (have.there name ∙ (ap (λ xs. position_from (bytes_eq name) (length xs) (map string_bytes (drop (length xs) all))) last
          ∙ ap (λ n. position_from (bytes_eq name) n (map string_bytes (drop (length (new ++ x ∷ [])) all))) long))
          ∙ ap (λ xs. position_from (bytes_eq name) (length new) (map string_bytes xs)) (sym off.1))));
    }
