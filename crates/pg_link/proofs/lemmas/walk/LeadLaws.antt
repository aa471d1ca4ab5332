-- What a visit lists: each path that was visited, and none but those that these lead to.
use Rattle.std.proofs.Common.{◌≡◌, ◌∙◌, inl, inr, ◌⊎◌, Bool, true, false, ◌||◌, List, [], ◌∷◌, ◌++◌, Option, Some, None, All, refl, sym, subst, true≢false, arith, rules}
use Rattle.std.proofs.lemmas.Bool.{or_left, or_right}
use Rattle.std.proofs.lemmas.List.Elements.{All-cons}
use Rattle.std.proofs.lemmas.List.Folds.{list_any-append}
use Rattle.std.proofs.lemmas.Option.{none-some, same_Some}
use Rattle.std.specs.List.{find, Contains, IsAmong}
use Rattle.std.specs.Option.{option_map}
use Rattle.std.specs.Str.{bytes_eq}
use Rattle.pg_link.specs.declared.walk.Walk as walks
use Rattle.pg_link.specs.names.Files.{File, Import, Imports, Next, Further, is_path_of, import_paths}
use Rattle.pg_link.specs.names.Names.{Text}
use Rattle.pg_link.specs.walk.PostOrder.{imports_at}
use Rattle.pg_link.specs.walk.Walk.{ComesTo, files_in_order, outlines}
use Rattle.pg_link.specs.inner.Walking.{VisitLists, entries, has_path, listed_paths}
use Rattle.pg_schema.specs.standing.Visits.{Visits, all_visited, listed_last, passed_over}
use Rattle.pg_link.proofs.lemmas.names.HeldNames.{among_reverse, find_among}
use Rattle.pg_link.proofs.lemmas.names.SameBytes.{same_text, text_same}
use Rattle.pg_link.proofs.lemmas.names.SeenPaths.{among_map}
use Rattle.pg_link.proofs.lemmas.names.VisibleLaws.{first_among, later_among}
use Rattle.pg_link.proofs.lemmas.walk.PostOrderLaws.{has_listed}

-- ---- what is listed

module _ (leads : Text → Option (List Text)) where
  -- what was listed in front still is
  front_listed : (front visited listed : List Text) (p : Text) → Visits bytes_eq leads front visited listed → is_path_of front p ≡ true → is_path_of listed p ≡ true
  front_listed front [] listed p (all_visited f) has = has
  front_listed front (x ∷ later) listed p (passed_over f m l y found rest) has = front_listed f m l p rest has
  front_listed front (x ∷ later) listed p (listed_last f own inside m l y missing is inner rest) has = search (rules, front_listed (inside ++ y ∷ []) m l p rest (list_any-append (bytes_eq p) inside (y ∷ []) ∙ or_left (is_path_of inside p) (is_path_of (y ∷ []) p) (front_listed f own inside p inner has)))

  -- and each that was visited is
  each_listed : (front visited listed : List Text) → Visits bytes_eq leads front visited listed → All (λ p. is_path_of listed p ≡ true) visited
  each_listed front [] listed (all_visited f) = λ k d within. absurd (omega (arith, within))
  each_listed front (x ∷ later) listed (passed_over f m l y found rest) = search (rules, All-cons, front_listed, each_listed f m l rest)
  each_listed front (x ∷ later) listed (listed_last f own inside m l y missing is inner rest) = search (rules, list_any-append, or_right, or_left, text_same, All-cons, front_listed, each_listed (inside ++ y ∷ []) m l rest)

-- ---- what these lead to

-- a path was listed in front, or one of those that were visited comes to it
abbrev HasCome : (front visited : List Text) → List File → Text → Type 0
HasCome front visited files path = (is_path_of front path ≡ true) ⊎ ((from : Text) × IsAmong visited from × ComesTo files from path)

-- by the imports of some of the files
module _ (some files : List File) (among_all : (f : File) → IsAmong some f → IsAmong files f) where
  imports_of : (path next : Text) (own : List Text) → imports_at some path ≡ Some own → IsAmong own next → Imports files path next
  imports_of path next own is among = by (find (λ (f : File). bytes_eq f.path path) some) refl is
    where
      by : (o : Option File) → find (λ (f : File). bytes_eq f.path path) some ≡ o → option_map (λ (f : File). import_paths f.imports) o ≡ Some own → Imports files path next
      by None found same = absurd (none-some own same)
      by (Some f) found same =
          let h = find_among (λ (f : File). bytes_eq f.path path) some f found in
          let l = among_map (λ (x : Import). x.path) f.imports next (subst (λ ps. IsAmong ps next) (sym (same_Some (import_paths f.imports) own same)) among) in
          record { file = f; line = l.0; is_there = among_all f h.0; has_line = l.1; from_path = same_text f.path path h.1; to_other = l.2 }

  comes_on : (path next other : Text) → Imports files path next → ComesTo files next other → ComesTo files path other
  comes_on path next other i (inl same) = inr (Next (subst (λ p. Imports files path p) same i))
  comes_on path next other i (inr l) = inr (Further i l)

  later_come : (front later : List Text) (x p : Text) → HasCome front later files p → HasCome front (x ∷ later) files p
  later_come front later x p h5 = grind (arith, later_among)

  inside_come : (front own inside later : List Text) (x p : Text) → imports_at some x ≡ Some own → (is_path_of inside p ≡ true → HasCome front own files p)
      → HasCome (inside ++ x ∷ []) later files p → HasCome front (x ∷ later) files p
  inside_come front own inside later x p is inner (inr (from, among, to)) = inr (from, later_among x later from among, to)
  inside_come front own inside later x p is inner (inl had) =
      at (is_path_of inside p) (bytes_eq p x) refl refl (sym (list_any-append (bytes_eq p) inside (x ∷ [])) ∙ had)
    where
      by : HasCome front own files p → HasCome front (x ∷ later) files p
      by (inl here) = inl here
      by (inr (from, among, to)) = inr (x, first_among x later, comes_on x from p (imports_of x from own is among) to)

      at : (a b : Bool) → is_path_of inside p ≡ a → bytes_eq p x ≡ b → (a || (b || false)) ≡ true → HasCome front (x ∷ later) files p
      at true b has same either = by (inner has)
      at false true has same either = inr (x, first_among x later, inl (sym (same_text p x same)))
      at false false has same either = absurd (true≢false (sym either))

  all_come : (front visited listed : List Text) (p : Text) → Visits bytes_eq (imports_at some) front visited listed → is_path_of listed p ≡ true → HasCome front visited files p
  all_come front [] listed p (all_visited f) has = inl has
  all_come front (x ∷ later) listed p (passed_over f m l y found rest) has = later_come f m y p (all_come f m l p rest has)
  all_come front (x ∷ later) listed p (listed_last f own inside m l y missing is inner rest) has =
      inside_come f own inside m y p is (λ here. all_come f own inside p inner here) (all_come (inside ++ y ∷ []) m l p rest has)

-- ---- a walk

pub all_listed : (walk : walks.Walk) (front visited : List Text) → VisitLists front visited walk → All (λ p. has_path walk p ≡ true) visited
all_listed walk front visited lists = search (rules, has_listed, each_listed)

-- a root comes to each file
pub from_roots : (walk : walks.Walk) (roots : List Text) → VisitLists [] roots walk → (path : Text) → has_path walk path ≡ true
    → (root : Text) × Contains roots root × ComesTo (outlines (entries walk)) root path
from_roots walk roots lists path has =
    by (all_come (files_in_order (entries walk)) (outlines (entries walk)) (λ f among. among_reverse (files_in_order (entries walk)) f among)
    [] roots (listed_paths walk) path lists (sym (has_listed walk path) ∙ has))
  where
    by : HasCome [] roots (outlines (entries walk)) path → (root : Text) × Contains roots root × ComesTo (outlines (entries walk)) root path
    by (inl none) = absurd (true≢false (sym none))
    by (inr (root, (i, (within, is)), to)) = (root, (i, within, sym is), to)
