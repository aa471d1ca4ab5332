-- One step of a walk over the imports of files.
use Rattle.std.proofs.Common.{◌≡◌, ℕ, zero, suc, ◌+◌, ◌-◌, ◌<◌, ◌≤◌, Bool, true, false, ◌||◌, inl, inr, nat_eq, List, [], ◌∷◌, ◌++◌, length, drop, set, replicate, Option, Some, None, slice_get, Vec, Global, get_or, refl, ap, ap₂, sym, subst, ◌∙◌, arith, rules}
use Rattle.std.proofs.lemmas.Bool.{false≢true}
use Rattle.std.proofs.lemmas.List.{drop_all, length-map, length-set}
use Rattle.std.proofs.lemmas.Option.{none-some, same_Some, slice_get_within}
use Rattle.std.specs.List.{AllByRecursion, list_any}
use Rattle.pg_schema.specs.standing.Places.{places_from}
use Rattle.pg_set.specs.declared.reading.walk.Open.{Open}
use Rattle.pg_set.specs.declared.reading.walk.Seen.{Seen}
use Rattle.pg_set.specs.declared.reading.walk.Seen.TheVariants as seen
use Rattle.pg_set.specs.declared.reading.walk.Walk.{Walk}
use Rattle.pg_schema.specs.standing.Visits.{all_visited, passed_over, listed_last}
use Rattle.pg_set.specs.inner.reading.Walks.{AreWithin, Ends, Enters, Falls, IsOpen, IsStep, IsWalk, RanksFall, Walks, count_of, is_done, left, lists_of, pending, unopened}
use Rattle.pg_set.proofs.lemmas.lists.Marks.{all_at, all_front, all_last, all_more, all_weaker, any_more, rest_at, set_elsewhere, set_here}
use Rattle.pg_set.proofs.lemmas.lists.Tests.{differs, or_all, or_none, same_number}

-- ---- ranks

pub falls_front : (rank : ℕ → ℕ) (os : List Open) (o : Open) → RanksFall rank (os ++ o ∷ []) → RanksFall rank os
falls_front rank [] o falls = tt
falls_front rank (x ∷ os) o falls = (all_front (λ (u : Open). rank u.place < rank x.place) os o falls.0, falls_front rank os o falls.1)

pub falls_more : (rank : ℕ → ℕ) (os : List Open) (o : Open) → RanksFall rank os → AllByRecursion (λ (u : Open). rank o.place < rank u.place) os → RanksFall rank (os ++ o ∷ [])
falls_more rank [] o falls above = (tt, tt)
falls_more rank (x ∷ os) o falls above = (all_more (λ (u : Open). rank u.place < rank x.place) os o falls.0 above.0, falls_more rank os o falls.1 above.1)

-- those that were opened before rank above the last
pub above_last : (rank : ℕ → ℕ) (os : List Open) (o : Open) → RanksFall rank (os ++ o ∷ []) → AllByRecursion (λ (u : Open). rank o.place < rank u.place) os
above_last rank [] o falls = tt
above_last rank (x ∷ os) o falls = (all_last (λ (u : Open). rank u.place < rank x.place) os o falls.0, above_last rank os o falls.1)

-- only indices count
same_falls : (rank : ℕ → ℕ) (os : List Open) (o u : Open) → u.place ≡ o.place → RanksFall rank (os ++ o ∷ []) → RanksFall rank (os ++ u ∷ [])
same_falls rank os o u same falls =
    falls_more rank os u (falls_front rank os o falls)
    (subst (λ p. AllByRecursion (λ (x : Open). rank p < rank x.place) os) (sym same) (above_last rank os o falls))

-- all open files rank above an import of the last
above_import : (rank : ℕ → ℕ) (all : List (List ℕ)) (os : List Open) (o : Open) (own : List ℕ) (next place : ℕ) → Falls rank all → RanksFall rank (os ++ o ∷ []) → slice_get all o.place ≡ Some own
    → slice_get own next ≡ Some place → AllByRecursion (λ (u : Open). rank place < rank u.place) (os ++ o ∷ [])
above_import rank all os o own next place falls stack there here =
    let less : rank place < rank o.place = all_at (λ import. rank import < rank o.place) own next place (falls o.place own there) here in
    all_more (λ (u : Open). rank place < rank u.place) os o
    (all_weaker (λ (u : Open). rank o.place < rank u.place) (λ (u : Open). rank place < rank u.place) (λ u h. omega (arith, less, h)) os (above_last rank os o stack)) less

unequal : (a b : ℕ) → a < b → a ≡ b → ⊥
unequal a b h e = absurd (omega (arith, h, e))

pub none_above : (rank : ℕ → ℕ) (os : List Open) (place : ℕ) → AllByRecursion (λ (u : Open). rank place < rank u.place) os → list_any (λ (u : Open). nat_eq place u.place) os ≡ true → ⊥
none_above rank [] place above found = false≢true found
none_above rank (o ∷ os) place above found = search (rules, none_above rank os place above.1, unequal, same_number)

-- ---- what is listed once the open files were ended

pub ends_push : (all : List (List ℕ)) (os : List Open) (o : Open) (front own inside listed : List ℕ) → slice_get all o.place ≡ Some own → Walks all front (drop o.next own) inside
    → Ends all os (inside ++ o.place ∷ []) listed → Ends all (os ++ o ∷ []) front listed
ends_push all [] o front own inside listed there walks ends = (front, own, inside, refl, there, walks, sym ends)
ends_push all (x ∷ os) o front own inside listed there walks ends =
    (ends.0, ends.1, ends.2, ends_push all os o front own inside ends.0 there walks ends.3, ends.4, ends.5, ends.6)

abbrev pub Popped : List (List ℕ) → List Open → Open → List ℕ → List ℕ → Type 0
Popped all os o front listed =
    (own inside : List ℕ) × (slice_get all o.place ≡ Some own) × Walks all front (drop o.next own) inside × Ends all os (inside ++ o.place ∷ []) listed

pub ends_pop : (all : List (List ℕ)) (os : List Open) (o : Open) (front listed : List ℕ) → Ends all (os ++ o ∷ []) front listed → Popped all os o front listed
ends_pop all [] o front listed ends =
    (ends.1, ends.2, ends.4, subst (λ f. Walks all f (drop o.next ends.1) ends.2) (sym ends.3) ends.5, sym ends.6)
ends_pop all (x ∷ os) o front listed ends =
    let later = ends_pop all os o front ends.0 ends.3 in
    (later.0, later.1, later.2, later.3, (ends.0, ends.1, ends.2, later.4, ends.4, ends.5, ends.6))

-- the last file was gone through
pub ends_at_end : (all : List (List ℕ)) (os : List Open) (o : Open) (own done listed : List ℕ) → slice_get all o.place ≡ Some own → length own ≤ o.next
    → Ends all os (done ++ o.place ∷ []) listed → Ends all (os ++ o ∷ []) done listed
ends_at_end all os o own done listed there past ends =
    ends_push all os o done own done listed there (subst (λ ps. Walks all done ps done) (sym (drop_all o.next own past)) (all_visited done)) ends

-- its next import is listed
pub ends_passed : (all : List (List ℕ)) (os : List Open) (o u : Open) (own done listed : List ℕ) (place : ℕ) → u.place ≡ o.place → u.next ≡ suc o.next
    → slice_get all o.place ≡ Some own → slice_get own o.next ≡ Some place → list_any (nat_eq place) done ≡ true → Ends all (os ++ u ∷ []) done listed → Ends all (os ++ o ∷ []) done listed
ends_passed all os o u own done listed place same next there here found ends =
    let (own_u, inside, there_u, walks, rest) = ends_pop all os u done listed ends in
    let alike : own_u ≡ own = same_Some own_u own (sym there_u ∙ (ap (slice_get all) same ∙ there)) in
    let later : Walks all done (drop (suc o.next) own) inside = subst (λ n. Walks all done (drop n own) inside) next (subst (λ ps. Walks all done (drop u.next ps) inside) alike walks) in
    ends_push all os o done own inside listed there
    (subst (λ ps. Walks all done ps inside) (sym (rest_at own o.next place here)) (passed_over done (drop (suc o.next) own) inside place found later))
    (subst (λ p. Ends all os (inside ++ p ∷ []) listed) same rest)

-- its next import is opened
pub ends_opened : (all : List (List ℕ)) (os : List Open) (o u v : Open) (own done listed : List ℕ) (place : ℕ) → u.place ≡ o.place → u.next ≡ suc o.next → v.place ≡ place → v.next ≡ 0
    → slice_get all o.place ≡ Some own → slice_get own o.next ≡ Some place → list_any (nat_eq place) done ≡ false → Ends all ((os ++ u ∷ []) ++ v ∷ []) done listed → Ends all (os ++ o ∷ []) done listed
ends_opened all os o u v own done listed place same next v_is v_next there here missing ends =
    let (own_v, inside_v, there_v, walks_v, rest_v) = ends_pop all (os ++ u ∷ []) v done listed ends in
    let (own_u, inside, there_u, walks, rest) = ends_pop all os u (inside_v ++ v.place ∷ []) listed rest_v in
    let alike : own_u ≡ own = same_Some own_u own (sym there_u ∙ (ap (slice_get all) same ∙ there)) in
    let later : Walks all (inside_v ++ place ∷ []) (drop (suc o.next) own) inside =
    subst (λ p. Walks all (inside_v ++ p ∷ []) (drop (suc o.next) own) inside) v_is
    (subst (λ n. Walks all (inside_v ++ v.place ∷ []) (drop n own) inside) next (subst (λ ps. Walks all (inside_v ++ v.place ∷ []) (drop u.next ps) inside) alike walks)) in
    let inner : Walks all done own_v inside_v = subst (λ n. Walks all done (drop n own_v) inside_v) v_next walks_v in
    ends_push all os o done own inside listed there
    (subst (λ ps. Walks all done ps inside) (sym (rest_at own o.next place here))
    (listed_last done own_v inside_v (drop (suc o.next) own) inside place missing (sym (ap (slice_get all) v_is) ∙ there_v) inner later))
    (subst (λ p. Ends all os (inside ++ p ∷ []) listed) same rest)

-- ---- the marks

marked_done : (all : List (List ℕ)) (marks : List Seen) (done : List ℕ) (own : ℕ) → length marks ≡ length all → own < length all
    → ((place : ℕ) → place < length all → is_done (slice_get marks place) ≡ list_any (nat_eq place) done)
    → (place : ℕ) → place < length all → is_done (slice_get (set marks own seen.Done) place) ≡ list_any (nat_eq place) (done ++ own ∷ [])
marked_done all marks done own long within listed place h = search (rules, same_number, set_here, any_more, or_all, set_elsewhere, differs, or_none)

done_is_not_open : Some seen.Done ≡ Some seen.Open → ⊥
done_is_not_open e = cc

-- the last file is done
pub walk_ended : (all : List (List ℕ)) (marks : List Seen) (os : List Open) (o : Open) (done : List ℕ) → IsWalk all marks (os ++ o ∷ []) done
    → IsWalk all (set marks o.place seen.Done) os (done ++ o.place ∷ [])
walk_ended all marks os o done walk = search (rules, all_last, slice_get_within, length-set, marked_done, all_front, falls_front, same_number, done_is_not_open, set_here, or_none, any_more, set_elsewhere, differs)

-- one import more of the last file was looked at
pub walk_looked : (all : List (List ℕ)) (marks : List Seen) (os : List Open) (o u : Open) (own done : List ℕ) → u.place ≡ o.place → u.next ≡ suc o.next → slice_get all o.place ≡ Some own
    → o.next < length own → IsWalk all marks (os ++ o ∷ []) done → IsWalk all marks (os ++ u ∷ []) done
walk_looked all marks os o u own done same next there more walk = record {
  marked = walk.marked;
  listed = walk.listed;
  opened = λ place is. any_more (λ (x : Open). nat_eq place x.place) os u ∙ (ap (λ p. list_any (λ (x : Open). nat_eq place x.place) os || nat_eq place p) same
      ∙ (sym (any_more (λ (x : Open). nat_eq place x.place) os o) ∙ walk.opened place is));
  there = all_more (IsOpen all) os u (all_front (IsOpen all) os o walk.there) (own, ap (slice_get all) same ∙ there, omega (arith, next, more));
  fall = λ rank falls. same_falls rank os o u same (walk.fall rank falls);
}

-- a file that wasn't seen is opened, which ranks below all that are open
pub walk_opened : (all : List (List ℕ)) (marks : List Seen) (os : List Open) (v : Open) (done : List ℕ) → v.next ≡ 0 → slice_get marks v.place ≡ Some seen.Not
    → ((rank : ℕ → ℕ) → Falls rank all → AllByRecursion (λ (u : Open). rank v.place < rank u.place) os) → IsWalk all marks os done → IsWalk all (set marks v.place seen.Open) (os ++ v ∷ []) done
walk_opened all marks os v done first unseen below walk = record {
  marked = length-set marks v.place seen.Open ∙ walk.marked;
  listed = λ place h. same_done place (nat_eq place v.place) refl ∙ walk.listed place h;
  opened = λ place is. any_more (λ (x : Open). nat_eq place x.place) os v ∙ found place is (nat_eq place v.place) refl;
  there = all_more (IsOpen all) os v walk.there (got (slice_get all v.place) refl);
  fall = λ rank falls. falls_more rank os v (walk.fall rank falls) (below rank falls);
}
  where
    within : v.place < length marks
    within = slice_get_within marks v.place seen.Not unseen

    same_done : (place : ℕ) (b : Bool) → nat_eq place v.place ≡ b → is_done (slice_get (set marks v.place seen.Open) place) ≡ is_done (slice_get marks place)
    same_done place true same =
        let e : place ≡ v.place = same_number place v.place same in
        ap (λ p. is_done (slice_get (set marks v.place seen.Open) p)) e ∙ (ap is_done (set_here marks v.place seen.Open within) ∙ (sym (ap is_done unseen) ∙ sym (ap (λ p. is_done (slice_get marks p)) e)))
    same_done place false other = ap is_done (set_elsewhere marks v.place place seen.Open (differs place v.place other))

    found : (place : ℕ) → slice_get (set marks v.place seen.Open) place ≡ Some seen.Open → (b : Bool) → nat_eq place v.place ≡ b
        → (list_any (λ (x : Open). nat_eq place x.place) os || nat_eq place v.place) ≡ true
    found place is true same = ap (λ b. list_any (λ (x : Open). nat_eq place x.place) os || b) same ∙ or_all (list_any (λ (x : Open). nat_eq place x.place) os)
    found place is false other =
        ap (λ b. b || nat_eq place v.place) (walk.opened place (sym (set_elsewhere marks v.place place seen.Open (differs place v.place other)) ∙ is))

    got : (o : Option (List ℕ)) → slice_get all v.place ≡ o → IsOpen all v
    got None is = absurd (past all v.place is (subst (λ n. v.place < n) walk.marked within))
      where
        past : {A : Type 0} (xs : List A) (i : ℕ) → slice_get xs i ≡ None → i < length xs → ⊥
        past [] i e h = absurd (omega (arith, h))
        past (x ∷ xs) zero e h = none-some x (sym e)
        past (x ∷ xs) (suc i) e h = past xs i e (omega (arith, h))
    got (Some own) is = (own, is, omega (arith, first))

-- ---- steps that are left

pending_more : (all : List (List ℕ)) (os : List Open) (o : Open) → pending all (os ++ o ∷ []) ≡ pending all os + (suc (count_of (slice_get all o.place)) - o.next)
pending_more all [] o = omega arith
pending_more all (x ∷ os) o = let e = pending_more all os o in omega (arith, e)

unopened_marked : (marks : List Seen) (all : List (List ℕ)) (place : ℕ) → unopened (set marks place seen.Done) all ≤ unopened marks all
unopened_marked [] all place = omega arith
unopened_marked (m ∷ marks) [] zero = omega arith
unopened_marked (m ∷ marks) [] (suc place) = omega arith
unopened_marked (seen.Not ∷ marks) (own ∷ all) zero = omega arith
unopened_marked (seen.Open ∷ marks) (own ∷ all) zero = omega arith
unopened_marked (seen.Done ∷ marks) (own ∷ all) zero = omega arith
unopened_marked (seen.Not ∷ marks) (own ∷ all) (suc place) = let e = unopened_marked marks all place in omega (arith, e)
unopened_marked (seen.Open ∷ marks) (own ∷ all) (suc place) = unopened_marked marks all place
unopened_marked (seen.Done ∷ marks) (own ∷ all) (suc place) = unopened_marked marks all place

opened_once : (marks : List Seen) (all : List (List ℕ)) (place : ℕ) → length marks ≡ length all → slice_get marks place ≡ Some seen.Not
    → unopened (set marks place seen.Open) all + suc (count_of (slice_get all place)) ≡ unopened marks all
opened_once [] all place long is = absurd (none-some seen.Not is)
opened_once (m ∷ marks) [] place long is = absurd (omega (arith, long))
opened_once (seen.Not ∷ marks) (own ∷ all) zero long is = omega arith
opened_once (seen.Open ∷ marks) (own ∷ all) zero long is = absurd (cc)
opened_once (seen.Done ∷ marks) (own ∷ all) zero long is = absurd (cc)
opened_once (seen.Not ∷ marks) (own ∷ all) (suc place) long is = let e = opened_once marks all place (omega (arith, long)) is in omega (arith, e)
opened_once (seen.Open ∷ marks) (own ∷ all) (suc place) long is = opened_once marks all place (omega (arith, long)) is
opened_once (seen.Done ∷ marks) (own ∷ all) (suc place) long is = opened_once marks all place (omega (arith, long)) is

pub left_ended : (all : List (List ℕ)) (marks : List Seen) (os : List Open) (o : Open) (own : List ℕ) → slice_get all o.place ≡ Some own → o.next ≤ length own
    → left all (set marks o.place seen.Done) os < left all marks (os ++ o ∷ [])
left_ended all marks os o own there few = search (rules, unopened_marked, pending_more)

pub left_passed : (all : List (List ℕ)) (marks : List Seen) (os : List Open) (o u : Open) (own : List ℕ) → u.place ≡ o.place → u.next ≡ suc o.next → slice_get all o.place ≡ Some own → o.next < length own
    → suc (left all marks (os ++ u ∷ [])) ≡ left all marks (os ++ o ∷ [])
left_passed all marks os o u own same next there more = search (rules, pending_more)

pub left_opened : (all : List (List ℕ)) (marks : List Seen) (os : List Open) (v : Open) → length marks ≡ length all → v.next ≡ 0 → slice_get marks v.place ≡ Some seen.Not
    → left all (set marks v.place seen.Open) (os ++ v ∷ []) ≡ left all marks os
left_opened all marks os v long first unseen = search (rules, opened_once, pending_more)

-- ---- an import is entered

-- the list of an index
list_there : (imported : List (Vec ℕ Global)) (i : ℕ) (v : Vec ℕ Global) → i < length (lists_of imported) → v ≡ get_or imported i v → slice_get (lists_of imported) i ≡ Some v.items
list_there [] i v h is = absurd (omega (arith, h))
list_there (x ∷ imported) zero v h is = ap (λ (w : Vec ℕ Global). Some w.items) (sym is)
list_there (x ∷ imported) (suc i) v h is = list_there imported i v (omega (arith, h)) is

pub lists_long : (imported : List (Vec ℕ Global)) → length (lists_of imported) ≡ length imported
lists_long imported = length-map imported (λ (v : Vec ℕ Global). v.items)

-- what the last file imports
pub own_there : (imported : List (Vec ℕ Global)) (marks : List Seen) (os : List Open) (o : Open) (done : List ℕ) (v : Vec ℕ Global) (own : List ℕ) → IsWalk (lists_of imported) marks (os ++ o ∷ []) done
    → v ≡ get_or imported o.place v → own ≡ v.items → slice_get (lists_of imported) o.place ≡ Some own
own_there imported marks os o done v own walk is same = search (rules, all_last, list_there, slice_get_within)

pub looked_at : (all : List (List ℕ)) (marks : List Seen) (os : List Open) (o : Open) (done own : List ℕ) → IsWalk all marks (os ++ o ∷ []) done → slice_get all o.place ≡ Some own → o.next ≤ length own
looked_at all marks os o done own walk there = search (rules, all_last, same_Some)

pub import_within : (all : List (List ℕ)) (count i j : ℕ) (own : List ℕ) (place : ℕ) → AreWithin count all → slice_get all i ≡ Some own → slice_get own j ≡ Some place → place < count
import_within all count i j own place within there here = all_at (λ p. p < count) own j place (all_at (λ ps. AllByRecursion (λ p. p < count) ps) all i own within there) here

not_marked : (all : List (List ℕ)) (marks : List Seen) (os : List Open) (done : List ℕ) (place : ℕ) (mark : Seen) → IsWalk all marks os done → slice_get marks place ≡ Some mark
    → is_done (Some mark) ≡ list_any (nat_eq place) done
not_marked all marks os done place mark walk is = search (rules, slice_get_within)

-- the next import of the last file was entered
pub stepped : (all : List (List ℕ)) (os : List Open) (o u : Open) (own : List ℕ) (place : ℕ) (old new : Walk) → u.place ≡ o.place → u.next ≡ o.next + 1 → slice_get all o.place ≡ Some own
    → slice_get own o.next ≡ Some place → old.opened.items ≡ os ++ u ∷ [] → IsWalk all old.seen.items (os ++ o ∷ []) old.done.items → Enters place old new
    → IsStep all old.seen.items (os ++ o ∷ []) old.done.items new
stepped all os o u own place old new same later there here pushed walk (inl passed) =
    let next : u.next ≡ suc o.next = omega (arith, later) in
    let more : o.next < length own = slice_get_within own o.next place here in
    let looked = walk_looked all old.seen.items os o u own old.done.items same next there more walk in
    let fewer = left_passed all old.seen.items os o u own same next there more in
    let kept : new.opened.items ≡ os ++ u ∷ [] = ap (λ (w : Walk). w.opened.items) passed.1 ∙ pushed in
    let marked : new.seen.items ≡ old.seen.items = ap (λ (w : Walk). w.seen.items) passed.1 in
    let listed : new.done.items ≡ old.done.items = ap (λ (w : Walk). w.done.items) passed.1 in
    let found : list_any (nat_eq place) old.done.items ≡ true = sym (not_marked all old.seen.items (os ++ o ∷ []) old.done.items place seen.Done walk passed.0) in
    record {
      walk = subst (λ x. IsWalk all x new.opened.items new.done.items) (sym marked) (subst (λ x. IsWalk all old.seen.items x new.done.items) (sym kept) (subst (IsWalk all old.seen.items (os ++ u ∷ [])) (sym listed) looked));
      on = λ list ends. ends_passed all os o u own old.done.items list place same next there here found (subst (λ x. Ends all x old.done.items list) kept (subst (λ x. Ends all new.opened.items x list) listed ends));
      less = let e : left all new.seen.items new.opened.items ≡ left all old.seen.items (os ++ u ∷ []) = ap₂ (left all) marked kept in omega (arith, e, fewer);
    }
stepped all os o u own place old new same later there here pushed walk (inr opened) =
    let next : u.next ≡ suc o.next = omega (arith, later) in
    let more : o.next < length own = slice_get_within own o.next place here in
    let looked = walk_looked all old.seen.items os o u own old.done.items same next there more walk in
    let fewer = left_passed all old.seen.items os o u own same next there more in
    let v : Open = record { place = place; next = 0 } in
    let kept : new.opened.items ≡ (os ++ u ∷ []) ++ v ∷ [] = opened.2 ∙ ap (λ x. x ++ v ∷ []) pushed in
    let missing : list_any (nat_eq place) old.done.items ≡ false = sym (not_marked all old.seen.items (os ++ o ∷ []) old.done.items place seen.Not walk opened.0) in
    let into = walk_opened all old.seen.items (os ++ u ∷ []) v old.done.items refl opened.0
    (λ rank falls. above_import rank all os u own o.next place falls (looked.fall rank falls) (ap (slice_get all) same ∙ there) here) looked in
    record {
      walk = subst (λ x. IsWalk all x new.opened.items new.done.items) (sym opened.1) (subst (λ x. IsWalk all (set old.seen.items place seen.Open) x new.done.items) (sym kept) (subst (IsWalk all (set old.seen.items place seen.Open) ((os ++ u ∷ []) ++ v ∷ [])) (sym opened.3) into));
      on = λ list ends. ends_opened all os o u v own old.done.items list place same next refl refl there here missing (subst (λ x. Ends all x old.done.items list) kept (subst (λ x. Ends all new.opened.items x list) opened.3 ends));
      less = let e : left all new.seen.items new.opened.items ≡ left all (set old.seen.items place seen.Open) ((os ++ u ∷ []) ++ v ∷ []) = ap₂ (left all) opened.1 kept in
          let f = left_opened all old.seen.items (os ++ u ∷ []) v looked.marked refl opened.0 in omega (arith, e, f, fewer);
    }

-- an import that is open is on a circle
pub circle : (all : List (List ℕ)) (marks : List Seen) (os : List Open) (o : Open) (own done : List ℕ) (place : ℕ) → slice_get all o.place ≡ Some own → slice_get own o.next ≡ Some place
    → IsWalk all marks (os ++ o ∷ []) done → slice_get marks place ≡ Some seen.Open → (rank : ℕ → ℕ) → Falls rank all → ⊥
circle all marks os o own done place there here walk is rank falls =
    none_above rank (os ++ o ∷ []) place (above_import rank all os o own o.next place falls (walk.fall rank falls) there here) (walk.opened place is)

-- the last file was ended
pub ended : (all : List (List ℕ)) (os : List Open) (o : Open) (own : List ℕ) (old new : Walk) → slice_get all o.place ≡ Some own → length own ≤ o.next → old.opened.items ≡ os
    → IsWalk all old.seen.items (os ++ o ∷ []) old.done.items → new.seen.items ≡ set old.seen.items o.place seen.Done → new.opened.items ≡ os → new.done.items ≡ old.done.items ++ o.place ∷ []
    → IsStep all old.seen.items (os ++ o ∷ []) old.done.items new
ended all os o own old new there past before walk marked kept listed = record {
  walk = subst (λ x. IsWalk all x new.opened.items new.done.items) (sym marked) (subst (λ x. IsWalk all (set old.seen.items o.place seen.Done) x new.done.items) (sym kept)
      (subst (IsWalk all (set old.seen.items o.place seen.Done) os) (sym listed) (walk_ended all old.seen.items os o old.done.items walk)));
  on = λ list ends. ends_at_end all os o own old.done.items list there past (subst (λ x. Ends all x (old.done.items ++ o.place ∷ []) list) kept (subst (λ x. Ends all new.opened.items x list) listed ends));
  less = let e : left all new.seen.items new.opened.items ≡ left all (set old.seen.items o.place seen.Done) os = ap₂ (left all) marked kept in
      let f = left_ended all old.seen.items os o own there (looked_at all old.seen.items os o old.done.items own walk there) in omega (arith, e, f);
}

-- ---- from file to file

none_done : (n place : ℕ) → is_done (slice_get (replicate n seen.Not) place) ≡ false
none_done zero place = refl
none_done (suc n) zero = refl
none_done (suc n) (suc place) = none_done n place

none_open : (n place : ℕ) → slice_get (replicate n seen.Not) place ≡ Some seen.Open → ⊥
none_open zero place is = none-some seen.Open is
none_open (suc n) zero is = cc
none_open (suc n) (suc place) is = none_open n place is

as_many : (n : ℕ) → length (replicate n seen.Not) ≡ n
as_many zero = refl
as_many (suc n) = ap suc (as_many n)

-- no file was seen
pub begun : (all : List (List ℕ)) (marks : List Seen) (n : ℕ) → n ≡ length all → marks ≡ replicate n seen.Not → IsWalk all marks [] []
begun all marks n many are = search (rules, as_many, none_done, none_open)

-- a file that is entered while none is open
pub rooted : (all : List (List ℕ)) (place : ℕ) (old new : Walk) → old.opened.items ≡ [] → IsWalk all old.seen.items [] old.done.items → Enters place old new → IsWalk all new.seen.items new.opened.items new.done.items
rooted all place old new closed walk (inl passed) = search rules
rooted all place old new closed walk (inr opened) =
    let v : Open = record { place = place; next = 0 } in
    let kept : new.opened.items ≡ v ∷ [] = opened.2 ∙ ap (λ x. x ++ v ∷ []) closed in
    subst (λ x. IsWalk all x new.opened.items new.done.items) (sym opened.1) (subst (λ x. IsWalk all (set old.seen.items place seen.Open) x new.done.items) (sym kept)
    (subst (IsWalk all (set old.seen.items place seen.Open) (v ∷ [])) (sym opened.3) (walk_opened all old.seen.items [] v old.done.items refl opened.0 (λ rank falls. tt) walk)))

-- and was ended
pub root_ended : (all : List (List ℕ)) (place : ℕ) (old new : Walk) (done later listed : List ℕ) → old.opened.items ≡ [] → IsWalk all old.seen.items [] old.done.items → Enters place old new
    → Ends all new.opened.items new.done.items done → Walks all done later listed → Walks all old.done.items (place ∷ later) listed
root_ended all place old new done later listed closed walk (inl passed) ends walks =
    let front : old.done.items ≡ done =
    subst (λ os. Ends all os old.done.items done) (ap (λ (w : Walk). w.opened.items) passed.1 ∙ closed) (subst (λ x. Ends all new.opened.items x done) (ap (λ (w : Walk). w.done.items) passed.1) ends) in
    passed_over old.done.items later listed place (sym (not_marked all old.seen.items [] old.done.items place seen.Done walk passed.0)) (subst (λ x. Walks all x later listed) (sym front) walks)
root_ended all place old new done later listed closed walk (inr opened) ends walks =
    let v : Open = record { place = place; next = 0 } in
    let kept : new.opened.items ≡ v ∷ [] = opened.2 ∙ ap (λ x. x ++ v ∷ []) closed in
    let (own, inside, there, inner, front) = ends_pop all [] v old.done.items done (subst (λ x. Ends all x old.done.items done) kept (subst (λ x. Ends all new.opened.items x done) opened.3 ends)) in
    listed_last old.done.items own inside later listed place (sym (not_marked all old.seen.items [] old.done.items place seen.Not walk opened.0)) there inner
    (subst (λ x. Walks all x later listed) (sym front) walks)

pub places_on : (place count : ℕ) → place < count → places_from place (count - place) ≡ place ∷ places_from (place + 1) (count - (place + 1))
places_on place count h = search rules

pub no_places : (all : List (List ℕ)) (place count : ℕ) (listed : List ℕ) → count ≤ place → Walks all listed (places_from place (count - place)) listed
no_places all place count listed h =
    let none : 0 ≡ count - place = omega (arith, h) in
    subst (λ n. Walks all listed (places_from place n) listed) none (all_visited listed)
