-- No name is declared twice exactly where any two that are one are parts of packages.
use Rattle.std.proofs.Common.{◌≡◌, ◌∙◌, inl, inr, ◌⊎◌, ℕ, zero, suc, ◌<◌, ◌≤◌, Bool, true, false, ◌&&◌, cond, List, [], ◌∷◌, ◌++◌, Some, None, map, reverse, length, refl, sym, subst, slice_get, true≢false, arith, rules}
use Rattle.std.proofs.lemmas.List.{reverse-append, reverse-reverse}
use Rattle.std.proofs.lemmas.Option.{same_Some, slice_get_within}
use Rattle.std.proofs.lemmas.Slice.Eq.{bytes_eq-Decides}
use Rattle.std.specs.Str.{bytes_eq}
use Rattle.pg_link.specs.declared.names.Kind.{Kind}
use Rattle.pg_link.specs.names.Names.{Text}
use Rattle.pg_link.specs.names.Standing.{Standing, Bearer, bearers, first_of, may_share, MayStand, AllMayStand, NoneTwice, OncePerName, NoneTwiceIsOnce}
use Rattle.pg_link.proofs.lemmas.names.FileMarks.{none_some}
use Rattle.pg_link.proofs.lemmas.names.VisibleFilesLaws.{push_cases}

inner : {X : Type 0} {a b : X} → Some a ≡ Some b → a ≡ b
inner {a = a} {b = b} is = same_Some a b is

-- each that has its name may share it
abbrev AllShare : List Standing → Standing → Type 0
AllShare before s = (i : ℕ) (t : Standing) → slice_get before i ≡ Some t → t.declared.name ≡ s.declared.name → may_share t.declared.kind s.declared.kind ≡ true

-- ---- the first that bears a name

abbrev FirstShares : Kind → List Standing → Type 0
FirstShares kind found = (first_of found ≡ None) ⊎ ((b : Bearer) × (first_of found ≡ Some b) × (may_share b.kind kind ≡ true))

first_shares_by : (kind : Kind) (b : Bool) (t : Standing) (rest : List Standing) → (b ≡ true → may_share t.declared.kind kind ≡ true) → FirstShares kind rest
    → FirstShares kind (cond b (t ∷ rest) rest)
first_shares_by kind b t rest this more = grind arith

stands : (before : List Standing) (s : Standing) → AllShare before s → MayStand before s
stands [] s share = inl refl
stands (t ∷ before) s share =
    first_shares_by s.declared.kind (bytes_eq s.declared.name t.declared.name) t (bearers before s.declared.name)
    (λ is. share 0 t refl (sym ((bytes_eq-Decides s.declared.name t.declared.name).0 is)))
    (stands before s (λ i u at same. share (suc i) u at same))

-- the first that bears a name is at this index or before it
record Bears (before found : List Standing) (full : Text) (i : ℕ) : Type 0 where
  place : ℕ
  first : Standing
  is_before : place ≤ i
  is_at : slice_get before place ≡ Some first
  is_name : first.declared.name ≡ full
  bearer : Bearer
  is_first : first_of found ≡ Some bearer
  is_kind : bearer.kind ≡ first.declared.kind

bears_by : (b : Bool) (x : Standing) (before : List Standing) (full : Text) (i : ℕ) (t : Standing) → bytes_eq full x.declared.name ≡ b
    → slice_get (x ∷ before) i ≡ Some t → t.declared.name ≡ full
    → ((j : ℕ) → slice_get before j ≡ Some t → Bears before (bearers before full) full j)
    → Bears (x ∷ before) (cond b (x ∷ bearers before full) (bearers before full)) full i
bears_by true x before full i t is at name more = record {
  place = 0;
  first = x;
  is_before = omega arith;
  is_at = refl;
  is_name = sym ((bytes_eq-Decides full x.declared.name).0 is);
  bearer = record { kind = x.declared.kind; at = x.declared.at; files = x.file ∷ map (λ u. u.file) (bearers before full) };
  is_first = refl;
  is_kind = refl;
}
bears_by false x before full zero t is at name more = search (rules, true≢false, bytes_eq-Decides, inner)
bears_by false x before full (suc i) t is at name more =
    let b = more i at in
    record {
      place = suc b.place;
      first = b.first;
      is_before = omega (arith, b.is_before);
      is_at = b.is_at;
      is_name = b.is_name;
      bearer = b.bearer;
      is_first = b.is_first;
      is_kind = b.is_kind;
    }

bears : (before : List Standing) (full : Text) (i : ℕ) (t : Standing) → slice_get before i ≡ Some t → t.declared.name ≡ full → Bears before (bearers before full) full i
bears [] full i t at name = absurd (none_some t at)
bears (x ∷ before) full i t at name =
    bears_by (bytes_eq full x.declared.name) x before full i t refl at name (λ j there. bears before full j t there name)

third : (a b c : Bool) → (a && b) ≡ true → (a && c) ≡ true → (b && c) ≡ true
third a b c one other = grind (arith, true≢false)

same_or_before : (j i : ℕ) → j ≤ i → (j ≡ i) ⊎ (j < i)
same_or_before zero zero less = inl refl
same_or_before zero (suc i) less = inr (omega arith)
same_or_before (suc j) zero less = absurd (omega (arith, less))
same_or_before (suc j) (suc i) less = search (rules, same_or_before j i (omega (arith, less)))

shares : (before : List Standing) (s : Standing) → MayStand before s → OncePerName before → AllShare before s
shares before s may once = λ i t at name. by i t at name (bears before s.declared.name i t at name) may
  where
    later : (i j : ℕ) (t f : Standing) → slice_get before i ≡ Some t → slice_get before j ≡ Some f → f.declared.name ≡ t.declared.name → (j ≡ i) ⊎ (j < i)
        → may_share f.declared.kind s.declared.kind ≡ true → may_share t.declared.kind s.declared.kind ≡ true
    later i j t f at there name (inl is) share = search (rules, inner, slice_get)
    later i j t f at there name (inr less) share = search (rules, third)

    by : (i : ℕ) (t : Standing) → slice_get before i ≡ Some t → t.declared.name ≡ s.declared.name → Bears before (bearers before s.declared.name) s.declared.name i
        → MayStand before s → may_share t.declared.kind s.declared.kind ≡ true
    by i t at name b (inl none) = absurd (none_some b.bearer (sym none ∙ b.is_first))
    by i t at name b (inr (other, is, share)) = search (rules, inner, later, same_or_before)

-- ---- one more after the others

get_front : (front : List Standing) (s : Standing) (i : ℕ) (t : Standing) → slice_get front i ≡ Some t → slice_get (front ++ s ∷ []) i ≡ Some t
get_front [] s i t at = absurd (none_some t at)
get_front (x ∷ front) s zero t at = at
get_front (x ∷ front) s (suc i) t at = get_front front s i t at

get_last : (front : List Standing) (s : Standing) → slice_get (front ++ s ∷ []) (length front) ≡ Some s
get_last [] s = refl
get_last (x ∷ front) s = get_last front s

once_push : (front : List Standing) (s : Standing) → OncePerName front → AllShare front s → OncePerName (front ++ s ∷ [])
once_push front s once share = search (rules, push_cases, slice_get, slice_get_within)

once_front : (front : List Standing) (s : Standing) → OncePerName (front ++ s ∷ []) → OncePerName front
once_front front s once = λ i j t u less at there name. once i j t u less (get_front front s i t at) (get_front front s j u there) name

share_last : (front : List Standing) (s : Standing) → OncePerName (front ++ s ∷ []) → AllShare front s
share_last front s once = λ i t at name. once i (length front) t s (slice_get_within front i t at) (get_front front s i t at) (get_last front s) name

pushed : (s : Standing) (before : List Standing) → reverse (s ∷ before) ≡ reverse before ++ s ∷ []
pushed s before = reverse-append (s ∷ []) before

once_of : (before : List Standing) → AllMayStand before → OncePerName (reverse before)
once_of [] all = λ i j t u less at there name. absurd (none_some t at)
once_of (s ∷ before) all = search (rules, pushed, once_push, shares, once_of before all.1)

all_of_once : (before : List Standing) → OncePerName (reverse before) → AllMayStand before
all_of_once [] once = tt
all_of_once (s ∷ before) once =
    let whole : OncePerName (reverse before ++ s ∷ []) = subst OncePerName (pushed s before) once in
    (stands (reverse before) s (share_last (reverse before) s whole), all_of_once before (once_front (reverse before) s whole))

pub once_per_name : (all : List Standing) → NoneTwice all → OncePerName all
once_per_name all none = subst OncePerName (reverse-reverse all) (once_of (reverse all) none)

pub none_twice_is_once : NoneTwiceIsOnce
none_twice_is_once = λ all. (once_per_name all, λ once. all_of_once (reverse all) (subst OncePerName (sym (reverse-reverse all)) once))
