-- One more name after the others.
use Rattle.std.proofs.Common.{◌≡◌, ◌∙◌, ℕ, Bool, true, false, cond, List, [], ◌∷◌, ◌++◌, Option, Some, None, String, map, refl, sym, ap, subst, true≢false, append_assoc, take, slice_get, is_some, zero, suc, ◌+◌, arith, rules}
use Rattle.std.proofs.lemmas.List.{map-append, reverse-append, reverse-reverse, append-nil}
use Rattle.std.proofs.lemmas.List.Elements.{filter-append}
use Rattle.std.proofs.lemmas.Slice.Eq.{bytes_eq-Decides}
use Rattle.std.specs.Global.{Global}
use Rattle.std.specs.HashMap.{HashMap, get_by_text}
use Rattle.std.specs.Map.{update}
use Rattle.std.specs.Option.{option_map}
use Rattle.std.specs.Str.{bytes_eq}
use Rattle.pg_link.specs.declared.names.index.Index as indexes
use Rattle.pg_link.specs.declared.names.Named as nameds
use Rattle.pg_link.specs.declared.names.declares.DeclaredName as made
use Rattle.pg_link.specs.names.Names.{Text}
use Rattle.pg_link.specs.inner.Made.{declared_of}
use Rattle.pg_link.specs.declared.error.LinkError as errors
use Rattle.pg_link.specs.declared.error.LinkError.TheVariants as error
use Rattle.pg_link.specs.walk.Walk.{Entry, IsPlace, path_of}
use Rattle.std.proofs.lemmas.Option.{same_Some}
use Rattle.pg_link.specs.names.Standing.{Standing, bearers, bearer, first_of, MayStand, NoneTwice, StandsTwice, standing, standings, standings_from, all_standings, IsTwiceIn}
use Rattle.pg_link.specs.inner.Indexed.{added, Adds, AddsAll, Holds, Lists, IsTwice, view}
use Rattle.pg_link.proofs.lemmas.names.SameBytes.{same_text, differ_turned}

bearers-push : (all : List Standing) (s : Standing) (full : Text) → bearers (all ++ s ∷ []) full ≡ bearers all full ++ bearers (s ∷ []) full
bearers-push all s full = filter-append (λ (t : Standing). bytes_eq full t.declared.name) all (s ∷ [])

-- another name bears what it bore
other_by : (all : List Standing) (s : Standing) (full : Text) (b : Bool) → b ≡ false → first_of (bearers all full ++ cond b (s ∷ []) []) ≡ bearer all full
other_by all s full b none = grind (arith, true≢false, append-nil)

other_name : (all : List Standing) (s : Standing) (full : Text) → bytes_eq full s.declared.name ≡ false → bearer (all ++ s ∷ []) full ≡ bearer all full
other_name all s full none = ap first_of (bearers-push all s full) ∙ other_by all s full (bytes_eq full s.declared.name) none

-- what bears the name of the last
added-first : (xs : List Standing) (s : Standing) → first_of (xs ++ s ∷ []) ≡ Some (added s (first_of xs))
added-first xs s = grind (arith, map-append)

own_by : (all : List Standing) (s : Standing) (full : Text) (b : Bool) → b ≡ true → first_of (bearers all full ++ cond b (s ∷ []) []) ≡ Some (added s (bearer all full))
own_by all s full b is = grind (arith, added-first, true≢false)

own_name : (all : List Standing) (s : Standing) (full : Text) → bytes_eq full s.declared.name ≡ true → bearer (all ++ s ∷ []) full ≡ Some (added s (bearer all full))
own_name all s full is = ap first_of (bearers-push all s full) ∙ own_by all s full (bytes_eq full s.declared.name) is

holds_by : {S : Type 0} (old new : HashMap (String Global) nameds.Named S) (all : List Standing) (s : Standing) (n : nameds.Named) (full : Text) (b : Bool)
    → bytes_eq s.declared.name full ≡ b → Holds old all → view n ≡ added s (bearer all s.declared.name)
    → get_by_text new full ≡ cond b (Some n) (get_by_text old full) → option_map view (get_by_text new full) ≡ bearer (all ++ s ∷ []) full
holds_by old new all s n full b same holds made now = grind (arith, same_text, own_name, bytes_eq-Decides, other_name, differ_turned)

pub holds_more : {S : Type 0} (old new : HashMap (String Global) nameds.Named S) (all : List Standing) (s : Standing) (n : nameds.Named) (name : Text)
    → name ≡ s.declared.name → ((cs : Text) → get_by_text new cs ≡ update bytes_eq (get_by_text old) name (Some n) cs)
    → Holds old all → view n ≡ added s (bearer all s.declared.name) → Holds new (all ++ s ∷ [])
holds_more old new all s n name same now holds made = search (rules, holds_by)

pub none_twice_more : (all : List Standing) (s : Standing) → NoneTwice all → MayStand all s → NoneTwice (all ++ s ∷ [])
none_twice_more all s none may = search (rules, reverse-append, reverse-reverse)

-- ---- what a map says of a name

pub none_held : {S : Type 0} (index : HashMap (String Global) nameds.Named S) (all : List Standing) (full : Text) → Holds index all → get_by_text index full ≡ None → bearer all full ≡ None
none_held index all full holds none = sym (holds full) ∙ ap (option_map view) none

pub one_held : {S : Type 0} (index : HashMap (String Global) nameds.Named S) (all : List Standing) (full : Text) (n : nameds.Named) → Holds index all
    → get_by_text index full ≡ Some n → bearer all full ≡ Some (view n)
one_held index all full n holds some = sym (holds full) ∙ ap (option_map view) some

-- what is put under a name over what was just put there
over : {X : Type 0} (b : Bool) (first second : Option X) (before : Option X) → cond b second (cond b first before) ≡ cond b second before
over b first second before = grind arith

pub put_over : {X : Type 0} (old mid new : Text → Option X) (name : Text) (first second : Option X)
    → ((cs : Text) → mid cs ≡ update bytes_eq old name first cs) → ((cs : Text) → new cs ≡ update bytes_eq mid name second cs)
    → (cs : Text) → new cs ≡ update bytes_eq old name second cs
put_over {X = X} old mid new name first second before now cs = search (rules, over)

-- ---- the names of a file, one by one

pub adds_more : (old mid new : indexes.Index) (front : List Standing) (s : Standing) → AddsAll old mid front
    → Adds mid new s true → AddsAll old new (front ++ s ∷ [])
adds_more old mid new front s before adds = λ all holds.
    let h = before all holds in
    let a = adds (all ++ front) h.0 in
    let same : (all ++ front) ++ s ∷ [] ≡ all ++ (front ++ s ∷ []) = append_assoc all front (s ∷ []) in
    (subst (Lists new) same a.1, λ none. subst NoneTwice same (none_twice_more (all ++ front) s (h.1 none) a.0))

abbrev pub standing_of : ℕ → made.DeclaredName → Standing
standing_of file d = standing file (declared_of d)

pub map-twice : (file : ℕ) (ds : List made.DeclaredName) → map (standing file) (map declared_of ds) ≡ map (standing_of file) ds
map-twice file [] = refl
map-twice file (d ∷ ds) = ap (λ l. standing_of file d ∷ l) (map-twice file ds)

pub stands_twice : (old mid new : indexes.Index) (front : List Standing) (s : Standing) → AddsAll old mid front
    → Adds mid new s false → (all : List Standing) → Lists old all → StandsTwice (all ++ front) s × (NoneTwice all → NoneTwice (all ++ front))
stands_twice old mid new front s before adds = λ all holds. let h = before all holds in (adds (all ++ front) h.0, h.1)

-- ---- file by file

pub standings_more : (n : ℕ) (es : List Entry) (i : ℕ) (e : Entry) → slice_get es i ≡ Some e
    → standings_from n (take (i + 1) es) ≡ standings_from n (take i es) ++ standings (n + i) e.1.tree
standings_more n [] i e at = search (rules, true≢false, is_some)
standings_more n (x ∷ es) zero e at = search (rules, append-nil, same_Some)
standings_more n (x ∷ es) (suc i) e at =
    let next : suc i + 1 ≡ suc (i + 1) = omega arith in
    let sum : (n + 1) + i ≡ n + suc i = omega arith in
    ap (λ (m : ℕ). standings_from n (take m (x ∷ es))) next ∙ (ap (λ l. standings n x.1.tree ++ l) (standings_more (n + 1) es i e at)
    ∙ (sym (append_assoc (standings n x.1.tree) (standings_from (n + 1) (take i es)) (standings ((n + 1) + i) e.1.tree))
    ∙ ap (λ (m : ℕ). (standings n x.1.tree ++ standings_from (n + 1) (take i es)) ++ standings m e.1.tree) sum))

pub files_more : (es : List Entry) (i : ℕ) (e : Entry) → slice_get es i ≡ Some e → all_standings (take (i + 1) es) ≡ all_standings (take i es) ++ standings i e.1.tree
files_more es i e at =
    let sum : 0 + i ≡ i = omega arith in
    standings_more 0 es i e at ∙ ap (λ (m : ℕ). all_standings (take i es) ++ standings m e.1.tree) sum

standings_split : (n : ℕ) (es : List Entry) (i : ℕ) → (rest : List Standing) × (standings_from n es ≡ standings_from n (take i es) ++ rest)
standings_split n es zero = search rules
standings_split n [] (suc i) = ([], refl)
standings_split n (x ∷ es) (suc i) = search (rules, append_assoc, standings_split (n + 1) es i)

pub twice_in : (index : indexes.Index) (es : List Entry) (i : ℕ) (e : Entry) (path : Text) (err : errors.LinkError)
    → slice_get es i ≡ Some e → path ≡ path_of e → Lists index (all_standings (take i es)) → NoneTwice (all_standings (take i es))
    → IsTwice index i path e.1.bytes.items (standings i e.1.tree) err → IsTwiceIn es err
twice_in index es i e path error.Memory at same holds once twice = tt
twice_in index es i e path (error.DuplicateName place) at same holds once (front, back, d, splits, is_place, stands) =
    let before = all_standings (take i es) in
    let s = standing i d in
    let rest = standings_split 0 es (i + 1) in
    let own : all_standings es ≡ (before ++ standings i e.1.tree) ++ rest.0 = rest.1 ∙ ap (λ l. l ++ rest.0) (files_more es i e at) in
    let whole : all_standings es ≡ (before ++ front) ++ s ∷ (back ++ rest.0) =
    own ∙ (ap (λ l. (before ++ l) ++ rest.0) splits ∙ (append_assoc before (front ++ s ∷ back) rest.0 ∙ (ap (λ l. before ++ l) (append_assoc front (s ∷ back) rest.0)
    ∙ sym (append_assoc before front (s ∷ (back ++ rest.0)))))) in (
      s,
      record { front = before ++ front; back = back ++ rest.0; splits = whole; none_before = (stands before holds).1 once; twice = (stands before holds).0 },
      (e, at, subst (λ (p : Text). IsPlace place p e.1.bytes.items d.at) same is_place),
    )
twice_in index es i e path _ at same holds once twice = absurd twice
