-- The names that an index holds are those that the files declare.
use Rattle.std.proofs.Common.{◌≡◌, ◌∙◌, ◌⊎◌, inl, inr, ℕ, zero, suc, ◌+◌, Bool, true, false, ◌&&◌, cond, List, [], ◌∷◌, ◌++◌, map, flat_map, reverse, length, get_or, slice_get, refl, sym, ap, subst, true≢false, arith, Option, Some, None, String, rules}
use Rattle.std.proofs.lemmas.List.{reverse-append}
use Rattle.std.proofs.lemmas.Option.{same_Some, slice_get_read}
use Rattle.std.specs.Global.{Global}
use Rattle.std.specs.HashMap.{HashMap, get_by_text}
use Rattle.std.specs.List.{filter, find, list_any, IsAmong}
use Rattle.std.specs.Option.{option_map, option_and_then}
use Rattle.std.specs.Str.{bytes_eq}
use Rattle.pg_link.specs.declared.names.Kind.{Kind}
use Rattle.pg_link.specs.declared.names.Kind.TheVariants as kinds
use Rattle.pg_link.specs.declared.names.Named as nameds
use Rattle.pg_link.specs.names.Files.{File, Declared, kind_in, names_at, all_names, is_path_of}
use Rattle.pg_link.specs.inner.Index.{sees_one, kind_seen, names_seen}
use Rattle.pg_link.specs.names.Names.{Text, is_package}
use Rattle.pg_link.specs.names.Outline.{file_names}
use Rattle.pg_link.specs.inner.VisibleFiles.{Marks}
use Rattle.pg_link.specs.names.Standing.{Standing, Bearer, bearers, first_of, NoneTwice, AllMayStand, MayStand, standing, standings, standings_from, all_standings}
use Rattle.pg_link.specs.inner.Indexed.{Holds, view}
use Rattle.pg_link.specs.walk.Walk.{Entry, outline, outlines}
use Rattle.pg_link.proofs.lemmas.names.FileMarks.{none_some}
use Rattle.pg_link.proofs.lemmas.names.SeenPaths.{among_map, map_among}
use Rattle.pg_link.proofs.lemmas.names.SameBytes.{same_text, text_same}
use Rattle.pg_link.proofs.lemmas.names.VisibleLaws.{any_at, any_found, first_among, later_among}
use Rattle.pg_link.proofs.lemmas.names.VisibleFilesLaws.{among_outlines}

-- ---- lists

left_among : {X : Type 0} (xs ys : List X) (x : X) → IsAmong xs x → IsAmong (xs ++ ys) x
left_among [] ys x (i, (within, is)) = absurd (omega (arith, within))
left_among (z ∷ xs) ys x (zero, (within, is)) = (zero, (omega arith, is))
left_among (z ∷ xs) ys x (suc i, (within, is)) = later_among z (xs ++ ys) x (left_among xs ys x (i, (omega (arith, within), is)))

right_among : {X : Type 0} (xs ys : List X) (x : X) → IsAmong ys x → IsAmong (xs ++ ys) x
right_among [] ys x among = among
right_among (z ∷ xs) ys x among = later_among z (xs ++ ys) x (right_among xs ys x among)

sides_later : {X : Type 0} (z : X) (xs ys : List X) (x : X) → (IsAmong xs x) ⊎ (IsAmong ys x) → (IsAmong (z ∷ xs) x) ⊎ (IsAmong ys x)
sides_later z xs ys x h5 = grind (arith, later_among)

sides : {X : Type 0} (xs ys : List X) (x : X) → IsAmong (xs ++ ys) x → (IsAmong xs x) ⊎ (IsAmong ys x)
sides [] ys x among = inr among
sides (z ∷ xs) ys x (zero, (within, is)) = inl (zero, (omega arith, is))
sides (z ∷ xs) ys x (suc i, (within, is)) = sides_later z xs ys x (sides xs ys x (i, (omega (arith, within), is)))

pub reverse_among : {X : Type 0} (xs : List X) (x : X) → IsAmong (reverse xs) x → IsAmong xs x
reverse_among [] x among = among
reverse_among (z ∷ xs) x among = turned (sides (reverse xs) (z ∷ []) x (subst (λ l. IsAmong l x) (reverse-append (z ∷ []) xs) among)) (reverse_among xs x)
  where
    turned : (IsAmong (reverse xs) x) ⊎ (IsAmong (z ∷ []) x) → (IsAmong (reverse xs) x → IsAmong xs x) → IsAmong (z ∷ xs) x
    turned (inl a) rest = later_among z xs x (rest a)
    turned (inr (zero, (within, is))) rest = (zero, (omega arith, is))
    turned (inr (suc i, (within, is))) rest = absurd (omega (arith, within))

pub among_reverse : {X : Type 0} (xs : List X) (x : X) → IsAmong xs x → IsAmong (reverse xs) x
among_reverse [] x among = among
among_reverse (z ∷ xs) x (zero, (within, is)) =
    subst (λ l. IsAmong l x) (sym (reverse-append (z ∷ []) xs)) (right_among (reverse xs) (z ∷ []) x (zero, (omega arith, is)))
among_reverse (z ∷ xs) x (suc i, (within, is)) =
    subst (λ l. IsAmong l x) (sym (reverse-append (z ∷ []) xs)) (left_among (reverse xs) (z ∷ []) x (among_reverse xs x (i, (omega (arith, within), is))))

flat_later : {X Y : Type 0} (f : X → List Y) (z : X) (xs : List X) (y : Y) → (x : X) × IsAmong xs x × IsAmong (f x) y → (x : X) × IsAmong (z ∷ xs) x × IsAmong (f x) y
flat_later f z xs y (x, a, b) = (x, later_among z xs x a, b)

flat_by : {X Y : Type 0} (f : X → List Y) (z : X) (xs : List X) (y : Y) → (IsAmong (f z) y) ⊎ (IsAmong (flat_map f xs) y)
    → (IsAmong (flat_map f xs) y → (x : X) × IsAmong xs x × IsAmong (f x) y) → (x : X) × IsAmong (z ∷ xs) x × IsAmong (f x) y
flat_by f z xs y h5 rest = grind (arith, first_among, flat_later)

pub flat_among : {X Y : Type 0} (f : X → List Y) (xs : List X) (y : Y) → IsAmong (flat_map f xs) y → (x : X) × IsAmong xs x × IsAmong (f x) y
flat_among f [] y (i, (within, is)) = absurd (omega (arith, within))
flat_among f (z ∷ xs) y among = flat_by f z xs y (sides (f z) (flat_map f xs) y among) (flat_among f xs y)

pub among_flat : {X Y : Type 0} (f : X → List Y) (xs : List X) (x : X) (y : Y) → IsAmong xs x → IsAmong (f x) y → IsAmong (flat_map f xs) y
among_flat f [] x y (i, (within, is)) b = absurd (omega (arith, within))
among_flat f (z ∷ xs) x y (zero, (within, is)) b = left_among (f z) (flat_map f xs) y (subst (λ w. IsAmong (f w) y) is b)
among_flat f (z ∷ xs) x y (suc i, (within, is)) b = right_among (f z) (flat_map f xs) y (among_flat f xs x y (i, (omega (arith, within), is)) b)

filter_by : {X : Type 0} (q : X → Bool) (z : X) (xs : List X) (x : X) (b : Bool) → q z ≡ b → (IsAmong (filter q xs) x → IsAmong xs x × (q x ≡ true))
    → IsAmong (cond b (z ∷ filter q xs) (filter q xs)) x → IsAmong (z ∷ xs) x × (q x ≡ true)
filter_by q z xs x b pass rest among = grind (arith, later_among)

pub filter_among : {X : Type 0} (q : X → Bool) (xs : List X) (x : X) → IsAmong (filter q xs) x → IsAmong xs x × (q x ≡ true)
filter_among q [] x (i, (within, is)) = absurd (omega (arith, within))
filter_among q (z ∷ xs) x among = filter_by q z xs x (q z) refl (filter_among q xs x) among

first_passes : {X : Type 0} (q : X → Bool) (z : X) (xs : List X) (x : X) (b : Bool) → b ≡ true → x ≡ z → IsAmong (cond b (z ∷ filter q xs) (filter q xs)) x
first_passes q z xs x b pass is = grind (arith, true≢false)

other_passes : {X : Type 0} (q : X → Bool) (z : X) (xs : List X) (x : X) (b : Bool) → IsAmong (filter q xs) x → IsAmong (cond b (z ∷ filter q xs) (filter q xs)) x
other_passes q z xs x true among = later_among z (filter q xs) x among
other_passes q z xs x false among = among

pub among_filter : {X : Type 0} (q : X → Bool) (xs : List X) (x : X) → IsAmong xs x → q x ≡ true → IsAmong (filter q xs) x
among_filter q [] x (i, (within, is)) pass = absurd (omega (arith, within))
among_filter q (z ∷ xs) x (zero, (within, is)) pass = first_passes q z xs x (q z) (subst (λ w. q w ≡ true) is pass) is
among_filter q (z ∷ xs) x (suc i, (within, is)) pass = other_passes q z xs x (q z) (among_filter q xs x (i, (omega (arith, within), is)) pass)

-- ---- what is found

found_by : {X : Type 0} (q : X → Bool) (z : X) (xs : List X) (x : X) (b : Bool) → q z ≡ b → (find q xs ≡ Some x → IsAmong xs x × (q x ≡ true))
    → cond b (Some z) (find q xs) ≡ Some x → IsAmong (z ∷ xs) x × (q x ≡ true)
found_by q z xs x b pass rest is = grind (arith, same_Some, later_among)

pub find_among : {X : Type 0} (q : X → Bool) (xs : List X) (x : X) → find q xs ≡ Some x → IsAmong xs x × (q x ≡ true)
find_among q [] x is = absurd (none_some x is)
find_among q (z ∷ xs) x is = found_by q z xs x (q z) refl (find_among q xs x) is

none_by : {X : Type 0} (q : X → Bool) (z : X) (xs : List X) (b : Bool) → q z ≡ b → cond b (Some z) (find q xs) ≡ None → (q z ≡ false) × (find q xs ≡ None)
none_by q z xs b pass is = grind (arith, none_some)

find_none : {X : Type 0} (q : X → Bool) (xs : List X) (x : X) → IsAmong xs x → q x ≡ true → find q xs ≡ None → ⊥
find_none q [] x (i, (within, is)) pass none = absurd (omega (arith, within))
find_none q (z ∷ xs) x (zero, (within, is)) pass none = search (rules, true≢false, none_by)
find_none q (z ∷ xs) x (suc i, (within, is)) pass none = search (rules, find_none q xs x (i, (omega (arith, within), is)) pass (none_by q z xs (q z) refl none).1)

-- ---- the kind that is seen

-- of those that declare a name, the kind, if one of them passes
abbrev kind_by : (Standing → Bool) → List Standing → Option Kind
kind_by test [] = None
kind_by test (s ∷ more) = cond (list_any test (s ∷ more)) (Some s.declared.kind) None

abbrev is_named : Text → Declared → Bool
is_named full d = bytes_eq d.name full

-- one that declares the name and passes
abbrev Passing : (Standing → Bool) → List Standing → Declared → Type 0
Passing test bs d = (s : Standing) × IsAmong bs s × (test s ≡ true) × (s.declared ≡ d)

some_by : (test : Standing → Bool) (s : Standing) (more : List Standing) (ds : List Declared) (full : Text)
    → ((d : Declared) → IsAmong ds d → is_named full d ≡ true → Passing test (s ∷ more) d)
    → ((a b : Standing) → IsAmong (s ∷ more) a → IsAmong (s ∷ more) b → a.declared.kind ≡ b.declared.kind)
    → (o : Option Declared) → find (is_named full) ds ≡ o → (o ≡ None → ⊥) → Some s.declared.kind ≡ option_map (λ d. d.kind) o
some_by test s more ds full one same None is some = absurd (some refl)
some_by test s more ds full one same (Some d) is some =
    let h = find_among (is_named full) ds d is in
    let p = one d h.0 h.1 in
    ap (λ (k : Kind). Some k) (same s p.0 (first_among s more) p.1 ∙ ap (λ (x : Declared). x.kind) p.3)

none_found : (test : Standing → Bool) (bs : List Standing) (ds : List Declared) (full : Text) → list_any test bs ≡ false
    → ((d : Declared) → IsAmong ds d → is_named full d ≡ true → Passing test bs d)
    → (o : Option Declared) → find (is_named full) ds ≡ o → None ≡ option_map (λ (d : Declared). d.kind) o
none_found test bs ds full none one None is = refl
none_found test bs ds full none one (Some d) is =
    let h = find_among (is_named full) ds d is in
    let p = one d h.0 h.1 in
    absurd (true≢false (sym (any_at test bs p.0 p.1 p.2) ∙ none))

any_by : (test : Standing → Bool) (s : Standing) (more : List Standing) (ds : List Declared) (full : Text)
    → ((d : Declared) → IsAmong ds d → is_named full d ≡ true → Passing test (s ∷ more) d)
    → ((a : Standing) → IsAmong (s ∷ more) a → test a ≡ true → IsAmong ds a.declared × (is_named full a.declared ≡ true))
    → ((a b : Standing) → IsAmong (s ∷ more) a → IsAmong (s ∷ more) b → a.declared.kind ≡ b.declared.kind)
    → (b : Bool) → list_any test (s ∷ more) ≡ b → cond b (Some s.declared.kind) None ≡ kind_in ds full
any_by test s more ds full one two same true any =
    let p = any_found test (s ∷ more) any in
    let h = two p.0 p.1 p.2 in
    some_by test s more ds full one same (find (is_named full) ds) refl (λ none. find_none (is_named full) ds p.0.declared h.0 h.1 none)
any_by test s more ds full one two same false none = none_found test (s ∷ more) ds full none one (find (is_named full) ds) refl

kinds_agree : (test : Standing → Bool) (bs : List Standing) (ds : List Declared) (full : Text)
    → ((d : Declared) → IsAmong ds d → is_named full d ≡ true → Passing test bs d)
    → ((a : Standing) → IsAmong bs a → test a ≡ true → IsAmong ds a.declared × (is_named full a.declared ≡ true))
    → ((a b : Standing) → IsAmong bs a → IsAmong bs b → a.declared.kind ≡ b.declared.kind) → kind_by test bs ≡ kind_in ds full
kinds_agree test [] ds full one two same = none_found test [] ds full refl one (find (is_named full) ds) refl
kinds_agree test (s ∷ more) ds full one two same = any_by test s more ds full one two same (list_any test (s ∷ more)) refl

-- ---- one name has one kind

pub package_is : (k : Kind) → is_package k ≡ true → k ≡ kinds.Package
package_is k is = grind (arith, true≢false)

pub both_true : (a b : Bool) → (a && b) ≡ true → (a ≡ true) × (b ≡ true)
both_true a b is = grind (arith, true≢false)

-- who bears a name first
first_bears : (bs : List Standing) (b : Bearer) → first_of bs ≡ Some b → (s : Standing) × IsAmong bs s × (s.declared.kind ≡ b.kind)
first_bears [] b is = absurd (none_some b is)
first_bears (s ∷ more) b is = (s, first_among s more, ap (λ (x : Bearer). x.kind) (same_Some _ b is))

pub none_bears : (bs : List Standing) (s : Standing) → first_of bs ≡ None → IsAmong bs s → ⊥
none_bears bs s none among = grind (arith, none_some)

-- one that is before another of the name
one_kind : (before : List Standing) (x t : Standing) → MayStand (reverse before) x → IsAmong before t → bytes_eq x.declared.name t.declared.name ≡ true
    → ((u : Standing) → IsAmong before u → bytes_eq x.declared.name u.declared.name ≡ true → u.declared.kind ≡ t.declared.kind) → x.declared.kind ≡ t.declared.kind
one_kind before x t (inl none) among named same =
    absurd (none_bears (bearers (reverse before) x.declared.name) t none
    (among_filter (λ (s : Standing). bytes_eq x.declared.name s.declared.name) (reverse before) t (among_reverse before t among) named))
one_kind before x t (inr (b, is, may)) among named same =
    let u = first_bears (bearers (reverse before) x.declared.name) b is in
    let h = filter_among (λ (s : Standing). bytes_eq x.declared.name s.declared.name) (reverse before) u.0 u.1 in
    let both = both_true (is_package b.kind) (is_package x.declared.kind) may in
    package_is x.declared.kind both.1 ∙ (sym (package_is b.kind both.0) ∙ (sym u.2 ∙ same u.0 (reverse_among before u.0 h.0) h.1))

kinds_same : (xs : List Standing) → AllMayStand xs → (full : Text) (a b : Standing) → IsAmong xs a → IsAmong xs b → full ≡ a.declared.name → full ≡ b.declared.name
    → a.declared.kind ≡ b.declared.kind
kinds_same [] may full a b (i, (within, is)) there here same = absurd (omega (arith, within))
kinds_same (x ∷ before) may full a b (zero, (within, is)) (zero, (inside, at)) here same = ap (λ (s : Standing). s.declared.kind) (is ∙ sym at)
kinds_same (x ∷ before) may full a b (zero, (within, is)) (suc j, (inside, at)) here same =
    let name : x.declared.name ≡ full = ap (λ (s : Standing). s.declared.name) (sym is) ∙ sym here in
    let among : IsAmong before b = (j, (omega (arith, inside), at)) in
    ap (λ (s : Standing). s.declared.kind) is ∙ one_kind before x b may.0 among (text_same x.declared.name b.declared.name (name ∙ same))
    (λ u there named. kinds_same before may.1 full u b there among (sym name ∙ same_text x.declared.name u.declared.name named) same)
kinds_same (x ∷ before) may full a b (suc i, (within, is)) (zero, (inside, at)) here same =
    let name : x.declared.name ≡ full = ap (λ (s : Standing). s.declared.name) (sym at) ∙ sym same in
    let among : IsAmong before a = (i, (omega (arith, within), is)) in
    sym (one_kind before x a may.0 among (text_same x.declared.name a.declared.name (name ∙ here))
    (λ u there named. kinds_same before may.1 full u a there among (sym name ∙ same_text x.declared.name u.declared.name named) here))
    ∙ ap (λ (s : Standing). s.declared.kind) (sym at)
kinds_same (x ∷ before) may full a b (suc i, (within, is)) (suc j, (inside, at)) here same = search (rules, kinds_same before may.1 full a b (i, (omega (arith, within), is)) (j, (omega (arith, inside), at)) here same)

-- ---- standings and files

pub standing_there : (n : ℕ) (es : List Entry) (i m : ℕ) (e : Entry) (d : Declared) → m ≡ n + i → slice_get es i ≡ Some e → IsAmong (file_names e.1.tree) d
    → IsAmong (standings_from n es) (standing m d)
standing_there n [] i m e d sum at among = absurd (none_some e at)
standing_there n (x ∷ es) zero m e d sum at among =
    let here : IsAmong (file_names x.1.tree) d = subst (λ (y : Entry). IsAmong (file_names y.1.tree) d) (sym (same_Some x e at)) among in
    let same : m ≡ n = omega (arith, sum) in
    left_among (standings n x.1.tree) (standings_from (n + 1) es) (standing m d)
    (subst (λ (k : ℕ). IsAmong (standings n x.1.tree) (standing k d)) (sym same) (map_among (standing n) (file_names x.1.tree) d here))
standing_there n (x ∷ es) (suc i) m e d sum at among = search (rules, right_among, standing_there (n + 1) es i m e d (omega (arith, sum)) at among)

pub record Stands (n : ℕ) (es : List Entry) (s : Standing) : Type 0 where
  pub number : ℕ
  pub entry : Entry
  pub is_there : slice_get es number ≡ Some entry
  pub declares : IsAmong (file_names entry.1.tree) s.declared
  pub is_file : s.file ≡ n + number

stands_by : (n : ℕ) (x : Entry) (es : List Entry) (s : Standing) → (IsAmong (standings n x.1.tree) s) ⊎ (IsAmong (standings_from (n + 1) es) s)
    → (IsAmong (standings_from (n + 1) es) s → Stands (n + 1) es s) → Stands n (x ∷ es) s
stands_by n x es s (inl a) rest =
    let d = among_map (standing n) (file_names x.1.tree) s a in
    record {
      number = zero;
      entry = x;
      is_there = refl;
      declares = subst (IsAmong (file_names x.1.tree)) (ap (λ (t : Standing). t.declared) d.2) d.1;
      is_file = ap (λ (t : Standing). t.file) (sym d.2) ∙ omega arith;
    }
stands_by n x es s (inr b) rest =
    let h = rest b in
    record { number = suc h.number; entry = h.entry; is_there = h.is_there; declares = h.declares; is_file = h.is_file ∙ omega arith }

pub stands_of : (n : ℕ) (es : List Entry) (s : Standing) → IsAmong (standings_from n es) s → Stands n es s
stands_of n [] s (i, (within, is)) = absurd (omega (arith, within))
stands_of n (x ∷ es) s among = stands_by n x es s (sides (standings n x.1.tree) (standings_from (n + 1) es) s among) (stands_of (n + 1) es s)

-- ---- the index

sees_any : (visible : List Bool) (bs : List Standing) → sees_one visible (map (λ (s : Standing). s.file) bs) ≡ list_any (λ (s : Standing). get_or visible s.file false) bs
sees_any visible [] = refl
sees_any visible (s ∷ bs) = search (rules, sees_any visible bs)

seen_is : (visible : List Bool) (o : Option nameds.Named) (bs : List Standing) → option_map view o ≡ first_of bs
    → option_and_then (kind_seen (Some visible)) o ≡ kind_by (λ s. get_or visible s.file false) bs
seen_is visible o bs is = grind (arith, none_some, same_Some, sees_any)

all_is : (o : Option nameds.Named) (bs : List Standing) → option_map view o ≡ first_of bs → option_and_then (kind_seen None) o ≡ kind_by (λ s. true) bs
all_is o bs is = grind (arith, none_some, same_Some)

abbrev names_it : Text → Standing → Bool
names_it full s = bytes_eq full s.declared.name

same_kinds : (es : List Entry) (full : Text) → NoneTwice (all_standings es) → (a b : Standing) → IsAmong (bearers (all_standings es) full) a
    → IsAmong (bearers (all_standings es) full) b → a.declared.kind ≡ b.declared.kind
same_kinds es full once a b here there =
    let x = filter_among (names_it full) (all_standings es) a here in
    let y = filter_among (names_it full) (all_standings es) b there in
    kinds_same (reverse (all_standings es)) once full a b (among_reverse (all_standings es) a x.0) (among_reverse (all_standings es) b y.0)
    (same_text full a.declared.name x.1) (same_text full b.declared.name y.1)

-- a name of a file is among all
its_standing : (es : List Entry) (f : File) (d : Declared) → IsAmong (outlines es) f → IsAmong f.declared d
    → (i : ℕ) × (e : Entry) × (slice_get es i ≡ Some e) × (outline e ≡ f) × IsAmong (all_standings es) (standing i d)
its_standing es f d among has =
    let m = among_map outline es f (reverse_among (map outline es) f among) in
    let i : ℕ = m.1.0 in
    let at : slice_get es i ≡ Some m.0 = slice_get_read es (length es) i m.0 refl m.1.1.0 m.1.1.1 in
    (i, m.0, at, m.2, standing_there 0 es i i m.0 d (omega arith) at (subst (λ (g : File). IsAmong g.declared d) (sym m.2) has))

turned : (a b : Text) → bytes_eq a b ≡ true → bytes_eq b a ≡ true
turned a b is = text_same b a (sym (same_text a b is))

pub seen_names : {S : Type 0} (index : HashMap (String Global) nameds.Named S) (es : List Entry) (ps : List Text) (visible : List Bool) → Holds index (all_standings es)
    → NoneTwice (all_standings es) → Marks es ps visible → (full : Text) → names_seen index (Some visible) full ≡ names_at ps (outlines es) full
seen_names index es ps visible holds once marks full =
    let q = λ (f : File). is_path_of ps f.path in
    let bs = bearers (all_standings es) full in
    let test = λ (s : Standing). get_or visible s.file false in
    seen_is visible (get_by_text index full) bs (holds full)
    ∙ kinds_agree test bs (flat_map (λ (f : File). f.declared) (filter q (outlines es))) full
    (λ d among named.
    let f = flat_among (λ (x : File). x.declared) (filter q (outlines es)) d among in
    let g = filter_among q (outlines es) f.0 f.1 in
    let s = its_standing es f.0 d g.0 f.2 in (
      standing s.0 d,
      among_filter (names_it full) (all_standings es) (standing s.0 d) s.4 (turned d.name full named),
      marks s.0 s.1 s.2 ∙ (ap q s.3 ∙ g.1),
      refl,
    ))
    (λ a among pass.
    let h = filter_among (names_it full) (all_standings es) a among in
    let s = stands_of 0 es a h.0 in
    let number : a.file ≡ s.number = s.is_file ∙ omega arith in
    let seen : q (outline s.entry) ≡ true = sym (marks s.number s.entry s.is_there) ∙ (ap (λ (k : ℕ). get_or visible k false) (sym number) ∙ pass) in (
      among_flat (λ (x : File). x.declared) (filter q (outlines es)) (outline s.entry) a.declared
          (among_filter q (outlines es) (outline s.entry) (among_outlines es s.number s.entry s.is_there) seen) s.declares,
      turned full a.declared.name h.1,
    ))
    (same_kinds es full once)

pub known_names : {S : Type 0} (index : HashMap (String Global) nameds.Named S) (es : List Entry) → Holds index (all_standings es)
    → NoneTwice (all_standings es) → (full : Text) → names_seen index None full ≡ all_names (outlines es) full
known_names index es holds once full =
    let bs = bearers (all_standings es) full in
    all_is (get_by_text index full) bs (holds full)
    ∙ kinds_agree (λ (s : Standing). true) bs (flat_map (λ (f : File). f.declared) (outlines es)) full
    (λ d among named.
    let f = flat_among (λ (x : File). x.declared) (outlines es) d among in
    let s = its_standing es f.0 d f.1 f.2 in
    (standing s.0 d, among_filter (names_it full) (all_standings es) (standing s.0 d) s.4 (turned d.name full named), refl, refl))
    (λ a among pass.
    let h = filter_among (names_it full) (all_standings es) a among in
    let s = stands_of 0 es a h.0 in (
      among_flat (λ (x : File). x.declared) (outlines es) (outline s.entry) a.declared (among_outlines es s.number s.entry s.is_there) s.declares,
      turned full a.declared.name h.1,
    ))
    (same_kinds es full once)
