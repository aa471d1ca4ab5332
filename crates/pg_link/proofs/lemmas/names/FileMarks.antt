-- Masks of files: which indices they mark, and what one import adds.
use Rattle.std.proofs.Common.{◌≡◌, ◌∙◌, ℕ, zero, suc, ◌<◌, ◌+◌, Bool, true, false, ◌||◌, cond, List, [], ◌∷◌, ◌++◌, map, flat_map, take, reverse, length, get_or, slice_index_or, append_assoc, slice_get, refl, sym, ap, subst, true≢false, nat_eq, arith, Some, None, is_some, String, string_bytes, position, rules}
use Rattle.std.proofs.Math.ListN.{set}
use Rattle.std.proofs.lemmas.Bool.{lt-ltb, eq-eqb, ne_eqb, cases_lt, or_parts, or_right}
use Rattle.std.proofs.lemmas.Bool.Decides.{Decides-eqb}
use Rattle.std.proofs.lemmas.Grind.{flat_map-append, get_or-set_at}
use Rattle.std.proofs.lemmas.List.{get_or-set_other, take_more, map-append, map_more, append-nil, reverse-append}
use Rattle.std.proofs.lemmas.List.Folds.{list_any-append}
use Rattle.std.proofs.lemmas.Option.{slice_get_within, slice_get-map, same_Some}
use Rattle.std.specs.Global.{Global}
use Rattle.std.specs.List.{All, list_any, position_or_len}
use Rattle.std.specs.Map.{keys_of}
use Rattle.std.specs.Option.{option_map}
use Rattle.std.specs.Str.{bytes_eq}
use Rattle.pg_link.specs.declared.walk.imports.ImportLine as made
use Rattle.pg_link.specs.names.Files.{File, Import, Differ, is_path_of, paths_of, handed_on}
use Rattle.pg_link.specs.inner.Made.{line_of}
use Rattle.pg_link.specs.names.Names.{Text}
use Rattle.pg_link.specs.inner.VisibleFiles.{Marks, IsMask, AreHanded, AreNumbers, is_numbered, taken}
use Rattle.pg_link.specs.walk.Walk.{Entry, outline, outlines, path_of}
use Rattle.pg_link.proofs.lemmas.walk.PathLaws.{among_entries, any-reverse}
use Rattle.pg_link.proofs.lemmas.names.SameBytes.{same_text, text_same, differ_turned}

pub none_some : {X : Type 0} (x : X) → None ≡ Some x → ⊥
none_some x is = true≢false (sym (ap is_some is))

-- ---- the first that passes

pub step_true : {X : Type 0} (p : X → Bool) (x : X) (xs : List X) → p x ≡ true → position_or_len p (x ∷ xs) ≡ 0
step_true p x xs is = rw is refl

pub step_false : {X : Type 0} (p : X → Bool) (x : X) (xs : List X) → p x ≡ false → position_or_len p (x ∷ xs) ≡ suc (position_or_len p xs)
step_false p x xs is = rw is (omega arith)

pub record FirstAt {X : Type 0} (p : X → Bool) (xs : List X) (n : ℕ) : Type 0 where
  pub item : X
  pub before : position_or_len p xs < n
  pub is_there : slice_get xs (position_or_len p xs) ≡ Some item
  pub passes : p item ≡ true

first_by : {X : Type 0} (p : X → Bool) (x : X) (xs : List X) (n : ℕ) (b : Bool) → p x ≡ b → (list_any p (take n xs) ≡ true → FirstAt p xs n)
    → (b || list_any p (take n xs)) ≡ true → FirstAt p (x ∷ xs) (suc n)
first_by p x xs n b pass rest any = grind (arith, step_true, slice_get, step_false)

pub first_at : {X : Type 0} (p : X → Bool) (xs : List X) (n : ℕ) → list_any p (take n xs) ≡ true → FirstAt p xs n
first_at p [] zero any = absurd (true≢false (sym any))
first_at p [] (suc n) any = absurd (true≢false (sym any))
first_at p (x ∷ xs) zero any = absurd (true≢false (sym any))
first_at p (x ∷ xs) (suc n) any = first_by p x xs n (p x) refl (first_at p xs n) any

pub position_at : {X : Type 0} (p : X → Bool) (xs : List X) (n : ℕ) → FirstAt p xs n → position p xs ≡ Some (position_or_len p xs)
position_at p xs n f = rw (lt-ltb (position_or_len p xs) (length xs) (slice_get_within xs (position_or_len p xs) f.item f.is_there)) refl

-- ---- the number of a file

keys_take : {K V : Type 0} (es : List (K × V)) (n : ℕ) → keys_of (take n es) ≡ take n (keys_of es)
keys_take [] zero = refl
keys_take [] (suc n) = refl
keys_take (e ∷ es) zero = refl
keys_take (e ∷ es) (suc n) = ap (λ l. e.0 ∷ l) (keys_take es n)

abbrev pub key_is : Text → String Global → Bool
key_is path key = bytes_eq path (string_bytes key)

entry_at : (es : List Entry) (i : ℕ) (key : String Global) → slice_get (keys_of es) i ≡ Some key → (e : Entry) × (slice_get es i ≡ Some e) × (e.0 ≡ key)
entry_at [] i key at = absurd (none_some key at)
entry_at (e ∷ es) zero key at = (e, refl, same_Some e.0 key at)
entry_at (e ∷ es) (suc i) key at = entry_at es i key at

-- a path among the first files is that of one of them
pub record NumberOf (es : List Entry) (n : ℕ) (path : Text) : Type 0 where
  pub number : ℕ
  pub entry : Entry
  pub is_number : position (key_is path) (keys_of es) ≡ Some number
  pub before : number < n
  pub is_there : slice_get es number ≡ Some entry
  pub has_path : path_of entry ≡ path

pub number_of : (es : List Entry) (n : ℕ) (path : Text) → is_path_of (paths_of (outlines (take n es))) path ≡ true → NumberOf es n path
number_of es n path has =
    let f = first_at (key_is path) (keys_of es) n (ap (list_any (key_is path)) (sym (keys_take es n)) ∙ (sym (among_entries path (take n es)) ∙ has)) in
    let e = entry_at es (position_or_len (key_is path) (keys_of es)) f.item f.is_there in
    record {
      number = position_or_len (key_is path) (keys_of es);
      entry = e.0;
      is_number = position_at (key_is path) (keys_of es) n f;
      before = f.before;
      is_there = e.1;
      has_path = ap string_bytes e.2 ∙ sym (same_text path (string_bytes f.item) f.passes);
    }

-- ---- numbers of files

-- a number is none of those that are below it
pub none_beyond : (numbers : List ℕ) (k : ℕ) → All (λ n. n < k) numbers → is_numbered numbers k ≡ false
none_beyond [] k below = refl
none_beyond (n ∷ numbers) k below =
    let less : n < k = below 0 n (omega arith) in
    let other : nat_eq k n ≡ false = ne_eqb k n (λ (same : k ≡ n). omega (arith, same, less)) in
    rw other (none_beyond numbers k (λ j d within. below (suc j) d (omega (arith, within))))

numbered_push : (numbers : List ℕ) (n k : ℕ) → is_numbered (numbers ++ n ∷ []) k ≡ (is_numbered numbers k || (nat_eq k n || false))
numbered_push numbers n k = list_any-append (nat_eq k) numbers (n ∷ [])

or_none : (a b : Bool) → b ≡ false → (a || (b || false)) ≡ a
or_none a b is = grind arith

or_last : (a b : Bool) → b ≡ true → (a || (b || false)) ≡ true
or_last a b is = grind arith

-- the marks of the numbers so far, and of one more
pub one_more_mark : (old mid : List Bool) (numbers : List ℕ) (i n : ℕ) → i < length numbers → n ≡ get_or numbers i 0 → n < length mid
    → ((k : ℕ) → get_or mid k false ≡ (get_or old k false || is_numbered (take i numbers) k))
    → (k : ℕ) → get_or (set mid n true) k false ≡ (get_or old k false || is_numbered (take (i + 1) numbers) k)
one_more_mark old mid numbers i n inside is within so_far k = by (nat_eq k n) refl
  where
    whole : is_numbered (take (i + 1) numbers) k ≡ (is_numbered (take i numbers) k || (nat_eq k n || false))
    whole =
        ap (λ (l : List ℕ). is_numbered l k) (take_more numbers i 0 inside ∙ ap (λ (m : ℕ). take i numbers ++ m ∷ []) (sym is)) ∙ numbered_push (take i numbers) n k

    by : (b : Bool) → nat_eq k n ≡ b → get_or (set mid n true) k false ≡ (get_or old k false || is_numbered (take (i + 1) numbers) k)
    by true same = search (rules, Decides-eqb, get_or-set_at, or_right, whole, or_last)
    by false other = search (rules, get_or-set_other, true≢false, eq-eqb, whole, or_none)

-- the numbers of the marks so far, where the next is set
pub one_more_number : (marks : List Bool) (numbers : List ℕ) (i : ℕ) → get_or marks i false ≡ true
    → ((k : ℕ) → k < i → is_numbered numbers k ≡ get_or marks k false) → (k : ℕ) → k < i + 1 → is_numbered (numbers ++ i ∷ []) k ≡ get_or marks k false
one_more_number marks numbers i marked so_far k within = search (rules, cases_lt, numbered_push, or_none, ne_eqb, or_last, eq-eqb)

-- and where it isn't
pub no_more_number : (marks : List Bool) (numbers : List ℕ) (i : ℕ) → get_or marks i false ≡ false → All (λ n. n < i) numbers
    → ((k : ℕ) → k < i → is_numbered numbers k ≡ get_or marks k false) → (k : ℕ) → k < i + 1 → is_numbered numbers k ≡ get_or marks k false
no_more_number marks numbers i unmarked below so_far k within = search (rules, cases_lt, none_beyond)

pub below_more : (numbers : List ℕ) (i : ℕ) → All (λ n. n < i) numbers → All (λ n. n < i + 1) numbers
below_more numbers i below = λ k d within. let less = below k d within in omega (arith, less)

pub numbers_are : (es : List Entry) (paths : List Text) (marks : List Bool) (numbers : List ℕ) → IsMask es paths marks → All (λ n. n < length marks) numbers
    → ((k : ℕ) → k < length marks → is_numbered numbers k ≡ get_or marks k false) → AreNumbers es paths numbers
numbers_are es paths marks numbers mask within each = search (rules, slice_get_within)

-- ---- what an import adds

pub import_numbers : (es : List Entry) (handed : List (List ℕ)) (path : Text) (number : ℕ) (numbers : List ℕ) → AreHanded es handed
    → (e : Entry) × (slice_get es number ≡ Some e) × (path_of e ≡ path) → slice_get handed number ≡ Some numbers → AreNumbers es (handed_on (outlines es) path) numbers
import_numbers es handed path number numbers ready (e, there, is) at = search rules

pub marks_both : (es : List Entry) (ps qs : List Text) (old : List Bool) (numbers : List ℕ) (new : List Bool) → Marks es ps old → AreNumbers es qs numbers
    → ((k : ℕ) → get_or new k false ≡ (get_or old k false || is_numbered numbers k)) → Marks es (ps ++ qs) new
marks_both es ps qs old numbers new first second both = search (rules, list_any-append)

-- ---- the imports that count

taken_append : (all : Bool) (xs ys : List Import) → taken all (xs ++ ys) ≡ taken all xs ++ taken all ys
taken_append true xs ys = map-append (λ (l : Import). l.path) xs ys
taken_append false [] ys = refl
taken_append false (x ∷ xs) ys = search (rules, taken_append false xs ys)

taken_one : (all : Bool) (l : Import) → taken all (l ∷ []) ≡ cond (all || l.is_public) (l.path ∷ []) []
taken_one all l = grind arith

pub untaken : (es : List Entry) (ps : List Text) (marks : List Bool) (all : Bool) (l : Import) → false ≡ (all || l.is_public) → Marks es ps marks
    → Marks es (ps ++ flat_map (handed_on (outlines es)) (taken all (l ∷ []))) marks
untaken es ps marks all l is marked = search (rules, taken_one, flat_map, append-nil)

pub taken_line : (es : List Entry) (ps : List Text) (marks : List Bool) (all : Bool) (l : Import) (path : Text) → true ≡ (all || l.is_public) → path ≡ l.path
    → Marks es (ps ++ handed_on (outlines es) path) marks → Marks es (ps ++ flat_map (handed_on (outlines es)) (taken all (l ∷ []))) marks
taken_line es ps marks all l path is same marked = search (rules, taken_one, flat_map, append-nil)

pub one_more_line : (h : Text → List Text) (all : Bool) (ps : List Text) (lines : List made.ImportLine) (i : ℕ) (x : made.ImportLine) → i < length lines
    → x ≡ slice_index_or lines i x
    → (ps ++ flat_map h (taken all (map line_of (take i lines)))) ++ flat_map h (taken all (line_of x ∷ [])) ≡ ps ++ flat_map h (taken all (map line_of (take (i + 1) lines)))
one_more_line h all ps lines i x inside is =
    let front = taken all (map line_of (take i lines)) in
    let more : map line_of (take (i + 1) lines) ≡ map line_of (take i lines) ++ line_of x ∷ [] =
    map_more line_of lines i x inside ∙ ap (λ y. map line_of (take i lines) ++ line_of y ∷ []) (sym is) in
    let whole : taken all (map line_of (take (i + 1) lines)) ≡ front ++ taken all (line_of x ∷ []) =
    ap (taken all) more ∙ taken_append all (map line_of (take i lines)) (line_of x ∷ []) in
    append_assoc ps (flat_map h front) (flat_map h (taken all (line_of x ∷ [])))
    ∙ ap (λ l. ps ++ l) (sym (flat_map-append h front (taken all (line_of x ∷ []))) ∙ ap (flat_map h) (sym whole))

-- ---- a file's own mark

apart_split : (ys : List Text) (x : Text) → Differ (ys ++ x ∷ []) → Differ ys × (is_path_of ys x ≡ false)
apart_split [] x d = (tt, refl)
apart_split (y ∷ ys) x d = search (rules, or_parts, list_any-append, differ_turned, apart_split ys x d.1)

pub apart_reverse : (xs : List Text) → Differ (reverse xs) → Differ xs
apart_reverse [] d = tt
apart_reverse (x ∷ xs) d =
    let h = apart_split (reverse xs) x (subst Differ (reverse-append (x ∷ []) xs) d) in
    (sym (any-reverse (bytes_eq x) xs) ∙ h.1, apart_reverse xs h.0)

pub paths_are : (es : List Entry) → paths_of (outlines es) ≡ reverse (map path_of es)
paths_are [] = refl
paths_are (e ∷ es) =
    ap paths_of (reverse-append (outline e ∷ []) (map outline es)) ∙ (map-append (λ (f : File). f.path) (reverse (map outline es)) (outline e ∷ [])
    ∙ (ap (λ l. l ++ path_of e ∷ []) (paths_are es) ∙ sym (reverse-append (path_of e ∷ []) (map path_of es))))

there_at : (ps : List Text) (i : ℕ) (p : Text) → slice_get ps i ≡ Some p → is_path_of ps p ≡ true
there_at [] i p at = absurd (none_some p at)
there_at (q ∷ ps) zero p at = rw (text_same p q (sym (same_Some q p at))) refl
there_at (q ∷ ps) (suc i) p at = or_right (bytes_eq p q) (is_path_of ps p) (there_at ps i p at)

distinct_at : (ps : List Text) → Differ ps → (i j : ℕ) (p : Text) → slice_get ps i ≡ Some p → slice_get ps j ≡ Some p → i ≡ j
distinct_at [] d i j p at there = absurd (none_some p at)
distinct_at (q ∷ ps) d zero zero p at there = refl
distinct_at (q ∷ ps) d zero (suc j) p at there = search (rules, true≢false, there_at, same_Some)
distinct_at (q ∷ ps) d (suc i) zero p at there = search (rules, true≢false, there_at, same_Some)
distinct_at (q ∷ ps) d (suc i) (suc j) p at there = ap (λ (n : ℕ). suc n) (distinct_at ps d.1 i j p at there)

-- files of one path are one
pub same_number : (es : List Entry) → Differ (paths_of (outlines es)) → (i j : ℕ) (a b : Entry) → slice_get es i ≡ Some a → slice_get es j ≡ Some b
    → path_of a ≡ path_of b → i ≡ j
same_number es d i j a b at there same =
    let apart : Differ (map path_of es) = apart_reverse (map path_of es) (subst Differ (paths_are es) d) in
    distinct_at (map path_of es) apart i j (path_of b)
    (slice_get-map path_of es i ∙ (ap (option_map path_of) at ∙ ap (λ (t : Text). Some t) same)) (slice_get-map path_of es j ∙ ap (option_map path_of) there)

own_by : (es : List Entry) → Differ (paths_of (outlines es)) → (i own : ℕ) (a b : Entry) → slice_get es i ≡ Some a → slice_get es own ≡ Some b
    → (c : Bool) → bytes_eq (path_of a) (path_of b) ≡ c → nat_eq i own ≡ (c || false)
own_by es d i own a b at there c is = grind (arith, eq-eqb, same_number, same_text, ne_eqb, true≢false, text_same, same_Some, slice_get)

pub own_marks : (es : List Entry) (own : ℕ) (e : Entry) (marks : List Bool) → Differ (paths_of (outlines es)) → slice_get es own ≡ Some e
    → ((k : ℕ) → get_or marks k false ≡ nat_eq k own) → Marks es (path_of e ∷ []) marks
own_marks es own e marks d there one = λ i a at. one i ∙ own_by es d i own a e at there (bytes_eq (path_of a) (path_of e)) refl

-- a file that hands on itself alone
pub own_number : (es : List Entry) (own : ℕ) (e : Entry) (paths : List Text) → Differ (paths_of (outlines es)) → slice_get es own ≡ Some e → paths ≡ []
    → AreNumbers es (path_of e ∷ flat_map (handed_on (outlines es)) paths) (own ∷ [])
own_number es own e paths d there none = search (rules, flat_map, slice_get_within, own_by)
