-- The masks of all files, one by one.
use Rattle.std.proofs.Common.{◌≡◌, ◌∙◌, ◌⊎◌, inl, inr, ℕ, zero, suc, ◌<◌, Bool, true, false, List, [], ◌∷◌, ◌++◌, map, flat_map, take, drop, reverse, length, slice_get, slice_index_or, append_assoc, refl, sym, ap, subst, arith, Some, Vec, rules}
use Rattle.std.proofs.lemmas.List.{length-map, map-append, reverse-append}
use Rattle.std.proofs.lemmas.Option.{same_Some}
use Rattle.std.specs.Global.{Global}
use Rattle.std.specs.List.{All, IsAmong}
use Rattle.pg_link.specs.declared.walk.imports.ImportLine as made
use Rattle.pg_link.specs.names.Files.{File, Import, InOrder, Differ, is_path_of, paths_of, import_paths, handed_on, seen_paths}
use Rattle.pg_link.specs.inner.Made.{line_of}
use Rattle.pg_link.specs.names.Names.{Text}
use Rattle.pg_link.specs.names.Outline.{file_imports}
use Rattle.pg_link.specs.inner.VisibleFiles.{IsMask, AreMasks, AreNumbers, AreHanded, AreVisibleFiles, taken}
use Rattle.pg_link.specs.walk.Walk.{Entry, outline, outlines, path_of}
use Rattle.pg_link.proofs.lemmas.names.FileMarks.{none_some}
use Rattle.pg_link.proofs.lemmas.names.VisibleLaws.{Each, each_of, first_among, later_among, handed_on_is, seen_paths_is}

-- ---- lists

pub push_cases : {X : Type 0} (xs : List X) (x : X) (i : ℕ) (y : X) → slice_get (xs ++ x ∷ []) i ≡ Some y
    → (slice_get xs i ≡ Some y) ⊎ ((i ≡ length xs) × (x ≡ y))
push_cases [] x zero y at = inr (refl, same_Some x y at)
push_cases [] x (suc i) y at = absurd (none_some y at)
push_cases (z ∷ xs) x zero y at = inl at
push_cases (z ∷ xs) x (suc i) y at = search (rules, slice_get, push_cases xs x i y at)

pub split_get : {X : Type 0} (xs : List X) (i : ℕ) (x : X) → slice_get xs i ≡ Some x → xs ≡ take i xs ++ x ∷ drop (suc i) xs
split_get [] i x at = absurd (none_some x at)
split_get (y ∷ ys) zero x at = ap (λ z. z ∷ ys) (same_Some y x at)
split_get (y ∷ ys) (suc i) x at = ap (λ l. y ∷ l) (split_get ys i x at)

pub among_middle : {X : Type 0} (xs : List X) (x : X) (ys : List X) → IsAmong (xs ++ x ∷ ys) x
among_middle [] x ys = first_among x ys
among_middle (z ∷ xs) x ys = later_among z (xs ++ x ∷ ys) x (among_middle xs x ys)

all_at : {X : Type 0} (P : X → Type 0) (x : X) (xs : List X) → P x → All P xs → (k : ℕ) (d : X) → k < length (x ∷ xs) → P (slice_index_or (x ∷ xs) k d)
all_at P x xs first rest k d within = grind arith

all_of_each : {X : Type 0} (P : X → Type 0) (xs : List X) → Each P xs → All P xs
all_of_each P [] each = λ k d within. absurd (omega (arith, within))
all_of_each P (x ∷ xs) each = all_at P x xs each.0 (all_of_each P xs each.1)

each_unmap : {X Y : Type 0} (P : Y → Type 0) (f : X → Y) (xs : List X) → Each P (map f xs) → Each (λ x. P (f x)) xs
each_unmap P f [] each = tt
each_unmap P f (x ∷ xs) each = (each.0, each_unmap P f xs each.1)

-- ---- one file among others

-- the files that come after it, and those that it may import
pub split_outlines : (es : List Entry) (i : ℕ) (e : Entry) → slice_get es i ≡ Some e
    → outlines es ≡ reverse (map outline (drop (suc i) es)) ++ outline e ∷ outlines (take i es)
split_outlines es i e at =
    let front = map outline (take i es) in
    let back = map outline (drop (suc i) es) in
    ap outlines (split_get es i e at) ∙ (ap reverse (map-append outline (take i es) (e ∷ drop (suc i) es))
    ∙ (reverse-append front (outline e ∷ back) ∙ (ap (λ l. l ++ reverse front) (reverse-append (outline e ∷ []) back)
    ∙ append_assoc (reverse back) (outline e ∷ []) (reverse front))))

pub among_outlines : (es : List Entry) (i : ℕ) (e : Entry) → slice_get es i ≡ Some e → IsAmong (outlines es) (outline e)
among_outlines es i e at =
    subst (λ (fs : List File). IsAmong fs (outline e)) (sym (split_outlines es i e at))
    (among_middle (reverse (map outline (drop (suc i) es))) (outline e) (outlines (take i es)))

order_behind : (xs : List File) (f : File) (ys : List File) → InOrder (xs ++ f ∷ ys) → InOrder (f ∷ ys)
order_behind [] f ys order = order
order_behind (x ∷ xs) f ys order = order_behind xs f ys order.2

-- what a file imports is among the files before it
pub lines_there : (es : List Entry) (i : ℕ) (e : Entry) (lines : List made.ImportLine) → InOrder (outlines es) → slice_get es i ≡ Some e
    → map line_of lines ≡ file_imports e.1.tree → All (λ l. is_path_of (paths_of (outlines (take i es))) (line_of l).path ≡ true) lines
lines_there es i e lines order at own =
    let P = λ (p : Text). is_path_of (paths_of (outlines (take i es))) p ≡ true in
    let here = order_behind (reverse (map outline (drop (suc i) es))) (outline e) (outlines (take i es)) (subst InOrder (split_outlines es i e at) order) in
    let each : Each P (import_paths (map line_of lines)) = subst (λ (ls : List Import). Each P (import_paths ls)) (sym own) (each_of P (import_paths (file_imports e.1.tree)) here.0) in
    all_of_each (λ (l : made.ImportLine). P (line_of l).path) lines
    (each_unmap (λ (l : Import). P l.path) line_of lines (each_unmap P (λ (l : Import). l.path) (map line_of lines) each))

-- ---- one more mask

-- what holds of each of the first files with its own, and of one more, holds of all these
more_by : {X : Type 0} (P : Entry → X → Type 0) (es : List Entry) (xs : List X) (x : X) (i : ℕ) (y : X) (e : Entry)
    → ((j : ℕ) (z : X) (a : Entry) → slice_get xs j ≡ Some z → slice_get es j ≡ Some a → P a z) → ((a : Entry) → slice_get es (length xs) ≡ Some a → P a x)
    → slice_get es i ≡ Some e → (slice_get xs i ≡ Some y) ⊎ ((i ≡ length xs) × (x ≡ y)) → P e y
more_by P es xs x i y e before here there h11 = grind (arith, slice_get)

pub masks_more : (es : List Entry) (paths : Text → List Text) (masks : List (List Bool)) (m : List Bool) → AreMasks es paths masks
    → ((a : Entry) → slice_get es (length masks) ≡ Some a → IsMask es (paths (path_of a)) m) → AreMasks es paths (masks ++ m ∷ [])
masks_more es paths masks m before here = λ i marks e at there.
    more_by (λ (a : Entry) (l : List Bool). IsMask es (paths (path_of a)) l) es masks m i marks e before here there (push_cases masks m i marks at)

numbers_more : (es : List Entry) (handed : List (List ℕ)) (own : List ℕ) → AreHanded es handed
    → ((a : Entry) → slice_get es (length handed) ≡ Some a → AreNumbers es (handed_on (outlines es) (path_of a)) own) → AreHanded es (handed ++ own ∷ [])
numbers_more es handed own before here = search (rules, more_by, push_cases)

pub handed_numbers : (es : List Entry) (i : ℕ) (e : Entry) (lines : List made.ImportLine) (numbers : List ℕ) → InOrder (outlines es) → Differ (paths_of (outlines es))
    → slice_get es i ≡ Some e → map line_of lines ≡ file_imports e.1.tree
    → AreNumbers es (path_of e ∷ flat_map (handed_on (outlines es)) (taken false (map line_of lines))) numbers → AreNumbers es (handed_on (outlines es) (path_of e)) numbers
handed_numbers es i e lines numbers order apart at own theirs = search (rules, flat_map, handed_on_is, among_outlines)

pub seen_mask : (es : List Entry) (i : ℕ) (e : Entry) (lines : List made.ImportLine) (marks : List Bool) → InOrder (outlines es) → Differ (paths_of (outlines es))
    → slice_get es i ≡ Some e → map line_of lines ≡ file_imports e.1.tree
    → IsMask es (path_of e ∷ flat_map (handed_on (outlines es)) (taken true (map line_of lines))) marks → IsMask es (seen_paths (outlines es) (path_of e)) marks
seen_mask es i e lines marks order apart at own mask = search (rules, flat_map, seen_paths_is, among_outlines)

abbrev pub Mask : Type 0
Mask = Vec Bool Global

abbrev pub marks_in : Mask → List Bool
marks_in m = m.items

abbrev pub Numbers : Type 0
Numbers = Vec ℕ Global

abbrev pub numbers_in : Numbers → List ℕ
numbers_in v = v.items

-- ---- one file more

pub there_of : (es : List Entry) (i count : ℕ) (e : Entry) (lines shown : List made.ImportLine) → InOrder (outlines es) → slice_get es i ≡ Some e
    → map line_of lines ≡ file_imports e.1.tree → shown ≡ lines → count ≡ i
    → All (λ l. is_path_of (paths_of (outlines (take count es))) (line_of l).path ≡ true) shown
there_of es i count e lines shown order at own same number = search (rules, lines_there)

its_imports : (es : List Entry) (i : ℕ) (e a : Entry) (lines shown : List made.ImportLine) → slice_get es i ≡ Some e → slice_get es i ≡ Some a
    → map line_of lines ≡ file_imports e.1.tree → shown ≡ lines → map line_of shown ≡ file_imports a.1.tree
its_imports es i e a lines shown at there own same = search (rules, same_Some)

-- the same number, counted by masks
counted : {X Y : Type 0} (f : X → Y) (es : List Entry) (old : List X) (i : ℕ) (a : Entry) → length old ≡ i → slice_get es (length (map f old)) ≡ Some a → slice_get es i ≡ Some a
counted f es old i a many at = subst (λ (n : ℕ). slice_get es n ≡ Some a) (length-map old f ∙ many) at

pub handed_more : (es : List Entry) (old new : List Numbers) (v : Numbers) (lines shown : List made.ImportLine) (count i : ℕ) (e : Entry)
    → InOrder (outlines es) → Differ (paths_of (outlines es)) → slice_get es i ≡ Some e → map line_of lines ≡ file_imports e.1.tree → shown ≡ lines
    → count ≡ i → length old ≡ i → new ≡ old ++ v ∷ [] → AreHanded es (map numbers_in old)
    → ((a : Entry) → slice_get es count ≡ Some a → AreNumbers es (path_of a ∷ flat_map (handed_on (outlines es)) (taken false (map line_of shown))) v.items)
    → AreHanded es (map numbers_in new)
handed_more es old new v lines shown count i e order apart at own same number many is before theirs =
    subst (AreHanded es) (sym (ap (map numbers_in) is ∙ map-append numbers_in old (v ∷ [])))
    (numbers_more es (map numbers_in old) v.items before (λ a there.
    let here : slice_get es i ≡ Some a = counted numbers_in es old i a many there in
    handed_numbers es i a shown v.items order apart here (its_imports es i e a lines shown at here own same)
    (theirs a (subst (λ (n : ℕ). slice_get es n ≡ Some a) (sym number) here))))

pub visible_more : (es : List Entry) (old new : List Mask) (v : Mask) (lines shown : List made.ImportLine) (count i : ℕ) (e : Entry)
    → InOrder (outlines es) → Differ (paths_of (outlines es)) → slice_get es i ≡ Some e → map line_of lines ≡ file_imports e.1.tree → shown ≡ lines
    → count ≡ i → length old ≡ i → new ≡ old ++ v ∷ [] → AreVisibleFiles es (map marks_in old)
    → ((a : Entry) → slice_get es count ≡ Some a → IsMask es (path_of a ∷ flat_map (handed_on (outlines es)) (taken true (map line_of shown))) v.items)
    → AreVisibleFiles es (map marks_in new)
visible_more es old new v lines shown count i e order apart at own same number many is before mask =
    subst (AreVisibleFiles es) (sym (ap (map marks_in) is ∙ map-append marks_in old (v ∷ [])))
    (masks_more es (seen_paths (outlines es)) (map marks_in old) v.items before (λ a there.
    let here : slice_get es i ≡ Some a = counted marks_in es old i a many there in
    seen_mask es i a shown v.items order apart here (its_imports es i e a lines shown at here own same)
    (mask a (subst (λ (n : ℕ). slice_get es n ≡ Some a) (sym number) here))))
