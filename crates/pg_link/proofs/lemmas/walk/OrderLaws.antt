-- Files of which each is before those that it imports: none is on a circle.
use Rattle.std.proofs.Common.{◌≡◌, ◌∙◌, ℕ, zero, suc, ◌<◌, ◌+◌, Bool, true, false, ◌||◌, cond, List, [], ◌∷◌, ◌++◌, refl, sym, ap, subst, true≢false, arith, rules}
use Rattle.std.proofs.lemmas.Bool.{or_left, or_parts, or_right}
use Rattle.std.proofs.lemmas.List.Folds.{list_any-append}
use Rattle.std.proofs.lemmas.Slice.Eq.{bytes_eq-Decides}
use Rattle.std.specs.List.{list_any, All, IsAmong}
use Rattle.std.specs.Str.{bytes_eq}
use Rattle.pg_link.specs.names.Files.{File, Import, Imports, Leads, Next, Further, HasNoCycle, InOrder, Differ, is_path_of, paths_of, import_paths}
use Rattle.pg_link.specs.names.Names.{Text}
use Rattle.pg_link.proofs.lemmas.names.SameBytes.{text_same, differ_turned}

-- one of the elements makes the test pass
pub passes_at : {X : Type 0} (test : X → Bool) (xs : List X) (x : X) → IsAmong xs x → test x ≡ true → list_any test xs ≡ true
passes_at test [] x (i, (within, is)) pass = absurd (omega (arith, within))
passes_at test (y ∷ ys) x (zero, (within, is)) pass = or_left (test y) (list_any test ys) (subst (λ z. test z ≡ true) is pass)
passes_at test (y ∷ ys) x (suc i, (within, is)) pass = or_right (test y) (list_any test ys) (passes_at test ys x (i, (omega (arith, within), is)) pass)

any_paths : (test : Text → Bool) (files : List File) → list_any test (paths_of files) ≡ list_any (λ f. test f.path) files
any_paths test [] = refl
any_paths test (f ∷ files) = ap (λ b. test f.path || b) (any_paths test files)

is_there : (files : List File) (file : File) (path : Text) → IsAmong files file → file.path ≡ path → is_path_of (paths_of files) path ≡ true
is_there files file path among is =
    any_paths (bytes_eq path) files ∙ passes_at (λ (f : File). bytes_eq path f.path) files file among (text_same path file.path (sym is))

-- what holds of the paths of imports holds of the path of a line
line_in : (P : Text → Type 0) (lines : List Import) (line : Import) → All P (import_paths lines) → IsAmong lines line → P line.path
line_in P [] line all (i, (within, is)) = absurd (omega (arith, within))
line_in P (l ∷ lines) line all (zero, (within, is)) = subst P (ap (λ (x : Import). x.path) (sym is)) (all 0 [] (omega arith))
line_in P (l ∷ lines) line all (suc i, (within, is)) = line_in P lines line (λ k d inside. all (suc k) d (omega (arith, inside))) (i, (omega (arith, within), is))

-- what a file imports comes after it
imported : (files : List File) → InOrder files → (file : File) (line : Import) → IsAmong files file → IsAmong file.imports line
    → is_path_of (paths_of files) line.path ≡ true
imported [] order file line (i, (within, is)) has = absurd (omega (arith, within))
imported (f ∷ files) order file line (zero, (within, is)) has =
    or_right (bytes_eq line.path f.path) (is_path_of (paths_of files) line.path)
    (line_in (λ p. is_path_of (paths_of files) p ≡ true) f.imports line order.0 (subst (λ (x : File). IsAmong x.imports line) is has))
imported (f ∷ files) order file line (suc i, (within, is)) has = search (rules, or_right, imported files order.2 file line (i, (omega (arith, within), is)) has)

-- how far after the first file a path is
abbrev behind : List File → Text → ℕ
behind [] path = 0
behind (f ∷ files) path = cond (bytes_eq path f.path) 0 (behind files path + 1)

-- a path that is among the files isn't that of one before them
other_by : (b : Bool) (files : List File) (path first : Text) → bytes_eq path first ≡ b → is_path_of (paths_of files) path ≡ true
    → is_path_of (paths_of files) first ≡ false → bytes_eq path first ≡ false
other_by b files path first same has none = grind (arith, true≢false, bytes_eq-Decides)

other : (files : List File) (path first : Text) → is_path_of (paths_of files) path ≡ true → is_path_of (paths_of files) first ≡ false → bytes_eq path first ≡ false
other files path first has none = other_by (bytes_eq path first) files path first refl has none

first_before : (p q : Bool) (m n : ℕ) → p ≡ true → q ≡ false → cond p 0 (m + 1) < cond q 0 (n + 1)
first_before p q m n is none = grind (arith, true≢false)

both_later : (p q : Bool) (m n : ℕ) → p ≡ false → q ≡ false → m < n → cond p 0 (m + 1) < cond q 0 (n + 1)
both_later p q m n is none less = grind (arith, true≢false)

goes_back : (files : List File) → InOrder files → Differ (paths_of files) → (path other : Text) (file : File) (line : Import)
    → IsAmong files file → IsAmong file.imports line → file.path ≡ path → line.path ≡ other → behind files path < behind files other
goes_back [] order apart path next file line (i, (within, is)) has from to = absurd (omega (arith, within))
goes_back (f ∷ files) order apart path next file line (zero, (within, is)) has from to =
    let here : IsAmong f.imports line = subst (λ (x : File). IsAmong x.imports line) is has in
    let there : is_path_of (paths_of files) next ≡ true =
    subst (λ (p : Text). is_path_of (paths_of files) p ≡ true) to (line_in (λ p. is_path_of (paths_of files) p ≡ true) f.imports line order.0 here) in
    first_before (bytes_eq path f.path) (bytes_eq next f.path) (behind files path) (behind files next)
    (text_same path f.path (sym from ∙ ap (λ (x : File). x.path) is)) (other files next f.path there apart.0)
goes_back (f ∷ files) order apart path next file line (suc i, (within, is)) has from to =
    let among : IsAmong files file = (i, (omega (arith, within), is)) in
    let there : is_path_of (paths_of files) next ≡ true =
    subst (λ (p : Text). is_path_of (paths_of files) p ≡ true) to (imported files order.2 file line among has) in
    both_later (bytes_eq path f.path) (bytes_eq next f.path) (behind files path) (behind files next)
    (other files path f.path (is_there files file path among from) apart.0) (other files next f.path there apart.0)
    (goes_back files order.2 apart.1 path next file line among has from to)

back_by : (files : List File) → InOrder files → Differ (paths_of files) → (path next : Text) → Imports files path next → behind files path < behind files next
back_by files order apart path next i = goes_back files order apart path next i.file i.line i.is_there i.has_line i.from_path i.to_other

leads_back : (files : List File) → InOrder files → Differ (paths_of files) → (path next : Text) → Leads files path next → behind files path < behind files next
leads_back files order apart path next (Next i) = back_by files order apart path next i
leads_back files order apart path next (Further {next = mid} i l) = search (rules, back_by, leads_back files order apart mid next l)

pub no_cycle : (files : List File) → InOrder files → Differ (paths_of files) → HasNoCycle files
no_cycle files order apart = λ path leads. absurd (omega (arith, leads_back files order apart path path leads))

-- ---- lists of which no element is there twice

pub apart_more : (xs : List Text) (x : Text) → Differ xs → is_path_of xs x ≡ false → Differ (xs ++ x ∷ [])
apart_more [] x apart none = (refl, tt)
apart_more (y ∷ ys) x apart none = search (rules, list_any-append, differ_turned, or_parts, other, true≢false, apart_more ys x apart.1 (or_parts (bytes_eq x y) (is_path_of ys x) none).1)
