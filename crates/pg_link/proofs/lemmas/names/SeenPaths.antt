-- The paths that are computed are those that are visible in a file, and no others.
use Rattle.std.proofs.Common.{◌≡◌, ◌∙◌, inl, inr, zero, suc, Bool, true, false, ◌||◌, cond, List, [], ◌∷◌, map, flat_map, refl, sym, ap, subst, true≢false, arith, rules}
use Rattle.std.proofs.lemmas.Bool.{or_left, or_right}
use Rattle.std.specs.List.{list_any, IsAmong}
use Rattle.std.specs.Str.{bytes_eq}
use Rattle.pg_link.specs.names.Files.{File, Import, Imports, HandsOn, Itself, Onwards, Sees, InOrder, Differ, is_path_of, paths_of, import_paths, public_paths, handed_on, seen_paths, SeesThese}
use Rattle.pg_link.specs.names.Names.{Text}
use Rattle.pg_link.proofs.lemmas.names.SameBytes.{same_text, text_same}
use Rattle.pg_link.proofs.lemmas.names.VisibleLaws.{each_at, first_among, later_among, any_found, any_at, any_flat, imports_there, handed_on_is, seen_paths_is}

-- ---- lists

pub map_among : {X Y : Type 0} (f : X → Y) (xs : List X) (x : X) → IsAmong xs x → IsAmong (map f xs) (f x)
map_among f [] x (i, (within, is)) = absurd (omega (arith, within))
map_among f (y ∷ ys) x (zero, (within, is)) = (zero, (omega arith, ap f is))
map_among f (y ∷ ys) x (suc i, (within, is)) = later_among (f y) (map f ys) (f x) (map_among f ys x (i, (omega (arith, within), is)))

pub among_map : {X Y : Type 0} (f : X → Y) (xs : List X) (y : Y) → IsAmong (map f xs) y → (x : X) × IsAmong xs x × (f x ≡ y)
among_map f [] y (i, (within, is)) = absurd (omega (arith, within))
among_map f (x ∷ xs) y (zero, (within, is)) = (x, first_among x xs, sym is)
among_map f (x ∷ xs) y (suc i, (within, is)) = search (rules, later_among, among_map f xs y (i, (omega (arith, within), is)))

-- the file of a path
pub file_of : (files : List File) (path : Text) → is_path_of (paths_of files) path ≡ true → (file : File) × IsAmong files file × (file.path ≡ path)
file_of files path has =
    let p = any_found (bytes_eq path) (paths_of files) has in
    let f = among_map (λ (x : File). x.path) files p.0 p.1 in
    (f.0, f.1, f.2 ∙ sym (same_text path p.0 p.2))

-- ---- public imports

abbrev PublicLine : List Import → Text → Type 0
PublicLine lines next = (line : Import) × IsAmong lines line × (line.is_public ≡ true) × (line.path ≡ next)

line_later : (l : Import) (lines : List Import) (next : Text) → PublicLine lines next → PublicLine (l ∷ lines) next
line_later l lines next h = (h.0, later_among l lines h.0 h.1, h.2, h.3)

line_by : (l : Import) (lines : List Import) (next : Text) (b : Bool) → l.is_public ≡ b → (IsAmong (public_paths lines) next → PublicLine lines next)
    → IsAmong (cond b (l.path ∷ public_paths lines) (public_paths lines)) next → PublicLine (l ∷ lines) next
line_by l lines next b is rest among = grind (arith, first_among, line_later)

-- a public path is that of a public line
line_of : (lines : List Import) (next : Text) → IsAmong (public_paths lines) next → PublicLine lines next
line_of [] next (i, (within, is)) = absurd (omega (arith, within))
line_of (l ∷ lines) next among = line_by l lines next l.is_public refl (line_of lines next) among

public_by : (l : Import) (lines : List Import) (b : Bool) (path : Text) → IsAmong (public_paths lines) path → IsAmong (cond b (l.path ∷ public_paths lines) (public_paths lines)) path
public_by l lines true path among = later_among l.path (public_paths lines) path among
public_by l lines false path among = among

first_public : (l : Import) (lines : List Import) (b : Bool) → b ≡ true → IsAmong (cond b (l.path ∷ public_paths lines) (public_paths lines)) l.path
first_public l lines b is = grind (arith, first_among, true≢false)

-- and the other way round
public_among : (lines : List Import) (line : Import) → IsAmong lines line → line.is_public ≡ true → IsAmong (public_paths lines) line.path
public_among [] line (i, (within, is)) public = absurd (omega (arith, within))
public_among (l ∷ lines) line (zero, (within, is)) public = search (rules, first_public)
public_among (l ∷ lines) line (suc i, (within, is)) public = public_by l lines l.is_public line.path (public_among lines line (i, (omega (arith, within), is)) public)

-- ---- what is handed on

abbrev imports_more : (f : File) (files : List File) (path other : Text) → Imports files path other → Imports (f ∷ files) path other
imports_more f files path other i = record {
  file = i.file;
  line = i.line;
  is_there = later_among f files i.file i.is_there;
  has_line = i.has_line;
  from_path = i.from_path;
  to_other = i.to_other;
}

hands_more : (f : File) (files : List File) (path other : Text) → HandsOn files path other → HandsOn (f ∷ files) path other
hands_more f files path other Itself = Itself
hands_more f files path other (Onwards {next = next} public rest) =
    Onwards record { imports = imports_more f files path next public.imports; is_public = public.is_public } (hands_more f files next other rest)

-- what the first file hands on
first_hands : (f : File) (files : List File) (other : Text) → ((next : Text) → is_path_of (handed_on files next) other ≡ true → HandsOn files next other)
    → (b : Bool) → bytes_eq other f.path ≡ b → (b || list_any (bytes_eq other) (flat_map (handed_on files) (public_paths f.imports))) ≡ true → HandsOn (f ∷ files) f.path other
first_hands f files other rest true same is = subst (λ (p : Text). HandsOn (f ∷ files) f.path p) (sym (same_text other f.path same)) Itself
first_hands f files other rest false same is =
    let p = any_found (λ (n : Text). is_path_of (handed_on files n) other) (public_paths f.imports) (sym (any_flat (bytes_eq other) (handed_on files) (public_paths f.imports)) ∙ is) in
    let l = line_of f.imports p.0 p.1 in
    let imports : Imports (f ∷ files) f.path p.0 = record { file = f; line = l.0; is_there = first_among f files; has_line = l.1; from_path = refl; to_other = l.3 } in
    Onwards record { imports = imports; is_public = l.2 } (hands_more f files p.0 other (rest p.0 p.2))

sound_by : (f : File) (files : List File) (path other : Text) → ((next : Text) → is_path_of (handed_on files next) other ≡ true → HandsOn files next other)
    → (b : Bool) → bytes_eq f.path path ≡ b
    → is_path_of (cond b (path ∷ flat_map (handed_on files) (public_paths f.imports)) (handed_on files path)) other ≡ true → HandsOn (f ∷ files) path other
sound_by f files path other rest true same is = search (rules, same_text, first_hands, flat_map)
sound_by f files path other rest false same is = hands_more f files path other (rest path is)

pub handed_sound : (files : List File) (path other : Text) → is_path_of (handed_on files path) other ≡ true → HandsOn files path other
handed_sound [] path other is = absurd (true≢false (sym is))
handed_sound (f ∷ files) path other is = sound_by f files path other (λ next h. handed_sound files next other h) (bytes_eq f.path path) refl is

own_first : (files : List File) → InOrder files → Differ (paths_of files) → (file : File) → IsAmong files file → is_path_of (handed_on files file.path) file.path ≡ true
own_first files order apart file among = search (rules, handed_on_is, or_left, flat_map, text_same)

-- what one of these hands on is among all that they do
among_all : (files : List File) (first other next : Text) (nexts : List Text) → IsAmong nexts next → is_path_of (handed_on files next) other ≡ true
    → is_path_of (first ∷ flat_map (handed_on files) nexts) other ≡ true
among_all files first other next nexts among has =
    or_right (bytes_eq other first) (is_path_of (flat_map (handed_on files) nexts) other)
    (any_flat (bytes_eq other) (handed_on files) nexts ∙ any_at (λ (n : Text). is_path_of (handed_on files n) other) nexts next among has)

-- what a file imports is among the files
next_there : (files : List File) → InOrder files → (path next : Text) → Imports files path next → is_path_of (paths_of files) next ≡ true
next_there files order path next i =
    subst (λ (p : Text). is_path_of (paths_of files) p ≡ true) i.to_other
    (each_at (λ p. is_path_of (paths_of files) p ≡ true) (import_paths i.file.imports) i.line.path (imports_there files order i.file i.is_there)
    (map_among (λ (l : Import). l.path) i.file.imports i.line i.has_line))

pub handed_complete : (files : List File) → InOrder files → Differ (paths_of files) → (path other : Text) → is_path_of (paths_of files) path ≡ true
    → HandsOn files path other → is_path_of (handed_on files path) other ≡ true
handed_complete files order apart path other has Itself = search (rules, file_of, own_first)
handed_complete files order apart path other has (Onwards {next = next} public rest) =
    let i = public.imports in
    let there : is_path_of (paths_of files) next ≡ true = next_there files order path next i in
    let among : IsAmong (public_paths i.file.imports) next =
    subst (λ (p : Text). IsAmong (public_paths i.file.imports) p) i.to_other (public_among i.file.imports i.line i.has_line public.is_public) in
    subst (λ (p : Text). is_path_of (handed_on files p) other ≡ true) i.from_path
    (subst (λ (l : List Text). is_path_of l other ≡ true) (sym (handed_on_is files order apart i.file i.is_there))
    (among_all files i.file.path other next (public_paths i.file.imports) among (handed_complete files order apart next other there rest)))

-- ---- what is seen

seen_by : (files : List File) (file : File) (path other : Text) → IsAmong files file → file.path ≡ path → (b : Bool) → bytes_eq other file.path ≡ b
    → (b || list_any (bytes_eq other) (flat_map (handed_on files) (import_paths file.imports))) ≡ true → Sees files path other
seen_by files file path other among from true same is = inl (sym from ∙ sym (same_text other file.path same))
seen_by files file path other among from false same is =
    let p = any_found (λ (n : Text). is_path_of (handed_on files n) other) (import_paths file.imports) (sym (any_flat (bytes_eq other) (handed_on files) (import_paths file.imports)) ∙ is) in
    let l = among_map (λ (x : Import). x.path) file.imports p.0 p.1 in
    let imports : Imports files path p.0 = record { file = file; line = l.0; is_there = among; has_line = l.1; from_path = from; to_other = l.2 } in
    inr (p.0, imports, handed_sound files p.0 other p.2)

seen_sound : (files : List File) → InOrder files → Differ (paths_of files) → (path other : Text) → is_path_of (paths_of files) path ≡ true
    → is_path_of (seen_paths files path) other ≡ true → Sees files path other
seen_sound files order apart path other has is =
    let f = file_of files path has in
    let at : is_path_of (seen_paths files f.0.path) other ≡ true = subst (λ (p : Text). is_path_of (seen_paths files p) other ≡ true) (sym f.2) is in
    seen_by files f.0 path other f.1 f.2 (bytes_eq other f.0.path) refl
    (subst (λ (l : List Text). is_path_of l other ≡ true) (seen_paths_is files order apart f.0 f.1) at)

seen_complete : (files : List File) → InOrder files → Differ (paths_of files) → (path other : Text) → is_path_of (paths_of files) path ≡ true
    → Sees files path other → is_path_of (seen_paths files path) other ≡ true
seen_complete files order apart path other has (inl same) = search (rules, file_of, seen_paths_is, or_left, flat_map, text_same)
seen_complete files order apart path other has (inr (next, i, hands)) =
    let among : IsAmong (import_paths i.file.imports) next =
    subst (λ (p : Text). IsAmong (import_paths i.file.imports) p) i.to_other (map_among (λ (l : Import). l.path) i.file.imports i.line i.has_line) in
    subst (λ (p : Text). is_path_of (seen_paths files p) other ≡ true) i.from_path
    (subst (λ (l : List Text). is_path_of l other ≡ true) (sym (seen_paths_is files order apart i.file i.is_there))
    (among_all files i.file.path other next (import_paths i.file.imports) among
    (handed_complete files order apart next other (next_there files order path next i) hands)))

pub sees_these : (files : List File) → InOrder files → Differ (paths_of files) → SeesThese files
sees_these files order apart = λ path has other. (seen_sound files order apart path other has, seen_complete files order apart path other has)
