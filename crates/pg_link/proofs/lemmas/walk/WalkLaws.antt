-- A walk over imports, step by step.
use Rattle.std.proofs.Common.{◌≡◌, ◌∙◌, ℕ, ◌≤◌, ◌<◌, ◌+◌, Bool, true, false, ◌||◌, List, [], ◌∷◌, ◌++◌, Some, None, Option, length, map, reverse, take, drop, refl, sym, ap, subst, String, string_bytes, IsTrue, slice_index_or, All, length-append, arith, drop-cons, add-one, true≢false, rules}
use Rattle.std.proofs.lemmas.Bool.{or_from, or_parts}
use Rattle.std.proofs.lemmas.List.{map-append, reverse-append, take-append-drop, length-reverse, length-map, get_or-map}
use Rattle.std.proofs.lemmas.List.Elements.{All-push, All-append, All-map, All-cons, All-head, All-tail}
use Rattle.std.proofs.lemmas.List.Folds.{list_any-append}
use Rattle.std.specs.Borrow.{Bor}
use Rattle.std.specs.Global.{Global}
use Rattle.std.specs.List.{Contains}
use Rattle.std.specs.Str.{bytes_eq}
use Rattle.pg_syntax.specs.declared.tree as tree
use Rattle.pg_link.specs.declared.error.LinkError as errors
use Rattle.pg_link.specs.declared.error.LinkError.TheVariants as error
use Rattle.pg_link.specs.declared.error.Place as places
use Rattle.pg_link.specs.declared.walk.imports.ImportLine as lines
use Rattle.pg_link.specs.declared.walk.Asking as askings
use Rattle.pg_link.specs.declared.walk.SourceFile as kept
use Rattle.pg_link.specs.declared.walk.Walk as walks
use Rattle.pg_link.specs.declared.walk.reading.NewFile as news
use Rattle.pg_link.specs.walk.FolderPath.{path_below}
use Rattle.pg_link.specs.names.Files.{File, Differ, InOrder, is_path_of, paths_of, import_paths}
use Rattle.pg_link.specs.inner.Made.{line_of}
use Rattle.pg_link.specs.names.Names.{texts, Text}
use Rattle.pg_link.specs.names.Outline.{file_imports}
use Rattle.pg_link.specs.walk.PostOrder.{IsPostOrder}
use Rattle.pg_link.specs.walk.Walk.{World, Gives, MayBe, ImportsAt, Comes, Reached, MayLead, Stays, Onwards, Entry, IsEntry, outline, outlines, files_in_order, IsAsked, IsAskedAt, IsPlace, IsReadFault, IsLinked, ComesTo, Refuses}
use Rattle.pg_link.specs.inner.Walking.{Imports, entries, open_paths, IsSound, Follows, Asks, IsNewFault, IsTextFault, IsImportFault}
use Rattle.pg_link.proofs.lemmas.walk.OrderLaws.{no_cycle}
use Rattle.pg_link.proofs.lemmas.names.SameBytes.{same_text, differ_turned}

-- ---- who asks

comes_of : (w : World) (ps : List Text) (a : Option askings.Asking) (path : Text) → Asks w ps a path → Comes w ps path
comes_of w ps a path asks = grind arith

pub reached_of : (w : World) (ps : List Text) (a : Option askings.Asking) (path : Text) → Asks w ps a path → Reached w path
reached_of w ps a path asks = (ps, comes_of w ps a path asks)

asked_of : (w : World) (ps : List Text) (a : Option askings.Asking) (path : Text) (place : places.Place) → Asks w ps a path → IsAsked place a path → IsAskedAt w place path
asked_of w ps a path place asks at = grind arith

-- ---- refusals

pub read_refused : (w : World) (ps : List Text) (a : Option askings.Asking) (path : Text) (e : errors.LinkError) → Asks w ps a path
    → IsReadFault w.may_lack w.folder a path e → Refuses w e
read_refused w ps a path e asks fault = grind (arith, asked_of, reached_of)

pub text_refused : (w : World) (path text : Text) (e : errors.LinkError) → Gives w path text → Reached w path → IsTextFault path text e → Refuses w e
text_refused w path text e given reached fault = grind arith

-- the paths that come to a path lead to it
leads_by : (w : World) (b : Bool) (p : Text) (ps : List Text) (from path : Text) → bytes_eq from p ≡ b → (b || is_path_of ps from) ≡ true
    → Comes w (p ∷ ps) path → (is_path_of ps from ≡ true → MayLead w from p) → MayLead w from path
leads_by w true p ps from path is among comes before = Onwards (subst (λ (t : Text). MayLead w from t) (same_text from p is) Stays) comes.0
leads_by w false p ps from path is among comes before = Onwards (before among) comes.0

pub leads : (w : World) (ps : List Text) (from path : Text) → Comes w ps path → is_path_of ps from ≡ true → MayLead w from path
leads w [] from path comes among = absurd (true≢false (sym among))
leads w (p ∷ ps) from path comes among =
    leads_by w (bytes_eq from p) p ps from path refl among comes (λ inner. leads w ps from p comes.1 inner)

-- a path that is open leads to the last of those
leads_last : (w : World) (b : Bool) (p : Text) (ps : List Text) (from : Text) → bytes_eq from p ≡ b → (b || is_path_of ps from) ≡ true
    → Comes w ps p → MayLead w from p
leads_last w true p ps from is among comes = subst (λ (t : Text). MayLead w from t) (same_text from p is) Stays
leads_last w false p ps from is among comes = leads w ps from p comes among

pub import_refused : (w : World) (ps : List Text) (path : Text) (here : askings.Asking) (next : Text) (before : List Text) (e : errors.LinkError)
    → here.file.now ≡ path → (i : ImportsAt w path here.text.now here.at next) → Comes w ps path → import_paths i.front ≡ before
    → IsImportFault (path ∷ ps) before here next e → Refuses w e
import_refused w ps path here next before (error.ImportCycle place) file i comes fronts fault = search (rules, leads_last)
import_refused w ps path here next before (error.DuplicateImport place) file i comes fronts fault = record {
  from = path;
  text = here.text.now;
  at = here.at;
  path = next;
  imports = i;
  reached = (ps, comes);
  is_place = subst (λ (f : Text). IsPlace place f here.text.now here.at) file fault.0;
  holds = subst (λ (xs : List Text). is_path_of xs next ≡ true) (sym fronts) fault.1;
}
import_refused w ps path here next before error.Memory file i comes fronts fault = tt
import_refused w ps path here next before _ file i comes fronts fault = absurd fault

-- ---- more than 1,024 files

abbrev IsThere : World → Text → Type 0
IsThere w other = Reached w other × ((t : Text) × Gives w other t)

opened_there : (w : World) (ps : List Text) (path : Text) → Comes w ps path → All (IsThere w) ps
opened_there w [] path comes = λ k d within. absurd (omega (arith, within))
opened_there w (p ∷ ps) path comes =
    All-cons (IsThere w) p ps ((ps, comes.1), (comes.0.0, comes.0.2.may_be.is_given)) (opened_there w ps p comes.1)

abbrev there_at : World → File → Type 0
there_at w f = IsThere w f.path

files_there : (w : World) (es : List Entry) → All (IsEntry w) es → All (IsThere w) (paths_of (map outline es))
files_there w es each =
    All-map (IsThere w) (λ (f : File). f.path) (map outline es)
    (All-map (there_at w) outline es (λ k d within. let e = each k d within in (e.1, ((slice_index_or es k d).1.bytes.items, e.0.is_given))))

all_reversed : {X : Type 0} (P : X → Type 0) (xs : List X) → All P xs → All P (reverse xs)
all_reversed P [] all = all
all_reversed P (x ∷ xs) all =
    subst (λ l. All P l) (sym (reverse-append (x ∷ []) xs))
    (All-push P (reverse xs) x (all_reversed P xs (All-tail P x xs all)) (All-head P x xs all))

map-reverse : {X Y : Type 0} (f : X → Y) (xs : List X) → map f (reverse xs) ≡ reverse (map f xs)
map-reverse f [] = refl
map-reverse f (x ∷ xs) =
    ap (map f) (reverse-append (x ∷ []) xs) ∙ (map-append f (reverse xs) (x ∷ [])
    ∙ (ap (λ l. l ++ f x ∷ []) (map-reverse f xs) ∙ sym (reverse-append (f x ∷ []) (map f xs))))

entries_there : (w : World) (es : List Entry) → All (IsEntry w) es → All (IsThere w) (paths_of (outlines es))
entries_there w es each =
    subst (λ l. All (IsThere w) l) (sym (map-reverse (λ (f : File). f.path) (map outline es)))
    (all_reversed (IsThere w) (paths_of (map outline es)) (files_there w es each))

path_count : (es : List Entry) → length (paths_of (outlines es)) ≡ length es
path_count es = search (rules, length-map, length-reverse)

pub apart_from : (w : World) (ps : List Text) (es : List Entry) (path : Text) → IsSound w ps es → is_path_of ps path ≡ false
    → is_path_of (paths_of (outlines es)) path ≡ false → Differ (path ∷ (ps ++ paths_of (outlines es)))
apart_from w ps es path sound open_none none = search (rules, list_any-append, or_from)

pub beyond : (w : World) (ps : List Text) (es : List Entry) (a : Option askings.Asking) (path text : Text) (place : places.Place) → IsSound w ps es → Asks w ps a path
    → is_path_of ps path ≡ false → is_path_of (paths_of (outlines es)) path ≡ false → Gives w path text
    → 1024 ≤ length ps + length es → IsAsked place a path → Refuses w (error.TooManyFiles place)
beyond w ps es a path text place sound asks open_none none given many at =
    let others = ps ++ paths_of (outlines es) in
    let same : length (paths_of (outlines es)) ≡ length es = path_count es in (
      path,
      asked_of w ps a path place asks at,
      record {
        text = text;
        is_given = given;
        others = others;
        many = omega (arith, length-append ps (paths_of (outlines es)), same, many);
        apart = apart_from w ps es path sound open_none none;
        each = All-append (IsThere w) ps (paths_of (outlines es)) (opened_there w ps path (comes_of w ps a path asks)) (entries_there w es sound.each);
      },
    )

-- ---- a file that is new

pub read_fault : (give : Text → Text → Bool) (lack : Text → Bool) (folder : Text) (others : ℕ) (a : Option askings.Asking) (path : Text) (e : errors.LinkError)
    → IsReadFault lack folder a path e → IsNewFault give lack folder others a path e
read_fault give lack folder others a path e fault = grind arith

pub text_fault : (give : Text → Text → Bool) (lack : Text → Bool) (folder : Text) (others : ℕ) (a : Option askings.Asking) (path text : Text) (e : errors.LinkError)
    → IsTrue (give (path_below folder path) text) → IsTextFault path text e → IsNewFault give lack folder others a path e
text_fault give lack folder others a path text e given fault = grind arith

pub new_refused : (w : World) (ps : List Text) (es : List Entry) (a : Option askings.Asking) (path : Text) (others : ℕ) (e : errors.LinkError) → IsSound w ps es → Asks w ps a path
    → is_path_of ps path ≡ false → is_path_of (paths_of (outlines es)) path ≡ false → others ≡ length ps + length es
    → IsNewFault w.may_give w.may_lack w.folder others a path e → Refuses w e
new_refused w ps es a path others (error.TooManyFiles place) sound asks open_none none count fault =
    beyond w ps es a path fault.2.0 place sound asks open_none none fault.2.1 (subst (λ n. 1024 ≤ n) count fault.1) fault.0
new_refused w ps es a path others (error.Lex e place) sound asks open_none none count fault =
    text_refused w path fault.0 (error.Lex e place) fault.1 (reached_of w ps a path asks) fault.2
new_refused w ps es a path others (error.Syntax e place) sound asks open_none none count fault =
    text_refused w path fault.0 (error.Syntax e place) fault.1 (reached_of w ps a path asks) fault.2
new_refused w ps es a path others e sound asks open_none none count fault = read_refused w ps a path e asks fault

-- ---- the imports of a file, one by one

abbrev pub line_path : lines.ImportLine → Text
line_path l = string_bytes l.path

pub split_at : {X Y : Type 0} (f : X → Y) (xs : List X) (i : ℕ) (d : X) → i < length xs
    → map f xs ≡ map f (take i xs) ++ f (slice_index_or xs i d) ∷ map f (drop (i + 1) xs)
split_at f xs i d within =
    ap (map f) (sym (take-append-drop i xs)) ∙ (map-append f (take i xs) (drop i xs)
    ∙ ap (λ l. map f (take i xs) ++ map f l) (drop-cons xs i d within ∙ ap (λ n. slice_index_or xs i d ∷ drop n xs) (sym (add-one i))))

pub paths_of_lines : (ls : List lines.ImportLine) → import_paths (map line_of ls) ≡ map line_path ls
paths_of_lines [] = refl
paths_of_lines (l ∷ ls) = ap (λ t. string_bytes l.path ∷ t) (paths_of_lines ls)

pub next_import : (w : World) (path text now next : Text) (file : tree.FileTree.FileTree) (ls : List lines.ImportLine) (i : ℕ) (l : lines.ImportLine)
    → MayBe w path text file → now ≡ text → next ≡ string_bytes l.path → map line_of ls ≡ file_imports file → i < length ls → l ≡ slice_index_or ls i l
    → (h : ImportsAt w path now l.at next) × (import_paths h.front ≡ map line_path (take i ls))
next_import w path text now next file ls i l may_be same to its within is = (
  record {
    file = file;
    may_be = subst (λ (t : Text). MayBe w path t file) (sym same) may_be;
    front = map line_of (take i ls);
    line = line_of l;
    back = map line_of (drop (i + 1) ls);
    splits = sym its ∙ (split_at line_of ls i l within ∙ ap (λ (x : lines.ImportLine). map line_of (take i ls) ++ line_of x ∷ map line_of (drop (i + 1) ls)) (sym is));
    is_at = refl;
    is_path = sym to;
  },
  paths_of_lines (take i ls),
)

pub follows_next : (w : World) (walk : walks.Walk) (path : Text) (ps : List Text) (here : askings.Asking) (next : Text) → open_paths walk ≡ path ∷ ps
    → IsSound w (path ∷ ps) (entries walk) → here.file.now ≡ path → ImportsAt w path here.text.now here.at next → Comes w ps path → Follows w walk (Some here) next
follows_next w walk path ps here next opened sound file imports comes = search rules

pub open_count : (walk : walks.Walk) → length (open_paths walk) ≡ length walk.opened.keys
open_count walk = length-reverse (map string_bytes walk.opened.keys) ∙ length-map walk.opened.keys string_bytes

pub take_none : {X : Type 0} (xs : List X) → take 0 xs ≡ []
take_none xs = grind arith

open_one : (w : World) (path : Text) (ps : List Text) (es new : List Entry) → IsSound w ps es → new ≡ es → is_path_of ps path ≡ false
    → is_path_of (paths_of (outlines es)) path ≡ false → length ps + length es < 1024 → IsSound w (path ∷ ps) new
open_one w path ps es new sound same open_none none room =
    subst (λ (xs : List Entry). IsSound w (path ∷ ps) xs) (sym same)
    record { each = sound.each; in_order = sound.in_order; apart = apart_from w ps es path sound open_none none; few = omega (arith, room) }

-- a file that was just opened
pub now_imports : (w : World) (walk begun : walks.Walk) (a : Option askings.Asking) (path : Text) (new : news.NewFile) → Follows w walk a path
    → entries begun ≡ entries walk → open_paths begun ≡ path ∷ open_paths walk → is_path_of (open_paths walk) path ≡ false
    → is_path_of (paths_of (outlines (entries walk))) path ≡ false → length (open_paths walk) + length (entries walk) < 1024
    → MayBe w path new.file.bytes.items new.file.tree → map line_of new.lines.items ≡ file_imports new.file.tree → Imports w begun path new
now_imports w walk begun a path new f same opened closed none room may_be its = record {
  before = open_paths walk;
  opened = opened;
  comes = comes_of w (open_paths walk) a path f.asks;
  is_sound = subst (λ (ps : List Text). IsSound w ps (entries begun)) (sym opened)
      (open_one w path (open_paths walk) (entries walk) (entries begun) f.is_sound same closed none room);
  may_be = may_be;
  its = its;
}

-- ---- a file comes after the others

moved : (ps fs : List Text) (path : Text) → is_path_of (ps ++ fs) path ≡ false → Differ (ps ++ fs) → Differ (ps ++ path ∷ fs)
moved [] fs path none apart = (none, apart)
moved (p ∷ ps) fs path none apart = search (rules, differ_turned, or_parts, list_any-append, or_from, moved ps fs path (or_parts (bytes_eq path p) (is_path_of (ps ++ fs) path) none).1 apart.1)

pub outlines-push : (es : List Entry) (e : Entry) → outlines (es ++ e ∷ []) ≡ outline e ∷ outlines es
outlines-push es e = ap reverse (map-append outline es (e ∷ [])) ∙ reverse-append (map outline es) (outline e ∷ [])

pub not_read : (w : World) (path : Text) (ps : List Text) (es : List Entry) → IsSound w (path ∷ ps) es → is_path_of (paths_of (outlines es)) path ≡ false
not_read w path ps es sound = (or_parts (is_path_of ps path) (is_path_of (paths_of (outlines es)) path) (sym (list_any-append (bytes_eq path) ps (paths_of (outlines es))) ∙ sound.apart.0)).1

pub one_more : (w : World) (path : Text) (ps : List Text) (es new : List Entry) (name : String Global) (file : kept.SourceFile) (ls : List lines.ImportLine)
    → IsSound w (path ∷ ps) es → string_bytes name ≡ path → new ≡ es ++ (name, file) ∷ [] → MayBe w path file.bytes.items file.tree → Reached w path
    → map line_of ls ≡ file_imports file.tree → All (λ p. is_path_of (paths_of (outlines es)) p ≡ true) (map line_path ls)
    → Differ (map line_path ls) → IsSound w ps new
one_more w path ps es new name file ls sound same is may_be reached its among differ =
    let e : Entry = (name, file) in
    let grown : outlines new ≡ outline e ∷ outlines es = ap outlines is ∙ outlines-push es e in
    let own : IsEntry w e = (subst (λ (p : Text). MayBe w p file.bytes.items file.tree) (sym same) may_be, subst (λ (p : Text). Reached w p) (sym same) reached) in
    let paths : map line_path ls ≡ import_paths (file_imports file.tree) = sym (paths_of_lines ls) ∙ ap import_paths its in
    let has = λ (p : Text). is_path_of (paths_of (outlines es)) p ≡ true in
    let first : InOrder (outline e ∷ outlines es) = (
      subst (λ (xs : List Text). All has xs) paths among,
      subst Differ paths differ,
      sound.in_order,
    ) in
    let apart : Differ (ps ++ paths_of (outline e ∷ outlines es)) =
    subst (λ (p : Text). Differ (ps ++ p ∷ paths_of (outlines es))) (sym same) (moved ps (paths_of (outlines es)) path sound.apart.0 sound.apart.1) in
    record {
      each = subst (λ (xs : List Entry). All (IsEntry w) xs) (sym is) (All-push (IsEntry w) es e sound.each own);
      in_order = subst InOrder (sym grown) first;
      apart = subst (λ (fs : List File). Differ (ps ++ paths_of fs)) (sym grown) apart;
      few = omega (arith, sound.few, ap length is, length-append es (e ∷ []));
    }

-- ---- the roots

pub contains_root : (roots : List (Bor Text)) (k : ℕ) (d : Bor Text) → k < length roots → Contains (texts roots) (slice_index_or roots k d).now
contains_root roots k d within = (
  k,
  omega (arith, within, length-map roots (λ (r : Bor Text). r.now)),
  get_or-map (λ (r : Bor Text). r.now) roots k d (slice_index_or roots k d).now within,
)

pub first_sound : (w : World) (es : List Entry) → es ≡ [] → IsSound w [] es
first_sound w es none = search rules

pub follows_root : (w : World) (walk : walks.Walk) (root : Text) → open_paths walk ≡ [] → IsSound w [] (entries walk) → Contains w.roots root → Follows w walk None root
follows_root w walk root opened sound is_root = search rules

pub linked : (w : World) (es : List Entry) → IsSound w [] es → IsPostOrder w.roots (files_in_order es) → All (λ root. is_path_of (paths_of (outlines es)) root ≡ true) w.roots
    → ((path : Text) → is_path_of (paths_of (outlines es)) path ≡ true → (root : Text) × Contains w.roots root × ComesTo (outlines es) root path) → IsLinked w es
linked w es sound listed has from = search (rules, no_cycle)
