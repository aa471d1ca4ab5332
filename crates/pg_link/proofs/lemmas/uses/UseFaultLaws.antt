-- What the uses of files resolve to, and which are at fault: through the index, and by the files.
use Rattle.std.proofs.Common.{◌≡◌, ◌∙◌, ℕ, ◌+◌, ◌<◌, Bool, List, [], ◌∷◌, ◌++◌, map, length, slice_get, get_or, take, drop, suc, Option, add-one, arith, drop-cons, refl, sym, ap, subst, Some, None, Vec, rules}
use Rattle.std.proofs.lemmas.List.{map-append, take-append-drop}
use Rattle.std.proofs.lemmas.List.Elements.{All-cons, All-head, All-tail}
use Rattle.std.proofs.lemmas.Option.{slice_get-map, slice_get_read, slice_get_within, get_or_from_slice_get}
use Rattle.std.specs.Global.{Global}
use Rattle.std.specs.List.{All, IsAmong}
use Rattle.std.specs.Option.{IsSome}
use Rattle.pg_syntax.specs.declared.tree as tree
use Rattle.pg_link.specs.declared.error.LinkError as errors
use Rattle.pg_link.specs.declared.error.LinkError.TheVariants as error
use Rattle.pg_link.specs.declared.names.index.Index as indexes
use Rattle.pg_link.specs.declared.names.resolve.Unresolved.{Unresolved}
use Rattle.pg_link.specs.declared.uses.target.Target.{Target}
use Rattle.pg_link.specs.names.Files.{Declared, all_names, seen_paths, visible_names}
use Rattle.pg_link.specs.inner.Index.{names_seen}
use Rattle.pg_link.specs.names.Names.{Text, Names}
use Rattle.pg_link.specs.inner.VisibleFiles.{AreVisibleFiles, Marks}
use Rattle.pg_link.specs.inner.Indexed.{IsNumbered, Lists, declared_in}
use Rattle.pg_link.specs.names.Standing.{NoneTwice, Standing, all_standings, standing, standings_from}
use Rattle.pg_link.specs.uses.Targets.{Resolution, all_declared, file_targets, target_in}
use Rattle.pg_link.specs.inner.Refusals.{RefusesUse, Says}
use Rattle.pg_link.specs.uses.UseFaults.{IsUseFault, IsUseFaultIn}
use Rattle.pg_link.specs.uses.Uses.{Use, file_uses}
use Rattle.pg_link.specs.walk.Walk.{Entry, outlines, path_of}
use Rattle.pg_link.proofs.lemmas.names.HeldNames.{known_names, seen_names}

-- ---- one use

pub use_refused : (resolve : Resolution) (visible all : Names) (u : Use) (w : Unresolved) (path text : Text) (file : tree.FileTree.FileTree) (e : errors.LinkError) (front back : List Use)
    → file_uses file ≡ front ++ u ∷ back → All (λ v. IsSome (resolve v)) front → RefusesUse visible all u w → Says w path text u.at e
    → IsUseFault resolve visible all path text file e
use_refused resolve visible all u w path text file (error.UnknownName place) front back splits before refuses says =
    record { front = front; u = u; back = back; splits = splits; before = before; is_place = says.1; holds = subst (RefusesUse visible all u) says.0 refuses }
use_refused resolve visible all u w path text file (error.NotAType place) front back splits before refuses says =
    record { front = front; u = u; back = back; splits = splits; before = before; is_place = says.1; holds = subst (RefusesUse visible all u) says.0 refuses }
use_refused resolve visible all u w path text file (error.NotImported place) front back splits before refuses says =
    record { front = front; u = u; back = back; splits = splits; before = before; is_place = says.1; holds = subst (RefusesUse visible all u) says.0 refuses }
use_refused resolve visible all u w path text file error.Memory front back splits before refuses says = tt
use_refused resolve visible all u w path text file _ front back splits before refuses says = absurd says

-- ---- one file

standing_declared : (n : ℕ) (ds : List Declared) → declared_in (map (standing n) ds) ≡ ds
standing_declared n [] = refl
standing_declared n (d ∷ ds) = ap (λ l. d ∷ l) (standing_declared n ds)

declared_from : (n : ℕ) (es : List Entry) → declared_in (standings_from n es) ≡ all_declared es
declared_from n [] = refl
declared_from n (e ∷ es) = search (rules, map-append, standing_declared, declared_from (n + 1) es)

pub all_declared_are : (es : List Entry) → declared_in (all_standings es) ≡ all_declared es
all_declared_are es = declared_from 0 es

-- the names that are seen, as one
pub visible_are : (index : indexes.Index) (es : List Entry) (e : Entry) (visible : List Bool) → Lists index (all_standings es) → NoneTwice (all_standings es)
    → Marks es (seen_paths (outlines es) (path_of e)) visible → names_seen index.names (Some visible) ≡ visible_names (outlines es) (path_of e)
visible_are index es e visible lists once marks = λ i full. seen_names index.names es (seen_paths (outlines es) (path_of e)) visible lists.0 once marks full i

pub all_are : (index : indexes.Index) (es : List Entry) → Lists index (all_standings es) → NoneTwice (all_standings es)
    → names_seen index.names None ≡ all_names (outlines es)
all_are index es lists once = λ i full. known_names index.names es lists.0 once full i

pub targets_are : (index : indexes.Index) (es : List Entry) (e : Entry) (visible : List Bool) (ts : List Target) → Lists index (all_standings es) → NoneTwice (all_standings es)
    → Marks es (seen_paths (outlines es) (path_of e)) visible
    → ((all : List Standing) → IsNumbered index all → map Some ts ≡ map (target_in (declared_in all) (names_seen index.names (Some visible))) (file_uses e.1.tree))
    → map Some ts ≡ file_targets es e
targets_are index es e visible ts lists once marks found =
    found (all_standings es) lists.1
    ∙ (ap (λ (ds : List Declared). map (target_in ds (names_seen index.names (Some visible))) (file_uses e.1.tree)) (all_declared_are es)
    ∙ ap (λ (names : Names). map (target_in (all_declared es) names) (file_uses e.1.tree)) (visible_are index es e visible lists once marks))

somes : (ts : List Target) → All IsSome (map Some ts)
somes [] = λ k d within. absurd (omega arith)
somes (t ∷ ts) = All-cons IsSome (Some t) (map Some ts) refl (somes ts)

of_each : {X : Type 0} (f : X → Option Target) (xs : List X) → All IsSome (map f xs) → All (λ x. IsSome (f x)) xs
of_each f [] all = λ k d within. absurd (omega arith)
of_each f (x ∷ xs) all = All-cons (λ y. IsSome (f y)) x xs (All-head IsSome (f x) (map f xs) all) (of_each f xs (All-tail IsSome (f x) (map f xs) all))

-- all that have targets resolve
pub all_resolve : {X : Type 0} (f : X → Option Target) (xs : List X) (ts : List Target) → map Some ts ≡ map f xs → All (λ x. IsSome (f x)) xs
all_resolve f xs ts same = of_each f xs (subst (All IsSome) same (somes ts))

files_resolve : (es fs : List Entry) (ts : List (List Target)) → map (map Some) ts ≡ map (file_targets es) fs → All (λ f. All IsSome (file_targets es f)) fs
files_resolve es [] ts same = λ k d within. absurd (omega arith)
files_resolve es (f ∷ fs) [] same = absurd (omega (arith, ap length same))
files_resolve es (f ∷ fs) (t ∷ ts) same =
    All-cons (λ g. All IsSome (file_targets es g)) f fs (subst (All IsSome) (head_same same) (somes t)) (files_resolve es fs ts (tail_same same))
  where
    first : List (List (Option Target)) → List (Option Target)
    first [] = []
    first (l ∷ ls) = l

    others : List (List (Option Target)) → List (List (Option Target))
    others [] = []
    others (l ∷ ls) = ls

    head_same : map (map Some) (t ∷ ts) ≡ map (file_targets es) (f ∷ fs) → map Some t ≡ file_targets es f
    head_same is = ap first is

    tail_same : map (map Some) (t ∷ ts) ≡ map (file_targets es) (f ∷ fs) → map (map Some) ts ≡ map (file_targets es) fs
    tail_same is = ap others is

split_file : (es : List Entry) (i : ℕ) (e : Entry) → slice_get es i ≡ Some e → es ≡ take i es ++ e ∷ drop (i + 1) es
split_file es i e at =
    sym (take-append-drop i es) ∙ ap (λ l. take i es ++ l)
    (drop-cons es i e (slice_get_within es i e at)
    ∙ (ap (λ (f : Entry). f ∷ drop (suc i) es) (get_or_from_slice_get es i e e at) ∙ ap (λ n. e ∷ drop n es) (sym (add-one i))))

-- the first fault, in the file and among the files
pub fault_is : (index : indexes.Index) (es : List Entry) (i : ℕ) (e : Entry) (visible : List Bool) (path : Text) (err : errors.LinkError) (ts : List (List Target)) → Lists index (all_standings es)
    → NoneTwice (all_standings es) → Marks es (seen_paths (outlines es) (path_of e)) visible → slice_get es i ≡ Some e → map (map Some) ts ≡ map (file_targets es) (take i es) → path ≡ path_of e
    → ((all : List Standing) → IsNumbered index all → IsUseFault (target_in (declared_in all) (names_seen index.names (Some visible))) (names_seen index.names (Some visible)) (names_seen index.names None)
    path e.1.bytes.items e.1.tree err) → IsUseFaultIn es err
fault_is index es i e visible path err ts lists once marks at came same fault = record {
  front = take i es;
  file = e;
  back = drop (i + 1) es;
  splits = split_file es i e at;
  before = files_resolve es (take i es) ts came;
  fault =
      subst (λ (p : Text). IsUseFault (target_in (all_declared es) (visible_names (outlines es) (path_of e))) (visible_names (outlines es) (path_of e)) (all_names (outlines es)) p e.1.bytes.items e.1.tree err) same
      (subst (λ (names : Names). IsUseFault (target_in (all_declared es) (visible_names (outlines es) (path_of e))) (visible_names (outlines es) (path_of e)) names path e.1.bytes.items e.1.tree err) (all_are index es lists once)
      (subst (λ (names : Names). IsUseFault (target_in (all_declared es) names) names (names_seen index.names None) path e.1.bytes.items e.1.tree err) (visible_are index es e visible lists once marks)
      (subst (λ (ds : List Declared). IsUseFault (target_in ds (names_seen index.names (Some visible))) (names_seen index.names (Some visible)) (names_seen index.names None) path e.1.bytes.items e.1.tree err) (all_declared_are es)
      (fault (all_standings es) lists.1))));
}

pub no_memory : (es : List Entry) (i : ℕ) (e : Entry) (ts : List (List Target)) → slice_get es i ≡ Some e → map (map Some) ts ≡ map (file_targets es) (take i es) → IsUseFaultIn es error.Memory
no_memory es i e ts at came = search (rules, split_file, files_resolve)

pub among_at : (es : List Entry) (i : ℕ) (e : Entry) → slice_get es i ≡ Some e → IsAmong es e
among_at es i e at = (i, (slice_get_within es i e at, sym (get_or_from_slice_get es i e e at)))

-- the marks that stand for a file
pub its_marks : (es : List Entry) (visible_files : List (Vec Bool Global)) (i : ℕ) (e : Entry) (v : Vec Bool Global) (marks : List Bool)
    → AreVisibleFiles es (map (λ (m : Vec Bool Global). m.items) visible_files) → slice_get es i ≡ Some e → i < length visible_files → v ≡ get_or visible_files i v → marks ≡ v.items
    → Marks es (seen_paths (outlines es) (path_of e)) marks
its_marks es visible_files i e v marks are at within is same = search (rules, slice_get-map, slice_get_read)
