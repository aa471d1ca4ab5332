-- Files that are read depth first are in post-order of imports.
use Rattle.std.proofs.Common.{◌≡◌, ◌≤◌, ◌∙◌, true, false, cond, List, [], ◌∷◌, ◌++◌, Option, Some, map, refl, sym, ap, subst, String, string_bytes, append-nil, append_assoc, length, length-append, true≢false, arith, rules}
use Rattle.std.proofs.lemmas.Bool.{or_parts}
use Rattle.std.proofs.lemmas.List.{map-append}
use Rattle.std.proofs.lemmas.List.Folds.{find-append}
use Rattle.std.proofs.lemmas.Option.{none-some, same_Some}
use Rattle.std.specs.Global.{Global}
use Rattle.std.specs.List.{find}
use Rattle.std.specs.Option.{option_map}
use Rattle.std.specs.Str.{bytes_eq}
use Rattle.pg_link.specs.declared.walk.imports.ImportLine as lines
use Rattle.pg_link.specs.declared.walk.SourceFile as kept
use Rattle.pg_link.specs.declared.walk.Walk as walks
use Rattle.pg_link.specs.names.Files.{File, import_paths, is_path_of, paths_of}
use Rattle.pg_link.specs.inner.Made.{line_of}
use Rattle.pg_link.specs.names.Names.{Text}
use Rattle.pg_link.specs.names.Outline.{file_imports}
use Rattle.pg_link.specs.walk.PostOrder.{AreListed, imports_at}
use Rattle.pg_schema.specs.standing.Visits.{Visits, all_visited, listed_last, passed_over}
use Rattle.pg_link.specs.walk.Walk.{Entry, files_in_order, outline}
use Rattle.pg_link.specs.inner.Walking.{Extends, VisitLists, entries, has_path, listed_paths}
use Rattle.pg_link.proofs.lemmas.walk.PathLaws.{any-map, any-reverse}
use Rattle.pg_link.proofs.lemmas.names.SameBytes.{text_same, differ_turned}
use Rattle.pg_link.proofs.lemmas.walk.WalkLaws.{line_path, paths_of_lines}

-- ---- visits

module _ (leads : Text → Option (List Text)) where
  -- those that are visited later
  visits_on : (front first between later listed : List Text) → Visits bytes_eq leads front first between → Visits bytes_eq leads between later listed
      → Visits bytes_eq leads front (first ++ later) listed
  visits_on front [] between later listed (all_visited f) rest = rest
  visits_on front (x ∷ first) between later listed (passed_over f more l y found visits) rest =
      passed_over f (more ++ later) listed y found (visits_on f more l later listed visits rest)
  visits_on front (x ∷ first) between later listed (listed_last f own inside more l y missing is inner visits) rest =
      listed_last f own inside (more ++ later) listed y missing is inner (visits_on (inside ++ y ∷ []) more l later listed visits rest)

  -- there is one list
  pub visits_once : (front visited listed other : List Text) → Visits bytes_eq leads front visited listed → Visits bytes_eq leads front visited other → listed ≡ other
  visits_once front [] listed other (all_visited f) (all_visited g) = refl
  visits_once front (x ∷ later) listed other (passed_over f m l y found rest) (passed_over g n k z there more) = visits_once f later listed other rest more
  visits_once front (x ∷ later) listed other (passed_over f m l y found rest) (listed_last g own inside n k z missing is inner more) = search (rules, true≢false)
  visits_once front (x ∷ later) listed other (listed_last f own inside m l y missing is inner rest) (passed_over g n k z found more) = search (rules, true≢false)
  visits_once front (x ∷ later) listed other (listed_last f own inside m l y missing is inner rest) (listed_last g own' inside' n k z missing' is' inner' more) =
      let same : own ≡ own' = same_Some own own' (sym is ∙ is') in
      let alike : inside ≡ inside' = visits_once f own inside inside' inner (subst (λ (o : List Text). Visits bytes_eq leads f o inside') (sym same) inner') in
      visits_once (inside ++ x ∷ []) later listed other rest (subst (λ (i : List Text). Visits bytes_eq leads (i ++ x ∷ []) later other) (sym alike) more)

  -- where more is known of what leads on
  module _ (wider : Text → Option (List Text)) (widens : (x : Text) (own : List Text) → leads x ≡ Some own → wider x ≡ Some own) where
    visits_wider : (front visited listed : List Text) → Visits bytes_eq leads front visited listed → Visits bytes_eq wider front visited listed
    visits_wider front visited listed (all_visited f) = all_visited f
    visits_wider front visited listed (passed_over f more l y found visits) = passed_over f more l y found (visits_wider f more l visits)
    visits_wider front visited listed (listed_last f own inside more l y missing is inner visits) =
        listed_last f own inside more l y missing (widens y own is) (visits_wider f own inside inner) (visits_wider (inside ++ y ∷ []) more l visits)

-- ---- what a path imports, where files are appended

imports_more : (files more : List File) (path : Text) (own : List Text) → imports_at files path ≡ Some own → imports_at (files ++ more) path ≡ Some own
imports_more files more path own is = search (rules, find-append, none-some)

imports_last : (files : List File) (f : File) → is_path_of (paths_of files) f.path ≡ false → imports_at (files ++ f ∷ []) f.path ≡ Some (import_paths f.imports)
imports_last [] f none = search (rules, text_same)
imports_last (g ∷ files) f none =
    let both = or_parts (bytes_eq f.path g.path) (is_path_of (paths_of files) f.path) none in
    ap (λ b. option_map (λ (h : File). import_paths h.imports) (cond b (Some g) (find (λ (h : File). bytes_eq h.path f.path) (files ++ f ∷ []))))
    (differ_turned f.path g.path both.0)
    ∙ imports_last files f both.1

-- ---- a walk

-- what was read, the first first
pub has_listed : (walk : walks.Walk) (path : Text) → has_path walk path ≡ is_path_of (listed_paths walk) path
has_listed walk path = search (rules, any-map, any-reverse)

pub same_extends : (old new : walks.Walk) → entries new ≡ entries old → Extends old new
same_extends old new same = ([], same ∙ sym (append-nil (entries old)))

pub both_extend : (old mid new : walks.Walk) → Extends old mid → Extends mid new → Extends old new
both_extend old mid new first next = (first.0 ++ next.0, next.1 ∙ (ap (λ es. es ++ next.0) first.1 ∙ append_assoc (entries old) first.0 next.0))

pub grown : (old new : walks.Walk) → Extends old new → length (entries old) ≤ length (entries new)
grown old new more = omega (arith, ap length more.1, length-append (entries old) more.0)

same_listed : (front visited : List Text) (old new : walks.Walk) → entries new ≡ entries old → VisitLists front visited old → VisitLists front visited new
same_listed front visited old new same = subst (λ (es : List Entry). AreListed front visited (files_in_order es)) (sym same)

-- after the same files in front
pub same_front : (old begun now : walks.Walk) (visited : List Text) → entries begun ≡ entries old → VisitLists (listed_paths begun) visited now → VisitLists (listed_paths old) visited now
same_front old begun now visited same = subst (λ (es : List Entry). VisitLists (paths_of (files_in_order es)) visited now) same

-- nothing was visited
pub none_listed : (old new : walks.Walk) (visited : List Text) → entries new ≡ entries old → visited ≡ [] → VisitLists (listed_paths old) visited new
none_listed old new visited same none =
    subst (λ (v : List Text). VisitLists (listed_paths old) v new) (sym none) (same_listed (listed_paths old) [] old new same (all_visited (listed_paths old)))

pub first_listed : (walk : walks.Walk) (visited : List Text) → entries walk ≡ [] → visited ≡ [] → VisitLists [] visited walk
first_listed walk visited none not_yet =
    subst (λ (v : List Text). VisitLists [] v walk) (sym not_yet) (subst (λ (es : List Entry). AreListed [] [] (files_in_order es)) (sym none) (all_visited []))

-- a path that was read is passed over
pub listed_before : (walk : walks.Walk) (path : Text) → has_path walk path ≡ true → VisitLists (listed_paths walk) (path ∷ []) walk
listed_before walk path has =
    passed_over (listed_paths walk) [] (listed_paths walk) path (sym (has_listed walk path) ∙ has) (all_visited (listed_paths walk))

-- one path more was visited
pub next_listed : (front visited : List Text) (next : Text) (mid new : walks.Walk) → VisitLists front visited mid → Extends mid new
    → VisitLists (listed_paths mid) (next ∷ []) new → VisitLists front (visited ++ next ∷ []) new
next_listed front visited next mid new before more after =
    let files = files_in_order (entries mid) in
    let whole : files_in_order (entries new) ≡ files ++ map outline more.0 = ap files_in_order more.1 ∙ map-append outline (entries mid) more.0 in
    let wider : Visits bytes_eq (imports_at (files_in_order (entries new))) front visited (listed_paths mid) =
    visits_wider (imports_at files) (imports_at (files_in_order (entries new)))
    (λ x own is. subst (λ (fs : List File). imports_at fs x ≡ Some own) (sym whole) (imports_more files (map outline more.0) x own is))
    front visited (listed_paths mid) before in
    visits_on (imports_at (files_in_order (entries new))) front visited (listed_paths mid) (next ∷ []) (listed_paths new) wider after

-- the file itself comes last, once all that it imports was visited
pub file_listed : (old mid new : walks.Walk) (path : Text) (name : String Global) (file : kept.SourceFile) (ls : List lines.ImportLine)
    → VisitLists (listed_paths old) (map line_path ls) mid → map line_of ls ≡ file_imports file.tree → string_bytes name ≡ path
    → entries new ≡ entries mid ++ (name, file) ∷ [] → has_path old path ≡ false → has_path mid path ≡ false
    → VisitLists (listed_paths old) (path ∷ []) new
file_listed old mid new path name file ls before its same is none none_yet =
    let e : Entry = (name, file) in
    let files = files_in_order (entries mid) in
    let grown : files_in_order (entries new) ≡ files ++ outline e ∷ [] = ap files_in_order is ∙ map-append outline (entries mid) (e ∷ []) in
    let paths : map line_path ls ≡ import_paths (file_imports file.tree) = sym (paths_of_lines ls) ∙ ap import_paths its in
    let inner : Visits bytes_eq (imports_at (files ++ outline e ∷ [])) (listed_paths old) (map line_path ls) (paths_of files) =
    visits_wider (imports_at files) (imports_at (files ++ outline e ∷ [])) (λ x own known. imports_more files (outline e ∷ []) x own known)
    (listed_paths old) (map line_path ls) (paths_of files) before in
    let absent : is_path_of (paths_of files) (string_bytes name) ≡ false =
    subst (λ (p : Text). is_path_of (paths_of files) p ≡ false) (sym same) (sym (has_listed mid path) ∙ none_yet) in
    let leads : imports_at (files ++ outline e ∷ []) path ≡ Some (map line_path ls) =
    subst (λ (p : Text). imports_at (files ++ outline e ∷ []) p ≡ Some (import_paths (file_imports file.tree))) same (imports_last files (outline e) absent)
    ∙ ap (λ (ps : List Text). Some ps) (sym paths) in
    let listed : paths_of (files ++ outline e ∷ []) ≡ paths_of files ++ path ∷ [] =
    map-append (λ (f : File). f.path) files (outline e ∷ []) ∙ ap (λ (p : Text). paths_of files ++ p ∷ []) same in
    let visits : Visits bytes_eq (imports_at (files ++ outline e ∷ [])) (listed_paths old) (path ∷ []) (paths_of files ++ path ∷ []) =
    listed_last (listed_paths old) (map line_path ls) (paths_of files) [] (paths_of files ++ path ∷ []) path (sym (has_listed old path) ∙ none) leads inner
    (all_visited (paths_of files ++ path ∷ [])) in
    subst (λ (fs : List File). AreListed (listed_paths old) (path ∷ []) fs) (sym grown)
    (subst (λ (ps : List Text). Visits bytes_eq (imports_at (files ++ outline e ∷ [])) (listed_paths old) (path ∷ []) ps) (sym listed) visits)
