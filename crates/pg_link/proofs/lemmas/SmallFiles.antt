-- Each by computing it, but for what is never linked.
use Rattle.std.proofs.Common.{◌≡◌, ◌∙◌, false, inl, inr, zero, suc, true, List, [], ◌∷◌, Option, Some, codes, drop, refl, sym, subst, take, true≢false, arith, rules}
use Rattle.std.proofs.lemmas.List.Elements.{All-nil}
use Rattle.std.specs.List.{All, IsAmong}
use Rattle.std.specs.Str.{bytes_eq}
use Rattle.pg_link.specs.names.Files.{File, Import, Imports, Next, Further, HasNoCycle, InOrder, Differ, import_paths, is_path_of, paths_of}
use Rattle.pg_link.specs.names.Names.{Text}
use Rattle.pg_link.specs.walk.PostOrder.{imports_at}
use Rattle.pg_schema.specs.standing.Visits.{Visits, all_visited, listed_last, passed_over}
use Rattle.pg_link.specs.SmallFiles.{SmallFiles, IsImporting, chain, declared, file_a, file_b, file_c, file_d, line}
use Rattle.pg_link.specs.names.Standing.{Standing, NoneTwice, may_share, standing}
use Rattle.pg_link.specs.declared.names.Kind.TheVariants.{Message, Package}
use Rattle.pg_link.specs.walk.Walk.{outlines}
use Rattle.pg_link.proofs.lemmas.names.OnceLaws.{once_per_name}
use Rattle.pg_link.proofs.lemmas.walk.PostOrderLaws.{visits_once}
use Rattle.pg_link.proofs.lemmas.names.SeenPaths.{among_map}
use Rattle.pg_link.proofs.lemmas.names.VisibleLaws.{first_among}

-- a file that is there imports the first of its paths
imports_it : (files : List File) (path other : Text) (others : List Text) (f : File) → IsAmong files f → IsImporting path (other ∷ others) f → Imports files path other
imports_it files path other others f there importing =
    let among = subst (λ (paths : List Text). IsAmong paths other) (sym importing.are_imports) (first_among other others) in
    let line = among_map (λ (l : Import). l.path) f.imports other among in
    record { file = f; line = line.0; is_there = there; has_line = line.1; from_path = importing.is_path; to_other = line.2 }

circle_of_two : (files : List File) (path other : Text) → Imports files path other → Imports files other path → HasNoCycle files → ⊥
circle_of_two files path other there back none = none path (Further there (Next back))

circle_of_one : (files : List File) (path : Text) → Imports files path path → HasNoCycle files → ⊥
circle_of_one files path there none = none path (Next there)

of_one : {X : Type 0} (P : X → Type 0) (x : X) → P x → All P (x ∷ [])
of_one P x is h4 d inside = grind arith

-- of files in order, none imports a path twice
imports_differ : (files : List File) → InOrder files → (file : File) → IsAmong files file → Differ (import_paths file.imports)
imports_differ [] order file (i, (within, is)) = absurd (omega (arith, within))
imports_differ (f ∷ files) order file (zero, (within, is)) = subst (λ (x : File). Differ (import_paths x.imports)) (sym is) order.1
imports_differ (f ∷ files) order file (suc i, (within, is)) = imports_differ files order.2 file (i, (omega (arith, within), is))

-- the first two have one name, and may not share it
clash : (s t : Standing) (more : List Standing) → NoneTwice (s ∷ (t ∷ more)) → s.declared.name ≡ t.declared.name → may_share s.declared.kind t.declared.kind ≡ false → ⊥
clash s t more none name not = true≢false (sym (once_per_name (s ∷ (t ∷ more)) none 0 1 s t (omega arith) refl refl name) ∙ not)

-- ---- the order of files

abbrev a : Text
a = codes "a.proto"

abbrev b : Text
b = codes "b.proto"

abbrev c : Text
c = codes "c.proto"

abbrev d : Text
d = codes "d.proto"

-- where b.proto imports d.proto alone
module _ (leads : Text → Option (List Text)) (of_b : leads b ≡ Some (d ∷ [])) (of_d : leads d ≡ Some []) where
  d_listed : Visits bytes_eq leads [] (d ∷ []) (d ∷ [])
  d_listed = listed_last [] [] [] [] (d ∷ []) d refl of_d (all_visited []) (all_visited (d ∷ []))

  b_listed : (later listed : List Text) → Visits bytes_eq leads (d ∷ b ∷ []) later listed → Visits bytes_eq leads [] (b ∷ later) listed
  b_listed later listed rest = listed_last [] (d ∷ []) (d ∷ []) later listed b refl of_b d_listed rest

  both_listed : leads c ≡ Some (d ∷ []) → Visits bytes_eq leads [] (b ∷ c ∷ []) (d ∷ b ∷ c ∷ [])
  both_listed of_c = b_listed (c ∷ []) (d ∷ b ∷ c ∷ []) (listed_last (d ∷ b ∷ []) (d ∷ []) (d ∷ b ∷ []) [] (d ∷ b ∷ c ∷ []) c refl of_c
      (passed_over (d ∷ b ∷ []) [] (d ∷ b ∷ []) d refl (all_visited (d ∷ b ∷ []))) (all_visited (d ∷ b ∷ c ∷ [])))

  a_listed : leads a ≡ Some (b ∷ c ∷ []) → leads c ≡ Some (d ∷ []) → Visits bytes_eq leads [] (a ∷ []) (d ∷ b ∷ c ∷ a ∷ [])
  a_listed of_a of_c = listed_last [] (b ∷ c ∷ []) (d ∷ b ∷ c ∷ []) [] (d ∷ b ∷ c ∷ a ∷ []) a refl of_a (both_listed of_c) (all_visited (d ∷ b ∷ c ∷ a ∷ []))

-- of two lists of one visit the second path is one
not_second : (leads : Text → Option (List Text)) (visited first second : List Text) → Visits bytes_eq leads [] visited first → Visits bytes_eq leads [] visited second
    → is_path_of (take 1 (drop 1 first)) b ≡ true → is_path_of (take 1 (drop 1 second)) b ≡ false → ⊥
not_second leads visited first second one other has has_not = search (rules, true≢false, visits_once)

abbrev backwards : Text → Option (List Text)
backwards = imports_at (file_d ∷ file_c ∷ file_b ∷ file_a ∷ [])

abbrev two_backwards : Text → Option (List Text)
two_backwards = imports_at (file_d ∷ file_c ∷ file_b ∷ [])

pub small_files : SmallFiles
small_files = record {
  first_part_decides = refl;
  leading_dot = refl;
  leading_dot_seeks_no_scope = refl;
  package_is_a_first_part = refl;
  package_is_no_word = refl;
  innermost_counts = refl;
  outwards = refl;
  package_shadows = refl;
  leading_dot_sees_behind = refl;
  unseen_package_shadows_nothing = refl;
  seen_package_shadows = refl;
  import_is_not_handed_on = refl;
  another_file_has_it = refl;
  public_import_is_handed_on = refl;
  through_two_files = refl;
  importers_are_not_seen = refl;
  seen = refl;
  each_stands_before_its_imports =
      let ready = λ (files : List File) (path : Text). is_path_of (paths_of files) path ≡ true in
      let last : Import = line (codes "c.proto") in
      let fourth : InOrder (drop 3 (chain last)) = (All-nil (ready []), tt, tt) in
      let third : InOrder (drop 2 (chain last)) = (of_one (ready (drop 3 (chain last))) (codes "d.proto") refl, (refl, tt), fourth) in
      let second : InOrder (drop 1 (chain last)) = (of_one (ready (drop 2 (chain last))) (codes "c.proto") refl, (refl, tt), third) in
      (of_one (ready (drop 1 (chain last))) (codes "b.proto") refl, (refl, tt), second);
  each_path_once = (refl, (refl, (refl, (refl, tt))));
  circle_of_two = λ w entries f g f_there g_there f_imports g_imports linked. circle_of_two (outlines entries) (codes "a.proto") (codes "b.proto")
      (imports_it (outlines entries) (codes "a.proto") (codes "b.proto") [] f f_there f_imports)
      (imports_it (outlines entries) (codes "b.proto") (codes "a.proto") [] g g_there g_imports) linked.no_cycle;
  circle_of_one = λ w entries f there importing linked. circle_of_one (outlines entries) (codes "a.proto")
      (imports_it (outlines entries) (codes "a.proto") (codes "a.proto") [] f there importing) linked.no_cycle;
  import_twice = λ w entries f there importing linked.
      true≢false (subst (λ (paths : List Text). Differ paths) importing.are_imports (imports_differ (outlines entries) linked.in_order f there)).0;
  import_twice_apart = λ w entries f there importing linked.
      true≢false (subst (λ (paths : List Text). Differ paths) importing.are_imports (imports_differ (outlines entries) linked.in_order f there)).0;
  from_the_first_import = a_listed (imports_at (file_d ∷ file_b ∷ file_c ∷ file_a ∷ [])) refl refl refl refl;
  not_from_the_last_import = λ last. not_second backwards (a ∷ []) (d ∷ b ∷ c ∷ a ∷ []) (d ∷ c ∷ b ∷ a ∷ [])
      (a_listed backwards refl refl refl refl) last refl refl;
  from_the_first_root = both_listed (imports_at (file_d ∷ file_b ∷ file_c ∷ [])) refl refl refl;
  not_from_the_last_root = λ last. not_second two_backwards (b ∷ c ∷ []) (d ∷ b ∷ c ∷ []) (d ∷ c ∷ b ∷ [])
      (both_listed two_backwards refl refl refl) last refl refl;
  not_before_its_imports = λ before. not_second (imports_at (file_b ∷ file_d ∷ [])) (b ∷ []) (d ∷ b ∷ []) (b ∷ d ∷ [])
      (b_listed (imports_at (file_b ∷ file_d ∷ [])) refl refl [] (d ∷ b ∷ []) (all_visited (d ∷ b ∷ []))) before refl refl;
  field_is_passed_over = refl;
  service_is_passed_over = refl;
  full_name_of_a_service = refl;
  method_is_in_its_service = refl;
  value_is_beside_its_enum = refl;
  no_value_is_in_an_enum = refl;
  member_is_beside_its_oneof = refl;
  entry_is_found = refl;
  nothing_is_in_an_entry = refl;
  message_twice = λ none. clash (standing 0 (declared Message (codes ".A"))) (standing 0 (declared Message (codes ".A"))) [] none refl refl;
  package_behind_message = λ none. clash (standing 0 (declared Message (codes ".p"))) (standing 1 (declared Package (codes ".p"))) [] none refl refl;
  message_behind_package = λ none. clash (standing 0 (declared Package (codes ".p"))) (standing 1 (declared Message (codes ".p"))) [] none refl refl;
  message_in_its_package = (inl refl, (inl refl, tt));
  package_of_two_files = (inr (_, refl, refl), (inl refl, tt));
}
