-- No full name of the parts of linked files is a part of a package.
use Rattle.std.proofs.Common.{◌≡◌, ◌∙◌, ℕ, ◌≤◌, Bool, true, false, not, ◌&&◌, List, [], ◌∷◌, length, map, flat_map, Option, Some, None, string_bytes, sym, ap, refl, arith, rules}
use Rattle.std.specs.List.{list_all, AllByRecursion}
use Rattle.std.proofs.lemmas.Bool.{false≢true}
use Rattle.pg_schema.specs.declared.parts.file.File.{File}
use Rattle.pg_schema.specs.declared.parts.Parts.{Parts}
use Rattle.pg_schema.specs.rules.DeclaredNames.{declared_names, within}
use Rattle.pg_schema.specs.rules.Packages.{are_free_of, is_free_of, is_front}
use Rattle.pg_link.specs.names.Files.{Declared as Name}
use Rattle.pg_link.specs.Linked.{IsLinkedUp, LinkedFiles}
use Rattle.pg_link.specs.names.Outline.{file_names}
use Rattle.pg_link.specs.uses.Targets.{all_declared}
use Rattle.pg_link.specs.walk.Walk.{Entry}
use Rattle.pg_schema.proofs.lemmas.rules.PairLemmas.{and_both}
use Rattle.pg_check.specs.rules.Enums as enums
use Rattle.pg_check.specs.rules.KeepsRules.{source_messages}
use Rattle.pg_check.specs.parts.MadeParts.{ArePartsOf, EachIs, FileShape, IsFileOf, Source, nothing, with_files}
use Rattle.pg_check.specs.parts.MadeServices.{MadeMethod, MadeService}
use Rattle.pg_check.specs.rules.Outline.{Enum, Message, scoped_enums, file_messages, package_in, package_of}
use Rattle.pg_check.specs.parts.Sources.{linked_source, linked_sources}
use Rattle.pg_check.proofs.lemmas.parts.names.DeclaredTotals.{inside, method_counts, of_enum_type, of_made_service, of_message_type, value_texts}
use Rattle.pg_check.proofs.lemmas.parts.Eachs.{each_weaker, joined_all}
use Rattle.pg_check.proofs.lemmas.parts.kept.KeptFiles.{each_shape, source_enums}
use Rattle.pg_check.proofs.lemmas.parts.names.NamedOnce.{none_of, once_named, part, weight}
use Rattle.pg_check.proofs.lemmas.parts.places.PartPlaces.{IsSettledSource, ServiceUnder, all_services_under, scoped_services}
use Rattle.pg_check.proofs.lemmas.parts.names.PlacedNames.{in_all, names_counted, names_in_files, settled_files}
use Rattle.pg_check.proofs.lemmas.parts.places.ScopesOnce.{package_front}
use Rattle.pg_check.proofs.lemmas.parts.Totals.{one, same_one, times, total, total_joined, total_map}
use Rattle.pg_check.proofs.lemmas.parts.names.WordedFiles.{IsGoodEnum, IsGoodEnumPart, IsGoodMessage, IsGoodFile, some_within}
use Rattle.pg_syntax.specs.declared.tree as tree
use Rattle.pg_syntax.specs.declared.tree.EnumPart.TheVariants as enum_parts

-- ---- no full name is empty

one_none : (x : List ℕ) → 1 ≤ length x → one [] x ≡ 0
one_none x h = grind arith

long_within : (scope x : List ℕ) → 1 ≤ length scope → 1 ≤ length (within scope x)
long_within scope x h = grind arith

none_inside : (scope : List ℕ) (xs : List (List ℕ)) → 1 ≤ length scope → total (inside (one (46 ∷ [])) scope) xs ≡ 0
none_inside scope [] h = refl
none_inside scope (x ∷ xs) h = let rest = none_inside scope xs h in let first : one [] (within scope x) ≡ 0 = one_none (within scope x) (long_within scope x h) in omega (arith, rest, first)

none_methods : (scope : List ℕ) (ms : List MadeMethod) → 1 ≤ length scope → total (method_counts (one (46 ∷ [])) scope) ms ≡ 0
none_methods scope ms h = sym (total_map (inside (one (46 ∷ [])) scope) (λ (m : MadeMethod). m.name) ms) ∙ none_inside scope (map (λ (m : MadeMethod). m.name) ms) h

no_message : (ms : List Message) → AllByRecursion IsGoodMessage ms → total (of_message_type (one (46 ∷ []))) ms ≡ 0
no_message [] h = refl
no_message (m ∷ ms) h = search (rules, one_none, none_inside, no_message ms h.1)

no_value : (scope : List ℕ) (ps : List enums.Part) → AllByRecursion IsGoodEnumPart ps → total (inside (one (46 ∷ [])) scope) (value_texts ps) ≡ 0
no_value scope [] h = refl
no_value scope (enum_parts.Empty span ∷ ps) h = no_value scope ps h.1
no_value scope (enum_parts.Option o ∷ ps) h = no_value scope ps h.1
no_value scope (enum_parts.Reserved r ∷ ps) h = no_value scope ps h.1
no_value scope (enum_parts.Value v ∷ ps) h = search (rules, one_none, some_within, no_value scope ps h.1)

no_enum : (es : List Enum) → AllByRecursion IsGoodEnum es → total (of_enum_type (one (46 ∷ []))) es ≡ 0
no_enum [] h = refl
no_enum (e ∷ es) h = search (rules, some_within, string_bytes, one_none, no_value, no_enum es h.1)

no_service : (xs : List (List ℕ × MadeService)) → AllByRecursion ServiceUnder xs → total (of_made_service (one (46 ∷ []))) (map (λ (s : List ℕ × MadeService). s.1) xs) ≡ 0
no_service [] h = refl
no_service (x ∷ xs) h = search (rules, some_within, one_none, none_methods, no_service xs h.1)

all_good_messages : (ss : List Source) → AllByRecursion IsSettledSource ss → AllByRecursion IsGoodMessage (flat_map source_messages ss)
all_good_messages [] h = tt
all_good_messages (s ∷ ss) h = joined_all IsGoodMessage (file_messages s.tree) (flat_map source_messages ss) h.0.good.messages (all_good_messages ss h.1)

all_good_enums : (ss : List Source) → AllByRecursion IsSettledSource ss → AllByRecursion IsGoodEnum (flat_map source_enums ss)
all_good_enums [] h = tt
all_good_enums (s ∷ ss) h = joined_all IsGoodEnum (scoped_enums s.tree) (flat_map source_enums ss) h.0.good.enums (all_good_enums ss h.1)

none_empty : (ss : List Source) → AllByRecursion IsSettledSource ss → in_all [] ss ≡ 0
none_empty ss h = search (rules, no_message, flat_map, all_good_messages, no_enum, source_enums, all_good_enums, no_service, scoped_services, all_services_under)

-- ---- all packages

-- what fails the test is nowhere
none_fails : (test : List ℕ → Bool) (xs : List (List ℕ)) → ((y : List ℕ) → test y ≡ true → times y xs ≡ 0) → list_all (λ y. not (test y)) xs ≡ true
none_fails test [] h = refl
none_fails test (x ∷ xs) h = by (test x) refl (none_fails test xs (λ y k. let none : times y (x ∷ xs) ≡ 0 = h y k in omega (arith, none)))
  where
    by : (b : Bool) → test x ≡ b → list_all (λ y. not (test y)) xs ≡ true → (not (test x) && list_all (λ y. not (test y)) xs) ≡ true
    by true is rest = let none : times x (x ∷ xs) ≡ 0 = h x is in let here : one x x ≡ 1 = same_one x in absurd (omega (arith, none, here))
    by false is rest = and_both (not (test x)) (list_all (λ y. not (test y)) xs) (ap not is) rest

-- of what is summed up over files
below_all : (g : Name → ℕ) (files : List Entry) → AllByRecursion (λ (e : Entry). total g (file_names e.1.tree) ≤ total g (all_declared files)) files
below_all g [] = tt
below_all g (e ∷ es) = search (rules, total_joined, each_weaker, below_all g es)

module _ (l : LinkedFiles) (up : IsLinkedUp l) (parts : Parts) (are : ArePartsOf (linked_sources l.files) parts) where
  abbrev counted : (y : List ℕ) → times y (declared_names parts) ≡ total (weight (one (46 ∷ y))) (all_declared l.files)
  counted = names_counted l up parts are

  empty_nowhere : times [] (declared_names parts) ≡ 0
  empty_nowhere = counted [] ∙ (names_in_files l up parts are [] ∙ none_empty (linked_sources l.files) (settled_files l up))

  abbrev BelowAll : Entry → Type 0
  BelowAll e = (y : List ℕ) → total (part (one (46 ∷ y))) (file_names e.1.tree) ≤ total (part (one (46 ∷ y))) (all_declared l.files)

  file_free : (e : Entry) → IsGoodFile e.1.tree → BelowAll e → is_free_of (declared_names parts) (package_of e.1.tree) ≡ true
  file_free e good below = none_fails (λ y. is_front y (package_of e.1.tree)) (declared_names parts) (λ y. by e.1.tree.packaged refl y)
    where
      by : (p : Option tree.Packaged.Packaged) → e.1.tree.packaged ≡ p → (y : List ℕ) → is_front y (package_of e.1.tree) ≡ true → times y (declared_names parts) ≡ 0
      by None is [] front = empty_nowhere
      by None is (c ∷ cs) front = absurd (false≢true (ap (λ q. is_front (c ∷ cs) (package_in q)) (sym is) ∙ front))
      by (Some p) is y front =
          let here : 1 ≤ total (part (one (46 ∷ y))) (file_names e.1.tree) = package_front e.1.tree p y good is front in
          let more = below y in
          let some : 1 ≤ total (part (one (46 ∷ y))) (all_declared l.files) = omega (arith, here, more) in
          counted y ∙ none_of (weight (one (46 ∷ y))) (part (one (46 ∷ y))) (all_declared l.files) some (once_named l.files up.once (46 ∷ y)).alone

  abbrev ShapeFree : FileShape → Type 0
  ShapeFree w = is_free_of (declared_names parts) (package_of w.tree) ≡ true

  sources_free : (es : List Entry) → AllByRecursion IsSettledSource (map (linked_source l.files) es) → AllByRecursion BelowAll es → AllByRecursion (λ (s : Source). is_free_of (declared_names parts) (package_of s.tree) ≡ true) (map (linked_source l.files) es)
  sources_free [] h k = tt
  sources_free (e ∷ es) h k = (file_free e h.0.good k.0, sources_free es h.1 k.1)

  files_free : (ws : List FileShape) (fs : List File) → EachIs IsFileOf ws fs → AllByRecursion ShapeFree ws → are_free_of (declared_names parts) fs ≡ true
  files_free [] [] is h = refl
  files_free [] (x ∷ fs) is h = absurd is
  files_free (w ∷ ws) [] is h = absurd is
  files_free (w ∷ ws) (x ∷ fs) is h = search (rules, and_both, string_bytes, files_free ws fs is.1 h.1)

  below : (es : List Entry) → ((y : List ℕ) → AllByRecursion (λ (e : Entry). total (part (one (46 ∷ y))) (file_names e.1.tree) ≤ total (part (one (46 ∷ y))) (all_declared l.files)) es) → AllByRecursion BelowAll es
  below [] h = tt
  below (e ∷ es) h = ((λ y. (h y).0), below es (λ y. (h y).1))

  pub free_packages : are_free_of (declared_names parts) parts.files.items ≡ true
  free_packages =
      files_free (with_files nothing (linked_sources l.files)).files parts.files.items are.files
      (each_shape ShapeFree (λ (s : Source). is_free_of (declared_names parts) (package_of s.tree) ≡ true) (λ d s h. h) nothing (linked_sources l.files) tt (sources_free l.files (settled_files l up) (below l.files (λ y. below_all (part (one (46 ∷ y))) l.files))))
