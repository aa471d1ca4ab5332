-- Files that have no order: just those with a path or an import that occurs twice, an import that isn't there, or imports that go round.
use Rattle.std.proofs.Common.{◌≡◌, ◌⊎◌, inl, inr, is_some, ℕ, zero, suc, ◌<◌, Bool, true, false, cond, ◌&&◌, ◌||◌, List, [], ◌∷◌, ◌++◌, find, length, map, Option, Some, None, option_map, option_and_then, refl, ap, sym, subst, ◌∙◌, arith, rules}
use Rattle.std.proofs.lemmas.Bool.{false≢true}
use Rattle.std.proofs.lemmas.List.{length-map}
use Rattle.std.proofs.lemmas.List.Folds.{list_all-map, list_any-from_Any}
use Rattle.std.proofs.lemmas.Map.Made.{length-le_from_is_member}
use Rattle.std.proofs.lemmas.Option.{none-some, same_Some, slice_get-map, slice_get_read}
use Rattle.std.specs.Prelude.{IsSomeAnd}
use Rattle.std.specs.List.{AllByRecursion, Any, IsDistinct, list_all}
use Rattle.std.specs.Str.{bytes_eq}
use Rattle.pg_schema.specs.rules.Pairs.{are_distinct, differ}
use Rattle.pg_schema.specs.rules.TextSets.{is_among}
use Rattle.pg_schema.proofs.lemmas.rules.PairLemmas.{and_left, and_right}
use Rattle.pg_dyn.specs.message.Message.{Message}
use Rattle.pg_dyn.proofs.lemmas.views.SelfSame.{bytes_eq_self}
use Rattle.pg_dyn.proofs.Lists.{each_weaker}
use Rattle.pg_set.specs.refusals.BadReferences.{IsBadReference, IsTrail}
use Rattle.pg_set.specs.refusals.BadReferences as causes
use Rattle.pg_schema.specs.standing.Visits.{Visits}
use Rattle.pg_set.specs.stated.PostOrder.{Importer, importer_of, imports_at, imports_once, kept_paths, paths_of}
use Rattle.pg_set.specs.inner.reading.FilePlaces.{IsPostOrder}
use Rattle.pg_set.specs.declared.descriptor.proto.TheConstants as proto
use Rattle.pg_set.specs.stated.SetMessages.{text_at, texts_at}
use Rattle.pg_set.specs.stated.StatedNames.{each, only_if}
use Rattle.pg_set.specs.stated.StatedOrder.{Paths, file_at, in_post_order, paths_in_post_order, visit, visit_each, visit_one}
use Rattle.pg_set.proofs.lemmas.order.SetLaws.{paths_are}
use Rattle.pg_set.proofs.lemmas.order.StatedOrder.{no_order}
use Rattle.pg_set.proofs.lemmas.order.VisitLaws.{visit_lists}
use Rattle.pg_set.proofs.lemmas.order.Visited.{Among, AreClosed, Text, all_behind, all_listed, among_found, differs, is_file, rank, same_bytes, same_texts, there_at, visited_listed}
use Rattle.pg_set.proofs.lemmas.refusals.Steps.{any_false, any_here, any_there, any_weaker, by_test, each_none, false_any, map_none, of_and, of_cond, of_only, of_then}

-- ---- where visits come to nothing

module _ (leads : Text → Option (List Text)) where
  abbrev pub Misses : Type 0
  Misses = (x : Text) × (own : List Text) × (leads x ≡ Some own) × Any (λ y. leads y ≡ None) own

  -- paths from this one on, each of which leads to some
  abbrev pub Walk : ℕ → Text → Type 0
  Walk depth x = (ys : List Text) × (length ys ≡ depth) × IsTrail leads x ys × AllByRecursion (λ y. (own : List Text) × (leads y ≡ Some own)) (x ∷ ys)

  -- a path that leads nowhere, one that isn't there, or so many steps on
  abbrev pub Stops : ℕ → Text → Type 0
  Stops depth x = (leads x ≡ None) ⊎ (Misses ⊎ Walk depth x)

  at_once : (x : Text) → Stops zero x
  at_once x = of (leads x) refl
    where
      of : (o : Option (List Text)) → leads x ≡ o → Stops zero x
      of None is = inl is
      of (Some own) is = inr (inr ([], refl, tt, ((own, is), tt)))

  one_more : (depth : ℕ) (x : Text) (own : List Text) → leads x ≡ Some own → Any (Stops depth) own → Stops (suc depth) x
  one_more depth x own is (k, y, h, e, stops) = of stops
    where
      led : IsSomeAnd (leads x) (λ imports. is_among imports y ≡ true)
      led = subst (λ o. IsSomeAnd o (λ imports. is_among imports y ≡ true)) (sym is) (list_any-from_Any (bytes_eq y) own (k, y, h, e, bytes_eq_self y))

      of : Stops depth y → Stops (suc depth) x
      of (inl none) = inr (inl (x, own, is, (k, y, h, e, none)))
      of (inr (inl misses)) = inr (inl misses)
      of (inr (inr (ys, long, trail, lead))) = inr (inr (y ∷ ys, ap suc long, (led, trail), ((own, is), lead)))

  module _ (depth : ℕ) (inside : (front own : List Text) → visit depth leads front own ≡ None → Any (Stops depth) own) where
    one_stops : (front : List Text) (x : Text) → visit_one (visit depth leads) leads front x ≡ None → Stops (suc depth) x
    one_stops front x h =
        of_cond (is_among front x) (Some front) (option_map (λ listed. listed ++ x ∷ []) (option_and_then (visit depth leads front) (leads x))) h
        (λ there none. absurd (none-some front (sym none)))
        (λ new none.
        of_then (visit depth leads front) (leads x) (map_none (λ listed. listed ++ x ∷ []) (option_and_then (visit depth leads front) (leads x)) none) inl
        (λ own is nothing. one_more depth x own is (inside front own nothing)))

    each_stops : (visited front : List Text) → visit_each (visit depth leads) leads front visited ≡ None → Any (Stops (suc depth)) visited
    each_stops [] front h = absurd (none-some front (sym h))
    each_stops (x ∷ xs) front h =
        of_then (λ listed. visit_each (visit depth leads) leads listed xs) (visit_one (visit depth leads) leads front x) h
        (λ none. any_here (Stops (suc depth)) x xs (one_stops front x none)) (λ listed is none. any_there (Stops (suc depth)) x xs (each_stops xs listed none))

  visit_stops : (depth : ℕ) (front visited : List Text) → visit depth leads front visited ≡ None → Any (Stops depth) visited
  visit_stops zero front [] h = absurd (none-some front (sym h))
  visit_stops zero front (x ∷ xs) h = any_here (Stops zero) x xs (at_once x)
  visit_stops (suc depth) front visited h = each_stops depth (visit_stops depth) visited front h

  -- ---- a trail that comes by a path twice goes round

  abbrev pub GoesRound : Type 0
  GoesRound = (x : Text) × (between : List Text) × IsTrail leads x (between ++ x ∷ [])

  -- the beginning of a trail, up to a path on it
  trail_to : (x : Text) (ys : List Text) (z : Text) → IsTrail leads x ys → is_among ys z ≡ true → (between : List Text) × IsTrail leads x (between ++ z ∷ [])
  trail_to x [] z trail among = absurd (false≢true among)
  trail_to x (y ∷ ys) z trail among =
      by_test (bytes_eq z y) (λ e. ([], (subst (λ w. IsSomeAnd (leads x) (λ imports. is_among imports w ≡ true)) (sym (same_bytes z y e)) trail.0, tt)))
      (λ e. let rest = trail_to y ys z trail.1 (ap (λ b. b || is_among ys z) (sym e) ∙ among) in (y ∷ rest.0, (trail.0, rest.1)))

  differ_none : (x : Text) (ys : List Text) → list_all (differ x) ys ≡ false → is_among ys x ≡ true
  differ_none x [] h = absurd (false≢true (sym h))
  differ_none x (y ∷ ys) h = search (rules, differ_none x ys)

  trail_round : (x : Text) (ys : List Text) → IsTrail leads x ys → are_distinct (x ∷ ys) ≡ false → GoesRound
  trail_round x [] trail h = absurd (false≢true (sym h))
  trail_round x (y ∷ ys) trail h =
      of_and (list_all (differ x) (y ∷ ys)) (are_distinct (y ∷ ys)) h
      (λ twice. let front = trail_to x (y ∷ ys) x trail (differ_none x (y ∷ ys) twice) in (x, front.0, front.1)) (λ apart rest. trail_round y ys trail.1 rest)

-- ---- strings that occur once are no more than those that they are among

apart : (x : Text) (xs : List Text) → list_all (differ x) xs ≡ true → AllByRecursion (λ y. bytes_eq x y ≡ false) xs
apart x [] h = tt
apart x (y ∷ xs) h = (differs x y (and_left (differ x y) (list_all (differ x) xs) h), apart x xs (and_right (differ x y) (list_all (differ x) xs) h))

distinct : (xs : List Text) → are_distinct xs ≡ true → IsDistinct bytes_eq xs
unfolding IsDistinct
distinct [] once = tt
distinct (x ∷ xs) once = (apart x xs (and_left (list_all (differ x) xs) (are_distinct xs) once), distinct xs (and_right (list_all (differ x) xs) (are_distinct xs) once))

-- ---- ranks fall along imports

all_at : (P : Text → Type 0) (xs : List Text) (y : Text) → AllByRecursion P xs → is_among xs y ≡ true → P y
all_at P [] y all among = absurd (false≢true among)
all_at P (x ∷ xs) y all among = search (rules, all_at P xs y all.1, same_bytes)

there_and : (o : Option (List Text)) (P : List Text → Type 0) → IsSomeAnd o P → (own : List Text) × (o ≡ Some own) × P own
there_and None P h = absurd h
there_and (Some own) P h = (own, refl, h)

module _ (leads : Text → Option (List Text)) where
  begins : (x : Text) (ys : List Text) (z : Text) → IsTrail leads x (ys ++ z ∷ []) → (own : List Text) × (leads x ≡ Some own)
  begins x [] z trail = let there = there_and (leads x) (λ own. is_among own z ≡ true) trail.0 in (there.0, there.1)
  begins x (y ∷ ys) z trail = let there = there_and (leads x) (λ own. is_among own y ≡ true) trail.0 in (there.0, there.1)

  module _ (listed : List Text) (closed : AreClosed leads listed) where
    step_falls : (x y : Text) → Among listed x → IsSomeAnd (leads x) (λ own. is_among own y ≡ true) → Among listed y × (rank listed y < rank listed x)
    step_falls x y among step = search (rules, all_at, Among, rank)

    trail_falls : (x : Text) (ys : List Text) (z : Text) → Among listed x → IsTrail leads x (ys ++ z ∷ []) → rank listed z < rank listed x
    trail_falls x [] z among trail = (step_falls x z among trail.0).1
    trail_falls x (y ∷ ys) z among trail =
        let first = step_falls x y among trail.0 in
        let one = first.1 in
        let rest = trail_falls y ys z first.0 trail.1 in
        omega (arith, one, rest)

-- ---- files

module _ (skips : Bool) (files : List Message) where
  abbrev importers : List Importer
  importers = map (importer_of skips) files

  abbrev leads_on : Text → Option (List Text)
  leads_on = imports_at importers

  abbrev names : List Text
  names = map (text_at proto.FILE_NAME) files

  not_there : (x : Text) → file_at files x ≡ None → is_among names x ≡ false
  not_there x h = among_found (text_at proto.FILE_NAME) x files ∙ ap is_some h

  leads_nowhere : (x : Text) → leads_on x ≡ None → is_among (paths_of importers) x ≡ false
  leads_nowhere x h = search (rules, among_found, is_some, map_none)

  -- what holds of the imports of a path holds of those of some file
  of_some_file : (P : List Text → Type 0) (x : Text) (own : List Text) → P own → (ms : List Message) → imports_at (map (importer_of skips) ms) x ≡ Some own
      → Any (λ m. P (kept_paths skips (texts_at proto.FILE_DEPENDENCY m))) ms
  of_some_file P x own p [] h = absurd (none-some own h)
  of_some_file P x own p (m ∷ ms) h = of (bytes_eq (text_at proto.FILE_NAME m) x) h (of_some_file P x own p ms)
    where
      Q : Message → Type 0
      Q m = P (kept_paths skips (texts_at proto.FILE_DEPENDENCY m))

      of : (b : Bool) → option_map (λ (i : Importer). i.imports) (cond b (Some (importer_of skips m)) (find (λ (i : Importer). bytes_eq i.path x) (map (importer_of skips) ms))) ≡ Some own
          → (imports_at (map (importer_of skips) ms) x ≡ Some own → Any Q ms) → Any Q (m ∷ ms)
      of true h later = any_here Q m ms (subst P (sym (same_Some (kept_paths skips (texts_at proto.FILE_DEPENDENCY m)) own h)) p)
      of false h later = any_there Q m ms (later h)

  there : (x : Text) → Among (paths_of importers) x → is_among names x ≡ true
  there x among = subst (λ paths. is_among paths x ≡ true) (paths_are skips files) among

  missing : Misses leads_on → IsBadReference skips files
  missing (x, own, is, none) =
      causes.import_missing
      (of_some_file (λ paths. Any (λ path. is_among names path ≡ false) paths) x own
      (any_weaker (λ y. leads_on y ≡ None) (λ path. is_among names path ≡ false) own
      (λ y one none. ap (λ paths. is_among paths y) (sym (paths_are skips files)) ∙ leads_nowhere y none) none) files is)

  many_files : length (paths_of importers) ≡ length importers
  many_files = length-map importers (λ (i : Importer). i.path)

  -- as many steps on as there are files, a path comes twice
  of_walk : (x : Text) → Walk leads_on (length importers) x → IsBadReference skips files
  of_walk x (ys, long, trail, lead) = by_test (are_distinct (x ∷ ys)) once (λ twice. let round = trail_round leads_on x ys trail twice in causes.imports_go_round round.0 round.1 round.2)
    where
      once : are_distinct (x ∷ ys) ≡ true → IsBadReference skips files
      once single =
          let all = each_weaker (λ y. (own : List Text) × (leads_on y ≡ Some own)) (Among (paths_of importers)) (λ y leads. is_file importers y leads.0 leads.1) (x ∷ ys) lead in
          let most = length-le_from_is_member same_texts (x ∷ ys) (paths_of importers) (distinct (x ∷ ys) single) (all_listed (paths_of importers) (x ∷ ys) all) in
          let many = many_files in
          absurd (omega (arith, most, many, long))

  abbrev once : Bool
  once = are_distinct (paths_of importers) && list_all imports_once importers

  abbrev visited : Option (List Text)
  visited = visit (length importers) leads_on [] (paths_of importers)

  bad_visit : visited ≡ None → IsBadReference skips files
  bad_visit h = of (visit_stops leads_on (length importers) [] (paths_of importers) h)
    where
      of : Any (Stops leads_on (length importers)) (paths_of importers) → IsBadReference skips files
      of (k, x, h, e, inl none) = absurd (false≢true (sym (leads_nowhere x none) ∙ list_any-from_Any (bytes_eq x) (paths_of importers) (k, x, h, e, bytes_eq_self x)))
      of (k, x, h, e, inr (inl misses)) = missing misses
      of (k, x, h, e, inr (inr walk)) = of_walk x walk

  bad_paths : paths_in_post_order importers ≡ None → IsBadReference skips files
  bad_paths h =
      of_only once visited h
      (λ none.
      of_and (are_distinct (paths_of importers)) (list_all imports_once importers) none
      (λ twice. causes.path_twice (subst (λ paths. are_distinct paths ≡ false) (paths_are skips files) twice))
      (λ apart twice. causes.import_twice (any_false (λ m. imports_once (importer_of skips m)) files (sym (list_all-map imports_once (importer_of skips) files) ∙ twice))))
      bad_visit

  -- what is in order are files
  all_there : (paths : List Text) → paths_in_post_order importers ≡ Some paths → Any (λ x. file_at files x ≡ None) paths → IsBadReference skips files
  all_there paths is (k, x, h, e, none) =
      let listed : Visits bytes_eq leads_on [] (paths_of importers) paths = visit_lists leads_on (length importers) [] (paths_of importers) paths (kept once is) in
      let (own, leads, behind) = all_behind leads_on (paths_of importers) paths listed x (list_any-from_Any (bytes_eq x) paths (k, x, h, e, bytes_eq_self x)) in
      absurd (false≢true (sym (not_there x none) ∙ there x (is_file importers x own leads)))
    where
      kept : (b : Bool) → only_if b visited ≡ Some paths → visited ≡ Some paths
      kept true h = h
      kept false h = absurd (none-some paths h)

  pub bad_order : in_post_order skips files ≡ None → IsBadReference skips files
  bad_order h =
      of_then (each (file_at files)) (paths_in_post_order importers) h bad_paths (λ paths is none. all_there paths is (each_none (file_at files) paths none))

  pub twice_none : are_distinct names ≡ false → in_post_order skips files ≡ None
  twice_none h = no_order skips files (inl (subst (λ paths. are_distinct paths ≡ false) (sym (paths_are skips files)) h))

  pub import_twice_none : Any (λ m. are_distinct (kept_paths skips (texts_at proto.FILE_DEPENDENCY m)) ≡ false) files → in_post_order skips files ≡ None
  import_twice_none any = no_order skips files (inr (inl (list_all-map imports_once (importer_of skips) files ∙ false_any (λ m. imports_once (importer_of skips m)) files any)))

  pub missing_none : Any (λ m. Any (λ path. is_among names path ≡ false) (kept_paths skips (texts_at proto.FILE_DEPENDENCY m))) files → in_post_order skips files ≡ None
  missing_none (k, m, h, e, missing) =
      by_test (are_distinct names)
      (λ once.
      no_order skips files
      (inr (inr (λ listed order.
      false≢true
      (sym (false_any (is_among names) (kept_paths skips (texts_at proto.FILE_DEPENDENCY m)) missing)
      ∙ subst (λ paths. list_all (is_among paths) (kept_paths skips (texts_at proto.FILE_DEPENDENCY m)) ≡ true) (paths_are skips files)
      (there_at importers listed (subst (λ paths. are_distinct paths ≡ true) (sym (paths_are skips files)) once) order k (importer_of skips m)
      (slice_get-map (importer_of skips) files k ∙ ap (option_map (importer_of skips)) (slice_get_read files (length files) k m refl h (sym e)))))))))
      twice_none

  pub round_none : (path : Text) (between : Paths) → IsTrail (imports_at importers) path (between ++ path ∷ []) → in_post_order skips files ≡ None
  round_none path between trail = no_order skips files (inr (inr (λ listed order. falls listed order)))
    where
      falls : (listed : List Text) → IsPostOrder importers listed → ⊥
      falls listed order =
          let leads = begins (imports_at importers) path between path trail in
          let among = all_listed listed (paths_of importers) (visited_listed (imports_at importers) [] (paths_of importers) listed order) path (is_file importers path leads.0 leads.1) in
          let less = trail_falls (imports_at importers) listed (all_behind (imports_at importers) (paths_of importers) listed order) path between path among trail in
          absurd (omega (arith, less))
