use Rattle.std.proofs.Common.{◌≡◌, ◌∙◌, ◌+◌, ◌++◌, ◌∷◌, [], ℕ, List, Some, map, take, slice_get, sym, ap, arith}
use Rattle.std.proofs.lemmas.List.{map-append, map_more}
use Rattle.std.proofs.lemmas.Option.{get_or_from_slice_get, slice_get_within}
use Rattle.std.proofs.lemmas.Result.{err_from_is_err_and}
use Rattle.pg_link.specs.declared.uses.targets.FileTargets.{FileTargets}
use Rattle.pg_link.specs.names.Files.{seen_paths}
use Rattle.pg_link.specs.inner.VisibleFiles.{Marks}
use Rattle.pg_link.specs.uses.Targets.{file_places, file_targets}
use Rattle.pg_link.specs.walk.Walk.{Entry, outlines, path_of}
use Rattle.pg_link.proofs.lemmas.uses.UseFaultLaws.{fault_is, its_marks, no_memory, targets_are}
use Rattle.pg_link.proofs.uses.targets.all_targets.Goals as goal

-- the targets of one file more
one_file : (es : List Entry) (old new : List FileTargets) (v : FileTargets) (i : ℕ) (e : Entry) → slice_get es i ≡ Some e → new ≡ old ++ v ∷ []
    → map Some v.targets.items ≡ file_targets es e
    → map (map Some) (map (λ (f : FileTargets). f.targets.items) old) ≡ map (file_targets es) (take i es)
    → map (map Some) (map (λ (f : FileTargets). f.targets.items) new) ≡ map (file_targets es) (take (i + 1) es)
one_file es old new v i e at is own before =
    let items = λ (f : FileTargets). f.targets.items in
    ap (λ (l : List FileTargets). map (map Some) (map items l)) is
    ∙ (ap (map (map Some)) (map-append items old (v ∷ [])) ∙ (map-append (map Some) (map items old) (v.targets.items ∷ [])
    ∙ (ap (λ l. l ++ map Some v.targets.items ∷ []) before ∙ (ap (λ t. map (file_targets es) (take i es) ++ t ∷ []) (own ∙ ap (file_targets es) (sym (get_or_from_slice_get es i e e at)))
    ∙ sym (map_more (file_targets es) es i e (slice_get_within es i e at))))))

-- and where its uses begin
one_placed : (es : List Entry) (old new : List FileTargets) (v : FileTargets) (i : ℕ) (e : Entry) → slice_get es i ≡ Some e → new ≡ old ++ v ∷ []
    → v.places.items ≡ file_places e → map (λ (f : FileTargets). f.places.items) old ≡ map file_places (take i es)
    → map (λ (f : FileTargets). f.places.items) new ≡ map file_places (take (i + 1) es)
one_placed es old new v i e at is own before =
    let places = λ (f : FileTargets). f.places.items in
    ap (map places) is
    ∙ (map-append places old (v ∷ [])
    ∙ (ap (λ l. l ++ v.places.items ∷ []) before ∙ (ap (λ t. map file_places (take i es) ++ t ∷ []) (own ∙ ap file_places (sym (get_or_from_slice_get es i e e at)))
    ∙ sym (map_more file_places es i e (slice_get_within es i e at)))))

pub returns-in_err-own-clause-fault : goal.returns-in_err-own-clause-fault
returns-in_err-own-clause-fault c =
    let es : List Entry = c.args.files.now.entries in
    let e : Entry = (c.in-Some.path.now, c.in-Some.file.now) in
    let i : ℕ = c.loop-number.number in
    let at : slice_get es i ≡ Some e = sym c.in-Some.ensures.entry in
    let marks : Marks es (seen_paths (outlines es) (path_of e)) c.deref.result.now =
    its_marks es c.args.visible_files.now i e c.index-visible_files-number.result c.deref.result.now c.requires.visible_files at
    (omega (arith, slice_get_within es i e at, c.requires.same_length)) c.index-visible_files-number.is c.deref.ensures.value in
    let p = err_from_is_err_and c.from_residual.result c.from_residual.ensures.1 in
    rw (p.1, p.2) (fault_is c.args.index.now es i e c.deref.result.now c.as_str.result.now c.in_err-own.field-0.0 (map (λ (f : FileTargets). f.targets.items) c.loop-number.targets.items)
    c.requires.lists c.requires.once marks at c.loop-number.invariant.found c.as_str.ensures.value c.in_err-own.ensures.fault)

pub returns-in_err-push-clause-fault : goal.returns-in_err-push-clause-fault
returns-in_err-push-clause-fault c =
    let es : List Entry = c.args.files.now.entries in
    let e : Entry = (c.in-Some.path.now, c.in-Some.file.now) in
    let i : ℕ = c.loop-number.number in
    let at : slice_get es i ≡ Some e = sym c.in-Some.ensures.entry in
    let p = err_from_is_err_and c.from_residual-in_err-push.result c.from_residual-in_err-push.ensures.1 in
    rw (p.1, p.2) (no_memory es i e (map (λ (f : FileTargets). f.targets.items) c.loop-number.targets.items) at c.loop-number.invariant.found)

pub loop-number-preserved : goal.loop-number-preserved
loop-number-preserved c =
    let es : List Entry = c.args.files.now.entries in
    let e : Entry = (c.in-Some.path.now, c.in-Some.file.now) in
    let i : ℕ = c.loop-number.number in
    let at : slice_get es i ≡ Some e = sym c.in-Some.ensures.entry in
    let marks : Marks es (seen_paths (outlines es) (path_of e)) c.deref.result.now =
    its_marks es c.args.visible_files.now i e c.index-visible_files-number.result c.deref.result.now c.requires.visible_files at
    (omega (arith, slice_get_within es i e at, c.requires.same_length)) c.index-visible_files-number.is c.deref.ensures.value in
    record {
      found = one_file es c.loop-number.targets.items c.push.new.self.items c.in_ok-own.own i e at c.in_ok-push.ensures.items
          (targets_are c.args.index.now es e c.deref.result.now c.in_ok-own.own.targets.items c.requires.lists c.requires.once marks c.in_ok-own.ensures.found) c.loop-number.invariant.found;
      placed = one_placed es c.loop-number.targets.items c.push.new.self.items c.in_ok-own.own i e at c.in_ok-push.ensures.items c.in_ok-own.ensures.placed c.loop-number.invariant.placed;
    }
