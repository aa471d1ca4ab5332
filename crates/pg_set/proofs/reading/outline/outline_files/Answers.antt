use Rattle.std.proofs.Common.{◌≡◌, ◌<◌, ◌∷◌, [], Some, filter, length, map, take, drop, suc, get_or, slice_get, subst, sym, ap, ◌∙◌, arith, ◌+◌}
use Rattle.std.proofs.lemmas.Result.{err_from_is_err_and}
use Rattle.std.specs.List.{AllByRecursion, flat_map}
use Rattle.pg_dyn.specs.message.Kept.{message_of}
use Rattle.pg_set.specs.inner.Declarations.{file_declared, files_declared}
use Rattle.pg_set.specs.inner.reading.OutlinedRows.{NameOneofs, files_at, row, type_row}
use Rattle.pg_set.specs.stated.Outlines.{file_enums, file_services, file_types}
use Rattle.pg_set.specs.stated.Numbering.{behind_file, file_places, inside_file, no_counts, placed_files, placed_types, types_of_files}
use Rattle.pg_set.specs.inner.reading.OutlinedPlaces.{counts_of, placed_file, placed_type}
use Rattle.pg_set.specs.stated.SetMessages.{children_at}
use Rattle.pg_set.specs.stated.SetNames.{file_scope}
use Rattle.pg_set.specs.stated.StatedTable.{may_declare}
use Rattle.pg_set.specs.stated.TypeMessages.{is_entry}
use Rattle.pg_set.proofs.lemmas.outline.Declaring.{Left, from_nothing, left_all, left_none, left_on}
use Rattle.pg_set.proofs.lemmas.writing.FileLaws.{each_in, same_default}
use Rattle.pg_set.proofs.lemmas.outline.NameLoops.{seen}
use Rattle.pg_set.proofs.lemmas.outline.FreeFiles.{file_refused, fresh_free}
use Rattle.pg_set.proofs.lemmas.outline.MeantNames.{files_meant}
use Rattle.pg_set.proofs.lemmas.outline.OutlinedFiles.{count_of, file_at, file_left, files_on, files_whole, holds_or, none_left, one_more, seen_got, stand_may}
use Rattle.pg_set.proofs.lemmas.outline.OutlinedNames.{rows_long, taken}
use Rattle.pg_set.proofs.lemmas.outline.OutlinedPlaces.{counts_are, counts_on, each_on, none_counted}
use Rattle.pg_set.proofs.reading.outline.outline_files.Goals as goal

pub loop-place-init : goal.loop-place-init
loop-place-init c = record {
  types = ap (map type_row) c.new-2.ensures.items;
  enums = ap (map row) c.new-3.ensures.items;
  services = ap (map row) c.new-4.ensures.items;
  files = ap (map placed_file) c.new.ensures.items;
  placed = ap (map placed_type) c.new-2.ensures.items;
  counts = none_counted c.new-2.result.items c.new-3.result.items c.new-4.result.items c.new-2.ensures.items c.new-3.ensures.items c.new-4.ensures.items;
  empty = λ name. rw c.with_hasher.ensures.empty;
  left = subst (λ k. Left (files_declared c.args.depth k (files_at (seen c.args.files.now) c.args.order.now)) (files_declared c.args.depth no_counts (files_at (seen c.args.files.now) c.args.order.now)) c.with_hasher.result c.with_hasher.result)
      (sym (none_counted c.new-2.result.items c.new-3.result.items c.new-4.result.items c.new-2.ensures.items c.new-3.ensures.items c.new-4.ensures.items))
      (left_all (files_declared c.args.depth no_counts (files_at (seen c.args.files.now) c.args.order.now)) c.with_hasher.result);
  few_types = omega (arith, ap length c.new-2.ensures.items);
  oneofs = tt;
  no_entries = tt;
}

pub loop-place-preserved : goal.loop-place-preserved
loop-place-preserved c =
    let files = c.args.files.now in
    let fs = seen files in
    let order = c.args.order.now in
    let i = c.loop-place.place-index in
    let place = get_or order i 0 in
    let depth = c.args.depth in
    let inv = c.loop-place.invariant in
    let h = c.loop-place-test.true in
    let m = message_of c.in-Some.file.now in
    let there : slice_get fs place ≡ Some m = seen_got files place c.in-Some.file.now c.in-Some.ensures.lookup.3.0 c.in-Some.ensures.lookup.1 in
    let before = files_at fs (take i order) in
    let after = files_at fs (take (i + 1) order) in
    let more = file_at fs m order i place h (same_default order i 0 place h) there in
    let mid = c.loop-place.outline in
    let new = c.outline_file.new.self in
    let grown = counts_are (counts_of new) (behind_file depth (counts_of mid) m) (rows_long type_row mid.types.items new.types.items (file_types depth m) c.in_ok-outline_file.ensures.outlined.types)
    (rows_long row mid.enums.items new.enums.items (file_enums depth m) c.in_ok-outline_file.ensures.outlined.enums)
    (rows_long row mid.services.items new.services.items (file_services m) c.in_ok-outline_file.ensures.outlined.services) in
    let left_files = files_at fs (drop (i + 1) order) in
    let all = files_declared depth no_counts (files_at fs order) in
    record {
      types = files_on (file_types depth) before after m (map type_row mid.types.items) (map type_row new.types.items) more inv.types c.in_ok-outline_file.ensures.outlined.types;
      enums = files_on (file_enums depth) before after m (map row mid.enums.items) (map row new.enums.items) more inv.enums c.in_ok-outline_file.ensures.outlined.enums;
      services = files_on file_services before after m (map row mid.services.items) (map row new.services.items) more inv.services c.in_ok-outline_file.ensures.outlined.services;
      files = each_on (behind_file depth) (λ k f. file_places depth k f ∷ []) no_counts (counts_of mid) before after m [] (map placed_file mid.files.items) (map placed_file new.files.items) more inv.counts inv.files
          c.in_ok-outline_file.ensures.outlined.files;
      placed = each_on (behind_file depth) (λ k f. placed_types depth (file_scope f) (inside_file k f) (children_at 4 f)) no_counts (counts_of mid) before after m [] (map placed_type mid.types.items) (map placed_type new.types.items) more
          inv.counts inv.placed c.in_ok-outline_file.ensures.outlined.placed;
      counts = counts_on (behind_file depth) no_counts (counts_of mid) (counts_of new) before after m more inv.counts grown;
      empty = inv.empty;
      left = subst (λ k. Left (files_declared depth k left_files) all new.names c.with_hasher.result) (sym grown)
          (left_on (files_declared depth (counts_of mid) (files_at fs (drop i order))) (file_declared depth (counts_of mid) m) (files_declared depth (behind_file depth (counts_of mid) m) left_files) all mid.names new.names c.with_hasher.result
          (ap (files_declared depth (counts_of mid)) (file_left fs m order i place h (same_default order i 0 place h) there)) inv.left c.in_ok-outline_file.ensures.outlined.adds);
      few_types = c.in_ok-outline_file.ensures.outlined.few_types inv.few_types;
      oneofs = one_more (λ f. NameOneofs depth (children_at 4 f)) before after m more inv.oneofs c.in_ok-outline_file.ensures.outlined.oneofs;
      no_entries = one_more (λ f. filter is_entry (children_at 4 f) ≡ []) before after m more inv.no_entries c.in_ok-outline_file.ensures.outlined.no_entries;
    }

pub returns-in_err-outline_file-clause-none : goal.returns-in_err-outline_file-clause-none
returns-in_err-outline_file-clause-none c =
    let files = c.args.files.now in
    let fs = seen files in
    let order = c.args.order.now in
    let i = c.loop-place.place-index in
    let place = get_or order i 0 in
    let depth = c.args.depth in
    let inv = c.loop-place.invariant in
    let h = c.loop-place-test.true in
    let m = message_of c.in-Some.file.now in
    let there : slice_get fs place ≡ Some m = seen_got files place c.in-Some.file.now c.in-Some.ensures.lookup.3.0 c.in-Some.ensures.lookup.1 in
    let all = files_at fs order in
    let mid = c.loop-place.outline in
    let p = err_from_is_err_and c.from_residual.result c.from_residual.ensures.1 in
    let refused = file_refused depth (files_at fs (take i order)) m (files_at fs (drop (suc i) order)) all (files_at fs (drop i order)) (files_at fs (drop (i + 1) order)) (counts_of mid) c.with_hasher.result mid.names c.in_err-outline_file.field-0.0
    (files_whole fs m order i place h (same_default order i 0 place h) there) (file_left fs m order i place h (same_default order i 0 place h) there) inv.empty (count_of type_row mid.types.items _ inv.types)
    inv.left c.in_err-outline_file.ensures.refused in
    rw (p.1, p.2) (λ places. holds_or (may_declare depth all) _ refused)

pub returns-clause-outlined : goal.returns-clause-outlined
returns-clause-outlined c =
    let fs = seen c.args.files.now in
    let order = c.args.order.now in
    let i = c.loop-place.place-index in
    let depth = c.args.depth in
    let inv = c.loop-place.invariant in
    let outline = c.loop-place.outline in
    let all = files_at fs order in
    let end : files_at fs (take i order) ≡ all = ap (files_at fs) (taken order i c.loop-place-test.false) in
    record {
      enums = inv.enums ∙ ap (flat_map (file_enums depth)) end;
      services = inv.services ∙ ap (flat_map file_services) end;
      files = inv.files ∙ ap (placed_files depth no_counts) end;
      placed = inv.placed ∙ ap (types_of_files depth no_counts) end;
    }

pub returns-clause-may : goal.returns-clause-may
returns-clause-may c =
    let fs = seen c.args.files.now in
    let order = c.args.order.now in
    let i = c.loop-place.place-index in
    let depth = c.args.depth in
    let inv = c.loop-place.invariant in
    let outline = c.loop-place.outline in
    let all = files_at fs order in
    let end = taken order i c.loop-place-test.false in
    let made = from_nothing (files_declared depth no_counts all) c.with_hasher.result outline.names inv.empty
    (left_none (files_declared depth (counts_of outline) (files_at fs (drop i order))) (files_declared depth no_counts all) outline.names c.with_hasher.result (ap (files_declared depth (counts_of outline)) (none_left fs order i c.loop-place-test.false)) inv.left) in
    stand_may depth all (record {
      free = fresh_free depth all made.1;
      no_entries = subst (λ places. AllByRecursion (λ m. filter is_entry (children_at 4 m) ≡ []) (files_at fs places)) end inv.no_entries;
      oneofs = subst (λ places. AllByRecursion (λ m. NameOneofs depth (children_at 4 m)) (files_at fs places)) end inv.oneofs;
      few_types = omega (arith, inv.few_types, count_of type_row outline.types.items _ inv.types, ap (λ places. length (flat_map (file_types depth) (files_at fs places))) end);
    })

pub returns-clause-means : goal.returns-clause-means
returns-clause-means c =
    let fs = seen c.args.files.now in
    let order = c.args.order.now in
    let i = c.loop-place.place-index in
    let depth = c.args.depth in
    let inv = c.loop-place.invariant in
    let outline = c.loop-place.outline in
    let all = files_at fs order in
    let made = from_nothing (files_declared depth no_counts all) c.with_hasher.result outline.names inv.empty
    (left_none (files_declared depth (counts_of outline) (files_at fs (drop i order))) (files_declared depth no_counts all) outline.names c.with_hasher.result (ap (files_declared depth (counts_of outline)) (none_left fs order i c.loop-place-test.false)) inv.left) in
    files_meant depth all outline.names made.0 made.1

pub returns-in_default-clause-none : goal.returns-in_default-clause-none
returns-in_default-clause-none c = λ places.
    let order = c.args.order.now in
    let i = c.loop-place.place-index in
    let place = get_or order i 0 in
    let h = c.loop-place-test.true in
    let within : place < length c.args.files.now = each_in (λ p. p < length c.args.files.now) order i place places h (same_default order i 0 place h) in
    absurd (omega (arith, within, c.in_default.ensures.lookup.3))
