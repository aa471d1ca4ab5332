use Rattle.std.proofs.Common.{◌≡◌, ◌+◌, ◌-◌, ◌≤◌, ◌^◌, ◌++◌, ◌∷◌, [], List, drop, filter, length, map, take, rules, refl, sym, ap, subst, ◌∙◌, arith, append-nil}
use Rattle.std.proofs.lemmas.List.{length-map}
use Rattle.std.proofs.lemmas.Result.{err_from_is_err_and}
use Rattle.std.specs.List.{AllByRecursion}
use Rattle.pg_schema.specs.declared.parts.field.TypeId.{TypeId}
use Rattle.pg_schema.specs.rules.Scopes.{enum_places, type_places}
use Rattle.pg_dyn.specs.message.Kept.{message_of}
use Rattle.pg_set.specs.inner.Declarations.{Adds, types_declared, whole_declared}
use Rattle.pg_set.specs.inner.reading.OutlinedRows.{NameOneofs, NamesOneofs, row, type_row}
use Rattle.pg_set.specs.stated.Outlines.{enum_rows, row_in, rows_in, rows_of_enums, rows_of_type, type_rows}
use Rattle.pg_set.specs.stated.Numbering.{behind_type, each_from, inside_type, placed_types, placed_with, places_of_types}
use Rattle.pg_set.specs.inner.reading.OutlinedPlaces.{counts_of, placed_type}
use Rattle.pg_set.specs.stated.SetMessages.{children_at}
use Rattle.pg_set.specs.stated.SetNames.{name_in, qualified}
use Rattle.pg_set.specs.stated.TypeMessages.{is_no_entry}
use Rattle.pg_set.proofs.lemmas.outline.Declaring.{Left, adds_none, left_all, left_none, left_on, seen_drop, seen_past}
use Rattle.pg_set.proofs.lemmas.outline.NameLoops.{has_on, seen}
use Rattle.pg_set.proofs.lemmas.outline.OutlinedNames.{declared_below, deep_fails, enum_rows_on, enums_below, enums_fail, few_types, lists_end, lists_on, no_enum_rows, no_type_rows, oneofs_above, oneofs_here, rows_below, rows_long, taken, type_added, type_fails, type_rows_on, types_fail, seen_long}
use Rattle.pg_set.proofs.lemmas.outline.OutlinedPlaces.{counts_are, counts_on, each_on, no_placed, placed_below, placed_on, places_below, seen_more}
use Rattle.pg_set.proofs.lemmas.order.OrderSteps.{map_more}
use Rattle.pg_set.proofs.reading.outline.Outline.+outline_types.Goals as goal

pub returns-in_err-ensure_none-clause-refused : goal.returns-in_err-ensure_none-clause-refused
returns-in_err-ensure_none-clause-refused t c =
    let p = err_from_is_err_and c.from_residual.result c.from_residual.ensures.1 in
    rw p.1 (λ types oneofs fresh. absurd (c.in_err-ensure_none.ensures.refused (subst (λ d. NameOneofs d (seen c.args.messages.now)) c.if-depth-eq0.true oneofs)))

pub returns-then-depth-eq0 : goal.returns-then-depth-eq0
returns-then-depth-eq0 t c =
    let ms = seen c.args.messages.now in
    let scope = c.args.scope.now in
    let self = c.args.self.now in
    record {
      ids = ap type_places c.new-ids.ensures.items ∙ sym (ap (λ d. places_of_types d scope (counts_of self) ms) c.if-depth-eq0.true);
      outlined = record {
        rows = no_type_rows c.args.depth scope ms (map type_row self.types.items) c.if-depth-eq0.true;
        enum_rows = no_enum_rows c.args.depth scope ms (map row self.enums.items) c.if-depth-eq0.true;
        placed = no_placed c.args.depth scope (counts_of self) ms (map placed_type self.types.items) c.if-depth-eq0.true;
        others = (refl, refl);
        adds = subst (λ d. Adds (types_declared d scope (counts_of self) ms) self.names self.names) (sym c.if-depth-eq0.true) (adds_none self.names);
        few_types = λ before. before;
        oneofs = subst (λ d. NameOneofs d ms) (sym c.if-depth-eq0.true) c.in_ok-ensure_none.ensures.none;
      };
      refused = tt;
    }

pub loop-message-init : goal.loop-message-init
loop-message-init t c = record {
  rows = search rules;
  enum_rows = search rules;
  ids = ap type_places c.new-ids.ensures.items;
  placed = search rules;
  counts = refl;
  others = (refl, refl);
  left = left_all (each_from (behind_type (c.args.depth - 1) c.args.scope.now) (whole_declared (types_declared (c.args.depth - 1)) c.args.scope.now) (counts_of c.args.self.now) (seen c.args.messages.now)) c.args.self.now.names;
  few_types = λ before. before;
  oneofs = tt;
}

pub returns-in_err-id-clause-refused : goal.returns-in_err-id-clause-refused
returns-in_err-id-clause-refused t c =
    let ms = c.args.messages.now in
    let i = c.loop-message.message-index in
    let m = c.message-item.result in
    let mm = message_of m in
    let depth = c.args.depth in
    let scope = c.args.scope.now in
    let inv = c.loop-message.invariant in
    let some = c.if-depth-eq0.false in
    let h = c.loop-message-test.true in
    let here = c.as_str-name.ensures.value ∙ (c.in_ok-full.ensures ∙ ap (name_in scope) c.text-own_name.ensures) in
    let p = err_from_is_err_and c.from_residual-in_err-id.result c.from_residual-in_err-id.ensures.1 in
    rw (p.1, p.2) (λ types oneofs.
    let room = few_types depth scope ms i m some h c.message-item.is c.args.self.now.types.items c.loop-message.self.types.items inv.rows types in
    deep_fails depth scope ms i m some h c.message-item.is (counts_of c.args.self.now) (counts_of c.loop-message.self) c.args.self.now.names c.loop-message.self.names _ inv.left
    (type_fails (depth - 1) scope (counts_of c.loop-message.self) mm c.as_str-name.result.now here c.loop-message.self.names _
    (c.in_err-id.ensures.refused (omega (arith, room)) (oneofs_here depth scope ms i m some h c.message-item.is oneofs).0)))

pub returns-in_err-enums-clause-refused : goal.returns-in_err-enums-clause-refused
returns-in_err-enums-clause-refused t c =
    let ms = c.args.messages.now in
    let i = c.loop-message.message-index in
    let m = c.message-item.result in
    let mm = message_of m in
    let depth = c.args.depth in
    let scope = c.args.scope.now in
    let inv = c.loop-message.invariant in
    let some = c.if-depth-eq0.false in
    let h = c.loop-message-test.true in
    let at = c.as_str-name.result.now in
    let found = map message_of c.as_slice-own_enums.result.now in
    let here : at ≡ qualified scope mm = c.as_str-name.ensures.value ∙ (c.in_ok-full.ensures ∙ ap (name_in scope) c.text-own_name.ensures) in
    let all : found ≡ children_at 4 mm = ap (λ xs. map message_of xs) c.as_slice-own_enums.ensures.value ∙ c.in_ok-enums_inside.ensures in
    let p = err_from_is_err_and c.from_residual-in_err-enums.result c.from_residual-in_err-enums.ensures.1 in
    rw (p.1, p.2) (λ room_types oneofs.
    deep_fails depth scope ms i m some h c.message-item.is (counts_of c.args.self.now) (counts_of c.loop-message.self) c.args.self.now.names c.loop-message.self.names _ inv.left
    (enums_fail (depth - 1) scope (counts_of c.loop-message.self) mm at here c.loop-message.self.names c.outline_type.new.self.names c.in_ok-id.ensures.adds (length c.outline_type.new.self.enums.items) (ap length c.in_ok-id.ensures.others.0) found all _
    c.in_err-enums.ensures.refused))

pub returns-in_err-types-clause-refused : goal.returns-in_err-types-clause-refused
returns-in_err-types-clause-refused t c =
    let ms = c.args.messages.now in
    let i = c.loop-message.message-index in
    let m = c.message-item.result in
    let mm = message_of m in
    let depth = c.args.depth in
    let scope = c.args.scope.now in
    let inv = c.loop-message.invariant in
    let some = c.if-depth-eq0.false in
    let h = c.loop-message-test.true in
    let at = c.as_str-name.result.now in
    let inner = map message_of c.as_slice-own.result.now in
    let found = map message_of c.as_slice-own_enums.result.now in
    let here : at ≡ qualified scope mm = c.as_str-name.ensures.value ∙ (c.in_ok-full.ensures ∙ ap (name_in scope) c.text-own_name.ensures) in
    let types : inner ≡ filter is_no_entry (children_at 3 mm) =
    ap (λ xs. map message_of xs) c.as_slice-own.ensures.value ∙ (c.in_ok-declared.ensures ∙ ap (filter is_no_entry) (ap (λ xs. map message_of xs) c.as_slice-inside.ensures.value ∙ c.in_ok-all_inside.ensures)) in
    let all : found ≡ children_at 4 mm = ap (λ xs. map message_of xs) c.as_slice-own_enums.ensures.value ∙ c.in_ok-enums_inside.ensures in
    let same_types = ap (λ a. type_rows (depth - 1) a inner) here ∙ ap (type_rows (depth - 1) (qualified scope mm)) types in
    let one = rows_long type_row c.loop-message.self.types.items c.outline_type.new.self.types.items ((at, mm) ∷ []) c.in_ok-id.ensures.rows in
    let own = rows_long row c.outline_type.new.self.enums.items c.outline_enums.new.enums.items (rows_in at found) c.in_ok-enums.ensures.rows in
    let p = err_from_is_err_and c.from_residual-in_err-types.result c.from_residual-in_err-types.ensures.1 in
    let mid = c.loop-message.self in
    let a_enums = c.outline_type.new.self.enums.items in
    let inside_counts : record { types = length c.outline_type.new.self.types.items; enums = length c.outline_enums.new.enums.items; services = length c.outline_type.new.self.services.items } ≡ inside_type (counts_of mid) mm =
    counts_are _ (inside_type (counts_of mid) mm) (omega (arith, one)) (omega (arith, own, ap length c.in_ok-id.ensures.others.0, ap length all, length-map found (row_in at))) (ap length c.in_ok-id.ensures.others.1) in
    rw (p.1, p.2) (λ room_types oneofs.
    let a = few_types depth scope ms i m some h c.message-item.is c.args.self.now.types.items c.loop-message.self.types.items inv.rows room_types in
    let deep = subst (NameOneofs (depth - 1)) (sym types) (oneofs_here depth scope ms i m some h c.message-item.is oneofs).1 in
    deep_fails depth scope ms i m some h c.message-item.is (counts_of c.args.self.now) (counts_of c.loop-message.self) c.args.self.now.names c.loop-message.self.names _ inv.left
    (types_fail (depth - 1) scope (counts_of mid) mm at here c.loop-message.self.names c.outline_type.new.self.names c.in_ok-id.ensures.adds (length a_enums) (ap length c.in_ok-id.ensures.others.0) found all
    c.outline_enums.new.names c.in_ok-enums.ensures.adds (record { types = length c.outline_type.new.self.types.items; enums = length c.outline_enums.new.enums.items; services = length c.outline_type.new.self.services.items }) inside_counts inner types _
    (c.in_err-types.ensures.refused (omega (arith, a, one, ap length same_types)) deep)))

pub loop-message-preserved : goal.loop-message-preserved
loop-message-preserved t c =
    let ms = c.args.messages.now in
    let i = c.loop-message.message-index in
    let m = c.message-item.result in
    let mm = message_of m in
    let depth = c.args.depth in
    let scope = c.args.scope.now in
    let inv = c.loop-message.invariant in
    let h = c.loop-message-test.true in
    let at = c.as_str-name.result.now in
    let inner = map message_of c.as_slice-own.result.now in
    let found = map message_of c.as_slice-own_enums.result.now in
    let here : at ≡ qualified scope mm = c.as_str-name.ensures.value ∙ (c.in_ok-full.ensures ∙ ap (name_in scope) c.text-own_name.ensures) in
    let types : inner ≡ filter is_no_entry (children_at 3 mm) =
    ap (λ xs. map message_of xs) c.as_slice-own.ensures.value ∙ (c.in_ok-declared.ensures ∙ ap (filter is_no_entry) (ap (λ xs. map message_of xs) c.as_slice-inside.ensures.value ∙ c.in_ok-all_inside.ensures)) in
    let all : found ≡ children_at 4 mm = ap (λ xs. map message_of xs) c.as_slice-own_enums.ensures.value ∙ c.in_ok-enums_inside.ensures in
    let t0 = c.loop-message.self.names in
    let t1 = c.outline_type.new.self.names in
    let t2 = c.outline_enums.new.names in
    let t3 = c.outline_types.new.self.names in
    let last = c.place_inside.new.self in
    let same : t3 ≡ last.names = sym c.place_inside.ensures.others.0 in
    let old = c.args.self.now in
    let mid = c.loop-message.self in
    let a = c.outline_type.new.self in
    let b = c.outline_types.new.self in
    let row_there : map type_row last.types.items ≡ map type_row mid.types.items ++ rows_of_type (type_rows (depth - 1)) scope mm =
    type_rows_on (depth - 1) scope at mm inner (map type_row mid.types.items) (map type_row a.types.items) (map type_row last.types.items) here types c.in_ok-id.ensures.rows
    (c.place_inside.ensures.rows ∙ c.in_ok-types.ensures.outlined.rows) in
    let enums_there : map row last.enums.items ≡ map row mid.enums.items ++ rows_of_enums (enum_rows (depth - 1)) scope mm =
    enum_rows_on (depth - 1) scope at mm inner found (map row mid.enums.items) (map row c.outline_enums.new.enums.items) (map row last.enums.items) here types all
    (c.in_ok-enums.ensures.rows ∙ ap (λ es. map row es ++ rows_in at found) c.in_ok-id.ensures.others.0)
    (ap (map row) c.place_inside.ensures.others.1 ∙ c.in_ok-types.ensures.outlined.enum_rows) in
    let services_same : last.services.items ≡ mid.services.items = c.place_inside.ensures.others.2 ∙ (c.in_ok-types.ensures.outlined.others.0 ∙ c.in_ok-id.ensures.others.1) in
    let one = rows_long type_row mid.types.items a.types.items ((at, mm) ∷ []) c.in_ok-id.ensures.rows in
    let many : length c.as_slice-own_enums.result.now ≡ length (children_at 4 mm) = sym (seen_long c.as_slice-own_enums.result.now) ∙ ap length all in
    let own = rows_long row a.enums.items c.outline_enums.new.enums.items (rows_in at found) c.in_ok-enums.ensures.rows in
    let inside_counts : record { types = length a.types.items; enums = length c.outline_enums.new.enums.items; services = length a.services.items } ≡ inside_type (counts_of mid) mm =
    counts_are _ (inside_type (counts_of mid) mm) (omega (arith, one)) (omega (arith, own, ap length c.in_ok-id.ensures.others.0, ap length all, length-map found (row_in at))) (ap length c.in_ok-id.ensures.others.1) in
    let at_place : length (map placed_type mid.types.items) ≡ c.in_ok-id.id.index = length-map mid.types.items placed_type ∙ sym c.in_ok-id.ensures.placed in
    let more = seen_more ms i m h c.message-item.is in
    let on = behind_type (depth - 1) scope in
    let types_long = rows_long type_row mid.types.items last.types.items (rows_of_type (type_rows (depth - 1)) scope mm) row_there in
    let enums_long = rows_long row mid.enums.items last.enums.items (rows_of_enums (enum_rows (depth - 1)) scope mm) enums_there in
    let last_counts : counts_of last ≡ on (counts_of mid) mm = counts_are (counts_of last) (on (counts_of mid) mm) types_long enums_long (ap length services_same) in
    let whole = whole_declared (types_declared (depth - 1)) scope in
    record {
      rows = lists_on (rows_of_type (type_rows (depth - 1)) scope) ms i m h c.message-item.is (map type_row old.types.items) (map type_row mid.types.items) (map type_row last.types.items) inv.rows row_there;
      enum_rows = lists_on (rows_of_enums (enum_rows (depth - 1)) scope) ms i m h c.message-item.is (map row old.enums.items) (map row mid.enums.items) (map row last.enums.items) inv.enum_rows enums_there;
      ids = each_on on (λ c m. c.types ∷ []) (counts_of old) (counts_of mid) (seen (take i ms)) (seen (take (i + 1) ms)) mm [] (type_places c.loop-message.ids.items) (type_places c.push.new.self.items) more inv.counts inv.ids
          (ap type_places c.in_ok-push.ensures.items ∙ (map_more (λ (x : TypeId). x.index) c.loop-message.ids.items c.in_ok-id.id ∙ ap (λ n. type_places c.loop-message.ids.items ++ n ∷ []) c.in_ok-id.ensures.placed));
      placed = each_on on (placed_with (depth - 1) (placed_types (depth - 1)) scope) (counts_of old) (counts_of mid) (seen (take i ms)) (seen (take (i + 1) ms)) mm (map placed_type old.types.items)
          (map placed_type mid.types.items) (map placed_type last.types.items) more inv.counts inv.placed
          (placed_on (depth - 1) scope at mm inner (map placed_type mid.types.items) (map placed_type a.types.items) (map placed_type b.types.items) (map placed_type last.types.items) (counts_of mid)
          (type_places c.in_ok-types.types.items) (enum_places c.in_ok-enums.enums.items) (length a.enums.items) (length c.as_slice-own_enums.result.now) here types c.in_ok-id.ensures.empty
          (c.in_ok-types.ensures.outlined.placed ∙ ap (λ k. map placed_type a.types.items ++ placed_types (depth - 1) at k inner) inside_counts)
          (c.in_ok-types.ensures.ids ∙ ap (λ k. places_of_types (depth - 1) at k inner) inside_counts) c.in_ok-enums.ensures.ids (ap length c.in_ok-id.ensures.others.0) many
          (λ behind r is. c.place_inside.ensures.inside (map placed_type mid.types.items) behind r is at_place));
      counts = counts_on on (counts_of old) (counts_of mid) (counts_of last) (seen (take i ms)) (seen (take (i + 1) ms)) mm more inv.counts last_counts;
      others = (services_same ∙ inv.others.0, c.place_inside.ensures.others.3 ∙ (c.in_ok-types.ensures.outlined.others.1 ∙ (c.in_ok-id.ensures.others.2 ∙ inv.others.1)));
      left = subst (λ table. Left (each_from on whole (counts_of last) (seen (drop (i + 1) ms))) (each_from on whole (counts_of old) (seen ms)) table old.names) same
          (subst (λ k. Left (each_from on whole k (seen (drop (i + 1) ms))) (each_from on whole (counts_of old) (seen ms)) t3 old.names) (sym last_counts)
          (left_on (each_from on whole (counts_of mid) (seen (drop i ms))) (whole (counts_of mid) mm) (each_from on whole (on (counts_of mid) mm) (seen (drop (i + 1) ms))) (each_from on whole (counts_of old) (seen ms)) t0 t3 old.names
          (ap (each_from on whole (counts_of mid)) (seen_drop ms i m h c.message-item.is)) inv.left
          (type_added (depth - 1) scope (counts_of mid) mm at here t0 t1 c.in_ok-id.ensures.adds (length a.enums.items) (ap length c.in_ok-id.ensures.others.0) found all t2 c.in_ok-enums.ensures.adds
          (record { types = length a.types.items; enums = length c.outline_enums.new.enums.items; services = length a.services.items }) inside_counts inner types t3 c.in_ok-types.ensures.outlined.adds)));
      few_types = λ before.
          let now = c.in_ok-types.ensures.outlined.few_types (c.in_ok-id.ensures.few (inv.few_types before)) in
          omega (arith, now, rows_long type_row b.types.items last.types.items [] (c.place_inside.ensures.rows ∙ sym (append-nil (map type_row b.types.items))));
      oneofs = has_on (λ x. NamesOneofs x × NameOneofs (depth - 1) (filter is_no_entry (children_at 3 x))) ms i m h c.message-item.is inv.oneofs
          (c.in_ok-id.ensures.oneofs, subst (NameOneofs (depth - 1)) types c.in_ok-types.ensures.outlined.oneofs);
    }

pub returns : goal.returns
returns t c =
    let ms = c.args.messages.now in
    let i = c.loop-message.message-index in
    let depth = c.args.depth in
    let scope = c.args.scope.now in
    let inv = c.loop-message.invariant in
    let some = c.if-depth-eq0.false in
    let h = c.loop-message-test.false in
    let old = c.args.self.now in
    let mid = c.loop-message.self in
    let on = behind_type (depth - 1) scope in
    let whole = whole_declared (types_declared (depth - 1)) scope in
    record {
      ids = inv.ids ∙ (ap (λ xs. each_from (behind_type (depth - 1) scope) (λ c m. c.types ∷ []) (counts_of old) (seen xs)) (taken ms i h) ∙ sym (places_below scope (counts_of old) (seen ms) depth some));
      outlined = record {
        rows = lists_end (rows_of_type (type_rows (depth - 1)) scope) ms i (map type_row old.types.items) (map type_row mid.types.items) (type_rows depth scope (seen ms)) h (rows_below scope (seen ms) depth some) inv.rows;
        enum_rows = lists_end (rows_of_enums (enum_rows (depth - 1)) scope) ms i (map row old.enums.items) (map row mid.enums.items) (enum_rows depth scope (seen ms)) h (enums_below scope (seen ms) depth some) inv.enum_rows;
        placed = inv.placed ∙ ap (λ xs. map placed_type old.types.items ++ xs)
            (ap (λ xs. each_from (behind_type (depth - 1) scope) (placed_with (depth - 1) (placed_types (depth - 1)) scope) (counts_of old) (seen xs)) (taken ms i h) ∙ sym (placed_below scope (counts_of old) (seen ms) depth some));
        others = inv.others;
        adds = subst (λ ds. Adds ds old.names mid.names) (sym (declared_below scope (counts_of old) (seen ms) depth some))
            (left_none (each_from on whole (counts_of mid) (seen (drop i ms))) (each_from on whole (counts_of old) (seen ms)) mid.names old.names (ap (each_from on whole (counts_of mid)) (seen_past ms i h)) inv.left);
        few_types = inv.few_types;
        oneofs = oneofs_above depth (seen ms) some (subst (λ xs. AllByRecursion (λ x. NamesOneofs x × NameOneofs (depth - 1) (filter is_no_entry (children_at 3 x))) (seen xs)) (taken ms i h) inv.oneofs);
      };
      refused = tt;
    }

pub returns-in_err-push-clause-refused : goal.returns-in_err-push-clause-refused
returns-in_err-push-clause-refused t c =
    let p = err_from_is_err_and c.from_residual-in_err-push.result c.from_residual-in_err-push.ensures.1 in
    rw p.1 (λ types oneofs fresh. p.2)
