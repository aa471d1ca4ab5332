use Rattle.std.proofs.Common.{◌≡◌, ◌+◌, ◌<◌, drop, ◌∷◌, [], length, map, suc, rules, sym, ap, subst, arith}
use Rattle.std.proofs.lemmas.Result.{err_from_is_err_and}
use Rattle.pg_schema.specs.declared.parts.field.EnumId.{EnumId}
use Rattle.pg_set.specs.inner.reading.OutlinedRows.{row}
use Rattle.pg_set.specs.stated.Outlines.{row_in}
use Rattle.pg_dyn.specs.message.Kept.{message_of}
use Rattle.pg_set.specs.inner.Declarations.{enum_declared, enums_declared}
use Rattle.pg_set.proofs.lemmas.outline.Declaring.{Left, left_all, left_fails, left_none, left_on, seen_drop, seen_past}
use Rattle.pg_set.proofs.lemmas.outline.NameLoops.{seen}
use Rattle.pg_set.proofs.lemmas.outline.OutlinedNames.{count_at, ids_on, maps_on, rows_long}
use Rattle.pg_set.proofs.reading.outline.enums.outline_enums.Goals as goal

pub loop-message-init : goal.loop-message-init
loop-message-init c = record {
  ids = search rules;
  rows = search rules;
  left = left_all (enums_declared c.args.scope.now (length c.args.enums.now.items) (seen c.args.messages.now)) c.args.names.now;
}

pub loop-message-preserved : goal.loop-message-preserved
loop-message-preserved c =
    let ms = c.args.messages.now in
    let i = c.loop-message.message-index in
    let m = c.message-item.result in
    let scope = c.args.scope.now in
    let inv = c.loop-message.invariant in
    let old = c.args.enums.now.items in
    let mid = c.loop-message.enums.items in
    let inside : i < length ms = c.loop-message-test.true in
    let count : length mid ≡ length old + i = count_at row (row_in scope) old mid ms i (omega arith) inv.rows in
    let at : c.in_ok-id.id.index ≡ length old + i = omega (arith, count, c.in_ok-id.ensures.placed) in
    let one : length c.outline_enum.new.enums.items ≡ suc (length mid) = omega (arith, rows_long row mid c.outline_enum.new.enums.items (row_in scope (message_of m) ∷ []) c.in_ok-id.ensures.rows) in
    record {
      ids = ids_on (λ (x : EnumId). x.index) (length old) i c.loop-message.ids.items _ c.in_ok-id.id inv.ids c.in_ok-push.ensures.items at;
      rows = maps_on (row_in scope) ms i m inside c.message-item.is (map row old) (map row mid) _ inv.rows c.in_ok-id.ensures.rows;
      left = subst (λ n. Left (enums_declared scope n (seen (drop (i + 1) ms))) (enums_declared scope (length old) (seen ms)) c.outline_enum.new.names c.args.names.now) (sym one)
          (left_on (enums_declared scope (length mid) (seen (drop i ms))) (enum_declared scope (length mid) (message_of m)) (enums_declared scope (suc (length mid)) (seen (drop (i + 1) ms))) (enums_declared scope (length old) (seen ms))
          c.loop-message.names c.outline_enum.new.names c.args.names.now (ap (enums_declared scope (length mid)) (seen_drop ms i m inside c.message-item.is)) inv.left c.in_ok-id.ensures.adds);
    }

pub returns-in_err-id-clause-refused : goal.returns-in_err-id-clause-refused
returns-in_err-id-clause-refused c =
    let ms = c.args.messages.now in
    let i = c.loop-message.message-index in
    let m = c.message-item.result in
    let scope = c.args.scope.now in
    let inv = c.loop-message.invariant in
    let old = c.args.enums.now.items in
    let mid = c.loop-message.enums.items in
    let inside : i < length ms = c.loop-message-test.true in
    let p = err_from_is_err_and c.from_residual.result c.from_residual.ensures.1 in
    rw (p.1, p.2) (left_fails (enums_declared scope (length mid) (seen (drop i ms))) (enum_declared scope (length mid) (message_of m)) (enums_declared scope (suc (length mid)) (seen (drop (i + 1) ms))) (enums_declared scope (length old) (seen ms))
    c.loop-message.names c.args.names.now _ (ap (enums_declared scope (length mid)) (seen_drop ms i m inside c.message-item.is)) inv.left c.in_err-id.ensures.refused)

pub returns-clause-adds : goal.returns-clause-adds
returns-clause-adds c =
    let ms = c.args.messages.now in
    let i = c.loop-message.message-index in
    let place = length c.loop-message.enums.items in
    left_none (enums_declared c.args.scope.now place (seen (drop i ms))) (enums_declared c.args.scope.now (length c.args.enums.now.items) (seen ms)) c.loop-message.names c.args.names.now
    (ap (enums_declared c.args.scope.now place) (seen_past ms i c.loop-message-test.false)) c.loop-message.invariant.left
