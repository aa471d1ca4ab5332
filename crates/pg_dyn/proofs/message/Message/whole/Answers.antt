-- Contents that pass the tests, by rising numbers, each number and each oneof once.
use Rattle.std.proofs.Common.{◌≡◌, ◌<◌, ◌≤◌, ℕ, List, Result, Ok, Err, IfErr, IfOk, OnOk, length, filter, inl, inr, ⊎_elim, refl, sym, subst, arith, rules}
use Rattle.std.proofs.lemmas.Fn.{always_returns_same}
use Rattle.std.proofs.lemmas.List.Sorted.{IsNonDecreasingBy-from_sort_by_key, IsPermutation-sym}
use Rattle.std.proofs.lemmas.Result.{err_from_is_err_and}
use Rattle.std.specs.List.{AllByRecursion}
use Rattle.std.specs.List.Sorted.{IsNonDecreasingBy}
use Rattle.pg_schema.specs.Parts.{shape_of}
use Rattle.pg_schema.specs.Shape.{fields}
use Rattle.pg_dyn.specs.declared.error.DynError.{DynError}
use Rattle.pg_dyn.specs.declared.error.DynError.TheVariants as errors
use Rattle.pg_dyn.specs.declared.message.Content.{Content}
use Rattle.pg_dyn.specs.declared.message.Message.{Message}
use Rattle.pg_dyn.specs.message.Seen.{Rises}
use Rattle.pg_dyn.specs.setting.ContentFaults.{AnyOf, FirstOf, PassTwice, ContentsFault, ContentFault, HasKeyTwice, HasNoEarlyFault, is_in_oneof, members, IsLowest, MayRefuseFor}
use Rattle.pg_dyn.specs.setting.Setting.{IsWhole}
use Rattle.pg_dyn.specs.inner.Reported.{TakesContent}
use Rattle.pg_dyn.proofs.lemmas.message.KeyLaws.{count_moved, each_moved}
use Rattle.pg_dyn.proofs.lemmas.reading.Standing.{any_moved}
use Rattle.pg_dyn.proofs.lemmas.setting.WholeSteps.{of_field, kept_under}
use Rattle.pg_dyn.proofs.lemmas.setting.WholeFaults.{no_siblings_from, once, once_unsorted, whole_accepted, whole_early, whole_key_twice, whole_no_memory, whole_refused, whole_twice, whole_unsorted}
use Rattle.pg_dyn.proofs.message.Message.whole.Goals as goal

if_ok : {T E : Type 0} (r : Result T E) (P Q : T → Type 0) → ((x : T) → P x → Q x) → IfOk r P → IfOk r Q
if_ok (Ok x) P Q f h = f x h
if_ok (Err e) P Q f h = tt

on_ok : {T E A : Type 0} (r : Result T E) → A → OnOk r A
on_ok (Ok x) h = h
on_ok (Err e) h = tt

if_err : {T E : Type 0} (r : Result T E) (P : E → Type 0) → ((e : E) → P e) → IfErr r P
if_err (Ok x) P h = tt
if_err (Err e) P h = h e

pub returns-in_err-check_contents-clause-refused : goal.returns-in_err-check_contents-clause-refused
returns-in_err-check_contents-clause-refused c =
    let (y, is, from) = err_from_is_err_and c.from_residual.result c.from_residual.ensures.1 in
    let may : DynError → Type 0 = MayRefuseFor (ContentsFault (shape_of c.args.schema.now) c.args.type_id c.args.contents.items) in
    let error = c.in_err-check_contents.field-0.0 in
    let lowest = subst (λ (xs : List (ℕ × Content)). IsLowest (FirstOf (λ (x : ℕ × Content). ContentFault (shape_of c.args.schema.now) c.args.type_id x.0 x.1) xs) c.in_err-check_contents.field-0.0) c.deref.ensures.value c.in_err-check_contents.ensures.0 in
    subst (λ (x : Result Message DynError). IfErr x may) (sym is) (subst may (sym from) (whole_refused c.args.schema.now c.args.type_id c.args.contents.items error lowest c.in_err-check_contents.ensures.1))

pub has_number_twice-requires : goal.has_number_twice-requires
has_number_twice-requires c =
    subst (λ (xs : List (ℕ × Content)). IsNonDecreasingBy (λ (y : ℕ × Content). y.0) xs) (sym c.deref-2.ensures.value)
    (IsNonDecreasingBy-from_sort_by_key (λ (y : ℕ × Content). y.0) _ c.in_ok-sort_by_key.ensures.sorted (λ a r q k. search rules))

pub returns-then-has_number_twice-clause-refused : goal.returns-then-has_number_twice-clause-refused
returns-then-has_number_twice-clause-refused c =
    let xs = c.args.contents.items in
    let ys = c.sort_by_key.new.self.items in
    let (number, two) = c.if-has_number_twice.ensures.twice refl in
    let here = subst (PassTwice (of_field number)) c.deref-2.ensures.value two in
    let count = count_moved (of_field number) xs ys c.sort_by_key.ensures.permutation in
    let takes = subst (AllByRecursion (TakesContent (shape_of c.args.schema.now) c.args.type_id)) c.deref.ensures.value c.in_ok-check_contents.ensures in
    whole_twice c.args.schema.now c.args.type_id xs takes (inl (number, omega (arith, here, count)))

pub returns-then-not-each_oneof_once-clause-refused : goal.returns-then-not-each_oneof_once-clause-refused
returns-then-not-each_oneof_once-clause-refused c =
    let xs = c.args.contents.items in
    let ys = c.sort_by_key.new.self.items in
    let fs = fields (shape_of c.args.schema.now) c.args.type_id in
    let (oneof, two) = c.each_oneof_once.ensures.twice c.if-not-each_oneof_once.true in
    let here = subst (λ (zs : List (ℕ × Content)). 1 < length (members (fields (shape_of c.args.schema.now) c.args.type_id) oneof zs)) c.deref-3.ensures.value two in
    let count = count_moved (λ (x : ℕ × Content). is_in_oneof (fields (shape_of c.args.schema.now) c.args.type_id) oneof x.0) xs ys c.sort_by_key.ensures.permutation in
    let takes = subst (AllByRecursion (TakesContent (shape_of c.args.schema.now) c.args.type_id)) c.deref.ensures.value c.in_ok-check_contents.ensures in
    whole_twice c.args.schema.now c.args.type_id xs takes (inr (oneof, omega (arith, here, count)))

pub check_all_keys-requires-clause-taken : goal.check_all_keys-requires-clause-taken
check_all_keys-requires-clause-taken c =
    let P = TakesContent (shape_of c.args.schema.now) c.args.type_id in
    let takes = subst (AllByRecursion (TakesContent (shape_of c.args.schema.now) c.args.type_id)) c.deref.ensures.value c.in_ok-check_contents.ensures in
    subst (AllByRecursion P) (sym c.deref-4.ensures.value) (each_moved P c.args.contents.items c.sort_by_key.new.self.items c.sort_by_key.ensures.permutation takes)

pub returns-in_err-check_all_keys-clause-refused : goal.returns-in_err-check_all_keys-clause-refused
returns-in_err-check_all_keys-clause-refused c =
    let xs = c.args.contents.items in
    let ys = c.sort_by_key.new.self.items in
    let moved = c.sort_by_key.ensures.permutation in
    let fs = fields (shape_of c.args.schema.now) c.args.type_id in
    let takes = subst (AllByRecursion (TakesContent (shape_of c.args.schema.now) c.args.type_id)) c.deref.ensures.value c.in_ok-check_contents.ensures in
    let rises = subst Rises c.deref-2.ensures.value (c.if-has_number_twice.ensures.rises refl) in
    let same : (j : ℕ) → filter (of_field j) ys ≡ filter (of_field j) xs =
    kept_under xs ys (c.sort_by_key.ensures.stable (λ (y : ℕ × Content). y.0) (always_returns_same _ _ _ (λ a r f k. search rules))) in
    let oneof_once : (o : ℕ) → length (filter (λ (x : ℕ × Content). is_in_oneof (fields (shape_of c.args.schema.now) c.args.type_id) o x.0) xs) ≤ 1 =
    λ o.
    let here = subst (λ (zs : List (ℕ × Content)). length (members (fields (shape_of c.args.schema.now) c.args.type_id) o zs) ≤ 1) c.deref-3.ensures.value (c.each_oneof_once.ensures.once c.if-not-each_oneof_once.false o) in
    let count = count_moved (λ (x : ℕ × Content). is_in_oneof (fields (shape_of c.args.schema.now) c.args.type_id) o x.0) xs ys moved in
    omega (arith, here, count) in
    let fields_once = once fs xs (once_unsorted c.args.schema.now c.args.type_id xs ys same rises) oneof_once in
    let (y, is, from) = err_from_is_err_and c.from_residual-in_err-check_all_keys.result c.from_residual-in_err-check_all_keys.ensures.1 in
    let may : DynError → Type 0 = MayRefuseFor (ContentsFault (shape_of c.args.schema.now) c.args.type_id c.args.contents.items) in
    subst (λ (x : Result Message DynError). IfErr x may) (sym is)
    (subst may (sym from)
    (⊎_elim (λ memory. subst may (sym memory) tt)
    (λ twice.
    subst may (sym twice.0)
    (whole_key_twice c.args.schema.now c.args.type_id xs takes fields_once
    (any_moved (λ (x : ℕ × Content). HasKeyTwice x.1) xs ys moved (subst (λ (zs : List (ℕ × Content)). AnyOf (λ (x : ℕ × Content). HasKeyTwice x.1) zs) c.deref-4.ensures.value twice.1)))) c.in_err-check_all_keys.ensures.err))

pub filled-requires-clause-taken : goal.filled-requires-clause-taken
filled-requires-clause-taken c =
    let takes = subst (AllByRecursion (TakesContent (shape_of c.args.schema.now) c.args.type_id)) c.deref.ensures.value c.in_ok-check_contents.ensures in
    each_moved (TakesContent (shape_of c.args.schema.now) c.args.type_id) c.args.contents.items c.sort_by_key.new.self.items c.sort_by_key.ensures.permutation takes

pub filled-requires-clause-apart : goal.filled-requires-clause-apart
filled-requires-clause-apart c =
    no_siblings_from (fields (shape_of c.args.schema.now) c.args.type_id) c.sort_by_key.new.self.items (λ o.
    let here = subst (λ (zs : List (ℕ × Content)). length (members (fields (shape_of c.args.schema.now) c.args.type_id) o zs) ≤ 1) c.deref-3.ensures.value (c.each_oneof_once.ensures.once c.if-not-each_oneof_once.false o) in
    here)

pub returns-clause-ok : goal.returns-clause-ok
returns-clause-ok c =
    let xs = c.args.contents.items in
    let same : (j : ℕ) → filter (of_field j) c.sort_by_key.new.self.items ≡ filter (of_field j) xs =
    kept_under xs c.sort_by_key.new.self.items (c.sort_by_key.ensures.stable (λ (y : ℕ × Content). y.0) (always_returns_same _ _ _ (λ a r f k. search rules))) in
    if_ok c.filled.result (λ m. IsWhole (shape_of c.args.schema.now) c.args.type_id c.sort_by_key.new.self.items m) (λ m. IsWhole (shape_of c.args.schema.now) c.args.type_id xs m)
    (λ m k. whole_unsorted c.args.schema.now c.args.type_id xs c.sort_by_key.new.self.items m same k) c.filled.ensures.ok

pub returns-clause-accepted : goal.returns-clause-accepted
returns-clause-accepted c =
    let xs = c.args.contents.items in
    let ys = c.sort_by_key.new.self.items in
    let moved = c.sort_by_key.ensures.permutation in
    let fs = fields (shape_of c.args.schema.now) c.args.type_id in
    let takes = subst (AllByRecursion (TakesContent (shape_of c.args.schema.now) c.args.type_id)) c.deref.ensures.value c.in_ok-check_contents.ensures in
    let rises = subst Rises c.deref-2.ensures.value (c.if-has_number_twice.ensures.rises refl) in
    let same : (j : ℕ) → filter (of_field j) ys ≡ filter (of_field j) xs =
    kept_under xs ys (c.sort_by_key.ensures.stable (λ (y : ℕ × Content). y.0) (always_returns_same _ _ _ (λ a r f k. search rules))) in
    let oneof_once : (o : ℕ) → length (filter (λ (x : ℕ × Content). is_in_oneof (fields (shape_of c.args.schema.now) c.args.type_id) o x.0) xs) ≤ 1 =
    λ o.
    let here = subst (λ (zs : List (ℕ × Content)). length (members (fields (shape_of c.args.schema.now) c.args.type_id) o zs) ≤ 1) c.deref-3.ensures.value (c.each_oneof_once.ensures.once c.if-not-each_oneof_once.false o) in
    let count = count_moved (λ (x : ℕ × Content). is_in_oneof (fields (shape_of c.args.schema.now) c.args.type_id) o x.0) xs ys moved in
    omega (arith, here, count) in
    let fields_once = once fs xs (once_unsorted c.args.schema.now c.args.type_id xs ys same rises) oneof_once in
    let keys = subst (AllByRecursion (λ (x : ℕ × Content). HasKeyTwice x.1 → ⊥)) c.deref-4.ensures.value c.in_ok-check_all_keys.ensures.ok in
    on_ok c.filled.result (whole_accepted c.args.schema.now c.args.type_id xs takes fields_once (each_moved (λ (x : ℕ × Content). HasKeyTwice x.1 → ⊥) ys xs (IsPermutation-sym xs ys moved) keys))

pub returns-in_err-check_contents-clause-lacking : goal.returns-in_err-check_contents-clause-lacking
returns-in_err-check_contents-clause-lacking c =
    let (y, is, from) = err_from_is_err_and c.from_residual.result c.from_residual.ensures.1 in
    let lowest = subst (λ (xs : List (ℕ × Content)). IsLowest (FirstOf (λ (x : ℕ × Content). ContentFault (shape_of c.args.schema.now) c.args.type_id x.0 x.1) xs) c.in_err-check_contents.field-0.0) c.deref.ensures.value c.in_err-check_contents.ensures.0 in
    let lacks : DynError → Type 0 = λ e. e ≡ errors.Memory → HasNoEarlyFault (ContentsFault (shape_of c.args.schema.now) c.args.type_id c.args.contents.items) in
    subst (λ (x : Result Message DynError). IfErr x lacks) (sym is)
    (subst lacks (sym from) (λ memory. absurd (whole_no_memory c.args.schema.now c.args.type_id c.args.contents.items c.in_err-check_contents.field-0.0 memory lowest)))

pub returns-in_err-sort_by_key-clause-lacking : goal.returns-in_err-sort_by_key-clause-lacking
returns-in_err-sort_by_key-clause-lacking c =
    let takes = subst (AllByRecursion (TakesContent (shape_of c.args.schema.now) c.args.type_id)) c.deref.ensures.value c.in_ok-check_contents.ensures in
    if_err c.from_residual-in_err-sort_by_key.result (λ e. e ≡ errors.Memory → HasNoEarlyFault (ContentsFault (shape_of c.args.schema.now) c.args.type_id c.args.contents.items))
    (λ e is. whole_early c.args.schema.now c.args.type_id c.args.contents.items takes)

pub returns-in_err-check_all_keys-clause-lacking : goal.returns-in_err-check_all_keys-clause-lacking
returns-in_err-check_all_keys-clause-lacking c =
    let takes = subst (AllByRecursion (TakesContent (shape_of c.args.schema.now) c.args.type_id)) c.deref.ensures.value c.in_ok-check_contents.ensures in
    if_err c.from_residual-in_err-check_all_keys.result (λ e. e ≡ errors.Memory → HasNoEarlyFault (ContentsFault (shape_of c.args.schema.now) c.args.type_id c.args.contents.items))
    (λ e is. whole_early c.args.schema.now c.args.type_id c.args.contents.items takes)

pub returns-clause-lacking : goal.returns-clause-lacking
returns-clause-lacking c =
    let takes = subst (AllByRecursion (TakesContent (shape_of c.args.schema.now) c.args.type_id)) c.deref.ensures.value c.in_ok-check_contents.ensures in
    if_err c.filled.result (λ e. e ≡ errors.Memory → HasNoEarlyFault (ContentsFault (shape_of c.args.schema.now) c.args.type_id c.args.contents.items))
    (λ e is. whole_early c.args.schema.now c.args.type_id c.args.contents.items takes)
