use Rattle.std.proofs.Common.{◌≡◌, ◌⊎◌, ◌∙◌, inl, inr, ap, option_map, string_bytes, subst, sym}
use Rattle.std.proofs.lemmas.Result.{IfErr-weaker, IfOk-weaker}
use Rattle.pg_call.specs.Paths.{both_paths, paths_in, paths_of}
use Rattle.pg_link.specs.walk.Walk.{World}
use Rattle.pg_gate.specs.answer.AllTypes.{IsAllTypes}
use Rattle.pg_gate.specs.answer.Grants.{Between, IsAllError, IsNamesFault, IsSidesFault, AllOf, Listed, seen}
use Rattle.pg_gate.specs.answer.Lists.{IsFaultOfNames, IsUnreadableIf}
use Rattle.pg_gate.specs.inner.Lists.{IsUnnamed}
use Rattle.pg_gate.specs.inner.Sources.{world_of}
use Rattle.pg_gate.specs.declared.error.Fault.{Fault}
use Rattle.pg_gate.specs.declared.error.GateError.{GateError}
use Rattle.pg_lines.specs.declared.side.Side.{Side}
use Rattle.pg_lines.specs.declared.side.Side.TheVariants as sides
use Rattle.pg_gate.proofs.lemmas.ErrorLemmas.{IfErr-IsErrAnd, error-weaker}
use Rattle.pg_gate.proofs.lemmas.answer.ListLemmas.{after_reads, as_listed, listed, unnamed}
use Rattle.pg_gate.proofs.answer.listing.all_found.Goals as goal

pub returns-in_err-new_list-clause-refused : goal.returns-in_err-new_list-clause-refused
returns-in_err-new_list-clause-refused g c =
    let files = both_paths c.args.asked.now.files in
    let old = seen g.S.Sources c.args.old.now c.list_of.new.source in
    let new = seen g.T.Sources c.args.new.now c.list_of-2.new.source in
    let list = option_map string_bytes c.in_ok-old_list.old_list in
    let error : GateError = c.in_err-new_list.field-0.0 in
    IfErr-IsErrAnd c.from_residual-in_err-new_list.result (λ e. e ≡ error) (λ e. IsAllError old new files e) c.from_residual-in_err-new_list.ensures.1
    (λ e same. subst (λ e. IsAllError old new files e) (sym same)
    (error-weaker (λ of found. (of ≡ sides.New) × IsUnreadableIf new.may_give new.may_lack files.new.list found)
    (λ side fault. IsNamesFault old new files side fault ⊎ AllOf old files.old (λ v. AllOf new files.new (λ w. IsSidesFault v w side fault)))
    (λ x. x) (λ x. x) (λ x. x)
    (λ side fault is. inl (subst (λ s. IsNamesFault old new files s fault) (sym is.0)
    (listed g.S.Sources c.args.old.now files.old list c.in_ok-old_list.ensures.given c.in_ok-old_paths.ensures.some (λ w. IsFaultOfNames new.may_give new.may_lack files.new fault) (inl is.1))))
    error c.in_err-new_list.ensures.refused))

pub returns-in_err-new_paths-clause-refused : goal.returns-in_err-new_paths-clause-refused
returns-in_err-new_paths-clause-refused g c =
    let files = both_paths c.args.asked.now.files in
    let old = seen g.S.Sources c.args.old.now c.list_of.new.source in
    let new = seen g.T.Sources c.args.new.now c.list_of-2.new.source in
    let list = option_map string_bytes c.in_ok-old_list.old_list in
    let other = option_map string_bytes c.in_ok-new_list.new_list in
    let error : GateError = c.in_err-new_paths.field-0.0 in
    IfErr-IsErrAnd c.from_residual-in_err-new_paths.result (λ e. e ≡ error) (λ e. IsAllError old new files e) c.from_residual-in_err-new_paths.ensures.1
    (λ e same. subst (λ e. IsAllError old new files e) (sym same)
    (error-weaker (λ of found. (of ≡ sides.New) × IsUnnamed files.new.files files.new.list other found)
    (λ side fault. IsNamesFault old new files side fault ⊎ AllOf old files.old (λ v. AllOf new files.new (λ w. IsSidesFault v w side fault)))
    (λ x. x) (λ x. x) (λ x. x)
    (λ side fault is. inl (subst (λ s. IsNamesFault old new files s fault) (sym is.0)
    (listed g.S.Sources c.args.old.now files.old list c.in_ok-old_list.ensures.given c.in_ok-old_paths.ensures.some (λ w. IsFaultOfNames new.may_give new.may_lack files.new fault)
    (inr (unnamed new.may_give files.new other c.in_ok-new_list.ensures.given fault is.1)))))
    error c.in_err-new_paths.ensures.refused))

pub returns-clause-found : goal.returns-clause-found
returns-clause-found g c =
    let asked = c.args.asked.now in
    let files = both_paths asked.files in
    let list = option_map string_bytes c.in_ok-old_list.old_list in
    let other = option_map string_bytes c.in_ok-new_list.new_list in
    let old_all = paths_in c.at_paths.result in
    let new_all = paths_in c.at_paths-2.result in
    let old_same = as_listed files.old old_all list _ _ c.at_paths.ensures (ap paths_of c.deref.ensures.value ∙ c.in_ok-old_includes.ensures) (ap paths_of c.deref-2.ensures.value ∙ c.in_ok-old_paths.ensures.all) in
    let new_same = as_listed files.new new_all other _ _ c.at_paths-2.ensures (ap paths_of c.deref-3.ensures.value ∙ c.in_ok-new_includes.ensures) (ap paths_of c.deref-4.ensures.value ∙ c.in_ok-new_paths.ensures.all) in
    let give = g.T.Sources.may_give c.args.new.now in
    let lack = g.T.Sources.may_lack c.args.new.now in
    IfOk-weaker c.find_all.result _ _
    (λ all is.
    after_reads g.S.Sources c.args.old.now files.old list c.in_ok-old_list.ensures.given c.in_ok-old_paths.ensures.some c.list_of.new.source old_all
    (λ v. Listed give lack files.new (λ w. Between v w (λ a b. IsAllTypes asked.view a b asked.explain asked.notes all))) c.in_ok-old_list.ensures.reads old_same
    (after_reads g.T.Sources c.args.new.now files.new other c.in_ok-new_list.ensures.given c.in_ok-new_paths.ensures.some c.list_of-2.new.source new_all
    (λ w. Between (world_of g.S.Sources c.list_of.new.source old_all) w (λ a b. IsAllTypes asked.view a b asked.explain asked.notes all)) c.in_ok-new_list.ensures.reads new_same is))
    c.find_all.ensures.found

pub returns-clause-refused : goal.returns-clause-refused
returns-clause-refused g c =
    let files = both_paths c.args.asked.now.files in
    let old = seen g.S.Sources c.args.old.now c.find_all.new.old in
    let new = seen g.T.Sources c.args.new.now c.find_all.new.new in
    let list = option_map string_bytes c.in_ok-old_list.old_list in
    let other = option_map string_bytes c.in_ok-new_list.new_list in
    let old_all = paths_in c.at_paths.result in
    let new_all = paths_in c.at_paths-2.result in
    let old_same = as_listed files.old old_all list _ _ c.at_paths.ensures (ap paths_of c.deref.ensures.value ∙ c.in_ok-old_includes.ensures) (ap paths_of c.deref-2.ensures.value ∙ c.in_ok-old_paths.ensures.all) in
    let new_same = as_listed files.new new_all other _ _ c.at_paths-2.ensures (ap paths_of c.deref-3.ensures.value ∙ c.in_ok-new_includes.ensures) (ap paths_of c.deref-4.ensures.value ∙ c.in_ok-new_paths.ensures.all) in
    let v0 = world_of g.S.Sources c.list_of.new.source old_all in
    let w0 = world_of g.T.Sources c.list_of-2.new.source new_all in
    IfErr-weaker c.find_all.result _ _
    (λ error is. error-weaker (IsSidesFault v0 w0)
    (λ side fault. IsNamesFault old new files side fault ⊎ AllOf old files.old (λ v. AllOf new files.new (λ w. IsSidesFault v w side fault)))
    (λ x. x) (λ x. x) (λ x. x)
    (λ side fault of. inr (after_reads g.S.Sources c.args.old.now files.old list c.in_ok-old_list.ensures.given c.in_ok-old_paths.ensures.some c.list_of.new.source old_all
    (λ v. AllOf new files.new (λ w. IsSidesFault v w side fault)) c.in_ok-old_list.ensures.reads old_same
    (after_reads g.T.Sources c.args.new.now files.new other c.in_ok-new_list.ensures.given c.in_ok-new_paths.ensures.some c.list_of-2.new.source new_all
    (λ w. IsSidesFault v0 w side fault) c.in_ok-new_list.ensures.reads new_same of)))
    error is)
    c.find_all.ensures.refused
