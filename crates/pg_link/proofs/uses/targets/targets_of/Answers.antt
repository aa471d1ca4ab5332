use Rattle.std.proofs.Common.{◌≡◌, ◌∙◌, ◌+◌, ◌++◌, ◌∷◌, ℕ, List, Some, None, map, take, drop, subst, sym, ap}
use Rattle.pg_link.specs.declared.uses.Site as made
use Rattle.pg_link.specs.inner.Index.{names_seen}
use Rattle.pg_link.specs.names.Names.{Text}
use Rattle.pg_link.specs.inner.Made.{use_of}
use Rattle.pg_link.specs.inner.Indexed.{declared_in}
use Rattle.pg_link.specs.uses.Targets.{Resolution, target_in}
use Rattle.pg_link.specs.inner.Refusals.{Says}
use Rattle.pg_link.specs.uses.Uses.{Use, file_uses}
use Rattle.pg_link.proofs.lemmas.uses.UseFaultLaws.{all_resolve, use_refused}
use Rattle.pg_link.proofs.lemmas.walk.WalkLaws.{split_at}
use Rattle.pg_link.proofs.uses.targets.targets_of.Goals as goal

pub returns-in-Err-clause-fault : goal.returns-in-Err-clause-fault
returns-in-Err-clause-fault c = λ all numbered.
    let sites : List made.Site = c.deref-site-items.result.now in
    let i : ℕ = c.loop-site.site-index in
    let x : made.Site = c.site-item.result in
    let front : List Use = map use_of (take i sites) in
    let back : List Use = map use_of (drop (i + 1) sites) in
    let splits : file_uses c.args.file.now.tree ≡ front ++ use_of x ∷ back =
    sym (ap (map use_of) c.deref-site-items.ensures.value ∙ c.in_ok-sites.ensures)
    ∙ (split_at use_of sites i x c.loop-site-test.true ∙ ap (λ (s : made.Site). front ++ use_of s ∷ back) (sym c.site-item.is)) in
    let resolve : Resolution = target_in (declared_in all) (names_seen c.args.index.now.names (Some c.args.visible.marks.now)) in
    use_refused resolve (names_seen c.args.index.now.names (Some c.args.visible.marks.now)) (names_seen c.args.index.now.names None) (use_of x) c.in-Err.why
    c.args.path.now c.args.file.now.bytes.items c.args.file.now.tree c.use_fault.result front back splits
    (all_resolve resolve front c.loop-site.targets.items (c.loop-site.invariant.found all numbered)) c.in-Err.ensures.refused
    (subst (λ (t : Text). Says c.in-Err.why c.args.path.now t (use_of x).at c.use_fault.result) c.deref.ensures.value c.use_fault.ensures)
