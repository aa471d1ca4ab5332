use Rattle.std.proofs.Common.{◌≡◌, ◌∙◌, ℕ, List, [], None, String, string_bytes, ap, map, refl, reverse, take, sym, subst, slice_index_or, arith}
use Rattle.std.proofs.lemmas.List.{map_more, take_all}
use Rattle.std.proofs.lemmas.Result.{err_from_is_err_and}
use Rattle.std.specs.Borrow.{Bor}
use Rattle.std.specs.Global.{Global}
use Rattle.pg_link.specs.declared.walk.Walk as walks
use Rattle.pg_link.specs.names.Names.{texts}
use Rattle.pg_link.specs.walk.Reads.{world_of}
use Rattle.pg_link.specs.walk.Walk.{World, Refuses}
use Rattle.pg_link.specs.inner.Walking.{IsSound, Follows, VisitLists, entries}
use Rattle.pg_link.proofs.lemmas.walk.LeadLaws.{all_listed, from_roots}
use Rattle.pg_link.proofs.lemmas.walk.PostOrderLaws.{first_listed, next_listed}
use Rattle.pg_link.proofs.lemmas.walk.ReadLaws.{all_far, far_apart, far_refused, first_far, next_far, reads_on, same_world, unasked}
use Rattle.pg_link.proofs.lemmas.walk.WalkLaws.{contains_root, first_sound, follows_root, linked, take_none}
use Rattle.pg_link.proofs.walk.follow_imports.Goals as goal

pub returns-in_err-visit-clause-refused : goal.returns-in_err-visit-clause-refused
returns-in_err-visit-clause-refused g c =
    let inv = c.loop-root.invariant in
    let roots = c.args.roots.now in
    let none : Bor (List ℕ) = record { ref_ptr = (0, 0); now = [] } in
    let root : List ℕ = (slice_index_or roots c.loop-root.root-index none).now in
    let e = c.in_err-visit.field-0.0 in
    let w = world_of g.S.Sources c.args.source.now c.args.folder.now (texts roots) in
    let p = err_from_is_err_and c.from_residual.result c.from_residual.ensures.1 in
    let now = same_world g.S.Sources c.args.source.now c.loop-root.source 0 c.args.folder.now (texts roots) inv.reads in
    let follows = follows_root w c.loop-root.walk root inv.opened inv.sound (contains_root roots c.loop-root.root-index none c.loop-root-test.true) in
    rw (p.1, p.2) (subst (λ (x : World). Refuses x e) now
    (c.in_err-visit.ensures.refused (texts roots) (subst (λ (x : World). Follows x c.loop-root.walk None root) (sym now) follows)))

pub loop-root-preserved : goal.loop-root-preserved
loop-root-preserved g c =
    let inv = c.loop-root.invariant in
    let after = c.in_ok-visit.ensures in
    let roots = c.args.roots.now in
    let none : Bor (List ℕ) = record { ref_ptr = (0, 0); now = [] } in
    let root : List ℕ = (slice_index_or roots c.loop-root.root-index none).now in
    let new = c.visit.new.walk in
    let w = world_of g.S.Sources c.args.source.now c.args.folder.now (texts roots) in
    let mid = world_of g.S.Sources c.loop-root.source c.args.folder.now (texts roots) in
    let now = same_world g.S.Sources c.args.source.now c.loop-root.source 0 c.args.folder.now (texts roots) inv.reads in
    let follows = follows_root w c.loop-root.walk root inv.opened inv.sound (contains_root roots c.loop-root.root-index none c.loop-root-test.true) in
    let sound : IsSound mid [] (entries new) = subst (λ (ps : List (List ℕ)). IsSound mid ps (entries new)) inv.opened
    (after.sound (texts roots) (subst (λ (x : World). Follows x c.loop-root.walk None root) (sym now) follows)) in
    record {
      sound = subst (λ (x : World). IsSound x [] (entries new)) now sound;
      opened = after.opened ∙ inv.opened;
      lists = subst (λ (ps : List (List ℕ)). VisitLists [] ps new) (sym (map_more (λ (r : Bor (List ℕ)). r.now) roots c.loop-root.root-index none c.loop-root-test.true))
          (next_listed [] (texts (take c.loop-root.root-index roots)) root c.loop-root.walk new inv.lists after.extends after.lists);
      asked = next_far c.args.folder.now _ _ _ c.loop-root.walk new inv.asked inv.opened after.reads_all;
      reads = reads_on g.S.Sources c.args.source.now c.loop-root.source _ 0 inv.reads after.reads;
    }

pub returns-clause-linked : goal.returns-clause-linked
returns-clause-linked g c =
    let inv = c.loop-root.invariant in
    let roots = c.args.roots.now in
    let w = world_of g.S.Sources c.args.source.now c.args.folder.now (texts roots) in
    let whole : take c.loop-root.root-index roots ≡ roots = take_all c.loop-root.root-index roots (omega (arith, c.loop-root-test.false)) in
    let lists : VisitLists [] (texts roots) c.loop-root.walk = subst (λ (rs : List (Bor (List ℕ))). VisitLists [] (texts rs) c.loop-root.walk) whole inv.lists in
    linked w (entries c.loop-root.walk) inv.sound lists (all_listed c.loop-root.walk [] (texts roots) lists) (from_roots c.loop-root.walk (texts roots) lists)

pub returns-clause-reads_each : goal.returns-clause-reads_each
returns-clause-reads_each g c = all_far c.args.folder.now _ _ c.loop-root.walk c.loop-root.invariant.asked

pub returns-clause-reads_apart : goal.returns-clause-reads_apart
returns-clause-reads_apart g c = far_apart c.args.folder.now _ _ c.loop-root.walk c.loop-root.invariant.asked

pub returns-in_err-visit-clause-reads_apart : goal.returns-in_err-visit-clause-reads_apart
returns-in_err-visit-clause-reads_apart g c =
    let inv = c.loop-root.invariant in
    far_refused c.args.folder.now _ _ _ c.loop-root.walk inv.asked inv.opened c.in_err-visit.ensures.reads_new

pub loop-root-init : goal.loop-root-init
loop-root-init g c =
    let walk : walks.Walk = record { files = c.new.result; opened = c.new-2.result } in
    let none : entries walk ≡ [] = c.new.ensures.empty in
    record {
      sound = first_sound _ (entries walk) none;
      opened = ap (λ (keys : List (String Global)). reverse (map string_bytes keys)) c.new-2.ensures.empty;
      lists = first_listed walk (texts (take 0 c.args.roots.now)) none (ap texts (take_none c.args.roots.now));
      asked = first_far c.args.folder.now _ _ walk refl none;
      reads = unasked g.S.Sources c.args.source.now;
    }
