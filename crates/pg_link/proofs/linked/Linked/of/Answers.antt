use Rattle.std.proofs.Common.{◌≡◌, ◌∙◌, Bool, List, Some, Vec, map, subst, sym}
use Rattle.std.proofs.lemmas.List.{length-map}
use Rattle.std.specs.Global.{Global}
use Rattle.pg_link.specs.Linked.{IsLinkedUp}
use Rattle.pg_link.specs.declared.uses.target.Target.{Target}
use Rattle.pg_link.specs.declared.uses.targets.FileTargets.{FileTargets}
use Rattle.pg_link.specs.inner.Settled.{IsRead}
use Rattle.pg_link.specs.inner.VisibleFiles.{AreVisibleFiles}
use Rattle.pg_link.specs.names.Standing.{NoneTwice, all_standings}
use Rattle.pg_link.specs.uses.Targets.{file_targets}
use Rattle.pg_link.specs.walk.Walk.{Entry, outlines}
use Rattle.pg_link.proofs.lemmas.names.OnceLaws.{once_per_name}
use Rattle.pg_link.proofs.lemmas.names.SeenPaths.{sees_these}
use Rattle.pg_link.proofs.linked.Linked.of.Goals as goal

pub all_targets-requires-clause-visible_files : goal.all_targets-requires-clause-visible_files
all_targets-requires-clause-visible_files c =
    subst (λ (ms : List (Vec Bool Global)). AreVisibleFiles c.args.files.entries (map (λ (m : Vec Bool Global). m.items) ms)) (sym c.deref.ensures.value) c.in_ok-visible_files.ensures.visible_files

linked_up : (files : List Entry) (targets : List (List Target)) → IsRead files → NoneTwice (all_standings files) → map (map Some) targets ≡ map (file_targets files) files
    → IsLinkedUp (record { files = files; targets = targets })
linked_up files targets read once resolved = record {
  parsed = read.parsed;
  in_order = read.in_order;
  apart = read.apart;
  few = read.few;
  once = once;
  unique = once_per_name (all_standings files) once;
  sees = sees_these (outlines files) read.in_order read.apart;
  resolved = resolved;
}

pub returns-clause-linked : goal.returns-clause-linked
returns-clause-linked c =
    linked_up c.args.files.entries (map (λ (f : FileTargets). f.targets.items) c.in_ok-targets.targets.items) c.requires c.in_ok-index.ensures.once c.in_ok-targets.ensures.resolved

pub invariant_of-result : goal.invariant_of-result
invariant_of-result c = record {
  linked = linked_up c.args.files.entries (map (λ (f : FileTargets). f.targets.items) c.in_ok-targets.targets.items) c.requires c.in_ok-index.ensures.once c.in_ok-targets.ensures.resolved;
  lists = (c.in_ok-index.ensures.holds, c.in_ok-index.ensures.numbered);
  visible_length = length-map c.in_ok-visible_files.visible_files.items (λ (m : Vec Bool Global). m.items) ∙ c.in_ok-visible_files.ensures.same_length;
  are_visible = c.in_ok-visible_files.ensures.visible_files;
  placed = c.in_ok-targets.ensures.placed;
}
