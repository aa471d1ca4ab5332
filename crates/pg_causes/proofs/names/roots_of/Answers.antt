use Rattle.std.proofs.Common.{◌≡◌, ◌∙◌, ℕ, List, Some, map, is_some, refl, ap, subst, sym}
use Rattle.std.specs.List.{AllByRecursion}
use Rattle.pg_schema.specs.declared.parts.Parts.{Parts}
use Rattle.pg_schema.specs.Parts.{name_at}
use Rattle.pg_causes.specs.Names.{name_of}
use Rattle.pg_least.specs.Loss.{AreRoots}
use Rattle.pg_pairs.specs.declared.choices.choice.Pair.{Pair}
use Rattle.pg_causes.proofs.Going.{each_pushed, pushed}
use Rattle.pg_causes.proofs.Naming.{none_found, placed_name, shared_more, shared_same}
use Rattle.pg_causes.proofs.names.roots_of.Goals.{in-Some+in_ok-push, in_default}
use Rattle.pg_causes.proofs.names.roots_of.Goals as goal

pub loop-index-preserved : goal.loop-index-preserved
loop-index-preserved c =
    elim c.match-message.branch [
      | in-Some+in_ok-push w ↦
          let name = c.as_str.result.now in
          let type = c.index-types-index.result in
          let index = c.loop-index.index in
          let root : Pair = record { old = record { index = index }; new = w.in-Some.new_type } in
          let called : name ≡ name_of type = c.as_str.ensures.value ∙ ap name_of (sym c.index-types-index.is) in
          let named : name_at c.args.old.now.types.items (record { index = index }) ≡ Some name =
          placed_name c.args.old.now.types.items c.as_slice-types.result.now index type name (c.as_slice-types.ensures.value ∙ ap (λ (p : Parts). p.types.items) c.parts.ensures.parts) c.loop-index-test.true c.index-types-index.is called in
          let more = shared_more c.args.new.now c.as_slice-types.result.now index type name c.message.result
          c.loop-index-test.true c.index-types-index.is called c.message.ensures (ap is_some w.in-Some.is) in
          let pushes = ap (λ (v : _). v.items) w.roots-is ∙ w.in_ok-push.ensures.items in
          record {
            in_order =
                pushed (λ (p : Pair). name_at c.args.old.now.types.items p.old) c.loop-index.roots.items c.match-message.roots.items root _ (Some (name_of type)) pushes c.loop-index.invariant.in_order (named ∙ ap Some called)
                ∙ sym (pushed Some _ _ (name_of type) _ _ more refl refl);
            alike = each_pushed (λ (p : Pair). (name : List ℕ) × AreRoots c.args.old.now c.args.new.now name p) c.loop-index.roots.items c.match-message.roots.items root pushes c.loop-index.invariant.alike (name, record { old_named = named; new_named = (c.message.ensures w.in-Some.new_type).0 w.in-Some.is });
          }
      | in_default w ↦
          let same = shared_same c.args.new.now c.as_slice-types.result.now c.loop-index.index c.index-types-index.result c.as_str.result.now c.message.result
          c.loop-index-test.true c.index-types-index.is (c.as_str.ensures.value ∙ ap name_of (sym c.index-types-index.is)) c.message.ensures (none_found c.message.result w.in_default.not-Some) in
          record {
            in_order = ap (λ (v : _). map (λ (p : Pair). name_at c.args.old.now.types.items p.old) v.items) w.roots-is ∙ (c.loop-index.invariant.in_order ∙ ap (map Some) (sym same));
            alike = subst (λ (v : _). AllByRecursion (λ (p : Pair). (name : List ℕ) × AreRoots c.args.old.now c.args.new.now name p) v.items) (sym w.roots-is) c.loop-index.invariant.alike;
          }
    ]
