use Rattle.std.proofs.Common.{◌≡◌, ◌∙◌, ◌<◌, List, length, true, is_some, map, string_bytes, ap, subst, sym}
use Rattle.std.specs.List.{AllByRecursion}
use Rattle.pg_schema.specs.Parts.{name_at, shape_of}
use Rattle.pg_pairs.specs.declared.choices.choice.Pair.{Pair}
use Rattle.pg_pairs.specs.graph.Edges.{is_pair}
use Rattle.pg_pairs.specs.graph.GraphView.{seen}
use Rattle.pg_cert.specs.Certificate.{bound_in}
use Rattle.pg_least.specs.Searched.{pairs_of}
use Rattle.pg_least.specs.From.{AreBoundsFrom}
use Rattle.pg_causes.specs.Names.{shared}
use Rattle.pg_causes.specs.declared.overview.TypeLine.{TypeLine}
use Rattle.pg_causes.proofs.Explained.{all_told}
use Rattle.pg_causes.proofs.Reasoned.{each_has_reason, each_shown}
use Rattle.pg_causes.proofs.Told.{each_own, each_reason, each_shortest, pairs_apart, told_once}
use Rattle.pg_causes.proofs.Overviews.{all_there, are_pairs, bounds_there, lines_are, none_caused, old_there}
use Rattle.pg_causes.proofs.overview.overview_of.Goals as goal

pub bounds_from-requires : goal.bounds_from-requires
bounds_from-requires c =
    subst (AllByRecursion (λ (p : Pair). is_pair (shape_of c.args.graph.now.old.now) (shape_of c.args.graph.now.new.now) p ≡ true)) (sym c.deref.ensures.value)
    (are_pairs c.args.graph.now.old.now c.args.graph.now.new.now c.in_ok-roots.roots.items c.in_ok-roots.ensures.alike)

pub causes_in-requires : goal.causes_in-requires
causes_in-requires c =
    let view = seen c.args.graph.now in
    none_caused c.args.graph.now.old.now c.args.graph.now.new.now c.in_ok-roots.roots.items c.in_ok-roots.ensures.alike view c.in_ok-bounds.bounds
    c.sees.ensures c.parts.ensures.checked.shape c.parts-2.ensures.checked.shape c.compatible_without_causes.ensures
    (subst (λ (rs : List Pair). AreBoundsFrom view (shape_of c.args.graph.now.old.now) (shape_of c.args.graph.now.new.now) rs c.in_ok-bounds.bounds) c.deref.ensures.value c.in_ok-bounds.ensures.bounds)
    c.causes_are_told.ensures

pub type_lines-requires-clause-old_types : goal.type_lines-requires-clause-old_types
type_lines-requires-clause-old_types c =
    subst (AllByRecursion (λ (p : Pair). p.old.index < length (shape_of c.args.graph.now.old.now))) (sym c.deref-2.ensures.value)
    (old_there c.args.graph.now.old.now c.args.graph.now.new.now c.in_ok-roots.roots.items c.in_ok-roots.ensures.alike)

pub type_lines-requires-clause-bounds : goal.type_lines-requires-clause-bounds
type_lines-requires-clause-bounds c =
    let view = seen c.args.graph.now in
    subst (AllByRecursion (λ (p : Pair). is_some (bound_in c.in_ok-bounds.bounds p) ≡ true)) (sym c.deref-2.ensures.value)
    (bounds_there c.args.graph.now.old.now c.args.graph.now.new.now c.in_ok-roots.roots.items c.in_ok-roots.ensures.alike view c.in_ok-bounds.bounds
    c.sees.ensures c.parts.ensures.checked.shape c.parts-2.ensures.checked.shape c.compatible_without_causes.ensures
    (subst (λ (rs : List Pair). AreBoundsFrom view (shape_of c.args.graph.now.old.now) (shape_of c.args.graph.now.new.now) rs c.in_ok-bounds.bounds) c.deref.ensures.value c.in_ok-bounds.ensures.bounds))

pub returns : goal.returns
returns c =
    let old = c.args.graph.now.old.now in
    let new = c.args.graph.now.new.now in
    let roots = c.in_ok-roots.roots.items in
    let alike = c.in_ok-roots.ensures.alike in
    let bounds = c.in_ok-bounds.bounds in
    let lines = c.in_ok-type_lines.field-0.items in
    let view = seen c.args.graph.now in
    let from = subst (λ (rs : List Pair). AreBoundsFrom view (shape_of old) (shape_of new) rs bounds) c.deref.ensures.value c.in_ok-bounds.ensures.bounds in
    let causes = c.in_ok-causes_in.field-0.items in
    let other = pairs_apart (shape_of old) (shape_of new) roots (pairs_of bounds) from.reached in
    let names = c.in_ok-type_lines.ensures.names ∙ ap (map (λ (p : Pair). name_at old.types.items p.old)) c.deref-2.ensures.value in
    let told = c.in_ok-type_lines.ensures.bounds ∙ ap (map (bound_in bounds)) c.deref-2.ensures.value in
    record {
      roots = roots;
      roots_in_order = c.in_ok-roots.ensures.in_order;
      roots_alike = alike;
      causes = record {
        pairs = pairs_of bounds;
        reached = from.reached;
        are = c.in_ok-causes_in.ensures.are;
        each = c.in_ok-causes_in.ensures.each;
        all = all_told view old new c.sees.ensures c.parts.ensures.checked.shape c.parts-2.ensures.checked.shape c.breaks_are_told.ensures (pairs_of bounds) causes c.in_ok-causes_in.ensures.are c.in_ok-causes_in.ensures.each;
        reasons = each_has_reason view old new c.sees.ensures c.parts.ensures.checked.shape c.parts-2.ensures.checked.shape (pairs_of bounds) causes c.in_ok-causes_in.ensures.are c.in_ok-causes_in.ensures.each c.ways_cover.ensures;
        by_reason = each_reason view old new c.sees.ensures c.parts.ensures.checked.shape c.parts-2.ensures.checked.shape (pairs_of bounds) causes c.in_ok-causes_in.ensures.are c.in_ok-causes_in.ensures.each c.breaks_are_told.ensures c.ways_are_told.ensures;
        shortest = each_shortest view old new c.sees.ensures c.parts.ensures.checked.shape c.parts-2.ensures.checked.shape (pairs_of bounds) causes c.in_ok-causes_in.ensures.are c.in_ok-causes_in.ensures.each c.breaks_are_told.ensures c.ways_are_told.ensures
            c.causes_are_apart.ensures other c.causes_have_their_fields.ensures c.causes_are_told.ensures;
        shown = each_shown view old new c.sees.ensures c.parts.ensures.checked.shape c.parts-2.ensures.checked.shape (pairs_of bounds) causes c.in_ok-causes_in.ensures.are c.in_ok-causes_in.ensures.each c.causes_are_told.ensures c.causes_break_their_way.ensures;
        fields = each_own view old new c.sees.ensures c.parts.ensures.checked.shape c.parts-2.ensures.checked.shape (pairs_of bounds) causes c.in_ok-causes_in.ensures.are c.in_ok-causes_in.ensures.each c.causes_have_their_fields.ensures;
        once = told_once view old new c.sees.ensures c.parts.ensures.checked.shape c.parts-2.ensures.checked.shape (pairs_of bounds) causes c.in_ok-causes_in.ensures.are c.in_ok-causes_in.ensures.each c.causes_are_apart.ensures other;
      };
      types_in_order = all_there (λ (line : TypeLine). string_bytes line.name) lines (shared old new) (names ∙ c.in_ok-roots.ensures.in_order);
      types = lines_are old new roots alike view bounds c.sees.ensures c.parts.ensures.checked.shape c.parts-2.ensures.checked.shape c.compatible_without_causes.ensures from lines names told;
      removed = c.in_ok-names_only.ensures;
      added = c.in_ok-names_only-2.ensures;
    }
