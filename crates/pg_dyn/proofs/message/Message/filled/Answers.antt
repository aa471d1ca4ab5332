use Rattle.std.proofs.Common.{◌≡◌, ◌∷◌, [], ◌++◌, ℕ, Some, sym, ap, subst, ◌∙◌, append_assoc}
use Rattle.std.specs.Vec.Iter.{into_iter_items}
use Rattle.std.specs.List.{AllByRecursion}
use Rattle.pg_schema.specs.declared.parts.field.TypeId.{TypeId}
use Rattle.pg_schema.specs.Parts.{shape_of}
use Rattle.pg_schema.specs.Shape.{fields, field_at}
use Rattle.pg_dyn.specs.declared.message.Content.{Content}
use Rattle.pg_dyn.specs.setting.ContentFaults.{HasKeyTwice}
use Rattle.pg_dyn.specs.fitting.ContentFits.{NoneSiblings}
use Rattle.pg_dyn.specs.fitting.Fits.{Fits}
use Rattle.pg_dyn.specs.message.Kept.{type_of}
use Rattle.pg_dyn.specs.message.Replacing.{without_siblings}
use Rattle.pg_dyn.specs.message.Seen.{Rises}
use Rattle.pg_dyn.specs.inner.Reported.{TakesContent}
use Rattle.pg_dyn.proofs.lemmas.setting.WholeSteps.{whole_more, fill_fits, rises_before, fact_of_next}
use Rattle.pg_dyn.proofs.message.Message.filled.Goals as goal
use Rattle.pg_dyn.proofs.Lists.{each_before}

pub loop-number-preserved : goal.loop-number-preserved
loop-number-preserved c =
    let l = c.loop-number in
    let shape = shape_of c.args.schema.now in
    let type = c.args.type_id in
    let rest = into_iter_items c.next.new.self in
    let x : ℕ × Content = (c.in-Some.number, c.in-Some.content) in
    let steps : into_iter_items l.number-iterator ≡ x ∷ rest = c.in-Some.ensures.steps.0 in
    let given = ap (λ xs. l.yielded ++ xs) (sym steps) ∙ l.invariant.given in
    let rises = subst Rises (sym given) c.requires.rises in
    let takes = subst (AllByRecursion (TakesContent shape type)) (sym given) c.requires.taken in
    let apart = subst (NoneSiblings (fields shape type)) (sym given) c.requires.apart in
    let (f, taken) = fact_of_next (TakesContent shape type) l.yielded rest x takes in
    let found_there : field_at (fields shape (type_of l.message)) x.0 ≡ Some f = ap (λ (t : TypeId). field_at (fields (shape_of c.args.schema.now) t) c.in-Some.number) l.invariant.whole.of_type ∙ taken.found in
    let is_new = c.in-Ok.ensures.ok f found_there in
    let whole = whole_more c.args.schema.now type l.yielded x.0 x.1 f l.message c.add.new.self l.invariant.whole (rises_before l.yielded rest x rises) taken.found is_new in
    let put = subst (λ (t : TypeId). Fits (shape_of c.args.schema.now) (without_siblings (fields (shape_of c.args.schema.now) t) f c.loop-number.message) → Fits (shape_of c.args.schema.now) (without_siblings (fields (shape_of c.args.schema.now) t) f c.add.new.self)) l.invariant.whole.of_type (c.in-Ok.ensures.fits f found_there) in
    record {
      given = append_assoc l.yielded (x ∷ []) _ ∙ given;
      whole = whole;
      fits = fill_fits c.args.schema.now type c.requires.schema x.0 f taken.found l.yielded rest x.1 l.message c.add.new.self l.invariant.whole whole (each_before (TakesContent shape type) l.yielded (x ∷ rest) takes) apart put l.invariant.fits;
    }

pub add-requires-clause-taken : goal.add-requires-clause-taken
add-requires-clause-taken c =
    let l = c.loop-number in
    let x : ℕ × Content = (c.in-Some.number, c.in-Some.content) in
    let steps : into_iter_items l.number-iterator ≡ x ∷ into_iter_items c.next.new.self = c.in-Some.ensures.steps.0 in
    let given = ap (λ xs. l.yielded ++ xs) (sym steps) ∙ l.invariant.given in
    let taken = fact_of_next (TakesContent (shape_of c.args.schema.now) c.args.type_id) l.yielded _ x (subst (AllByRecursion (TakesContent (shape_of c.args.schema.now) c.args.type_id)) (sym given) c.requires.taken) in
    subst (λ (t : TypeId). TakesContent (shape_of c.args.schema.now) t (c.in-Some.number, c.in-Some.content)) (sym l.invariant.whole.of_type) taken

pub add-requires-clause-once : goal.add-requires-clause-once
add-requires-clause-once c =
    let l = c.loop-number in
    let x : ℕ × Content = (c.in-Some.number, c.in-Some.content) in
    let steps : into_iter_items l.number-iterator ≡ x ∷ into_iter_items c.next.new.self = c.in-Some.ensures.steps.0 in
    let given = ap (λ xs. l.yielded ++ xs) (sym steps) ∙ l.invariant.given in
    fact_of_next (λ (y : ℕ × Content). HasKeyTwice y.1 → ⊥) l.yielded _ x (subst (AllByRecursion (λ (y : ℕ × Content). HasKeyTwice y.1 → ⊥)) (sym given) c.requires.once)
