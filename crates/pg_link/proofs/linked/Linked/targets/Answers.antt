use Rattle.std.proofs.Common.{◌≡◌, ◌∙◌, ◌<◌, ℕ, List, Some, length, map, slice_get, refl, sym, ap, arith}
use Rattle.std.proofs.lemmas.Option.{same_Some, slice_get-map, slice_get_read}
use Rattle.std.proofs.lemmas.List.{length-map}
use Rattle.std.specs.Option.{option_map}
use Rattle.pg_link.specs.declared.uses.target.Target.{Target}
use Rattle.pg_link.specs.declared.uses.targets.FileTargets.{FileTargets}
use Rattle.pg_link.specs.Linked.{LinkedFiles}
use Rattle.pg_link.specs.uses.Targets.{file_targets}
use Rattle.pg_link.specs.walk.Walk.{Entry}
use Rattle.pg_link.proofs.linked.Linked.targets.Goals as goal

-- what is at one index of equal lists
one_index : {X Y Z : Type 0} (f : X → Z) (g : Y → Z) (xs : List X) (ys : List Y) (i : ℕ) (x : X) (y : Y) → map f xs ≡ map g ys → slice_get xs i ≡ Some x
    → slice_get ys i ≡ Some y → f x ≡ g y
one_index f g xs ys i x y same here there =
    same_Some (f x) (g y) (sym (slice_get-map f xs i ∙ ap (option_map f) here) ∙ (ap (λ l. slice_get l i) same ∙ (slice_get-map g ys i ∙ ap (option_map g) there)))

within_targets : {X Y Z : Type 0} (f : X → Z) (g : Y → Z) (xs : List X) (ys : List Y) (i : ℕ) → map f xs ≡ map g ys → i < length ys → i < length xs
within_targets f g xs ys i same within = omega (arith, within, sym (length-map xs f) ∙ (ap length same ∙ length-map ys g))

pub returns-clause-resolved : goal.returns-clause-resolved
returns-clause-resolved c = λ e at.
    let fs : List Entry = c.self.inside.files.entries in
    let ts : List FileTargets = c.self.inside.targets.items in
    let items = λ (f : FileTargets). f.targets.items in
    let resolved = c.self.invariant.linked.resolved in
    let same : fs ≡ c.args.self.now.files = ap (λ (l : LinkedFiles). l.files) c.self.view_is in
    let there : slice_get fs c.args.file ≡ Some e = ap (λ (l : List Entry). slice_get l c.args.file) same ∙ at in
    let within : c.args.file < length (map items ts) =
    within_targets (map (λ (t : Target). Some t)) (file_targets fs) (map items ts) fs c.args.file resolved (omega (arith, c.requires, ap length same)) in
    let here : slice_get (map items ts) c.args.file ≡ Some c.deref.result.now =
    slice_get-map items ts c.args.file ∙ (ap (option_map items) (slice_get_read ts (length ts) c.args.file c.index.result.now refl (omega (arith, within, length-map ts items)) c.index.ensures)
    ∙ ap (λ (l : List Target). Some l) (sym c.deref.ensures.value)) in
    one_index (map (λ (t : Target). Some t)) (file_targets fs) (map items ts) fs c.args.file c.deref.result.now e resolved here there
    ∙ ap (λ (l : List Entry). file_targets l e) same
