use Rattle.std.proofs.Common.{◌≡◌, ◌∙◌, ◌<◌, ℕ, List, Some, length, map, slice_get, refl, sym, ap, arith}
use Rattle.std.proofs.lemmas.Option.{same_Some, slice_get-map, slice_get_read}
use Rattle.std.proofs.lemmas.List.{length-map}
use Rattle.std.specs.Option.{option_map}
use Rattle.pg_link.specs.declared.uses.targets.FileTargets.{FileTargets}
use Rattle.pg_link.specs.Linked.{LinkedFiles}
use Rattle.pg_link.specs.uses.Targets.{file_places}
use Rattle.pg_link.specs.walk.Walk.{Entry}
use Rattle.pg_link.proofs.linked.Linked.places.Goals as goal

pub returns : goal.returns
returns c = λ e at.
    let fs : List Entry = c.self.inside.files.entries in
    let ts : List FileTargets = c.self.inside.targets.items in
    let items = λ (f : FileTargets). f.places.items in
    let placed : map items ts ≡ map file_places fs = c.self.invariant.placed in
    let same : fs ≡ c.args.self.now.files = ap (λ (l : LinkedFiles). l.files) c.self.view_is in
    let there : slice_get fs c.args.file ≡ Some e = ap (λ (l : List Entry). slice_get l c.args.file) same ∙ at in
    let within : c.args.file < length ts =
    omega (arith, c.requires, ap length same, sym (length-map ts items) ∙ (ap length placed ∙ length-map fs file_places)) in
    let here : slice_get (map items ts) c.args.file ≡ Some c.deref.result.now =
    slice_get-map items ts c.args.file ∙ (ap (option_map items) (slice_get_read ts (length ts) c.args.file c.index.result.now refl within c.index.ensures)
    ∙ ap (λ (l : List ℕ). Some l) (sym c.deref.ensures.value)) in
    same_Some c.deref.result.now (file_places e)
    (sym here ∙ (ap (λ (l : List (List ℕ)). slice_get l c.args.file) placed ∙ (slice_get-map file_places fs c.args.file ∙ ap (option_map file_places) there)))
