use Rattle.std.proofs.Common.{◌≡◌, ◌∙◌, ◌<◌, ℕ, Bool, List, Some, None, Vec, Bor, get_or, length, map, slice_get, ap, subst, arith}
use Rattle.std.proofs.lemmas.List.{length-map}
use Rattle.std.proofs.lemmas.Option.{slice_get_within}
use Rattle.std.specs.Global.{Global}
use Rattle.pg_link.specs.declared.names.index.Index as indexes
use Rattle.pg_link.specs.declared.names.resolve.Unresolved.{Unresolved}
use Rattle.pg_link.specs.declared.uses.target.Target.{Target}
use Rattle.pg_link.specs.names.Files.{all_names, visible_names}
use Rattle.pg_link.specs.inner.Index.{names_seen}
use Rattle.pg_link.specs.names.Names.{texts, Names, Text}
use Rattle.pg_link.specs.inner.Settled.{IsSettled}
use Rattle.pg_link.specs.Linked.{LinkedFiles}
use Rattle.pg_link.specs.names.Resolves.{Reference, Resolves, reference}
use Rattle.pg_link.specs.inner.Refusals.{Refuses}
use Rattle.pg_link.specs.walk.Walk.{Entry, outlines, path_of}
use Rattle.pg_link.proofs.lemmas.names.FullNames.{if_err, if_ok}
use Rattle.pg_link.proofs.lemmas.uses.UseFaultLaws.{all_are, its_marks, visible_are}
use Rattle.pg_link.proofs.linked.Linked.look_up.Goals as goal

-- what is visible in the file, through the index
its_names : (es now : List Entry) (index : indexes.Index) (visible_files : List (Vec Bool Global)) (targets : List (List Target)) (places : List (List ℕ)) (i : ℕ) (e : Entry) (v : Vec Bool Global) (visible : List Bool)
    → IsSettled es index (map (λ (m : Vec Bool Global). m.items) visible_files) targets places → es ≡ now → slice_get now i ≡ Some e → v ≡ get_or visible_files i v → visible ≡ v.items
    → names_seen index.names (Some visible) ≡ visible_names (outlines now) (path_of e)
its_names es now index visible_files targets places i e v visible settled same at is seen =
    let here : slice_get es i ≡ Some e = ap (λ (l : List Entry). slice_get l i) same ∙ at in
    let within : i < length visible_files = omega (arith, slice_get_within es i e here, settled.visible_length, length-map visible_files (λ (m : Vec Bool Global). m.items)) in
    visible_are index es e visible settled.lists settled.linked.once (its_marks es visible_files i e v visible settled.are_visible here within is seen)
    ∙ ap (λ (l : List Entry). visible_names (outlines l) (path_of e)) same

pub returns-clause-resolves : goal.returns-clause-resolves
returns-clause-resolves c =
    let scope : List Text = texts c.args.scope.now in
    let name : Reference = reference c.args.name.now in
    let index : indexes.Index = c.self.inside.index in
    let same : c.self.inside.files.entries ≡ c.args.self.now.files = ap (λ (l : LinkedFiles). l.files) c.self.view_is in
    if_ok (λ (full : Bor Text). Resolves (names_seen index.names (Some c.deref.result.now)) scope name full.now)
    (λ (full : Bor Text). (e : Entry) → slice_get c.args.self.now.files c.args.file ≡ Some e → Resolves (visible_names (outlines c.args.self.now.files) (path_of e)) scope name full.now)
    c.resolve.result
    (λ full resolves e at. subst (λ (names : Names). Resolves names scope name full.now)
    (its_names c.self.inside.files.entries c.args.self.now.files index c.self.inside.visible_files.items _ _ c.args.file e c.index.result.now c.deref.result.now c.self.invariant same at
    c.index.ensures c.deref.ensures.value) resolves)
    c.resolve.ensures.resolves

pub returns-clause-refused : goal.returns-clause-refused
returns-clause-refused c =
    let scope : List Text = texts c.args.scope.now in
    let name : Reference = reference c.args.name.now in
    let index : indexes.Index = c.self.inside.index in
    let es : List Entry = c.self.inside.files.entries in
    let same : es ≡ c.args.self.now.files = ap (λ (l : LinkedFiles). l.files) c.self.view_is in
    let all : names_seen index.names None ≡ all_names (outlines c.args.self.now.files) =
    all_are index es c.self.invariant.lists c.self.invariant.linked.once ∙ ap (λ (l : List Entry). all_names (outlines l)) same in
    if_err (λ (why : Unresolved). Refuses (names_seen index.names (Some c.deref.result.now)) (names_seen index.names None) scope name why)
    (λ (why : Unresolved). (e : Entry) → slice_get c.args.self.now.files c.args.file ≡ Some e
    → Refuses (visible_names (outlines c.args.self.now.files) (path_of e)) (all_names (outlines c.args.self.now.files)) scope name why)
    c.resolve.result
    (λ why refuses e at. subst (λ (names : Names). Refuses (visible_names (outlines c.args.self.now.files) (path_of e)) names scope name why) all
    (subst (λ (names : Names). Refuses names (names_seen index.names None) scope name why)
    (its_names es c.args.self.now.files index c.self.inside.visible_files.items _ _ c.args.file e c.index.result.now c.deref.result.now c.self.invariant same at
    c.index.ensures c.deref.ensures.value) refuses))
    c.resolve.ensures.refused
