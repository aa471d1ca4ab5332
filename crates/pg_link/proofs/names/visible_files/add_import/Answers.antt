use Rattle.std.proofs.Common.{◌≡◌, ◌∙◌, ℕ, List, Some, Vec, map, length, slice_get, get_or, refl, ap, sym, subst, ◌<◌}
use Rattle.std.proofs.lemmas.Option.{slice_get-map, slice_get_read}
use Rattle.std.specs.Global.{Global}
use Rattle.std.specs.List.{All}
use Rattle.std.specs.Option.{option_map}
use Rattle.pg_link.specs.names.Files.{handed_on}
use Rattle.pg_link.specs.inner.VisibleFiles.{AreHanded, AreNumbers}
use Rattle.pg_link.specs.walk.Walk.{Entry, outlines, path_of}
use Rattle.pg_link.proofs.lemmas.names.FileMarks.{import_numbers, marks_both}
use Rattle.pg_link.proofs.names.visible_files.add_import.Goals as goal

-- the numbers that are there
its_numbers : (es : List Entry) (handed : List (Vec ℕ Global)) (path : List ℕ) (number : ℕ) (v : Vec ℕ Global) (numbers : List ℕ)
    → AreHanded es (map (λ (m : Vec ℕ Global). m.items) handed) → (e : Entry) × (slice_get es number ≡ Some e) × (path_of e ≡ path)
    → number < length handed → v ≡ get_or handed number v → numbers ≡ v.items → AreNumbers es (handed_on (outlines es) path) numbers
its_numbers es handed path number v numbers ready file within is same =
    let at : slice_get (map (λ (m : Vec ℕ Global). m.items) handed) number ≡ Some numbers =
    slice_get-map (λ (m : Vec ℕ Global). m.items) handed number
    ∙ (ap (option_map (λ (m : Vec ℕ Global). m.items)) (slice_get_read handed (length handed) number v refl within is) ∙ ap (λ (l : List ℕ). Some l) (sym same)) in
    import_numbers es (map (λ (m : Vec ℕ Global). m.items) handed) path number numbers ready file at

pub mark_each-requires : goal.mark_each-requires
mark_each-requires c =
    let m = its_numbers c.args.files.now.entries c.args.handed.now c.args.path.now c.number_of.result c.index-handed-number_of.result c.deref.result.now
    c.requires.ready c.number_of.ensures.file c.number_of.ensures.before c.index-handed-number_of.is c.deref.ensures.value in
    subst (λ (n : ℕ). All (λ k. k < n) c.deref.result.now) (sym c.requires.same_length) m.within

pub returns-clause-marked : goal.returns-clause-marked
returns-clause-marked c = λ paths marked.
    let m = its_numbers c.args.files.now.entries c.args.handed.now c.args.path.now c.number_of.result c.index-handed-number_of.result c.deref.result.now
    c.requires.ready c.number_of.ensures.file c.number_of.ensures.before c.index-handed-number_of.is c.deref.ensures.value in
    marks_both c.args.files.now.entries paths (handed_on (outlines c.args.files.now.entries) c.args.path.now) c.args.marks.now.items c.deref.result.now c.mark_each.new.marks.items
    marked m c.mark_each.ensures.both
