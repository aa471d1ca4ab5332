use Rattle.std.proofs.Common.{◌≡◌, ◌∷◌, ℕ, ◌<◌, List, Bool, false, flat_map, get_or, length, map, subst, sym}
use Rattle.std.specs.List.{All}
use Rattle.pg_link.specs.names.Files.{handed_on, public_paths}
use Rattle.pg_link.specs.inner.Made.{line_of}
use Rattle.pg_link.specs.inner.VisibleFiles.{AreNumbers, is_numbered}
use Rattle.pg_link.specs.walk.Walk.{outlines, path_of}
use Rattle.pg_link.proofs.lemmas.names.FileMarks.{numbers_are, own_number}
use Rattle.pg_link.proofs.names.visible_files.handed_of.Goals as goal

pub returns-then-not-has_public : goal.returns-then-not-has_public
returns-then-not-has_public c = λ e at.
    let paths = public_paths (map line_of c.args.lines.now) in
    subst (λ (l : List ℕ). AreNumbers c.args.files.now.entries (path_of e ∷ flat_map (handed_on (outlines c.args.files.now.entries)) paths) l) (sym c.in_ok-own.ensures.items)
    (own_number c.args.files.now.entries (length c.args.handed.now) e paths c.requires.apart at (c.has_public.ensures c.if-not-has_public.true))

pub returns : goal.returns
returns c = λ e at.
    numbers_are c.args.files.now.entries _ c.in_ok-marks.marks.items c.in_ok-numbers.numbers.items (c.in_ok-marks.ensures e at)
    (subst (λ (l : List Bool). All (λ n. n < length l) c.in_ok-numbers.numbers.items) c.deref.ensures.value c.in_ok-numbers.ensures.within)
    (subst (λ (l : List Bool). (k : ℕ) → k < length l → is_numbered c.in_ok-numbers.numbers.items k ≡ get_or l k false) c.deref.ensures.value c.in_ok-numbers.ensures.each)
