use Rattle.std.proofs.Common.{◌∙◌, ◌∷◌, []}
use Rattle.pg_link.specs.walk.Walk.{path_of}
use Rattle.pg_link.proofs.lemmas.names.FileMarks.{own_marks}
use Rattle.pg_link.proofs.names.visible_files.marks_of.Goals as goal

pub returns : goal.returns
returns c = λ e at. record {
  same_length = c.add_imports.ensures.same_length ∙ (c.in_ok-marks.ensures.same_length ∙ c.len.ensures.len);
  is_marked = c.add_imports.ensures.marked (path_of e ∷ []) (own_marks c.args.files.now.entries _ e c.in_ok-marks.marks.items c.requires.apart at c.in_ok-marks.ensures.one);
}
