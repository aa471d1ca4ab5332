use Rattle.std.proofs.Common.{Some, sym, ◌∙◌, ap, option_map}
use Rattle.std.proofs.lemmas.Option.{slice_get-get_or, slice_get-map}
use Rattle.pg_check.specs.inner.Sources.{source}
use Rattle.pg_check.proofs.lemmas.rules.BrokenFiles.{reported}
use Rattle.pg_check.proofs.building.first_error.Goals as goal

pub returns : goal.returns
returns c = reported _ c.error_of.result (record {
  fault = c.args.found;
  is_first = c.requires.first;
  file = source c.index-files-found.result;
  is_there = slice_get-map source c.args.files.now c.args.found.file
      ∙ ap (option_map source) (slice_get-get_or c.args.files.now c.args.found.file c.index-files-found.result c.requires.within ∙ ap Some (sym c.index-files-found.is));
  place = c.in_ok-place.place;
  is_place = c.in_ok-place.ensures;
  is = c.error_of.ensures;
})
