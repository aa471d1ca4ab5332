use Rattle.std.proofs.Common.{◌≡◌, ◌∷◌, true, take, drop}
use Rattle.pg_schema.specs.rules.Files.{option_numbers}
use Rattle.pg_schema.specs.rules.Pairs.{is_rising}
use Rattle.pg_set.specs.declared.descriptor.places.TheConstants.{FILE_OPTIONS}
use Rattle.pg_set.specs.writing.Set.{file_options}
use Rattle.pg_set.proofs.writing.files.options.Given as goal

abbrev pub invariant-loop-option : goal.invariant-loop-option
invariant-loop-option l = record {
  of_type : l.draft.type ≡ FILE_OPTIONS;
  items : l.draft.items ≡ file_options (take l.option-index l.stated);
  rising : is_rising (l.draft.last ∷ option_numbers (drop l.option-index l.stated)) ≡ true;
}
