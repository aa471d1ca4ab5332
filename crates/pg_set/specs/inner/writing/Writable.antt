-- Files whose imports an int32 counts.
use Rattle.std.specs.Prelude.{◌≡◌, ◌<◌, ◌^◌, Bool, true, nat_lt, ◌∷◌, length}
use Rattle.std.specs.List.{list_all}
use Rattle.pg_schema.specs.declared.parts.file.File.{File}
use Rattle.pg_schema.specs.rules.Files.{is_file_option, option_numbers}
use Rattle.pg_schema.specs.rules.Pairs.{is_rising}

pub record IsWritable (f : File) : Type 0 where
  pub imports : length f.imports.items < 2 ^ 31
  pub kinds : list_all is_file_option f.options.items ≡ true
  pub rising : is_rising (0 ∷ option_numbers f.options.items) ≡ true

-- the indices of its imports
abbrev pub has_counted_imports : File → Bool
has_counted_imports f = nat_lt (length f.imports.items) (2 ^ 31)
