-- The files that a set states, as a function of its messages (descriptor.proto, `FileDescriptorProto` and
-- `FileOptions`).
use Rattle.std.specs.Prelude.{ℕ, ℤ, pos, Bool, nat_eq, not, List, [], filter_map, length, map, Option, Some, None, option_map, if◌then◌else◌}
use Rattle.std.specs.List.{list_all}
use Rattle.std.specs.Ordering.{int_eq}
use Rattle.pg_schema.specs.declared.parts.options.OptimizeMode.{OptimizeMode}
use Rattle.pg_schema.specs.declared.parts.options.OptimizeMode.TheVariants as modes
use Rattle.pg_schema.specs.declared.parts.options.OptionValue.{OptionValue}
use Rattle.pg_schema.specs.declared.parts.options.OptionValue.TheVariants as values
use Rattle.pg_schema.specs.declared.parts.service.ServiceId.{ServiceId}
use Rattle.pg_dyn.specs.message.Message.{Bytes, F32, F64, Int, Item, Message, Msg, Plain}
use Rattle.pg_set.specs.descriptor.Descriptor.{enum_id, type_id}
use Rattle.pg_set.specs.stated.Numbering.{PlacedFile}
use Rattle.pg_set.specs.declared.descriptor.proto.TheConstants as proto
use Rattle.pg_set.specs.stated.SetMessages.{item_at, numbers_at, options_at, text_at, texts_at}
use Rattle.pg_set.specs.stated.StatedNames.{only_if}
use Rattle.pg_set.specs.stated.FileMessages.{is_place, kept_imports, option_places}
use Rattle.pg_set.specs.stated.Views as views
use Rattle.pg_set.specs.stated.Views.{FileView, ImportView, OptionView, ValueOf, value_of}

-- ---- options

-- the word of `optimize_for` with that number
abbrev pub mode_of : ℤ → Option OptimizeMode
mode_of found = if int_eq found (pos 1) then Some modes.Speed else (if int_eq found (pos 2) then Some modes.CodeSize else (if int_eq found (pos 3) then Some modes.LiteRuntime else None))

abbrev pub mode_or_flag : ℤ → Option OptimizeMode → OptionValue
mode_or_flag found None = values.Flag (not (int_eq found (pos 0)))
mode_or_flag found (Some mode) = values.Mode mode

-- the value of the option of that number whose item is a number
abbrev pub numbered : ℕ → ℤ → OptionValue
numbered number found = if nat_eq number proto.FILE_OPTIMIZE_FOR then mode_or_flag found (mode_of found) else values.Flag (not (int_eq found (pos 0)))

abbrev pub option_value : ℕ → Item → ValueOf
option_value number (Plain (Int n)) = value_of (numbered number n)
option_value number (Plain (F32 bits)) = views.Text []
option_value number (Plain (F64 bits)) = views.Text []
option_value number (Plain (Bytes bytes)) = views.Text bytes
option_value number (Msg m) = views.Text []

abbrev pub option_of : ℕ → Item → OptionView
option_of number item = record { number = number; value = option_value number item }

-- those of these numbers that are there
abbrev pub options_under : Message → List ℕ → List OptionView
options_under m numbers = filter_map (λ number. option_map (option_of number) (item_at number m)) numbers

-- ---- imports

-- public ones are named by their indices among the imports
abbrev pub has_public_places : Message → Bool
has_public_places m =
    list_all (is_place (length (texts_at proto.FILE_DEPENDENCY m))) (numbers_at proto.FILE_PUBLIC_DEPENDENCY m)

abbrev pub import_seen : List ℕ × Bool → ImportView
import_seen i = record { path = i.0; is_public = i.1 }

abbrev pub imports : (skips : Bool) → Message → List ImportView
imports skips m = map import_seen (kept_imports skips (numbers_at proto.FILE_PUBLIC_DEPENDENCY m) 0 (texts_at proto.FILE_DEPENDENCY m))

-- ---- files

abbrev pub service_id : ℕ → ServiceId
service_id place = record { index = place }

abbrev pub file_of : (skips : Bool) → PlacedFile → FileView
file_of skips p = record {
  name = text_at proto.FILE_NAME p.message;
  package_name = text_at proto.FILE_PACKAGE p.message;
  imports = imports skips p.message;
  types = map type_id p.types;
  enums = map enum_id p.enums;
  services = map service_id p.services;
  options = options_under (options_at proto.FILE_OPTIONS p.message) option_places;
}

-- the file of a message, with the indices of what it declares
abbrev pub file : (skips : Bool) → PlacedFile → Option FileView
file skips p = only_if (has_public_places p.message) (Some (file_of skips p))
