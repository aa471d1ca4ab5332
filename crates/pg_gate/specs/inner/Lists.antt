-- What functions inside the crate say of a side's list.
use Rattle.std.specs.Prelude.{◌≡◌, ◌==◌, ℕ, Bool, not, List, Option, Some, None, length, codes, IsUtf8}
use Rattle.std.specs.Str.Lossy.{utf8_valid_len}
use Rattle.pg_link.specs.names.Names.{Text}
use Rattle.pg_link.specs.walk.Walk.{IsPlace}
use Rattle.pg_gate.specs.answer.Files.{IsNotGiven}
use Rattle.pg_gate.specs.answer.Lists.{IsNoFile, namers}
use Rattle.pg_gate.specs.declared.error.Fault.{Fault}
use Rattle.pg_gate.specs.declared.error.Fault.TheVariants as faults
use Rattle.pg_gate.specs.declared.error.ListError.TheVariants as errors

-- a file that isn't given
abbrev pub IsOfPath : (Text → Bool) → (path : Text) → Fault → Type 0
IsOfPath lack path (faults.Link error) = IsNotGiven lack (codes ".") path error
IsOfPath lack path fault = ⊥

-- bytes aren't UTF-8 from this one on
abbrev pub IsNotUtf8 : (path bytes : Text) → (at : ℕ) → Fault → Type 0
IsNotUtf8 path bytes at (faults.List (errors.NotUtf8 place)) = IsPlace place path bytes at
IsNotUtf8 path bytes at fault = ⊥

-- bytes that aren't UTF-8
abbrev pub IsNoText : (path bytes : Text) → Fault → Type 0
IsNoText path bytes fault = (IsUtf8 bytes → ⊥) × IsNotUtf8 path bytes (utf8_valid_len bytes) fault

abbrev pub names_some : Option Text → (files names : List Text) → Bool
names_some None files names = not (length files == 0)
names_some (Some list) files names = not (length names == 0)

-- a side of these files and this list names none
abbrev pub IsUnnamed : (files : List Text) → (path list : Option Text) → Fault → Type 0
IsUnnamed files path list fault = (length (namers files list) ≡ 0) × IsNoFile path fault
