-- The files of a side that a list names, one in each line that isn't empty.
use Rattle.std.specs.Prelude.{◌≡◌, ◌<◌, ◌++◌, ◌==◌, ◌⊎◌, ⊤, Bool, not, List, [], Option, Some, None, length, unwrap_or, IsTrue, IsUtf8, codes}
use Rattle.std.specs.List.{filter}
use Rattle.std.specs.Str.Lines.{lines}
use Rattle.std.specs.Str.Lossy.{utf8_valid_len}
use Rattle.pg_call.specs.Paths.{Paths}
use Rattle.pg_link.specs.declared.error.Place.{Place}
use Rattle.pg_link.specs.names.Names.{Text}
use Rattle.pg_link.specs.walk.Walk.{IsPlace, IsWhole}
use Rattle.pg_gate.specs.answer.Files.{IsNotGiven}
use Rattle.pg_gate.specs.declared.error.Fault.{Fault}
use Rattle.pg_gate.specs.declared.error.Fault.TheVariants as faults
use Rattle.pg_gate.specs.declared.error.ListError.{ListError}
use Rattle.pg_gate.specs.declared.error.ListError.TheVariants as errors

-- the lines that aren't empty
abbrev pub names_in : Text → List Text
names_in list = filter (λ name. not (length name == 0)) (lines list)

abbrev pub names_if : Option Text → List Text
names_if None = []
names_if (Some list) = names_in list

-- UTF-8 that the source may give for the path
pub record IsText (give : Text → Text → Bool) (path text : Text) : Type 0 where
  pub given : IsTrue (give path text)
  pub utf8 : IsUtf8 text

abbrev pub IsTextIf : (Text → Text → Bool) → (path text : Option Text) → Type 0
IsTextIf give None None = ⊤
IsTextIf give (Some path) (Some text) = IsText give path text
IsTextIf give path text = ⊥

-- what has to name a file: the list, where there is one, and else the words
abbrev pub namers : (files : List Text) → (list : Option Text) → List Text
namers files None = files
namers files (Some list) = names_in list

-- all files of a side: those that are words, and then those that its list names
pub record IsListed (give : Text → Text → Bool) (paths all : Paths) : Type 0 where
  pub list : Option Text
  pub is_text : IsTextIf give paths.list list
  pub some : 0 < length (namers paths.files list)
  pub all_are : all ≡ record paths { files = paths.files ++ names_if list; list = None }

-- ---- faults

-- bytes that the source may give for the path, and that are UTF-8 up to this place
pub record EndsAt (give : Text → Text → Bool) (path : Text) (place : Place) : Type 0 where
  pub bytes : Text
  pub given : IsTrue (give path bytes)
  pub no_text : IsUtf8 bytes → ⊥
  pub place_is : IsPlace place path bytes (utf8_valid_len bytes)

-- a list can't be read: the source may lack it or failed, or it isn't UTF-8
abbrev pub IsUnreadable : (Text → Text → Bool) → (Text → Bool) → (path : Text) → Fault → Type 0
IsUnreadable give lack path (faults.Link error) = IsNotGiven lack (codes ".") path error
IsUnreadable give lack path (faults.List (errors.NotUtf8 place)) = EndsAt give path place
IsUnreadable give lack path fault = ⊥

abbrev pub IsUnreadableIf : (Text → Text → Bool) → (Text → Bool) → (path : Option Text) → Fault → Type 0
IsUnreadableIf give lack None fault = ⊥
IsUnreadableIf give lack (Some path) fault = IsUnreadable give lack path fault

-- this fault names the list as a whole, or nothing where there is none
abbrev pub IsNoFile : (path : Option Text) → Fault → Type 0
IsNoFile path (faults.List (errors.NoFile place)) = IsWhole place (unwrap_or path [])
IsNoFile path fault = ⊥

-- a side names no file
pub record IsUnnamed (give : Text → Text → Bool) (paths : Paths) (fault : Fault) : Type 0 where
  pub list : Option Text
  pub is_text : IsTextIf give paths.list list
  pub none : length (namers paths.files list) ≡ 0
  pub is_fault : IsNoFile paths.list fault

-- why a side has no files
abbrev pub IsFaultOfNames : (Text → Text → Bool) → (Text → Bool) → Paths → Fault → Type 0
IsFaultOfNames give lack paths fault = IsUnreadableIf give lack paths.list fault ⊎ IsUnnamed give paths fault
