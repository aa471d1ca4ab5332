-- What a file states beside its types: imports and options, as a schema has them (proto3 language specification,
-- "Import Statement", "Option").
use Rattle.std.specs.Prelude.{ℕ, Bool, List, [], ◌∷◌, ◌++◌, map, flat_map, codes, Option, Some, None, string_bytes, if◌then◌else◌}
use Rattle.std.specs.List.Sorted.{IsPermutation, IsNonDecreasingBy}
use Rattle.pg_schema.specs.declared.parts.file.Import as imports
use Rattle.pg_schema.specs.declared.parts.options.FileOption as options
use Rattle.pg_schema.specs.declared.parts.options.OptimizeMode.{OptimizeMode}
use Rattle.pg_schema.specs.declared.parts.options.OptimizeMode.TheVariants as modes
use Rattle.pg_schema.specs.declared.parts.options.OptionValue.{OptionValue}
use Rattle.pg_schema.specs.declared.parts.options.OptionValue.TheVariants as schema_values
use Rattle.pg_check.specs.declared.rules.options.Kind.{Kind}
use Rattle.pg_check.specs.declared.rules.options.Kind.TheVariants as kinds
use Rattle.pg_check.specs.declared.rules.options.Known.{Known}
use Rattle.pg_check.specs.declared.rules.options.Owner.TheVariants as owners
use Rattle.pg_check.specs.parts.MadeOptions.{flag_word}
use Rattle.pg_check.specs.rules.Options.{is_word, known_by}
use Rattle.pg_check.specs.rules.Outline.{statements_behind}
use Rattle.pg_check.specs.rules.ReservedItems.{text_of}
use Rattle.pg_syntax.specs.declared.tree as tree
use Rattle.pg_syntax.specs.declared.tree.Statement.TheVariants as statements
use Rattle.pg_syntax.specs.declared.tree.Value.TheVariants as values

pub record MadeImport : Type 0 where
  pub path : List ℕ
  pub is_public : Bool

abbrev pub file_import : imports.Import → MadeImport
file_import i = record { path = string_bytes i.path; is_public = i.is_public }

abbrev pub import_in : tree.Statement.Statement → List MadeImport
import_in (statements.Empty span) = []
import_in (statements.Import i) = record { path = text_of i.path; is_public = i.is_public } ∷ []
import_in (statements.Option o) = []
import_in (statements.Message m) = []
import_in (statements.Enum e) = []
import_in (statements.Service s) = []

abbrev pub made_imports : tree.FileTree.FileTree → List MadeImport
made_imports file = flat_map import_in file.statements.items ++ flat_map import_in (statements_behind file.packaged)

-- ---- options

pub data MadeValue : Type 0 where
  Flag : Bool → MadeValue
  Mode : OptimizeMode → MadeValue
  Text : List ℕ → MadeValue

pub record MadeOption : Type 0 where
  pub number : ℕ
  pub value : MadeValue

abbrev pub option_value : OptionValue → MadeValue
option_value (schema_values.Flag flag) = Flag flag
option_value (schema_values.Mode mode) = Mode mode
option_value (schema_values.Text text) = Text (string_bytes text)

abbrev pub file_option : options.FileOption → MadeOption
file_option o = record { number = o.number; value = option_value o.value }

abbrev pub flag_option : Option Bool → Option MadeValue
flag_option None = None
flag_option (Some flag) = Some (Flag flag)

abbrev pub mode_word : tree.Dotted.Dotted → Option MadeValue
mode_word d =
    if is_word (codes "SPEED") d then Some (Mode modes.Speed)
    else (if is_word (codes "CODE_SIZE") d then Some (Mode modes.CodeSize)
    else (if is_word (codes "LITE_RUNTIME") d then Some (Mode modes.LiteRuntime) else None))

-- the value, where it is of the kind
abbrev pub made_value : Kind → tree.Value.Value → Option MadeValue
made_value kinds.Flag (values.Name d) = flag_option (flag_word d)
made_value kinds.Flag (values.Text t) = None
made_value kinds.Flag (values.Number n) = None
made_value kinds.Mode (values.Name d) = mode_word d
made_value kinds.Mode (values.Text t) = None
made_value kinds.Mode (values.Number n) = None
made_value kinds.Text (values.Name d) = None
made_value kinds.Text (values.Text t) = Some (Text (text_of t))
made_value kinds.Text (values.Number n) = None

abbrev pub numbered : ℕ → Option MadeValue → List MadeOption
numbered number None = []
numbered number (Some value) = record { number = number; value = value } ∷ []

abbrev pub known_option : Option Known → tree.Value.Value → List MadeOption
known_option None value = []
known_option (Some k) value = numbered k.number (made_value k.kind value)

abbrev pub setting_option : tree.Setting.Setting → List MadeOption
setting_option s = known_option (known_by owners.File s.name) s.value

abbrev pub option_in : tree.Statement.Statement → List MadeOption
option_in (statements.Empty span) = []
option_in (statements.Import i) = []
option_in (statements.Option o) = setting_option o.setting
option_in (statements.Message m) = []
option_in (statements.Enum e) = []
option_in (statements.Service s) = []

abbrev pub made_options : tree.FileTree.FileTree → List MadeOption
made_options file = flat_map option_in file.statements.items ++ flat_map option_in (statements_behind file.packaged)

-- the options of a file: those that are stated, by their numbers
pub record AreOptions (made : List MadeOption) (list : List options.FileOption) : Type 0 where
  pub same : IsPermutation made (map file_option list)
  pub by_number : IsNonDecreasingBy (λ (o : options.FileOption). o.number) list
