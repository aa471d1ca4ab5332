-- Options as a schema has them: as stated, the first of a name.
use Rattle.std.specs.Prelude.{ℕ, Bool, true, false, List, [], ◌∷◌, codes, Option, Some, None, if◌then◌else◌}
use Rattle.pg_check.specs.rules.Options.{is_word}
use Rattle.pg_syntax.specs.declared.tree as tree
use Rattle.pg_syntax.specs.declared.tree.Value.TheVariants as values

abbrev pub flag_word : tree.Dotted.Dotted → Option Bool
flag_word d = if is_word (codes "true") d then Some true else (if is_word (codes "false") d then Some false else None)

abbrev pub flag_value : tree.Value.Value → Option Bool
flag_value (values.Name d) = flag_word d
flag_value (values.Text t) = None
flag_value (values.Number n) = None

-- what the setting says of the option of this name
abbrev pub flag_in : List ℕ → tree.Setting.Setting → Option Bool
flag_in name s = if is_word name s.name then flag_value s.value else None

abbrev pub or_flag : Option Bool → Option Bool → Option Bool
or_flag None other = other
or_flag (Some flag) other = Some flag

-- what the first of the settings says that says anything
abbrev pub flag_of : List ℕ → List tree.Setting.Setting → Option Bool
flag_of name [] = None
flag_of name (s ∷ ss) = or_flag (flag_in name s) (flag_of name ss)
