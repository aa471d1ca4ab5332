-- The position in a source file that a cursor has come to.
use Rattle.std.specs.Prelude.{◌≡◌, ◌≤◌, ℕ, List, length, take}
use Rattle.pg_lex.specs.Place.{column, line}
use Rattle.pg_gate.specs.declared.answer.cursor.Stand.{Stand}

-- the byte at that offset, or the end, has that line and that column
pub record StandsAt (text : List ℕ) (stand : Stand) : Type 0 where
  pub within : stand.at ≤ length text
  pub is_line : stand.line ≡ line (take stand.at text)
  pub is_column : stand.column ≡ column (take stand.at text)
