-- The lines of an answer, and the words of each.
use Rattle.std.specs.Prelude.{ℕ, List, [], ◌++◌, map, codes, decimal, length}
use Rattle.std.specs.List.{flat_map}
use Rattle.pg_link.specs.names.Names.{Text}
use Rattle.pg_lines.specs.Notes.{note_of}
use Rattle.pg_lines.specs.Text.{field_of, hex_of, line_end, refusal_of, side_of}
use Rattle.pg_lines.specs.declared.note.PlacedNote.{PlacedNote}
use Rattle.pg_lines.specs.declared.step.Step.{Step}
use Rattle.pg_lines.specs.declared.side.Side.{Side}
use Rattle.pg_lines.specs.declared.line.Line.{Line as LentLine}
use Rattle.pg_lines.specs.declared.line.Line.TheVariants as lent
use Rattle.pg_lines.specs.declared.line.Listed.{Listed}
use Rattle.pg_lines.specs.declared.line.PlainCause.{PlainCause}
use Rattle.pg_lines.specs.declared.line.Listed.TheVariants as listed
use Rattle.pg_lines.specs.declared.refusal.Refusal.{Refusal}

-- a cause, by the word of its reason, the bytes of its message, and its fields, the first of them by itself
pub record Cause : Type 0 where
  pub why : Text
  pub message : List ℕ
  pub field : Step
  pub others : List Step

-- a line of an answer; a reading, a certificate and a message that is shown have lines of their own
pub data Line : Type 0 where
  compatible : (type : Text) → Line
  breaks : (type : Text) (bytes : ℕ) → Line
  bound : (type : Text) (bytes : ℕ) → Line
  witness : (message : List ℕ) → Line
  step : Step → Line
  forward : Line
  backward : Line
  reading : Side → (text : Text) → Line
  cause : Cause → Line
  name : Listed → (type : Text) → Line
  note : PlacedNote → Line
  certificate : (text : Text) → Line
  shown : (text : Text) → Line
  refused : Refusal → Line

-- ---- words

-- a space, and a field as both types have it
abbrev pub both_fields : Step → Text
both_fields s = codes " " ++ (field_of s.old ++ (codes " " ++ field_of s.new))

-- `step NUMBER OLDFIELD OLDPOSITION NEWFIELD NEWPOSITION`
abbrev pub step_of : Step → Text
step_of s = codes "step " ++ (decimal s.number ++ (both_fields s ++ line_end))

-- `cause CASE LENGTH HEX NUMBER OLDFIELD OLDPOSITION NEWFIELD NEWPOSITION`, and the four words of each further field
-- that meets this one
abbrev pub cause_of : Cause → Text
cause_of c =
    codes "cause " ++ (c.why ++ (codes " " ++ (decimal (length c.message) ++ (codes " " ++ (hex_of c.message
    ++ (codes " " ++ (decimal c.field.number ++ (both_fields c.field
    ++ (flat_map both_fields c.others ++ line_end)))))))))

-- what is before a name: of types that are listed alone, nothing
abbrev pub listed_word : Listed → Text
listed_word listed.Removed = codes "removed "
listed_word listed.Added = codes "added "
listed_word listed.Declared = []

-- a line in words: `compatible NAME`, `breaks NAME LENGTH`, `bound NAME LENGTH`, `witness HEX`; the side of a reading,
-- above its lines
abbrev pub words_of : Line → Text
words_of (compatible type) = codes "compatible " ++ (type ++ line_end)
words_of (breaks type bytes) = codes "breaks " ++ (type ++ (codes " " ++ (decimal bytes ++ line_end)))
words_of (bound type bytes) = codes "bound " ++ (type ++ (codes " " ++ (decimal bytes ++ line_end)))
words_of (witness message) = codes "witness " ++ (hex_of message ++ line_end)
words_of (step s) = step_of s
words_of forward = codes "forward" ++ line_end
words_of backward = codes "backward" ++ line_end
words_of (reading side text) = side_of side ++ (line_end ++ text)
words_of (cause c) = cause_of c
words_of (name list type) = listed_word list ++ (type ++ line_end)
words_of (note n) = note_of n
words_of (certificate text) = text
words_of (shown text) = text
words_of (refused r) = refusal_of r

-- ---- the program's own lines, which lend what they hold

abbrev pub cause_in : PlainCause → Cause
cause_in c = record { why = c.why.now; message = c.message.now; field = c.field.now; others = c.others.now }

abbrev pub line_of : LentLine → Line
line_of (lent.Compatible type) = compatible type.now
line_of (lent.Breaks type bytes) = breaks type.now bytes
line_of (lent.Bound type bytes) = bound type.now bytes
line_of (lent.Witness message) = witness message.now
line_of (lent.Step s) = step s.now
line_of lent.Forward = forward
line_of lent.Backward = backward
line_of (lent.Reading side text) = reading side text.now
line_of (lent.Cause c) = cause (cause_in c)
line_of (lent.Name list type) = name list type.now
line_of (lent.Note n) = note n.now
line_of (lent.Certificate text) = certificate text.now
line_of (lent.Shown text) = shown text.now
line_of (lent.Refused r) = refused r.now

abbrev pub lines_in : List LentLine → List Line
lines_in lines = map line_of lines
