-- The words of a note.
use Rattle.std.specs.Prelude.{ℕ, ℤ, [], ◌++◌, Option, Some, None, codes, decimal}
use Rattle.std.specs.Fmt.{signed_decimal}
use Rattle.pg_link.specs.names.Names.{Text}
use Rattle.pg_notes.specs.declared.note.Note.{Note}
use Rattle.pg_notes.specs.declared.note.Note.TheVariants as notes
use Rattle.pg_lines.specs.Text.{field_of, line_end}
use Rattle.pg_lines.specs.declared.note.PlacedNote.{PlacedNote}
use Rattle.pg_lines.specs.declared.step.NamedField.{NamedField}

-- The word of a kind. A method whose service went, too, has a kind of its own.
abbrev pub kind_word : Note → Text
kind_word (notes.Renamed types number now) = codes "field-renamed"
kind_word (notes.Moved types number now) = codes "field-moved"
kind_word (notes.Unreserved types number) = codes "number-unreserved"
kind_word (notes.PresenceDropped types number) = codes "presence-dropped"
kind_word (notes.NumberToList types number) = codes "number-to-list"
kind_word (notes.ValueRenamed enums value now) = codes "value-renamed"
kind_word (notes.ValueGone enums value) = codes "value-gone"
kind_word (notes.MethodGone service method (Some now)) = codes "method-gone"
kind_word (notes.MethodGone service method None) = codes "service-gone"
kind_word (notes.MethodChanged services method now) = codes "method-changed"

-- a method has no number
abbrev pub number_or_dash : Option ℤ → Text
number_or_dash (Some number) = signed_decimal number
number_or_dash None = codes "-"

-- what is gone has neither a name nor a position
abbrev pub named_or_dashes : Option NamedField → Text
named_or_dashes (Some member) = field_of member
named_or_dashes None = codes "- -"

abbrev pub now_or_dash : Option ℕ → Text
now_or_dash (Some number) = decimal number
now_or_dash None = codes "-"

-- of a name that a number lost, the number that has it now, with a space before it
abbrev pub now_of : Note → Text
now_of (notes.Renamed types number now) = codes " " ++ now_or_dash now
now_of (notes.Moved types number now) = codes " " ++ now_or_dash (Some now)
now_of note = []

-- `note KIND NUMBER OLDNAME OLDPOSITION NEWNAME NEWPOSITION`, and of a name that a number lost one word more
abbrev pub note_of : PlacedNote → Text
note_of n =
    codes "note " ++ (kind_word n.note ++ (codes " " ++ (number_or_dash n.number ++ (codes " " ++ (field_of n.old
    ++ (codes " " ++ (named_or_dashes n.new ++ (now_of n.note ++ line_end))))))))
