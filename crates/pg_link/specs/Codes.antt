-- The number after the E by which users know the error, and its position in a source file.
use Rattle.std.specs.Prelude.{ℕ, Option, Some, None}
use Rattle.pg_lex.specs.Codes.{code_of as lex_code}
use Rattle.pg_syntax.specs.Codes.{code_of as syntax_code}
use Rattle.pg_link.specs.declared.error.LinkError.{LinkError}
use Rattle.pg_link.specs.declared.error.LinkError.TheVariants as errors
use Rattle.pg_link.specs.declared.error.Place.{Place}

abbrev pub code_of : LinkError → ℕ
code_of (errors.MissingFile place) = 301
code_of (errors.ImportCycle place) = 302
code_of (errors.DuplicateImport place) = 303
code_of (errors.DuplicateName place) = 304
code_of (errors.UnknownName place) = 305
code_of (errors.NotAType place) = 306
code_of (errors.NotImported place) = 307
code_of (errors.TooManyFiles place) = 308
code_of (errors.SourceFailed place) = 309
code_of (errors.Lex e place) = lex_code e
code_of (errors.Syntax e place) = syntax_code e
code_of errors.Memory = 1

abbrev pub place_of : LinkError → Option Place
place_of (errors.MissingFile place) = Some place
place_of (errors.ImportCycle place) = Some place
place_of (errors.DuplicateImport place) = Some place
place_of (errors.DuplicateName place) = Some place
place_of (errors.UnknownName place) = Some place
place_of (errors.NotAType place) = Some place
place_of (errors.NotImported place) = Some place
place_of (errors.TooManyFiles place) = Some place
place_of (errors.SourceFailed place) = Some place
place_of (errors.Lex e place) = Some place
place_of (errors.Syntax e place) = Some place
place_of errors.Memory = None
