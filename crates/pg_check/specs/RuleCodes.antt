-- The code in the fact that a rule is broken is the code that is printed.
use Rattle.std.specs.Prelude.{◌≡◌, ℕ}
use Rattle.pg_link.specs.declared.error.Place.{Place}
use Rattle.pg_schema.specs.declared.parts.enum_type.EnumType.{EnumType}
use Rattle.pg_schema.specs.declared.parts.file.File.{File}
use Rattle.pg_schema.specs.declared.parts.message_type.MessageType.{MessageType}
use Rattle.pg_check.specs.admitting.BrokenParts.{BreaksEnumType, BreaksFilePart, BreaksType}
use Rattle.pg_check.specs.rules.BrokenRules.{BreaksFile}
use Rattle.pg_check.specs.Codes.{code_of}
use Rattle.pg_check.specs.parts.MadeParts.{Source}
use Rattle.pg_check.specs.declared.error.CheckError.{CheckError}

pub record AreRuleCodes : Type 0 where
  pub of_files : (s : Source) (left : ℕ) (place : Place) (e : CheckError) (code declared at : ℕ)
      → BreaksFile s left place e code declared at → code_of e ≡ code
  pub of_types : (t : MessageType) (place : Place) (e : CheckError) (code : ℕ) → BreaksType t place e code
      → code_of e ≡ code
  pub of_enums : (n : EnumType) (place : Place) (e : CheckError) (code : ℕ) → BreaksEnumType n place e code
      → code_of e ≡ code
  pub of_file_parts : (f : File) (place : Place) (e : CheckError) (code : ℕ) → BreaksFilePart f place e code
      → code_of e ≡ code
