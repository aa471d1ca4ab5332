-- The code in the fact that a rule is broken is that of its error, case by case.
use Rattle.std.proofs.Common.{◌≡◌, ℕ, List, Option, arith}
use Rattle.pg_link.specs.declared.error.Place.{Place}
use Rattle.pg_link.specs.declared.uses.target.Target.{Target}
use Rattle.pg_schema.specs.declared.parts.enum_type.EnumType.{EnumType}
use Rattle.pg_schema.specs.declared.parts.file.File.{File}
use Rattle.pg_schema.specs.declared.parts.message_type.MessageType.{MessageType}
use Rattle.pg_check.specs.admitting.BrokenParts.{BreaksEnumType, BreaksFilePart, BreaksType}
use Rattle.pg_check.specs.rules.BrokenRules.{BreaksEnum, BreaksFields, BreaksFile, BreaksItems, BreaksMessage, BreaksService, BreaksValues}
use Rattle.pg_check.specs.rules.Enums.{DeclaredEnum}
use Rattle.pg_check.specs.rules.Messages.{DeclaredMessage}
use Rattle.pg_check.specs.Codes.{code_of}
use Rattle.pg_check.specs.parts.MadeParts.{Source}
use Rattle.pg_check.specs.declared.error.CheckError.{CheckError}
use Rattle.pg_check.specs.declared.rules.numbers.Numbers.{Numbers}
use Rattle.pg_syntax.specs.declared.tree as tree
use Rattle.pg_syntax.specs.declared.tree.Part.{Part}

-- ---- files

item_code : (lowest highest : ℕ) (items : List Numbers) (place : Place) (e : CheckError) (code at : ℕ) →
    BreaksItems lowest highest items place e code at → code_of e ≡ code
item_code lowest highest items place e code at h8 = grind arith

fields_code : (d : DeclaredMessage) (place : Place) (e : CheckError) (code declared at : ℕ) → BreaksFields d place e code declared at → code_of e ≡ code
fields_code d place e code declared at h7 = grind (arith, item_code)

message_code : (targets : ℕ → Option Target) (body : List Part) (place : Place) (e : CheckError) (code declared at : ℕ) →
    BreaksMessage targets body place e code declared at → code_of e ≡ code
message_code targets body place e code declared at h8 = grind (arith, fields_code)

values_code : (n : DeclaredEnum) (name_at : ℕ) (place : Place) (e : CheckError) (code declared at : ℕ) → BreaksValues n name_at place e code declared at → code_of e ≡ code
values_code n name_at place e code declared at h8 = grind (arith, item_code)

enum_code : (n : tree.Enum.Enum) (place : Place) (e : CheckError) (code declared at : ℕ) → BreaksEnum n place e code declared at → code_of e ≡ code
enum_code n place e code declared at h7 = grind (arith, values_code)

service_code : (body : List tree.ServicePart.ServicePart) (place : Place) (e : CheckError) (code declared at : ℕ) →
    BreaksService body place e code declared at → code_of e ≡ code
service_code body place e code declared at h7 = grind arith

pub file_code : (s : Source) (left : ℕ) (place : Place) (e : CheckError) (code declared at : ℕ) →
    BreaksFile s left place e code declared at → code_of e ≡ code
file_code s left place e code declared at h8 = grind (arith, message_code, enum_code, service_code)

-- ---- parts

pub type_code : (t : MessageType) (place : Place) (e : CheckError) (code : ℕ) → BreaksType t place e code → code_of e ≡ code
type_code t place e code h5 = grind (arith, fields_code)

pub enum_type_code : (n : EnumType) (place : Place) (e : CheckError) (code : ℕ) → BreaksEnumType n place e code → code_of e ≡ code
enum_type_code n place e code is = values_code _ _ place e code 0 0 is

pub file_part_code : (f : File) (place : Place) (e : CheckError) (code : ℕ) → BreaksFilePart f place e code → code_of e ≡ code
file_part_code f place e code h5 = grind arith
