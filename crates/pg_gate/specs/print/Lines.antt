-- Which lines an answer has.
use Rattle.std.specs.Prelude.{ℕ, List, [], ◌∷◌, ◌++◌, map, Option, Some, None, String, codes, length, string_bytes}
use Rattle.std.specs.Global.{Global}
use Rattle.std.specs.List.{flat_map}
use Rattle.pg_causes.specs.declared.overview.Reason.{Reason}
use Rattle.pg_causes.specs.declared.overview.Reason.TheVariants as reasons
use Rattle.pg_causes.specs.declared.overview.TypeLine.{TypeLine}
use Rattle.pg_cert.specs.declared.verdict.Verdict.{Verdict}
use Rattle.pg_cert.specs.declared.verdict.Verdict.TheVariants as verdicts
use Rattle.pg_link.specs.names.Names.{Text}
use Rattle.pg_lines.specs.Line.{Cause, Line, backward, bound, breaks, cause, certificate, compatible, forward, name, note, reading, refused, shown, step, witness}
use Rattle.pg_gate.specs.declared.answer.all_types.AllTypes.{AllTypes}
use Rattle.pg_gate.specs.declared.answer.all_types.PlacedCause.{PlacedCause}
use Rattle.pg_gate.specs.declared.answer.verified.Verified.{Verified}
use Rattle.pg_lines.specs.declared.side.Side.TheVariants as sides
use Rattle.pg_lines.specs.declared.line.Listed.{Listed}
use Rattle.pg_lines.specs.declared.line.Listed.TheVariants as listed
use Rattle.pg_gate.specs.declared.print.reply.Finding.{Finding}
use Rattle.pg_gate.specs.declared.print.reply.Finding.TheVariants as finding
use Rattle.pg_gate.specs.declared.print.reply.Readings.{Readings}
use Rattle.pg_gate.specs.declared.print.reply.Reply.{Reply}
use Rattle.pg_gate.specs.declared.print.reply.Reply.TheVariants as reply

-- the reading by the old type and then that by the new one, where they are asked for
abbrev pub readings_lines : Option Readings → List Line
readings_lines (Some r) = reading sides.Old (string_bytes r.old) ∷ reading sides.New (string_bytes r.new) ∷ []
readings_lines None = []

-- what a certificate shows of a type
abbrev pub verdict_line : (type : Text) (bytes : ℕ) → Verdict → Line
verdict_line type bytes verdicts.Compatible = compatible type
verdict_line type bytes verdicts.Breaks = breaks type bytes
verdict_line type bytes (verdicts.AtLeast least) = bound type least

abbrev pub verified_line : Verified → Line
verified_line verified = verdict_line (string_bytes verified.name) verified.length verified.verdict

-- what is found of the types of this name: of a message that breaks its length, its bytes, the steps and the readings
abbrev pub finding_lines : Text → Finding → List Line
finding_lines root finding.Compatible = compatible root ∷ []
finding_lines root (finding.Breaks message steps readings) =
    breaks root (length message.items) ∷ witness message.items ∷ (map step steps.items ++ readings_lines readings)
finding_lines root (finding.Certified text with_witness) = certificate (string_bytes text) ∷ []
finding_lines root (finding.Verified verified) = verified_line verified ∷ []

-- what is found forward, and with the sides exchanged
abbrev pub both_lines : Text → Finding → Finding → List Line
both_lines root one other =
    forward ∷ (finding_lines root one ++ (backward ∷ finding_lines root other))

abbrev pub reason_word : Reason → Text
reason_word reasons.Unlike = codes "unlike"
reason_word reasons.Value = codes "value"
reason_word reasons.Name = codes "name"
reason_word reasons.ListToOne = codes "list-to-one"
reason_word reasons.Map = codes "map"
reason_word reasons.MapKey = codes "map-key"
reason_word reasons.MapValue = codes "map-value"
reason_word reasons.Oneof = codes "oneof"

-- a cause as it is printed: by its word
abbrev pub plain_cause : PlacedCause → Cause
plain_cause c = record {
  why = reason_word c.cause.reason;
  message = c.cause.message.items;
  field = c.field;
  others = c.others.items;
}

abbrev pub cause_lines : PlacedCause → List Line
cause_lines c = cause (plain_cause c) ∷ readings_lines c.readings

abbrev pub type_line : Text → Option ℕ → Line
type_line type None = compatible type
type_line type (Some bytes) = breaks type bytes

abbrev pub type_lines : List TypeLine → List Line
type_lines types = map (λ (line : TypeLine). type_line (string_bytes line.name) line.bound) types

abbrev pub name_lines : Listed → List (String Global) → List Line
name_lines list names = map (λ (n : String Global). name list (string_bytes n)) names

-- the causes, the types of both sides, those that the new side lacks, those that the old side lacks, and the notes
abbrev pub all_lines : AllTypes → List Line
all_lines all =
    flat_map cause_lines all.causes.items
    ++ (type_lines all.types.items
    ++ (name_lines listed.Removed all.removed.items
    ++ (name_lines listed.Added all.added.items ++ map note all.notes.items)))

-- the lines of a reply for the root types of this name; a descriptor set has none
abbrev pub lines_of : Text → Reply → List Line
lines_of root (reply.Set bytes) = []
lines_of root (reply.Shown text) = shown (string_bytes text) ∷ []
lines_of root (reply.Found f) = finding_lines root f
lines_of root (reply.Both one other) = both_lines root one other
lines_of root (reply.All all) = all_lines all
lines_of root (reply.Types names) = name_lines listed.Declared names.items
lines_of root (reply.Refused r) = refused r ∷ []
