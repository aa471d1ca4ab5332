-- What a call's answer prints, and its status.
use Rattle.std.specs.Prelude.{ℕ, Bool, true, false, ◌==◌, ◌||◌, [], if◌then◌else◌, length}
use Rattle.std.specs.List.{flat_map}
use Rattle.pg_link.specs.names.Names.{Text}
use Rattle.pg_cert.specs.declared.verdict.Verdict.{Verdict}
use Rattle.pg_cert.specs.declared.verdict.Verdict.TheVariants as verdicts
use Rattle.pg_call.specs.Call.{Request, compile, gate, gate_all, show, types, verify}
use Rattle.pg_lines.specs.Json.{json_of}
use Rattle.pg_lines.specs.Line.{words_of}
use Rattle.pg_gate.specs.print.Lines.{lines_of}
use Rattle.pg_gate.specs.declared.answer.all_types.AllTypes.{AllTypes}
use Rattle.pg_lines.specs.declared.refusal.Refusal.{Refusal}
use Rattle.pg_gate.specs.declared.print.reply.Finding.{Finding}
use Rattle.pg_gate.specs.declared.print.reply.Finding.TheVariants as finding
use Rattle.pg_gate.specs.declared.print.reply.Reply.{Reply}
use Rattle.pg_gate.specs.declared.print.reply.Reply.TheVariants as reply

-- ---- statuses

-- 0 compatible, 1 breaks, 5 a bound alone
abbrev pub verdict_status : Verdict → ℕ
verdict_status verdicts.Compatible = 0
verdict_status verdicts.Breaks = 1
verdict_status (verdicts.AtLeast n) = 5

-- 0 compatible, 1 breaks; a certificate that is written has its answer's, one that is checked its verdict's
abbrev pub finding_status : Finding → ℕ
finding_status finding.Compatible = 0
finding_status (finding.Breaks witness steps readings) = 1
finding_status (finding.Certified text breaks) = if breaks then 1 else 0
finding_status (finding.Verified verified) = verdict_status verified.verdict

-- 3 for a source that failed, 4 for a side that names no file, and else 2
abbrev pub refusal_status : Refusal → ℕ
refusal_status refusal = if refusal.code == 309 then 3 else if refusal.code == 907 then 4 else 2

-- 1 where either direction breaks
abbrev pub either_status : ℕ → ℕ → ℕ
either_status forward backward = if forward == 1 || backward == 1 then 1 else 0

-- 2 where a type is removed, else 1 where there is a cause
abbrev pub all_status : AllTypes → ℕ
all_status all =
    if length all.removed.items == 0 then (if length all.causes.items == 0 then 0 else 1)
    else 2

abbrev pub status_of : Reply → ℕ
status_of (reply.Set bytes) = 0
status_of (reply.Shown text) = 0
status_of (reply.Found f) = finding_status f
status_of (reply.Both forward backward) = either_status (finding_status forward) (finding_status backward)
status_of (reply.All all) = all_status all
status_of (reply.Types names) = 0
status_of (reply.Refused r) = refusal_status r

-- ---- outputs

-- the bytes of a set, or the lines in words
abbrev pub words_text : Text → Reply → Text
words_text root (reply.Set bytes) = bytes.items
words_text root answer = flat_map words_of (lines_of root answer)

-- the bytes of a set, or the lines as JSON
abbrev pub json_text : Text → Reply → Text
json_text root (reply.Set bytes) = bytes.items
json_text root answer = flat_map json_of (lines_of root answer)

abbrev pub text_of : (json : Bool) → Text → Reply → Text
text_of true root answer = json_text root answer
text_of false root answer = words_text root answer

-- whether a call asks for JSON; a set has no lines
abbrev pub is_json : Request → Bool
is_json (compile files) = false
is_json (gate asked) = asked.json
is_json (gate_all asked) = asked.json
is_json (show asked) = asked.json
is_json (verify files certificate json) = json
is_json (types files json) = json

-- the name of the root types; a certificate has its own, and what other calls print has none
abbrev pub root_of : Request → Text
root_of (gate asked) = asked.root
root_of call = []

pub record Printed : Type 0 where
  pub text : Text
  pub status : ℕ

abbrev pub printed : Request → Reply → Printed
printed call reply = record { text = text_of (is_json call) (root_of call) reply; status = status_of reply }
