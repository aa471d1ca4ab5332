-- What a run does to its sink.
use Rattle.std.specs.Prelude.{◌≡◌, ◌⊎◌, ℕ, List, ◌++◌, take, Result, Err}
use Rattle.pg_link.specs.names.Names.{Text}
use Rattle.pg_call.specs.Call.{CallsFor, Request}
use Rattle.pg_gate.specs.print.Printed.{printed}
use Rattle.pg_gate.specs.declared.error.GateError.{GateError}
use Rattle.pg_gate.specs.declared.error.GateError.TheVariants.{Memory, WriteFailed}
use Rattle.pg_gate.specs.declared.print.reply.Reply.{Reply}

-- the sink took what the arguments' call prints, with an answer granted to it, and nothing else
pub record Prints (granted : Request → Reply → Type 0) (words : List Text) (status : ℕ) (old new : Text) : Type 0 where
  pub call : Request
  pub reply : Reply
  pub called : CallsFor words call
  pub answered : granted call reply
  pub ended : status ≡ (printed call reply).status
  pub written : new ≡ old ++ (printed call reply).text

-- the sink took a beginning of what the arguments' call prints
pub record Begins (granted : Request → Reply → Type 0) (words : List Text) (old new : Text) : Type 0 where
  pub call : Request
  pub reply : Reply
  pub called : CallsFor words call
  pub answered : granted call reply
  pub count : ℕ
  pub written : new ≡ old ++ take count (printed call reply).text

-- what a sink took is still there, before what came
pub record Keeps (old new : Text) : Type 0 where
  pub more : Text
  pub is : new ≡ old ++ more

-- The sources of a run that ends out of memory: none failed; or their counts are those of an answer that is granted
-- to the arguments' call.
pub data MayLack (granted : Request → Reply → Type 0) (words : List Text) (none_failed : Type 0) : Type 0 where
  unfailed : none_failed → MayLack granted words none_failed
  answered : (call : Request) (reply : Reply) → CallsFor words call → granted call reply
      → MayLack granted words none_failed

-- a run ends without a status only where memory or its sink failed
abbrev pub IsRunError : GateError → Type 0
IsRunError error = (error ≡ Memory) ⊎ (error ≡ WriteFailed)

-- the failures of the sink in a run
abbrev pub failures_in : Result ℕ GateError → ℕ
failures_in (Err WriteFailed) = 1
failures_in result = 0
