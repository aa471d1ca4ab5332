-- Of files in their order the first that breaks a rule, and the first rule that it breaks. This is how the code looks;
-- what it promises is `KeepsRules` and `IsFirstBroken`.
use Rattle.std.specs.Prelude.{◌≡◌, ℕ, ◌+◌, ◌-◌, List, [], ◌∷◌, length, Option, Some, None}
use Rattle.pg_check.specs.declared.declare.FileFault.{FileFault}
use Rattle.pg_check.specs.declared.declare.Refusal.{Refusal}
use Rattle.pg_check.specs.declared.declare.Refusal.TheVariants.{Memory, Broken}
use Rattle.pg_check.specs.declared.rules.fault.Fault.{Fault}
use Rattle.pg_check.specs.parts.MadeParts.{Source}
use Rattle.pg_check.specs.inner.FileFaults.{file_fault}
use Rattle.pg_check.specs.rules.Outline.{file_messages}

-- a fault of the file with that index comes before those of others
abbrev pub in_file : ℕ → Option Fault → Option FileFault → Option FileFault
in_file index None others = others
in_file index (Some fault) others = Some (record { file = index; fault = fault })

-- the first rule that files break, from that index on, where so many more message types may come
abbrev pub files_fault : (left index : ℕ) → List Source → Option FileFault
files_fault left index [] = None
files_fault left index (s ∷ ss) =
    in_file index (file_fault s.targets left s.tree) (files_fault (left - length (file_messages s.tree)) (index + 1) ss)

-- at most 4,096 message types
abbrev pub first_broken : List Source → Option FileFault
first_broken files = files_fault 4096 0 files

-- a refusal names the first rule that is broken
abbrev pub IsBroken : List Source → Refusal → Type 0
IsBroken files Memory = Unit {0}
IsBroken files (Broken fault) = first_broken files ≡ Some fault
