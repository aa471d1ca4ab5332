-- What functions inside the crate say of faults, which no promise of a call names.
use Rattle.std.specs.Prelude.{List}
use Rattle.pg_link.specs.names.Names.{Text}
use Rattle.pg_link.specs.walk.Walk.{Entry, World}
use Rattle.pg_gate.specs.answer.Files.{IsFault, IsLinkFault, IsNoSet, IsNotGiven, IsRuleFault}
use Rattle.pg_gate.specs.declared.error.Fault.{Fault}

-- files that can't be linked
abbrev pub IsOfLink : World → Fault → Type 0
IsOfLink w = IsFault (IsLinkFault w) (λ error. ⊥) (λ error. ⊥)

-- linked files that break a rule
abbrev pub IsOfRules : List Entry → Fault → Type 0
IsOfRules files = IsFault (λ error. ⊥) (IsRuleFault files) (λ error. ⊥)

-- a file that isn't given
abbrev pub IsGivenFault : World → (path : Text) → Fault → Type 0
IsGivenFault w path = IsFault (IsNotGiven w.may_lack w.folder path) (λ error. ⊥) (λ error. ⊥)

-- bytes that are refused
abbrev pub IsFaultOfBytes : Text → Fault → Type 0
IsFaultOfBytes bytes = IsFault (λ error. ⊥) (λ error. ⊥) (IsNoSet bytes)
