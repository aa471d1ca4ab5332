-- Why the code refuses a name or a use, and the fault that reports it.
use Rattle.std.specs.Prelude.{◌≡◌, List, ℕ}
use Rattle.pg_link.specs.declared.error.LinkError as errors
use Rattle.pg_link.specs.declared.error.LinkError.TheVariants as error
use Rattle.pg_link.specs.declared.names.resolve.Unresolved.{Unresolved}
use Rattle.pg_link.specs.declared.names.resolve.Unresolved.TheVariants as why
use Rattle.pg_link.specs.declared.names.resolve.Unresolved.TheVariants.{Memory, UnknownName, NotAType, NotImported}
use Rattle.pg_link.specs.names.Names.{Text, Names}
use Rattle.pg_link.specs.names.Resolves.{Reference, NamesNoType}
use Rattle.pg_link.specs.uses.Unresolved.{IsHidden, IsUnknown, NamesNoTarget}
use Rattle.pg_link.specs.uses.Uses.{Use}
use Rattle.pg_link.specs.walk.Walk.{IsPlace, IsWhole}

-- each refusal comes only where what it names is there
abbrev pub Refuses : Names → Names → List Text → Reference → Unresolved → Type 0
Refuses visible all scope name Memory = Unit {0}
Refuses visible all scope name UnknownName = IsUnknown visible all scope name
Refuses visible all scope name NotAType = NamesNoType visible scope name
Refuses visible all scope name NotImported = IsHidden visible all scope name

-- each refusal of a use comes only where what it names is there
abbrev pub RefusesUse : Names → Names → Use → Unresolved → Type 0
RefusesUse visible all u Memory = Unit {0}
RefusesUse visible all u UnknownName = IsUnknown visible all u.scope u.name
RefusesUse visible all u NotAType = NamesNoTarget visible u
RefusesUse visible all u NotImported = IsHidden visible all u.scope u.name

-- the fault that says why, at this byte
abbrev pub Says : Unresolved → Text → Text → ℕ → errors.LinkError → Type 0
Says w path text at (error.UnknownName place) = (w ≡ why.UnknownName) × IsPlace place path text at
Says w path text at (error.NotAType place) = (w ≡ why.NotAType) × IsPlace place path text at
Says w path text at (error.NotImported place) = (w ≡ why.NotImported) × IsPlace place path text at
Says w path text at error.Memory = Unit {0}
Says w path text at _ = ⊥

-- the fault that says why, of the file as a whole
abbrev pub SaysOf : Unresolved → Text → errors.LinkError → Type 0
SaysOf w path (error.UnknownName place) = (w ≡ why.UnknownName) × IsWhole place path
SaysOf w path (error.NotAType place) = (w ≡ why.NotAType) × IsWhole place path
SaysOf w path (error.NotImported place) = (w ≡ why.NotImported) × IsWhole place path
SaysOf w path error.Memory = Unit {0}
SaysOf w path _ = ⊥
