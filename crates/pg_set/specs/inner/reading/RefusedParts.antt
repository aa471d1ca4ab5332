-- What the program reports once it has looked at files and types.
use Rattle.std.specs.Prelude.{◌≡◌, ⊤, Bool, List, None}
use Rattle.pg_dyn.specs.message.Message.{Message}
use Rattle.pg_set.specs.declared.error.SetError.{SetError}
use Rattle.pg_set.specs.declared.error.SetError.TheVariants as errors
use Rattle.pg_set.specs.stated.Stated.{stated_of}

-- memory, or that the files state nothing
abbrev pub IsOfParts : (skips : Bool) → List Message → SetError → Type 0
IsOfParts skips files errors.Memory = ⊤
IsOfParts skips files (errors.Bytes e) = ⊥
IsOfParts skips files errors.NotProto3 = ⊥
IsOfParts skips files errors.BadType = ⊥
IsOfParts skips files errors.BadReference = stated_of skips files ≡ None
