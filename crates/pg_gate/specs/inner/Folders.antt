-- A source that looks for paths in folders of another. It looks for a path after a slash, and lacks all others.
use Rattle.std.specs.Prelude.{Bool, true, false, nat_eq, List, [], ◌∷◌, if◌then◌else◌}
use Rattle.pg_link.specs.names.Names.{Text}
use Rattle.pg_call.specs.Paths.{paths_of}
use Rattle.pg_link.specs.declared.sources.Sources.{Ghosts}
use Rattle.pg_link.specs.walk.Walk.{World}
use Rattle.pg_gate.specs.answer.Folders.{given_in, lacked_in, world_through}
use Rattle.pg_gate.specs.declared.answer.folders.Folders.{Folders}

-- What it may give. `=` and `?` come before no path that is asked for: there it keeps what the other source may give
-- and lack, which its reads leave.
abbrev pub kept_give : (Text → Text → Bool) → (Text → Bool) → List Text → (asked bytes : Text) → Bool
kept_give give lack folders [] bytes = false
kept_give give lack folders (first ∷ path) bytes =
    if nat_eq first 47 then given_in give lack folders path bytes
    else if nat_eq first 61 then give path bytes
    else if nat_eq first 63 then lack path
    else false

abbrev pub kept_lack : (Text → Bool) → List Text → (asked : Text) → Bool
kept_lack lack folders [] = true
kept_lack lack folders (first ∷ path) = if nat_eq first 47 then lacked_in lack folders path else true

-- ---- its folders, the own one first; a clause has the members of the other source as S.Sources

abbrev pub names_in : {S : Type 0} → Folders S → List Text
names_in it = it.folder.now ∷ paths_of it.includes.now

abbrev pub given_by : {S : Type 0} → Ghosts S → Folders S → Text → Text → Bool
given_by members it = given_in (members.may_give it.source.now) (members.may_lack it.source.now) (names_in it)

abbrev pub lacked_by : {S : Type 0} → Ghosts S → Folders S → Text → Bool
lacked_by members it = lacked_in (members.may_lack it.source.now) (names_in it)

abbrev pub world_of_folders : {S : Type 0} → Ghosts S → Folders S → List Text → World
world_of_folders members it roots =
    world_through (members.may_give it.source.now) (members.may_lack it.source.now) (names_in it) roots
