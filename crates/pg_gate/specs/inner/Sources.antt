-- What functions inside the crate know of a source: what it may give and lack below folders.
use Rattle.pg_link.specs.walk.Walk.{World}
use Rattle.pg_link.specs.declared.sources.Sources.{Ghosts}
use Rattle.pg_call.specs.Paths.{Paths}
use Rattle.pg_gate.specs.answer.Folders.{world_at}

-- Files at these paths, with what their source may give and lack. A clause has the members of a source as S.Sources.
abbrev pub world_of : {S : Type 0} → Ghosts S → S → Paths → World
world_of members source paths = world_at (members.may_give source) (members.may_lack source) paths
