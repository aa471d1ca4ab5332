-- What reads leave of a source, and which paths it is asked for when imports are followed.
use Rattle.std.specs.List.{All}
use Rattle.std.specs.Prelude.{◌≡◌, ◌+◌, ℕ, true, List, length, Option}
use Rattle.pg_link.specs.declared.sources.Sources.{Ghosts}
use Rattle.pg_link.specs.walk.FolderPath.{path_below}
use Rattle.pg_link.specs.names.Files.{Differ, is_path_of}
use Rattle.pg_link.specs.names.Names.{Text}
use Rattle.pg_link.specs.Sources.{also}
use Rattle.pg_link.specs.walk.Walk.{Entry, World, path_of, world}

-- A source with a folder and roots below it. A clause has the members of a source as S.Sources.
abbrev pub world_of : {S : Type 0} → Ghosts S → S → (folder : Text) → (roots : List Text) → World
world_of members source folder roots = world (members.may_give source) (members.may_lack source) folder roots

-- what reads leave of a source: it failed just so often more, and may give and lack what it did
pub record Reads {S : Type 0} (members : Ghosts S) (old new : S) (failures : ℕ) : Type 0 where
  pub counted : members.failures new ≡ members.failures old + failures
  pub same_given : members.may_give new ≡ members.may_give old
  pub same_lacked : members.may_lack new ≡ members.may_lack old

-- the paths that a source was asked for between two moments: no path twice
pub record ReadsApart (before after : Option (List Text)) : Type 0 where
  pub asked : List Text
  pub adds : after ≡ also asked before
  pub apart : Differ asked

-- and just those of the files, each where it lies below the folder
pub record ReadsEach (folder : Text) (before after : Option (List Text)) (files : List Entry) : Type 0 where
  pub reads : ReadsApart before after
  pub as_many : length reads.asked ≡ length files
  pub has_each : All (λ e. is_path_of reads.asked (path_below folder (path_of e)) ≡ true) files

-- ---- while imports are followed
