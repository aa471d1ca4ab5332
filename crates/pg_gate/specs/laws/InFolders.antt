-- Which folder gives a path.
use Rattle.std.specs.Prelude.{◌≡◌, Bool, true, false, List, [], ◌∷◌}
use Rattle.pg_link.specs.names.Names.{Text}
use Rattle.pg_link.specs.walk.FolderPath.{path_below}
use Rattle.pg_link.specs.walk.Walk.{world}
use Rattle.pg_gate.specs.answer.Folders.{given_in, lacked_in, world_including}

-- Of any source: a path of a side without included folders is looked for in its own folder alone. Of two folders the
-- first alone gives what the source doesn't lack there, and the second what it lacks and doesn't give there; a third
-- gives what it lacks and doesn't give in both. A path is lacked where the source lacks it in each folder, and nowhere
-- else. A folder with an included one gives and lacks what both do in turn.
pub record FoldersInTurn : Type 0 where
  pub alone : (give : Text → Text → Bool) (lack : Text → Bool) (folder : Text) (roots : List Text)
      → world_including give lack folder [] roots ≡ world give lack folder roots
  pub one : (give : Text → Text → Bool) (lack : Text → Bool) (folder path bytes : Text)
      → given_in give lack (folder ∷ []) path bytes ≡ give (path_below folder path) bytes
  pub first : (give : Text → Text → Bool) (lack : Text → Bool) (folder other path bytes : Text)
      → lack (path_below folder path) ≡ false
      → given_in give lack (folder ∷ other ∷ []) path bytes ≡ give (path_below folder path) bytes
  pub second : (give : Text → Text → Bool) (lack : Text → Bool) (folder other path bytes : Text)
      → give (path_below folder path) bytes ≡ false → lack (path_below folder path) ≡ true
      → given_in give lack (folder ∷ other ∷ []) path bytes ≡ give (path_below other path) bytes
  pub third : (give : Text → Text → Bool) (lack : Text → Bool) (folder other last path bytes : Text)
      → give (path_below folder path) bytes ≡ false → lack (path_below folder path) ≡ true
      → give (path_below other path) bytes ≡ false → lack (path_below other path) ≡ true
      → given_in give lack (folder ∷ other ∷ last ∷ []) path bytes ≡ give (path_below last path) bytes
  pub one_lacks : (lack : Text → Bool) (folder path : Text)
      → lacked_in lack (folder ∷ []) path ≡ lack (path_below folder path)
  pub both_lack : (lack : Text → Bool) (folder other path : Text)
      → lack (path_below folder path) ≡ true → lack (path_below other path) ≡ true
      → lacked_in lack (folder ∷ other ∷ []) path ≡ true
  pub first_has : (lack : Text → Bool) (folder other path : Text)
      → lack (path_below folder path) ≡ false → lacked_in lack (folder ∷ other ∷ []) path ≡ false
  pub second_has : (lack : Text → Bool) (folder other path : Text)
      → lack (path_below other path) ≡ false → lacked_in lack (folder ∷ other ∷ []) path ≡ false
  pub included_gives : (give : Text → Text → Bool) (lack : Text → Bool) (folder included : Text) (roots : List Text)
      → (world_including give lack folder (included ∷ []) roots).may_give ≡ given_in give lack (folder ∷ included ∷ [])
  pub included_lacks : (give : Text → Text → Bool) (lack : Text → Bool) (folder included : Text) (roots : List Text)
      → (world_including give lack folder (included ∷ []) roots).may_lack ≡ lacked_in lack (folder ∷ included ∷ [])
