-- How far a walk over the imports of files has come, which are named by their indices.
use Rattle.std.specs.Prelude.{◌≡◌, ℕ, suc, ◌+◌, ◌-◌, ◌<◌, ◌≤◌, ◌⊎◌, ⊤, Bool, true, false, nat_eq, List, [], ◌∷◌, ◌++◌, length, map, drop, Option, Some, None, slice_get, slice_set, Vec}
use Rattle.std.specs.Global.{Global}
use Rattle.std.specs.List.{AllByRecursion, list_any}
use Rattle.pg_set.specs.declared.reading.walk.Open.{Open}
use Rattle.pg_set.specs.declared.reading.walk.Seen.{Seen}
use Rattle.pg_set.specs.declared.reading.walk.Seen.TheVariants as seen
use Rattle.pg_set.specs.declared.reading.walk.Walk.{Walk}
use Rattle.pg_schema.specs.standing.Visits.{Visits}

-- what each file imports
abbrev pub lists_of : List (Vec ℕ Global) → List (List ℕ)
lists_of imported = map (λ (v : Vec ℕ Global). v.items) imported

-- what is imported is of so many files
abbrev pub AreWithin : ℕ → List (List ℕ) → Type 0
AreWithin count all = AllByRecursion (λ own. AllByRecursion (λ place. place < count) own) all

-- the walk over indices, in post-order
abbrev pub Walks : List (List ℕ) → (front visited listed : List ℕ) → Type 0
Walks all front visited listed = Visits nat_eq (slice_get all) front visited listed

-- Files have ranks that fall along imports, so that none is on a circle.
abbrev pub Falls : (rank : ℕ → ℕ) → List (List ℕ) → Type 0
Falls rank all =
    (place : ℕ) (own : List ℕ) → slice_get all place ≡ Some own
    → AllByRecursion (λ import. rank import < rank place) own

-- ---- files that are open

-- the file is there, and so many of its imports were looked at
abbrev pub IsOpen : List (List ℕ) → Open → Type 0
IsOpen all o = (own : List ℕ) × (slice_get all o.place ≡ Some own) × (o.next ≤ length own)

-- ranks fall from each file to those that were opened later
abbrev pub RanksFall : (rank : ℕ → ℕ) → List Open → Type 0
RanksFall rank [] = ⊤
RanksFall rank (o ∷ later) = AllByRecursion (λ (u : Open). rank u.place < rank o.place) later × RanksFall rank later

-- what is listed once the open files were ended, the last opened first
abbrev pub Ends : List (List ℕ) → List Open → (front listed : List ℕ) → Type 0
Ends all [] front listed = front ≡ listed
Ends all (o ∷ later) front listed =
    (between own inside : List ℕ) × Ends all later front between × (slice_get all o.place ≡ Some own)
    × Walks all between (drop o.next own) inside
    × (listed ≡ inside ++ o.place ∷ [])

-- ---- the walk

abbrev pub is_done : Option Seen → Bool
is_done None = false
is_done (Some seen.Not) = false
is_done (Some seen.Open) = false
is_done (Some seen.Done) = true

pub record IsWalk (all : List (List ℕ)) (marks : List Seen) (open_files : List Open) (done : List ℕ) : Type 0 where
  pub marked : length marks ≡ length all
  pub listed : (place : ℕ) → place < length all → is_done (slice_get marks place) ≡ list_any (nat_eq place) done
  pub opened : (place : ℕ) → slice_get marks place ≡ Some seen.Open
      → list_any (λ (o : Open). nat_eq place o.place) open_files ≡ true
  pub there : AllByRecursion (IsOpen all) open_files
  pub fall : (rank : ℕ → ℕ) → Falls rank all → RanksFall rank open_files

-- the files that were never open, each with its imports
abbrev pub unopened : List Seen → List (List ℕ) → ℕ
unopened [] all = 0
unopened (m ∷ marks) [] = 0
unopened (seen.Not ∷ marks) (own ∷ all) = suc (length own) + unopened marks all
unopened (seen.Open ∷ marks) (own ∷ all) = unopened marks all
unopened (seen.Done ∷ marks) (own ∷ all) = unopened marks all

abbrev pub count_of : Option (List ℕ) → ℕ
count_of None = 0
count_of (Some own) = length own

-- the open files, each with the imports that weren't looked at
abbrev pub pending : List (List ℕ) → List Open → ℕ
pending all [] = 0
pending all (o ∷ later) = (suc (count_of (slice_get all o.place)) - o.next) + pending all later

-- how many steps the walk has still before it
abbrev pub left : List (List ℕ) → List Seen → List Open → ℕ
left all marks open_files = unopened marks all + pending all open_files

-- ---- one file more

-- a file that is done is passed over, and one that wasn't seen is opened
abbrev pub Enters : ℕ → Walk → Walk → Type 0
Enters place old new =
    ((slice_get old.seen.items place ≡ Some seen.Done) × (new ≡ old))
    ⊎ ((slice_get old.seen.items place ≡ Some seen.Not) × (new.seen.items ≡ slice_set old.seen.items place seen.Open)
    × (new.opened.items ≡ old.opened.items ++ record { place = place; next = 0 } ∷ []) × (new.done.items ≡ old.done.items))

-- One step more, from files that are open: what is listed in the end is what would have been, and fewer steps are left.
pub record IsStep (all : List (List ℕ)) (marks : List Seen) (before : List Open) (done : List ℕ) (new : Walk) : Type 0 where
  pub walk : IsWalk all new.seen.items new.opened.items new.done.items
  pub on : (listed : List ℕ) → Ends all new.opened.items new.done.items listed → Ends all before done listed
  pub less : left all new.seen.items new.opened.items < left all marks before
