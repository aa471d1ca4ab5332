-- The order of what leads to others: depth first, each after those that it leads to (this profile's choice).
use Rattle.std.specs.Prelude.{◌≡◌, Bool, true, false, List, [], ◌∷◌, ◌++◌, Option, Some}
use Rattle.std.specs.List.{list_any}

-- What is listed once these were visited in order, where those in front are listed already: one that is listed is
-- passed over; any other leads to some that are visited first, and is listed after them.
pub data Visits {A : Type 0} (same : A → A → Bool) (leads : A → Option (List A))
    : (front visited listed : List A) → Type 0 where
  all_visited : (front : List A) → Visits same leads front [] front
  passed_over : (front later listed : List A) (x : A) → list_any (same x) front ≡ true
      → Visits same leads front later listed → Visits same leads front (x ∷ later) listed
  listed_last : (front own inside later listed : List A) (x : A) → list_any (same x) front ≡ false
      → leads x ≡ Some own → Visits same leads front own inside
      → Visits same leads (inside ++ x ∷ []) later listed → Visits same leads front (x ∷ later) listed
