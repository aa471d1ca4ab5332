-- Strings, byte by byte.
use Rattle.std.proofs.Common.{◌≡◌, ℕ, Bool, true, false, List}
use Rattle.std.specs.Str.{bytes_eq}
use Rattle.std.proofs.lemmas.Slice.Eq.{bytes_eq-Decides}

same_or_not : (bs cs : List ℕ) (r : Bool) → bytes_eq bs cs ≡ r → (bs ≡ cs → ⊥) → r ≡ false
same_or_not bs cs true e ne = absurd (ne ((bytes_eq-Decides bs cs).0 e))
same_or_not bs cs false e ne = cc

pub bytes_eq-other : (bs cs : List ℕ) → (bs ≡ cs → ⊥) → bytes_eq bs cs ≡ false
bytes_eq-other bs cs ne = same_or_not bs cs (bytes_eq bs cs) (cc) ne
