-- Lists that go side by side, from the indices that a loop has still to see.
use Rattle.std.proofs.Common.{◌≡◌, suc, List, [], ◌∷◌, length, map, refl, ap}
use Rattle.pg_dyn.specs.message.Kept.{Kept, message_of}

pub seen_length : (ms : List Kept) → length (map message_of ms) ≡ length ms
seen_length [] = refl
seen_length (m ∷ ms) = ap suc (seen_length ms)
