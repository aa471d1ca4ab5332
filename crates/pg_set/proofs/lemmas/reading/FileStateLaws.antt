-- The indices of public imports are asked of the paths that are there.
use Rattle.std.proofs.Common.{◌≡◌, ℕ, ℤ, true, List, length, rules}
use Rattle.std.proofs.lemmas.List.{length-map}
use Rattle.std.specs.List.{list_all}
use denote.Ref.{Bor}
use Rattle.pg_set.specs.inner.Lent.{lent}
use Rattle.pg_set.specs.stated.FileMessages.{is_place}

pub places_asked : (count : ℕ) (paths : List (Bor (List ℕ))) (ts : List (List ℕ)) (a b ns : List ℤ)
    → count ≡ length paths → lent paths ≡ ts → a ≡ b → b ≡ ns → list_all (is_place (length ts)) ns ≡ true → list_all (is_place count) a ≡ true
places_asked count paths ts a b ns many texts same numbers h = search (rules, length-map)
