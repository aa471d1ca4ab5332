-- Indexes by their scopes.
use Rattle.std.proofs.Common.{◌≡◌, ℕ, Bool, cond, List, [], ◌∷◌, map, string_bytes, String, refl, arith}
use Rattle.std.specs.List.{filter}
use Rattle.std.specs.Str.{bytes_eq}
use Rattle.std.specs.declared.alloc.Global.{Global}
use Rattle.pg_check.specs.parts.ByScope.{Placed, places_in}
use Rattle.pg_check.specs.inner.Grouped.{placed}

kept : (b : Bool) (p : String Global × ℕ) (ps : List (String Global × ℕ)) (qs : List Placed) → map (λ (p : String Global × ℕ). p.1) ps ≡ map (λ (q : Placed). q.index) qs
    → map (λ (p : String Global × ℕ). p.1) (cond b (p ∷ ps) ps) ≡ map (λ (q : Placed). q.index) (cond b (placed p ∷ qs) qs)
kept b p ps qs h = grind arith

pub places_are : (scope : List ℕ) (list : List (String Global × ℕ)) → map (λ (p : String Global × ℕ). p.1) (filter (λ (p : String Global × ℕ). bytes_eq scope (string_bytes p.0)) list) ≡ places_in scope (map placed list)
places_are scope [] = refl
places_are scope (p ∷ ps) = kept (bytes_eq scope (string_bytes p.0)) p _ _ (places_are scope ps)
