-- Reserved ranges by their first numbers, and how far the ranges up to each of them reach (this project's way to look
-- numbers up).
use Rattle.std.specs.Prelude.{◌≡◌, ℕ, List, [], ◌∷◌, max}
use Rattle.std.specs.List.Sorted.{IsNonDecreasingBy, IsPermutation}
use Rattle.pg_schema.specs.declared.parts.message_type.ReservedFields.{ReservedFields}
use Rattle.pg_notes.specs.declared.reserved.Reserved.{Reserved}

-- for each range the highest last number of those up to it, and of the ones before the list
abbrev pub tops_from : ℕ → List ReservedFields → List ℕ
tops_from top [] = []
tops_from top (r ∷ rs) = max top r.last ∷ tops_from (max top r.last) rs

abbrev pub highest : List ReservedFields → ℕ
highest [] = 0
highest (r ∷ rs) = max r.last (highest rs)

-- the table has these ranges
pub record IsReservedTable (ranges : List ReservedFields) (table : Reserved) : Type 0 where
  pub same : IsPermutation ranges table.sorted.items
  pub order : IsNonDecreasingBy (λ (r : ReservedFields). r.first) table.sorted.items
  pub tops : table.tops.items ≡ tops_from 0 table.sorted.items
