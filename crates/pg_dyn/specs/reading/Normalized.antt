-- Entries of a map as they were read, put in order (Protocol Buffers language guide, "Maps": of equal keys the last one counts).
use Rattle.std.specs.Prelude.{List, [], ◌∷◌, fold}
use Rattle.std.specs.declared.cmp.Ordering.{Ordering}
use Rattle.std.specs.declared.cmp.Ordering.TheVariants.{Less, Equal, Greater}
use Rattle.pg_dyn.specs.message.Message.{Leaf, key_cmp}

-- an entry by rising key, instead of the one of its key
abbrev pub place : {A : Type 0} → (A → Leaf) → A → List A → List A
place key e [] = e ∷ []
place {A} key e (x ∷ xs) = at (key_cmp (key e) (key x)) (place key e xs)
  where
    at : Ordering → List A → List A
    at Less later = e ∷ x ∷ xs
    at Equal later = e ∷ xs
    at Greater later = x ∷ later

-- the entries put in one by one, after those that are sorted
abbrev pub placed : {A : Type 0} → (A → Leaf) → List A → List A → List A
placed key before es = fold (λ xs e. place key e xs) before es
