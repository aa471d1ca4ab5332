-- Packed lists whose elements are looked at and not read.
use Rattle.std.proofs.Common.{◌≡◌, ℕ, ◌+◌, ◌<◌, ◌≤◌, List, [], ◌∷◌, ◌++◌, length, map, take, drop, true, Some, is_some, option_and_then, Result, Ok, Err, refl, ap, sym, ◌∙◌, arith, length-drop, drop-drop, append_assoc, rules}
use Rattle.std.proofs.lemmas.List.{drop_all}
use Rattle.pg_schema.specs.declared.parts.field.Scalar.{Scalar}
use Rattle.pg_schema.specs.declared.parts.field.Scalar.TheVariants as scalars
use Rattle.pg_schema.specs.declared.parts.field.Element.TheVariants as elements
use Rattle.pg_schema.specs.Shape.{is_packable}
use Rattle.pg_wire.specs.Reading.{Fault, Front, ◌>>=◌, row}
use Rattle.pg_dyn.specs.word.Coding.{element_at, form_wire, leaf_in, scalar_form}
use Rattle.pg_dyn.specs.reading.Content.{option_from, packed_leaves}
use Rattle.pg_dyn.specs.message.Message.{Leaf}
use Rattle.pg_dyn.specs.reading.Optional.{all_some}
use Rattle.pg_dyn.proofs.lemmas.reading.PackedRows.{IsOne, element_shortens, row-end, row-step, row-stop}

-- A body of a packable scalar has a reading, and so has each row of them.

leaf_there : (s : Scalar) → is_packable (elements.Scalar s) ≡ true → (body : List ℕ) → (leaf : Leaf) × (leaf_in (scalar_form s) body ≡ Some leaf)
leaf_there scalars.Double h body = (_, refl)
leaf_there scalars.Float h body = (_, refl)
leaf_there scalars.Int32 h body = (_, refl)
leaf_there scalars.Int64 h body = (_, refl)
leaf_there scalars.Uint32 h body = (_, refl)
leaf_there scalars.Uint64 h body = (_, refl)
leaf_there scalars.Sint32 h body = (_, refl)
leaf_there scalars.Sint64 h body = (_, refl)
leaf_there scalars.Fixed32 h body = (_, refl)
leaf_there scalars.Fixed64 h body = (_, refl)
leaf_there scalars.Sfixed32 h body = (_, refl)
leaf_there scalars.Sfixed64 h body = (_, refl)
leaf_there scalars.Bool h body = (_, refl)
leaf_there scalars.String h body = absurd (cc)
leaf_there scalars.Bytes h body = absurd (cc)

leaves_there : (s : Scalar) → is_packable (elements.Scalar s) ≡ true → (bodies : List (List ℕ))
    → (leaves : List Leaf) × (all_some (map (leaf_in (scalar_form s)) bodies) ≡ Some leaves)
leaves_there s packable [] = ([], refl)
leaves_there s packable (body ∷ bodies) =
    let (leaf, is) = leaf_there s packable body in
    let (leaves, are) = leaves_there s packable bodies in
    (leaf ∷ leaves, rw (is, are) refl)

-- the element at the front, and the row of them
abbrev first : Scalar → List ℕ → Front (List ℕ)
first s bytes = element_at (form_wire (scalar_form s)) bytes

abbrev whole_row : Scalar → List ℕ → Result (List (List ℕ)) Fault
whole_row s bytes = row (first s) bytes

shortens : (s : Scalar) (bytes a rest : List ℕ) → first s bytes ≡ Ok (a, rest) → length rest < length bytes
shortens s = element_shortens (form_wire (scalar_form s))

-- the elements up to an index are there
pub record RowUpTo (s : Scalar) (body : List ℕ) (start : ℕ) : Type 0 where
  pub inside : start ≤ length body
  pub done : List (List ℕ)
  pub row_ok : (others : List (List ℕ)) → whole_row s (drop start body) ≡ Ok others → whole_row s body ≡ Ok (done ++ others)
  pub row_err : (f : Fault) → whole_row s (drop start body) ≡ Err f → whole_row s body ≡ Err f

module _ (s : Scalar) (body : List ℕ) where
  pub row_begins : RowUpTo s body 0
  row_begins = search (rules, arith)

  module _ (start : ℕ) (a : RowUpTo s body start) where
    pub row_whole : is_packable (elements.Scalar s) ≡ true → length body ≤ start → is_some (packed_leaves (scalar_form s) body) ≡ true
    row_whole packable end =
        let none : drop start body ≡ [] = drop_all start body end in
        let whole = a.row_ok [] (ap (whole_row s) none ∙ row-end (first s) (shortens s)) in
        let (leaves, are) = leaves_there s packable (a.done ++ []) in
        ap (λ r. is_some (option_and_then (λ bodies. all_some (map (leaf_in (scalar_form s)) bodies)) (option_from r))) whole ∙ ap is_some are

    pub row_breaks : start < length body → (f : Fault) → first s (drop start body) ≡ Err f → whole_row s body ≡ Err f
    row_breaks inside f h =
        a.row_err f (row-stop (first s) (shortens s) (drop start body) f (omega (arith, length-drop start body)) h)

    pub row_further : (n : ℕ) → IsOne (form_wire (scalar_form s)) (drop start body) n → RowUpTo s body (start + n)
    row_further n one =
        let rest_is : drop n (drop start body) ≡ drop (start + n) body = drop-drop n start body in
        let step = row-step (first s) (shortens s) (drop start body) (take n (drop start body)) (drop n (drop start body)) one.0
        ∙ ap (λ xs. whole_row s xs >>= λ others. Ok (take n (drop start body) ∷ others)) rest_is in
        record {
          inside = omega (arith, one.2, length-drop start body);
          done = a.done ++ take n (drop start body) ∷ [];
          row_ok = λ others h.
              a.row_ok (take n (drop start body) ∷ others) (step ∙ ap (λ r. r >>= λ others. Ok (take n (drop start body) ∷ others)) h)
              ∙ ap (λ xs. Ok xs) (sym (append_assoc a.done (take n (drop start body) ∷ []) others));
          row_err = λ f h. a.row_err f (step ∙ ap (λ r. r >>= λ others. Ok (take n (drop start body) ∷ others)) h);
        }
