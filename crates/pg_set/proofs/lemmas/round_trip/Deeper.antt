-- What is nested at most 64 deep is nested at most 100 deep, so a schema that is read again is one whose set states it.
use Rattle.std.proofs.Common.{◌≡◌, ℕ, zero, suc, ◌+◌, true, List, [], ◌∷◌, Option, Some, None, slice_get, refl, subst, arith, rules}
use Rattle.std.proofs.lemmas.Bool.{false≢true}
use Rattle.std.specs.List.{list_all}
use Rattle.pg_schema.specs.declared.parts.field.TypeId.{TypeId}
use Rattle.pg_schema.specs.declared.parts.file.File.{File}
use Rattle.pg_schema.specs.declared.parts.message_type.MessageType.{MessageType}
use Rattle.pg_schema.specs.declared.parts.Parts.{Parts}
use Rattle.pg_schema.proofs.lemmas.rules.PairLemmas.{and_both, and_left, and_right}
use Rattle.pg_schema.specs.standing.Nesting.{holds_inside, nest_within}
use Rattle.pg_schema.specs.standing.Places.{most_deep}
use Rattle.pg_set.specs.round_trip.Readable.{IsReadAgain, IsReadable}

-- ---- what is nested less deep may be nested deeper

module _ (types : List MessageType) where
  abbrev Deeper : (n m : ℕ) → Type 0
  Deeper n m = (ids : List TypeId) → nest_within n types ids ≡ true → nest_within m types ids ≡ true

  inside_deeper : (n m : ℕ) → Deeper n m → (o : Option MessageType) → holds_inside (nest_within n types) o ≡ true → holds_inside (nest_within m types) o ≡ true
  inside_deeper n m deeper None h = refl
  inside_deeper n m deeper (Some t) h = deeper t.nested_types.items h

  each_deeper : (n m : ℕ) → Deeper n m → Deeper (suc n) (suc m)
  each_deeper n m deeper [] h = refl
  each_deeper n m deeper (id ∷ ids) h =
      let here = holds_inside (nest_within n types) (slice_get types id.index) in
      and_both (holds_inside (nest_within m types) (slice_get types id.index)) (nest_within (suc m) types ids)
      (inside_deeper n m deeper (slice_get types id.index) (and_left here (nest_within (suc n) types ids) h))
      (each_deeper n m deeper ids (and_right here (nest_within (suc n) types ids) h))

  one_deeper : (n : ℕ) → Deeper n (suc n)
  one_deeper zero [] h = refl
  one_deeper zero (id ∷ ids) h = absurd (false≢true h)
  one_deeper (suc n) ids h = each_deeper n (suc n) (one_deeper n) ids h

  much_deeper : (more n : ℕ) → Deeper n (more + n)
  much_deeper zero n ids h = search rules
  much_deeper (suc more) n ids h = subst (λ k. nest_within k types ids ≡ true) (one_more more n) (one_deeper (more + n) ids (much_deeper more n ids h))
    where
      one_more : (a b : ℕ) → suc (a + b) ≡ suc a + b
      one_more a b = omega arith

  pub files_deeper : (files : List File) → list_all (λ (f : File). nest_within 64 types f.types.items) files ≡ true → list_all (λ (f : File). nest_within most_deep types f.types.items) files ≡ true
  files_deeper [] h = refl
  files_deeper (f ∷ files) h =
      let later = list_all (λ (g : File). nest_within 64 types g.types.items) files in
      and_both (nest_within most_deep types f.types.items) (list_all (λ (g : File). nest_within most_deep types g.types.items) files)
      (much_deeper 36 64 f.types.items (and_left (nest_within 64 types f.types.items) later h)) (files_deeper files (and_right (nest_within 64 types f.types.items) later h))

-- ---- what is asked of a schema that is read again

pub readable : (parts : Parts) → IsReadAgain parts → IsReadable parts
readable parts again =
    record { imports_once = again.imports_once; behind = again.behind; places = again.places; shallow = files_deeper parts.types.items parts.files.items again.shallow }
