-- The words of the records of a list of numbers.
use Rattle.std.proofs.Common.{◌≡◌, ℕ, ◌<◌, ◌^◌, List, [], ◌∷◌, ◌++◌, map, true, false, Some, refl, ap, sym, subst, ◌∙◌, rules}
use Rattle.std.proofs.lemmas.List.{map-append}
use Rattle.pg_schema.specs.Shape.{FieldShape, is_packable}
use Rattle.pg_wire.specs.declared.record.WireType.{WireType}
use Rattle.pg_wire.specs.Records.{WireRecord}
use Rattle.pg_dyn.specs.message_ref.Borrowed.{leaf_of}
use Rattle.pg_dyn.specs.word.Coding.{form, form_wire, leaf_in, scalar_form, word_in}
use Rattle.pg_dyn.specs.word.NumberLists.{number_item}
use Rattle.pg_dyn.specs.reading.Content.{same_wire}
use Rattle.pg_dyn.specs.reading.Held.{read_as}
use Rattle.pg_dyn.specs.reading.Steps.{RowReads}
use Rattle.pg_dyn.specs.word.WordOf.{HasBits}
use Rattle.pg_dyn.proofs.lemmas.word.NumberLaws.{number_kept, number_read}
use Rattle.pg_dyn.proofs.lemmas.reading.FieldKinds.{packable_as}
use Rattle.pg_dyn.proofs.lemmas.reading.runs.ScalarRuns.{ItemsSoFar, more_items, own_item, row_items}

module _ (f : FieldShape) (rs : List WireRecord) (r : WireRecord) (old new : List ℕ) where
  abbrev pub NumbersSoFar : List WireRecord → List ℕ → Type 0
  NumbersSoFar records words = ItemsSoFar f records (map (number_item (scalar_form (read_as f.element))) words)

  -- one more word
  pub own_number : (w : WireType) (word : ℕ) → w ≡ form_wire (scalar_form (read_as f.element)) → is_packable f.element ≡ true
      → same_wire r.wire (form_wire (form f.element)) ≡ true → word ≡ word_in w r.body → HasBits w word → word < 2 ^ 64 → new ≡ old ++ word ∷ []
      → NumbersSoFar rs old → NumbersSoFar (rs ++ r ∷ []) new
  own_number w word is packable own word_is bits below made so_far =
      let can = packable_as (read_as f.element) f.element refl packable in
      let own_bits : HasBits (form_wire (scalar_form (read_as f.element))) word = subst (λ x. HasBits x word) is bits in
      let own_word : word ≡ word_in (form_wire (scalar_form (read_as f.element))) r.body = word_is ∙ ap (λ x. word_in x r.body) is in
      let read : leaf_in (scalar_form (read_as f.element)) r.body ≡ Some (leaf_of (number_item (scalar_form (read_as f.element)) word)) =
      number_read (read_as f.element) r.body can (subst (HasBits (form_wire (scalar_form (read_as f.element)))) own_word own_bits)
      ∙ ap (λ x. Some (leaf_of (number_item (scalar_form (read_as f.element)) x))) (sym own_word) in
      more_items f rs r (map (number_item (scalar_form (read_as f.element))) old) (number_item (scalar_form (read_as f.element)) word ∷ [])
      (map (number_item (scalar_form (read_as f.element))) new) so_far
      (own_item f r (leaf_of (number_item (scalar_form (read_as f.element)) word)) own read)
      (number_kept (read_as f.element) word can (own_bits, below), tt)
      (ap (map (number_item (scalar_form (read_as f.element)))) made ∙ map-append (number_item (scalar_form (read_as f.element))) old (word ∷ []))

  -- a packed list more
  pub row_numbers : same_wire r.wire (form_wire (form f.element)) ≡ false → RowReads (read_as f.element) r.body old new
      → NumbersSoFar rs old → NumbersSoFar (rs ++ r ∷ []) new
  row_numbers other read so_far = search (rules, more_items, row_items, map-append)
