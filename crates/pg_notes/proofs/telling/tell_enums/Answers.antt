use Rattle.std.proofs.Common.{◌≡◌, ◌∙◌, ℕ, List, ◌++◌, Option, flat_map, slice_get, ap, ap₂, sym}
use Rattle.std.specs.List.{enumerate_from}
use Rattle.std.proofs.lemmas.List.{append-nil}
use Rattle.pg_schema.specs.declared.parts.enum_type.EnumType.{EnumType}
use Rattle.pg_schema.specs.declared.parts.enum_type.EnumValue.{EnumValue}
use Rattle.pg_schema.specs.declared.parts.Parts.{Parts}
use Rattle.pg_notes.specs.EnumNotes.{enum_notes}
use Rattle.pg_notes.specs.Named.{place_of}
use Rattle.pg_notes.specs.Notes.{enum_beside, enum_name}
use Rattle.pg_notes.specs.declared.note.EnumPair.{EnumPair}
use Rattle.pg_notes.proofs.Going.{none_there, told_all, told_more}
use Rattle.pg_notes.proofs.telling.tell_enums.Goals.{in-Some+in_ok-tell_enum, in_default}
use Rattle.pg_notes.proofs.telling.tell_enums.Goals as goal

pub loop-index-preserved : goal.loop-index-preserved
loop-index-preserved c =
    let new = c.args.new.now in
    let e : EnumType = c.index-old_enums-index.result in
    let i : ℕ = c.loop-index.index in
    let before = c.loop-index.told.items in
    let after = c.match-place_in.told.items in
    let beside = λ (at : ℕ × EnumType). enum_beside new at.0 at.1 (place_of enum_name new.enums.items (enum_name at.1)) in
    let enums_are : c.as_slice-new_enums.result.now ≡ new.enums.items = c.as_slice-new_enums.ensures.value ∙ ap (λ (p : Parts). p.enums.items) c.parts.ensures.parts in
    let placed : place_of enum_name new.enums.items (enum_name e) ≡ c.place_in.result =
    ap₂ (λ (es : List EnumType) (n : List ℕ). place_of enum_name es n) (sym enums_are) (sym c.as_str.ensures.value)
    ∙ (sym (c.in_ok-names.ensures c.as_str.result.now) ∙ sym c.place_in.ensures) in
    let more : after ≡ before ++ beside (i, e) =
    elim c.match-place_in.branch [
      | in-Some+in_ok-tell_enum w ↦
          let place : ℕ = w.in-Some.place in
          let pair : EnumPair = record { old = record { index = i }; new = record { index = place } } in
          ap (λ (v : _). v.items) w.told-is ∙ (w.in_ok-tell_enum.ensures
          ∙ (ap₂ (λ (vs : List EnumValue) (o : Option EnumType). before ++ enum_notes pair vs o) w.deref.ensures.value
          (w.item_at.ensures ∙ ap (λ (es : List EnumType). slice_get es place) enums_are)
          ∙ ap (λ (p : Option ℕ). before ++ enum_beside new i e p) (sym (placed ∙ w.in-Some.is))))
      | in_default w ↦
          ap (λ (v : _). v.items) w.told-is ∙ (sym (append-nil before)
          ∙ ap (λ (p : Option ℕ). before ++ enum_beside new i e p) (sym (placed ∙ none_there c.place_in.result w.in_default.not-Some)))
    ] in
    told_more beside c.as_slice-old_enums.result.now i c.args.told.now.items before e after c.loop-index-test.true c.index-old_enums-index.is c.loop-index.invariant more

pub returns : goal.returns
returns c =
    let new = c.args.new.now in
    let old = c.args.told.now.items in
    let beside = λ (at : ℕ × EnumType). enum_beside new at.0 at.1 (place_of enum_name new.enums.items (enum_name at.1)) in
    told_all beside c.as_slice-old_enums.result.now c.loop-index.index old c.loop-index.told.items c.loop-index-test.false c.loop-index.invariant
    ∙ ap (λ (es : List EnumType). old ++ flat_map beside (enumerate_from 0 es)) (c.as_slice-old_enums.ensures.value ∙ ap (λ (p : Parts). p.enums.items) c.parts-2.ensures.parts)
