use Rattle.std.proofs.Common.{◌≡◌, ◌∙◌, ℕ, List, ◌++◌, Option, flat_map, option_map, ap, sym}
use Rattle.std.specs.List.{enumerate_from}
use Rattle.std.proofs.lemmas.List.{append-nil}
use Rattle.pg_schema.specs.declared.parts.field.Field.{Field}
use Rattle.pg_schema.specs.declared.parts.field.TypeId.{TypeId}
use Rattle.pg_schema.specs.declared.parts.message_type.MessageType.{MessageType}
use Rattle.pg_schema.specs.declared.parts.Parts.{Parts}
use Rattle.pg_schema.specs.Lookups.{type_at}
use Rattle.pg_notes.specs.FieldNotes.{pair_notes}
use Rattle.pg_notes.specs.Named.{place_of}
use Rattle.pg_notes.specs.Notes.{message_name, type_beside}
use Rattle.pg_notes.specs.declared.note.TypePair.{TypePair}
use Rattle.pg_notes.proofs.Going.{none_there, told_all, told_more}
use Rattle.pg_notes.proofs.Places.{looked_up}
use Rattle.pg_notes.proofs.telling.tell_types.Goals.{in-Some+in_ok-tell_type, in_default}
use Rattle.pg_notes.proofs.telling.tell_types.Goals as goal

pub loop-index-preserved : goal.loop-index-preserved
loop-index-preserved c =
    let new = c.args.new.now in
    let t : MessageType = c.index-old_types-index.result in
    let i : ℕ = c.loop-index.index in
    let before = c.loop-index.told.items in
    let after = c.match-message.told.items in
    let beside = λ (at : ℕ × MessageType). type_beside new at.0 at.1 (place_of message_name new.types.items (message_name at.1)) in
    let at_index = λ (id : TypeId). id.index in
    let placed : place_of message_name new.types.items (message_name t) ≡ option_map at_index c.message.result =
    ap (place_of message_name new.types.items) (sym c.as_str.ensures.value) ∙ looked_up new.types.items c.as_str.result.now c.message.result c.message.ensures in
    let more : after ≡ before ++ beside (i, t) =
    elim c.match-message.branch [
      | in-Some+in_ok-tell_type w ↦
          let pair : TypePair = record { old = record { index = i }; new = w.in-Some.id } in
          ap (λ (v : _). v.items) w.told-is ∙ (w.in_ok-tell_type.ensures
          ∙ (ap (λ (fs : List Field). before ++ pair_notes pair fs (type_at new w.in-Some.id)) w.deref.ensures.value
          ∙ ap (λ (p : Option ℕ). before ++ type_beside new i t p) (sym (placed ∙ ap (option_map at_index) w.in-Some.is))))
      | in_default w ↦
          ap (λ (v : _). v.items) w.told-is ∙ (sym (append-nil before)
          ∙ ap (λ (p : Option ℕ). before ++ type_beside new i t p) (sym (placed ∙ ap (option_map at_index) (none_there c.message.result w.in_default.not-Some))))
    ] in
    told_more beside c.as_slice-old_types.result.now i c.args.told.now.items before t after c.loop-index-test.true c.index-old_types-index.is c.loop-index.invariant more

pub returns : goal.returns
returns c =
    let new = c.args.new.now in
    let told = c.args.told.now.items in
    let beside = λ (at : ℕ × MessageType). type_beside new at.0 at.1 (place_of message_name new.types.items (message_name at.1)) in
    told_all beside c.as_slice-old_types.result.now c.loop-index.index told c.loop-index.told.items c.loop-index-test.false c.loop-index.invariant
    ∙ ap (λ (ts : List MessageType). told ++ flat_map beside (enumerate_from 0 ts)) (c.as_slice-old_types.ensures.value ∙ ap (λ (p : Parts). p.types.items) c.parts.ensures.parts)
