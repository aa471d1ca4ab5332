use Rattle.std.proofs.Common.{◌∙◌, ℕ, List, ◌++◌, Option, Bor, flat_map, ap, sym}
use Rattle.std.specs.List.{enumerate_from}
use Rattle.std.specs.Option.{option_copied}
use Rattle.pg_schema.specs.declared.parts.enum_type.EnumType.{EnumType}
use Rattle.pg_schema.specs.declared.parts.enum_type.EnumValue.{EnumValue}
use Rattle.pg_notes.specs.EnumNotes.{enum_notes, value_notes}
use Rattle.pg_notes.proofs.Going.{told_all, told_more}
use Rattle.pg_notes.proofs.enums.tell_enum.Goals as goal

pub loop-index-preserved : goal.loop-index-preserved
loop-index-preserved c =
    told_more (λ (at : ℕ × EnumValue). value_notes c.args.enums c.as_slice-new_values.result.now at.0 at.1) c.args.values.now c.loop-index.index c.args.told.now.items c.loop-index.told.items
    c.index-values-index.result c.tell_value.new.told.items c.loop-index-test.true c.index-values-index.is c.loop-index.invariant c.in_ok-tell_value.ensures

pub returns : goal.returns
returns c =
    let old = c.args.told.now.items in
    let values = c.args.values.now in
    told_all (λ (at : ℕ × EnumValue). value_notes c.args.enums c.as_slice-new_values.result.now at.0 at.1) values c.loop-index.index old c.loop-index.told.items c.loop-index-test.false c.loop-index.invariant
    ∙ (ap (λ (vs : List EnumValue). old ++ flat_map (λ (at : ℕ × EnumValue). value_notes c.args.enums vs at.0 at.1) (enumerate_from 0 values)) c.as_slice-new_values.ensures.value
    ∙ ap (λ (o : Option (Bor EnumType)). old ++ enum_notes c.args.enums values (option_copied o)) (sym c.in-Some.is))
