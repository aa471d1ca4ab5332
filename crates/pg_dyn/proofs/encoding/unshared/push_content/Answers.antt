use Rattle.std.proofs.Common.{◌≡◌, ◌++◌, ℕ, List, [], length, map, Some, inr, refl, ap, sym, subst, ◌∙◌, arith, append-nil}
use Rattle.std.specs.List.{AllByRecursion}
use Rattle.std.proofs.lemmas.Result.{err_from_is_err_and}
use Rattle.pg_schema.specs.declared.parts.field.TypeId.{TypeId}
use Rattle.pg_schema.specs.Parts.{field_shape, shape_of}
use Rattle.pg_schema.specs.Shape.{Shape, FieldShape, fields, field_at}
use Rattle.pg_dyn.specs.message.KeptParts.{KeptItem}
use Rattle.pg_dyn.specs.encoding.Lending.{HoldsParts}
use Rattle.pg_dyn.specs.message.Message.{Part}
use Rattle.pg_dyn.specs.fitting.PartsFit.{IsPartOf}
use Rattle.pg_dyn.specs.encoding.Writing.{bytes_of}
use Rattle.pg_dyn.specs.encoding.Written.{field_lengths, field_written, parts_written, records_by, written_part}
use Rattle.pg_dyn.proofs.lemmas.encoding.EncodeSteps.{field_is, longer, packs, same_parts}
use Rattle.pg_dyn.proofs.lemmas.reading.records.Splitting.{found_number}
use Rattle.pg_dyn.proofs.encoding.unshared.push_content.Goals as goal

module _ {C : Type 0} (parts : ℕ → C → List (Part KeptItem)) (shape : Shape) (type : TypeId) (f : FieldShape) (c : ℕ × C) (found : field_at (fields shape type) c.0 ≡ Some f) where
  -- a content under the number of its field
  held_bytes : field_written shape f (parts f.number c.1) ≡ parts_written shape type c.0 (parts c.0 c.1)
  held_bytes =
      ap (λ n. field_written shape f (parts n c.1)) (found_number (fields shape type) c.0 f found)
      ∙ ap (λ o. bytes_of (records_by o (map (written_part shape) (parts c.0 c.1)))) (sym found)

  held_fits : HoldsParts shape type c.0 (parts c.0 c.1) → AllByRecursion (IsPartOf shape f) (parts f.number c.1)
  held_fits held =
      subst (λ n. AllByRecursion (IsPartOf shape f) (parts n c.1)) (sym (found_number (fields shape type) c.0 f found)) (same_parts shape type f c.0 (parts c.0 c.1) held found)

pub count_content-requires-clause-number : goal.count_content-requires-clause-number
count_content-requires-clause-number g c =
    let is_field = field_is (shape_of c.args.schema.now) c.args.type_id c.requires.is_schema.shape c.args.held.now.0 (field_shape c.in-Some.field.now) (sym c.in-Some.ensures.shape) in
    omega (arith, is_field.number_below)

pub count_content-requires-clause-packed : goal.count_content-requires-clause-packed
count_content-requires-clause-packed g c = packs (shape_of c.args.schema.now) c.args.type_id c.requires.is_schema.shape c.args.held.now.0 (field_shape c.in-Some.field.now) (sym c.in-Some.ensures.shape)

pub count_content-requires-clause-fit : goal.count_content-requires-clause-fit
count_content-requires-clause-fit g c =
    held_fits g.M.Lends.parts (shape_of c.args.schema.now) c.args.type_id (field_shape c.in-Some.field.now) c.args.held.now (sym c.in-Some.ensures.shape) c.requires.holds

pub write_content-requires-clause-packed : goal.write_content-requires-clause-packed
write_content-requires-clause-packed g c = packs (shape_of c.args.schema.now) c.args.type_id c.requires.is_schema.shape c.args.held.now.0 (field_shape c.in-Some.field.now) (sym c.in-Some.ensures.shape)

pub write_content-requires-clause-fit : goal.write_content-requires-clause-fit
write_content-requires-clause-fit g c =
    held_fits g.M.Lends.parts (shape_of c.args.schema.now) c.args.type_id (field_shape c.in-Some.field.now) c.args.held.now (sym c.in-Some.ensures.shape) c.requires.holds

pub returns-then-len-gt-MAX_ENCODING_LEN-clause-err : goal.returns-then-len-gt-MAX_ENCODING_LEN-clause-err
returns-then-len-gt-MAX_ENCODING_LEN-clause-err g c =
    let whole = ap length (held_bytes g.M.Lends.parts (shape_of c.args.schema.now) c.args.type_id (field_shape c.in-Some.field.now) c.args.held.now (sym c.in-Some.ensures.shape)) in
    inr (refl, omega (arith, whole, c.in_ok-len.ensures.len, c.if-len-gt-MAX_ENCODING_LEN.true))

pub returns-clause-ok : goal.returns-clause-ok
returns-clause-ok g c =
    let f = field_shape c.in-Some.field.now in
    let noted = field_lengths (shape_of c.args.schema.now) f (g.M.Lends.parts f.number c.args.held.now.1) in
    let lengths = c.deref.ensures.value ∙ c.in_ok-len.ensures.inner ∙ ap (λ xs. xs ++ noted) c.new-lengths.ensures.items in
    let wrote = c.in_ok-write_content.ensures.ok [] (lengths ∙ sym (append-nil noted)) in
    wrote.0 ∙ ap (λ bs. c.args.out.now.items ++ bs) (held_bytes g.M.Lends.parts (shape_of c.args.schema.now) c.args.type_id f c.args.held.now (sym c.in-Some.ensures.shape))

pub returns-in_err-write_content-clause-err : goal.returns-in_err-write_content-clause-err
returns-in_err-write_content-clause-err g c =
    let f = field_shape c.in-Some.field.now in
    let noted = field_lengths (shape_of c.args.schema.now) f (g.M.Lends.parts f.number c.args.held.now.1) in
    let lengths = c.deref.ensures.value ∙ c.in_ok-len.ensures.inner ∙ ap (λ xs. xs ++ noted) c.new-lengths.ensures.items in
    let whole = ap length (held_bytes g.M.Lends.parts (shape_of c.args.schema.now) c.args.type_id f c.args.held.now (sym c.in-Some.ensures.shape)) in
    let p = err_from_is_err_and c.from_residual-in_err-write_content.result c.from_residual-in_err-write_content.ensures.1 in
    rw (p.1, p.2) (longer _ _ _ (omega (arith, whole)) (c.in_err-write_content.ensures.err [] (lengths ∙ sym (append-nil noted))))
