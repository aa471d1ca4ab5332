-- A record that a field accepts goes to the known ones, and any other to the unknown ones.
use Rattle.std.proofs.Common.{◌≡◌, length, not, true, Some, arith, refl, ap, sym, ◌∙◌}
use Rattle.pg_schema.specs.Parts.{field_shape, shape_of}
use Rattle.pg_schema.specs.Shape.{fields, field_at}
use Rattle.pg_wire.specs.Reads.{seen_record}
use Rattle.pg_dyn.specs.reading.Content.{is_unknown, takes}
use Rattle.pg_dyn.specs.reading.Gathering.{known_of}
use Rattle.pg_dyn.proofs.lemmas.reading.TypeFields.{rising, takes_it}
use Rattle.pg_dyn.proofs.lemmas.fitting.FitsChecks.{unknown_by_field, unknown_without_field}
use Rattle.pg_dyn.proofs.lemmas.reading.gathered.GatheringSteps.{known_added, known_length, unknown_added}
use Rattle.pg_dyn.proofs.Lists.{list_any_at}
use Rattle.pg_dyn.proofs.lemmas.reading.records.Splitting.{found_number}
use Rattle.pg_dyn.proofs.reading.gathering.Gathered.add.Goals.{in_default-via-in-Some+else-accepts, in_default-via-in_default}
use Rattle.pg_dyn.proofs.reading.gathering.Gathered.add.Goals as goal

pub returns-in_ok-push-in-Some-clause-ok : goal.returns-in_ok-push-in-Some-clause-ok
returns-in_ok-push-in-Some-clause-ok c =
    λ rs h.
    let shape = shape_of c.args.schema.now in
    let fs = fields shape c.args.type_id in
    let f = field_shape c.in-Some.field.now in
    let r = seen_record c.args.found in
    let found : field_at fs r.number ≡ _ = sym c.in-Some.ensures.shape in
    let number = found_number fs r.number f found in
    let taken = takes_it f r number (sym c.accepts.ensures ∙ c.if-accepts.true) in
    let known = list_any_at (λ g. takes g r) fs r.number f found taken in
    let found_f : field_at fs f.number ≡ Some f = ap (field_at fs) number ∙ found in
    let place : length (known_of fs rs) ≡ c.len.result =
    omega (arith, known_length shape c.args.type_id rs c.args.self.now h, c.args.self.now.known.ok.0, c.len.ensures) in
    known_added shape c.args.type_id rs c.args.self.now _ h c.args.found c.requires.is_record (ap not known) c.in_ok-push-in-Some.ensures.items refl
    (c.in_ok-note-in-Some.ensures.ok fs (known_of fs rs) r (rising c.args.schema.now c.requires.is_schema c.args.type_id) found_f taken place h.oneof_runs)

pub returns-in_ok-push-in_default-clause-ok : goal.returns-in_ok-push-in_default-clause-ok
returns-in_ok-push-in_default-clause-ok c =
    λ rs h.
    let shape = shape_of c.args.schema.now in
    let fs = fields shape c.args.type_id in
    let r = seen_record c.args.found in
    let unknown : is_unknown fs r ≡ true =
    elim c.in_default.branch as (λ b. is_unknown fs r ≡ true) [
      | in_default-via-in-Some+else-accepts w ↦
          unknown_by_field c.args.schema.now c.requires.is_schema c.args.type_id r (field_shape w.in-Some.field.now) w.in-Some.ensures.shape
          ∙ ap not (sym w.accepts.ensures ∙ w.if-accepts.false)
      | in_default-via-in_default w ↦ unknown_without_field c.args.schema.now c.requires.is_schema c.args.type_id r w.in_default.ensures.shape
    ] in
    unknown_added shape c.args.type_id rs c.args.self.now _ h c.args.found c.requires.is_record unknown c.in_ok-push-in_default.ensures.items refl refl
