-- What a test of a message's contents and unknown records says of it.
use Rattle.std.proofs.Common.{◌≡◌, List, [], ◌∷◌, map, Bool, true, false, not, Option, Some, None, refl, ap, sym, ◌∙◌}
use Rattle.std.specs.List.{AllByRecursion}
use Rattle.pg_schema.specs.declared.parts.field.TypeId.{TypeId}
use Rattle.pg_schema.specs.declared.parts.Parts.{Parts}
use Rattle.pg_schema.specs.Parts.{shape_of}
use Rattle.pg_schema.specs.Invariant.{IsSchema}
use Rattle.pg_schema.specs.Shape.{FieldShape, fields, field_at}
use Rattle.pg_wire.specs.Records.{WireRecord, IsRecord}
use Rattle.pg_dyn.specs.declared.message.UnknownRecord.{UnknownRecord}
use Rattle.pg_dyn.specs.reading.Content.{is_accepted, takes, is_unknown}
use Rattle.pg_dyn.specs.message.Seen.{record_seen}
use Rattle.pg_dyn.specs.fitting.Belonging.{IsUnknown}
use Rattle.pg_dyn.proofs.lemmas.reading.records.Splitting.{found_number}
use Rattle.pg_dyn.proofs.lemmas.reading.TypeFields.{rising, takes_it, unknown_where_none, unknown_where_not_accepted}
use Rattle.pg_dyn.proofs.Lists.{list_any_at}

pub none_found : (f : FieldShape) → ◌≡◌ {A = Option FieldShape} None (Some f) → ⊥
none_found f e = cc

pub same_field : (f g : FieldShape) → ◌≡◌ {A = Option FieldShape} (Some f) (Some g) → f ≡ g
same_field f g e = cc

module _ (fs : List FieldShape) where
  -- unknown records, which all are records
  pub all_unknown : (us : List UnknownRecord) → AllByRecursion (λ (u : UnknownRecord). is_unknown fs (record_seen u) ≡ true) us → AllByRecursion IsRecord (map record_seen us) → AllByRecursion (IsUnknown fs) (map record_seen us)
  all_unknown [] each are = tt
  all_unknown (u ∷ us) each are = (record { is_record = are.0; not_accepted = each.0 }, all_unknown us each.1 are.1)

  pub none_accepted : (us : List UnknownRecord) → AllByRecursion (IsUnknown fs) (map record_seen us) → AllByRecursion (λ (u : UnknownRecord). is_unknown fs (record_seen u) ≡ true) us
  none_accepted [] h = tt
  none_accepted (u ∷ us) h = (h.0.not_accepted, none_accepted us h.1)

module _ (parts : Parts) (h : IsSchema parts) (type : TypeId) where
  abbrev gs : List FieldShape
  gs = fields (shape_of parts) type

  -- a record of a field's number is unknown where the field doesn't accept it
  pub unknown_by_field : (r : WireRecord) (f : FieldShape) → Some f ≡ field_at gs r.number → is_unknown gs r ≡ not (is_accepted f r)
  unknown_by_field r f found = of (is_accepted f r) refl
    where
      of : (b : Bool) → is_accepted f r ≡ b → is_unknown gs r ≡ not (is_accepted f r)
      of true e = ap not (list_any_at (λ g. takes g r) gs r.number f (sym found) (takes_it f r (found_number gs r.number f (sym found)) e)) ∙ ap not (sym e)
      of false e = unknown_where_not_accepted gs r f (rising parts h type) (sym found) e ∙ ap not (sym e)

  pub unknown_without_field : (r : WireRecord) → None ≡ field_at gs r.number → is_unknown gs r ≡ true
  unknown_without_field r none = unknown_where_none gs r (sym none)
