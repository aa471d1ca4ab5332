-- The fields of a type of a schema, and which of them takes a record.
use Rattle.std.proofs.Common.{◌≡◌, ◌≢◌, ℕ, zero, suc, ◌<◌, List, [], ◌∷◌, length, get_or, nat_eq, true, false, not, ◌&&◌, Some, None, ap, sym, ◌∙◌, arith, ⊎_elim, eq-eqb, ne_eqb, rules}
use Rattle.std.specs.List.{AllByRecursion}
use Rattle.std.proofs.lemmas.Bool.{cases_eq}
use Rattle.std.proofs.Math.Bool.{and-false}
use Rattle.pg_schema.specs.declared.parts.field.TypeId.{TypeId}
use Rattle.pg_schema.specs.declared.parts.Parts.{Parts}
use Rattle.pg_schema.specs.Parts.{shape_of}
use Rattle.pg_schema.specs.Invariant.{IsSchema}
use Rattle.pg_schema.specs.Shape.{Shape, FieldShape, fields, field_at}
use Rattle.pg_schema.specs.ShapeRules.{IsField, IsType, Rising}
use Rattle.pg_wire.specs.Records.{WireRecord}
use Rattle.pg_dyn.specs.reading.Content.{is_accepted, takes, is_unknown}
use Rattle.pg_dyn.proofs.Lists.{each_at, each_weaker, list_any_none}
use Rattle.pg_dyn.proofs.lemmas.reading.records.Splitting.{found_first, found_later}

-- What a schema says of the fields of a type.

at_type : (P : List FieldShape → Type 0) (shape : Shape) (i : ℕ) → P [] → AllByRecursion P shape → P (get_or shape i [])
at_type P [] i none h = none
at_type P (fs ∷ shape) zero none h = h.0
at_type P (fs ∷ shape) (suc i) none h = at_type P shape i none h.1

pub is_type : (parts : Parts) → IsSchema parts → (type : TypeId) → IsType (length (shape_of parts)) (fields (shape_of parts) type)
is_type parts h type = at_type (IsType (length (shape_of parts))) (shape_of parts) type.index (record { each = tt; rising = tt }) h.shape.each

pub rising : (parts : Parts) → IsSchema parts → (type : TypeId) → Rising (fields (shape_of parts) type)
rising parts h type = (is_type parts h type).rising

-- a field that is found is one of the schema's
pub is_field_of : (parts : Parts) → IsSchema parts → (type : TypeId) (n : ℕ) (f : FieldShape) → field_at (fields (shape_of parts) type) n ≡ Some f
    → IsField (length (shape_of parts)) f
is_field_of parts h type n f found = each_at (IsField (length (shape_of parts))) (fields (shape_of parts) type) n f found (is_type parts h type).each

pub takes_it : (f : FieldShape) (r : WireRecord) → f.number ≡ r.number → is_accepted f r ≡ true → takes f r ≡ true
takes_it f r same h = rw (eq-eqb r.number f.number (sym same)) h

takes_apart : (f : FieldShape) (r : WireRecord) → f.number ≢ r.number → takes f r ≡ false
takes_apart f r apart = ap (λ b. b && is_accepted f r) (ne_eqb r.number f.number (λ e. apart (sym e)))

none_takes : (fs : List FieldShape) (r : WireRecord) → field_at fs r.number ≡ None → AllByRecursion (λ f. takes f r ≡ false) fs
none_takes [] r h = tt
none_takes (f ∷ fs) r h = search (rules, eq-eqb, takes_apart, none_takes fs r, ne_eqb, cases_eq)

not_accepted : (fs : List FieldShape) (r : WireRecord) (g : FieldShape) → Rising fs → field_at fs r.number ≡ Some g → is_accepted g r ≡ false → AllByRecursion (λ f. takes f r ≡ false) fs
not_accepted [] r g rises found h = tt
not_accepted (f ∷ fs) r g rises found h =
    ⊎_elim (λ same. (
      ap (λ b. nat_eq r.number f.number && b) (ap (λ x. is_accepted x r) (found_first f g fs r.number same found) ∙ h) ∙ and-false (nat_eq r.number f.number),
      each_weaker (λ (x : FieldShape). f.number < x.number) (λ (x : FieldShape). takes x r ≡ false) (λ x above. takes_apart x r (λ e. absurd (omega arith))) fs rises.0,
    ))
    (λ apart. (takes_apart f r apart, not_accepted fs r g rises.1 (found_later f g fs r.number apart found) h))
    (cases_eq f.number r.number)

unknown_from : (fs : List FieldShape) (r : WireRecord) → AllByRecursion (λ f. takes f r ≡ false) fs → is_unknown fs r ≡ true
unknown_from fs r h = ap not (list_any_none (λ f. takes f r) fs h)

pub unknown_where_none : (fs : List FieldShape) (r : WireRecord) → field_at fs r.number ≡ None → is_unknown fs r ≡ true
unknown_where_none fs r h = unknown_from fs r (none_takes fs r h)

pub unknown_where_not_accepted : (fs : List FieldShape) (r : WireRecord) (g : FieldShape) → Rising fs → field_at fs r.number ≡ Some g → is_accepted g r ≡ false → is_unknown fs r ≡ true
unknown_where_not_accepted fs r g rises found h = unknown_from fs r (not_accepted fs r g rises found h)
