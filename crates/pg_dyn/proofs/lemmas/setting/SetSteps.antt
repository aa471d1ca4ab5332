-- What setting a content does.
use Rattle.std.proofs.Common.{◌≡◌, ℕ, List, map, false, Option, Some, IfSome, ap, sym, subst, ◌∙◌, eq-eqb, ne_eqb, rules, arith}
use Rattle.std.specs.List.{AllByRecursion}
use Rattle.std.proofs.lemmas.Bool.{cases_eq}
use Rattle.std.proofs.Math.Bool.{and-false}
use Rattle.pg_schema.specs.declared.parts.field.TypeId.{TypeId}
use Rattle.pg_schema.specs.declared.parts.Parts.{Parts}
use Rattle.pg_schema.specs.Parts.{shape_of}
use Rattle.pg_schema.specs.Invariant.{IsSchema}
use Rattle.pg_schema.specs.Shape.{Shape, FieldShape, fields, field_at}
use Rattle.pg_dyn.specs.declared.error.DynError.{DynError}
use Rattle.pg_dyn.specs.declared.error.DynError.TheVariants as errors
use Rattle.pg_dyn.specs.declared.message.Content.{Content}
use Rattle.pg_dyn.specs.declared.message.Message.TheInside.{Inside}
use Rattle.pg_dyn.specs.message.Kept.{Kept, type_of}
use Rattle.pg_dyn.specs.message.KeptParts.{KeptItem}
use Rattle.pg_dyn.specs.message.Message.{Part}
use Rattle.pg_dyn.specs.message.Seen.{content_seen, kept_seen, record_seen}
use Rattle.pg_dyn.specs.message.Replacing.{is_sibling_number, with_parts, without_siblings}
use Rattle.pg_dyn.specs.setting.ContentFaults.{ContentFault, IsLowest, MayRefuseFor}
use Rattle.pg_dyn.specs.setting.Setting.{normalized, IsSetTo}
use Rattle.pg_dyn.proofs.lemmas.message.ReplacingLaws.{type_shown}
use Rattle.pg_dyn.proofs.Lists.{each_of_all, list_any_none}
use Rattle.pg_dyn.proofs.lemmas.setting.PutLaws.{no_self_sibling, siblings_after, normalized_number}
use Rattle.pg_dyn.proofs.lemmas.reading.records.Splitting.{found_number}

-- the lowest fault may be reported
pub may_refuse : (F : DynError → Type 0) (e : DynError) → IsLowest F e → MayRefuseFor F e
may_refuse k e h = grind arith

-- memory is never the fault of a content
pub no_memory : (parts : Parts) (type : TypeId) (n : ℕ) (c : Content) (e : DynError) → e ≡ errors.Memory → IsLowest (ContentFault (shape_of parts) type n c) e → ⊥
no_memory parts type n c e is lowest = (subst (ContentFault (shape_of parts) type n c) is lowest.0).2

-- a message is of the type beside its fields
pub own_type : (a : Inside) (m : Kept) → kept_seen a ≡ m → type_of m ≡ a.type_id
own_type a m seen = sym (ap type_of seen) ∙ type_shown a.type_id a.fields.items (map record_seen a.unknown.items)

-- so a field of that type is one of the message's
pub own_field : (shape : Shape) (a : Inside) (m : Kept) → kept_seen a ≡ m → (n : ℕ) (f : FieldShape) → field_at (fields shape a.type_id) n ≡ Some f
    → field_at (fields shape (type_of m)) n ≡ Some f
own_field shape a m seen n f found = ap (λ (t : TypeId). field_at (fields shape t) n) (own_type a m seen) ∙ found

-- a field is found by its own number
pub by_own_number : (fs : List FieldShape) (n : ℕ) (f : FieldShape) → field_at fs n ≡ Some f → field_at fs f.number ≡ Some f
by_own_number fs n f found = ap (field_at fs) (found_number fs n f found) ∙ found

module _ (parts : Parts) (h : IsSchema parts) (n : ℕ) (c : Content) (f : FieldShape) where
  pub set_to : (m put new : Kept) → field_at (fields (shape_of parts) (type_of m)) n ≡ Some f → put ≡ with_parts f.number (normalized f (content_seen f.number c)) m → new ≡ without_siblings (fields (shape_of parts) (type_of m)) f put → IsSetTo (shape_of parts) n c m new
  set_to m put new there is_put is_new =
      search (
        rules,
        found_number,
        by_own_number,
        siblings_after,
        no_self_sibling,
        normalized_number,
      )

-- Which other members are looked for makes no difference after a content of the field is put in, if it made none before.

own_apart : (gs : List FieldShape) (f : FieldShape) → is_sibling_number gs f f.number ≡ false
own_apart gs f = search (rules, list_any_none, each_of_all, eq-eqb, and-false, ne_eqb, cases_eq)

pub members_after : {X : Type 0} (gs : X → List FieldShape) (fs : List FieldShape) (f : FieldShape) (ps : List (Part KeptItem)) (m put : Kept) → put ≡ with_parts f.number ps m → AllByRecursion (λ (p : Part KeptItem). p.number ≡ f.number) ps
    → (o : Option X) → IfSome o (λ x. without_siblings (gs x) f m ≡ without_siblings fs f m) → IfSome o (λ x. without_siblings (gs x) f put ≡ without_siblings fs f put)
members_after gs fs f ps m put is own o h = grind (arith, siblings_after, own_apart)
