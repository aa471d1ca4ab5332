-- Kinds of presences and of elements.
use Rattle.std.proofs.Common.{◌≡◌, ◌⊎◌, ⊎_elim, Bool, true, false, ap, sym, subst, arith}
use Rattle.pg_schema.specs.declared.parts.field.TypeId.{TypeId}
use Rattle.pg_schema.specs.declared.parts.field.EnumId.{EnumId}
use Rattle.pg_schema.specs.declared.parts.field.Scalar.{Scalar}
use Rattle.pg_schema.specs.declared.parts.field.Element.{Element}
use Rattle.pg_schema.specs.declared.parts.field.Element.TheVariants as elements
use Rattle.pg_schema.specs.declared.parts.field.Presence.{Presence}
use Rattle.pg_schema.specs.declared.parts.field.Presence.TheVariants as presences
use Rattle.pg_schema.specs.Shape.{is_map, is_packable, is_repeated}
use Rattle.pg_dyn.specs.word.Coding.{form, scalar_form}
use Rattle.pg_dyn.specs.reading.EntrySteps.{IsMessageOf}
use Rattle.pg_dyn.specs.reading.Held.{read_as}
use Rattle.pg_dyn.specs.reading.ReadingOn.{IsNoMessage}

-- Presences.

pub not_map : (p : Presence) → ((key : Scalar) → p ≡ presences.Map key → ⊥) → is_map p ≡ false
not_map p h = grind arith

pub not_list : (p : Presence) → ((packed : Bool) → p ≡ presences.Repeated packed → ⊥) → is_repeated p ≡ false
not_list p h = grind arith

pub lists_no_map : (p : Presence) → is_repeated p ≡ true → is_map p ≡ false
lists_no_map p h = grind arith

pub map_clash : (p : Presence) (key : Scalar) → p ≡ presences.Map key → is_map p ≡ false → ⊥
map_clash p key k h = let t : is_map p ≡ true = ap is_map k in cc

pub same_key : (a b : Scalar) → ◌≡◌ {A = Presence} (presences.Map a) (presences.Map b) → a ≡ b
same_key a b h = cc

-- Elements.

pub same_type : (a b : TypeId) → ◌≡◌ {A = Element} (elements.Message a) (elements.Message b) → a ≡ b
same_type a b e = cc

pub message_clash : (e : Element) (t : TypeId) → IsNoMessage e → e ≡ elements.Message t → ⊥
message_clash e t scalar is = subst IsNoMessage is scalar

pub no_message : (e : Element) → ((t : TypeId) → e ≡ elements.Message t → ⊥) → IsNoMessage e
no_message e h = grind arith

-- an element that is a scalar or an enum is no message
pub is_no_message : (e : Element) → ((s : Scalar) × (e ≡ elements.Scalar s)) ⊎ ((x : EnumId) × (e ≡ elements.Enum x)) → IsNoMessage e
is_no_message e h = ⊎_elim (λ s. subst IsNoMessage (sym s.1) tt) (λ x. subst IsNoMessage (sym x.1) tt) h

pub no_both : (e : Element) → IsNoMessage e → IsMessageOf e → ⊥
no_both e h k = grind arith

pub packable_no_message : (e : Element) → is_packable e ≡ true → IsNoMessage e
packable_no_message e h = grind arith

pub form_as : (e : Element) → form e ≡ scalar_form (read_as e)
form_as e = grind arith

-- lists of an element that can be packed are those of the scalar as which it is read
pub packable_as : (s : Scalar) (e : Element) → s ≡ read_as e → is_packable e ≡ true → is_packable (elements.Scalar s) ≡ true
packable_as s e is h = grind arith
