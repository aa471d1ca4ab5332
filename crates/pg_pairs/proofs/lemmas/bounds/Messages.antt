-- The comparands of a message: its parts as its writer writes them and as the new type must have them.
use Rattle.std.proofs.Common.{◌≡◌, ℕ, List, [], ◌∷◌, length, map, filter, Bool, true, nat_eq, Option, Some, None, unwrap_or, refl, ap, sym, ◌∙◌, eqb-true, rules}
use Rattle.std.specs.List.{AllByRecursion}
use Rattle.pg_schema.specs.declared.parts.field.TypeId.{TypeId}
use Rattle.std.specs.declared.cmp.Ordering.TheVariants.{Less}
use Rattle.pg_schema.specs.declared.parts.field.Scalar.{Scalar}
use Rattle.pg_schema.specs.declared.parts.field.Element.{Element}
use Rattle.pg_schema.specs.declared.parts.field.Element.TheVariants as elements
use Rattle.pg_schema.specs.declared.parts.field.Presence.{Presence}
use Rattle.pg_schema.specs.declared.parts.field.Presence.TheVariants as presences
use Rattle.pg_schema.specs.Shape.{Shape, FieldShape, fields, field_at}
use Rattle.pg_schema.specs.ShapeRules.{PresenceFits, IsField, IsType, IsShape}
use Rattle.pg_dyn.specs.message.Message.{Leaf, Bytes, Message, ends, holds, nests, is_of, places, key_cmp}
use Rattle.pg_dyn.specs.word.Coding.{form, zero_leaf}
use Rattle.pg_dyn.specs.encoding.Writing.{key_of}
use Rattle.pg_dyn.specs.encoding.Encoding.{encoded_parts}
use Rattle.pg_dyn.specs.fitting.Belonging.{MayBeZero, LeafFits, IsPart, IsMessage, KeyFits, MayFollow}
use Rattle.pg_dyn.specs.views.Comparison.{View, Alike, Kept, Comparand, writes, comparands}
use Rattle.pg_dyn.specs.laws.ByComparands.{comparands_at}
use Rattle.pg_dyn.proofs.Lists.{each_weaker, each-filter, each_at, filter-map}
use Rattle.pg_dyn.specs.laws.OwnParts.{Ordered}
use Rattle.pg_pairs.specs.inner.Contents.{HoldsItem, Holds, RisingKeys, IsInOrder}
use Rattle.pg_dyn.proofs.PublicLaws.{comparands_are_written, fields_are_found, own_parts_fit}

-- Each comparand is one of its field.

leaf_holds : (number : ℕ) (p : Presence) (e : Element) (o : Option ℕ) (c : Comparand) → c.expected ≡ Alike c.written → LeafFits (record { number = number; presence = p; element = e; oneof = o }) c.written → HoldsItem e c × MayBeZero p c.written
leaf_holds number p (elements.Message t) o c so h = absurd h
leaf_holds number p (elements.Scalar s) o c so h = ((h.0, so), h.1)
leaf_holds number p (elements.Enum s) o c so h = ((h.0, so), h.1)

child_holds : (p : Presence) (e : Element) (o : Option ℕ) (t : TypeId) (c : Comparand) (bytes : List ℕ) (test : Message → Bool) → c.written ≡ Bytes bytes → c.expected ≡ Kept test → e ≡ elements.Message t → PresenceFits p e o → HoldsItem e c × MayBeZero p c.written
child_holds p (elements.Scalar s) o t c bytes test w so is fits = absurd (cc)
child_holds p (elements.Enum s) o t c bytes test w so is fits = absurd (cc)
child_holds presences.Implicit (elements.Message s) o t c bytes test w so is fits = absurd fits
child_holds presences.Explicit (elements.Message s) o t c bytes test w so is fits = ((bytes, test, w, so), tt)
child_holds (presences.Repeated packed) (elements.Message s) o t c bytes test w so is fits = ((bytes, test, w, so), tt)
child_holds (presences.Map k) (elements.Message s) o t c bytes test w so is fits = ((bytes, test, w, so), tt)

abbrev pub HoldsAt : List FieldShape → Comparand → Type 0
HoldsAt fs c = (f : FieldShape) → field_at fs c.number ≡ Some f → Holds f c

pub one_found : (fs : List FieldShape) (n : ℕ) (f g : FieldShape) → field_at fs n ≡ Some f → field_at fs n ≡ Some g → f ≡ g
one_found fs n f g h k = let same : ◌≡◌ {A = Option FieldShape} (Some f) (Some g) = sym h ∙ k in cc

module _ (view : View) (old new : Shape) (a b : TypeId) (is_type : IsType (length old) (fields old a)) where
  part_holds : (number : ℕ) (c : Comparand) (later : Message) (part : IsPart (fields old a) number c.key (places later)) → c.number ≡ number → HoldsItem part.field.element c × MayBeZero part.field.presence c.written → HoldsAt (fields old a) c
  part_holds number c later part same item f found = search (rules, one_found, fields_are_found)

  pub each_holds : (v : Message) → IsMessage old a v → AllByRecursion (HoldsAt (fields old a)) (comparands view old new a b v)
  each_holds (ends unknown) h = tt
  each_holds (holds number key leaf later) h =
      (part_holds number _ later h.0 refl (leaf_holds h.0.field.number h.0.field.presence h.0.field.element h.0.field.oneof _ refl h.1), each_holds later h.2)
  each_holds (nests number key child later) h =
      let is_field = each_at (IsField (length old)) (fields old a) number h.0.field h.0.found is_type.each in
      (part_holds number _ later h.0 refl (child_holds h.0.field.presence h.0.field.element h.0.field.oneof h.1 _ _ _ refl refl h.2 is_field.presence_fits), each_holds later h.4)

-- the comparands of one field
pub field_holds : (fs : List FieldShape) (f : FieldShape) (n : ℕ) (cs : List Comparand) → field_at fs n ≡ Some f → AllByRecursion (HoldsAt fs) cs → AllByRecursion (Holds f) (comparands_at n cs)
field_holds fs f n cs found h =
    each_weaker (λ c. HoldsAt fs c × (nat_eq c.number n ≡ true)) (Holds f) (λ c k. k.0 f (ap (field_at fs) (eqb-true c.number n k.1) ∙ found)) (comparands_at n cs)
    (each-filter (HoldsAt fs) (λ c. nat_eq c.number n) cs h)

pub field_written : (view : View) (old new : Shape) (a b : TypeId) (v : Message) (n : ℕ) → filter (is_of n) (encoded_parts old a v) ≡ map writes (comparands_at n (comparands view old new a b v))
field_written view old new a b v n =
    ap (filter (is_of n)) (sym (comparands_are_written view old new a b v)) ∙ filter-map (is_of n) writes (comparands view old new a b v)

-- The comparands of one field are in order.

key_less : (k : Scalar) (key next : Option Leaf) → KeyFits (presences.Map k) key → KeyFits (presences.Map k) next → MayFollow (presences.Map k) key next → key_cmp (unwrap_or key (zero_leaf (form (elements.Scalar k)))) (unwrap_or next (zero_leaf (form (elements.Scalar k)))) ≡ Less
key_less k None next h g less = absurd h
key_less k (Some l) None h g less = absurd g
key_less k (Some l) (Some m) h g less = less

rising_keys : (k : Scalar) (cs : List Comparand) → AllByRecursion (λ c. KeyFits (presences.Map k) c.key) cs → Ordered (presences.Map k) (map writes cs) → RisingKeys k cs
rising_keys k [] h order = tt
rising_keys k (c ∷ cs) h order = (all_less cs h.1 order.0, rising_keys k cs h.1 order.1)
  where
    all_less : (ds : List Comparand) → AllByRecursion (λ d. KeyFits (presences.Map k) d.key) ds → AllByRecursion (λ r. MayFollow (presences.Map k) c.key r.key) (map writes ds) → AllByRecursion (λ d. key_cmp (key_of k (writes c)) (key_of k (writes d)) ≡ Less) ds
    all_less [] fits follow = tt
    all_less (d ∷ ds) fits follow = (key_less k c.key d.key h.0 fits.0 follow.0, all_less ds fits.1 follow.1)

ordered_comparands : (p : Presence) (cs : List Comparand) → AllByRecursion (λ c. KeyFits p c.key) cs → Ordered p (map writes cs) → IsInOrder p cs
ordered_comparands presences.Implicit [] h order = tt
ordered_comparands presences.Implicit (c ∷ []) h order = tt
ordered_comparands presences.Implicit (c ∷ d ∷ cs) h order = order.0.0
ordered_comparands presences.Explicit [] h order = tt
ordered_comparands presences.Explicit (c ∷ []) h order = tt
ordered_comparands presences.Explicit (c ∷ d ∷ cs) h order = order.0.0
ordered_comparands (presences.Repeated packed) cs h order = tt
ordered_comparands (presences.Map k) cs h order = rising_keys k cs h order

pub field_in_order : (view : View) (old new : Shape) (a b : TypeId) (v : Message) (f : FieldShape) → IsShape old → IsMessage old a v → field_at (fields old a) f.number ≡ Some f → AllByRecursion (Holds f) (comparands_at f.number (comparands view old new a b v)) → IsInOrder f.presence (comparands_at f.number (comparands view old new a b v))
field_in_order view old new a b v f is_shape h found each =
    search (rules, ordered_comparands, each_weaker, field_written, own_parts_fit)
