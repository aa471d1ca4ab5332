-- What kind of parts a field reads: with keys just in a map, and messages just where it holds messages.
use Rattle.std.proofs.Common.{◌≡◌, ℕ, List, [], ◌∷◌, map, filter, Bool, true, false, not, ◌&&◌, Option, Some, None, is_some, option_map, refl, ap, sym, subst, ◌∙◌, eq-eqb}
use Rattle.std.specs.List.{AllByRecursion}
use Rattle.std.proofs.lemmas.Bool.{and_parts}
use lib.Pointwise.{pointwise}
use Rattle.pg_schema.specs.declared.parts.field.Element.{Element}
use Rattle.pg_schema.specs.declared.parts.field.Element.TheVariants as elements
use Rattle.pg_schema.specs.declared.parts.field.Presence.{Presence}
use Rattle.pg_schema.specs.declared.parts.field.Presence.TheVariants as presences
use Rattle.pg_schema.specs.Shape.{FieldShape, is_map}
use Rattle.pg_wire.specs.Records.{WireRecord}
use Rattle.pg_dyn.specs.reading.Optional.{all_some}
use Rattle.pg_dyn.specs.message.Message.{Leaf, Item, Plain, Msg, Message, Part}
use Rattle.pg_dyn.specs.reading.Content.{by_key, content, entry_in, plain_content, takes}
use Rattle.pg_dyn.specs.reading.Decoding.{Reader, read_item, read_part}
use Rattle.pg_dyn.specs.views.Comparison.{View, Expected, Kept, hides_zero, is_zero_expected, is_zero_item, matches, same_content, same_key, shown}
use Rattle.pg_dyn.specs.laws.ByComparands.{field_read}
use Rattle.pg_dyn.proofs.Lists.{and_then_some, each-map, each_of_all, each_filtered, option_map_some}
use Rattle.pg_dyn.proofs.lemmas.reading.Fields.{field_of}

abbrev pub is_message : Element → Bool
is_message (elements.Message t) = true
is_message (elements.Scalar s) = false
is_message (elements.Enum e) = false

abbrev pub is_msg : Item → Bool
is_msg (Msg m) = true
is_msg (Plain leaf) = false

pub record OfKinds (p : Presence) (e : Element) (q : Part Item) : Type 0 where
  pub keyed : is_some q.key ≡ is_map p
  pub nested : is_msg q.item ≡ is_message e

item_kind : (child : Reader) (e : Element) (leaf : Leaf) (item : Item) → read_item child e leaf ≡ Some item → is_msg item ≡ is_message e
item_kind child (elements.Message t) leaf item h =
    let (m, read, made) = option_map_some Msg (child t _) item h in
    ap is_msg (sym made)
item_kind child (elements.Scalar s) leaf item h = let same : Plain leaf ≡ item = cc in ap is_msg (sym same)
item_kind child (elements.Enum e) leaf item h = let same : Plain leaf ≡ item = cc in ap is_msg (sym same)

part_kind : (child : Reader) (p : Presence) (e : Element) (part : Part Leaf) (q : Part Item) → is_some part.key ≡ is_map p → read_part child e part ≡ Some q → OfKinds p e q
part_kind child p e part q keyed h =
    let (item, read, made) = option_map_some (λ (item : Item). record { number = part.number; key = part.key; item = item }) (read_item child e part.item) q h in
    subst (OfKinds p e) made (record { keyed = keyed; nested = item_kind child e part.item item read })

plain_keys : (n : ℕ) (p : Presence) (e : Element) (o : Option ℕ) (rs : List WireRecord) (ps : List (Part Leaf)) → is_map p ≡ false → option_map (map (λ leaf. record { number = n; key = None; item = leaf })) (plain_content (field_of n p e o) rs) ≡ Some ps → AllByRecursion (λ (q : Part Leaf). is_some q.key ≡ is_map p) ps
plain_keys n p e o rs ps single h =
    let (leaves, read, made) = option_map_some (map (λ (leaf : Leaf). record { number = n; key = None; item = leaf })) (plain_content (field_of n p e o) rs) ps h in
    subst (AllByRecursion (λ (q : Part Leaf). is_some q.key ≡ is_map p)) made
    (each-map (λ (q : Part Leaf). is_some q.key ≡ is_map p) (λ (leaf : Leaf). record { number = n; key = None; item = leaf }) leaves (each_of_all (λ leaf. false ≡ is_map p) (λ leaf. sym single) leaves))

content_keys : (n : ℕ) (p : Presence) (e : Element) (o : Option ℕ) (rs : List WireRecord) (ps : List (Part Leaf)) → content (field_of n p e o) rs ≡ Some ps → AllByRecursion (λ (q : Part Leaf). is_some q.key ≡ is_map p) ps
content_keys n presences.Implicit e o rs ps h = plain_keys n presences.Implicit e o rs ps refl h
content_keys n presences.Explicit e o rs ps h = plain_keys n presences.Explicit e o rs ps refl h
content_keys n (presences.Repeated packed) e o rs ps h = plain_keys n (presences.Repeated packed) e o rs ps refl h
content_keys n (presences.Map key) e o rs ps h =
    let (entries, read, made) = option_map_some (λ es. map (λ (x : Leaf × Leaf). record { number = n; key = Some x.0; item = x.1 }) (by_key es)) (all_some (map (entry_in key e) rs)) ps h in
    subst (AllByRecursion (λ (q : Part Leaf). is_some q.key ≡ true)) made
    (each-map (λ (q : Part Leaf). is_some q.key ≡ true) (λ (x : Leaf × Leaf). record { number = n; key = Some x.0; item = x.1 }) (by_key entries) (each_of_all (λ (x : Leaf × Leaf). true ≡ true) (λ x. refl) (by_key entries)))

parts_kinds : (child : Reader) (p : Presence) (e : Element) (ps : List (Part Leaf)) (qs : List (Part Item)) → AllByRecursion (λ (q : Part Leaf). is_some q.key ≡ is_map p) ps → all_some (map (read_part child e) ps) ≡ Some qs → AllByRecursion (OfKinds p e) qs
parts_kinds child p e [] qs keys h = let same : ◌≡◌ {A = List (Part Item)} [] qs = cc in subst (AllByRecursion (OfKinds p e)) same tt
parts_kinds child p e (x ∷ ps) qs keys h =
    let (y, at, rest) = and_then_some (λ z. option_map (λ zs. z ∷ zs) (all_some (map (read_part child e) ps))) (read_part child e x) qs h in
    let (zs, later, made) = option_map_some (λ zs. y ∷ zs) (all_some (map (read_part child e) ps)) qs rest in
    subst (AllByRecursion (OfKinds p e)) made (part_kind child p e x y keys.0 at, parts_kinds child p e ps zs keys.1 later)

pub kinds_read : (child : Reader) (g : FieldShape) (rs : List WireRecord) (qs : List (Part Item)) → field_read child g rs ≡ Some qs → AllByRecursion (OfKinds g.presence g.element) qs
kinds_read child g rs qs h =
    let (ps, read, made) = and_then_some (λ ps. all_some (map (read_part child g.element) ps)) (content g (filter (takes g) rs)) qs h in
    parts_kinds child g.presence g.element ps qs (content_keys g.number g.presence g.element g.oneof (filter (takes g) rs) ps read) made

-- one child is shown only by a message, with a key just where it has one
matched_kind : (view : View) (f g : FieldShape) (key : Option Leaf) (test : Message → Bool) (q : Part Item) → (same_key key q.key && matches view f g (Kept test) q.item) ≡ true → (is_some key ≡ is_some q.key) × (is_msg q.item ≡ true)
matched_kind view f g key test q h =
    let both = and_parts (same_key key q.key) (matches view f g (Kept test) q.item) h in
    (keys key q.key both.0, item q.item both.1)
  where
    keys : (k l : Option Leaf) → same_key k l ≡ true → is_some k ≡ is_some l
    keys None None e = refl
    keys None (Some l) e = absurd (cc)
    keys (Some k) None e = absurd (cc)
    keys (Some k) (Some l) e = refl

    item : (i : Item) → matches view f g (Kept test) i ≡ true → is_msg i ≡ true
    item (Plain leaf) e = absurd (cc)
    item (Msg m) e = refl

and_false : (b : Bool) → not (b && false) ≡ true
and_false true = refl
and_false false = refl

-- children are shown, whatever is hidden
pub shown_child : (hidden : Bool) (n : ℕ) (key : Option Leaf) (test : Message → Bool) (ps : List (Part Expected)) → shown is_zero_expected hidden n (record { number = n; key = key; item = Kept test } ∷ ps) ≡ record { number = n; key = key; item = Kept test } ∷ shown is_zero_expected hidden n ps
shown_child hidden n key test ps = rw (eq-eqb n n refl, and_false hidden) refl

pub shown_message : (hidden : Bool) (n : ℕ) (key : Option Leaf) (m : Message) (ps : List (Part Item)) → shown is_zero_item hidden n (record { number = n; key = key; item = Msg m } ∷ ps) ≡ record { number = n; key = key; item = Msg m } ∷ shown is_zero_item hidden n ps
shown_message hidden n key m ps = rw (eq-eqb n n refl, and_false hidden) refl

pub child_kinds : (view : View) (f g : FieldShape) (key : Option Leaf) (test : Message → Bool) (qs : List (Part Item)) → AllByRecursion (OfKinds g.presence g.element) qs → same_content view f g (record { number = f.number; key = key; item = Kept test } ∷ []) qs ≡ true → (is_some key ≡ is_map g.presence) × (is_message g.element ≡ true)
child_kinds view f g key test qs kinds h =
    of (shown is_zero_item (hides_zero f g) f.number qs) (each_filtered (OfKinds g.presence g.element) _ qs kinds)
    (subst (λ old. pointwise (λ (p : Part Expected) (q : Part Item). same_key p.key q.key && matches view f g p.item q.item) old (shown is_zero_item (hides_zero f g) f.number qs) ≡ true) (shown_child (hides_zero f g) f.number key test []) h)
  where
    of : (rs : List (Part Item)) → AllByRecursion (OfKinds g.presence g.element) rs
        → pointwise (λ (p : Part Expected) (q : Part Item). same_key p.key q.key && matches view f g p.item q.item) (record { number = f.number; key = key; item = Kept test } ∷ []) rs ≡ true → (is_some key ≡ is_map g.presence) × (is_message g.element ≡ true)
    of [] each k = absurd (cc)
    of (r ∷ rs) each k =
        let first = (and_parts _ _ k).0 in
        let both = matched_kind view f g key test r first in
        (both.0 ∙ each.0.keyed, sym each.0.nested ∙ both.1)
