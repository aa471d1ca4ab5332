-- The ways in which a message breaks by itself: what it holds of a field that the new type reads otherwise.
use Rattle.std.specs.Prelude.{◌≡◌, ℕ, ◌<◌, nat_eq, Bool, true, false, not, ◌&&◌, ◌||◌, if◌then◌else◌, Option, Some, ◌⊎◌}
use Rattle.pg_schema.specs.declared.parts.field.Element.TheVariants as elements
use Rattle.pg_schema.specs.declared.parts.field.Scalar.{Scalar}
use Rattle.pg_schema.specs.declared.parts.field.Presence.TheVariants as presences
use Rattle.pg_schema.specs.Shape.{Shape, FieldShape, field_at, fields, is_map, is_repeated, is_singular}
use Rattle.pg_dyn.specs.reading.Content.{same_oneof}
use Rattle.pg_dyn.specs.message.Message.{Leaf, Item, Plain, Msg, Message, only}
use Rattle.pg_dyn.specs.views.Breaking.{Breaks}
use Rattle.pg_dyn.specs.views.Comparison.{View, hides_zero, is_zero_item, numbers}
use Rattle.pg_pairs.specs.declared.choices.case.Case.{Case}
use Rattle.pg_pairs.specs.declared.choices.case.Case.TheVariants as cases
use Rattle.pg_pairs.specs.declared.choices.choice.Pair.{Pair}
use Rattle.pg_pairs.specs.bounds.Covering.{IsAmong, field_children}
use Rattle.pg_pairs.specs.choices.Held.{HoldsField, HasItem}
use Rattle.pg_pairs.specs.gaps.Likeness.{like}
use Rattle.pg_pairs.specs.gaps.TrueGaps.{is_seen}

-- an item that is shown: between two singular fields, of which one is implicit, zero isn't
abbrev pub is_shown : FieldShape → FieldShape → Item → Bool
is_shown f g item = not (hides_zero f g && is_zero_item item)

-- neither field is a map, and their items are of one kind
abbrev pub are_alike : FieldShape → FieldShape → Bool
are_alike f g = not (is_map f.presence) && (not (is_map g.presence) && like f.element g.element)

-- one of the fields is a map and the other isn't, or neither is and their items are of unlike kinds
abbrev pub are_unlike : FieldShape → FieldShape → Bool
are_unlike f g =
    if is_map f.presence then not (is_map g.presence) else is_map g.presence || not (like f.element g.element)

-- both are maps, with these types of keys
pub record AreMaps (f g : FieldShape) : Type 0 where
  pub old_key : Scalar
  pub new_key : Scalar
  pub old_is : f.presence ≡ presences.Map old_key
  pub new_is : g.presence ≡ presences.Map new_key

-- keys and values are of one kind
abbrev pub have_like_entries : {f g : FieldShape} → AreMaps f g → Bool
have_like_entries {f} {g} maps =
    like (elements.Scalar maps.old_key) (elements.Scalar maps.new_key) && like f.element g.element

-- A field of unlike kinds: an item of it that is shown.
pub record HoldsUnlike (f g : FieldShape) (v : Message) : Type 0 where
  pub unlike : are_unlike f g ≡ true
  pub key : Option Leaf
  pub item : Item
  pub held : HasItem f.number key item v
  pub shown : is_shown f g item ≡ true

-- An item that is shown, and that the new type's reader doesn't read as itself.
pub record HoldsMisread (view : View) (f g : FieldShape) (v : Message) : Type 0 where
  pub key : Option Leaf
  pub leaf : Leaf
  pub held : HasItem f.number key (Plain leaf) v
  pub shown : is_shown f g (Plain leaf) ≡ true
  pub misread : is_seen view f.element g.element leaf ≡ false

-- the new type's reader reads the item as itself; a message is read so if it doesn't break by the field's pair
abbrev pub IsReadAsItself : View → Shape → Shape → FieldShape → FieldShape → Item → Type 0
IsReadAsItself view old new f g (Plain leaf) = is_seen view f.element g.element leaf ≡ true
IsReadAsItself view old new f g (Msg child) =
    (p : Pair) → IsAmong p (field_children f g) → Breaks view old new p.old p.new child → ⊥

-- A list where the new type has one item: the list by itself breaks, although each of its items is read as itself.
pub record BreaksAsList (view : View) (old new : Shape) (pair : Pair) (f g : FieldShape) (v : Message) : Type 0 where
  pub alike : are_alike f g ≡ true
  pub list : is_repeated f.presence ≡ true
  pub one : is_singular g.presence ≡ true
  pub each : (key : Option Leaf) (item : Item) → HasItem f.number key item v → IsReadAsItself view old new f g item
  pub breaks : Breaks view old new pair.old pair.new (only f.number v)

-- It breaks so by the view, or by numbers: where an enum's numbers have other names, the list may break of itself all
-- the same.
abbrev pub BreaksInOne : View → Shape → Shape → Pair → FieldShape → FieldShape → Message → Type 0
BreaksInOne view old new pair f g v = BreaksAsList view old new pair f g v ⊎ BreaksAsList numbers old new pair f g v

-- An entry of a map whose keys or values are of unlike kinds.
pub record HoldsUnlikeEntry (f g : FieldShape) (v : Message) : Type 0 where
  pub maps : AreMaps f g
  pub unlike : have_like_entries maps ≡ false
  pub held : HoldsField f.number v

-- An entry with a key that the new type's reader doesn't read as itself.
pub record HoldsMisreadKey (view : View) (f g : FieldShape) (v : Message) : Type 0 where
  pub maps : AreMaps f g
  pub alike : have_like_entries maps ≡ true
  pub key : Leaf
  pub item : Item
  pub held : HasItem f.number (Some key) item v
  pub misread : is_seen view (elements.Scalar maps.old_key) (elements.Scalar maps.new_key) key ≡ false

-- An entry with such a value.
pub record HoldsMisreadValue (view : View) (f g : FieldShape) (v : Message) : Type 0 where
  pub maps : AreMaps f g
  pub alike : have_like_entries maps ≡ true
  pub value : HoldsMisread view f g v

-- An item of a field that is no map.
pub record HoldsMisreadItem (view : View) (f g : FieldShape) (v : Message) : Type 0 where
  pub alike : are_alike f g ≡ true
  pub item : HoldsMisread view f g v

-- Two fields that come into one oneof of the new type.
pub record HoldsBoth (new : Shape) (pair : Pair) (first second : ℕ) (v : Message) : Type 0 where
  pub rise : first < second
  pub first_held : HoldsField first v
  pub second_held : HoldsField second v
  pub first_new : FieldShape
  pub second_new : FieldShape
  pub first_found : field_at (fields new pair.new) first ≡ Some first_new
  pub second_found : field_at (fields new pair.new) second ≡ Some second_new
  pub one_oneof : same_oneof first_new.oneof second_new.oneof ≡ true

-- an entry of two maps, by its part
abbrev pub BreaksAsEntry : (is_key is_value : Bool) → View → FieldShape → FieldShape → Message → Type 0
BreaksAsEntry true is_value view f g v = HoldsMisreadKey view f g v
BreaksAsEntry false true view f g v = HoldsMisreadValue view f g v
BreaksAsEntry false false view f g v = HoldsUnlikeEntry f g v

-- The way of each case, at a field of both types. A message inside is no way of its own. Of fields that meet the part
-- is the second's number.
abbrev pub BreaksBy : View → Shape → Shape → Pair → Case → ℕ → FieldShape → FieldShape → Message → Type 0
BreaksBy view old new pair cases.Unlike part f g v = HoldsUnlike f g v
BreaksBy view old new pair cases.Gap part f g v = HoldsMisreadItem view f g v
BreaksBy view old new pair cases.Child part f g v = ⊥
BreaksBy view old new pair cases.List part f g v = BreaksInOne view old new pair f g v
BreaksBy view old new pair cases.Map part f g v = BreaksAsEntry (nat_eq part 1) (nat_eq part 2) view f g v
BreaksBy view old new pair cases.Oneof part f g v = HoldsBoth new pair f.number part v
