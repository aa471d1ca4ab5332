-- A field shows what the definitions say where its items meet.
use Rattle.std.proofs.Common.{◌≡◌, ℕ, Bor, List, [], ◌∷◌, map, filter, Bool, true, false, not, ◌&&◌, Option, Some, None, option_map, IfSome, MatchOption, refl, ap, ap₂, sym, ◌∙◌, subst, true≢false, rules}
use Rattle.std.specs.Bool.{⊤}
use Rattle.std.specs.List.{AllByRecursion}
use Rattle.std.specs.Option.{option_copied}
use lib.Pointwise.{pointwise}
use Rattle.pg_schema.specs.declared.parts.field.TypeId.{TypeId}
use Rattle.pg_schema.specs.declared.parts.field.Element.{Element}
use Rattle.pg_schema.specs.declared.parts.field.Element.TheVariants as elements
use Rattle.pg_schema.specs.declared.parts.field.Presence.{Presence}
use Rattle.pg_schema.specs.declared.parts.field.Presence.TheVariants as presences
use Rattle.pg_schema.specs.declared.parts.Parts.{Parts}
use Rattle.pg_schema.specs.Parts.{shape_of}
use Rattle.pg_schema.specs.Shape.{Shape, FieldShape, fields, field_at, is_repeated, is_singular}
use Rattle.pg_schema.specs.ShapeRules.{IsShape}
use Rattle.pg_dyn.specs.declared.message_ref.ContentRef.{ContentRef}
use Rattle.pg_dyn.specs.declared.message_ref.ContentRef.TheVariants as contents
use Rattle.pg_dyn.specs.declared.message_ref.EntryRef.{EntryRef}
use Rattle.pg_dyn.specs.declared.message_ref.ValueRef.{ValueRef}
use Rattle.pg_dyn.specs.declared.message_ref.ValueRef.TheVariants as values
use Rattle.pg_dyn.specs.message.Message.{Item, Leaf, Part, parts}
use Rattle.pg_dyn.specs.message.Message as model
use Rattle.pg_dyn.specs.message.Kept.{Kept, Manner, type_of, message_of}
use Rattle.pg_dyn.specs.message.KeptParts.{KeptItem, of_number}
use Rattle.pg_dyn.specs.message.Kept as kept
use Rattle.pg_dyn.specs.message.KeptParts as kept_parts
use Rattle.pg_dyn.specs.fitting.Belonging.{KeyFits, LeafFits}
use Rattle.pg_dyn.specs.message_ref.Borrowed.{HasKeys, IsFilled, IsKey, IsMapKey, leaf_of, manner, item_part, entry_part, item_seen, content_seen}
use Rattle.pg_dyn.specs.word.NumberLists.{numbers_in}
use Rattle.pg_dyn.specs.message_ref.BorrowedItems.{ItemFits, is_zero_value}
use Rattle.pg_dyn.specs.fitting.PartsFit.{HoldsItem, HoldsPart, IsElementItem}
use Rattle.pg_dyn.specs.setting.Setting.{is_zero_kept}
use Rattle.pg_dyn.specs.encoding.Encoding.{child_type, element_type}
use Rattle.pg_dyn.specs.fitting.Fits.{Fits}
use Rattle.pg_dyn.specs.views.Comparison.{View, Expected, Alike, is_zero_expected, is_zero_item, hides_zero, shown, same_key, matches, expected, same}
use Rattle.pg_dyn.specs.views.Comparison as comparison
use Rattle.pg_dyn.specs.declared.view_name.ViewName.{ViewName}
use Rattle.pg_dyn.specs.views.ViewNames.{view_named}
use Rattle.pg_pairs.specs.inner.Comparing.{HeldFits, IsKeyIf, Keyed, keyed, keyed_if, keyed_shown, IsSingle, value_expected, item_lent, all_match, is_same_beside}
use Rattle.pg_pairs.proofs.lemmas.witness.SameSteps.{list_if, part_with, seen_keyed, of_number_seen, pointwise-map, copied_fact}

-- ---- contents that fit

-- an item of a field is one of its element

leaf_item : (shape : Shape) (n : ℕ) (p : Presence) (e : Element) (o : Option ℕ) (how : Manner) (leaf : Leaf) → LeafFits (record { number = n; presence = p; element = e; oneof = o }) leaf → IsElementItem shape e (kept_parts.Plain how leaf)
leaf_item shape n p (elements.Scalar s) o how leaf h = h.0
leaf_item shape n p (elements.Enum t) o how leaf h = h.0
leaf_item shape n p (elements.Message t) o how leaf h = absurd h

item_fits : (shape : Shape) (f : FieldShape) (listed : Bool) (v : ValueRef) → HoldsItem shape f (item_seen listed v) → ItemFits shape f.element v
item_fits shape f listed (values.Int n) h = leaf_item shape f.number f.presence f.element f.oneof (manner false (values.Int n)) (leaf_of (values.Int n)) h.2
item_fits shape f listed (values.F32 n) h = leaf_item shape f.number f.presence f.element f.oneof (manner false (values.F32 n)) (leaf_of (values.F32 n)) h.2
item_fits shape f listed (values.F64 n) h = leaf_item shape f.number f.presence f.element f.oneof (manner false (values.F64 n)) (leaf_of (values.F64 n)) h.2
item_fits shape f listed (values.Text n) h = leaf_item shape f.number f.presence f.element f.oneof (manner false (values.Text n)) (leaf_of (values.Text n)) h.2
item_fits shape f listed (values.Bytes n) h = leaf_item shape f.number f.presence f.element f.oneof (manner false (values.Bytes n)) (leaf_of (values.Bytes n)) h.2
item_fits shape f listed (values.Msg child) h = subst (λ (e : Element). IsElementItem shape e (kept_parts.Msg false child.value)) (sym h.2) (h.1, refl)

-- a map's key is no message
map_key_is_key : (v : ValueRef) → IsMapKey v → IsKey v
map_key_is_key (values.Int n) h = tt
map_key_is_key (values.F32 n) h = tt
map_key_is_key (values.F64 n) h = tt
map_key_is_key (values.Text n) h = tt
map_key_is_key (values.Bytes n) h = tt
map_key_is_key (values.Msg child) h = h

-- it is in a list just where the field is repeated
is_listed : (shape : Shape) (f : FieldShape) (listed : Bool) (v : ValueRef) → HoldsItem shape f (item_seen listed v) → is_repeated f.presence ≡ listed
is_listed shape f listed (values.Int n) h = h.0
is_listed shape f listed (values.F32 n) h = h.0
is_listed shape f listed (values.F64 n) h = h.0
is_listed shape f listed (values.Text n) h = h.0
is_listed shape f listed (values.Bytes n) h = h.0
is_listed shape f listed (values.Msg child) h = h.0

-- a singular field has neither lists nor keys
no_list : (p : Presence) → is_singular p ≡ true → is_repeated p ≡ true → ⊥
no_list presences.Implicit is repeated = true≢false (sym repeated)
no_list presences.Explicit is repeated = true≢false (sym repeated)
no_list (presences.Repeated packed) is repeated = true≢false (sym is)
no_list (presences.Map key) is repeated = true≢false (sym is)

no_key : (p : Presence) (k : Leaf) → is_singular p ≡ true → KeyFits p (Some k) → ⊥
no_key presences.Implicit k is h = cc
no_key presences.Explicit k is h = cc
no_key (presences.Repeated packed) k is h = true≢false (sym is)
no_key (presences.Map key) k is h = true≢false (sym is)

module _ (shape : Shape) (type : TypeId) (n : ℕ) (f : FieldShape) (found : field_at (fields shape type) n ≡ Some f) where
  abbrev Fitting : List (Part KeptItem) → Type 0
  Fitting ps = AllByRecursion (HoldsPart shape type) ps

  -- the field that holds a part is that of its number
  its_field : (k : Option Leaf) (item : KeptItem) (h : HoldsPart shape type (record { number = n; key = k; item = item })) → h.field ≡ f
  its_field k item h = search rules

  its_item : (k : Option Leaf) (item : KeptItem) → HoldsPart shape type (record { number = n; key = k; item = item }) → HoldsItem shape f item
  its_item k item h = subst (λ (g : FieldShape). HoldsItem shape g item) (its_field k item h) h.item

  its_key : (k : Option Leaf) (item : KeptItem) → HoldsPart shape type (record { number = n; key = k; item = item }) → KeyFits f.presence k
  its_key k item h = subst (λ (g : FieldShape). KeyFits g.presence k) (its_field k item h) h.key

  value_fits : (k : Option Leaf) (listed : Bool) (v : ValueRef) → HoldsPart shape type (record { number = n; key = k; item = item_seen listed v }) → ItemFits shape f.element v
  value_fits k listed v h = item_fits shape f listed v (its_item k (item_seen listed v) h)

  items_fit : (xs : List ValueRef) → Fitting (map (item_part n true) xs) → AllByRecursion (HeldFits shape f.element) (map {B = Keyed} (λ value. (None, value)) xs)
  items_fit [] k = tt
  items_fit (x ∷ xs) k = ((tt, value_fits None true x k.0), items_fit xs k.1)

  keyed_fits : (c : ContentRef) → HasKeys c → Fitting (content_seen n c) → AllByRecursion (HeldFits shape f.element) (keyed c)
  keyed_fits (contents.One v) keys h = ((tt, value_fits None false v h.0), tt)
  keyed_fits (contents.Many vs) keys h = items_fit vs.items h
  keyed_fits (contents.Numbers ns) keys h = items_fit (numbers_in ns) h
  keyed_fits (contents.Map es) keys h = go es.items keys h
    where
      go : (xs : List EntryRef) → AllByRecursion (λ (e : EntryRef). IsMapKey e.key) xs → Fitting (map (entry_part n) xs) → AllByRecursion (HeldFits shape f.element) (map {B = Keyed} (λ (e : EntryRef). (Some e.key, e.value)) xs)
      go [] ks k = tt
      go (x ∷ xs) ks k = ((map_key_is_key x.key ks.0, value_fits (Some (leaf_of x.key)) false x.value k.0), go xs ks.1 k.1)

  -- a singular field holds no list
  no_items : is_singular f.presence ≡ true → (xs : List ValueRef) → (xs ≡ [] → ⊥) → Fitting (map (item_part n true) xs) → ⊥
  no_items is [] some k = some refl
  no_items is (x ∷ xs) some k = no_list f.presence is (is_listed shape f true x (its_item None (item_seen true x) k.0))

  -- it holds one item
  single_fits : (c : ContentRef) → IsFilled c → Fitting (content_seen n c) → is_singular f.presence ≡ true → IsSingle (Some c)
  single_fits (contents.One v) filled h is = tt
  single_fits (contents.Many vs) filled h is = no_items is vs.items filled h
  single_fits (contents.Numbers ns) filled h is = no_items is (numbers_in ns) filled h
  single_fits (contents.Map es) filled h is = go es.items filled h
    where
      go : (xs : List EntryRef) → (xs ≡ [] → ⊥) → Fitting (map (entry_part n) xs) → ⊥
      go [] some k = some refl
      go (x ∷ xs) some k = no_key f.presence (leaf_of x.key) is (its_key (Some (leaf_of x.key)) (item_seen false x.value) k.0)

-- What a look-up says of what it finds.
abbrev FitsWhereFound : Kept → ℕ → ContentRef → Type 0
FitsWhereFound m n c = (shape : Shape) → IsShape shape → Fits shape m → AllByRecursion (HoldsPart shape (type_of m)) (content_seen n c)

module _ (shape : Shape) (m : Kept) (n : ℕ) (f : FieldShape) (is_shape : IsShape shape) (fits : Fits shape m) (found : field_at (fields shape (type_of m)) n ≡ Some f) where
  pub single_found : (o : Option (Bor ContentRef)) → IfSome o (λ c. IsFilled c.now) → IfSome o (λ c. FitsWhereFound m n c.now) → is_singular f.presence ≡ true → IsSingle (option_copied o)
  single_found None filled h is = tt
  single_found (Some c) filled h is = single_fits shape (type_of m) n f found c.now filled (h shape is_shape fits) is

  -- what is shown of what was found fits
  pub shown_fits : (o s : Option (Bor ContentRef)) (c : Bor ContentRef) → IfSome o (λ c. HasKeys c.now) → IfSome o (λ c. FitsWhereFound m n c.now) → IfSome s (λ c. option_copied o ≡ Some c.now) → s ≡ Some c → AllByRecursion (HeldFits shape f.element) (keyed c.now)
  shown_fits o s c keys h same is = search (rules, copied_fact, keyed_fits)

  keyed_found : (o : Option (Bor ContentRef)) → IfSome o (λ c. HasKeys c.now) → IfSome o (λ c. FitsWhereFound m n c.now) → AllByRecursion (HeldFits shape f.element) (keyed_if (option_copied o))
  keyed_found None keys h = tt
  keyed_found (Some c) keys h = keyed_fits shape (type_of m) n f found c.now keys (h shape is_shape fits)

-- where zeros are hidden, both fields are singular

pub hides_first : (f g : FieldShape) → hides_zero f g ≡ true → is_singular f.presence ≡ true
hides_first f g h = search rules

pub hides_second : (f g : FieldShape) → hides_zero f g ≡ true → is_singular g.presence ≡ true
hides_second f g h = search (rules, true≢false)

pub key_lent : (o : Option (Bor ValueRef)) → IsKeyIf (option_copied o) → IfSome o (λ key. IsKey key.now)
key_lent None h = tt
key_lent (Some key) h = h

-- a message as an item
pub message_fits : (shape : Shape) (e : Element) (v : ValueRef) (m : Kept) → item_seen false v ≡ kept_parts.Msg false m → ItemFits shape e v → Fits shape m
message_fits shape e (values.Int n) m is h = absurd (cc)
message_fits shape e (values.F32 n) m is h = absurd (cc)
message_fits shape e (values.F64 n) m is h = absurd (cc)
message_fits shape e (values.Text n) m is h = absurd (cc)
message_fits shape e (values.Bytes n) m is h = absurd (cc)
message_fits shape (elements.Scalar s) (values.Msg child) m is h = absurd h
message_fits shape (elements.Enum s) (values.Msg child) m is h = absurd h
message_fits shape (elements.Message t) (values.Msg child) m is h = let same : child.value ≡ m = cc in subst (Fits shape) same h.0

-- ---- types of messages inside

abbrev IsOfType : TypeId → ValueRef → Type 0
IsOfType t (values.Msg child) = type_of child.value ≡ t
IsOfType t value = ⊤

item_type : (shape : Shape) (e : Element) (v : ValueRef) → ItemFits shape e v → IsOfType (element_type e) v
item_type shape e (values.Int n) h = tt
item_type shape e (values.F32 n) h = tt
item_type shape e (values.F64 n) h = tt
item_type shape e (values.Text n) h = tt
item_type shape e (values.Bytes n) h = tt
item_type shape (elements.Scalar s) (values.Msg child) h = absurd h
item_type shape (elements.Enum s) (values.Msg child) h = absurd h
item_type shape (elements.Message t) (values.Msg child) h = h.1

-- ---- the parts that are shown, with something in the place of their items

abbrev is_shown_part : Bool → Part KeptItem → Bool
is_shown_part hidden p = not (hidden && is_zero_kept p.item)

abbrev put_in : {B : Type 0} → (ℕ → KeptItem → B) → Part KeptItem → Part B
put_in make p = record { number = p.number; key = p.key; item = make p.number p.item }

abbrev put_held : {B : Type 0} → ℕ → (ValueRef → B) → Keyed → Part B
put_held n make x = record { number = n; key = option_map leaf_of x.0; item = make x.1 }

zero_same : (listed : Bool) (v : ValueRef) → is_zero_kept (item_seen listed v) ≡ is_zero_value v
zero_same listed (values.Int n) = refl
zero_same listed (values.F32 n) = refl
zero_same listed (values.F64 n) = refl
zero_same listed (values.Text n) = refl
zero_same listed (values.Bytes n) = refl
zero_same listed (values.Msg child) = refl

held_as : {B : Type 0} (n : ℕ) (hidden listed : Bool) (make : ℕ → KeptItem → B) (from : ValueRef → B) (xs : List Keyed) → AllByRecursion (λ (x : Keyed). make n (item_seen listed x.1) ≡ from x.1) xs →
    map (put_in make) (filter (is_shown_part hidden) (map (part_with n listed) xs)) ≡ map (put_held n from) (filter (λ (x : Keyed). not (hidden && is_zero_value x.1)) xs)
held_as {B} n hidden listed make from [] h = refl
held_as {B} n hidden listed make from (x ∷ xs) h =
    search (rules, held_as n hidden listed make from xs h.1, part_with, zero_same)

-- ---- the two sides

abbrev item_read : ℕ → KeptItem → Item
item_read n (kept_parts.Plain listed leaf) = model.Plain leaf
item_read n (kept_parts.Msg listed m) = model.Msg (message_of m)

parts_shown : (hidden : Bool) (n : ℕ) (m : Kept) → shown is_zero_item hidden n (parts (message_of m)) ≡ map (put_in item_read) (filter (is_shown_part hidden) (of_number n m))
parts_shown hidden n (kept.ends type unknown) = refl
parts_shown hidden n (kept.holds number key listed leaf later) =
    search (rules, parts_shown hidden n later)
parts_shown hidden n (kept.nests number key listed child later) =
    search (rules, parts_shown hidden n later)

module _ (view : View) (old new : Shape) (a b : TypeId) where
  abbrev item_expected : ℕ → KeptItem → Expected
  item_expected n (kept_parts.Plain listed leaf) = Alike leaf
  item_expected n (kept_parts.Msg listed m) =
      comparison.Kept (same view old new (child_type (fields old a) n) (child_type (fields new b) n) (message_of m))

  expected_shown : (hidden : Bool) (n : ℕ) (m : Kept) → shown is_zero_expected hidden n (expected view old new a b (message_of m)) ≡ map (put_in item_expected) (filter (is_shown_part hidden) (of_number n m))
  unfolding same
  expected_shown hidden n (kept.ends type unknown) = refl
  expected_shown hidden n (kept.holds number key listed leaf later) =
      search (rules, expected_shown hidden n later)
  expected_shown hidden n (kept.nests number key listed child later) =
      search (rules, expected_shown hidden n later)

read_as : (view : ViewName) (old new : Parts) (n : ℕ) (listed : Bool) (xs : List Keyed) → AllByRecursion (λ (x : Keyed). item_read n (item_seen listed x.1) ≡ item_lent x.1) xs
read_as view old new n listed [] = tt
read_as view old new n listed (x ∷ xs) = search (rules, read_as view old new n listed xs)

module _ (view : ViewName) (old new : Parts) (f g : FieldShape) (v w : Kept) where
  expected_as : (listed : Bool) → child_type (fields (shape_of old) (type_of v)) f.number ≡ element_type f.element → child_type (fields (shape_of new) (type_of w)) f.number ≡ element_type g.element → (xs : List Keyed) → AllByRecursion (HeldFits (shape_of old) f.element) xs →
      AllByRecursion (λ (x : Keyed). item_expected (view_named view old new) (shape_of old) (shape_of new) (type_of v) (type_of w) f.number (item_seen listed x.1) ≡ value_expected view old new (element_type g.element) x.1) xs
  expected_as listed of_old of_new [] h = tt
  expected_as listed of_old of_new (x ∷ xs) h =
      search (rules, expected_as listed of_old of_new xs h.1, item_type)

  module _ (is_old : IsShape (shape_of old)) (fits : Fits (shape_of old) v) (found : field_at (fields (shape_of old) (type_of v)) f.number ≡ Some f) (beside : field_at (fields (shape_of new) (type_of w)) f.number ≡ Some g) where
    -- a field shows what it means where the shown items meet
    pub beside_is : (got other shown_got shown_other : Option (Bor ContentRef))
        → MatchOption got (of_number f.number v ≡ []) (λ c. of_number f.number v ≡ content_seen f.number c.now) → MatchOption other (of_number f.number w ≡ []) (λ c. of_number f.number w ≡ content_seen f.number c.now)
        → IfSome got (λ c. HasKeys c.now) → IfSome got (λ c. FitsWhereFound v f.number c.now) → keyed_if (option_copied shown_got) ≡ keyed_shown (hides_zero f g) (option_copied got) → keyed_if (option_copied shown_other) ≡ keyed_shown (hides_zero f g) (option_copied other)
        → all_match view old new f g (keyed_if (option_copied shown_got)) (keyed_if (option_copied shown_other)) ≡ is_same_beside view old new v w f (field_at (fields (shape_of new) (type_of w)) f.number)
    beside_is got other shown_got shown_other seen seen_other keys held is is_other =
        let n = f.number in
        let hidden = hides_zero f g in
        let of_old : child_type (fields (shape_of old) (type_of v)) f.number ≡ element_type f.element = rw found refl in
        let of_new : child_type (fields (shape_of new) (type_of w)) f.number ≡ element_type g.element = rw beside refl in
        let first = expected_shown (view_named view old new) (shape_of old) (shape_of new) (type_of v) (type_of w) (hides_zero f g) f.number v
        ∙ ap (λ ps. map (put_in (item_expected (view_named view old new) (shape_of old) (shape_of new) (type_of v) (type_of w))) (filter (is_shown_part (hides_zero f g)) ps)) (of_number_seen f.number v got seen ∙ seen_keyed f.number (option_copied got))
        ∙ held_as f.number (hides_zero f g) (list_if (option_copied got)) (item_expected (view_named view old new) (shape_of old) (shape_of new) (type_of v) (type_of w)) (value_expected view old new (element_type g.element)) (keyed_if (option_copied got))
        (expected_as (list_if (option_copied got)) of_old of_new (keyed_if (option_copied got)) (keyed_found (shape_of old) v f.number f is_old fits found got keys held))
        ∙ ap (map (put_held f.number (value_expected view old new (element_type g.element)))) (sym is) in
        let second = parts_shown (hides_zero f g) f.number w
        ∙ ap (λ ps. map (put_in item_read) (filter (is_shown_part (hides_zero f g)) ps)) (of_number_seen f.number w other seen_other ∙ seen_keyed f.number (option_copied other))
        ∙ held_as f.number (hides_zero f g) (list_if (option_copied other)) item_read item_lent (keyed_if (option_copied other)) (read_as view old new f.number (list_if (option_copied other)) (keyed_if (option_copied other)))
        ∙ ap (map (put_held f.number item_lent)) (sym is_other) in
        sym (ap (λ o. is_same_beside view old new v w f o) beside
        ∙ ap₂ (pointwise (λ (p : Part Expected) (q : Part Item). same_key p.key q.key && matches (view_named view old new) f g p.item q.item)) first second
        ∙ pointwise-map (λ (p : Part Expected) (q : Part Item). same_key p.key q.key && matches (view_named view old new) f g p.item q.item) (put_held f.number (value_expected view old new (element_type g.element))) (put_held f.number item_lent) (keyed_if (option_copied shown_got)) (keyed_if (option_copied shown_other)))

    pub beside_with : (got other shown_got shown_other x y : Option (Bor ContentRef))
        → MatchOption got (of_number f.number v ≡ []) (λ c. of_number f.number v ≡ content_seen f.number c.now) → MatchOption other (of_number f.number w ≡ []) (λ c. of_number f.number w ≡ content_seen f.number c.now)
        → IfSome got (λ c. HasKeys c.now) → IfSome got (λ c. FitsWhereFound v f.number c.now) → keyed_if (option_copied shown_got) ≡ keyed_shown (hides_zero f g) (option_copied got) → keyed_if (option_copied shown_other) ≡ keyed_shown (hides_zero f g) (option_copied other)
        → shown_got ≡ x → shown_other ≡ y
        → all_match view old new f g (keyed_if (option_copied x)) (keyed_if (option_copied y)) ≡ is_same_beside view old new v w f (field_at (fields (shape_of new) (type_of w)) f.number)
    beside_with got other shown_got shown_other x y seen seen_other keys held is is_other is_x is_y =
        ap₂ (λ s t. all_match view old new f g (keyed_if (option_copied s)) (keyed_if (option_copied t))) (sym is_x) (sym is_y)
        ∙ beside_is got other shown_got shown_other seen seen_other keys held is is_other

-- ---- a content beside none

filled_items : (xs : List ValueRef) → (xs ≡ [] → ⊥) → map {B = Keyed} (λ value. (None, value)) xs ≡ [] → ⊥
filled_items [] k e = k refl
filled_items (x ∷ xs) k e = cc

pub filled_keyed : (c : ContentRef) → IsFilled c → keyed c ≡ [] → ⊥
filled_keyed (contents.One v) h is = cc
filled_keyed (contents.Many vs) h is = filled_items vs.items h is
filled_keyed (contents.Numbers ns) h is = filled_items (numbers_in ns) h is
filled_keyed (contents.Map es) h is = of es.items h is
  where
    of : (xs : List EntryRef) → (xs ≡ [] → ⊥) → map {B = Keyed} (λ (x : EntryRef). (Some x.key, x.value)) xs ≡ [] → ⊥
    of [] k e = k refl
    of (x ∷ xs) k e = cc

pub shown_filled : (o s : Option (Bor ContentRef)) (c : Bor ContentRef) → IfSome o (λ c. IsFilled c.now) → IfSome s (λ c. option_copied o ≡ Some c.now) → s ≡ Some c → keyed c.now ≡ [] → ⊥
shown_filled o s c filled same is = search (rules, filled_keyed, copied_fact)

pub first_alone : (test : Keyed → Keyed → Bool) (xs : List Keyed) → (xs ≡ [] → ⊥) → false ≡ pointwise test xs []
first_alone test [] h = absurd (h refl)
first_alone test (x ∷ xs) h = refl

pub second_alone : (test : Keyed → Keyed → Bool) (xs : List Keyed) → (xs ≡ [] → ⊥) → false ≡ pointwise test [] xs
second_alone test [] h = absurd (h refl)
second_alone test (x ∷ xs) h = refl
