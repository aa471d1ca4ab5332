-- Items of the records of a field that is no map and holds no messages.
use Rattle.std.proofs.Common.{◌≡◌, ℕ, List, [], ◌∷◌, ◌++◌, map, filter, true, false, true≢false, not, cond, Option, Some, None, is_some, option_map, option_and_then, refl, ap, sym, subst, ◌∙◌, rules, arith}
use Rattle.std.specs.List.{AllByRecursion}
use Rattle.std.proofs.lemmas.Bool.{and_parts, true_from_ne_false}
use Rattle.std.proofs.lemmas.List.{map-append}
use Rattle.pg_schema.specs.declared.parts.field.Element.{Element}
use Rattle.pg_schema.specs.declared.parts.field.Element.TheVariants as elements
use Rattle.pg_schema.specs.declared.parts.field.Presence.{Presence}
use Rattle.pg_schema.specs.declared.parts.field.Scalar.{Scalar}
use Rattle.pg_schema.specs.Shape.{FieldShape, Shape, is_implicit, is_map, is_packable, is_repeated}
use Rattle.pg_wire.specs.Records.{IsRecord, WireRecord}
use Rattle.pg_dyn.specs.declared.message_ref.ContentRef.{ContentRef}
use Rattle.pg_dyn.specs.declared.message_ref.ContentRef.TheVariants as contents
use Rattle.pg_dyn.specs.declared.message_ref.ValueRef.{ValueRef}
use Rattle.pg_dyn.specs.reading.ByFields.{AreGood, HoldsOf}
use Rattle.pg_dyn.specs.word.Coding.{form, form_wire, leaf_in, scalar_form, HasShape}
use Rattle.pg_dyn.specs.reading.Content.{last_item, leaves_in, packed_leaves, plain_content, same_wire, takes}
use Rattle.pg_dyn.specs.message_ref.BorrowedItems.{ItemKept}
use Rattle.pg_dyn.specs.reading.Decoding.{dec, read_part}
use Rattle.pg_dyn.specs.reading.Held.{IsHeldList, item_left, read_as}
use Rattle.pg_dyn.specs.reading.ItemRuns.{AllRead, AreItemsOf}
use Rattle.pg_dyn.specs.message.Message.{Item, Leaf, Part, Plain, is_zero}
use Rattle.pg_dyn.specs.reading.Optional.{all_some, joined, last_of}
use Rattle.pg_dyn.specs.reading.ReadingOn.{IsNoMessage}
use Rattle.pg_dyn.specs.message_ref.BorrowedItems.{IsItemKept}
use Rattle.pg_dyn.specs.message_ref.Borrowed.{IsKey, item_seen, leaf_of}
use Rattle.pg_dyn.specs.reading.Steps.{FieldReads, HeldFits, IsShallow, part_of, parts_held}
use Rattle.pg_dyn.proofs.lemmas.reading.FieldKinds.{form_as, lists_no_map}
use Rattle.pg_dyn.proofs.lemmas.reading.records.FieldRecords.{own_leaves, packable_of, reads_scalar, row_leaves, shape_of_body}
use Rattle.pg_dyn.proofs.lemmas.reading.by_fields.PlainFields.{readable_is, content_plain}
use Rattle.pg_dyn.proofs.lemmas.reading.by_fields.EntryByParts.{item_as}
use Rattle.pg_dyn.proofs.lemmas.message_ref.BorrowedItems.{LeafMayBeZero, item_is_key, key_listed, key_seen, zero_of_key}
use Rattle.pg_dyn.proofs.lemmas.reading.by_fields.HeldFields.{list_held, numbers_held, one_held}
use Rattle.pg_dyn.proofs.Lists.{and_then_some, each-append, option_map_some}
use Rattle.pg_dyn.proofs.lemmas.reading.records.ReadsOn.{all_some-append, joined-append, last_of-append}
use Rattle.pg_dyn.proofs.lemmas.reading.faults.ShallowRecords.{scalar_shallow}

-- The items of the records so far.
pub record ItemsSoFar (f : FieldShape) (rs : List WireRecord) (values : List ValueRef) : Type 0 where
  pub rows : List (List Leaf)
  pub read : all_some (map (leaves_in f) rs) ≡ Some rows
  pub joined_is : joined rows ≡ map leaf_of values
  pub items : AllByRecursion (IsItemKept (read_as f.element)) values

pub more_items : (f : FieldShape) (rs : List WireRecord) (r : WireRecord) (old more new : List ValueRef) → ItemsSoFar f rs old
    → leaves_in f r ≡ Some (map leaf_of more) → AllByRecursion (IsItemKept (read_as f.element)) more
    → new ≡ old ++ more → ItemsSoFar f (rs ++ r ∷ []) new
more_items f rs r old more new h read items is = record {
  rows = h.rows ++ map leaf_of more ∷ [];
  read = ap all_some (map-append (leaves_in f) rs (r ∷ [])) ∙ all_some-append (map (leaves_in f) rs) (leaves_in f r) h.rows (map leaf_of more) h.read read;
  joined_is = joined-append h.rows (map leaf_of more) ∙ ap (λ xs. xs ++ map leaf_of more) h.joined_is ∙ sym (map-append leaf_of old more)
      ∙ ap (map leaf_of) (sym is);
  items = subst (AllByRecursion (IsItemKept (read_as f.element))) (sym is) (each-append (IsItemKept (read_as f.element)) old more h.items items);
}

-- The last item so far.

abbrev held_list : Option ValueRef → List ValueRef
held_list None = []
held_list (Some v) = v ∷ []

pub record LastSoFar (f : FieldShape) (rs : List WireRecord) (held : Option ValueRef) : Type 0 where
  pub values : List ValueRef
  pub so_far : ItemsSoFar f rs values
  pub last_is : last_of values ≡ held_list held
  pub none : held ≡ None → rs ≡ []

pub new_last : (f : FieldShape) (rs : List WireRecord) (r : WireRecord) (held : Option ValueRef) (v : ValueRef) → LastSoFar f rs held
    → leaves_in f r ≡ Some (leaf_of v ∷ []) → IsItemKept (read_as f.element) v → LastSoFar f (rs ++ r ∷ []) (Some v)
new_last f rs r held v h read item = record {
  values = h.values ++ v ∷ [];
  so_far = more_items f rs r h.values (v ∷ []) (h.values ++ v ∷ []) h.so_far read (item, tt) refl;
  last_is = last_of-append h.values v;
  none = λ e. absurd (cc);
}

-- Each record.

module _ (f : FieldShape) (r : WireRecord) where
  pub own_item : (leaf : Leaf) → same_wire r.wire (form_wire (form f.element)) ≡ true → leaf_in (scalar_form (read_as f.element)) r.body ≡ Some leaf
      → leaves_in f r ≡ Some (leaf ∷ [])
  own_item leaf own read = own_leaves f r leaf own (ap (λ x. leaf_in x r.body) (form_as f.element) ∙ read)

  pub own_shape : (s : Scalar) → s ≡ read_as f.element → IsRecord r → same_wire r.wire (form_wire (form f.element)) ≡ true
      → HasShape (form_wire (scalar_form s)) r.body
  own_shape s is is_record own = search (rules, form_as, shape_of_body)

  -- a record of an element that can't be packed is of its wire type
  pub own_of_single : takes f r ≡ true → is_map f.presence ≡ false → is_packable f.element ≡ false → same_wire r.wire (form_wire (form f.element)) ≡ true
  own_of_single taken no_map single = true_from_ne_false (same_wire r.wire (form_wire (form f.element))) (λ other. true≢false (sym (packable_of f r taken no_map other) ∙ single))

  pub row_items : same_wire r.wire (form_wire (form f.element)) ≡ false → leaves_in f r ≡ packed_leaves (scalar_form (read_as f.element)) r.body
  row_items other = row_leaves f r other ∙ ap (λ x. packed_leaves x r.body) (form_as f.element)

  pub item_there : same_wire r.wire (form_wire (form f.element)) ≡ true → is_some (leaves_in f r) ≡ true
      → is_some (leaf_in (scalar_form (read_as f.element)) r.body) ≡ true
  item_there own some = search (rules, true≢false, form_as)

  pub row_there : same_wire r.wire (form_wire (form f.element)) ≡ false → is_some (leaves_in f r) ≡ true
      → is_some (packed_leaves (scalar_form (read_as f.element)) r.body) ≡ true
  row_there other some = ap is_some (sym (row_items other)) ∙ some

-- Good records.

each_read : {A B : Type 0} (g : A → Option B) (xs : List A) (ys : List B) → all_some (map g xs) ≡ Some ys → AllByRecursion (λ x. (y : B) × (g x ≡ Some y)) xs
each_read g [] ys h = tt
each_read {A} {B} g (x ∷ xs) ys h = search (rules, and_then_some, option_map_some, each_read g xs)

module _ (f : FieldShape) (no_map : is_map f.presence ≡ false) (scalar : IsNoMessage f.element) where
  pub all_good : (shape : Shape) (levels : ℕ) (rs : List WireRecord) (rows : List (List Leaf)) → all_some (map (leaves_in f) rs) ≡ Some rows
      → AreGood shape levels f rs
  all_good shape levels rs rows h = go rs (each_read (leaves_in f) rs rows h)
    where
      go : (xs : List WireRecord) → AllByRecursion (λ x. (ls : List Leaf) × (leaves_in f x ≡ Some ls)) xs → AreGood shape levels f xs
      go [] k = tt
      go (x ∷ xs) k = (
        (reads_scalar shape f x k.0.0 no_map scalar k.0.1, scalar_shallow shape levels f.element x scalar f no_map refl),
        go xs k.1,
      )

  pub items_good : (shape : Shape) (levels : ℕ) (rs : List WireRecord) (vs : List ValueRef) → AreItemsOf f rs vs → AreGood shape levels f rs
  items_good shape levels rs vs h = search (rules, option_map_some, all_good)

  pub good_read : (shape : Shape) (levels : ℕ) (r : WireRecord) → FieldReads shape f r × IsShallow shape levels f r → is_some (leaves_in f r) ≡ true
  good_read shape levels r h = search (rules, and_parts, readable_is)

  pub all_read : (shape : Shape) (levels : ℕ) (rs : List WireRecord) → AreGood shape levels f rs → AllRead f rs
  all_read shape levels [] h = tt
  all_read shape levels (r ∷ rs) h = (good_read shape levels r h.0, all_read shape levels rs h.1)

-- What the field holds.

abbrev leaf_parts : ℕ → List Leaf → List (Part Item)
leaf_parts n ls = map (λ leaf. record { number = n; key = None; item = Plain leaf }) ls

parts_read : (shape : Shape) (n : ℕ) (e : Element) (ls : List Leaf) → IsNoMessage e
    → all_some (map (read_part (dec shape) e) (map (λ leaf. record { number = n; key = None; item = leaf }) ls)) ≡ Some (leaf_parts n ls)
parts_read shape n (elements.Message t) ls scalar = absurd scalar
parts_read shape n (elements.Scalar s) [] scalar = refl
parts_read shape n (elements.Scalar s) (l ∷ ls) scalar = rw (parts_read shape n (elements.Scalar s) ls scalar)
parts_read shape n (elements.Enum x) [] scalar = refl
parts_read shape n (elements.Enum x) (l ∷ ls) scalar = rw (parts_read shape n (elements.Enum x) ls scalar)

plain_holds : (shape : Shape) (f : FieldShape) (rs : List WireRecord) (ls : List Leaf) (held : Option ContentRef) → is_map f.presence ≡ false
    → IsNoMessage f.element → plain_content f rs ≡ Some ls
    → leaf_parts f.number ls ≡ map part_of (parts_held f.number held) → HoldsOf shape f rs held
plain_holds shape f rs ls held no_map scalar read is =
    ap (option_and_then (λ ps. all_some (map (read_part (dec shape) f.element) ps)))
    (content_plain f.number f.presence f.element f.oneof rs no_map ∙ ap (option_map (map (λ leaf. record { number = f.number; key = None; item = leaf }))) read)
    ∙ parts_read shape f.number f.element ls scalar ∙ ap (λ ps. Some ps) is

-- A list.

list_parts : (n : ℕ) (e : Element) (vs : List ValueRef) → AllByRecursion (IsItemKept (read_as e)) vs
    → leaf_parts n (map leaf_of vs) ≡ map part_of (map (λ value. record { number = n; key = None; item = item_seen true value }) vs)
list_parts n e [] h = refl
list_parts n e (v ∷ vs) h = search (rules, key_listed, item_is_key, list_parts n e vs h.1)

module _ (shape : Shape) (f : FieldShape) (repeated : is_repeated f.presence ≡ true) (scalar : IsNoMessage f.element) (rs : List WireRecord)
    (vs : List ValueRef) (held : Option ContentRef) (h : AreItemsOf f rs vs) (is : IsHeldList vs held) where
  rows_content : (o : Option (List (List Leaf))) → option_map joined o ≡ Some (map leaf_of vs)
      → option_map (λ rows. cond (is_repeated f.presence) (joined rows) (last_item f.presence f.element (joined rows))) o ≡ Some (map leaf_of vs)
  rows_content None e = absurd (cc)
  rows_content (Some rows) e = rw repeated e

  held_parts : (ws : List ValueRef) (o : Option ContentRef) → AllByRecursion (IsItemKept (read_as f.element)) ws → IsHeldList ws o
      → leaf_parts f.number (map leaf_of ws) ≡ map part_of (parts_held f.number o)
  held_parts ws o items k = grind (arith, list_parts)

  pub list_holds : HoldsOf shape f rs held
  list_holds = search (rules, plain_holds, lists_no_map, rows_content, held_parts)

  each_fits : (ws : List ValueRef) → AllByRecursion (IsItemKept (read_as f.element)) ws → AllByRecursion (ItemKept shape f.element) ws
  each_fits [] k = tt
  each_fits (w ∷ ws) k = (item_as shape f.element w scalar k.0, each_fits ws k.1)

  some_none : (x : ValueRef) (xs : List ValueRef) → ◌≡◌ {A = List ValueRef} (x ∷ xs) [] → ⊥
  some_none x xs e = cc

  fits_held : (ws : List ValueRef) (o : Option ContentRef) → AllByRecursion (ItemKept shape f.element) ws → IsHeldList ws o → HeldFits shape f o
  fits_held ws None each k = tt
  fits_held [] (Some c) each k = absurd k
  fits_held (w ∷ ws) (Some (contents.One v)) each k = absurd k
  fits_held (w ∷ ws) (Some (contents.Map es)) each k = absurd k
  fits_held (w ∷ ws) (Some (contents.Many us)) each k =
      list_held shape f us repeated (subst (AllByRecursion (ItemKept shape f.element)) (sym k) each) (λ none. some_none w ws (sym k ∙ none))
  fits_held (w ∷ ws) (Some (contents.Numbers ns)) each k =
      numbers_held shape f ns repeated (subst (AllByRecursion (ItemKept shape f.element)) (sym k) each) (λ none. some_none w ws (sym k ∙ none))

  pub list_fits : HeldFits shape f held
  list_fits = fits_held vs held (each_fits vs h.1) is

-- The last item.

map_last : (vs : List ValueRef) → last_of (map leaf_of vs) ≡ map leaf_of (last_of vs)
map_last [] = refl
map_last (v ∷ []) = refl
map_last (v ∷ w ∷ vs) = map_last (w ∷ vs)

each_last : (P : ValueRef → Type 0) (vs : List ValueRef) → AllByRecursion P vs → AllByRecursion P (last_of vs)
each_last P [] h = tt
each_last P (v ∷ []) h = h
each_last P (v ∷ w ∷ vs) h = each_last P (w ∷ vs) h.1

abbrev last_left : Presence → List Leaf → List Leaf
last_left p ls = cond (is_implicit p) (filter (λ leaf. not (is_zero leaf)) (last_of ls)) (last_of ls)

last_item_is : (p : Presence) (e : Element) (ls : List Leaf) → IsNoMessage e → last_item p e ls ≡ last_left p ls
last_item_is p e ls scalar = grind arith

-- what is left of an item
left_parts : (n : ℕ) (p : Presence) (v : ValueRef) → IsKey v
    → leaf_parts n (cond (is_implicit p) (filter (λ leaf. not (is_zero leaf)) (leaf_of v ∷ [])) (leaf_of v ∷ [])) ≡ map part_of (parts_held n (item_left p v))
left_parts n p v key = search (rules, key_seen, zero_of_key)

not_implicit : (p : Presence) (v : ValueRef) → IsKey v → is_implicit p ≡ false → LeafMayBeZero p (item_seen false v)
not_implicit p v key h = grind (arith, key_seen)

not_zero : (p : Presence) (v : ValueRef) → IsKey v → is_zero (leaf_of v) ≡ false → LeafMayBeZero p (item_seen false v)
not_zero p v key h = grind (arith, key_seen)

module _ (shape : Shape) (f : FieldShape) (singular : is_repeated f.presence ≡ false) (no_map : is_map f.presence ≡ false) (scalar : IsNoMessage f.element)
    (rs : List WireRecord) (v : ValueRef) (h : LastSoFar f rs (Some v)) where
  item : IsItemKept (read_as f.element) v
  item = let k = subst (AllByRecursion (IsItemKept (read_as f.element))) h.last_is (each_last (IsItemKept (read_as f.element)) h.values h.so_far.items) in k.0

  pub last_holds : HoldsOf shape f rs (item_left f.presence v)
  last_holds = search (rules, map_last, plain_holds, last_item_is, left_parts, item_is_key, item)

  pub last_fits : HeldFits shape f (item_left f.presence v)
  last_fits =
      search (rules, item_as, item, item_is_key, one_held, not_implicit, not_zero, zero_of_key)
