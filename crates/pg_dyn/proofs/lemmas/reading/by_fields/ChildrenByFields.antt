-- What fields of messages hold, from the bodies of their records.
use Rattle.std.proofs.Common.{drop, ◌≡◌, ◌≢◌, ℕ, zero, suc, ◌+◌, ◌<◌, List, [], ◌∷◌, ◌++◌, map, take, length, true, false, cond, Some, None, is_some, option_map, option_and_then, refl, ap, sym, ◌∙◌, subst, append-nil, rules, arith}
use Rattle.std.specs.Bool.{⊤}
use Rattle.std.specs.List.{AllByRecursion}
use Rattle.std.proofs.lemmas.Bool.{and_parts}
use Rattle.std.proofs.lemmas.List.{map-append}
use Rattle.pg_schema.specs.declared.parts.field.TypeId.{TypeId}
use Rattle.pg_schema.specs.declared.parts.field.Element.TheVariants as elements
use Rattle.pg_schema.specs.Shape.{Shape, FieldShape, fields, is_map, is_repeated}
use Rattle.pg_wire.specs.declared.record.Record.{Record}
use Rattle.pg_wire.specs.Reads.{seen_record}
use Rattle.pg_wire.specs.Records.{IsRecord, WireRecord}
use Rattle.pg_dyn.specs.declared.message_ref.ContentRef.TheVariants as contents
use Rattle.pg_dyn.specs.declared.message_ref.ValueRef.{ValueRef}
use Rattle.pg_dyn.specs.reading.ByFields.{AreGood, AreOf, BodiesGood, HoldsOf, IsChildOf}
use Rattle.pg_dyn.specs.reading.Content.{content, last_item, leaf_bytes, leaves_in, merged, plain_content, takes}
use Rattle.pg_dyn.specs.message_ref.BorrowedItems.{ItemKept}
use Rattle.pg_dyn.specs.reading.Decoding.{dec, is_child, read_item, read_part}
use Rattle.pg_dyn.specs.message.Message.{Bytes, Item, Leaf, Part}
use Rattle.pg_dyn.specs.reading.Optional.{all_some, joined}
use Rattle.pg_dyn.specs.message_ref.Borrowed.{item_seen}
use Rattle.pg_dyn.specs.reading.Steps.{FieldReads, IsShallow, IsShallowIn, item_of, part_of}
use Rattle.pg_dyn.specs.reading.Faults.{TooDeep, TooDeepOf}
use Rattle.pg_dyn.specs.reading.Faults as faults
use Rattle.pg_dyn.proofs.lemmas.reading.by_fields.BodiesByFields.{OneAt, bodies_of, one_at, one_holds}
use Rattle.pg_dyn.proofs.lemmas.reading.by_fields.PlainFields.{content_plain, one_body, readable_child, readable_is}
use Rattle.pg_dyn.proofs.lemmas.reading.records.Joining.{is_some_found}
use Rattle.pg_dyn.proofs.Lists.{all_some-map, each-append, each_weaker, flat_map-map, joined-map_single}
use Rattle.pg_dyn.proofs.lemmas.reading.faults.ShallowRecords.{body_shallow}

-- the parts that are read of the records of a field
abbrev pub HasParts : Shape → FieldShape → List WireRecord → List (Part Item) → Type 0
HasParts shape f rs ps = option_and_then (λ qs. all_some (map (read_part (dec shape) f.element) qs)) (content f rs) ≡ Some ps

-- Of a field of messages that is no map: a record is good exactly where its body is.
module _ (shape : Shape) (f : FieldShape) (t : TypeId) (is_message : f.element ≡ elements.Message t) (no_map : is_map f.presence ≡ false) where
  abbrev BodyGood : ℕ → WireRecord → Type 0
  BodyGood levels r = (is_some (dec shape t r.body) ≡ true) × IsShallowIn shape levels (fields shape t) r.body

  child_good : (levels : ℕ) (r : WireRecord) → (levels ≡ 0 → ⊥) → takes f r ≡ true → BodyGood levels r → FieldReads shape f r × IsShallow shape levels f r
  child_good levels r some taken h = search (rules, is_some_found, readable_child, body_shallow)

  pub some_levels : (levels : ℕ) (r : WireRecord) → IsShallow shape levels f r → levels ≡ 0 → ⊥
  some_levels levels r shallow none = shallow 0 (subst (λ n. TooDeepOf shape n f r 0) (sym none) (faults.the_child f r t no_map is_message))

  good_child : (levels : ℕ) (r : WireRecord) → FieldReads shape f r × IsShallow shape levels f r → BodyGood levels r
  good_child levels r h =
      let plain = sym (readable_is (dec shape) f.number f.presence f.element f.oneof r no_map) ∙ h.0 in
      let child = (and_parts (is_some (leaves_in f r)) (is_child (dec shape) f.element r.body) plain).1 in
      (subst (λ e. is_child (dec shape) e r.body ≡ true) is_message child, below levels h.1)
    where
      below : (l : ℕ) → IsShallow shape l f r → IsShallowIn shape l (fields shape t) r.body
      below zero shallow = absurd (some_levels zero r shallow refl)
      below (suc l) shallow = λ place x. shallow _ (faults.in_child l f r t TooDeep place no_map is_message x)

  pub good_from_bodies : (levels : ℕ) (rs : List WireRecord) → AreOf f rs → BodiesGood shape levels t rs → AreGood shape levels f rs
  good_from_bodies levels [] are good = tt
  good_from_bodies levels (r ∷ rs) are good = (child_good levels r good.0 are.0.1 good.1.0, good_from_bodies levels rs are.1 (good.0, good.1.1))

  pub bodies_from_good : (levels : ℕ) (rs : List WireRecord) → rs ≢ [] → AreGood shape levels f rs → BodiesGood shape levels t rs
  bodies_from_good levels [] some good = absurd (some refl)
  bodies_from_good levels (r ∷ rs) some good =
      (some_levels levels r good.0.1, each_weaker (λ s. FieldReads shape f s × IsShallow shape levels f s) (BodyGood levels) (good_child levels) (r ∷ rs) good)

  -- What the field holds.

  abbrev part : Leaf → Part Leaf
  part leaf = record { number = f.number; key = None; item = leaf }

  abbrev body_leaf : WireRecord → Leaf
  body_leaf r = Bytes r.body

  rows_are : (rs : List WireRecord) → AreOf f rs → all_some (map (leaves_in f) rs) ≡ Some (map (λ r. body_leaf r ∷ []) rs)
  rows_are rs are = search (rules, all_some-map, each_weaker, one_body)

  holds_by_leaves : (rs : List WireRecord) (leaves : List Leaf) (ps : List (Part Item)) → plain_content f rs ≡ Some leaves
      → all_some (map (read_part (dec shape) (elements.Message t)) (map part leaves)) ≡ Some ps
      → HasParts shape f rs ps
  holds_by_leaves rs leaves ps h k = search (rules, content_plain)

-- a message that was read is the item of its bytes
pub child_item : (shape : Shape) (t : TypeId) (rs : List WireRecord) (listed : _) (v : ValueRef) → IsChildOf shape t rs v
    → read_item (dec shape) (elements.Message t) (Bytes (bodies_of rs)) ≡ Some (item_of (item_seen listed v))
child_item shape t rs listed v h = grind arith

-- each record's body is read as the message at its index
abbrev pub AreChildren : Shape → TypeId → List WireRecord → List ValueRef → Type 0
AreChildren shape t [] [] = ⊤
AreChildren shape t [] (v ∷ vs) = ⊥
AreChildren shape t (r ∷ rs) [] = ⊥
AreChildren shape t (r ∷ rs) (v ∷ vs) = IsChildOf shape t (r ∷ []) v × AreChildren shape t rs vs

pub children_more : (shape : Shape) (t : TypeId) (rs : List WireRecord) (vs : List ValueRef) (r : WireRecord) (v : ValueRef) → AreChildren shape t rs vs
    → IsChildOf shape t (r ∷ []) v → AreChildren shape t (rs ++ r ∷ []) (vs ++ v ∷ [])
children_more shape t [] [] r v h k = (k, tt)
children_more shape t [] (w ∷ vs) r v h k = absurd h
children_more shape t (s ∷ rs) [] r v h k = absurd h
children_more shape t (s ∷ rs) (w ∷ vs) r v h k = (h.0, children_more shape t rs vs r v h.1 k)

pub children_filled : (shape : Shape) (t : TypeId) (rs : List WireRecord) (vs : List ValueRef) → rs ≢ [] → AreChildren shape t rs vs → vs ≢ []
children_filled shape t [] vs some h none = some refl
children_filled shape t (r ∷ rs) [] some h none = h
children_filled shape t (r ∷ rs) (v ∷ vs) some h none = let e : ◌≡◌ {A = List ValueRef} (v ∷ vs) [] = none in absurd (cc)

module _ (shape : Shape) (f : FieldShape) (t : TypeId) (is_message : f.element ≡ elements.Message t) (no_map : is_map f.presence ≡ false) where
  child_part : (rs : List WireRecord) (listed : _) (v : ValueRef) → IsChildOf shape t rs v
      → read_part (dec shape) (elements.Message t) (record { number = f.number; key = None; item = Bytes (bodies_of rs) })
      ≡ Some (part_of (record { number = f.number; key = None; item = item_seen listed v }))
  child_part rs listed v h = ap (option_map (λ item. record { number = f.number; key = None; item = item })) (child_item shape t rs listed v h)

  children_parts : (rs : List WireRecord) (vs : List ValueRef) → AreChildren shape t rs vs
      → all_some (map (read_part (dec shape) (elements.Message t))
      (map (λ leaf. record { number = f.number; key = None; item = leaf }) (map (λ (r : WireRecord). Bytes r.body) rs)))
      ≡ Some (map part_of (map (λ value. record { number = f.number; key = None; item = item_seen true value }) vs))
  children_parts [] [] h = refl
  children_parts [] (v ∷ vs) h = absurd h
  children_parts (r ∷ rs) [] h = absurd h
  children_parts (r ∷ rs) (v ∷ vs) h =
      search (rules, append-nil, child_part, children_parts rs vs h.1)

  -- A repeated field holds a message for each record.
  pub children_held : (rs : List WireRecord) (vs : List ValueRef) → is_repeated f.presence ≡ true → AreOf f rs → AreChildren shape t rs vs
      → HasParts shape f rs (map part_of (map (λ value. record { number = f.number; key = None; item = item_seen true value }) vs))
  children_held rs vs repeated are h =
      holds_by_leaves shape f t is_message no_map rs (map (λ (r : WireRecord). Bytes r.body) rs) _
      (ap (option_map (λ rows. cond (is_repeated f.presence) (joined rows) (last_item f.presence f.element (joined rows))))
      (rows_are shape f t is_message no_map rs are)
      ∙ rw repeated (ap (λ xs. Some xs) (joined-map_single (λ (r : WireRecord). Bytes r.body) rs)))
      (children_parts rs vs h)

  pub merged_are : (rs : List WireRecord) → rs ≢ [] → merged (map (λ (r : WireRecord). Bytes r.body) rs) ≡ Bytes (bodies_of rs) ∷ []
  merged_are [] some = absurd (some refl)
  merged_are (r ∷ rs) some = ap (λ bytes. Bytes bytes ∷ []) (flat_map-map leaf_bytes (λ (s : WireRecord). Bytes s.body) (r ∷ rs))

  -- A singular field's records are one body.
  pub merged_content : (rs : List WireRecord) → is_repeated f.presence ≡ false → AreOf f rs
      → plain_content f rs ≡ Some (merged (map (λ (r : WireRecord). Bytes r.body) rs))
  merged_content rs singular are =
      ap (option_map (λ rows. cond (is_repeated f.presence) (joined rows) (last_item f.presence f.element (joined rows))))
      (rows_are shape f t is_message no_map rs are)
      ∙ rw (singular, is_message) (ap (λ xs. Some (merged xs)) (joined-map_single (λ (r : WireRecord). Bytes r.body) rs))

  -- A singular field holds the message of all bodies.
  pub child_held : (rs : List WireRecord) (v : ValueRef) → is_repeated f.presence ≡ false → rs ≢ [] → AreOf f rs → IsChildOf shape t rs v
      → HoldsOf shape f rs (Some (contents.One v))
  child_held rs v singular some are h =
      search (rules, holds_by_leaves, bodies_of, merged_content, merged_are, child_part)

pub seen_some : (run : List Record) → run ≢ [] → map seen_record run ≢ []
seen_some [] some e = some refl
seen_some (r ∷ run) some e = search rules

-- A repeated field, record by record.

-- a message for each record so far
pub record AreRead (shape : Shape) (levels : ℕ) (f : FieldShape) (t : TypeId) (rs : List WireRecord) (vs : List ValueRef) : Type 0 where
  pub read : AreChildren shape t rs vs
  pub fits : AllByRecursion (ItemKept shape (elements.Message t)) vs
  pub good : AreGood shape levels f rs

module _ (shape : Shape) (levels : ℕ) (f : FieldShape) (t : TypeId) (is_message : f.element ≡ elements.Message t) (no_map : is_map f.presence ≡ false)
    (run : List Record) (place n : ℕ) (below : place < length run) (single : n ≡ 1) where
  here : OneAt run place
  here = one_at run place below

  abbrev one : List Record
  one = take n (drop place run)

  -- one record more
  pub read_more : (vs new : List ValueRef) (v : ValueRef) → AreOf f (map seen_record run) → AreRead shape levels f t (map seen_record (take place run)) vs
      → IsChildOf shape t (map seen_record one) v → ItemKept shape (elements.Message t) v
      → BodiesGood shape levels t (map seen_record one) → new ≡ vs ++ v ∷ [] → AreRead shape levels f t (map seen_record (take (place + 1) run)) new
  read_more vs new v are h child fits bodies is =
      let r = seen_record here.one in
      let so_far = map seen_record (take place run) in
      let cut : map seen_record one ≡ r ∷ [] = ap (map seen_record) (here.cut n single) in
      let more : map seen_record (take (place + 1) run) ≡ so_far ++ r ∷ [] =
      ap (map seen_record) here.front ∙ map-append seen_record (take place run) (here.one ∷ []) in
      let good =
      good_from_bodies shape f t is_message no_map levels (r ∷ []) (one_holds (λ q. IsRecord q × (takes f q ≡ true)) run place here are, tt)
      (subst (BodiesGood shape levels t) cut bodies) in
      record {
        read = subst (λ rs. AreChildren shape t rs new) (sym more) (subst (AreChildren shape t (so_far ++ r ∷ [])) (sym is)
            (children_more shape t so_far vs r v h.read (subst (λ rs. IsChildOf shape t rs v) cut child)));
        fits = subst (AllByRecursion (ItemKept shape (elements.Message t))) (sym is)
            (each-append (ItemKept shape (elements.Message t)) vs (v ∷ []) h.fits (fits, tt));
        good = subst (AreGood shape levels f) (sym more) (each-append (λ q. FieldReads shape f q × IsShallow shape levels f q) so_far (r ∷ []) h.good good);
      }

  -- of good records each has a good body
  pub one_of_good : AreGood shape levels f (map seen_record run) → BodiesGood shape levels t (map seen_record one)
  one_of_good good =
      subst (λ rs. BodiesGood shape levels t (map seen_record rs)) (sym (here.cut n single))
      (bodies_from_good shape f t is_message no_map levels (seen_record here.one ∷ []) (seen_some (here.one ∷ []) (not_nil here.one []))
      (one_holds (λ q. FieldReads shape f q × IsShallow shape levels f q) run place here good, tt))
    where
      not_nil : (x : Record) (xs : List Record) → x ∷ xs ≢ []
      not_nil x xs k = cc
