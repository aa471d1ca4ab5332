-- An entry of a map is good exactly where the records of its key and of its value are, and what they say is what it holds.
use Rattle.std.proofs.Common.{Result, ◌<◌, get_or, length, take, ◌≡◌, ◌≢◌, ℕ, suc, ◌+◌, List, [], ◌∷◌, ◌++◌, map, filter, Bool, true, false, not, ◌||◌, cond, Option, Some, None, is_some, option_map, option_and_then, Ok, refl, ap, sym, ◌∙◌, subst, rules}
use Rattle.std.specs.List.{AllByRecursion, list_all}
use Rattle.std.proofs.lemmas.Bool.{and_from, eqb-true}
use Rattle.std.proofs.lemmas.List.{map_more}
use Rattle.pg_schema.specs.declared.parts.field.TypeId.{TypeId}
use Rattle.pg_schema.specs.declared.parts.field.Scalar.{Scalar}
use Rattle.pg_schema.specs.declared.parts.field.Element.{Element}
use Rattle.pg_schema.specs.declared.parts.field.Element.TheVariants as elements
use Rattle.pg_schema.specs.declared.parts.field.Presence.{Presence}
use Rattle.pg_schema.specs.declared.parts.field.Presence.TheVariants as presences
use Rattle.pg_schema.specs.Shape.{Shape, FieldShape, field_at}
use Rattle.pg_schema.specs.ShapeRules.{PresenceFits}
use Rattle.pg_schema.specs.rules.Fields.{is_key}
use Rattle.pg_wire.specs.declared.record.Record.{Record}
use Rattle.pg_wire.specs.Reading.{Fault}
use Rattle.pg_wire.specs.Reads.{seen_record}
use Rattle.pg_wire.specs.Records.{IsRecord, Spells, WireRecord, records_of}
use Rattle.pg_wire.proofs.RecordLaws.{Spells_from_records_of}
use Rattle.pg_dyn.specs.declared.message_ref.EntryRef.{EntryRef}
use Rattle.pg_dyn.specs.declared.message_ref.ValueRef.{ValueRef}
use Rattle.pg_dyn.specs.declared.reading.parts.Parts.{Parts}
use Rattle.pg_dyn.specs.reading.ByFields.{AreGood, AreOf, BodiesGood, IsChildOf, IsEntryRead}
use Rattle.pg_dyn.specs.word.Coding.{form, zero_leaf}
use Rattle.pg_dyn.specs.reading.Content.{entry_part, key_field, merged, option_from, takes, value_field, entry_fields}
use Rattle.pg_dyn.specs.message_ref.BorrowedItems.{ItemKept}
use Rattle.pg_dyn.specs.reading.Decoding.{all_plain_readable, dec, entry_records, is_plain_readable, is_readable}
use Rattle.pg_dyn.specs.reading.EntryParts.{AreParts, AreReadable, ScalarsGood}
use Rattle.pg_dyn.specs.reading.EntrySteps.{IsMessageOf, IsReadFrom, PartFits, PartRead, WholeItem}
use Rattle.pg_dyn.specs.message.Message.{Bytes, Item, Leaf, Plain}
use Rattle.pg_dyn.specs.reading.Optional.{first_or}
use Rattle.pg_dyn.specs.reading.ReadingOn.{IsNoMessage}
use Rattle.pg_dyn.specs.message_ref.BorrowedItems.{IsItemKept}
use Rattle.pg_dyn.specs.reading.Steps.{FieldReads, IsShallow, IsShallowIn, IsShallowRecord, Taken}
use Rattle.pg_dyn.specs.reading.Faults.{TooDeep, TooDeepOf}
use Rattle.pg_dyn.specs.reading.Faults as faults
use Rattle.pg_dyn.proofs.lemmas.reading.by_fields.BodiesByFields.{bodies_of, records_shallow, seen_at, shallow_from_records}
use Rattle.pg_dyn.proofs.lemmas.reading.by_fields.ChildrenByFields as children
use Rattle.pg_dyn.proofs.lemmas.reading.by_fields.PlainFields.{no_child}
use Rattle.pg_dyn.proofs.lemmas.reading.faults.Faulty.{entry_records_of}
use Rattle.pg_dyn.proofs.lemmas.reading.FieldKinds.{message_clash}
use Rattle.pg_dyn.proofs.lemmas.message_ref.BorrowedItems.{item_is_key, key_seen}
use Rattle.pg_dyn.proofs.lemmas.reading.gathered.GoodRecords.{IsGood, good_of_field}
use Rattle.pg_dyn.proofs.lemmas.reading.records.Splitting.{takes_number}
use Rattle.pg_dyn.proofs.lemmas.reading.by_fields.MapsByFields.{AreEntriesRead, one_entry_more}
use Rattle.pg_dyn.proofs.Lists.{each-append, each-filter, each_at, each_both, each_passing, each_weaker, list_all_each, list_all_true, each_passed}
use Rattle.pg_dyn.proofs.lemmas.reading.faults.ShallowRecords.{entry_shallow, scalar_shallow}

implies : (a b : Bool) → (a ≡ true → b ≡ true) → (not a || b) ≡ true
implies true b h = h refl
implies false b h = refl

-- the records of the field among these
abbrev pub own : FieldShape → List WireRecord → List WireRecord
own g rs = filter (takes g) rs

pub are_of : (g : FieldShape) (rs : List WireRecord) → AllByRecursion IsRecord rs → AreOf g (own g rs)
are_of g rs h = each-filter IsRecord (takes g) rs h

-- Which records of an entry are good.

abbrev explicit : ℕ → Element → FieldShape
explicit n e = record { number = n; presence = presences.Explicit; element = e; oneof = None }

module _ (shape : Shape) (levels : ℕ) (key : Scalar) (e : Element) where
  abbrev both_fields : List FieldShape
  both_fields = key_field key ∷ value_field e ∷ []

  -- a record that is good for the key and for the value
  abbrev GoodFor : FieldShape → WireRecord → Type 0
  GoodFor g s = FieldReads shape g s × IsShallow shape levels g s

  one_readable : (s : WireRecord) → (takes (key_field key) s ≡ true → GoodFor (key_field key) s) → (takes (value_field e) s ≡ true → GoodFor (value_field e) s)
      → list_all (λ g. not (takes g s) || is_plain_readable (dec shape) g s) both_fields ≡ true
  one_readable s k v =
      and_from (not (takes (key_field key) s) || is_plain_readable (dec shape) (key_field key) s) _ (implies (takes (key_field key) s) _ (λ taken. (k taken).0))
      (and_from (not (takes (value_field e) s) || is_plain_readable (dec shape) (value_field e) s) true
      (implies (takes (value_field e) s) _ (λ taken. (v taken).0)) refl)

  one_shallow : (s : WireRecord) → (takes (key_field key) s ≡ true → GoodFor (key_field key) s)
      → (takes (value_field e) s ≡ true → GoodFor (value_field e) s) → IsShallowRecord shape levels both_fields s
  one_shallow s k v g h =
      each_at (λ x. takes x s ≡ true → IsShallow shape levels x s) both_fields s.number g h.found (λ taken. (k taken).1, (λ taken. (v taken).1, tt)) h.taken

  abbrev IsTested : WireRecord → Type 0
  IsTested s = IsGood shape levels both_fields s

  all_tested : (rs : List WireRecord) → AreGood shape levels (key_field key) (own (key_field key) rs)
      → AreGood shape levels (value_field e) (own (value_field e) rs) → AllByRecursion IsTested rs
  all_tested rs k v =
      each_weaker (λ s. (takes (key_field key) s ≡ true → GoodFor (key_field key) s)
      × (takes (value_field e) s ≡ true → GoodFor (value_field e) s)) IsTested (λ s h. (one_readable s h.0 h.1, one_shallow s h.0 h.1)) rs
      (each_both (λ s. takes (key_field key) s ≡ true → GoodFor (key_field key) s) (λ s. takes (value_field e) s ≡ true → GoodFor (value_field e) s) rs
      (each_passing (GoodFor (key_field key)) (takes (key_field key)) rs k) (each_passing (GoodFor (value_field e)) (takes (value_field e)) rs v))

  -- so they are for the one and for the other
  tested_for : (n : ℕ) (x : Element) → field_at both_fields n ≡ Some (explicit n x) → (rs : List WireRecord) → AllByRecursion IsTested rs
      → AreGood shape levels (explicit n x) (own (explicit n x) rs)
  tested_for n x there rs h =
      each_passed (GoodFor (explicit n x)) (takes (explicit n x)) rs
      (each_weaker IsTested (λ s. takes (explicit n x) s ≡ true → GoodFor (explicit n x) s)
      (λ s k taken. good_of_field shape levels both_fields s (explicit n x) (here s taken) k) rs h)
    where
      here : (s : WireRecord) → takes (explicit n x) s ≡ true → Taken both_fields s (explicit n x)
      here s taken = record {
        found = subst (λ m. field_at both_fields m ≡ Some (explicit n x)) (sym (eqb-true s.number n (takes_number (explicit n x) s taken))) there;
        taken = taken;
      }

-- What makes an entry good: its records are, and a message that stands for a missing value isn't too deep.
pub record EntryGood (shape : Shape) (levels : ℕ) (key : Scalar) (e : Element) (rs : List WireRecord) : Type 0 where
  pub key_good : AreGood shape levels (key_field key) (own (key_field key) rs)
  pub value_good : AreGood shape levels (value_field e) (own (value_field e) rs)
  pub has_room : (t : TypeId) → e ≡ elements.Message t → levels ≡ 0 → ⊥

module _ (shape : Shape) (f : FieldShape) (key : Scalar) (of_map : f.presence ≡ presences.Map key) (r : WireRecord) where
  -- an entry is good where its records are
  pub entry_good : (levels : ℕ) (rs : List WireRecord) → records_of r.body ≡ Ok rs → EntryGood shape levels key f.element rs → AreGood shape levels f (r ∷ [])
  entry_good levels rs records good =
      let tested = all_tested shape levels key f.element rs good.key_good good.value_good in
      let test : WireRecord → Bool = λ s. list_all (λ g. not (takes g s) || is_plain_readable (dec shape) g s) (entry_fields key f.element) in
      let readable : all_plain_readable (dec shape) (entry_fields key f.element) rs ≡ true =
      list_all_each test rs (each_weaker (IsTested shape levels key f.element) (λ s. test s ≡ true) (λ s h. h.0) rs tested) in
      let some : is_some (entry_records (dec shape) key f.element r) ≡ true =
      ap (λ x. is_some (option_and_then (λ xs. cond (all_plain_readable (dec shape) (entry_fields key f.element) xs) (Some xs) None)
      (option_from x))) records ∙ ap (λ b. is_some (cond b (Some rs) None)) readable in
      let below = shallow_from_records shape levels (entry_fields key f.element) r.body rs records
      (each_weaker (IsTested shape levels key f.element) (IsShallowRecord shape levels (entry_fields key f.element)) (λ s h. h.1) rs tested) in (
        (
          subst (λ p. is_readable (dec shape) (record { number = f.number; presence = p; element = f.element; oneof = f.oneof }) r ≡ true)
              (sym of_map) some,
          entry_shallow shape f key of_map levels r below (λ ss u x low spelled none. good.has_room u x low),
        ),
        tt,
      )

  has_room_for : (levels : ℕ) (rs : List WireRecord) (t : TypeId) → Spells r.body rs → IsShallow shape levels f r
      → AreGood shape levels (value_field f.element) (own (value_field f.element) rs) → f.element ≡ elements.Message t → levels ≡ 0 → ⊥
  has_room_for levels rs t spells shallow good is none = of (own (value_field f.element) rs) refl good
    where
      of : (ss : List WireRecord) → own (value_field f.element) rs ≡ ss → AreGood shape levels (value_field f.element) ss → ⊥
      of [] empty h = shallow 0 (subst (λ n. TooDeepOf shape n f r 0) (sym none) (faults.missing_value f r key t rs of_map is spells empty (rs, spells)))
      of (s ∷ ss) some h = children.some_levels shape (value_field f.element) t is refl levels s h.0.1 none

  -- the records of a good entry are good
  pub good_entry : (levels : ℕ) → AreGood shape levels f (r ∷ [])
      → (rs : List WireRecord) × (records_of r.body ≡ Ok rs) × EntryGood shape levels key f.element rs
  good_entry levels good =
      let some : is_some (entry_records (dec shape) key f.element r) ≡ true =
      subst (λ p. is_readable (dec shape) (record { number = f.number; presence = p; element = f.element; oneof = f.oneof }) r ≡ true) of_map good.0.0 in
      let (rs, records, readable) = entry_records_of (dec shape) (entry_fields key f.element) r.body some in
      let below : IsShallowIn shape (suc levels) (entry_fields key f.element) r.body = λ place x. good.0.1 _ (faults.in_entry levels f r key TooDeep place of_map x) in
      let test : WireRecord → Bool = λ s. list_all (λ g. not (takes g s) || is_plain_readable (dec shape) g s) (entry_fields key f.element) in
      let tested =
      each_both (λ s. test s ≡ true) (IsShallowRecord shape levels (entry_fields key f.element)) rs (list_all_true test rs readable)
      (records_shallow shape levels (entry_fields key f.element) r.body rs records below) in
      let value = tested_for shape levels key f.element 2 f.element refl rs tested in (
        rs,
        records,
        record {
          key_good = tested_for shape levels key f.element 1 (elements.Scalar key) refl rs tested;
          value_good = value;
          has_room = λ t. has_room_for levels rs t (Spells_from_records_of r.body rs records) good.0.1 value;
        },
      )

-- Records of a field of an entry that is no message.

module _ (n : ℕ) (e : Element) (scalar : IsNoMessage e) (rs : List WireRecord) where
  pub scalars_good : (shape : Shape) (levels : ℕ) → AreReadable (explicit n e) rs → AreGood shape levels (explicit n e) (own (explicit n e) rs)
  scalars_good shape levels h =
      each_passed (λ s. FieldReads shape (explicit n e) s × IsShallow shape levels (explicit n e) s) (takes (explicit n e)) rs
      (each_weaker (λ s. takes (explicit n e) s ≡ true → is_plain_readable (dec shape) (explicit n e) s ≡ true)
      (λ s. takes (explicit n e) s ≡ true → FieldReads shape (explicit n e) s × IsShallow shape levels (explicit n e) s)
      (λ s k taken. (k taken, scalar_shallow shape levels e s scalar (explicit n e) refl refl)) rs (h shape))

  pub good_scalars : (shape : Shape) (levels : ℕ) → AreGood shape levels (explicit n e) (own (explicit n e) rs) → AreReadable (explicit n e) rs
  good_scalars shape levels h = search (rules, each_weaker, no_child, each_passing)

-- what a good entry says of its scalars
pub scalars_of_good : (shape : Shape) (levels : ℕ) (key : Scalar) (e : Element) (rs : List WireRecord) → EntryGood shape levels key e rs → ScalarsGood key e rs
scalars_of_good shape levels key e rs h = search (rules, good_scalars)

-- an entry is good whose value is no message, or a message of good bodies
pub good_of_scalars : (shape : Shape) (levels : ℕ) (key : Scalar) (e : Element) (rs : List WireRecord) → IsNoMessage e → ScalarsGood key e rs
    → EntryGood shape levels key e rs
good_of_scalars shape levels key e rs scalar h = record {
  key_good = scalars_good 1 (elements.Scalar key) tt rs shape levels h.key_good;
  value_good = scalars_good 2 e scalar rs shape levels (h.value_good scalar);
  has_room = λ t is none. message_clash e t scalar is;
}

module _ (shape : Shape) (levels : ℕ) (key : Scalar) (e : Element) (t : TypeId) (is : e ≡ elements.Message t) (rs : List WireRecord) where
  pub good_of_bodies : AllByRecursion IsRecord rs → ScalarsGood key e rs → BodiesGood shape levels t (own (value_field e) rs) → EntryGood shape levels key e rs
  good_of_bodies are h good = search (rules, scalars_good, children.good_from_bodies, are_of)

  pub bodies_of_good : EntryGood shape levels key e rs → BodiesGood shape levels t (own (value_field e) rs)
  bodies_of_good h = of (own (value_field e) rs) h.value_good
    where
      of : (ss : List WireRecord) → AreGood shape levels (value_field e) ss → BodiesGood shape levels t ss
      of [] good = (h.has_room t is, tt)
      of (s ∷ ss) good = children.bodies_from_good shape (value_field e) t is refl levels (s ∷ ss) (not_nil s ss) good
        where
          not_nil : (x : WireRecord) (xs : List WireRecord) → x ∷ xs ≢ []
          not_nil x xs e = cc

-- What an entry holds.

-- the part of a whole entry, and what is read of it
abbrev pub PartWhole : Shape → FieldShape → List WireRecord → ValueRef → Type 0
PartWhole shape g rs v = (leaf : Leaf) × (entry_part g rs ≡ Some leaf) × IsReadFrom shape g.element leaf v

pub part_whole : (shape : Shape) (g : FieldShape) (rs : List WireRecord) (held : Option ValueRef) (v : ValueRef) → PartRead shape g rs held
    → WholeItem shape g.element held v → PartWhole shape g rs v
part_whole shape g rs None v part whole = (zero_leaf (form g.element), ap (option_map (first_or (zero_leaf (form g.element)))) part, whole)
part_whole shape g rs (Some w) v part whole = search rules

pub child_whole : (shape : Shape) (e : Element) (t : TypeId) (rs : List WireRecord) (v : ValueRef) → e ≡ elements.Message t → AllByRecursion IsRecord rs
    → IsChildOf shape t (own (value_field e) rs) v → PartWhole shape (value_field e) rs v
child_whole shape e t rs v is are h =
    let run = own (value_field e) rs in (
      Bytes (bodies_of run),
      ap (option_map (first_or (zero_leaf (form e)))) (children.merged_content shape (value_field e) t is refl run refl (are_of (value_field e) rs are))
          ∙ ap (λ l. Some l) (first run),
      subst (λ d. IsReadFrom shape d (Bytes (bodies_of run)) v) (sym is) (children.child_item shape t run false v h),
    )
  where
    first : (ss : List WireRecord) → first_or (zero_leaf (form e)) (merged (map (λ (r : WireRecord). Bytes r.body) ss)) ≡ Bytes (bodies_of ss)
    first [] = ap (λ d. zero_leaf (form d)) is
    first (s ∷ ss) = ap (first_or (zero_leaf (form e))) (children.merged_are shape (value_field e) t is refl (s ∷ ss) (not_nil s ss))
      where
        not_nil : (x : WireRecord) (xs : List WireRecord) → x ∷ xs ≢ []
        not_nil x xs e = cc

plain_same : (a b : Leaf) → ◌≡◌ {A = Option Item} (Some (Plain a)) (Some (Plain b)) → a ≡ b
plain_same a b k = cc

pub entry_is_read : (shape : Shape) (key : Scalar) (e : Element) (r : WireRecord) (rs : List WireRecord) (k v : ValueRef) → records_of r.body ≡ Ok rs
    → PartWhole shape (key_field key) rs k → PartWhole shape (value_field e) rs v
    → IsItemKept key k → ItemKept shape e v → IsEntryRead shape key e r (record { key = k; value = v })
entry_is_read shape key e r rs k v records a b item fits =
    search (rules, plain_same, key_seen, item_is_key)

-- What was read of the parts of an entry.

same_records : (rs ss : List WireRecord) → ◌≡◌ {A = Result (List WireRecord) Fault} (Ok rs) (Ok ss) → rs ≡ ss
same_records rs ss e = cc

module _ (shape : Shape) (levels : ℕ) (f : FieldShape) (key : Scalar) (of_map : f.presence ≡ presences.Map key) (r : WireRecord) where
  -- the records of a good entry, of which the scalars are good
  pub scalars_of_entry : AreGood shape levels f (r ∷ []) → (rs : List WireRecord) × (records_of r.body ≡ Ok rs) × ScalarsGood key f.element rs
  scalars_of_entry good =
      let (rs, records, entry) = good_entry shape f key of_map r levels good in
      (rs, records, scalars_of_good shape levels key f.element rs entry)

  module _ (parts : Parts) (found : (rs : List WireRecord) × (records_of r.body ≡ Ok rs) × AreParts key f.element rs parts) where
    are : AllByRecursion IsRecord found.0
    are = let spells = Spells_from_records_of r.body found.0 found.1 in spells.each

    -- the key is the one that was read, or the default
    abbrev pub IsWholeKey : ValueRef → Type 0
    IsWholeKey k = WholeItem shape (elements.Scalar key) parts.key k × (PartFits shape (elements.Scalar key) parts.key → IsItemKept key k)

    key_whole : (k : ValueRef) → IsWholeKey k → PartWhole shape (key_field key) found.0 k
    key_whole k h = part_whole shape (key_field key) found.0 parts.key k (found.2.key_read shape) h.0

    -- Of a value that is no message.
    module _ (scalar : IsNoMessage f.element) where
      pub scalar_entry : (k v : ValueRef) → IsWholeKey k → WholeItem shape f.element parts.value v
          → (PartFits shape f.element parts.value → ItemKept shape f.element v) → IsEntryRead shape key f.element r (record { key = k; value = v })
      scalar_entry k v h whole fits =
          entry_is_read shape key f.element r found.0 k v found.1 (key_whole k h)
          (part_whole shape (value_field f.element) found.0 parts.value v (found.2.value_read scalar shape) whole)
          (h.1 (found.2.key_fits shape)) (fits (found.2.value_fits scalar shape))

      pub scalar_good : AreGood shape levels f (r ∷ [])
      scalar_good = entry_good shape f key of_map r levels found.0 found.1 (good_of_scalars shape levels key f.element found.0 scalar found.2.good)

    -- Of a message.
    module _ (t : TypeId) (is : f.element ≡ elements.Message t) (run : List Record) (taken : run ≡ parts.child.items) where
      run_is : map seen_record run ≡ own (value_field f.element) found.0
      run_is = ap (map seen_record) taken ∙ found.2.child (subst IsMessageOf (sym is) tt)

      pub child_entry : (k v : ValueRef) → IsWholeKey k → IsChildOf shape t (map seen_record run) v → ItemKept shape (elements.Message t) v
          → IsEntryRead shape key f.element r (record { key = k; value = v })
      child_entry k v h child fits =
          entry_is_read shape key f.element r found.0 k v found.1 (key_whole k h)
          (child_whole shape f.element t found.0 v is are (subst (λ rs. IsChildOf shape t rs v) run_is child))
          (h.1 (found.2.key_fits shape)) (subst (λ e. ItemKept shape e v) (sym is) fits)

      pub child_good : BodiesGood shape levels t (map seen_record run) → AreGood shape levels f (r ∷ [])
      child_good good =
          entry_good shape f key of_map r levels found.0 found.1
          (good_of_bodies shape levels key f.element t is found.0 are found.2.good (subst (BodiesGood shape levels t) run_is good))

      pub good_child : AreGood shape levels f (r ∷ []) → BodiesGood shape levels t (map seen_record run)
      good_child good =
          let (rs, records, entry) = good_entry shape f key of_map r levels good in
          let same : rs ≡ found.0 = same_records rs found.0 (sym records ∙ found.1) in
          subst (BodiesGood shape levels t) (sym run_is)
          (bodies_of_good shape levels key f.element t is found.0 (subst (EntryGood shape levels key f.element) same entry))

-- A map field, record by record.

pub key_of_map : (p : Presence) (key : Scalar) (e : Element) (oneof : Option ℕ) → p ≡ presences.Map key → PresenceFits p e oneof → is_key key ≡ true
key_of_map p key e oneof is fits = let k : PresenceFits (presences.Map key) e oneof = subst (λ q. PresenceFits q e oneof) is fits in k.1

-- an entry for each record so far
pub record EntriesSoFar (shape : Shape) (levels : ℕ) (f : FieldShape) (key : Scalar) (rs : List WireRecord) (es : List EntryRef) : Type 0 where
  pub read : AreEntriesRead shape key f.element rs es
  pub good : AreGood shape levels f rs

module _ (shape : Shape) (levels : ℕ) (f : FieldShape) (key : Scalar) (run : List Record) (place : ℕ) (below : place < length run) (d : Record) where
  abbrev one : WireRecord
  one = seen_record (get_or run place d)

  pub entries_more : (es new : List EntryRef) (e : EntryRef) → EntriesSoFar shape levels f key (map seen_record (take place run)) es
      → IsEntryRead shape key f.element one e → AreGood shape levels f (one ∷ [])
      → new ≡ es ++ e ∷ [] → EntriesSoFar shape levels f key (map seen_record (take (place + 1) run)) new
  entries_more es new e h read good is =
      let so_far = map seen_record (take place run) in
      let more : map seen_record (take (place + 1) run) ≡ so_far ++ one ∷ [] = map_more seen_record run place d below in
      record {
        read = subst (λ rs. AreEntriesRead shape key f.element rs new) (sym more)
            (subst (AreEntriesRead shape key f.element (so_far ++ one ∷ [])) (sym is) (one_entry_more shape key f.element so_far one es e h.read read));
        good = subst (AreGood shape levels f) (sym more) (each-append (λ q. FieldReads shape f q × IsShallow shape levels f q) so_far (one ∷ []) h.good good);
      }

  pub entry_of_good : AreGood shape levels f (map seen_record run) → AreGood shape levels f (one ∷ [])
  entry_of_good good = (seen_at (λ q. FieldReads shape f q × IsShallow shape levels f q) run place d below good, tt)
