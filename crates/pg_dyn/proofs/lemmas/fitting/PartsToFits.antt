-- A message fits where its parts fit their fields, are in order, and no two are of members of one oneof.
use Rattle.std.proofs.Common.{◌≡◌, ℕ, ◌<◌, ◌⊎◌, List, [], ◌∷◌, ◌++◌, length, map, Bool, true, false, Option, Some, None, not, ◌&&◌, refl, ap, sym, subst, ◌∙◌, arith, inl, inr, eq-eqb, rules}
use Rattle.std.specs.List.{AllByRecursion}
use Rattle.std.specs.declared.cmp.Ordering.TheVariants.{Less}
use Rattle.std.proofs.Math.Bool.{and-false}
use Rattle.pg_schema.specs.declared.parts.field.TypeId.{TypeId}
use Rattle.pg_schema.specs.declared.parts.field.Scalar.{Scalar}
use Rattle.pg_schema.specs.declared.parts.field.Presence.{Presence}
use Rattle.pg_schema.specs.declared.parts.field.Presence.TheVariants as presences
use Rattle.pg_schema.specs.Shape.{Shape, FieldShape, fields, field_at, is_repeated}
use Rattle.pg_wire.specs.Records.{WireRecord}
use Rattle.pg_dyn.specs.fitting.Belonging.{ComesBefore, IsAlone, IsMessage, IsPart, IsUnknown, KeyFits, MayFollow}
use Rattle.pg_dyn.specs.reading.Content.{is_sibling, same_oneof}
use Rattle.pg_dyn.specs.fitting.ContentFits.{AreApart, NoneSiblings}
use Rattle.pg_dyn.specs.encoding.Encoding.{child_type}
use Rattle.pg_dyn.specs.fitting.Fits.{Fits, PartsAgree, is_listed, is_listed_by, is_string, is_string_by}
use Rattle.pg_dyn.specs.message.Kept.{Kept, ends, message_of, type_of}
use Rattle.pg_dyn.specs.message.KeptParts.{KeptItem, Plain, Msg}
use Rattle.pg_dyn.specs.message.Message.{Leaf, Part, Place, key_cmp, place_of, places}
use Rattle.pg_dyn.specs.fitting.PartsFit.{FieldHolds, HoldsItem, InOrder, IsPartOf}
use Rattle.pg_dyn.specs.message.Replacing.{all_parts, kept_onto, kept_part}
use Rattle.pg_dyn.specs.message.Seen.{Rises}
use Rattle.pg_dyn.proofs.lemmas.reading.gathered.GoodRecords.{same_found}
use Rattle.pg_dyn.proofs.Lists.{each-append, each-map, each_both, each_weaker}
use Rattle.pg_dyn.proofs.lemmas.message.ReplacingLaws.{kept_onto-append, type_of-kept_onto}
use Rattle.pg_dyn.proofs.lemmas.reading.records.Splitting.{found_number}
use Rattle.pg_dyn.specs.message.KeyOrder.{Rise}

-- Where parts are.

first_place : (n : ℕ) (k : Option Leaf) (item : KeptItem) (later : Kept)
    → places (message_of (kept_part n k item later)) ≡ record { number = n; key = k } ∷ places (message_of later)
first_place n k (Plain listed leaf) later = refl
first_place n k (Msg listed child) later = refl

pub places_kept : (ps : List (Part KeptItem)) (later : Kept)
    → places (message_of (kept_onto ps later)) ≡ map place_of ps ++ places (message_of later)
places_kept [] later = refl
places_kept (p ∷ ps) later = search (rules, first_place, places_kept ps later)

-- items of lists have no keys, and follow one another
pub listed_keyless : (p : Presence) → is_repeated p ≡ true → KeyFits p None
listed_keyless p h = grind arith

pub listed_follows : (p : Presence) → is_repeated p ≡ true → MayFollow p None None
listed_follows p h = grind arith

-- The parts of a list hold where each does; those of a map, where the keys rise too.
module _ {A : Type 0} (shape : Shape) (f : FieldShape) (part : A → Part KeptItem) where
  pub list_holds : is_repeated f.presence ≡ true → ((x : A) → (part x).key ≡ None) → (xs : List A) → AllByRecursion (λ x. IsPartOf shape f (part x)) xs
      → FieldHolds shape f (map part xs)
  list_holds listed keyless xs each = record { each = each-map (IsPartOf shape f) part xs each; in_order = in_order xs }
    where
      follows : (x y : A) → MayFollow f.presence (part x).key (part y).key
      follows x y =
          subst (λ k. MayFollow f.presence k (part y).key) (sym (keyless x))
          (subst (λ k. MayFollow f.presence None k) (sym (keyless y)) (listed_follows f.presence listed))

      behind : (x : A) (ys : List A) → AllByRecursion (λ (q : Part KeptItem). MayFollow f.presence (part x).key q.key) (map part ys)
      behind x [] = tt
      behind x (y ∷ ys) = (follows x y, behind x ys)

      in_order : (ys : List A) → InOrder f.presence (map part ys)
      in_order [] = tt
      in_order (y ∷ ys) = (behind y ys, in_order ys)

  pub map_holds : (key : Scalar) → f.presence ≡ presences.Map key → (key_of : A → Leaf) → ((x : A) → (part x).key ≡ Some (key_of x)) → (xs : List A)
      → AllByRecursion (λ x. IsPartOf shape f (part x)) xs → Rise key_of xs → FieldHolds shape f (map part xs)
  map_holds key is key_of keyed xs each rise = record { each = each-map (IsPartOf shape f) part xs each; in_order = in_order xs rise }
    where
      follows : (x y : A) → key_cmp (key_of x) (key_of y) ≡ Less → MayFollow f.presence (part x).key (part y).key
      follows x y h =
          subst (λ p. MayFollow p (part x).key (part y).key) (sym is)
          (subst (λ k. MayFollow (presences.Map key) k (part y).key) (sym (keyed x))
          (subst (λ k. MayFollow (presences.Map key) (Some (key_of x)) k) (sym (keyed y)) h))

      behind : (x : A) (ys : List A) → AllByRecursion (λ y. key_cmp (key_of x) (key_of y) ≡ Less) ys
          → AllByRecursion (λ (q : Part KeptItem). MayFollow f.presence (part x).key q.key) (map part ys)
      behind x [] h = tt
      behind x (y ∷ ys) h = (follows x y h.0, behind x ys h.1)

      in_order : (ys : List A) → Rise key_of ys → InOrder f.presence (map part ys)
      in_order [] h = tt
      in_order (y ∷ ys) h = (behind y ys h.0, in_order ys h.1)

-- a field isn't its own sibling
pub own_sibling : (f : FieldShape) → is_sibling f f ≡ false
own_sibling f = ap (λ b. same_oneof f.oneof f.oneof && not b) (eq-eqb f.number f.number refl) ∙ and-false (same_oneof f.oneof f.oneof)

module _ (shape : Shape) (type : TypeId) where
  abbrev pub Whole : Kept → Type 0
  Whole m = IsMessage shape type (message_of m) × PartsAgree shape m

  -- One part in front.

  listed_is : (n : ℕ) (l : Bool) (later : Kept) (f : FieldShape) → type_of later ≡ type → field_at (fields shape type) n ≡ Some f
      → is_repeated f.presence ≡ l → is_listed (fields shape (type_of later)) n ≡ l
  listed_is n l later f same found is = ap (λ t. is_listed (fields shape t) n) same ∙ ap is_listed_by found ∙ is

  text_is : (n : ℕ) (text : Bool) (later : Kept) (f : FieldShape) → type_of later ≡ type → field_at (fields shape type) n ≡ Some f
      → text ≡ is_string f.element → text ≡ is_string_by (field_at (fields shape (type_of later)) n)
  text_is n text later f same found is = is ∙ sym (ap (λ t. is_string_by (field_at (fields shape t) n)) same ∙ ap is_string_by found)

  part_to : (n : ℕ) (k : Option Leaf) (item : KeptItem) (later : Kept) → type_of later ≡ type
      → (part : IsPart (fields shape type) n k (places (message_of later))) → HoldsItem shape part.field item → Whole later
      → Whole (kept_part n k item later)
  part_to n k (Plain manner leaf) later same part item whole = (
    (part, item.2, whole.0),
    (listed_is n manner.listed later part.field same part.found item.0, text_is n manner.text later part.field same part.found item.1, whole.1),
  )
  part_to n k (Msg listed child) later same part item whole =
      search (rules, listed_is)

  -- The parts after a part: of its own field, or of a later one that is no sibling.

  abbrev pub NotSibling : FieldShape → ℕ → Type 0
  NotSibling f number = (g : FieldShape) → field_at (fields shape type) number ≡ Some g → is_sibling f g ≡ false

  abbrev Beyond : FieldShape → ℕ → Type 0
  Beyond f number = (f.number < number) × NotSibling f number

  abbrev Own : FieldShape → Option Leaf → Place → Type 0
  Own f k p = (f.number ≡ p.number) × MayFollow f.presence k p.key

  abbrev Behind : FieldShape → Option Leaf → Place → Type 0
  Behind f k p = Own f k p ⊎ Beyond f p.number

  own_alone : (f : FieldShape) (k : Option Leaf) (p : Place) → field_at (fields shape type) f.number ≡ Some f → Own f k p → NotSibling f p.number
  own_alone f k p found own g there = search (rules, same_found, own_sibling)

  before_these : (f : FieldShape) (k : Option Leaf) (later : List Place) → AllByRecursion (Behind f k) later → ComesBefore f k later
  before_these f k later each = search (rules, each_weaker)

  alone_of_these : (f : FieldShape) (k : Option Leaf) (later : List Place) → field_at (fields shape type) f.number ≡ Some f
      → AllByRecursion (Behind f k) later → IsAlone (fields shape type) f later
  alone_of_these f k later found each = search (rules, each_weaker, own_alone)

  -- The parts of one field in front.

  module _ (f : FieldShape) (found : field_at (fields shape type) f.number ≡ Some f) (later : Kept) (same : type_of later ≡ type)
      (beyond : AllByRecursion (λ (p : Place). Beyond f p.number) (places (message_of later))) (whole : Whole later) where
    follow : (p : Part KeptItem) (ps : List (Part KeptItem)) → AllByRecursion (IsPartOf shape f) ps
        → AllByRecursion (λ (q : Part KeptItem). MayFollow f.presence p.key q.key) ps
        → AllByRecursion (Behind f p.key) (places (message_of (kept_onto ps later)))
    follow p ps each after =
        subst (AllByRecursion (Behind f p.key)) (sym (places_kept ps later))
        (each-append (Behind f p.key) (map place_of ps) (places (message_of later))
        (each-map (Behind f p.key) place_of ps
        (each_weaker (λ (q : Part KeptItem). IsPartOf shape f q × MayFollow f.presence p.key q.key) (λ (q : Part KeptItem). Behind f p.key (place_of q))
        (λ q h. inl (sym h.0.number_is, h.1)) ps
        (each_both (IsPartOf shape f) (λ (q : Part KeptItem). MayFollow f.presence p.key q.key) ps each after)))
        (each_weaker (λ (q : Place). Beyond f q.number) (Behind f p.key) (λ q far. inr far) (places (message_of later)) beyond))

    field_to : (ps : List (Part KeptItem)) → FieldHolds shape f ps → Whole (kept_onto ps later)
    field_to [] h = whole
    field_to (p ∷ ps) h =
        let each = follow p ps h.each.1 h.in_order.0 in
        let at : field_at (fields shape type) p.number ≡ Some f = ap (field_at (fields shape type)) h.each.0.number_is ∙ found in
        part_to p.number p.key p.item (kept_onto ps later) (type_of-kept_onto ps later ∙ same)
        (record {
          field = f;
          found = at;
          key_fits = h.each.0.key_fits;
          before = before_these f p.key (places (message_of (kept_onto ps later))) each;
          alone = alone_of_these f p.key (places (message_of (kept_onto ps later))) found each;
        })
        h.each.0.item (field_to ps (record { each = h.each.1; in_order = h.in_order.1 }))

  -- The same parts before other unknown records.

  swapped : (n : ℕ) (k : Option Leaf) (item : KeptItem) (a b : Kept) → type_of a ≡ type_of b → places (message_of a) ≡ places (message_of b)
      → (Whole a → Whole b) → Whole (kept_part n k item a) → Whole (kept_part n k item b)
  swapped n k (Plain manner leaf) a b same at rest h =
      let later = rest (h.0.2, h.1.2) in
      let part = h.0.0 in (
        (
          record {
            field = part.field;
            found = part.found;
            key_fits = part.key_fits;
            before = subst (ComesBefore part.field k) at part.before;
            alone = subst (IsAlone (fields shape type) part.field) at part.alone;
          },
          h.0.1,
          later.0,
        ),
        (
          subst (λ t. is_listed (fields shape t) n ≡ manner.listed) same h.1.0,
          subst (λ t. manner.text ≡ is_string_by (field_at (fields shape t) n)) same h.1.1,
          later.1,
        ),
      )
  swapped n k (Msg listed child) a b same at rest h =
      let later = rest (h.0.4, h.1.3) in
      let part = h.0.0 in (
        (
          record {
            field = part.field;
            found = part.found;
            key_fits = part.key_fits;
            before = subst (ComesBefore part.field k) at part.before;
            alone = subst (IsAlone (fields shape type) part.field) at part.alone;
          },
          h.0.1,
          h.0.2,
          h.0.3,
          later.0,
        ),
        (
          subst (λ t. is_listed (fields shape t) n ≡ listed) same h.1.0,
          subst (λ t. child_type (fields shape t) n ≡ type_of child) same h.1.1,
          h.1.2,
          later.1,
        ),
      )

  other_end : (us vs : List WireRecord) → AllByRecursion (IsUnknown (fields shape type)) vs → (ps : List (Part KeptItem))
      → Whole (kept_onto ps (ends type us)) → Whole (kept_onto ps (ends type vs))
  other_end us vs unknown [] h = (unknown, tt)
  other_end us vs unknown (p ∷ ps) h =
      search (rules, swapped, type_of-kept_onto, places_kept, other_end us vs unknown ps)

  pub whole_of : (m : Kept) → type_of m ≡ type → Fits shape m → Whole m
  whole_of m is fits = (subst (λ t. IsMessage shape t (message_of m)) is fits.is_message, fits.parts_agree)

  of_whole : (m : Kept) → type_of m ≡ type → type.index < length shape → Whole m → Fits shape m
  of_whole m is there whole = search rules

  -- A message that fits does so with any records that no field of its type accepts.
  pub fits_with_unknown : (ps : List (Part KeptItem)) (us vs : List WireRecord) → type.index < length shape
      → AllByRecursion (IsUnknown (fields shape type)) vs → Fits shape (kept_onto ps (ends type us)) → Fits shape (kept_onto ps (ends type vs))
  fits_with_unknown ps us vs there unknown fits =
      of_whole (kept_onto ps (ends type vs)) (type_of-kept_onto ps (ends type vs)) there
      (other_end us vs unknown ps (whole_of (kept_onto ps (ends type us)) (type_of-kept_onto ps (ends type us)) fits))

-- Contents, of which it is only known which parts they show.
module _ {C : Type 0} (seen : ℕ → C → List (Part KeptItem)) (shape : Shape) (type : TypeId) where
  -- the content's parts are those of the field with its number
  pub record HoldsParts (c : ℕ × C) : Type 0 where
    pub field : FieldShape
    pub found : field_at (fields shape type) c.0 ≡ Some field
    pub holds : FieldHolds shape field (seen c.0 c.1)

  numbers_of : (Q : ℕ → Type 0) (cs : List (ℕ × C)) → AllByRecursion HoldsParts cs → AllByRecursion (λ (c : ℕ × C). Q c.0) cs
      → AllByRecursion (λ (p : Part KeptItem). Q p.number) (all_parts seen cs)
  numbers_of Q [] h q = tt
  numbers_of Q (c ∷ cs) h q =
      each-append (λ (p : Part KeptItem). Q p.number) (seen c.0 c.1) (all_parts seen cs)
      (each_weaker (IsPartOf shape h.0.field) (λ (p : Part KeptItem). Q p.number)
      (λ p k. subst Q (sym (k.number_is ∙ found_number (fields shape type) c.0 h.0.field h.0.found)) q.0) (seen c.0 c.1) h.0.holds.each)
      (numbers_of Q cs h.1 q.1)

  pub contents_whole : (cs : List (ℕ × C)) (us : List WireRecord) → Rises cs → AllByRecursion HoldsParts cs → NoneSiblings (fields shape type) cs
      → AllByRecursion (IsUnknown (fields shape type)) us → Whole shape type (kept_onto (all_parts seen cs) (ends type us))
  contents_whole [] us rises each apart unknown = (unknown, tt)
  contents_whole (c ∷ cs) us rises each apart unknown =
      let f = each.0.field in
      let number : f.number ≡ c.0 = found_number (fields shape type) c.0 f each.0.found in
      let later = kept_onto (all_parts seen cs) (ends type us) in
      let far : AllByRecursion (λ (l : ℕ × C). Beyond shape type f l.0) cs =
      each_weaker (λ (l : ℕ × C). (c.0 < l.0) × AreApart (fields shape type) c.0 l.0) (λ (l : ℕ × C). Beyond shape type f l.0)
      (λ l k. (let low : f.number < l.0 = omega (arith, number, k.0) in low, λ g there. k.1 f g each.0.found there)) cs
      (each_both (λ (l : ℕ × C). c.0 < l.0) (λ (l : ℕ × C). AreApart (fields shape type) c.0 l.0) cs rises.0 apart.0) in
      let beyond : AllByRecursion (λ (p : Place). Beyond shape type f p.number) (places (message_of later)) =
      subst (AllByRecursion (λ (p : Place). Beyond shape type f p.number)) (sym (places_kept (all_parts seen cs) (ends type us)))
      (each-append (λ (p : Place). Beyond shape type f p.number) (map place_of (all_parts seen cs)) []
      (each-map (λ (p : Place). Beyond shape type f p.number) place_of (all_parts seen cs) (numbers_of (Beyond shape type f) cs each.1 far)) tt) in
      subst (Whole shape type) (sym (kept_onto-append (seen c.0 c.1) (all_parts seen cs) (ends type us)))
      (field_to shape type f (ap (field_at (fields shape type)) number ∙ each.0.found) later (type_of-kept_onto (all_parts seen cs) (ends type us)) beyond
      (contents_whole cs us rises.1 each.1 apart.1 unknown) (seen c.0 c.1) each.0.holds)

  -- The message of contents that hold parts of their fields fits, where no two are of members of one oneof.
  pub fits_of_contents : (cs : List (ℕ × C)) (us : List WireRecord) → type.index < length shape → Rises cs → AllByRecursion HoldsParts cs
      → NoneSiblings (fields shape type) cs → AllByRecursion (IsUnknown (fields shape type)) us → Fits shape (kept_onto (all_parts seen cs) (ends type us))
  fits_of_contents cs us there rises each apart unknown =
      search (rules, of_whole, type_of-kept_onto, contents_whole)
