-- A field of children that the new type keeps is kept too where each child is written otherwise, and is read again.
use Rattle.std.proofs.Common.{◌≡◌, ℕ, ◌^◌, ◌<◌, List, [], ◌∷◌, map, filter, length, Bool, true, false, not, ◌&&◌, ◌||◌, Option, Some, None, is_some, unwrap_or, option_and_then, refl, ap, sym, subst, ◌∙◌, append-nil, eq-eqb}
use Rattle.std.specs.List.{AllByRecursion}
use Rattle.std.proofs.lemmas.Bool.{and_parts, and_from}
use lib.Pointwise.{pointwise}
use Rattle.pg_schema.specs.declared.parts.field.TypeId.{TypeId}
use Rattle.pg_schema.specs.declared.parts.field.Scalar.{Scalar}
use Rattle.pg_schema.specs.declared.parts.field.Element.TheVariants as elements
use Rattle.pg_schema.specs.declared.parts.field.Presence.{Presence}
use Rattle.pg_schema.specs.declared.parts.field.Presence.TheVariants as presences
use Rattle.pg_schema.specs.Shape.{FieldShape, is_map}
use Rattle.pg_schema.specs.ShapeRules.{PresenceFits}
use Rattle.pg_wire.specs.Records.{WireRecord, written}
use Rattle.pg_dyn.specs.reading.Optional.{all_some}
use Rattle.pg_dyn.specs.message.Message.{Leaf, Bytes, Item, Msg, Message, ends, Part}
use Rattle.pg_dyn.specs.word.Coding.{form, zero_leaf}
use Rattle.pg_dyn.specs.reading.Content.{content, leaves_in, takes}
use Rattle.pg_dyn.specs.encoding.Writing.{entry_bytes, field_records, item_record}
use Rattle.pg_dyn.specs.reading.Decoding.{Reader, is_readable, read_part}
use Rattle.pg_dyn.specs.fitting.Belonging.{KeyFits}
use Rattle.pg_dyn.specs.laws.ByComparands.{all_field_readable, field_read, is_field_kept, is_shown}
use Rattle.pg_dyn.specs.views.Comparison.{View, Comparand, Expected, Kept, expects, hides_zero, is_zero_expected, is_zero_item, matches, same_content, same_key, shown, writes}
use Rattle.pg_dyn.proofs.Lists.{all_some-map_map, each_of_all, each_weaker, filter_all, each-map, joined-map_single, list_all_each, map_map}
use Rattle.pg_dyn.proofs.lemmas.reading.Fields.{field_of}
use Rattle.pg_order.proofs.lemmas.KindsRead.{child_kinds, is_message, kinds_read, shown_child, shown_message}

-- a child as it is encoded and as it is written, with what the new type has to show of it
pub record Pair : Type 0 where
  pub key : Option Leaf
  pub before : List ℕ
  pub after : List ℕ
  pub test : Message → Bool
  pub again : Message → Bool

abbrev pub old_of : ℕ → Pair → Comparand
old_of n z = record { number = n; key = z.key; written = Bytes z.before; expected = Kept z.test }

abbrev pub new_of : ℕ → Pair → Comparand
new_of n z = record { number = n; key = z.key; written = Bytes z.after; expected = Kept z.again }

abbrev pub key_or : Scalar → Pair → Leaf
key_or key z = unwrap_or z.key (zero_leaf (form (elements.Scalar key)))

-- what is written of the child is read and passes
pub record IsAgain (child : Reader) (t : TypeId) (z : Pair) : Type 0 where
  pub message : Message
  pub is_read : child t z.after ≡ Some message
  pub passes : z.again message ≡ true

pub record IsGood (view : View) (child : Reader) (f g : FieldShape) (z : Pair) : Type 0 where
  pub single : is_field_kept view child f g (old_of f.number z ∷ []) ≡ true
  pub seen : (t : TypeId) → g.element ≡ elements.Message t → IsAgain child t z
  pub key_fits : KeyFits f.presence z.key
  pub short : (key : Scalar) → f.presence ≡ presences.Map key → (length (entry_bytes key f.element (key_or key z) (Bytes z.before)) < 2 ^ 64) × (length (entry_bytes key f.element (key_or key z) (Bytes z.after)) < 2 ^ 64)

pub record IsShown (view : View) (child : Reader) (f g : FieldShape) (cs : List Comparand) : Type 0 where
  pub readable : all_field_readable child g (field_records f (map writes cs)) ≡ true
  pub parts : List (Part Item)
  pub is_read : field_read child g (field_records f (map writes cs)) ≡ Some parts
  pub same : same_content view f g (map expects cs) parts ≡ true

pub shown_parts : (view : View) (child : Reader) (f g : FieldShape) (cs : List Comparand) → is_field_kept view child f g cs ≡ true → IsShown view child f g cs
shown_parts view child f g cs h = of (field_read child g (field_records f (map writes cs))) refl
  where
    both : (all_field_readable child g (field_records f (map writes cs)) ≡ true) × (is_shown view f g cs (field_read child g (field_records f (map writes cs))) ≡ true)
    both = and_parts (all_field_readable child g (field_records f (map writes cs))) (is_shown view f g cs (field_read child g (field_records f (map writes cs)))) h

    of : (o : Option (List (Part Item))) → field_read child g (field_records f (map writes cs)) ≡ o → IsShown view child f g cs
    of None is = absurd (let k : false ≡ true = rw is at both.1 in cc)
    of (Some ps) is = record { readable = both.0; parts = ps; is_read = is; same = rw is at both.1 }

pub kept_kinds : (view : View) (child : Reader) (f g : FieldShape) (z : Pair) → is_field_kept view child f g (old_of f.number z ∷ []) ≡ true → (is_some z.key ≡ is_map g.presence) × (is_message g.element ≡ true)
kept_kinds view child f g z h =
    let is = shown_parts view child f g (old_of f.number z ∷ []) h in
    child_kinds view f g z.key z.test is.parts (kinds_read child g (field_records f (map writes (old_of f.number z ∷ []))) is.parts is.is_read) is.same

or_true : (b : Bool) → (b || true) ≡ true
or_true true = refl
or_true false = refl

abbrev pub part_from : ℕ → (Pair → Option Leaf) → Pair → Part Leaf
part_from n key z = record { number = n; key = key z; item = Bytes z.after }

-- Children that are read again are shown again.
module _ (view : View) (child : Reader) (t : TypeId) (n : ℕ) (key : Pair → Option Leaf) where
  the : Pair → Message
  the z = unwrap_or (child t z.after) (ends [])

  as_read : Pair → Part Item
  as_read z = record { number = n; key = key z; item = Msg (the z) }

  abbrev Again : Pair → Type 0
  Again z = IsAgain child t z × (same_key z.key (key z) ≡ true)

  part_read : (z : Pair) → Again z → read_part child (elements.Message t) ((part_from n key) z) ≡ Some (as_read z)
  unfolding the as_read
  part_read z h = let read = h.0.is_read in rw read refl

  read_all : (zs : List Pair) → AllByRecursion Again zs → all_some (map (read_part child (elements.Message t)) (map (part_from n key) zs)) ≡ Some (map as_read zs)
  read_all zs h = all_some-map_map (read_part child (elements.Message t)) (part_from n key) as_read zs (each_weaker Again (λ z. read_part child (elements.Message t) ((part_from n key) z) ≡ Some (as_read z)) part_read zs h)

  passes : (z : Pair) → IsAgain child t z → z.again (the z) ≡ true
  unfolding the
  passes z h = let read = h.is_read in rw read h.passes

  shown_all : (f g : FieldShape) → f.number ≡ n → (zs : List Pair) → AllByRecursion Again zs → same_content view f g (map expects (map (new_of n) zs)) (map as_read zs) ≡ true
  unfolding as_read
  shown_all f g at [] h = refl
  shown_all f g at (z ∷ zs) h =
      subst (λ m. pointwise (λ (p : Part Expected) (q : Part Item). same_key p.key q.key && matches view f g p.item q.item) (shown is_zero_expected (hides_zero f g) m (map expects (map (new_of n) (z ∷ zs)))) (shown is_zero_item (hides_zero f g) m (map as_read (z ∷ zs))) ≡ true) (sym at)
      (rw (shown_child (hides_zero f g) n z.key z.again (map expects (map (new_of n) zs)), shown_message (hides_zero f g) n (key z) (the z) (map as_read zs))
      (and_from _ _ (and_from _ _ h.0.1 (passes z h.0.0))
      (subst (λ m. pointwise (λ (p : Part Expected) (q : Part Item). same_key p.key q.key && matches view f g p.item q.item) (shown is_zero_expected (hides_zero f g) m (map expects (map (new_of n) zs))) (shown is_zero_item (hides_zero f g) m (map as_read zs)) ≡ true) at (shown_all f g at zs h.1))))

  pub kept_again : (f g : FieldShape) → f.number ≡ n → g.element ≡ elements.Message t → (zs : List Pair) → AllByRecursion Again zs
      → all_field_readable child g (field_records f (map writes (map (new_of n) zs))) ≡ true
      → content g (filter (takes g) (field_records f (map writes (map (new_of n) zs)))) ≡ Some (map (part_from n key) zs)
      → is_field_kept view child f g (map (new_of n) zs) ≡ true
  kept_again f g at is zs h readable content_is =
      let read : field_read child g (field_records f (map writes (map (new_of n) zs))) ≡ Some (map as_read zs) =
      ap (option_and_then (λ ps. all_some (map (read_part child g.element) ps))) content_is
      ∙ subst (λ e. all_some (map (read_part child e) (map (part_from n key) zs)) ≡ Some (map as_read zs)) (sym is) (read_all zs h) in
      and_from _ _ readable (rw read (shown_all f g at zs h))

-- A field that is no map, of children that aren't in a map.
module _ (n : ℕ) (t u : TypeId) where
  abbrev pub child_record : List ℕ → WireRecord
  child_record b = item_record n (elements.Message t) (Bytes b)

  own_records : (p : Presence) (o : Option ℕ) → PresenceFits p (elements.Message t) o → is_map p ≡ false → (ps : List (Part Leaf)) → field_records (field_of n p (elements.Message t) o) ps ≡ map (λ (x : Part Leaf). item_record n (elements.Message t) x.item) ps
  own_records presences.Implicit o fits is ps = absurd fits
  own_records presences.Explicit o fits is ps = refl
  own_records (presences.Repeated true) o fits is ps = absurd (let k = fits.1 refl in cc)
  own_records (presences.Repeated false) o fits is ps = refl
  own_records (presences.Map key) o fits is ps = absurd (cc)

  pub records_are : (p : Presence) (o : Option ℕ) → PresenceFits p (elements.Message t) o → is_map p ≡ false → (zs : List Pair) → field_records (field_of n p (elements.Message t) o) (map writes (map (new_of n) zs)) ≡ map (λ (z : Pair). child_record z.after) zs
  records_are p o fits is zs =
      own_records p o fits is (map writes (map (new_of n) zs))
      ∙ ap (map (λ (x : Part Leaf). item_record n (elements.Message t) x.item)) (map_map writes (new_of n) zs)
      ∙ map_map (λ (x : Part Leaf). item_record n (elements.Message t) x.item) (λ z. writes (new_of n z)) zs

  takes_child : (q : Presence) (o : Option ℕ) (b : List ℕ) → is_map q ≡ false → takes (field_of n q (elements.Message u) o) (child_record b) ≡ true
  unfolding written
  takes_child presences.Implicit o b is = rw (eq-eqb n n refl) refl
  takes_child presences.Explicit o b is = rw (eq-eqb n n refl) refl
  takes_child (presences.Repeated packed) o b is = rw (eq-eqb n n refl) refl
  takes_child (presences.Map key) o b is = absurd (cc)

  reads_child : (child : Reader) (q : Presence) (o : Option ℕ) (b : List ℕ) (m : Message) → is_map q ≡ false → child u b ≡ Some m → is_readable child (field_of n q (elements.Message u) o) (child_record b) ≡ true
  unfolding written
  reads_child child presences.Implicit o b m is read = ap is_some read
  reads_child child presences.Explicit o b m is read = ap is_some read
  reads_child child (presences.Repeated packed) o b m is read = ap is_some read
  reads_child child (presences.Map key) o b m is read = absurd (cc)

  leaves_are : (q : Presence) (o : Option ℕ) (z : Pair) → leaves_in (field_of n q (elements.Message u) o) (child_record z.after) ≡ Some (Bytes z.after ∷ [])
  unfolding written
  leaves_are q o z = refl

  rows_are : (q : Presence) (o : Option ℕ) (zs : List Pair) → all_some (map (leaves_in (field_of n q (elements.Message u) o)) (map (λ (z : Pair). child_record z.after) zs)) ≡ Some (map (λ (z : Pair). Bytes z.after ∷ []) zs)
  rows_are q o zs =
      all_some-map_map (leaves_in (field_of n q (elements.Message u) o)) (λ (z : Pair). child_record z.after) (λ (z : Pair). Bytes z.after ∷ []) zs
      (each_of_all (λ z. leaves_in (field_of n q (elements.Message u) o) (child_record z.after) ≡ Some (Bytes z.after ∷ [])) (leaves_are q o) zs)

  pub list_content : (packed : Bool) (o : Option ℕ) (zs : List Pair) → content (field_of n (presences.Repeated packed) (elements.Message u) o) (map (λ (z : Pair). child_record z.after) zs) ≡ Some (map (part_from n (λ (z : Pair). None)) zs)
  list_content packed o zs =
      rw (rows_are (presences.Repeated packed) o zs, joined-map_single (λ (z : Pair). Bytes z.after) zs)
      (ap Some (map_map (λ (leaf : Leaf). record { number = n; key = None; item = leaf }) (λ (z : Pair). Bytes z.after) zs))

  pub one_content : (o : Option ℕ) (z : Pair) → content (field_of n presences.Explicit (elements.Message u) o) (child_record z.after ∷ []) ≡ Some (part_from n (λ (x : Pair). None) z ∷ [])
  unfolding written
  one_content o z = ap (λ (b : List ℕ). Some (record { number = n; key = None; item = Bytes b } ∷ [])) (append-nil z.after)

  -- what is needed of the records, for any of them
  each_reads : (child : Reader) (q : Presence) (o : Option ℕ) → is_map q ≡ false → (zs : List Pair) → AllByRecursion (IsAgain child u) zs → all_field_readable child (field_of n q (elements.Message u) o) (map (λ (z : Pair). child_record z.after) zs) ≡ true
  each_reads child q o is zs h =
      let g = field_of n q (elements.Message u) o in
      list_all_each (λ r. not (takes g r) || is_readable child g r) (map (λ (z : Pair). child_record z.after) zs)
      (each-map (λ r. (not (takes g r) || is_readable child g r) ≡ true) (λ (z : Pair). child_record z.after) zs
      (each_weaker (IsAgain child u) (λ (z : Pair). (not (takes g (child_record z.after)) || is_readable child g (child_record z.after)) ≡ true)
      (λ z a. rw (reads_child child q o z.after a.message is a.is_read) (or_true (not (takes g (child_record z.after))))) zs h))

  pub all_taken : (q : Presence) (o : Option ℕ) → is_map q ≡ false → (zs : List Pair) → filter (takes (field_of n q (elements.Message u) o)) (map (λ (z : Pair). child_record z.after) zs) ≡ map (λ (z : Pair). child_record z.after) zs
  all_taken q o is zs =
      let g = field_of n q (elements.Message u) o in
      filter_all (takes g) (map (λ (z : Pair). child_record z.after) zs) (each-map (λ r. takes g r ≡ true) (λ (z : Pair). child_record z.after) zs (each_of_all (λ (z : Pair). takes g (child_record z.after) ≡ true) (λ z. takes_child q o z.after is) zs))

  module _ (view : View) (child : Reader) (p q : Presence) (o w : Option ℕ) (fits : PresenceFits p (elements.Message t) o) (single : is_map p ≡ false) where
    abbrev f : FieldShape
    f = field_of n p (elements.Message t) o

    abbrev g : FieldShape
    g = field_of n q (elements.Message u) w

    no_key : (z : Pair) → IsGood view child f g z → z.key ≡ None
    no_key z good = of p single good.key_fits
      where
        of : (x : Presence) → is_map x ≡ false → KeyFits x z.key → z.key ≡ None
        of presences.Implicit is k = k
        of presences.Explicit is k = k
        of (presences.Repeated packed) is k = k
        of (presences.Map key) is k = absurd (cc)

    again : (z : Pair) → IsGood view child f g z → IsAgain child u z × (same_key z.key None ≡ true)
    again z good = (good.seen u refl, rw (no_key z good) refl)

    pub kept_from_content : is_map q ≡ false → (zs : List Pair) → AllByRecursion (IsGood view child f g) zs → content g (map (λ (z : Pair). child_record z.after) zs) ≡ Some (map (part_from n (λ (z : Pair). None)) zs) → is_field_kept view child f g (map (new_of n) zs) ≡ true
    kept_from_content is zs good content_is =
        let same = records_are p o fits single zs in
        let each = each_weaker (IsGood view child f g) (λ z. IsAgain child u z × (same_key z.key None ≡ true)) again zs good in
        kept_again view child u n (λ (z : Pair). None) f g refl refl zs each
        (ap (all_field_readable child g) same ∙ each_reads child q w is zs (each_weaker (λ z. IsAgain child u z × (same_key z.key None ≡ true)) (IsAgain child u) (λ z k. k.0) zs each))
        (ap (λ rs. content g (filter (takes g) rs)) same ∙ ap (content g) (all_taken q w is zs) ∙ content_is)
