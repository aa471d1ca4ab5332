-- Content of one comparand that the new field's reader doesn't see.
use Rattle.std.proofs.Common.{◌≡◌, ℕ, ◌+◌, List, [], ◌∷◌, length, map, filter, Bool, true, false, not, ◌&&◌, cond, if◌then◌else◌, Option, Some, None, option_map, option_and_then, refl, ap, sym, ◌∙◌, subst, eq-eqb, append-nil, rules}
use Rattle.std.specs.Bool.{⊤}
use Rattle.std.specs.List.{AllByRecursion}
use Rattle.std.proofs.lemmas.Bool.{and_from, and_left, and_right, or_left}
use lib.Pointwise.{pointwise}
use Rattle.pg_schema.specs.declared.parts.field.TypeId.{TypeId}
use Rattle.pg_schema.specs.declared.parts.field.Element.{Element}
use Rattle.pg_schema.specs.declared.parts.field.Element.TheVariants as elements
use Rattle.pg_schema.specs.declared.parts.field.Presence.{Presence}
use Rattle.pg_schema.specs.declared.parts.field.Presence.TheVariants as presences
use Rattle.pg_schema.specs.Shape.{FieldShape, is_repeated, is_packable, is_implicit}
use Rattle.pg_wire.specs.declared.record.WireType.TheVariants.{Len}
use Rattle.pg_wire.specs.Records.{WireRecord, tag, written}
use Rattle.pg_dyn.specs.reading.Optional.{all_some, joined, last_of}
use Rattle.pg_dyn.specs.message.Message.{Leaf, Bytes, Item, Plain, Msg, Message, Part, is_of, is_zero}
use Rattle.pg_dyn.specs.word.Coding.{form, form_wire, body, leaf_in}
use Rattle.pg_dyn.specs.reading.Content.{same_wire, takes, leaves_in, last_item, content}
use Rattle.pg_dyn.specs.encoding.Writing.{item_record, field_records}
use Rattle.pg_dyn.specs.reading.Decoding.{Reader, read_part}
use Rattle.pg_dyn.specs.views.Comparison.{View, Expected, Alike, is_zero_expected, is_zero_item, hides_zero, same_key, matches, alike_leaves, Kept, Comparand, writes, expects}
use Rattle.pg_dyn.proofs.Lists.{all_some-map_map, each_weaker, each_of_all, each-map, and_then_some, option_map_some}
use Rattle.pg_pairs.specs.gaps.Gaps.{body_length}
use Rattle.pg_pairs.specs.gaps.TrueGaps.{is_alike_read, is_seen}
use Rattle.pg_pairs.specs.choices.Costs.{one_item}
use Rattle.pg_dyn.specs.laws.ByComparands.{field_read, is_shown, is_field_kept}
use Rattle.pg_pairs.specs.inner.Contents.{total, passes, is_child_kept}
use Rattle.pg_pairs.proofs.lemmas.gaps.GapItems.{IsLeafy}
use Rattle.pg_pairs.proofs.lemmas.bounds.AcrossPlain.{plain_part, NotMap, IsUnpacked}
use Rattle.pg_pairs.proofs.lemmas.choices.Costs.{length-item_record}
use Rattle.pg_pairs.proofs.lemmas.bounds.Comparands.{leafy_reader}
use Rattle.pg_dyn.proofs.PublicLaws.{own_contents, packable_wires}

-- What is read of a field doesn't have the item expected.
abbrev pub NoneMatches : View → FieldShape → FieldShape → Comparand → List (Part Item) → Type 0
NoneMatches view f g c qs = AllByRecursion (λ (q : Part Item). (same_key c.key q.key && matches view f g c.expected q.item) ≡ false) qs

no_partner : {A B : Type 0} (R : A → B → Bool) (x : A) (test : B → Bool) (ys : List B) → AllByRecursion (λ y. R x y ≡ false) ys → pointwise R (x ∷ []) (filter test ys) ≡ false
no_partner R x test [] h = refl
no_partner R x test (y ∷ ys) h = search (rules, no_partner R x test ys h.1, pointwise, and_left)

pub one_unkept : (view : View) (child : Reader) (f g : FieldShape) (c : Comparand) → c.number ≡ f.number → (hides_zero f g && is_zero_expected c.expected) ≡ false → ((qs : List (Part Item)) → field_read child g (field_records f (writes c ∷ [])) ≡ Some qs → NoneMatches view f g c qs) → is_field_kept view child f g (c ∷ []) ≡ false
one_unkept view child f g c number visible none = and_right _ _ (of (field_read child g (field_records f (writes c ∷ []))) refl)
  where
    of : (o : Option (List (Part Item))) → field_read child g (field_records f (writes c ∷ [])) ≡ o → is_shown view f g (c ∷ []) o ≡ false
    of None e = refl
    of (Some qs) e =
        let there : (is_of f.number (expects c) && not (hides_zero f g && is_zero_expected c.expected)) ≡ true = rw (visible, eq-eqb c.number f.number number) in
        rw there (no_partner (λ (p : Part Expected) (q : Part Item). same_key p.key q.key && matches view f g p.item q.item) (expects c) (λ q. is_of f.number q && not (hides_zero f g && is_zero_item q.item)) qs (none qs e))

-- The parts that a field which is no map has of one record.

module _ (view : View) (child : Reader) (f g : FieldShape) (numbers : f.number ≡ g.number) (wires : same_wire (form_wire (form f.element)) (form_wire (form g.element)) ≡ true) (plain : NotMap child g) where
  takes_one : (leaf : Leaf) → takes g (item_record f.number f.element leaf) ≡ true
  unfolding written
  takes_one leaf = search (rules, and_from, eq-eqb, or_left)

  leaves_one : (leaf : Leaf) → leaves_in g (item_record f.number f.element leaf) ≡ option_map (λ l. l ∷ []) (leaf_in (form g.element) (body (form f.element) leaf))
  unfolding written
  leaves_one leaf = rw wires

  -- what a field keeps of one item
  abbrev pub taken : Leaf → List Leaf
  taken leaf = if is_repeated g.presence then joined ((leaf ∷ []) ∷ []) else last_item g.presence g.element (joined ((leaf ∷ []) ∷ []))

  pub content_one : (leaf read : Leaf) → leaf_in (form g.element) (body (form f.element) leaf) ≡ Some read → content g (filter (takes g) (item_record f.number f.element leaf ∷ [])) ≡ Some (map (plain_part g.number) (taken read))
  content_one leaf read e = search (rules, takes_one, leaves_one)

  pub content_one_none : (leaf : Leaf) → leaf_in (form g.element) (body (form f.element) leaf) ≡ None → content g (filter (takes g) (item_record f.number f.element leaf ∷ [])) ≡ None
  content_one_none leaf e = search (rules, takes_one, leaves_one)

-- what a list or a singular field takes of one item is this item or nothing
abbrev pub IsOneOrNone : Leaf → List Leaf → Type 0
IsOneOrNone leaf leaves = AllByRecursion (λ l. l ≡ leaf) leaves

last_leafy : (p : Presence) (d : Element) (leaf : Leaf) → IsLeafy d → IsOneOrNone leaf (last_item p d (leaf ∷ []))
last_leafy p (elements.Message t) leaf h = absurd h
last_leafy p (elements.Scalar s) leaf h = search rules
last_leafy p (elements.Enum s) leaf h = search rules

taken_leafy : (g : FieldShape) (leaf : Leaf) → IsLeafy g.element → IsOneOrNone leaf (if is_repeated g.presence then joined ((leaf ∷ []) ∷ []) else last_item g.presence g.element (joined ((leaf ∷ []) ∷ [])))
taken_leafy g leaf leafy = search (rules, last_leafy)

abbrev pub leaf_part : ℕ → Leaf → Part Item
leaf_part number leaf = record { number = number; key = None; item = Plain leaf }

pub leaves_read : (child : Reader) (d : Element) (number : ℕ) (leaves : List Leaf) → IsLeafy d → all_some (map (read_part child d) (map (plain_part number) leaves)) ≡ Some (map (leaf_part number) leaves)
leaves_read child d number leaves leafy =
    search (rules, all_some-map_map, plain_part, each_of_all, leafy_reader)

-- a leaf that isn't alike matches nothing
pub leaves_match_none : (view : View) (child : Reader) (f g : FieldShape) (c : Comparand) (read : Leaf) → IsLeafy g.element → c.expected ≡ Alike c.written → alike_leaves view f.element g.element c.written read ≡ false → (leaves : List Leaf) → IsOneOrNone read leaves → (qs : List (Part Item)) → all_some (map (read_part child g.element) (map (plain_part g.number) leaves)) ≡ Some qs → NoneMatches view f g c qs
leaves_match_none view child f g c read leafy so unlike leaves h qs e =
    search (rules, leaves_read, each-map, each_weaker, and_right)

unlike_read : (view : View) (e d : Element) (item read : Leaf) (o : Option Leaf) → o ≡ Some read → is_alike_read view e d item o ≡ false → alike_leaves view e d item read ≡ false
unlike_read view e d item read o is h = subst (λ x. is_alike_read view e d item x ≡ false) is h

-- A leaf that isn't seen, in a record of its own.
pub leaf_broken : (view : View) (child : Reader) (f g : FieldShape) (c : Comparand) → f.number ≡ g.number → same_wire (form_wire (form f.element)) (form_wire (form g.element)) ≡ true → NotMap child g → IsUnpacked f → IsLeafy g.element → c.number ≡ f.number → c.expected ≡ Alike c.written → (hides_zero f g && is_zero c.written) ≡ false → is_seen view f.element g.element c.written ≡ false → is_field_kept view child f g (c ∷ []) ≡ false
leaf_broken view child f g c numbers wires plain unpacked leafy number so visible unseen =
    search (rules, one_unkept, of)
  where
    of : (qs : List (Part Item)) (o : Option Leaf) → leaf_in (form g.element) (body (form f.element) c.written) ≡ o → field_read child g (item_record f.number f.element c.written ∷ []) ≡ Some qs → NoneMatches view f g c qs
    of qs None none e =
        let (ps, there, read) = and_then_some (λ xs. all_some (map (read_part child g.element) xs)) _ qs e in
        let no : ◌≡◌ {A = Option (List (Part Leaf))} None (Some ps) = sym (content_one_none view child f g numbers wires plain c.written none) ∙ there in
        absurd (cc)
    of qs (Some read) some e =
        let (ps, there, parts_read) = and_then_some (λ xs. all_some (map (read_part child g.element) xs)) _ qs e in
        let equal : ◌≡◌ {A = Option (List (Part Leaf))} (Some (map (plain_part g.number) (taken view child f g numbers wires plain read))) (Some ps) = sym (content_one view child f g numbers wires plain c.written read some) ∙ there in
        let same : map (plain_part g.number) (taken view child f g numbers wires plain read) ≡ ps = cc in
        leaves_match_none view child f g c read leafy so (unlike_read view f.element g.element c.written read _ some unseen) (taken view child f g numbers wires plain read) (taken_leafy g read leafy) qs
        (ap (λ xs. all_some (map (read_part child g.element) xs)) same ∙ parts_read)

-- A child that isn't kept.
taken_child : (p : Presence) (t : TypeId) (bytes : List ℕ) → (if is_repeated p then joined ((Bytes bytes ∷ []) ∷ []) else last_item p (elements.Message t) (joined ((Bytes bytes ∷ []) ∷ []))) ≡ Bytes bytes ∷ []
taken_child presences.Implicit t bytes = ap (λ xs. Bytes xs ∷ []) (append-nil bytes)
taken_child presences.Explicit t bytes = ap (λ xs. Bytes xs ∷ []) (append-nil bytes)
taken_child (presences.Repeated w) t bytes = refl
taken_child (presences.Map k) t bytes = ap (λ xs. Bytes xs ∷ []) (append-nil bytes)

pub child_broken : (view : View) (child : Reader) (number : ℕ) (p q : Presence) (s t : TypeId) (o r : Option ℕ) (c : Comparand) → NotMap child (record { number = number; presence = q; element = elements.Message t; oneof = r }) → IsUnpacked (record { number = number; presence = p; element = elements.Message s; oneof = o }) → c.number ≡ number → (bytes : List ℕ) (test : Message → Bool) → c.written ≡ Bytes bytes → c.expected ≡ Kept test → is_child_kept child t test bytes ≡ false → is_field_kept view child (record { number = number; presence = p; element = elements.Message s; oneof = o }) (record { number = number; presence = q; element = elements.Message t; oneof = r }) (c ∷ []) ≡ false
child_broken view child number p q s t o r c plain unpacked at bytes test w so broken =
    one_unkept view child f g c at (rw so (and_right (hides_zero f g) false refl)) (λ qs e. of qs (child t bytes) refl (sym (ap (field_read child g) (unpacked.records_are (writes c ∷ []) ∙ ap (λ l. item_record number (elements.Message s) l ∷ []) w)) ∙ e))
  where
    f : FieldShape
    f = record { number = number; presence = p; element = elements.Message s; oneof = o }

    g : FieldShape
    g = record { number = number; presence = q; element = elements.Message t; oneof = r }

    read : field_read child g (item_record number (elements.Message s) (Bytes bytes) ∷ []) ≡ all_some (map (read_part child (elements.Message t)) (plain_part number (Bytes bytes) ∷ []))
    read =
        ap (option_and_then (λ xs. all_some (map (read_part child (elements.Message t)) xs))) (content_one view child f g refl refl plain (Bytes bytes) (Bytes bytes) refl)
        ∙ ap (λ ls. all_some (map (read_part child (elements.Message t)) (map (plain_part number) ls))) (taken_child q t bytes)

    of : (qs : List (Part Item)) (m : Option Message) → child t bytes ≡ m → field_read child g (item_record number (elements.Message s) (Bytes bytes) ∷ []) ≡ Some qs → NoneMatches view f g c qs
    of qs None none e = search (rules, read)
    of qs (Some m) some e =
        let equal : ◌≡◌ {A = Option (List (Part Item))} (Some (record { number = number; key = None; item = Msg m } ∷ [])) (Some qs) = sym (read ∙ rw some) ∙ e in
        let same : record { number = number; key = None; item = Msg m } ∷ [] ≡ qs = cc in
        let fails : test m ≡ false = subst (λ x. passes test x ≡ false) some broken in
        subst (NoneMatches view f g c) same (and_right (same_key c.key None) _ (rw so fails), tt)

-- Lengths of one comparand's content.
pub unpacked_total : (f : FieldShape) → IsUnpacked f → ((b : ℕ) → one_item f b ≡ length (tag f.number (form_wire (form f.element))) + b) → (c : Comparand) → total f (c ∷ []) ≡ one_item f (body_length (form f.element) c.written)
unpacked_total f unpacked cost_is c = search (rules, append-nil, length-item_record)

-- A record that isn't accepted.
pub untaken_broken : (view : View) (child : Reader) (f g : FieldShape) (c : Comparand) (r : WireRecord) → field_records f (writes c ∷ []) ≡ r ∷ [] → takes g r ≡ false → c.number ≡ f.number → (hides_zero f g && is_zero_expected c.expected) ≡ false → is_field_kept view child f g (c ∷ []) ≡ false
untaken_broken view child f g c r records untaken number visible =
    search (rules, one_unkept, own_contents)

-- a packed list beside a singular field
pub packed_untaken : (f g : FieldShape) (child : Reader) → NotMap child g → is_packable g.element ≡ true → is_repeated g.presence ≡ false → (bytes : List ℕ) → takes g (written f.number Len bytes) ≡ false
unfolding written
packed_untaken f g child plain packable singular bytes = search (rules, packable_wires, and_right)

-- Two items beside a field that takes one at most.

abbrev IsShort : {A : Type 0} → List A → Type 0
IsShort [] = ⊤
IsShort (x ∷ []) = ⊤
IsShort (x ∷ y ∷ xs) = ⊥

short_filter : {A : Type 0} (test : A → Bool) (xs : List A) → IsShort xs → IsShort (filter test xs)
short_filter test [] h = tt
short_filter test (x ∷ []) h = elim (test x) as (λ b. IsShort (cond b (x ∷ []) [])) [ true ↦ tt | false ↦ tt ]
short_filter test (x ∷ y ∷ xs) h = absurd h

too_short : {A B : Type 0} (R : A → B → Bool) (x y : A) (ys : List B) → IsShort ys → pointwise R (x ∷ y ∷ []) ys ≡ false
too_short R x y [] h = refl
too_short R x y (z ∷ []) h = and_right (R x z) false refl
too_short R x y (z ∷ w ∷ ys) h = absurd h

pub two_unkept : (view : View) (child : Reader) (f g : FieldShape) (c d : Comparand) → c.number ≡ f.number → d.number ≡ f.number → hides_zero f g ≡ false → ((qs : List (Part Item)) → field_read child g (field_records f (writes c ∷ writes d ∷ [])) ≡ Some qs → IsShort qs) → is_field_kept view child f g (c ∷ d ∷ []) ≡ false
two_unkept view child f g c d number_c number_d visible short = and_right _ _ (of (field_read child g (field_records f (writes c ∷ writes d ∷ []))) refl)
  where
    of : (o : Option (List (Part Item))) → field_read child g (field_records f (writes c ∷ writes d ∷ [])) ≡ o → is_shown view f g (c ∷ d ∷ []) o ≡ false
    of None e = refl
    of (Some qs) e =
        rw (visible, eq-eqb c.number f.number number_c, eq-eqb d.number f.number number_d)
        (too_short (λ (p : Part Expected) (q : Part Item). same_key p.key q.key && matches view f g p.item q.item) (expects c) (expects d) (filter (λ (q : Part Item). is_of f.number q && true) qs)
        (short_filter (λ (q : Part Item). is_of f.number q && true) qs (short qs e)))

short_of : {A : Type 0} (xs : List A) → IsShort (last_of xs)
short_of [] = tt
short_of (x ∷ []) = tt
short_of (x ∷ y ∷ xs) = short_of (y ∷ xs)

-- a singular field takes one item at most
short_last : (p : Presence) (d : Element) (leaves : List Leaf) → IsShort (last_item p d leaves)
short_last p (elements.Message t) [] = tt
short_last p (elements.Message t) (l ∷ ls) = tt
short_last p (elements.Scalar s) leaves = elim (is_implicit p) as (λ b. IsShort (if b then filter (λ leaf. not (is_zero leaf)) (last_of leaves) else last_of leaves)) [ true ↦ short_filter (λ leaf. not (is_zero leaf)) (last_of leaves) (short_of leaves) | false ↦ short_of leaves ]
short_last p (elements.Enum s) leaves = elim (is_implicit p) as (λ b. IsShort (if b then filter (λ leaf. not (is_zero leaf)) (last_of leaves) else last_of leaves)) [ true ↦ short_filter (λ leaf. not (is_zero leaf)) (last_of leaves) (short_of leaves) | false ↦ short_of leaves ]

short_map : {A B : Type 0} (h : A → B) (xs : List A) → IsShort xs → IsShort (map h xs)
short_map h [] k = tt
short_map h (x ∷ []) k = tt
short_map h (x ∷ y ∷ xs) k = absurd k

short_all_some : {A B : Type 0} (h : A → Option B) (xs : List A) → IsShort xs → (ys : List B) → all_some (map h xs) ≡ Some ys → IsShort ys
short_all_some {A} {B} h [] k ys e = let same : ◌≡◌ {A = List B} [] ys = cc in subst IsShort same tt
short_all_some {A} {B} h (x ∷ []) k ys e = search (rules, option_and_then)
short_all_some h (x ∷ y ∷ xs) k ys e = absurd k

pub singular_short : (child : Reader) (g : FieldShape) → NotMap child g → is_repeated g.presence ≡ false → (rs : List WireRecord) (qs : List (Part Item)) → field_read child g rs ≡ Some qs → IsShort qs
singular_short child g plain singular rs qs e =
    search (rules, and_then_some, option_map_some, plain_part, short_last, short_all_some, short_map)
