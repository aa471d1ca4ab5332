-- Integers of two wire types: what is written of the one isn't read as one item of the other.
use Rattle.std.proofs.Common.{◌≡◌, ℕ, List, [], ◌∷◌, ◌++◌, map, filter, Bool, true, false, ◌&&◌, Option, Some, None, option_map, ◌⊎◌, inl, inr, ⊎_elim, refl, ap, sym, ◌∙◌, subst, arith, append-nil, eq-eqb, rules}
use Rattle.std.specs.List.{AllByRecursion}
use Rattle.std.proofs.lemmas.Bool.{and_right, cases_Bool}
use lib.Pointwise.{pointwise}
use Rattle.pg_schema.specs.declared.parts.field.Scalar.TheVariants as scalars
use Rattle.pg_schema.specs.declared.parts.field.Element.{Element}
use Rattle.pg_schema.specs.declared.parts.field.Element.TheVariants as elements
use Rattle.pg_schema.specs.declared.parts.field.Presence.TheVariants as presences
use Rattle.pg_schema.specs.Shape.{FieldShape, is_packable}
use Rattle.pg_wire.specs.declared.record.WireType.{WireType}
use Rattle.pg_wire.specs.declared.record.WireType.TheVariants.{Varint, I64, Len, I32}
use Rattle.pg_wire.specs.Reading.{exactly, row}
use Rattle.pg_wire.specs.Varint.{varint_at}
use Rattle.pg_wire.specs.Records.{written}
use Rattle.pg_dyn.specs.reading.Optional.{all_some, joined}
use Rattle.pg_dyn.specs.message.Message.{Leaf, Item, Part, is_of}
use Rattle.pg_dyn.specs.word.Coding.{Form, Integer, Single, Double, Text, Raw, form, form_wire, body, element_at, zero_leaf}
use Rattle.pg_dyn.specs.reading.Content.{same_wire, takes, option_from, leaves_in, plain_content, content}
use Rattle.pg_dyn.specs.encoding.Writing.{item_record, field_records}
use Rattle.pg_dyn.specs.reading.Decoding.{Reader, read_item, read_part}
use Rattle.pg_dyn.specs.views.Comparison.{View, Expected, same_key, matches, Comparand, writes, expects}
use Rattle.pg_dyn.proofs.Lists.{each_weaker, each_of_all, each-map, filter_all, and_then_some, option_map_some}
use Rattle.pg_pairs.specs.gaps.Likeness.{like_forms, like}
use Rattle.pg_dyn.specs.laws.ByComparands.{field_read, is_shown, is_field_kept}
use Rattle.pg_pairs.proofs.lemmas.gaps.GapItems.{IsLeafy}
use Rattle.pg_pairs.proofs.lemmas.bounds.AcrossPlain.{plain_part, NotMap}
use Rattle.pg_pairs.proofs.lemmas.gaps.Zeros.{zero_bytes, zero_written}
use Rattle.pg_pairs.proofs.lemmas.bounds.Broken.{untaken_broken}
use Rattle.pg_pairs.proofs.lemmas.gaps.KindsRead.{form_kind, each_some_from}
use Rattle.pg_dyn.proofs.PublicLaws.{packable_wires}

-- Unlike forms are of two kinds, or integers of two wire types.
unlike_forms : (a b : Form) → like_forms a b ≡ false → (form_kind a ≡ form_kind b → ⊥) ⊎ ((form_kind a ≡ 0) × (form_kind b ≡ 0) × (same_wire (form_wire a) (form_wire b) ≡ false))
unlike_forms (Integer a) (Integer b) h = inr (refl, refl, h)
unlike_forms (Integer a) Single h = inl (λ e. omega arith)
unlike_forms (Integer a) Double h = inl (λ e. omega arith)
unlike_forms (Integer a) Text h = inl (λ e. omega arith)
unlike_forms (Integer a) Raw h = inl (λ e. omega arith)
unlike_forms Single (Integer b) h = inl (λ e. omega arith)
unlike_forms Single Single h = absurd (cc)
unlike_forms Single Double h = inl (λ e. omega arith)
unlike_forms Single Text h = inl (λ e. omega arith)
unlike_forms Single Raw h = inl (λ e. omega arith)
unlike_forms Double (Integer b) h = inl (λ e. omega arith)
unlike_forms Double Single h = inl (λ e. omega arith)
unlike_forms Double Double h = absurd (cc)
unlike_forms Double Text h = inl (λ e. omega arith)
unlike_forms Double Raw h = inl (λ e. omega arith)
unlike_forms Text (Integer b) h = inl (λ e. omega arith)
unlike_forms Text Single h = inl (λ e. omega arith)
unlike_forms Text Double h = inl (λ e. omega arith)
unlike_forms Text Text h = absurd (cc)
unlike_forms Text Raw h = absurd (cc)
unlike_forms Raw (Integer b) h = inl (λ e. omega arith)
unlike_forms Raw Single h = inl (λ e. omega arith)
unlike_forms Raw Double h = inl (λ e. omega arith)
unlike_forms Raw Text h = absurd (cc)
unlike_forms Raw Raw h = absurd (cc)

pub unlike_leaves : (e d : Element) → IsLeafy e → IsLeafy d → like e d ≡ false → (form_kind (form e) ≡ form_kind (form d) → ⊥) ⊎ ((form_kind (form e) ≡ 0) × (form_kind (form d) ≡ 0) × (same_wire (form_wire (form e)) (form_wire (form d)) ≡ false))
unlike_leaves (elements.Message s) d old new h = absurd old
unlike_leaves (elements.Scalar s) (elements.Message t) old new h = absurd new
unlike_leaves (elements.Enum s) (elements.Message t) old new h = absurd new
unlike_leaves (elements.Scalar s) (elements.Scalar t) old new h = unlike_forms (form (elements.Scalar s)) (form (elements.Scalar t)) h
unlike_leaves (elements.Scalar s) (elements.Enum t) old new h = unlike_forms (form (elements.Scalar s)) (form (elements.Enum t)) h
unlike_leaves (elements.Enum s) (elements.Scalar t) old new h = unlike_forms (form (elements.Enum s)) (form (elements.Scalar t)) h
unlike_leaves (elements.Enum s) (elements.Enum t) old new h = unlike_forms (form (elements.Enum s)) (form (elements.Enum t)) h

-- integers are packable
pub integer_packable : (e : Element) → IsLeafy e → form_kind (form e) ≡ 0 → is_packable e ≡ true
integer_packable (elements.Scalar scalars.String) leafy h = absurd (omega arith)
integer_packable (elements.Scalar scalars.Bytes) leafy h = absurd (omega arith)
integer_packable (elements.Scalar s) leafy h = refl
integer_packable (elements.Enum s) leafy h = refl
integer_packable (elements.Message t) leafy h = absurd leafy

same_wire_sym : (a b : WireType) → same_wire a b ≡ false → same_wire b a ≡ false
same_wire_sym Varint Varint h = h
same_wire_sym Varint I64 h = refl
same_wire_sym Varint Len h = refl
same_wire_sym Varint I32 h = refl
same_wire_sym I64 Varint h = refl
same_wire_sym I64 I64 h = h
same_wire_sym I64 Len h = refl
same_wire_sym I64 I32 h = refl
same_wire_sym Len Varint h = refl
same_wire_sym Len I64 h = refl
same_wire_sym Len Len h = h
same_wire_sym Len I32 h = refl
same_wire_sym I32 Varint h = refl
same_wire_sym I32 I64 h = refl
same_wire_sym I32 Len h = refl
same_wire_sym I32 I32 h = h

-- a record of its own, of another wire type, isn't accepted
pub wire_untaken : (child : Reader) (f g : FieldShape) → NotMap child g → is_packable f.element ≡ true → same_wire (form_wire (form f.element)) (form_wire (form g.element)) ≡ false → (leaf : Leaf) → takes g (item_record f.number f.element leaf) ≡ false
unfolding written
wire_untaken child f g plain packable wires leaf =
    search (rules, same_wire_sym, packable_wires, and_right)

-- One packed zero, read in a row of another wire type: two items or more, or no reading.

abbrev pub IsLong : {A : Type 0} → List A → Type 0
IsLong [] = ⊥
IsLong (x ∷ []) = ⊥
IsLong (x ∷ y ∷ xs) = Unit {0}

abbrev IsLongOrNone : Option (List (List ℕ)) → Type 0
IsLongOrNone (Some bodies) = IsLong bodies
IsLongOrNone None = Unit {0}

zero_rows : (old new : WireType) → same_wire old new ≡ false → same_wire Len old ≡ false → same_wire Len new ≡ false → IsLongOrNone (option_from (row (element_at new) (zero_bytes old)))
unfolding zero_bytes row exactly varint_at
zero_rows Varint I64 h a b = tt
zero_rows Varint I32 h a b = tt
zero_rows I64 Varint h a b = tt
zero_rows I64 I32 h a b = tt
zero_rows I32 Varint h a b = tt
zero_rows I32 I64 h a b = tt
zero_rows Varint Varint h a b = absurd (cc)
zero_rows I64 I64 h a b = absurd (cc)
zero_rows I32 I32 h a b = absurd (cc)
zero_rows Len new h a b = absurd (cc)
zero_rows Varint Len h a b = absurd (cc)
zero_rows I64 Len h a b = absurd (cc)
zero_rows I32 Len h a b = absurd (cc)

long_all_some : {A B : Type 0} (g : A → Option B) (xs : List A) → IsLong xs → (ys : List B) → all_some (map g xs) ≡ Some ys → IsLong ys
long_all_some g [] k ys h = absurd k
long_all_some g (x ∷ []) k ys h = absurd k
long_all_some {A} {B} g (x ∷ y ∷ xs) k ys h = search (rules, and_then_some, option_map_some)

too_long : {A B : Type 0} (R : A → B → Bool) (x : A) (ys : List B) → IsLong ys → pointwise R (x ∷ []) ys ≡ false
too_long R x [] h = absurd h
too_long R x (y ∷ []) h = absurd h
too_long R x (y ∷ z ∷ ys) h = and_right (R x y) false refl

long_map : {A B : Type 0} (h : A → B) (xs : List A) → IsLong xs → IsLong (map h xs)
long_map h [] k = k
long_map h (x ∷ []) k = k
long_map h (x ∷ y ∷ xs) k = tt

long_front : {A : Type 0} (xs ys : List A) → IsLong xs → IsLong (xs ++ ys)
long_front [] ys k = absurd k
long_front (x ∷ []) ys k = absurd k
long_front (x ∷ y ∷ xs) ys k = tt

long_bodies : (o : Option (List (List ℕ))) (bodies : List (List ℕ)) → IsLongOrNone o → o ≡ Some bodies → IsLong bodies
long_bodies (Some bs) bodies h e = let same : bs ≡ bodies = cc in subst IsLong same h
long_bodies None bodies h e = absurd (cc)

module _ (view : View) (child : Reader) (number : ℕ) (e d : Element) (o r : Option ℕ) (w : Bool) (plain : NotMap child (record { number = number; presence = presences.Repeated w; element = d; oneof = r }))
    (packable_old : is_packable e ≡ true) (packable_new : is_packable d ≡ true) (wires : same_wire (form_wire (form e)) (form_wire (form d)) ≡ false) (c : Comparand) (at : c.number ≡ number) (written_is : c.written ≡ zero_leaf (form e)) where
  abbrev f : FieldShape
  f = record { number = number; presence = presences.Repeated true; element = e; oneof = o }

  abbrev g : FieldShape
  g = record { number = number; presence = presences.Repeated w; element = d; oneof = r }

  body_is : body (form e) c.written ++ [] ≡ zero_bytes (form_wire (form e))
  body_is = append-nil (body (form e) c.written) ∙ ap (body (form e)) written_is ∙ zero_written e

  leaves_long : (leaves : List Leaf) → leaves_in g (written number Len (body (form e) c.written ++ [])) ≡ Some leaves → IsLong leaves
  unfolding written
  leaves_long leaves h =
      search (rules, packable_wires, and_then_some, long_all_some, long_bodies, zero_bytes, zero_rows, body_is)

  content_long : (ps : List (Part Leaf)) → content g (written number Len (body (form e) c.written ++ []) ∷ []) ≡ Some ps → IsLong ps × AllByRecursion (λ (p : Part Leaf). p.number ≡ number) ps
  content_long ps h =
      let (leaves, plain_is, made) = option_map_some (map (plain_part number)) (plain_content g (written number Len (body (form e) c.written ++ []) ∷ [])) ps (sym (plain.content_is (written number Len (body (form e) c.written ++ []) ∷ [])) ∙ h) in
      let (rows, all, joined_is) = option_map_some (λ (xs : List (List Leaf)). joined xs) (all_some (map (leaves_in g) (written number Len (body (form e) c.written ++ []) ∷ []))) leaves plain_is in
      let (first, read, more) = and_then_some (λ x. option_map (λ xs. x ∷ xs) (Some [])) (leaves_in g (written number Len (body (form e) c.written ++ []))) rows all in
      let one : first ∷ [] ≡ rows = cc in
      let long : IsLong leaves = subst IsLong (ap joined one ∙ joined_is) (long_front first [] (leaves_long first read)) in (
        subst IsLong made (long_map (plain_part number) leaves long),
        subst (AllByRecursion (λ (p : Part Leaf). p.number ≡ number)) made (each-map (λ (p : Part Leaf). p.number ≡ number) (plain_part number) leaves (each_of_all (λ (l : Leaf). number ≡ number) (λ l. refl) leaves)),
      )

  pub rows_broken : is_field_kept view child f g (c ∷ []) ≡ false
  rows_broken =
      ⊎_elim
      (λ taken.
      and_right _ _ (of (field_read child g (field_records f (writes c ∷ []))) refl taken))
      (λ untaken. untaken_broken view child f g c (written number Len (body (form e) c.written ++ [])) refl untaken at refl)
      (cases_Bool (takes g (written number Len (body (form e) c.written ++ []))))
    where
      of : (x : Option (List (Part Item))) → field_read child g (field_records f (writes c ∷ [])) ≡ x → takes g (written number Len (body (form e) c.written ++ [])) ≡ true → is_shown view f g (c ∷ []) x ≡ false
      of None h taken = refl
      of (Some qs) h taken =
          let kept : filter (takes g) (written number Len (body (form e) c.written ++ []) ∷ []) ≡ written number Len (body (form e) c.written ++ []) ∷ [] = rw taken in
          let (ps, content_is, read) = and_then_some (λ xs. all_some (map (read_part child d) xs)) _ qs h in
          let (long, numbers) = content_long ps (ap (content g) (sym kept) ∙ content_is) in
          let all : AllByRecursion (λ (q : Part Item). q.number ≡ number) qs =
          each_some_from (λ (p : Part Leaf). p.number ≡ number) (λ (q : Part Item). q.number ≡ number) (read_part child d)
          (λ p q is part.
          let (item, item_is, made) = option_map_some (λ (i : Item). record { number = p.number; key = p.key; item = i }) (read_item child d p.item) q part in
          ap (λ (x : Part Item). x.number) (sym made) ∙ is)
          ps numbers qs read in
          let shown_all : filter (λ (q : Part Item). is_of number q && true) qs ≡ qs =
          filter_all (λ (q : Part Item). is_of number q && true) qs (each_weaker (λ (q : Part Item). q.number ≡ number) (λ q. (is_of number q && true) ≡ true) (λ q is. rw (eq-eqb q.number number is)) qs all) in
          rw (eq-eqb c.number number at, shown_all)
          (too_long (λ (p : Part Expected) (q : Part Item). same_key p.key q.key && matches view f g p.item q.item) (expects c) qs (long_all_some (read_part child d) ps long qs read))
