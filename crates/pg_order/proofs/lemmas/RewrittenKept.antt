-- Where the new type keeps all messages that are no longer than one, it keeps each field of what was written of that one, and no two
-- of its fields meet in a oneof.
use Rattle.std.proofs.Common.{◌≡◌, ℕ, ◌^◌, ◌<◌, ◌≤◌, inl, inr, ⊎_elim, List, [], ◌∷◌, map, filter, length, true, Option, Some, None, unwrap_or, refl, ap, sym, subst, ◌∙◌, arith}
use Rattle.std.specs.List.{AllByRecursion}
use Rattle.std.specs.declared.cmp.Ordering.TheVariants.{Less}
use Rattle.pg_schema.specs.declared.parts.field.TypeId.{TypeId}
use Rattle.pg_schema.specs.declared.parts.field.Scalar.{Scalar}
use Rattle.pg_schema.specs.declared.parts.field.Element.{Element}
use Rattle.pg_schema.specs.declared.parts.field.Element.TheVariants as elements
use Rattle.pg_schema.specs.declared.parts.field.Presence.{Presence}
use Rattle.pg_schema.specs.declared.parts.field.Presence.TheVariants as presences
use Rattle.pg_schema.specs.Shape.{Shape, FieldShape, fields, field_at}
use Rattle.pg_schema.specs.ShapeRules.{IsField, IsShape, PresenceFits}
use Rattle.pg_wire.specs.declared.record.WireType.TheVariants.{Len}
use Rattle.pg_wire.specs.Records.{written}
use Rattle.pg_dyn.specs.message.Message.{Leaf, Bytes, Message, IsPlain, Part, is_of, key_cmp, unknown_of}
use Rattle.pg_dyn.specs.word.Coding.{form, zero_leaf}
use Rattle.pg_dyn.specs.encoding.Writing.{entry_bytes, field_records, key_of}
use Rattle.pg_dyn.specs.encoding.Encoding.{cap, encoded_parts, enc}
use Rattle.pg_dyn.specs.reading.Decoding.{Reader, dec}
use Rattle.pg_dyn.specs.fitting.Belonging.{IsMessage, MayFollow}
use Rattle.pg_dyn.specs.laws.ByComparands.{EachFieldKept, NoComparandsMeet, comparands_at, is_field_kept}
use Rattle.pg_dyn.specs.laws.FieldLaws.{EntriesRise}
use Rattle.pg_dyn.specs.laws.OwnParts.{Ordered, ShortBodies}
use Rattle.pg_dyn.specs.views.Comparison.{View, Comparand, comparands, writes}
use Rattle.pg_dyn.specs.views.Breaking.{is_kept}
use Rattle.pg_dyn.proofs.Lists.{each_at, each_both, each-map, each_of_all, each_unmapped, each_weaker, filter-map, map_map}
use Rattle.pg_dyn.proofs.lemmas.fitting.Belonging.{fields-IsType, is_flat}
use Rattle.pg_dyn.proofs.lemmas.laws.Flat.{IsFlat, in_order, own_short}
use Rattle.pg_dyn.proofs.lemmas.reading.Fields.{field_of}
use Rattle.pg_dyn.proofs.lemmas.reading.records.Splitting.{found_number}
use Rattle.pg_dyn.proofs.lemmas.views.ByComparands.{comparands_kept, comparands_written}
use Rattle.pg_order.specs.MayWrite.{MayBeParts}
use Rattle.pg_order.specs.Sees.{seen_parts}
use Rattle.pg_order.proofs.lemmas.FieldSeen.{IsGood, Pair, key_or, new_of, old_of}
use Rattle.pg_order.proofs.lemmas.FieldAgain.{field_again}
use Rattle.pg_order.proofs.lemmas.Meets.{none_meet}
use Rattle.pg_order.proofs.lemmas.Embedded.{KeptTo}
use Rattle.pg_order.proofs.lemmas.ChildPairs.{ChildPair, FieldPairs, PartsSeen, field_pairs, none_again, rewritten, same_leaves, writes_back}

-- The entries of a map have bodies of a length that a varint can say, and their keys rise.

abbrev ShortEntry : (Pair → Part Leaf) → Presence → Element → Pair → Type 0
ShortEntry part p e z = (key : Scalar) → p ≡ presences.Map key → length (entry_bytes key e (key_of key (part z)) (part z).item) < 2 ^ 64

short_entries : (n : ℕ) (k : Scalar) (e : Element) (o : Option ℕ) (ps : List (Part Leaf)) → ShortBodies (field_records (field_of n (presences.Map k) e o) ps) → AllByRecursion (λ (x : Part Leaf). length (entry_bytes k e (key_of k x) x.item) < 2 ^ 64) ps
unfolding written
short_entries n k e o ps h = each_unmapped (λ r. length r.body < 2 ^ 64) (λ (x : Part Leaf). written n Len (entry_bytes k e (key_of k x) x.item)) ps h

short_in : (part : Pair → Part Leaf) (n : ℕ) (p : Presence) (e : Element) (o : Option ℕ) (zs : List Pair) → ShortBodies (field_records (field_of n p e o) (map part zs)) → AllByRecursion (ShortEntry part p e) zs
short_in part n presences.Implicit e o zs h = each_of_all (ShortEntry part presences.Implicit e) (λ z key is. absurd (cc)) zs
short_in part n presences.Explicit e o zs h = each_of_all (ShortEntry part presences.Explicit e) (λ z key is. absurd (cc)) zs
short_in part n (presences.Repeated packed) e o zs h = each_of_all (ShortEntry part (presences.Repeated packed) e) (λ z key is. absurd (cc)) zs
short_in part n (presences.Map k) e o zs h =
    each_weaker (λ z. length (entry_bytes k e (key_of k (part z)) (part z).item) < 2 ^ 64) (ShortEntry part (presences.Map k) e)
    (λ z s key is. let same : k ≡ key = cc in subst (λ x. length (entry_bytes x e (key_of x (part z)) (part z).item) < 2 ^ 64) same s) zs
    (each_unmapped (λ (x : Part Leaf). length (entry_bytes k e (key_of k x) x.item) < 2 ^ 64) part zs (short_entries n k e o (map part zs) h))

follows : (key : Scalar) (a b : Option Leaf) → MayFollow (presences.Map key) a b → key_cmp (unwrap_or a (zero_leaf (form (elements.Scalar key)))) (unwrap_or b (zero_leaf (form (elements.Scalar key)))) ≡ Less
follows key None b h = absurd h
follows key (Some k) None h = absurd h
follows key (Some k) (Some l) h = h

abbrev entry_of : Scalar → Pair → Leaf × Leaf
entry_of key z = (key_or key z, Bytes z.after)

rise_of : (part : Pair → Part Leaf) → ((z : Pair) → (part z).key ≡ z.key) → (key : Scalar) (zs : List Pair) → Ordered (presences.Map key) (map part zs) → EntriesRise (map (entry_of key) zs)
rise_of part keys key [] h = tt
rise_of part keys key (z ∷ zs) h = (
  each-map (λ (x : Leaf × Leaf). key_cmp (key_or key z) x.0 ≡ Less) (entry_of key) zs
      (each_weaker (λ y. MayFollow (presences.Map key) (part z).key (part y).key) (λ y. key_cmp (key_or key z) (key_or key y) ≡ Less)
      (λ y m. follows key z.key y.key (subst (λ l. MayFollow (presences.Map key) z.key l) (keys y) (subst (λ k. MayFollow (presences.Map key) k (part y).key) (keys z) m))) zs
      (each_unmapped (λ (r : Part Leaf). MayFollow (presences.Map key) (part z).key r.key) part zs h.0)),
  rise_of part keys key zs h.1,
)

-- the field of children as it is found in both types
again_in : (view : View) (child : Reader) (n m : ℕ) (t : TypeId) (p q : Presence) (e d : Element) (o w : Option ℕ) → e ≡ elements.Message t → m ≡ n → PresenceFits p e o → PresenceFits q d w → (zs : List Pair)
    → AllByRecursion (IsGood view child (field_of n p e o) (field_of m q d w)) zs
    → is_field_kept view child (field_of n p e o) (field_of m q d w) (map (old_of n) zs) ≡ true
    → ((key : Scalar) → p ≡ presences.Map key → EntriesRise (map (entry_of key) zs))
    → is_field_kept view child (field_of n p e o) (field_of m q d w) (map (new_of n) zs) ≡ true
again_in view child n m t p q (elements.Scalar s) d o w is at fits new_fits zs good kept rise = absurd (cc)
again_in view child n m t p q (elements.Enum s) d o w is at fits new_fits zs good kept rise = absurd (cc)
again_in view child n m t p q (elements.Message u) d o w is at fits new_fits zs good kept rise =
    subst (λ x. is_field_kept view child (field_of n p (elements.Message u) o) (field_of x q d w) (map (new_of n) zs) ≡ true) (sym at)
    (field_again view child n u p q d o w fits new_fits zs
    (subst (λ x. AllByRecursion (IsGood view child (field_of n p (elements.Message u) o) (field_of x q d w)) zs) at good)
    (subst (λ x. is_field_kept view child (field_of n p (elements.Message u) o) (field_of x q d w) (map (old_of n) zs) ≡ true) at kept)
    rise)

module _ (view : View) (old new : Shape) (a b : TypeId) (v : Message) (is_old : IsShape old) (is_new : IsShape new) (is_message : IsMessage old a v) (plain : IsPlain v) (small : length (enc old a v) ≤ cap) (kept : KeptTo view old new is_old is_new (length (enc old a v)) a b)
    (ps : List (Part Leaf)) (parts_are : MayBeParts old a v ps) (seen : PartsSeen view old new is_old is_new a v ps parts_are) (flat : IsFlat (length old) (fields old a) ps (unknown_of v)) where
  abbrev fs : List FieldShape
  fs = fields old a

  abbrev gs : List FieldShape
  gs = fields new b

  abbrev cs : List Comparand
  cs = comparands view old new a b v

  abbrev ds : List Comparand
  ds = rewritten ps (seen_parts view old new a b v ps parts_are)

  short : length (enc old a v) < 2 ^ 64
  short = omega (arith, small)

  kept_here : is_kept view old new a b v ≡ true
  kept_here = kept v is_message plain (omega arith)

  own_kept : EachFieldKept view (dec new) fs gs cs
  own_kept = comparands_kept view old new a b v is_old is_new is_message plain short (none_meet view old new a b v is_old is_new is_message plain short kept_here) kept_here

  -- No two comparands meet.
  pub rewritten_apart : NoComparandsMeet gs ds
  rewritten_apart g h at_g at_h sibling =
      ⊎_elim (λ none. inl (none_again view old new is_old is_new a b g.number v ps parts_are none)) (λ none. inr (none_again view old new is_old is_new a b h.number v ps parts_are none))
      (none_meet view old new a b v is_old is_new is_message plain short kept_here g h at_g at_h sibling)

  module _ (f g : FieldShape) (found : field_at fs f.number ≡ Some f) (at : field_at gs f.number ≡ Some g) where
    old_parts : filter (is_of f.number) (encoded_parts old a v) ≡ map writes (comparands_at f.number cs)
    old_parts = ap (filter (is_of f.number)) (sym (comparands_written view old new a b v)) ∙ filter-map (is_of f.number) writes cs

    new_parts : filter (is_of f.number) ps ≡ map writes (comparands_at f.number ds)
    new_parts = ap (filter (is_of f.number)) (sym (writes_back view old new is_old is_new a b v ps parts_are)) ∙ filter-map (is_of f.number) writes ds

    abbrev part_of : (ℕ → Pair → Comparand) → Pair → Part Leaf
    part_of make z = writes (make f.number z)

    module _ (r : FieldPairs view old new is_old is_new a b f g cs ds) where
      as_parts : (make : ℕ → Pair → Comparand) (xs : List Comparand) (qs : List (Part Leaf)) → qs ≡ map writes xs → xs ≡ map (make f.number) r.pairs → qs ≡ map (part_of make) r.pairs
      as_parts make xs qs is are = is ∙ ap (map writes) are ∙ map_map writes (make f.number) r.pairs

      short_before : AllByRecursion (ShortEntry (part_of old_of) f.presence f.element) r.pairs
      short_before =
          short_in (part_of old_of) f.number f.presence f.element f.oneof r.pairs
          (subst (λ qs. ShortBodies (field_records f qs)) (as_parts old_of (comparands_at f.number cs) (filter (is_of f.number) (encoded_parts old a v)) old_parts r.olds)
          (each_at (λ e. ShortBodies (field_records e (filter (is_of e.number) (encoded_parts old a v)))) fs f.number f found
          (own_short (length old) fs (encoded_parts old a v) (unknown_of v) (is_flat old a (fields-IsType old a is_old) v is_message short))))

      short_after : AllByRecursion (ShortEntry (part_of new_of) f.presence f.element) r.pairs
      short_after =
          short_in (part_of new_of) f.number f.presence f.element f.oneof r.pairs
          (subst (λ qs. ShortBodies (field_records f qs)) (as_parts new_of (comparands_at f.number ds) (filter (is_of f.number) ps) new_parts r.news)
          (each_at (λ e. ShortBodies (field_records e (filter (is_of e.number) ps))) fs f.number f found (own_short (length old) fs ps (unknown_of v) flat)))

      all_good : AllByRecursion (IsGood view (dec new) f g) r.pairs
      all_good =
          each_weaker (λ z. ChildPair view old new is_old is_new a b f g z × (ShortEntry (part_of old_of) f.presence f.element z × ShortEntry (part_of new_of) f.presence f.element z)) (IsGood view (dec new) f g)
          (λ z k. record { single = k.0.single; seen = k.0.seen; key_fits = k.0.key_fits; short = λ key is. (k.1.0 key is, k.1.1 key is) }) r.pairs
          (each_both (ChildPair view old new is_old is_new a b f g) (λ z. ShortEntry (part_of old_of) f.presence f.element z × ShortEntry (part_of new_of) f.presence f.element z) r.pairs r.each
          (each_both (ShortEntry (part_of old_of) f.presence f.element) (ShortEntry (part_of new_of) f.presence f.element) r.pairs short_before short_after))

      rise : (key : Scalar) → f.presence ≡ presences.Map key → EntriesRise (map (entry_of key) r.pairs)
      rise key is =
          rise_of (part_of new_of) (λ z. refl) key r.pairs
          (subst (λ p. Ordered p (map (part_of new_of) r.pairs)) is
          (subst (Ordered f.presence) (as_parts new_of (comparands_at f.number ds) (filter (is_of f.number) ps) new_parts r.news) (in_order fs f found ps flat.parts)))

      children_kept : (t : TypeId) → f.element ≡ elements.Message t → is_field_kept view (dec new) f g (comparands_at f.number ds) ≡ true
      children_kept t is =
          subst (λ xs. is_field_kept view (dec new) f g xs ≡ true) (sym r.news)
          (again_in view (dec new) f.number g.number t f.presence g.presence f.element g.element f.oneof g.oneof is (found_number gs f.number g at)
          (each_at (IsField (length old)) fs f.number f found (fields-IsType old a is_old).each).presence_fits
          (each_at (IsField (length new)) gs f.number g at (fields-IsType new b is_new).each).presence_fits
          r.pairs all_good (subst (λ xs. is_field_kept view (dec new) f g xs ≡ true) r.olds (own_kept f g found at)) rise)

    leaves_kept : ((t : TypeId) → f.element ≡ elements.Message t → ⊥) → is_field_kept view (dec new) f g (comparands_at f.number ds) ≡ true
    leaves_kept none =
        subst (λ xs. is_field_kept view (dec new) f g xs ≡ true) (same_leaves view old new is_old is_new a b f g found at none v is_message ps parts_are) (own_kept f g found at)

    field_kept : is_field_kept view (dec new) f g (comparands_at f.number ds) ≡ true
    field_kept = of f.element refl
      where
        of : (e : Element) → f.element ≡ e → is_field_kept view (dec new) f g (comparands_at f.number ds) ≡ true
        of (elements.Scalar s) is = leaves_kept (λ t k. let clash : elements.Scalar s ≡ elements.Message t = sym is ∙ k in cc)
        of (elements.Enum s) is = leaves_kept (λ t k. let clash : elements.Enum s ≡ elements.Message t = sym is ∙ k in cc)
        of (elements.Message t) is =
            children_kept
            (field_pairs view old new is_old is_new a b f g found at t is (length (enc old a v)) kept small v is_message plain (omega arith) ps parts_are seen)
            t is

  -- Each field is kept.
  pub rewritten_kept : EachFieldKept view (dec new) fs gs ds
  rewritten_kept f g found at = field_kept f g found at
