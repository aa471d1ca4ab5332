-- Of two fields that meet in one oneof of the new type one isn't shown, so that none meet in a message that is kept.
use Rattle.std.proofs.Common.{◌≡◌, ℕ, ◌^◌, ◌<◌, ◌⊎◌, inl, inr, List, [], ◌∷◌, map, filter, length, Bool, true, false, not, ◌&&◌, ◌||◌, cond, nat_eq, Option, Some, None, option_and_then, refl, ap, ap₂, sym, subst, ◌∙◌, eq-eqb, true≢false}
use Rattle.std.specs.List.{AllByRecursion, list_any}
use Rattle.std.proofs.lemmas.Bool.{and_parts, and_from, eqb-true, false_from_ne_true}
use lib.Pointwise.{pointwise}
use Rattle.pg_schema.specs.declared.parts.field.TypeId.{TypeId}
use Rattle.pg_schema.specs.declared.parts.field.Element.{Element}
use Rattle.pg_schema.specs.declared.parts.field.Element.TheVariants as elements
use Rattle.pg_schema.specs.declared.parts.field.Presence.{Presence}
use Rattle.pg_schema.specs.declared.parts.field.Presence.TheVariants as presences
use Rattle.pg_schema.specs.Shape.{Shape, FieldShape, fields, field_at, is_implicit, is_singular}
use Rattle.pg_schema.specs.ShapeRules.{IsField, IsShape, PresenceFits, Rising}
use Rattle.pg_wire.specs.Records.{WireRecord}
use Rattle.pg_dyn.specs.reading.Optional.{after_last_of, all_some}
use Rattle.pg_dyn.specs.message.Message.{Leaf, Item, Message, ends, holds, nests, Part, parts, is_of, is_zero, IsPlain}
use Rattle.pg_dyn.specs.reading.Content.{content, counted, is_sibling, same_oneof, takes}
use Rattle.pg_dyn.specs.encoding.Writing.{records_in}
use Rattle.pg_dyn.specs.encoding.Encoding.{encoded_parts, enc}
use Rattle.pg_dyn.specs.reading.Decoding.{dec, field_parts, read_part, read_records}
use Rattle.pg_dyn.specs.fitting.Belonging.{IsMessage, LeafFits, MayBeZero}
use Rattle.pg_dyn.specs.laws.ByComparands.{NoComparandsMeet, comparands_at}
use Rattle.pg_dyn.specs.laws.Laws.{IsKeptByField}
use Rattle.pg_dyn.specs.views.Comparison.{View, Comparand, Expected, comparands, expected, expects, hides_zero, is_zero_expected, matches, same_content, same_key, shown}
use Rattle.pg_dyn.specs.views.Breaking.{is_kept}
use Rattle.pg_dyn.proofs.Lists.{each_at, each_weaker, each-filter, filter-after_last_of_none, filter-map, list_any_at, none_list_any}
use Rattle.pg_dyn.proofs.lemmas.fitting.Belonging.{fields-IsType}
use Rattle.pg_dyn.proofs.lemmas.laws.Flat.{is_sibling_sym}
use Rattle.pg_dyn.proofs.lemmas.reading.Depth.{dec_is}
use Rattle.pg_dyn.proofs.lemmas.reading.Fields.{field_of}
use Rattle.pg_dyn.proofs.lemmas.reading.records.ReadSplits.{field_split, reading_of}
use Rattle.pg_dyn.proofs.lemmas.reading.records.Splitting.{found_number}
use Rattle.pg_dyn.proofs.lemmas.reading.records.RecordsRead.{content_none}
use Rattle.pg_dyn.proofs.lemmas.views.ByComparands.{same_content-filter}
use Rattle.pg_dyn.proofs.lemmas.views.ByField.{kept_gives, records_are}

module _ {A : Type 0} (p q t u : A → Bool) (later : (x : A) → q x ≡ true → t x ≡ true) (earlier : (x : A) → p x ≡ true → u x ≡ true) where
  none_after : (own test other : A → Bool) → ((x : A) → own x ≡ true → other x ≡ true) → (xs : List A) (y : A) (ys : List A) → list_any other xs ≡ false → filter own (after_last_of test xs) ≡ y ∷ ys → ⊥
  none_after own test other up xs y ys none some =
      let empty = filter-after_last_of_none own test xs
      (each_weaker (λ x. other x ≡ false) (λ x. own x ≡ false) (λ x no. false_from_ne_true (own x) (λ yes. true≢false (sym (up x yes) ∙ no))) xs (none_list_any other xs none)) in
      let clash : ◌≡◌ {A = List A} [] (y ∷ ys) = sym empty ∙ some in
      cc

  -- what is after the last of the others can't be there for both
  pub both_after : (xs : List A) (y z : A) (ys zs : List A) → filter p (after_last_of t xs) ≡ y ∷ ys → filter q (after_last_of u xs) ≡ z ∷ zs → ⊥
  both_after [] y z ys zs h k = let clash : ◌≡◌ {A = List A} [] (y ∷ ys) = h in cc
  both_after (x ∷ xs) y z ys zs h k = of (both_after xs y z ys zs) (list_any t (x ∷ xs)) refl (list_any u (x ∷ xs)) refl
    where
      of : (filter p (after_last_of t xs) ≡ y ∷ ys → filter q (after_last_of u xs) ≡ z ∷ zs → ⊥) → (b : Bool) → list_any t (x ∷ xs) ≡ b → (c : Bool) → list_any u (x ∷ xs) ≡ c → ⊥
      of again false e c f = none_after q u t later (x ∷ xs) z zs e k
      of again true e false f = none_after p t u earlier (x ∷ xs) y ys f h
      of again true e true f = again (sym (ap (λ b. filter p (cond b (after_last_of t xs) (x ∷ xs))) e) ∙ h) (sym (ap (λ b. filter q (cond b (after_last_of u xs) (x ∷ xs))) f) ∙ k)

-- Of the members of a oneof zero is hidden only beside an implicit field, whose items aren't zero.

member_is_explicit : (p : Presence) (e : Element) (o w : Option ℕ) → PresenceFits p e o → same_oneof o w ≡ true → p ≡ presences.Explicit
member_is_explicit p e None w fits same = absurd (cc)
member_is_explicit presences.Implicit (elements.Scalar s) (Some n) w fits same = absurd (cc)
member_is_explicit presences.Implicit (elements.Enum s) (Some n) w fits same = absurd (cc)
member_is_explicit presences.Implicit (elements.Message t) (Some n) w fits same = absurd fits
member_is_explicit presences.Explicit e (Some n) w fits same = refl
member_is_explicit (presences.Repeated packed) e (Some n) w fits same = absurd (let none = fits.0 in cc)
member_is_explicit (presences.Map key) e (Some n) w fits same = absurd (let none = fits.0 in cc)

hidden_beside : (p : Presence) → (is_singular p && is_singular presences.Explicit && (is_implicit p || is_implicit presences.Explicit)) ≡ true → p ≡ presences.Implicit
hidden_beside presences.Implicit h = refl
hidden_beside presences.Explicit h = absurd (cc)
hidden_beside (presences.Repeated packed) h = absurd (cc)
hidden_beside (presences.Map key) h = absurd (cc)

module _ (view : View) (old new : Shape) (a b : TypeId) where
  abbrev fs : List FieldShape
  fs = fields old a

  -- what is known of each comparand: its field, in which it isn't zero if that is implicit
  pub record HasField (c : Comparand) : Type 0 where
    pub field : FieldShape
    pub found : field_at fs c.number ≡ Some field
    pub not_zero : field.presence ≡ presences.Implicit → is_zero_expected c.expected ≡ false

  leaf_not_zero : (n : ℕ) (p : Presence) (e : Element) (o : Option ℕ) (leaf : Leaf) → LeafFits (field_of n p e o) leaf → p ≡ presences.Implicit → is_zero leaf ≡ false
  leaf_not_zero n p (elements.Message t) o leaf h is = absurd h
  leaf_not_zero n p (elements.Scalar s) o leaf h is = subst (λ x. MayBeZero x leaf) is h.1
  leaf_not_zero n p (elements.Enum s) o leaf h is = subst (λ x. MayBeZero x leaf) is h.1

  pub each_has_field : (v : Message) → IsMessage old a v → AllByRecursion HasField (comparands view old new a b v)
  each_has_field (ends unknown) h = tt
  each_has_field (holds number key leaf later) h =
      (record { field = h.0.field; found = h.0.found; not_zero = leaf_not_zero h.0.field.number h.0.field.presence h.0.field.element h.0.field.oneof leaf h.1 }, each_has_field later h.2)
  each_has_field (nests number key child later) h = (record { field = h.0.field; found = h.0.found; not_zero = λ is. refl }, each_has_field later h.4)

module _ (view : View) (old new : Shape) (a b : TypeId) (v : Message) (is_old : IsShape old) (is_new : IsShape new) (is_message : IsMessage old a v) (plain : IsPlain v) (short : length (enc old a v) < 2 ^ 64) (kept : is_kept view old new a b v ≡ true) where
  abbrev gs : List FieldShape
  gs = fields new b

  abbrev cs : List Comparand
  cs = comparands view old new a b v

  abbrev rs : List WireRecord
  rs = records_in (fields old a) (encoded_parts old a v)

  abbrev test : FieldShape → WireRecord → Bool
  test g r = list_any (λ h. is_sibling g h && takes h r) gs

  abbrev meets : FieldShape → FieldShape → Part Expected → Part Item → Bool
  meets f g x y = same_key x.key y.key && matches view f g x.item y.item

  some_not_none : (f g : FieldShape) (shows : Bool) → shows ≡ true → (x : Part Expected) (xs : List (Part Expected)) → pointwise (meets f g) (cond shows (x ∷ xs) xs) [] ≡ true → ⊥
  some_not_none f g true e x xs h = true≢false (sym h)
  some_not_none f g false e x xs h = true≢false (sym e)

  rising : Rising gs
  rising = (fields-IsType new b is_new).rising

  -- a member with a comparand has records that count
  counted_some : (g h : FieldShape) → field_at gs g.number ≡ Some g → is_sibling g h ≡ true → (c : Comparand) (rest : List Comparand) → comparands_at g.number cs ≡ c ∷ rest → counted gs g rs ≡ [] → ⊥
  counted_some g h at_g sibling c rest some none =
      some_not_none f g (is_of f.number (expects c) && not (hides_zero f g && is_zero_expected c.expected))
      (and_from (nat_eq c.number f.number) (not (hides_zero f g && is_zero_expected c.expected)) (eq-eqb c.number f.number (number_is ∙ sym own_number)) (ap not (zero_shown (hides_zero f g) refl)))
      (expects c) (shown is_zero_expected (hides_zero f g) f.number (map expects rest)) nothing_shown
    where
      each : AllByRecursion (λ x. HasField view old new a b x × (nat_eq x.number g.number ≡ true)) (c ∷ rest)
      each = subst (AllByRecursion (λ x. HasField view old new a b x × (nat_eq x.number g.number ≡ true))) some (each-filter (HasField view old new a b) (λ x. nat_eq x.number g.number) cs (each_has_field view old new a b v is_message))

      f : FieldShape
      f = each.0.0.field

      number_is : c.number ≡ g.number
      number_is = eqb-true c.number g.number each.0.1

      found : field_at (fields old a) g.number ≡ Some f
      found = subst (λ n. field_at (fields old a) n ≡ Some f) number_is each.0.0.found

      own_number : f.number ≡ g.number
      own_number = found_number (fields old a) g.number f found

      explicit : g.presence ≡ presences.Explicit
      explicit =
          member_is_explicit g.presence g.element g.oneof h.oneof (each_at (IsField (length new)) gs g.number g at_g (fields-IsType new b is_new).each).presence_fits (and_parts (same_oneof g.oneof h.oneof) _ sibling).0

      zero_shown : (t : Bool) → hides_zero f g ≡ t → (t && is_zero_expected c.expected) ≡ false
      zero_shown false is = refl
      zero_shown true is = each.0.0.not_zero (hidden_beside f.presence (sym (ap (λ p. is_singular f.presence && is_singular p && (is_implicit f.presence || is_implicit p)) explicit) ∙ is))

      kept_so : IsKeptByField view old new a b v
      kept_so = kept_gives view old new a b v is_old is_new is_message plain short kept

      read : read_records (dec new) gs rs ≡ Some kept_so.0
      read = sym (rw (dec_is new b (enc old a v), records_are view old new a b v is_old is_new is_message plain short) refl) ∙ kept_so.1

      split : field_parts (dec new) gs rs g ≡ Some (filter (is_of g.number) (parts kept_so.0))
      split = field_split (dec new) gs rs kept_so.0 rising (reading_of (dec new) gs rs kept_so.0 read) g.number g at_g

      empty : filter (is_of g.number) (parts kept_so.0) ≡ []
      empty =
          let k : ◌≡◌ {A = Option (List (Part Item))} (Some []) (Some (filter (is_of g.number) (parts kept_so.0))) =
          sym (ap (λ xs. option_and_then (λ ps. all_some (map (read_part (dec new) g.element) ps)) (content g xs)) none ∙ ap (option_and_then (λ ps. all_some (map (read_part (dec new) g.element) ps))) (content_none g)) ∙ split in
          cc

      own_comparands : filter (is_of g.number) (expected view old new a b v) ≡ expects c ∷ map expects rest
      own_comparands = filter-map (is_of g.number) expects cs ∙ ap (map expects) some

      nothing_shown : same_content view f g (expects c ∷ map expects rest) [] ≡ true
      nothing_shown =
          ap₂ (same_content view f g) (sym own_comparands) (sym empty)
          ∙ subst (λ m. same_content view f g (filter (is_of m) (expected view old new a b v)) (filter (is_of m) (parts kept_so.0)) ≡ true) own_number
          (same_content-filter view f g (expected view old new a b v) (parts kept_so.0) ∙ kept_so.2 g.number f g found at_g)

  -- No two comparands meet.
  pub none_meet : NoComparandsMeet gs cs
  none_meet g h at_g at_h sibling = of (comparands_at g.number cs) (comparands_at h.number cs) refl refl
    where
      taken_by : (x y : FieldShape) → field_at gs y.number ≡ Some y → is_sibling x y ≡ true → (r : WireRecord) → takes y r ≡ true → test x r ≡ true
      taken_by x y at_y siblings r takes_it = list_any_at (λ k. is_sibling x k && takes k r) gs y.number y at_y (and_from (is_sibling x y) (takes y r) siblings takes_it)

      both : (c d : Comparand) (cs' ds : List Comparand) → comparands_at g.number cs ≡ c ∷ cs' → comparands_at h.number cs ≡ d ∷ ds → (xs ys : List WireRecord) → counted gs g rs ≡ xs → counted gs h rs ≡ ys → ⊥
      both c d cs' ds some_g some_h [] ys none_g is_h = counted_some g h at_g sibling c cs' some_g none_g
      both c d cs' ds some_g some_h (x ∷ xs) [] is_g none_h = counted_some h g at_h (is_sibling_sym g h sibling) d ds some_h none_h
      both c d cs' ds some_g some_h (x ∷ xs) (y ∷ ys) is_g is_h =
          both_after (takes g) (takes h) (test g) (test h) (taken_by g h at_h sibling) (taken_by h g at_g (is_sibling_sym g h sibling)) rs x y xs ys is_g is_h

      of : (xs ys : List Comparand) → comparands_at g.number cs ≡ xs → comparands_at h.number cs ≡ ys → (comparands_at g.number cs ≡ []) ⊎ (comparands_at h.number cs ≡ [])
      of [] ys none other = inl none
      of (c ∷ xs) [] some none = inr none
      of (c ∷ xs) (d ∷ ys) some_g some_h = absurd (both c d xs ys some_g some_h (counted gs g rs) (counted gs h rs) refl refl)
