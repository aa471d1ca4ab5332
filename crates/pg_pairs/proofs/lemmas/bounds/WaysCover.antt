-- A message that breaks, while none inside it does, breaks in some way.
use Rattle.std.proofs.Common.{◌≡◌, ◌⊎◌, inl, inr, refl, sym, ◌∙◌, ◌∷◌, [], true, List, Option, None, ap, subst, arith, false, ℕ, ◌^◌, ◌<◌, ◌≤◌, length, not, eq-eqb, ⊎_elim, ◌&&◌, nat_eq, subst₂}
use Rattle.std.specs.Bool.{⊤}
use Rattle.std.specs.List.{AllByRecursion}
use Rattle.std.proofs.lemmas.Bool.{and_parts, and_right, cases_Bool}
use Rattle.pg_schema.specs.Shape.{fields, Shape, FieldShape, is_packable, is_repeated, is_singular}
use Rattle.pg_schema.specs.ShapeRules.{IsShape, PresenceFits}
use Rattle.pg_schema.specs.declared.parts.field.Element.{Element}
use Rattle.pg_schema.specs.declared.parts.field.Element.TheVariants as elements
use Rattle.pg_schema.specs.declared.parts.field.Presence.{Presence}
use Rattle.pg_schema.specs.declared.parts.field.Presence.TheVariants as presences
use Rattle.pg_schema.specs.declared.parts.field.Scalar.{Scalar}
use Rattle.pg_schema.specs.declared.parts.field.TypeId.{TypeId}
use Rattle.pg_dyn.specs.encoding.Encoding.{cap, enc}
use Rattle.pg_dyn.specs.encoding.Writing.{is_packed, key_of}
use Rattle.pg_dyn.specs.fitting.Belonging.{IsMessage, MayBeZero, KeyFits}
use Rattle.pg_dyn.specs.laws.ByComparands.{is_field_kept, comparands_at}
use Rattle.pg_dyn.specs.message.Message.{Leaf, is_zero, Item, Message, Plain, Msg, only, IsPlain}
use Rattle.pg_dyn.specs.reading.Decoding.{Reader, dec}
use Rattle.pg_dyn.specs.views.Breaking.{Breaks}
use Rattle.pg_dyn.specs.views.Comparison.{View, Alike, Kept, Comparand, comparands, is_zero_expected, is_zero_item, writes, hides_zero, Expected}
use Rattle.pg_dyn.proofs.Lists.{each_weaker, each_of_all, each_both}
use Rattle.pg_dyn.proofs.PublicLaws.{unknown_is_kept}
use Rattle.pg_pairs.specs.bounds.Covering.{IsAmong, children, has_children}
use Rattle.pg_pairs.specs.choices.Choices.{map_key}
use Rattle.pg_pairs.specs.choices.Held.{HasItem, NoneBreaksInside}
use Rattle.pg_pairs.specs.choices.Ways.{AreMaps, are_alike, are_unlike, have_like_entries, is_shown, BreaksBy, IsReadAsItself, HoldsMisread}
use Rattle.pg_pairs.specs.declared.choices.case.Case.{Case}
use Rattle.pg_pairs.specs.declared.choices.case.Case.TheVariants as cases
use Rattle.pg_pairs.specs.declared.choices.choice.Pair.{Pair}
use Rattle.pg_pairs.specs.gaps.Likeness.{like}
use Rattle.pg_pairs.specs.gaps.TrueGaps.{is_seen}
use Rattle.pg_pairs.specs.inner.Contents.{total, ChildBound, IsContent, Holds, IsAtMostOne, RisingKeys, HoldsItem, IsInOrder}
use Rattle.pg_pairs.specs.laws.FieldCosts.{IsShared}
use Rattle.pg_pairs.specs.laws.WaysCover.{BreaksSomehow, WaysCover}
use Rattle.pg_pairs.specs.views.EnumView.{EnumView}
use Rattle.pg_pairs.specs.views.ViewLaws.{IsEnumView}
use Rattle.pg_pairs.proofs.lemmas.bounds.Across.{Seen, kept_across}
use Rattle.pg_pairs.proofs.lemmas.bounds.AcrossMap.{SeenEntry}
use Rattle.pg_pairs.proofs.lemmas.bounds.AcrossPlain.{IsNoMap}
use Rattle.pg_pairs.proofs.lemmas.bounds.BreaksTold.{none_of, all_there, claims_of, held_at}
use Rattle.pg_pairs.proofs.lemmas.bounds.Comparands.{empty_kept, EntryCosts, entry_costs, leafy_item}
use Rattle.pg_pairs.proofs.lemmas.bounds.Fates.{key_seen, key_there}
use Rattle.pg_pairs.proofs.lemmas.bounds.FieldKinds.{AreLike, alike_parts, kind_of}
use Rattle.pg_pairs.proofs.lemmas.bounds.HeldParts.{only_there, leaf_there, IsOf, part_of, message_alone, plain_alone}
use Rattle.pg_pairs.proofs.lemmas.bounds.ListsTold.{seen_at}
use Rattle.pg_pairs.proofs.lemmas.bounds.LowerBound.{some_breaks}
use Rattle.pg_pairs.proofs.lemmas.bounds.OneMessage.{Meets, total_within}
use Rattle.pg_pairs.proofs.lemmas.bounds.Single.{single_length, single_broken}
use Rattle.pg_pairs.proofs.lemmas.bounds.Ways.{plain_across, map_across}
use Rattle.pg_pairs.proofs.lemmas.choices.Among.{among_each}
use Rattle.pg_pairs.proofs.lemmas.choices.Meetings.{news}
use Rattle.pg_pairs.proofs.lemmas.gaps.GapItems.{IsLeafy, implicit_leafy, leafy_like}
use Rattle.pg_pairs.proofs.lemmas.gaps.Zeros.{zero_kept}
use Rattle.pg_pairs.proofs.lemmas.views.NameLaws.{among_filter, filter_among}
use Rattle.pg_pairs.proofs.lemmas.witness.carried.CarriedItems.{leaf_or_message}

-- What of a field's content isn't read as itself.

abbrev pub SeenItem : View → Element → Element → Comparand → Type 0
SeenItem view e d c = (leaf : Leaf) → c.expected ≡ Alike leaf → is_seen view e d leaf ≡ true

pub record Misread (view : View) (e d : Element) (c : Comparand) : Type 0 where
  pub leaf : Leaf
  pub expected_is : c.expected ≡ Alike leaf
  pub unseen : is_seen view e d leaf ≡ false

seen_or : (view : View) (e d : Element) (c : Comparand) → SeenItem view e d c ⊎ Misread view e d c
seen_or view e d c = of c.expected refl
  where
    of : (x : Expected) → c.expected ≡ x → SeenItem view e d c ⊎ Misread view e d c
    of (Kept test) is = inl (λ leaf at. absurd (let no : Kept test ≡ Alike leaf = sym is ∙ at in cc))
    of (Alike leaf) is =
        ⊎_elim (λ seen. inl (λ other at. subst (λ l. is_seen view e d l ≡ true) (one leaf other (sym is ∙ at)) seen))
        (λ unseen. inr (record { leaf = leaf; expected_is = is; unseen = unseen })) (cases_Bool (is_seen view e d leaf))
      where
        one : (l m : Leaf) → Alike l ≡ Alike m → l ≡ m
        one l m same = cc

-- Some comparand of a list is so.
pub record Found (P : Comparand → Type 0) (cs : List Comparand) : Type 0 where
  pub comparand : Comparand
  pub among : IsAmong comparand cs
  pub is : P comparand

all_or_found : (P Q : Comparand → Type 0) → ((c : Comparand) → P c ⊎ Q c) → (cs : List Comparand) → AllByRecursion P cs ⊎ Found Q cs
all_or_found P Q decide [] = inl tt
all_or_found P Q decide (c ∷ cs) =
    ⊎_elim
    (λ yes. ⊎_elim (λ rest. inl (yes, rest)) (λ later. inr (record { comparand = later.comparand; among = inr later.among; is = later.is })) (all_or_found P Q decide cs))
    (λ no. inr (record { comparand = c; among = inl refl; is = no })) (decide c)

-- The content of fields that are no maps.
module _ (view : View) (child : Reader) (ps : List Pair) (number : ℕ) (e d : Element) (o r : Option ℕ) where
  abbrev pub old : Presence → FieldShape
  old p = record { number = number; presence = p; element = e; oneof = o }

  abbrev pub new : Presence → FieldShape
  new q = record { number = number; presence = q; element = d; oneof = r }

  -- each is shown
  abbrev pub Shown : Presence → Presence → Comparand → Type 0
  Shown p q c = (hides_zero (old p) (new q) && is_zero_expected c.expected) ≡ false

  abbrev IsKept : Presence → Presence → List Comparand → Type 0
  IsKept p q cs = is_field_kept view child (old p) (new q) cs ≡ true

  all_shown : (p q : Presence) → hides_zero (old p) (new q) ≡ false → (cs : List Comparand) → AllByRecursion (Shown p q) cs
  all_shown p q clear cs = each_of_all (Shown p q) (λ c. ap (λ b. b && is_zero_expected c.expected) clear) cs

  zero_leafy : (p : Presence) (c : Comparand) → Holds (old p) c → is_zero_expected c.expected ≡ true → IsLeafy e
  zero_leafy p c held zero = of (leaf_or_message e)
    where
      of : IsLeafy e ⊎ ((s : TypeId) × (e ≡ elements.Message s)) → IsLeafy e
      of (inl leafy) = leafy
      of (inr (s, is)) =
          let (bytes, test, w, so) = subst (λ x. HoldsItem x c) is held.item in
          absurd (let no : false ≡ true = sym (ap is_zero_expected so) ∙ zero in cc)

  zero_written : (p : Presence) (c : Comparand) → Holds (old p) c → is_zero_expected c.expected ≡ true → is_zero c.written ≡ true
  zero_written p c held zero = sym (ap is_zero_expected (leafy_item e c (zero_leafy p c held zero) held.item).1) ∙ zero

  -- each is shown, or all is kept
  pub shown_or : (p q : Presence) (cs : List Comparand) → PresenceFits q d r → AllByRecursion (Holds (old p)) cs → IsInOrder p cs → AllByRecursion (Shown p q) cs ⊎ IsKept p q cs
  shown_or (presences.Repeated w) q cs fits held order = inl (all_shown (presences.Repeated w) q refl cs)
  shown_or (presences.Map k) q cs fits held order = inl (all_shown (presences.Map k) q refl cs)
  shown_or presences.Explicit presences.Explicit cs fits held order = inl (all_shown presences.Explicit presences.Explicit refl cs)
  shown_or presences.Explicit (presences.Repeated w) cs fits held order = inl (all_shown presences.Explicit (presences.Repeated w) refl cs)
  shown_or presences.Explicit (presences.Map l) cs fits held order = inl (all_shown presences.Explicit (presences.Map l) refl cs)
  shown_or presences.Explicit presences.Implicit [] fits held order = inl tt
  shown_or presences.Explicit presences.Implicit (c ∷ c' ∷ rest) fits held order = absurd order
  shown_or presences.Explicit presences.Implicit (c ∷ []) fits held order =
      ⊎_elim
      (λ zero.
      let leafy = zero_leafy presences.Explicit c held.0 zero in
      let item = leafy_item e c leafy held.0.item in
      inr (zero_kept view child number e d o r (implicit_leafy d r fits) c item.1 item.0 (zero_written presences.Explicit c held.0 zero)))
      (λ shown. inl (shown, tt)) (cases_Bool (is_zero_expected c.expected))
  shown_or presences.Implicit q cs fits held order =
      inl (each_weaker (Holds (old presences.Implicit)) (Shown presences.Implicit q) (λ c h. and_right (hides_zero (old presences.Implicit) (new q)) (is_zero_expected c.expected) (nonzero c h)) cs held)
    where
      nonzero : (c : Comparand) → Holds (old presences.Implicit) c → is_zero_expected c.expected ≡ false
      nonzero c h =
          ⊎_elim (λ zero. absurd (let no : true ≡ false = sym (zero_written presences.Implicit c h zero) ∙ h.may_be_zero in cc)) (λ no. no)
          (cases_Bool (is_zero_expected c.expected))

  -- Where each is read as itself, all is kept, or it is a list where the new field has one item.
  module _ (is_like : like e d ≡ true) where
    keyless : (p : Presence) → IsNoMap p → (c : Comparand) → Holds (old p) c → c.key ≡ None
    keyless presences.Implicit no_map c h = h.key_fits
    keyless presences.Explicit no_map c h = h.key_fits
    keyless (presences.Repeated w) no_map c h = h.key_fits
    keyless (presences.Map k) no_map c h = absurd no_map

    across : (p q : Presence) → IsNoMap p → IsNoMap q → (cs : List Comparand) → AllByRecursion (Holds (old p)) cs → AllByRecursion (Seen view child (old p) (new q)) cs → AllByRecursion (λ (c : Comparand). MayBeZero q c.written) cs → (is_singular q ≡ true → IsAtMostOne cs) → (is_packed p ≡ true → (is_repeated q ≡ true) × (is_packable e ≡ true)) → IsKept p q cs
    across p q no_p no_q cs held seen may one packed =
        kept_across view child (old p) (new q) cs seen
        (plain_across view child number e d o r is_like p q no_p no_q cs seen (record {
          no_key = each_weaker (Holds (old p)) (λ (c : Comparand). c.key ≡ None) (keyless p no_p) cs held;
          may_be_zero = may;
          one = one;
          unpacked = λ is. (packed is).0;
          packable = λ is. (packed is).1;
        }))

    any : (cs : List Comparand) → AllByRecursion (λ (c : Comparand). ⊤) cs
    any cs = each_of_all (λ (c : Comparand). ⊤) (λ c. tt) cs

    never_zero : (cs : List Comparand) → AllByRecursion (Holds (old presences.Implicit)) cs → AllByRecursion (λ (c : Comparand). is_zero c.written ≡ false) cs
    never_zero cs held = each_weaker (Holds (old presences.Implicit)) (λ (c : Comparand). is_zero c.written ≡ false) (λ c h. h.may_be_zero) cs held

    shown_nonzero : PresenceFits presences.Implicit d r → (cs : List Comparand) → AllByRecursion (Holds (old presences.Explicit)) cs → AllByRecursion (Shown presences.Explicit presences.Implicit) cs → AllByRecursion (λ (c : Comparand). is_zero c.written ≡ false) cs
    shown_nonzero fits cs held shown =
        let leafy : IsLeafy e = leafy_like e d is_like (implicit_leafy d r fits) in
        each_weaker (λ c. Holds (old presences.Explicit) c × Shown presences.Explicit presences.Implicit c) (λ (c : Comparand). is_zero c.written ≡ false)
        (λ c h. sym (ap is_zero_expected (leafy_item e c leafy h.0.item).1) ∙ h.1) cs (each_both (Holds (old presences.Explicit)) (Shown presences.Explicit presences.Implicit) cs held shown)

    pub kept_or_list : (p q : Presence) → IsNoMap p → IsNoMap q → (cs : List Comparand) → PresenceFits p e o → PresenceFits q d r → AllByRecursion (Holds (old p)) cs → IsInOrder p cs → AllByRecursion (Shown p q) cs → AllByRecursion (Seen view child (old p) (new q)) cs → ((is_repeated p ≡ true) × (is_singular q ≡ true)) ⊎ IsKept p q cs
    kept_or_list (presences.Map k) q no_p no_q cs fits fits_new held order shown seen = absurd no_p
    kept_or_list p (presences.Map l) no_p no_q cs fits fits_new held order shown seen = absurd no_q
    kept_or_list (presences.Repeated w) presences.Implicit no_p no_q cs fits fits_new held order shown seen = inl (refl, refl)
    kept_or_list (presences.Repeated w) presences.Explicit no_p no_q cs fits fits_new held order shown seen = inl (refl, refl)
    kept_or_list presences.Implicit presences.Implicit no_p no_q cs fits fits_new held order shown seen =
        inr (across presences.Implicit presences.Implicit tt tt cs held seen (never_zero cs held) (λ s. order) (λ s. absurd (cc)))
    kept_or_list presences.Implicit presences.Explicit no_p no_q cs fits fits_new held order shown seen =
        inr (across presences.Implicit presences.Explicit tt tt cs held seen (any cs) (λ s. order) (λ s. absurd (cc)))
    kept_or_list presences.Implicit (presences.Repeated w) no_p no_q cs fits fits_new held order shown seen =
        inr (across presences.Implicit (presences.Repeated w) tt tt cs held seen (any cs) (λ s. absurd (cc)) (λ s. absurd (cc)))
    kept_or_list presences.Explicit presences.Implicit no_p no_q cs fits fits_new held order shown seen =
        inr (across presences.Explicit presences.Implicit tt tt cs held seen (shown_nonzero fits_new cs held shown) (λ s. order) (λ s. absurd (cc)))
    kept_or_list presences.Explicit presences.Explicit no_p no_q cs fits fits_new held order shown seen =
        inr (across presences.Explicit presences.Explicit tt tt cs held seen (any cs) (λ s. order) (λ s. absurd (cc)))
    kept_or_list presences.Explicit (presences.Repeated w) no_p no_q cs fits fits_new held order shown seen =
        inr (across presences.Explicit (presences.Repeated w) tt tt cs held seen (any cs) (λ s. absurd (cc)) (λ s. absurd (cc)))
    kept_or_list (presences.Repeated false) (presences.Repeated w) no_p no_q cs fits fits_new held order shown seen =
        inr (across (presences.Repeated false) (presences.Repeated w) tt tt cs held seen (any cs) (λ s. absurd (cc)) (λ s. absurd (cc)))
    kept_or_list (presences.Repeated true) (presences.Repeated w) no_p no_q cs fits fits_new held order shown seen =
        inr (across (presences.Repeated true) (presences.Repeated w) tt tt cs held seen (any cs) (λ s. absurd (cc)) (λ s. (refl, fits.1 refl)))

-- The entries of two maps whose keys and values are of one kind: all is kept, or some key or value isn't read as itself.
module _ (enum_view : EnumView) (law : IsEnumView enum_view) (child : Reader) (ps : List Pair) (number : ℕ) (e d : Element) (o r : Option ℕ) (k l : Scalar) (keys_like : like (elements.Scalar k) (elements.Scalar l) ≡ true) (is_like : like e d ≡ true) where
  abbrev f : FieldShape
  f = record { number = number; presence = presences.Map k; element = e; oneof = o }

  abbrev g : FieldShape
  g = record { number = number; presence = presences.Map l; element = d; oneof = r }

  abbrev pub SeenKey : Comparand → Type 0
  SeenKey c = is_seen enum_view.alike (elements.Scalar k) (elements.Scalar l) (key_of k (writes c)) ≡ true

  abbrev pub MisreadKey : Comparand → Type 0
  MisreadKey c = is_seen enum_view.alike (elements.Scalar k) (elements.Scalar l) (key_of k (writes c)) ≡ false

  pub entries_kept : (cs : List Comparand) → AllByRecursion (Holds f) cs → AllByRecursion (ChildBound (none_of ps) child e d) cs → RisingKeys k cs → total f cs < 2 ^ 64 → is_field_kept enum_view.alike child f g cs ≡ false → Found MisreadKey cs ⊎ Found (Misread enum_view.alike e d) cs
  entries_kept cs held bounds rising short broken =
      ⊎_elim
      (λ keys. ⊎_elim (λ values. absurd (let no : true ≡ false = sym (all_kept keys values) ∙ broken in cc)) (λ value. inr value)
      (all_or_found (SeenItem enum_view.alike e d) (Misread enum_view.alike e d) (seen_or enum_view.alike e d) cs))
      (λ key. inl key)
      (all_or_found SeenKey MisreadKey (λ c. cases_Bool (is_seen enum_view.alike (elements.Scalar k) (elements.Scalar l) (key_of k (writes c)))) cs)
    where
      all_kept : AllByRecursion SeenKey cs → AllByRecursion (SeenItem enum_view.alike e d) cs → is_field_kept enum_view.alike child f g cs ≡ true
      all_kept keys values =
          let entries : AllByRecursion (SeenEntry f k l) cs =
          each_weaker (λ c. (Holds f c × EntryCosts f k (total f cs) c) × SeenKey c) (SeenEntry f k l)
          (λ c h. key_seen enum_view law (none_of ps) child (λ n. ⊤) (λ m n le q. tt) number e d o r k l keys_like (total f cs) short c h.0.0 h.0.1 h.1) cs
          (each_both _ _ cs (each_both _ _ cs held (entry_costs child f k refl cs)) keys) in
          let seen : AllByRecursion (Seen enum_view.alike child f g) cs =
          each_weaker (λ c. (Holds f c × SeenItem enum_view.alike e d c) × ChildBound (none_of ps) child e d c) (Seen enum_view.alike child f g)
          (λ c h. seen_at enum_view.alike child ps f g e d is_like c h.0.0 h.0.1 h.1) cs (each_both _ _ cs (each_both _ _ cs held values) bounds) in
          kept_across enum_view.alike child f g cs seen (map_across enum_view.alike child number e d o r is_like k l keys_like cs seen entries rising)

-- One message that breaks.
module _ (enum_view : EnumView) (law : IsEnumView enum_view) (old new : Shape) (is_old : IsShape old) (is_new : IsShape new) (pair : Pair) (v : Message) (breaks : Breaks enum_view.alike old new pair.old pair.new v) (none : NoneBreaksInside enum_view old new pair v) where
  abbrev Goal : Type 0
  Goal = BreaksSomehow enum_view old new pair v

  abbrev ps : List Pair
  ps = children old new pair

  abbrev cs : List Comparand
  cs = comparands enum_view.alike old new pair.old pair.new v

  module _ (f g : FieldShape) (shared : IsShared old new pair f g) (content : IsContent (none_of (children old new pair)) (dec new) f g (comparands_at f.number (comparands enum_view.alike old new pair.old pair.new v)))
      (broken : is_field_kept enum_view.alike (dec new) f g (comparands_at f.number (comparands enum_view.alike old new pair.old pair.new v)) ≡ false) where
    abbrev own : List Comparand
    own = comparands_at f.number cs

    here : g ≡ record { number = f.number; presence = g.presence; element = g.element; oneof = g.oneof }
    here = λ i. record { number = content.numbers i; presence = g.presence; element = g.element; oneof = g.oneof }

    somehow : (case : Case) (part : ℕ) → BreaksBy enum_view.alike old new pair case part f g v → Goal
    somehow case part way = record { old_field = f; new_field = g; shared = shared; case = case; part = part; breaks = way }

    never_kept : {A : Type 0} → is_field_kept enum_view.alike (dec new) f (record { number = f.number; presence = g.presence; element = g.element; oneof = g.oneof }) own ≡ true → A
    never_kept kept = absurd (let no : true ≡ false = sym (subst (λ x. is_field_kept enum_view.alike (dec new) f x own ≡ true) (sym here) kept) ∙ broken in cc)

    shown : AllByRecursion (λ c. (hides_zero f g && is_zero_expected c.expected) ≡ false) own
    shown =
        ⊎_elim (λ all. all) (λ kept. never_kept kept)
        (shown_or enum_view.alike (dec new) ps f.number f.element g.element f.oneof g.oneof f.presence g.presence own content.fits_new content.holds content.in_order)

    -- an own comparand as a part of the message
    own_part : (c : Comparand) → IsAmong c own → IsOf c v
    own_part c among = part_of enum_view.alike old new pair.old pair.new v c (filter_among (λ (d : Comparand). nat_eq d.number f.number) c cs among).0

    own_number : (c : Comparand) → IsAmong c own → c.number ≡ f.number
    own_number c among = (among_each (Holds f) c own among content.holds).number_is

    held : (c : Comparand) (among : IsAmong c own) → HasItem f.number c.key (own_part c among).item v
    held c among = subst (λ n. HasItem n c.key (own_part c among).item v) (own_number c among) (own_part c among).held

    held_leaf : (c : Comparand) → IsAmong c own → (leaf : Leaf) → c.expected ≡ Alike leaf → HasItem f.number c.key (Plain leaf) v
    held_leaf c among leaf is = subst (λ item. HasItem f.number c.key item v) ((own_part c among).leaf_is leaf is) (held c among)

    is_shown_at : (c : Comparand) → IsAmong c own → (item : Item) → is_zero_expected c.expected ≡ is_zero_item item → is_shown f g item ≡ true
    is_shown_at c among item same = ap not (subst (λ b. (hides_zero f g && b) ≡ false) same (among_each (λ x. (hides_zero f g && is_zero_expected x.expected) ≡ false) c own among shown))

    -- some comparand is there
    something : {A : Type 0} → ((c : Comparand) → IsAmong c own → A) → A
    something {A} answer = of own refl
      where
        of : (xs : List Comparand) → own ≡ xs → A
        of [] is = absurd (let no : true ≡ false = sym (empty_kept enum_view.alike (dec new) f g) ∙ ap (is_field_kept enum_view.alike (dec new) f g) (sym is) ∙ broken in cc)
        of (c ∷ xs) is = answer c (subst (IsAmong c) (sym is) (inl refl))

    unlike : are_unlike f g ≡ true → Goal
    unlike h =
        something (λ c among.
        let part = own_part c among in
        somehow cases.Unlike 0 (record { unlike = h; key = c.key; item = part.item; held = held c among; shown = is_shown_at c among part.item part.zero_is }))

    misread : (c : Comparand) → IsAmong c own → Misread enum_view.alike f.element g.element c → HoldsMisread enum_view.alike f g v
    misread c among m = record {
      key = c.key;
      leaf = m.leaf;
      held = held_leaf c among m.leaf m.expected_is;
      shown = is_shown_at c among (Plain m.leaf) (ap is_zero_expected m.expected_is);
      misread = m.unseen;
    }

    maps : AreMaps f g → Goal
    maps m = ⊎_elim like_entries unlike_entries (cases_Bool (have_like_entries m))
      where
        unlike_entries : have_like_entries m ≡ false → Goal
        unlike_entries h =
            somehow cases.Map 0 (record { maps = m; unlike = h; held = held_at enum_view law old new is_old is_new pair.old pair.new f.number v (λ empty. something (λ c among. subst (IsAmong c) empty among)) })

        f_is : f ≡ record { number = f.number; presence = presences.Map m.old_key; element = f.element; oneof = f.oneof }
        f_is = λ i. record { number = f.number; presence = m.old_is i; element = f.element; oneof = f.oneof }

        g_is : g ≡ record { number = f.number; presence = presences.Map m.new_key; element = g.element; oneof = g.oneof }
        g_is = λ i. record { number = content.numbers i; presence = m.new_is i; element = g.element; oneof = g.oneof }

        like_entries : have_like_entries m ≡ true → Goal
        like_entries h =
            let (keys, values) = and_parts (like (elements.Scalar m.old_key) (elements.Scalar m.new_key)) (like f.element g.element) h in
            let has : has_children f.presence g.presence ≡ true = (λ i. has_children (m.old_is i) (m.new_is i)) ∙ keys in
            ⊎_elim
            (λ key.
            let c = key.comparand in
            let fits : KeyFits (presences.Map m.old_key) c.key = subst (λ p. KeyFits p c.key) m.old_is (among_each (Holds f) c own key.among content.holds).key_fits in
            let key_is = key_there enum_view law (none_of ps) (dec new) (λ n. ⊤) (λ a b le q. tt) f.number f.element g.element f.oneof g.oneof m.old_key c fits in
            somehow cases.Map 1 (record {
              maps = m;
              alike = h;
              key = key_of m.old_key (writes c);
              item = (own_part c key.among).item;
              held = subst (λ o. HasItem f.number o (own_part c key.among).item v) key_is (held c key.among);
              misread = key.is;
            }))
            (λ value. somehow cases.Map 2 (record { maps = m; alike = h; value = misread value.comparand value.among value.is }))
            (entries_kept enum_view law (dec new) ps f.number f.element g.element f.oneof g.oneof m.old_key m.new_key keys values own
            (subst (λ x. AllByRecursion (Holds x) own) f_is content.holds) (content.bounds has) (subst (λ p. IsInOrder p own) m.old_is content.in_order) (subst (λ x. total x own < 2 ^ 64) f_is content.short)
            (subst₂ (λ x y. is_field_kept enum_view.alike (dec new) x y own ≡ false) f_is g_is broken))

    -- a list alone
    alone : (is_repeated f.presence ≡ true) → is_singular g.presence ≡ true → are_alike f g ≡ true → AllByRecursion (SeenItem enum_view.alike f.element g.element) own → Goal
    alone list one h seen = somehow cases.List 0 (inl (record { alike = h; list = list; one = one; each = each; breaks = list_breaks }))
      where
        each : (key : Option Leaf) (item : Item) → HasItem f.number key item v → IsReadAsItself enum_view.alike old new f g item
        each key (Plain leaf) has =
            let c : Comparand = record { number = f.number; key = key; written = leaf; expected = Alike leaf } in
            let among = among_filter (λ (d : Comparand). nat_eq d.number f.number) c cs (leaf_there enum_view.alike old new pair.old pair.new f.number key leaf v has) (eq-eqb f.number f.number refl) in
            among_each (SeenItem enum_view.alike f.element g.element) c own among seen leaf refl
        each key (Msg child) has = λ p among inner. none f g shared p among key child has inner

        same : comparands enum_view.alike old new pair.old pair.new (only f.number v) ≡ own
        same = only_there enum_view.alike old new pair.old pair.new f.number v

        one_field : AllByRecursion (λ (c : Comparand). c.number ≡ f.number) (comparands enum_view.alike old new pair.old pair.new (only f.number v))
        one_field = subst (AllByRecursion (λ (c : Comparand). c.number ≡ f.number)) (sym same) (each_weaker (Holds f) (λ (c : Comparand). c.number ≡ f.number) (λ c h. h.number_is) own content.holds)

        is_message : IsMessage old pair.old (only f.number v)
        is_message = message_alone old pair.old f.number v breaks.is_message

        is_plain : IsPlain (only f.number v)
        is_plain = plain_alone f.number v breaks.is_plain

        short : length (enc old pair.old (only f.number v)) ≤ cap
        short =
            let long = single_length enum_view.alike old new is_old pair.old pair.new (only f.number v) f (unknown_is_kept.1 (only f.number v) is_plain) shared.old_field one_field in
            let within = total_within enum_view.alike old new is_old pair.old pair.new v breaks.is_message breaks.is_plain f shared.old_field in
            let whole = breaks.has_encoding in
            let own_total : total f (comparands enum_view.alike old new pair.old pair.new (only f.number v)) ≡ total f own = ap (total f) same in
            omega (arith, long, within, whole, own_total)

        list_breaks : Breaks enum_view.alike old new pair.old pair.new (only f.number v)
        list_breaks = record {
          is_message = is_message;
          is_plain = is_plain;
          has_encoding = short;
          not_kept = single_broken enum_view.alike old new is_old is_new pair.old pair.new (only f.number v) is_message is_plain short f g shared.old_field shared.new_field one_field
              (subst (λ xs. is_field_kept enum_view.alike (dec new) f g xs ≡ false) (sym same) broken);
        }

    alike : are_alike f g ≡ true → Goal
    alike h =
        ⊎_elim
        (λ seen.
        let read : AllByRecursion (Seen enum_view.alike (dec new) f (record { number = f.number; presence = g.presence; element = g.element; oneof = g.oneof })) own =
        each_weaker (λ c. (Holds f c × SeenItem enum_view.alike f.element g.element c) × ChildBound (none_of ps) (dec new) f.element g.element c)
        (Seen enum_view.alike (dec new) f (record { number = f.number; presence = g.presence; element = g.element; oneof = g.oneof }))
        (λ c x. seen_at enum_view.alike (dec new) ps f (record { number = f.number; presence = g.presence; element = g.element; oneof = g.oneof }) f.element g.element a.is_like c x.0.0 x.0.1 x.1) own
        (each_both _ _ own (each_both _ _ own content.holds seen) (content.bounds has)) in
        ⊎_elim (λ list. alone list.0 list.1 h seen) (λ kept. never_kept kept)
        (kept_or_list enum_view.alike (dec new) ps f.number f.element g.element f.oneof g.oneof a.is_like f.presence g.presence (keyed f.presence a.old_key) (keyed g.presence a.new_key) own content.fits_old content.fits_new content.holds content.in_order shown read))
        (λ m. somehow cases.Gap 0 (record { alike = h; item = misread m.comparand m.among m.is }))
        (all_or_found (SeenItem enum_view.alike f.element g.element) (Misread enum_view.alike f.element g.element) (seen_or enum_view.alike f.element g.element) own)
      where
        a : AreLike f g
        a = alike_parts f g h

        has : has_children f.presence g.presence ≡ true
        has = rw (a.old_key, a.new_key) refl

        keyed : (p : Presence) → map_key p ≡ None → IsNoMap p
        keyed presences.Implicit is = tt
        keyed presences.Explicit is = tt
        keyed (presences.Repeated w) is = tt
        keyed (presences.Map k) is = absurd (cc)

    pub at_field : Goal
    at_field = ⊎_elim unlike (λ others. ⊎_elim alike maps others) (kind_of f g)

  at_two : (f e : FieldShape) → Meets enum_view.alike old new is_old pair.old pair.new v breaks.is_message breaks.is_plain f e → Goal
  at_two f e m =
      let n = news (fields new pair.new) f e m.joined in
      record {
        old_field = f;
        new_field = n.first;
        shared = record { old_field = m.first; new_field = n.first_found };
        case = cases.Oneof;
        part = e.number;
        breaks = record {
          rise = m.rise;
          first_held = held_at enum_view law old new is_old is_new pair.old pair.new f.number v m.first_held;
          second_held = held_at enum_view law old new is_old is_new pair.old pair.new e.number v m.second_held;
          first_new = n.first;
          second_new = n.second;
          first_found = n.first_found;
          second_found = n.second_found;
          one_oneof = n.one;
        };
      }

  pub covered : Goal
  covered =
      some_breaks enum_view law old new is_old is_new (none_of ps) pair.old pair.new (all_there ps) v breaks.is_message breaks.is_plain breaks.has_encoding
      (claims_of enum_view law old new is_old is_new ps pair v none) Goal
      (λ f g found at content broken. at_field f g (record { old_field = found; new_field = at }) content broken) at_two breaks.not_kept

pub ways_cover : WaysCover
ways_cover enum_view old new law is_old is_new pair v breaks none = covered enum_view law old new is_old is_new pair v breaks none
