-- A table that covers a pair bounds its breaking messages.
use Rattle.std.proofs.Common.{option_to_list, ◌≡◌, ℕ, ◌+◌, ◌≤◌, List, [], ◌++◌, length, Bool, true, false, nat_eq, Option, Some, None, is_some, ◌⊎◌, inl, inr, ⊎_elim, refl, ap, ap₂, sym, ◌∙◌, subst, arith, eqb-true, rules}
use Rattle.std.specs.Bool.{⊤}
use Rattle.std.specs.List.{AllByRecursion}
use Rattle.std.proofs.lemmas.Bool.{cases_Bool, leb-false}
use Rattle.pg_schema.specs.declared.parts.field.TypeId.{TypeId}
use Rattle.pg_schema.specs.declared.parts.field.Element.{Element}
use Rattle.pg_schema.specs.declared.parts.field.Element.TheVariants as elements
use Rattle.pg_schema.specs.Shape.{Shape, FieldShape, fields, field_at}
use Rattle.pg_schema.specs.ShapeRules.{IsType, IsShape}
use Rattle.pg_dyn.specs.message.Message.{Bytes, Message, ends, holds, nests, IsPlain, unknown_of}
use Rattle.pg_dyn.specs.reading.Content.{is_sibling}
use Rattle.pg_dyn.specs.encoding.Writing.{records_in, bytes_of}
use Rattle.pg_dyn.specs.encoding.Encoding.{child_type, encoded_parts, enc, cap}
use Rattle.pg_dyn.specs.reading.Decoding.{dec}
use Rattle.pg_dyn.specs.fitting.Belonging.{IsMessage}
use Rattle.pg_dyn.specs.views.Comparison.{same_message, unshared_bytes, expected, Kept, Comparand, comparands}
use Rattle.pg_dyn.specs.views.Breaking.{is_kept, Breaks}
use Rattle.pg_dyn.proofs.Lists.{each_weaker, each_of_all, each-filter, each_at, each_unfiltered}
use Rattle.pg_dyn.specs.laws.OwnParts.{ChildrenShorter}
use Rattle.pg_pairs.specs.declared.choices.choice.Choice.{Choice}
use Rattle.pg_pairs.specs.declared.choices.choice.Pair.{Pair}
use Rattle.pg_pairs.specs.views.EnumView.{EnumView}
use Rattle.pg_pairs.specs.views.ViewLaws.{IsEnumView}
use Rattle.pg_pairs.specs.choices.Costs.{least_content}
use Rattle.pg_pairs.specs.choices.Choices.{child_pair, Table, number_for, all_choices}
use Rattle.pg_pairs.specs.bounds.Covering.{IsWithin, IsThere, IsCovered, children, has_children}
use Rattle.pg_dyn.specs.laws.ByComparands.{comparands_at, is_field_kept}
use Rattle.pg_pairs.specs.inner.Contents.{total, is_child_kept, ChildBound, IsContent}
use Rattle.pg_pairs.proofs.lemmas.bounds.ChildTests.{bytes_are, children_are, kept_is}
use Rattle.pg_pairs.proofs.lemmas.bounds.Decisions.{each_or}
use Rattle.pg_pairs.proofs.lemmas.bounds.OneField.{one_field}
use Rattle.pg_pairs.proofs.lemmas.bounds.Messages.{one_found}
use Rattle.pg_pairs.proofs.lemmas.bounds.OneMessage.{Meets, field_fits, holds_at, none_meet_or, order_at, total_within}
use Rattle.pg_pairs.proofs.lemmas.bounds.Single.{field_broken}
use Rattle.pg_pairs.proofs.lemmas.choices.Choosing.{field_allowed, joined_allowed, children_allowed}
use Rattle.pg_pairs.specs.bounds.Laws.{CoveringBounds, NoneIsCompatible}
use Rattle.pg_dyn.proofs.PublicLaws.{children_are_shorter, fields_are_found, kept_by_comparands}

-- What a bound says of lengths that an encoding may have.
abbrev Reaches : Option ℕ → ℕ → Type 0
Reaches bound n = n ≤ cap → IsWithin bound n

within_up : (bound : Option ℕ) (m n : ℕ) → m ≤ n → IsWithin bound m → IsWithin bound n
within_up (Some x) m n le h = omega arith
within_up None m n le h = h

reaches_up : (bound : Option ℕ) (m n : ℕ) → m ≤ n → Reaches bound m → Reaches bound n
reaches_up bound m n le h small = within_up bound m n le (h (omega arith))

-- the bound of a pair that is there
there_bound : (table : Table) (pair : Pair) → IsThere table pair → (bound : Option ℕ) × (table pair ≡ Some bound)
there_bound table pair h = search (rules, is_some)

module _ (enum_view : EnumView) (law : IsEnumView enum_view) (old new : Shape) (shape_old : IsShape old) (shape_new : IsShape new) (table : Table) where
  abbrev pub pair_of : TypeId → TypeId → Pair
  pair_of a b = record { old = a; new = b }

  -- The claim for one message.
  abbrev pub Claim : Message → Type 0
  Claim v =
      (a b : TypeId) (bound : Option ℕ) → table (pair_of a b) ≡ Some bound → IsMessage old a v → IsPlain v → length (enc old a v) ≤ cap →
      is_kept enum_view.alike old new a b v ≡ false → IsWithin bound (length (enc old a v))

  -- for one message by one pair
  abbrev pub ClaimAt : TypeId → TypeId → Message → Type 0
  ClaimAt a b v =
      (bound : Option ℕ) → table (pair_of a b) ≡ Some bound → IsMessage old a v → IsPlain v → length (enc old a v) ≤ cap →
      is_kept enum_view.alike old new a b v ≡ false → IsWithin bound (length (enc old a v))

  -- for a child by its field's pair
  abbrev pub ClaimIn : TypeId → TypeId → ℕ → Message → Type 0
  ClaimIn a b number child =
      (f g : FieldShape) (s t : TypeId) → field_at (fields old a) number ≡ Some f → field_at (fields new b) number ≡ Some g →
      has_children f.presence g.presence ≡ true → f.element ≡ elements.Message s → g.element ≡ elements.Message t → ClaimAt s t child

  -- the claim for each child
  abbrev pub Claims : TypeId → TypeId → Message → Type 0
  Claims a b (ends unknown) = ⊤
  Claims a b (holds number key leaf later) = Claims a b later
  Claims a b (nests number key child later) = ClaimIn a b number child × Claims a b later

  -- A child that isn't kept is at least as long as its pair's bound.

  one_child : (s t : TypeId) (child : Message) → IsThere table (pair_of s t) → ClaimAt s t child → IsMessage old s child → IsPlain child → length (enc old s child) ≤ cap → is_kept enum_view.alike old new s t child ≡ false → (x : ℕ) × (number_for table (pair_of s t) ≡ Some x) × (x ≤ length (enc old s child))
  one_child s t child there claim is plain small broken = of (there_bound table (pair_of s t) there)
    where
      of : (bound : Option ℕ) × (table (pair_of s t) ≡ Some bound) → (x : ℕ) × (number_for table (pair_of s t) ≡ Some x) × (x ≤ length (enc old s child))
      of (Some x, e) = (x, rw e, claim (Some x) e is plain small broken)
      of (None, e) = absurd (claim None e is plain small broken)

  module _ (a b : TypeId) (f g : FieldShape) (s t : TypeId) (is_old : f.element ≡ elements.Message s) (is_new : g.element ≡ elements.Message t)
      (n : ℕ) (found_old : field_at (fields old a) n ≡ Some f) (found_new : field_at (fields new b) n ≡ Some g) (has : has_children f.presence g.presence ≡ true) (there : IsThere table (pair_of s t)) where
    abbrev Bounded : Comparand → Type 0
    Bounded c =
        (bytes : List ℕ) (test : Message → Bool) → c.written ≡ Bytes bytes → c.expected ≡ Kept test → is_child_kept (dec new) t test bytes
        ≡ false →
        (x : ℕ) × (number_for table (pair_of s t) ≡ Some x) × (x ≤ length bytes)

    -- at the field's own types
    literal_bounded : (child : Message) → ClaimAt s t child → IsMessage old s child → IsPlain child → length (enc old s child) ≤ cap → (bytes : List ℕ) (test : Message → Bool) → bytes_of (records_in (fields old s) (encoded_parts old s child)) ++ bytes_of (unknown_of child) ≡ bytes → same_message enum_view.alike (fields old s) (fields new t) (expected enum_view.alike old new s t child) (unshared_bytes old s (fields new t) child) ≡ test → is_child_kept (dec new) t test bytes ≡ false → (x : ℕ) × (number_for table (pair_of s t) ≡ Some x) × (x ≤ length bytes)
    literal_bounded child claim is plain small bytes test w so broken =
        let (x, found, below) = one_child s t child there claim is plain small (sym (kept_is enum_view.alike old new s t child) ∙ ap₂ (λ p q. is_child_kept (dec new) t p q) so w ∙ broken) in
        (x, found, subst (λ q. x ≤ length q) (sym (bytes_are old s child) ∙ w) below)

    of_the_type : (number : ℕ) (h : FieldShape) (u : TypeId) → number ≡ n → field_at (fields old a) number ≡ Some h → h.element ≡ elements.Message u → u ≡ s
    of_the_type number h u at found is = search (rules, one_found)

    each_bounded : (m : ℕ) → m ≤ cap → (v : Message) → IsMessage old a v → IsPlain v → ChildrenShorter old a m v → Claims a b v → AllByRecursion (λ c. c.number ≡ n → Bounded c) (comparands enum_view.alike old new a b v)
    each_bounded m small (ends unknown) h plain shorter claims = tt
    each_bounded m small (holds number key leaf later) h plain shorter claims =
        ((λ at bytes test w so broken. absurd (cc)), each_bounded m small later h.2 plain shorter claims)
    each_bounded m small (nests number key child later) h plain shorter claims = (
      (λ at bytes test w so broken.
          let old_is : child_type (fields old a) number ≡ s = fields_are_found.3 (fields old a) number f s (ap (field_at (fields old a)) at ∙ found_old) is_old in
          let new_is : child_type (fields new b) number ≡ t = fields_are_found.3 (fields new b) number g t (ap (field_at (fields new b)) at ∙ found_new) is_new in
          let is : IsMessage old s child = subst (λ u. IsMessage old u child) (of_the_type number h.0.field h.1 at h.0.found h.2) h.3 in
          let short : length (enc old s child) ≤ cap = subst (λ u. length (enc old u child) ≤ cap) old_is (let below = shorter.0 in omega arith) in
          literal_bounded child (claims.0 f g s t (ap (field_at (fields old a)) at ∙ found_old) (ap (field_at (fields new b)) at ∙ found_new) has is_old is_new) is plain.0 short bytes test
          (ap (λ u. bytes_of (records_in (fields old u) (encoded_parts old u child)) ++ bytes_of (unknown_of child)) (sym old_is) ∙ (cc))
          (ap₂ (λ u w'. same_message enum_view.alike (fields old u) (fields new w') (expected enum_view.alike old new u w' child) (unshared_bytes old u (fields new w') child)) (sym old_is) (sym new_is) ∙ (cc))
          broken),
      each_bounded m small later h.4 plain.1 shorter.1 claims.1,
    )

  -- the children of one field
  bound_comparands : (a b : TypeId) (f g : FieldShape) (n m : ℕ) → field_at (fields old a) n ≡ Some f → field_at (fields new b) n ≡ Some g → m ≤ cap → (v : Message) → IsMessage old a v → IsPlain v → ChildrenShorter old a m v → Claims a b v → has_children f.presence g.presence ≡ true → (e d : Element) → f.element ≡ e → g.element ≡ d → AllByRecursion (IsThere table) (option_to_list (child_pair e d)) → AllByRecursion (ChildBound table (dec new) e d) (comparands_at n (comparands enum_view.alike old new a b v))
  bound_comparands a b f g n m found_old found_new small v h plain shorter claims has (elements.Message s) (elements.Message t) is_old is_new there =
      let inside : AllByRecursion (λ c. (c.number ≡ n → Bounded a b f g s t is_old is_new n found_old found_new has there.0 c) × (nat_eq c.number n ≡ true)) (comparands_at n (comparands enum_view.alike old new a b v)) =
      each-filter (λ c. c.number ≡ n → Bounded a b f g s t is_old is_new n found_old found_new has there.0 c) (λ c. nat_eq c.number n) (comparands enum_view.alike old new a b v)
      (each_bounded a b f g s t is_old is_new n found_old found_new has there.0 m small v h plain shorter claims) in
      each_weaker (λ c. (c.number ≡ n → Bounded a b f g s t is_old is_new n found_old found_new has there.0 c) × (nat_eq c.number n ≡ true)) (ChildBound table (dec new) (elements.Message s) (elements.Message t))
      (λ c k. k.0 (eqb-true c.number n k.1)) (comparands_at n (comparands enum_view.alike old new a b v)) inside
  bound_comparands a b f g n m found_old found_new small v h plain shorter claims has (elements.Message s) (elements.Scalar t) is_old is_new there = each_of_all _ (λ c. tt) _
  bound_comparands a b f g n m found_old found_new small v h plain shorter claims has (elements.Message s) (elements.Enum t) is_old is_new there = each_of_all _ (λ c. tt) _
  bound_comparands a b f g n m found_old found_new small v h plain shorter claims has (elements.Scalar s) d is_old is_new there = each_of_all _ (λ c. tt) _
  bound_comparands a b f g n m found_old found_new small v h plain shorter claims has (elements.Enum s) d is_old is_new there = each_of_all _ (λ c. tt) _

  -- One message, whose children's claims are known.
  module _ (a b : TypeId) (there : AllByRecursion (IsThere table) (children old new (pair_of a b))) (v : Message) (is : IsMessage old a v) (plain : IsPlain v) (small : length (enc old a v) ≤ cap) (claims : Claims a b v) where
    abbrev fs : List FieldShape
    fs = fields old a

    abbrev gs : List FieldShape
    gs = fields new b

    abbrev cs : List Comparand
    cs = comparands enum_view.alike old new a b v

    type_old : IsType (length old) fs
    type_old = fields_are_found.0 old a shape_old

    type_new : IsType (length new) gs
    type_new = fields_are_found.0 new b shape_new

    within_whole : (f : FieldShape) → field_at fs f.number ≡ Some f → total f (comparands_at f.number cs) ≤ length (enc old a v)
    within_whole = total_within enum_view.alike old new shape_old a b v is plain

    shorter : ChildrenShorter old a (length (enc old a v)) v
    shorter = children_are_shorter old a v shape_old is (omega arith)

    pub content_of : (f g : FieldShape) → field_at fs f.number ≡ Some f → field_at gs f.number ≡ Some g → IsContent table (dec new) f g (comparands_at f.number cs)
    content_of f g found at = record {
      numbers = fields_are_found.1 gs f.number g at;
      fits_old = field_fits old shape_old a f.number f found;
      fits_new = field_fits new shape_new b f.number g at;
      holds = holds_at enum_view.alike old new shape_old a b v is plain f found;
      in_order = order_at enum_view.alike old new shape_old a b v is plain f found;
      bounds = λ has.
          bound_comparands a b f g f.number (length (enc old a v)) found at small v is plain shorter claims has f.element g.element refl refl
          (subst (AllByRecursion (IsThere table)) (children_are f g has)
          (children_allowed (IsThere table) gs fs f.number f g found at there));
      short = let le = within_whole f found in omega arith;
    }

    -- each field alone is kept
    abbrev FineAt : FieldShape → Type 0
    FineAt f = (g : FieldShape) → field_at gs f.number ≡ Some g → is_field_kept enum_view.alike (dec new) f g (comparands_at f.number cs)
        ≡ true

    -- no two meet in a new oneof
    abbrev Apart : FieldShape → FieldShape → Type 0
    Apart g h = is_sibling g h ≡ true → (comparands_at g.number cs ≡ []) ⊎ (comparands_at h.number cs ≡ [])

    -- where all are fine and apart, the message is kept
    kept : AllByRecursion FineAt fs → AllByRecursion (λ g. AllByRecursion (Apart g) gs) gs → is_kept enum_view.alike old new a b v ≡ true
    kept fine apart =
        (kept_by_comparands enum_view.alike old new a b v shape_old shape_new is plain small
        (λ g h at_g at_h. each_at (Apart g) gs h.number h at_h (each_at (λ x. AllByRecursion (Apart x) gs) gs g.number g at_g apart))).1
        (λ f g found at. each_at FineAt fs f.number f found fine g at)

    -- What follows of a field that isn't kept, and of two that meet, follows of a message that isn't.
    module _ (Goal : Type 0) (at_field : (f g : FieldShape) → field_at fs f.number ≡ Some f → field_at gs f.number ≡ Some g → IsContent table (dec new) f g (comparands_at f.number cs) → is_field_kept enum_view.alike (dec new) f g (comparands_at f.number cs) ≡ false → Goal)
        (at_two : (f e : FieldShape) → Meets enum_view.alike old new shape_old a b v is plain f e → Goal) where
      fine_or : (f : FieldShape) → field_at fs f.number ≡ Some f → FineAt f ⊎ Goal
      fine_or f found = of (field_at gs f.number) refl
        where
          of : (o : Option FieldShape) → field_at gs f.number ≡ o → FineAt f ⊎ Goal
          of None e = inl (λ g at. let no : ◌≡◌ {A = Option FieldShape} None (Some g) = sym e ∙ at in absurd (cc))
          of (Some g) e =
              ⊎_elim
              (λ kept. inl (λ h at. subst (λ x. is_field_kept enum_view.alike (dec new) f x (comparands_at f.number cs) ≡ true) (one_found gs f.number g h e at) kept))
              (λ broken. inr (at_field f g found e (content_of f g found e) broken))
              (cases_Bool (is_field_kept enum_view.alike (dec new) f g (comparands_at f.number cs)))

      apart_or : (g h : FieldShape) → field_at gs g.number ≡ Some g → field_at gs h.number ≡ Some h → Apart g h ⊎ Goal
      apart_or g h at_g at_h =
          ⊎_elim
          (λ sibling.
          ⊎_elim (λ none. inl (λ again. none)) (λ goal. inr goal)
          (none_meet_or enum_view.alike old new shape_old a b v is plain Goal at_two g h at_g at_h sibling))
          (λ no_sibling. inl (λ sibling. absurd (cc)))
          (cases_Bool (is_sibling g h))

      all_fine : AllByRecursion FineAt fs ⊎ Goal
      all_fine = each_or FineAt Goal fs (each_weaker (λ f. field_at fs f.number ≡ Some f) (λ f. FineAt f ⊎ Goal) fine_or fs (fields_are_found.2 fs type_old.rising))

      all_apart : AllByRecursion (λ g. AllByRecursion (Apart g) gs) gs ⊎ Goal
      all_apart =
          each_or (λ g. AllByRecursion (Apart g) gs) Goal gs
          (each_weaker (λ g. field_at gs g.number ≡ Some g) (λ g. AllByRecursion (Apart g) gs ⊎ Goal)
          (λ g at_g. each_or (Apart g) Goal gs (each_weaker (λ h. field_at gs h.number ≡ Some h) (λ h. Apart g h ⊎ Goal) (λ h at_h. apart_or g h at_g at_h) gs (fields_are_found.2 gs type_new.rising)))
          gs (fields_are_found.2 gs type_new.rising))

      pub some_breaks : is_kept enum_view.alike old new a b v ≡ false → Goal
      some_breaks broken = search (rules, kept, all_apart, all_fine)

  -- Where each pair that is there is covered, a message that breaks has at least the bytes of its pair's bound.
  module _ (covered : (pair : Pair) (bound : Option ℕ) → table pair ≡ Some bound → IsCovered enum_view old new table pair bound) where
    module _ (a b : TypeId) (bound : Option ℕ) (there : table (pair_of a b) ≡ Some bound) (v : Message) (is : IsMessage old a v) (plain : IsPlain v) (small : length (enc old a v) ≤ cap) (claims : Claims a b v) where
      allowed : AllByRecursion (λ (c : Choice). Reaches bound c.cost) (all_choices enum_view table (fields new b) (fields old a))
      allowed = search (rules, each_unfiltered, leb-false, each_weaker)

      goal_from : (n : ℕ) → n ≤ length (enc old a v) → Reaches bound n → IsWithin bound (length (enc old a v))
      goal_from n le h = within_up bound n (length (enc old a v)) le (h (omega arith))

      one_message : is_kept enum_view.alike old new a b v ≡ false → IsWithin bound (length (enc old a v))
      one_message =
          some_breaks a b (covered (pair_of a b) bound there).children_there v is plain small claims (IsWithin bound (length (enc old a v)))
          (λ f g found at content broken.
          goal_from (total f (comparands_at f.number (comparands enum_view.alike old new a b v))) (total_within enum_view.alike old new shape_old a b v is plain f found)
          (one_field enum_view law table (dec new) (Reaches bound) (reaches_up bound) f g (comparands_at f.number (comparands enum_view.alike old new a b v)) content broken
          (field_allowed (λ (c : Choice). Reaches bound c.cost) enum_view table (fields new b) (fields old a) f.number f g found at allowed)))
          (λ f e matches.
          goal_from (least_content f + least_content e) matches.cheap
          (joined_allowed (λ (x : Choice). Reaches bound x.cost) enum_view table (fields new b) (fields old a) (fields_are_found.0 old a shape_old).rising f.number e.number f e matches.first matches.second matches.rise matches.joined allowed))

    -- By induction over messages.

    all_claims : (v : Message) (a b : TypeId) → Claims a b v
    all_claims (ends unknown) a b = tt
    all_claims (holds number key leaf later) a b = all_claims later a b
    all_claims (nests number key child later) a b = (
      (λ f g s t found_old found_new has is_old is_new bound there is plain small broken. one_message s t bound there child is plain small (all_claims child s t) broken),
      all_claims later a b,
    )

    claim_of : (v : Message) → Claim v
    claim_of v a b bound there is plain small broken = one_message a b bound there v is plain small (all_claims v a b) broken

-- where each pair that is there is covered
pub each_bounded_by : (enum_view : EnumView) → IsEnumView enum_view → (old new : Shape) → IsShape old → IsShape new → (table : Table) → ((pair : Pair) (bound : Option ℕ) → table pair ≡ Some bound → IsCovered enum_view old new table pair bound) → (pair : Pair) (bound : Option ℕ) → table pair ≡ Some bound → (v : Message) → Breaks enum_view.alike old new pair.old pair.new v → IsWithin bound (length (enc old pair.old v))
each_bounded_by enum_view law old new shape_old shape_new table covered pair bound there v breaks =
    claim_of enum_view law old new shape_old shape_new table covered v pair.old pair.new bound there
    breaks.is_message breaks.is_plain breaks.has_encoding breaks.not_kept

-- what is known of a field's content that breaks and is all that the message has
pub alone_breaks : (enum_view : EnumView) → IsEnumView enum_view → (old new : Shape) → IsShape old → IsShape new → (table : Table) → ((pair : Pair) (bound : Option ℕ) → table pair ≡ Some bound → IsCovered enum_view old new table pair bound) → (pair : Pair) (bound : Option ℕ) → table pair ≡ Some bound → (f g : FieldShape) → field_at (fields old pair.old) f.number ≡ Some f → field_at (fields new pair.new) f.number ≡ Some g → (v : Message) → AllByRecursion (λ (c : Comparand). c.number ≡ f.number) (comparands enum_view.alike old new pair.old pair.new v) → Breaks enum_view.alike old new pair.old pair.new v → IsContent table (dec new) f g (comparands_at f.number (comparands enum_view.alike old new pair.old pair.new v)) × (is_field_kept enum_view.alike (dec new) f g (comparands_at f.number (comparands enum_view.alike old new pair.old pair.new v)) ≡ false) × (total f (comparands_at f.number (comparands enum_view.alike old new pair.old pair.new v)) ≤ length (enc old pair.old v))
alone_breaks enum_view law old new shape_old shape_new table covered pair bound there f g found at v one breaks =
    let content = content_of enum_view law old new shape_old shape_new table pair.old pair.new (covered pair bound there).children_there v breaks.is_message breaks.is_plain breaks.has_encoding (all_claims enum_view law old new shape_old shape_new table covered v pair.old pair.new) f g found at in
    search (rules, content, field_broken, total_within)

pub covering_bounds : CoveringBounds
covering_bounds enum_view old new table root law shape_old shape_new covers = each_bounded_by enum_view law old new shape_old shape_new table covers.each

pub none_is_compatible : NoneIsCompatible
none_is_compatible enum_view old new table root law shape_old shape_new covers pair none v breaks =
    covering_bounds enum_view old new table root law shape_old shape_new covers pair None none v breaks
